-- The ways to write. Assumes nothing.
use mathlib.Core.List.{List, [], ◌∷◌}
use Prim.Native.Nat.{ℕ}
use lib.Dec.{T}
use lib.ListN.{replicate}
use Rattle.utf8.specs.Utf8.{is_scalar, are_scalars}
use Rattle.issues.specs.declared.IssueKind.{IssueKind}
use Rattle.decode_output.specs.Output.{times, emit, mark, report, release, release_of, newline, set_repeat}
use Rattle.reading.specs.State.{State, writes, issue, placeholder}
use Rattle.laws_scalars.proofs.Characters.{scalars_append, scalars_replicate, both}

-- what was written and what waits is of scalars
pub record OfScalars (s : State) : Type 0 where
  pub text : T (are_scalars s.out.text)
  pub marks : T (are_scalars s.out.marks)

one : (c : ℕ) → T (is_scalar c) → T (are_scalars (c ∷ []))
unfolding are_scalars
one c h = both (is_scalar c) (are_scalars []) h tt

module _ (s : State) (g : OfScalars s) where
  pub emits : (c : ℕ) → T (is_scalar c) → OfScalars (writes (emit c) s)
  unfolding writes emit are_scalars
  emits c h =
      record {
        text = scalars_append s.out.text _ g.text
            (scalars_append (replicate (times s.out.repeat) c) s.out.marks (scalars_replicate (times s.out.repeat) c h) g.marks);
        marks = tt;
      }

  pub marked : (m at : ℕ) → T (is_scalar m) → OfScalars (writes (mark m at) s)
  unfolding writes mark
  marked m at h = record { text = g.text; marks = scalars_append s.out.marks (m ∷ []) g.marks (one m h) }

  pub issued : (at : ℕ) (kind : IssueKind) → OfScalars (issue at kind s)
  unfolding issue
  issued at kind = record { text = g.text; marks = g.marks }

  pub repeats : (n : ℕ) → OfScalars (writes (set_repeat n) s)
  unfolding writes set_repeat
  repeats n = record { text = g.text; marks = g.marks }

  pub releases : OfScalars (writes release s)
  unfolding writes release release_of report are_scalars
  releases = go s.out.marks g.marks
    where
      go : (ms : List ℕ) → T (are_scalars ms) → OfScalars (writes (release_of ms) s)
      go [] h = g
      go (m ∷ ms) h = record { text = scalars_append s.out.text (m ∷ ms) g.text h; marks = tt }

pub placed : (s : State) → OfScalars s → (at : ℕ) (kind : IssueKind) → OfScalars (placeholder at kind s)
unfolding placeholder is_scalar issue
placed s g at kind = emits (issue at kind s) (issued s g at kind) 0xFFFD tt

pub newlines : (s : State) → OfScalars s → OfScalars (writes newline s)
unfolding writes newline is_scalar
newlines s g = let r = releases s g in record { text = scalars_append _ (0x0A ∷ []) r.text (one 0x0A tt); marks = r.marks }
