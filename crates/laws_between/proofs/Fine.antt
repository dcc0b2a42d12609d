-- What steps keep besides charge and text: sets, code elements, macros and marks; and that each way to write keeps it. Assumes nothing.
use Prim.Native.Nat.{ℕ, ◌≤◌, ◌<◌}
use mathlib.Core.Path.{◌≡◌, ◌∙◌}
use mathlib.Core.Bool.{Bool, true}
use mathlib.Core.List.{List, [], ◌∷◌}
use lib.ListN.{length, length-set}
use Rattle.base.specs.Lists.{All}
use Rattle.base.proofs.Every.{all_append, all_set}
use Rattle.tables.specs.Kanji.{non_spacing, has_character}
use Rattle.issues.specs.declared.IssueKind.{IssueKind}
use Rattle.decode_output.specs.Output.{Output, emit, mark, report, release_of, newline, set_repeat}
use Rattle.reading.specs.State.{State, writes, issue, placeholder, designate, invoke_gl, invoke_gr, resize, charge}
use Rattle.laws_between.proofs.Defining.{Macros}

-- each is one of the seven marks
abbrev pub Marks : List ℕ → Type 0
Marks ms = All (λ m. has_character non_spacing m ≡ true) ms

pub record Fine (input : List ℕ) (s : State) : Type 0 where
  pub four : length s.sets ≡ 4
  pub sets : All (λ n. n ≤ 31) s.sets
  pub gl : s.gl < 4
  pub gr : s.gr < 4
  pub macros : Macros input s.starts s.lens
  pub marks : Marks s.out.marks

module _ {input : List ℕ} {s : State} (k : Fine input s) where
  -- ---- the settings

  pub sized : (b : Bool) → Fine input (resize b s)
  unfolding resize
  sized b = record { four = k.four; sets = k.sets; gl = k.gl; gr = k.gr; macros = k.macros; marks = k.marks }

  pub charged : (n : ℕ) → Fine input (charge n s)
  unfolding charge
  charged n = record { four = k.four; sets = k.sets; gl = k.gl; gr = k.gr; macros = k.macros; marks = k.marks }

  pub invoked_left : (n : ℕ) → n < 4 → Fine input (invoke_gl n s)
  unfolding invoke_gl
  invoked_left n h = record { four = k.four; sets = k.sets; gl = h; gr = k.gr; macros = k.macros; marks = k.marks }

  pub invoked_right : (n : ℕ) → n < 4 → Fine input (invoke_gr n s)
  unfolding invoke_gr
  invoked_right n h = record { four = k.four; sets = k.sets; gl = k.gl; gr = h; macros = k.macros; marks = k.marks }

  pub designates : (element number : ℕ) → number ≤ 31 → Fine input (designate element number s)
  unfolding designate
  designates element number h =
      record {
        four = length-set s.sets element number ∙ k.four;
        sets = all_set (λ n. n ≤ 31) s.sets element number k.sets h;
        gl = k.gl;
        gr = k.gr;
        macros = k.macros;
        marks = k.marks;
      }

  -- ---- what is written

  written : (f : Output → Output) → Marks (f s.out).marks → Fine input (writes f s)
  unfolding writes
  written f h = record { four = k.four; sets = k.sets; gl = k.gl; gr = k.gr; macros = k.macros; marks = h }

  pub emits : (c : ℕ) → Fine input (writes (emit c) s)
  unfolding emit
  emits c = written (emit c) tt

  pub marked : (m at : ℕ) → has_character non_spacing m ≡ true → Fine input (writes (mark m at) s)
  unfolding mark
  marked m at h = written (mark m at) (all_append (λ n. has_character non_spacing n ≡ true) s.out.marks (m ∷ []) k.marks (h, tt))

  pub issued : (at : ℕ) (kind : IssueKind) → Fine input (issue at kind s)
  unfolding issue
  issued at kind = written (report at kind) k.marks

  pub repeats : (n : ℕ) → Fine input (writes (set_repeat n) s)
  unfolding set_repeat
  repeats n = written (set_repeat n) k.marks

  pub newlines : Fine input (writes newline s)
  unfolding newline
  newlines = written newline (go s.out.marks)
    where
      go : (ms : List ℕ) → Marks (release_of ms s.out).marks
      go [] = k.marks
      go (m ∷ ms) = tt

pub placed : {input : List ℕ} {s : State} → Fine input s → (at : ℕ) (kind : IssueKind) → Fine input (placeholder at kind s)
unfolding placeholder issue
placed k at kind = emits (issued k at kind) 0xFFFD
