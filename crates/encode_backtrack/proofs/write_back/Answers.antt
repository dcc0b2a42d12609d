-- `encode_backtrack::write_back` meets its contract: the loop's invariant: what is behind the k-th character is written, and k characters lead to the node at the number p.
-- Assumes nothing.
use Prim.Native.Nat.{ℕ, ◌-◌}
use mathlib.Core.Path.{ap, ◌∙◌}
use native.Mathlib.Omega.{arith}
use lib.Seq.{sets}
use Rattle.encode_states.specs.Written.{written}
use Rattle.encode_candidates.specs.Packed.{cands_of}
use Rattle.encode_tokens.specs.declared.Character.{Character}
use Rattle.encode_backtrack.proofs.Trail.{how_of, going_start, going_fits, going_before, going_most, going_on, going_end}
use Rattle.encode_backtrack.proofs.write_back.Goals as goal

-- what a read past the characters would give
abbrev blank : Character
blank = record { char = 0; kanji = 0; symbol = 0 }

pub loop-k-init : goal.loop-k-init
loop-k-init c = (c.requires.bytes_few, λ f. going_start f c.args.coding.now)

pub offset_bounds-store-p : goal.offset_bounds-store-p
offset_bounds-store-p c =
    omega (arith, c.well_formed, going_fits (c.loop-k.invariant.1 c.requires))

pub bounds-store-p : goal.bounds-store-p
bounds-store-p c =
    omega (arith, c.well_formed, going_fits (c.loop-k.invariant.1 c.requires))

pub overflow_sub-to : goal.overflow_sub-to
overflow_sub-to c =
    let f = c.requires in
    let j = c.loop-k.k - 1 in
    omega (
      arith,
      c.character_length-to.ensures,
      going_most j (omega arith) (c.loop-k.invariant.1 f) c.as_slice-choices.result.now (f.chosen j blank (omega arith))
          (rw c.as_slice-choices.ensures.value c.candidates-candidates.ensures),
    )

pub overflow_sub-p : goal.overflow_sub-p
overflow_sub-p c = going_before (c.loop-k.k - 1) (omega arith) (c.loop-k.invariant.1 c.requires)

pub loop-k-preserved : goal.loop-k-preserved
loop-k-preserved c =
    let j = c.loop-k.k - 1 in
    let k = c.as_slice-choices.result.now in
    let bs = written (cands_of k) (how_of c.args.store.now c.loop-k.p) in (
      omega arith,
      λ f. rw c.character_length-to.ensures (going_on j (omega arith) (c.loop-k.invariant.1 f) k (f.chosen j blank (omega arith))
          (rw c.as_slice-choices.ensures.value c.candidates-candidates.ensures)
          (c.put_character-p.ensures.written ∙ ap (λ (n : ℕ). sets c.loop-k.coding (c.loop-k.to - n) bs) c.character_length-to.ensures)),
    )

pub returns : goal.returns
returns c = λ f. going_end (omega arith) (c.loop-k.invariant.1 f)
