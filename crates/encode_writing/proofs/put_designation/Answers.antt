-- `encode_writing::put_designation` meets its contract: the sequence of `GraphicSet::designation`. Assumes nothing.
use Prim.Native.Nat.{ℕ, ◌%◌}
use mathlib.Core.Path.{◌≡◌, sym, ap, ◌∙◌}
use Rattle.encode_states.specs.Packed.{set_of}
use lib.ListN.{length}
use native.Mathlib.Omega.{arith}
use borrow.Author.Tests.{eq-eqb, ne_eqb}
use Rattle.sets.specs.Sets.{set_number, designation}
use Rattle.lent.proofs.Putting.{put_none, put_as}
use Rattle.encode_writing.proofs.Laws.{designation_length}
use Rattle.encode_writing.proofs.put_designation.Goals as goal

pub put_sequence-requires : goal.put_sequence-requires
put_sequence-requires c =
    (omega arith, omega (arith, designation_length (set_number c.set_of.result) (c.args.e % 4), ap length c.designation-sequence.ensures, ap length c.as_slice.ensures.value))

pub returns-then-d-eq1 : goal.returns-then-d-eq1
returns-then-d-eq1 c =
    let a = c.args in
    let m : a.e % 4 ≡ a.e = omega arith in
    rw (eq-eqb _ _ c.if-d-eq1.true) (put_as
    (sym (c.as_slice.ensures.value ∙ c.designation-sequence.ensures ∙ ap (λ (x : ℕ). designation x (a.e % 4)) c.set_of.ensures ∙ ap (designation (set_of a.x)) m))
    c.put_sequence.ensures)

pub returns : goal.returns
returns c = rw (ne_eqb _ _ c.if-d-eq1.false) (put_none _ _)
