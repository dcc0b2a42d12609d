-- `utf8::read` meets its contract: the scalar decides the sequence, with its length. Assumes nothing.
use mathlib.Core.Path.{sym, ap, ◌∙◌}
use mathlib.Core.List.{List}
use Prim.Native.Nat.{ℕ}
use native.Mathlib.Omega.{arith}
use lib.ListN.{drop, length-drop, drop_of_length-le}
use Rattle.std.proofs.lemmas.List.{take_rest}
use Rattle.utf8.specs.declared.Sequence.TheVariants.{Scalar}
use Rattle.utf8.specs.Utf8.{sequence, scalar_of}
use Rattle.utf8.proofs.Reading.{scalar_of_lem, fault_of}
use Rattle.utf8.proofs.read.Goals as goal

pub returns-then-text-at : goal.returns-then-text-at
unfolding sequence
returns-then-text-at c = rw (drop_of_length-le c.args.text.now c.if-text-at.true)

pub returns-in-Some : goal.returns-in-Some
returns-in-Some c =
    let g = c.args in
    let e = ap (λ (l : List ℕ). scalar_of (sequence l)) (sym (take_rest g.text.now g.at)) ∙ sym c.scalar.ensures ∙ c.in-Some.is in
    ap (Scalar c.in-Some.c) c.width.ensures ∙ sym (scalar_of_lem (drop g.at g.text.now) c.in-Some.c e)

pub returns-in-None : goal.returns-in-None
returns-in-None c =
    let g = c.args in
    let e = ap (λ (l : List ℕ). scalar_of (sequence l)) (sym (take_rest g.text.now g.at)) ∙ sym c.scalar.ensures ∙ c.in-None.is in
    sym (fault_of (drop g.at g.text.now) (omega (arith, length-drop g.at g.text.now)) e)
