-- `encode_candidates::shortest` meets its contract. The invariant: every candidate so far has two bytes. Assumes nothing.
use mathlib.Core.Path.{◌≡◌, sym, ap, ◌∙◌}
use native.Mathlib.Omega.{arith}
use Rattle.std.proofs.lemmas.Bool.Decides.{nat_tests}
use lib.ListN.{length}
use Rattle.coding.specs.Candidates.{code_length}
use Rattle.encode_candidates.proofs.Lengths.{more, is_one, all_two, none_short}
use Rattle.encode_candidates.proofs.shortest.Goals as goal

pub returns-then-is_empty : goal.returns-then-is_empty
returns-then-is_empty g c =
    let e : length c.args.candidates.now ≡ 0 = grind (arith, nat_tests) in
    none_short g.C.Coded.stands_for c.args.candidates.now e

pub returns-then-length-eq1 : goal.returns-then-length-eq1
returns-then-length-eq1 g c =
    let f = g.C.Coded.stands_for in
    is_one f g.met.C.Coded.one_or_two c.args.candidates.now c.candidate-item.result c.loop-candidate.candidate-index c.loop-candidate-test.true
    (ap (λ x. code_length (f x)) (sym c.candidate-item.is) ∙ (sym c.length.ensures ∙ c.if-length-eq1.true))

pub loop-candidate-preserved : goal.loop-candidate-preserved
loop-candidate-preserved g c =
    more g.C.Coded.stands_for _ _ _ _ c.loop-candidate.invariant c.candidate-item.is c.loop-candidate-test.true c.length.ensures
    (g.met.C.Coded.one_or_two c.candidate-item.result) c.if-length-eq1.false

pub returns : goal.returns
returns g c =
    let e : length c.args.candidates.now ≡ 0 → ⊥ = grind (arith, nat_tests) in
    all_two g.C.Coded.stands_for c.args.candidates.now c.loop-candidate.candidate-index e c.loop-candidate-test.false c.loop-candidate.invariant
