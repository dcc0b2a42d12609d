-- `encode_find::lead` meets its contract: by what the search answers. Assumes nothing.
use mathlib.Core.Path.{◌≡◌, refl}
use native.Mathlib.Omega.{arith}
use lib.ListN.{length}
use Rattle.std.proofs.lemmas.Bool.Decides.{nat_tests}
use Rattle.encode_find.proofs.Planning.{place_most, led_nothing, led_full, led_found}
use Rattle.encode_find.proofs.lead.Goals as goal

pub returns-then-is_empty : goal.returns-then-is_empty
returns-then-is_empty c =
    let e : length c.args.characters.now ≡ 0 = grind (arith, nat_tests) in
    λ t. led_nothing c.args.task.annex c.args.task.initial c.args.store.now c.args.store.now c.args.characters.now c.args.task.rest t refl e

pub returns-in_default : goal.returns-in_default
returns-in_default c =
    λ t. led_full c.args.task.annex c.args.task.initial c.args.store.now c.search.new.store c.args.characters.now
    c.args.task.rest t c.search.auto.store c.in_default.ensures

pub overflow_add-result : goal.overflow_add-result
overflow_add-result c =
    let q = c.in-Some.ensures.inside in
    omega (arith, c.well_formed, q.store, c.search.auto.store, place_most _ _ _ _ (omega (arith, q.store, c.search.auto.store)) c.first_of-place.ensures)

pub returns : goal.returns
returns c =
    λ t. led_found c.args.task.annex c.args.task.initial c.args.store.now c.search.new.store c.args.characters.now
    c.args.task.rest t c.search.auto.store c.in-Some.ensures _ c.squeeze.ensures (omega arith) c.least-best.result c.first_of-place.result c.gap_of.result (omega arith)
    c.least-best.ensures c.first_of-place.ensures c.gap_of.ensures
