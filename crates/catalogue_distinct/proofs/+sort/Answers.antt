-- `sort` meets its contract: the run of no place, of one, and of two parts. Assumes nothing.
use Prim.Native.Nat.{◌/◌}
use mathlib.Core.Path.{refl}
use native.Mathlib.Omega.{arith}
use lib.ListN.{length}
use Rattle.catalogue_distinct.proofs.Sorting.{holds_none, holds_one}
use Rattle.catalogue_distinct.proofs.Lending.{halves, holds_joined}
use Rattle.catalogue_distinct.proofs.+sort.Goals as goal

pub returns-then-n-eq0-clause-holds : goal.returns-then-n-eq0-clause-holds
returns-then-n-eq0-clause-holds t c = holds_none _ _ _ c.if-n-eq0.true

pub returns-then-n-eq1-clause-holds : goal.returns-then-n-eq1-clause-holds
returns-then-n-eq1-clause-holds t c =
    let a = c.args in
    let pre = c.requires in
    holds_one a.places.now a.from (length a.runs.now) a.runs.now c.if-n-eq1.true refl pre.1 pre.0

pub join-requires : goal.join-requires
join-requires t c =
    let a = c.args in
    let p = c.sort-a in
    let q = c.sort-b in
    halves a.runs.now p.new.runs (length a.runs.now / 2) (omega arith) p.auto.runs q.new.runs q.auto.runs
    p.result q.result p.ensures.few q.ensures.few a.places.now a.from p.ensures.holds q.ensures.holds _
    (omega (arith, c.requires.2, p.auto.spare, q.auto.spare))

pub returns-clause-holds : goal.returns-clause-holds
returns-clause-holds t c =
    let a = c.args in
    let p = c.sort-a in
    let q = c.sort-b in
    let whole =
    holds_joined a.runs.now p.new.runs (length a.runs.now / 2) (omega arith) p.auto.runs q.new.runs q.auto.runs
    p.result q.result p.ensures.few q.ensures.few a.places.now a.from p.ensures.holds q.ensures.holds _ _ c.join.ensures.merged
    c.join.ensures.few in
    whole.0
