-- `control` meets its contract. Assumes nothing.
use native.Mathlib.Omega.{arith}
use Rattle.decode_reports.proofs.Moving.{took_of, nowhere}
use Rattle.decode_reports.proofs.control.Goals as goal

pub apply-requires : goal.apply-requires
apply-requires c =
    let p = c.requires in
    let r = c.read-c.ensures nowhere 0 (λ b base origin s. s) in
    record { bounded = (r.bounded, omega (arith, r.within, p.i_in_bounds.1)); may_take = p.may_take }

pub returns : goal.returns
returns c =
    let a = c.args in
    λ g left R t.
    let r = c.read-c.ensures g left R in
    took_of (λ σ. r.says a.place a.at σ) (c.apply.ensures t) r.some r.within
