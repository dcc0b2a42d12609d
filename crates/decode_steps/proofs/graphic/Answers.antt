-- `graphic` meets its contract.
use Rattle.decode_steps.proofs.graphic.Goals as goal

pub graphic-requires : goal.graphic-requires
graphic-requires c =
    let p = c.requires in
    record { may_take = p.may_take; i_in_bounds = (p.i_in_bounds.0, p.i_in_bounds.2, p.i_in_bounds.3) }

pub returns : goal.returns
returns c = λ left R. c.graphic.ensures left R
