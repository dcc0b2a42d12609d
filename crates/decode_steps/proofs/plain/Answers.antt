-- `plain` meets its contract.
use mathlib.Core.Path.{sym, ◌∙◌}
use mathlib.Core.Logic.{inl}
use Rattle.decode_steps.proofs.Stretches.{stretch_start}
use Rattle.decode_steps.proofs.Way.{stop_at}
use Rattle.decode_steps.proofs.plain.Goals as goal

pub returns-then-from-o : goal.returns-then-from-o
returns-then-from-o c =
    record { stretch = stretch_start _ _ _ _ _ _ _ _ _ c.requires.from_in_bounds.0 c.requires.may_take; stop = inl c.if-from-o.true }

pub returns-then-is_some : goal.returns-then-is_some
returns-then-is_some c =
    let a = c.args in
    record {
      stretch = stretch_start _ _ _ _ _ _ _ _ _ c.requires.from_in_bounds.0 c.requires.may_take;
      stop = stop_at c.stop_at-stop.result a.b.now a.o.to a.from a.core (sym c.is_some.ensures ∙ c.if-is_some.true) c.if-from-o.false c.stop_at-stop.ensures;
    }
