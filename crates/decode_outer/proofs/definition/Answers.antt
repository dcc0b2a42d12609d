-- `definition`: the body that is defined lies in the input; it runs once, or not.
use mathlib.Core.Path.{sym, subst}
use native.Mathlib.Omega.{arith}
use Rattle.decode_state.specs.declared.Decoder.{Decoder}
use Rattle.decode_outer.specs.Promises.{Outside}
use Rattle.decode_outer.proofs.Defining.{outside_define, outer_runs, outer_defines, outer_with, executed_from}
use Rattle.decode_outer.proofs.definition.Goals as goal

pub execute-requires : goal.execute-requires
execute-requires c =
    let outside = c.requires.outside in
    let defined = c.requires.defined in record { outside = subst (λ (z : Decoder). Outside c.args.given.input.now 1 z) (sym c.define-defined.ensures) (outside_define defined outside); code_bound = (defined.small, omega (arith, outside.short, c.requires.i_in_bounds)) }

pub returns-then-runs : goal.returns-then-runs
returns-then-runs c =
    outer_runs _ _ _ _ _ _ _ _ c.requires.defined c.requires.outside c.args.runs c.if-runs.true
    (executed_from c.define-defined.ensures c.execute.ensures)

pub returns : goal.returns
returns c =
    outer_with _ _ _ _ _ _ c.define-defined.ensures
    (outer_defines _ _ _ _ _ _ _ _ c.requires.defined c.requires.outside c.args.runs c.if-runs.false)
