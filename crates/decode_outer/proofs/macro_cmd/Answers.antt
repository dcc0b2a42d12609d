-- `macro_cmd`: the command is cut, ends, is malformed, or defines a macro.
use Prim.Native.Nat.{◌-◌}
use mathlib.Core.Path.{◌∙◌, ap}
use lib.ListN.{length}
use native.Mathlib.Omega.{arith}
use Rattle.decode_macros.specs.declared.Command.{Command}
use Rattle.decode_macros.specs.Promises.{commanded}
use Rattle.decode_bodies.specs.Promises.{below}
use Rattle.decode_bodies.proofs.Steps.{took_ran}
use Rattle.decode_bodies.proofs.Commands.{took_cut, took_malformed, within_malformed, within_ends, within_defines}
use Rattle.decode_outer.proofs.Defining.{outer, outer_ends, outer_as}
use Rattle.decode_outer.proofs.macro_cmd.Goals as goal

pub definition-requires : goal.definition-requires
definition-requires c =
    record { outside = c.requires.outside; i_in_bounds = c.requires.i_in_bounds; defined = within_defines _ _ c.read_command.ensures.within c.in-Defines.is }

pub returns-in-Cut : goal.returns-in-Cut
returns-in-Cut c =
    let outside = c.requires.outside in
    outer outside.inside
    (took_ran (λ g. below g 4) outside.ready.within
    (λ R. took_cut _ _ _ _ c.read_command.ensures.means _ _ _ _ _ c.in-Cut.is c.truncated-r.ensures 4 R c.args.i c.args.given.cells.now _))

pub returns-in-Ends : goal.returns-in-Ends
returns-in-Ends c =
    let read = c.read_command.ensures in
    outer_ends _ _ _ _ _ _ _ _ read.means c.in-Ends.is (within_ends _ _ read.within c.in-Ends.is) c.requires.outside

pub returns-in-Malformed : goal.returns-in-Malformed
returns-in-Malformed c =
    let outside = c.requires.outside in
    let read = c.read_command.ensures in
    outer outside.inside
    (took_ran (λ g. below g 4) outside.ready.within
    (λ R. took_malformed _ _ _ _ read.means _ _ _ _ _ c.in-Malformed.is (within_malformed _ _ read.within c.in-Malformed.is) c.report-core.ensures 4 R c.args.i c.args.given.cells.now _))

pub returns-in-Defines : goal.returns-in-Defines
unfolding commanded
returns-in-Defines c =
    let a = c.args in
    outer_as
    (λ g s k.
    c.read_command.ensures.means g 4 (below g 4) a.i a.i s
    ∙ ap (λ (z : Command). commanded z (length a.given.input.now - a.i) g 4 (below g 4) a.i a.i s) c.in-Defines.is)
    c.definition.ensures

pub overflow_add-result : goal.overflow_add-result
overflow_add-result c = omega (arith, (c.truncated-r.ensures c.args.text.now).within, c.requires.outside.short)
