-- `macro_cmd`: in a body no definition ends, so MACRO is cut or malformed.
use Rattle.decode_macros.proofs.Laws.{bare_ends, bare_defines}
use Rattle.decode_bodies.proofs.Commands.{took_cut, took_malformed, within_malformed}
use Rattle.decode_bodies.proofs.macro_cmd.Goals as goal

pub returns-in-Cut : goal.returns-in-Cut
returns-in-Cut c =
    took_cut _ _ _ _ c.read_command.ensures.means _ _ _ _ _ c.in-Cut.is c.truncated.ensures

pub returns-in-Malformed : goal.returns-in-Malformed
returns-in-Malformed c =
    let read = c.read_command.ensures in
    took_malformed _ _ _ _ read.means _ _ _ _ _ c.in-Malformed.is (within_malformed _ _ read.within c.in-Malformed.is) c.report-r.ensures

pub returns-in-Ends : goal.returns-in-Ends
returns-in-Ends c =
    absurd (bare_ends _ _ c.requires.body.bare c.requires.i_in_bounds.1 c.read_command.ensures.within c.in-Ends.is)

pub returns-in-Defines : goal.returns-in-Defines
returns-in-Defines c =
    absurd (bare_defines _ _ c.requires.body.bare c.read_command.ensures.within c.in-Defines.is)
