-- What falls at each call: how many bodies may still be opened, then the rank of the function in a round of calls; and how far `run` has come.
use Prim.Native.Nat.{◌*◌, ◌+◌, ◌-◌}
use lib.ListN.{length}
use Rattle.decode_state.specs.Promises.{over}
use Rattle.decode_bodies.proofs.Along.{Along}
use Rattle.decode_bodies.proofs.+char1_graphic_run_run_body_run_macro_turn.Given as goal

-- from the start of the body to its byte i
abbrev pub decreases-char1 : goal.decreases-char1
decreases-char1 l = 6 * l.p.left + 2

abbrev pub decreases-graphic : goal.decreases-graphic
decreases-graphic l = 6 * l.p.left + 3

abbrev pub decreases-run : goal.decreases-run
decreases-run l = 6 * l.p.left + 5

abbrev pub decreases-run_body : goal.decreases-run_body
decreases-run_body l = 6 * l.p.left

abbrev pub decreases-run_macro : goal.decreases-run_macro
decreases-run_macro l = 6 * l.p.left + 1

abbrev pub decreases-turn : goal.decreases-turn
decreases-turn l = 6 * l.p.left + 4

-- from the start of the body to its byte i
abbrev pub invariant-run-loop-stop : goal.invariant-run-loop-stop
invariant-run-loop-stop l =
    Along l.inputs.cells.now l.inputs.input.now l.p.left l.p.base (l.p.at + 1) l.b (length l.b) 0 (over l.initial.s l.inputs.macros.now) l.initial.text l.initial.issues l.i
    (over l.s l.inputs.macros.now) l.text l.issues

abbrev pub decreases-run-loop-stop : goal.decreases-run-loop-stop
decreases-run-loop-stop l = length l.b - l.i
