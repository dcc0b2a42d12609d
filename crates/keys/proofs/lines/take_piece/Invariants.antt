-- `keys::lines::take_piece` meets its contract: the lengths stay. Assumes nothing.
use Rattle.std.proofs.Common.{◌≡◌, suc, ◌-◌, ◌≤◌, length}
use Rattle.keys.specs.Promises.{Within}
use Rattle.keys.proofs.lines.take_piece.Given as goal

abbrev pub invariant-loop-q : goal.invariant-loop-q
invariant-loop-q g l =
    (length l.line ≡ length l.initial.line) × (length l.title ≡ length l.initial.title) × (length l.out ≡ length l.initial.out) × Within l.q × (l.i ≤ length l.piece)

abbrev pub decreases-loop-q : goal.decreases-loop-q
decreases-loop-q g l = suc (length l.piece) - l.i
