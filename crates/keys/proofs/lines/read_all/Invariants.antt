-- `keys::lines::read_all` meets its contract: the lengths stay. Assumes nothing.
use Rattle.std.proofs.Common.{◌≡◌, length}
use Rattle.keys.specs.Promises.{Within}
use Rattle.keys.proofs.lines.read_all.Given as goal

abbrev pub invariant-loop : goal.invariant-loop
invariant-loop g l = (length l.line ≡ length l.initial.line) × (length l.title ≡ length l.initial.title) × (length l.out ≡ length l.initial.out) × Within l.p
