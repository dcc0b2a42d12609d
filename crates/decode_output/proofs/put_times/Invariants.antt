-- `decode_output::put_times` meets its contract. The loop's invariant: c is written as often as it turned, and `to` is the length of that. Assumes nothing.
use mathlib.Core.Path.{◌≡◌}
use lib.ListN.{length, replicate}
use lib.Seq.{sets}
use Rattle.utf8.specs.Utf8.{utf8s}
use Rattle.decode_output.proofs.put_times.Given as goal

abbrev pub invariant-loop : goal.invariant-loop
invariant-loop l = (length l.part ≡ length l.initial.part) × (l.to ≡ length (utf8s (replicate l.counter l.c))) × (l.part ≡ sets l.initial.part 0 (utf8s (replicate l.counter l.c)))
