-- `encode_tokens::in_order` meets its contract: what is appended and what is left, turn by turn. Assumes nothing.
use Prim.Native.Nat.{◌-◌}
use lib.ListN.{length}
use Rattle.encode_tokens.proofs.Pass.{Loop}
use Rattle.encode_tokens.proofs.in_order.Given as goal

abbrev pub invariant-loop-c : goal.invariant-loop-c
invariant-loop-c l = Loop l.t l.annex l.text l.initial.characters l.characters l.base l.at l.count l.rest

abbrev pub decreases-loop-c : goal.decreases-loop-c
decreases-loop-c l = length l.text - l.at
