-- `encode_tokens::baseless` meets its contract: from a place on, after a base or not, the first mark without a base is that of the whole text. Assumes nothing.
use mathlib.Core.Path.{◌≡◌}
use mathlib.Core.Bool.{false}
use Prim.Native.Nat.{◌-◌, ◌≤◌}
use lib.ListN.{length}
use Rattle.coding.specs.Tokens.{tokens, baseless}
use Rattle.encode_tokens.proofs.Texts.{from}
use Rattle.encode_tokens.proofs.baseless.Given as goal

abbrev pub invariant-loop-c : goal.invariant-loop-c
invariant-loop-c l = (l.at ≤ length l.text) × (baseless false (tokens l.text) ≡ baseless l.base (from l.text l.at))

abbrev pub decreases-loop-c : goal.decreases-loop-c
decreases-loop-c l = length l.text - l.at
