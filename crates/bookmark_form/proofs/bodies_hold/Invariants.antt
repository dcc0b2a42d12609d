-- `bodies_hold` meets its contract. The invariant: the bodies so far lie in the input, and no definition ends in them. Assumes nothing.
use Prim.Native.Nat.{◌+◌, ◌-◌}
use mathlib.Core.Path.{◌≡◌}
use mathlib.Core.Bool.{true}
use lib.ListN.{get_or}
use Rattle.bookmark_form.specs.Form.{all_below, body_holds}
use Rattle.bookmark_form.proofs.bodies_hold.Given as goal

abbrev pub invariant-loop-code : goal.invariant-loop-code
invariant-loop-code l = all_below l.code (λ j. body_holds l.input (get_or l.l (28 + j) 0 - 1) (get_or l.l (156 + j) 0)) ≡ true
