-- `bodies_hold` meets its contract. The invariant: the bodies so far lie in the input, and no definition ends in them. Assumes nothing.
use Prim.Native.Nat.{ℕ, ◌+◌, ◌-◌}
use mathlib.Core.Path.{◌≡◌, sym, ap, ◌∙◌}
use mathlib.Core.Bool.{Bool}
use mathlib.Core.List.{List}
use native.Mathlib.Omega.{arith}
use lib.ListN.{get_or}
use Rattle.bookmark_form.specs.Form.{body_holds, bodies_hold}
use Rattle.bookmark_form.proofs.Below.{below_none, below_true, below_false, below_here}
use Rattle.bookmark_form.proofs.bodies_hold.Goals as goal

-- one body, by what the two functions answer
held : (input l : List ℕ) (code start : ℕ) {r b : Bool} → start ≡ get_or l (28 + code) 0 - 1 → r ≡ body_holds input start (get_or l (156 + code) 0) → r ≡ b
    → body_holds input (get_or l (28 + code) 0 - 1) (get_or l (156 + code) 0) ≡ b
held input l code start e q h = sym (ap (λ (n : ℕ). body_holds input n (get_or l (156 + code) 0)) e) ∙ (sym q ∙ h)

pub loop-code-init : goal.loop-code-init
loop-code-init c = below_none _

pub body_holds-requires : goal.body_holds-requires
body_holds-requires c = (
  omega (arith, c.start_of.ensures, c.type_inv.l (28 + c.loop-code.code)),
  omega (arith, c.type_inv.l (156 + c.loop-code.code)),
)

pub returns-then-not-body_holds : goal.returns-then-not-body_holds
unfolding bodies_hold
returns-then-not-body_holds c =
    below_false 128 (λ j. body_holds c.args.input.now (get_or c.args.l.now (28 + j) 0 - 1) (get_or c.args.l.now (156 + j) 0))
    c.loop-code.code c.loop-code-test.true
    (held c.args.input.now c.args.l.now c.loop-code.code _ c.start_of.ensures c.body_holds.ensures c.if-not-body_holds.true)

pub loop-code-preserved : goal.loop-code-preserved
loop-code-preserved c =
    below_true c.loop-code.code _ c.loop-code.invariant
    (held c.args.input.now c.args.l.now c.loop-code.code _ c.start_of.ensures c.body_holds.ensures c.if-not-body_holds.false)

pub returns : goal.returns
unfolding bodies_hold
returns c = sym (below_here 128 c.loop-code.code _ c.loop-code.invariant (omega arith))
