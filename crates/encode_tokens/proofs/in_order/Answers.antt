-- `encode_tokens::in_order` meets its contract: what is appended and what is left, turn by turn. Assumes nothing.
use mathlib.Core.Path.{sym, ◌∙◌}
use native.Mathlib.Omega.{arith}
use Rattle.encode_tokens.specs.Steps.{Ordering}
use Rattle.encode_tokens.proofs.Texts.{from_end, read_as}
use Rattle.encode_tokens.proofs.Pass.{loop_missing, loop_next, last_missing, last_ready, loop_first, ready_none}
use Rattle.encode_tokens.proofs.in_order.Goals as goal

pub returns-in_default : goal.returns-in_default
unfolding Ordering
returns-in_default c = ready_none _ _ _ _ (from_end _ _ c.read.ensures c.in_default.not-Scalar)

pub loop-c-init : goal.loop-c-init
loop-c-init c = loop_first _ _ _ _ _ _ (read_as _ _ _ _ (omega arith) (sym c.read.ensures ∙ c.in-Scalar.is))

pub returns-in_default-append : goal.returns-in_default-append
unfolding Ordering
returns-in_default-append c =
    loop_missing c.loop-c.invariant c.requires (read_as _ _ _ _ c.loop-c.invariant.within (sym c.read-in-loop-c.ensures ∙ c.in-Scalar-read.is)) c.order-next.ensures c.in_default-append.ensures

pub overflow_add-at : goal.overflow_add-at
overflow_add-at c =
    let r = read_as _ _ _ _ c.loop-c.invariant.within (sym c.read-in-loop-c.ensures ∙ c.in-Scalar-read.is) in
    omega (arith, r.within, c.well_formed)

pub loop-c-smaller : goal.loop-c-smaller
loop-c-smaller c =
    let r = read_as _ _ _ _ c.loop-c.invariant.within (sym c.read-in-loop-c.ensures ∙ c.in-Scalar-read.is) in
    omega (arith, r.least, r.within)

pub loop-c-preserved : goal.loop-c-preserved
loop-c-preserved c = loop_next c.loop-c.invariant c.requires (read_as _ _ _ _ c.loop-c.invariant.within (sym c.read-in-loop-c.ensures ∙ c.in-Scalar-read.is)) c.order-next.ensures c.in-Some.ensures

pub returns-in_default-append-2 : goal.returns-in_default-append-2
unfolding Ordering
returns-in_default-append-2 c =
    last_missing c.loop-c.invariant c.requires (from_end _ _ c.read-in-loop-c.ensures c.in_default-read.not-Scalar) c.in_default-append-2.ensures

pub returns : goal.returns
unfolding Ordering
returns c = last_ready c.loop-c.invariant c.requires (from_end _ _ c.read-in-loop-c.ensures c.in_default-read.not-Scalar) c.in-Some-append.ensures
