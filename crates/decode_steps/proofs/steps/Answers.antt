-- `steps` meets its contract. The loop's invariant: the steps so far are a stretch from `from` to i, and the buffers are as long as they were.
-- The measure is what is left of the body.
use mathlib.Core.Path.{sym, ◌∙◌}
use mathlib.Core.Logic.{inl, inr}
use native.Mathlib.Omega.{arith}
use Rattle.decode_steps.proofs.Way.{way_start, way_good, way_on, way_step, good_next, stop_at, passes_at}
use Rattle.decode_steps.proofs.steps.Goals as goal

pub loop-i-init : goal.loop-i-init
loop-i-init c =
    way_start c.requires.from_in_bounds.0 c.requires.may_take

pub letters-f-requires : goal.letters-f-requires
letters-f-requires c =
    record { from_in_bounds = (c.loop-i.invariant.stretch.within, c.requires.from_in_bounds.3, c.requires.from_in_bounds.1); may_take = way_good c.loop-i.invariant c.requires.may_take }

pub returns-then-i-o : goal.returns-then-i-o
returns-then-i-o c =
    let w = way_on c.loop-i.invariant (c.letters-f.ensures c.args.o.base c.args.o.origin c.loop-i.issues) c.letters-f.auto.text in
    record { stretch = w.stretch; stop = inl c.if-i-o.true }

pub stop_at-stop-requires : goal.stop_at-stop-requires
stop_at-stop-requires c =
    let v = (c.letters-f.ensures c.args.o.base c.args.o.origin c.loop-i.issues).kept in
    (omega (arith, c.if-i-o.false, c.requires.from_in_bounds.3), v.gl, v.gr)

pub returns-then-is_some : goal.returns-then-is_some
returns-then-is_some c =
    let w = way_on c.loop-i.invariant (c.letters-f.ensures c.args.o.base c.args.o.origin c.loop-i.issues) c.letters-f.auto.text in
    let stop = stop_at c.stop_at-stop.result c.args.b.now c.args.o.to c.letters-f.result.at c.letters-f.result.core (sym c.is_some.ensures ∙ c.if-is_some.true) c.if-i-o.false
    c.stop_at-stop.ensures in
    record { stretch = w.stretch; stop = stop }

pub offset-at-requires : goal.offset-at-requires
offset-at-requires c =
    omega (arith, c.if-i-o.false, c.requires.from_in_bounds.1, c.requires.from_in_bounds.3)

pub overflow_cast-i : goal.overflow_cast-i
overflow_cast-i c =
    omega (arith, c.if-i-o.false, c.requires.from_in_bounds.1, c.requires.from_in_bounds.3)

pub overflow_add-o : goal.overflow_add-o
overflow_add-o c =
    omega (arith, c.if-i-o.false, c.requires.from_in_bounds.1, c.requires.from_in_bounds.2, c.requires.from_in_bounds.3)

pub simple-r-requires : goal.simple-r-requires
simple-r-requires c =
    let w = way_on c.loop-i.invariant (c.letters-f.ensures c.args.o.base c.args.o.origin c.loop-i.issues) c.letters-f.auto.text in
    let far = c.letters-f.result in
    let v = passes_at c.stop_at-stop.result c.args.b.now far.at far.core (sym c.is_some.ensures ∙ c.if-is_some.false) c.stop_at-stop.ensures in
    record { i_in_bounds = (omega (arith, c.if-i-o.false, c.requires.from_in_bounds.3), c.requires.from_in_bounds.1); may_take = good_next (way_good w c.requires.may_take) (omega (arith, c.if-i-o.false, c.requires.from_in_bounds.3)); passes = v }

pub overflow_add-i : goal.overflow_add-i
overflow_add-i c =
    omega (arith, (c.simple-r.ensures 0 (λ b₁ base₁ origin₁ s₁. s₁)).within, c.requires.from_in_bounds.1)

pub shape_of-text-then-ended : goal.shape_of-text-then-ended
shape_of-text-then-ended c =
    c.simple-r.auto.text ∙ c.letters-f.auto.text ∙ c.loop-i.invariant.text

pub shape_of-issues-then-ended : goal.shape_of-issues-then-ended
shape_of-issues-then-ended c =
    c.simple-r.auto.issues ∙ c.loop-i.invariant.issues

pub returns-then-ended : goal.returns-then-ended
returns-then-ended c =
    let w = way_on c.loop-i.invariant (c.letters-f.ensures c.args.o.base c.args.o.origin c.loop-i.issues) c.letters-f.auto.text in
    let on =
    way_step c.simple-r.result c.offset-at.result c.offset-at.ensures c.if-i-o.false (omega (arith, c.if-i-o.false, c.requires.from_in_bounds.3)) w
    c.simple-r.ensures
    c.simple-r.auto.text c.simple-r.auto.issues in
    record { stretch = on.stretch; stop = inr (c.ended.ensures.0 c.if-ended.true) }

pub loop-i-smaller : goal.loop-i-smaller
loop-i-smaller c =
    let step = c.simple-r.ensures 0 (λ b₁ base₁ origin₁ s₁. s₁) in
    omega (arith, c.if-i-o.false, c.requires.from_in_bounds.3, step.some, (c.letters-f.ensures c.args.o.base c.args.o.origin c.loop-i.issues).past)

pub loop-i-preserved : goal.loop-i-preserved
loop-i-preserved c =
    let w = way_on c.loop-i.invariant (c.letters-f.ensures c.args.o.base c.args.o.origin c.loop-i.issues) c.letters-f.auto.text in
    way_step c.simple-r.result c.offset-at.result c.offset-at.ensures c.if-i-o.false (omega (arith, c.if-i-o.false, c.requires.from_in_bounds.3)) w
    c.simple-r.ensures
    c.simple-r.auto.text c.simple-r.auto.issues
