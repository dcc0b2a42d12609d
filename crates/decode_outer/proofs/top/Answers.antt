-- `top`: the loop goes along the input; its measure is what is left unread of it.
use mathlib.Core.Path.{◌∙◌}
use native.Mathlib.Omega.{arith}
use Rattle.decode_bodies.proofs.Room.{ready_good, ready_after, ready_less}
use Rattle.decode_bodies.proofs.Stops.{stops, over_at}
use Rattle.decode_bodies.proofs.Along.{along_start, along_stretch, along_step, along_cut, along_over, along_to, outside_step}
use Rattle.decode_outer.proofs.Start.{top_ran}
use Rattle.decode_outer.proofs.top.Goals as goal

pub loop-stop-init : goal.loop-stop-init
loop-stop-init c =
    record { along = along_start c.requires.from_in_bounds.0 c.requires.outside.ready; inside = c.requires.outside.inside }

pub steps-f-requires : goal.steps-f-requires
steps-f-requires c =
    let w = c.loop-stop.invariant.along in
    record { from_in_bounds = (w.within, c.requires.outside.short, omega arith, c.requires.from_in_bounds.1); may_take = ready_good (ready_after c.requires.outside.ready w.past w.within w.grown) }

pub returns-in_default : goal.returns-in_default
returns-in_default c =
    let w = along_stretch c.loop-stop.invariant.along c.steps-f.ensures.stretch c.steps-f.auto.text c.steps-f.auto.issues in
    top_ran (along_over w (over_at _ _ _ _ c.in_default.is c.steps-f.ensures.stop)) c.loop-stop.invariant.inside

pub step-next-requires : goal.step-next-requires
step-next-requires c =
    let w = along_stretch c.loop-stop.invariant.along c.steps-f.ensures.stretch c.steps-f.auto.text c.steps-f.auto.issues in
    let stop = stops _ _ _ _ c.in-Some.is c.steps-f.ensures.stop in
    let ready = ready_less {e = 1} (ready_after c.requires.outside.ready w.past w.within w.grown) (omega (arith, stop.0, c.requires.from_in_bounds.1)) in
    record {
      outside = record { short = c.requires.outside.short; inside = c.loop-stop.invariant.inside; ready = ready };
      stops_at = stop.1;
    }

pub shape_of-text-then-ended : goal.shape_of-text-then-ended
shape_of-text-then-ended c =
    c.step-next.auto.text ∙ c.steps-f.auto.text ∙ c.loop-stop.invariant.along.as_long

pub shape_of-issues-then-ended : goal.shape_of-issues-then-ended
shape_of-issues-then-ended c =
    c.step-next.auto.issues ∙ c.steps-f.auto.issues ∙ c.loop-stop.invariant.along.as_many

pub returns-then-ended : goal.returns-then-ended
returns-then-ended c =
    let w = along_stretch c.loop-stop.invariant.along c.steps-f.ensures.stretch c.steps-f.auto.text c.steps-f.auto.issues in
    let before = (stops _ _ _ _ c.in-Some.is c.steps-f.ensures.stop).0 in
    let cut =
    along_cut w before (omega (arith, before, c.requires.from_in_bounds.1)) (outside_step 4 c.steps-f.result.at c.step-next.ensures.ran) c.step-next.result.at
    (c.ended.ensures.0 c.if-ended.true) in
    top_ran cut c.step-next.ensures.inside

pub loop-stop-smaller : goal.loop-stop-smaller
loop-stop-smaller c =
    let before = (stops _ _ _ _ c.in-Some.is c.steps-f.ensures.stop).0 in
    omega (arith, c.step-next.ensures.ran.some, c.step-next.ensures.ran.most, c.steps-f.ensures.stretch.past, before, c.requires.from_in_bounds.1)

pub loop-stop-preserved : goal.loop-stop-preserved
loop-stop-preserved c =
    let w = along_stretch c.loop-stop.invariant.along c.steps-f.ensures.stretch c.steps-f.auto.text c.steps-f.auto.issues in
    let before = (stops _ _ _ _ c.in-Some.is c.steps-f.ensures.stop).0 in
    let step = c.step-next.ensures in
    record {
      along =
          along_to (omega (arith, step.ran.some)) (along_step w before (omega (arith, before, c.requires.from_in_bounds.1)) (outside_step 4 c.steps-f.result.at step.ran)
          (c.ended.ensures.1 c.if-ended.false)
          c.step-next.auto.text c.step-next.auto.issues);
      inside = step.inside;
    }
