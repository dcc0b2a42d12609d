-- `apply` meets its contract, by the effect. Assumes nothing.
use mathlib.Core.Path.{subst}
use Rattle.reading.specs.State.{truncated}
use Rattle.reading.specs.Controls.{unknown}
use Rattle.decode_controls.specs.Controls.{Bounded, step_of}
use Rattle.decode_reports.proofs.Moving.{moved_effect, moved_same, moved_gl, moved_gr, moved_sets, moved_narrow}
use Rattle.decode_reports.proofs.apply.Goals as goal

pub bounds-core-element : goal.bounds-core-element
bounds-core-element c = (subst Bounded c.in-Designates.is c.requires.bounded.0).element

pub repeat-requires : goal.repeat-requires
repeat-requires c =
    record { n_bound = (subst Bounded c.in-Repeat.is c.requires.bounded.0).count; may_take = c.requires.may_take }

pub returns-in-Nothing : goal.returns-in-Nothing
unfolding step_of
returns-in-Nothing c =
    let a = c.args in
    λ t. moved_effect a.start a.at c.in-Nothing.is (moved_same a.s t a.issues.now c.requires.may_take a.used)

pub returns-in-Gl : goal.returns-in-Gl
unfolding step_of
returns-in-Gl c =
    let a = c.args in
    let p = c.requires in
    let is = c.in-Gl.is in
    λ t. moved_effect a.start a.at is (moved_gl a.s t a.issues.now p.may_take a.used _ (subst Bounded is p.bounded.0).element)

pub returns-in-Gr : goal.returns-in-Gr
unfolding step_of
returns-in-Gr c =
    let a = c.args in
    let p = c.requires in
    let is = c.in-Gr.is in
    λ t. moved_effect a.start a.at is (moved_gr a.s t a.issues.now p.may_take a.used _ (subst Bounded is p.bounded.0).element)

pub returns-in-Designates : goal.returns-in-Designates
unfolding step_of
returns-in-Designates c =
    let a = c.args in
    λ t. moved_effect a.start a.at c.in-Designates.is (moved_sets a.s t a.issues.now c.requires.may_take a.used _ _)

pub returns-in-Narrow : goal.returns-in-Narrow
unfolding step_of
returns-in-Narrow c =
    let a = c.args in
    λ t. moved_effect a.start a.at c.in-Narrow.is (moved_narrow a.s t a.issues.now c.requires.may_take a.used _)

pub returns-in-Repeat : goal.returns-in-Repeat
unfolding step_of
returns-in-Repeat c =
    let a = c.args in
    λ t. moved_effect a.start a.at c.in-Repeat.is (c.repeat.ensures t)

pub returns-in-Truncated : goal.returns-in-Truncated
unfolding step_of truncated
returns-in-Truncated c =
    let a = c.args in
    λ t. moved_effect a.start a.at c.in-Truncated.is (c.report.ensures t)

pub returns-in-Malformed : goal.returns-in-Malformed
unfolding step_of
returns-in-Malformed c =
    let a = c.args in
    λ t. moved_effect a.start a.at c.in-Malformed.is (c.report-in-Malformed.ensures t)

pub returns-in-UnknownEscape : goal.returns-in-UnknownEscape
unfolding step_of unknown
returns-in-UnknownEscape c =
    let a = c.args in
    λ t. moved_effect a.start a.at c.in-UnknownEscape.is (c.report-in-UnknownEscape.ensures t)

pub returns-in-Undefined : goal.returns-in-Undefined
unfolding step_of
returns-in-Undefined c =
    let a = c.args in
    λ t. moved_effect a.start a.at c.in-Undefined.is (c.report-in-Undefined.ensures t)
