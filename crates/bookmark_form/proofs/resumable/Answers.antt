-- `resumable` meets its contract. Assumes nothing.
use mathlib.Core.Path.{refl, sym, ◌∙◌}
use Rattle.bookmark_form.specs.Form.{resumable}
use Rattle.bookmark_form.proofs.Below.{stops, passes}
use Rattle.bookmark_form.proofs.Resumes.{counts_known}
use Rattle.bookmark_form.proofs.resumable.Goals as goal

pub returns-then-not-settings_hold : goal.returns-then-not-settings_hold
unfolding resumable
returns-then-not-settings_hold c =
    stops _ _ (sym c.settings_hold.ensures ∙ c.if-not-settings_hold.true)

pub returns-then-not-counts_hold : goal.returns-then-not-counts_hold
unfolding resumable
returns-then-not-counts_hold c =
    passes _ _ (sym c.settings_hold.ensures ∙ c.if-not-settings_hold.false)
    (stops _ _ (sym (c.counts_hold.ensures c.args.input.now refl) ∙ c.if-not-counts_hold.true))

pub marks_hold-requires : goal.marks_hold-requires
marks_hold-requires c =
    (c.requires.1, (counts_known c.args.input.now c.args.l.now (sym (c.counts_hold.ensures c.args.input.now refl) ∙ c.if-not-counts_hold.false)).2)

pub returns-then-not-marks_hold : goal.returns-then-not-marks_hold
unfolding resumable
returns-then-not-marks_hold c =
    passes _ _ (sym c.settings_hold.ensures ∙ c.if-not-settings_hold.false)
    (passes _ _ (sym (c.counts_hold.ensures c.args.input.now refl) ∙ c.if-not-counts_hold.false)
    (stops _ _ (sym c.marks_hold.ensures ∙ c.if-not-marks_hold.true)))

pub returns : goal.returns
unfolding resumable
returns c =
    passes _ _ (sym c.settings_hold.ensures ∙ c.if-not-settings_hold.false)
    (passes _ _ (sym (c.counts_hold.ensures c.args.input.now refl) ∙ c.if-not-counts_hold.false)
    (passes _ _ (sym c.marks_hold.ensures ∙ c.if-not-marks_hold.false) c.bodies_hold.ensures))
