-- `letters` meets its contract. Assumes nothing.
use mathlib.Core.Path.{sym, ◌∙◌}
use Rattle.decode_runs.proofs.Runs.{stretch_runs, plain_text}
use Rattle.decode_runs.proofs.letters.Goals as goal

pub returns : goal.returns
returns c =
    let s = c.args.s in
    let begins = c.may_begin.ensures c.if-not-may_begin.false in
    λ base origin i.
    stretch_runs i base origin c.requires.may_take (plain_text s begins ∙ sym (c.settings_of-settings.ensures.same s.out.len s.out.private_use)) c.with_settings.ensures
    c.runs_from-w.ensures
