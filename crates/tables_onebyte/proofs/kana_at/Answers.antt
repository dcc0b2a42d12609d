-- `tables_onebyte::kana_at` meets its contract: a run, and eight signs. Assumes nothing.
use mathlib.Core.Path.{sym, ap, ◌∙◌}
use Rattle.tables_onebyte.specs.Promises.{kana_at}
use Rattle.tables_onebyte.proofs.CodeLaws.{in_run, off_signs}
use Rattle.tables_onebyte.proofs.kana_at.Goals as goal

pub returns-then-letter-ne0 : goal.returns-then-letter-ne0
returns-then-letter-ne0 c =
    let e = c.run_at-letter.ensures in
    e ∙ in_run c.args.kana c.requires c.args.c (λ h. c.if-letter-ne0.true (e ∙ h))

pub returns-in-119 : goal.returns-in-119
unfolding kana_at
returns-in-119 c = ap (kana_at c.args.kana) (sym c.in-119.is)

pub returns-in-120 : goal.returns-in-120
unfolding kana_at
returns-in-120 c =
    ap (kana_at c.args.kana) (sym c.in-120.is)

pub returns-in-121 : goal.returns-in-121
unfolding kana_at
returns-in-121 c = ap (kana_at c.args.kana) (sym c.in-121.is)

pub returns-in-122 : goal.returns-in-122
unfolding kana_at
returns-in-122 c = ap (kana_at c.args.kana) (sym c.in-122.is)

pub returns-in-123 : goal.returns-in-123
unfolding kana_at
returns-in-123 c = ap (kana_at c.args.kana) (sym c.in-123.is)

pub returns-in-124 : goal.returns-in-124
unfolding kana_at
returns-in-124 c = ap (kana_at c.args.kana) (sym c.in-124.is)

pub returns-in-125 : goal.returns-in-125
unfolding kana_at
returns-in-125 c = ap (kana_at c.args.kana) (sym c.in-125.is)

pub returns-in-126 : goal.returns-in-126
unfolding kana_at
returns-in-126 c = ap (kana_at c.args.kana) (sym c.in-126.is)

pub returns-in_default : goal.returns-in_default
returns-in_default c =
    let n = c.in_default.in_default-own.rest in
    sym (off_signs c.args.kana c.requires c.args.c n.0.0.0.0.0.0.0.1 n.0.0.0.0.0.0.1 n.0.0.0.0.0.1 n.0.0.0.0.1 n.0.0.0.1
    n.0.0.1 n.0.1 n.1 ∙ sym c.run_at-letter.ensures ∙ c.if-letter-ne0.false)
