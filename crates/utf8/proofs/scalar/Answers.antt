-- `utf8::scalar` meets its contract: the ranges of the match are those of the first byte in Table 3-7. Assumes nothing.
use mathlib.Core.Path.{sym, ap, ◌∙◌}
use native.Mathlib.Omega.{arith}
use Prim.Native.Nat.{◌-◌}
use lib.ListN.{length, take, drop}
use Rattle.utf8.specs.Utf8.{scalar_of}
use Rattle.utf8.proofs.Reading.{at1, at2, at3, at4, at_none, at_past}
use Rattle.utf8.proofs.Places.{headed, empty}
use Rattle.utf8.proofs.scalar.Goals as goal

pub returns-in_default : goal.returns-in_default
returns-in_default c = empty _ c.in_default.len_below

pub returns-in-0-to-127 : goal.returns-in-0-to-127
returns-in-0-to-127 c = ap scalar_of (sym (at1 _ _ (omega arith)) ∙ headed _ c.in-len1-up.len_at_least)

pub returns-in-194-to-223 : goal.returns-in-194-to-223
returns-in-194-to-223 c = c.two.ensures ∙ ap scalar_of (sym (at2 _ _ (omega arith) (omega arith)) ∙ headed _ c.in-len1-up.len_at_least)

pub returns-in-224-to-239 : goal.returns-in-224-to-239
returns-in-224-to-239 c = c.three.ensures ∙ ap scalar_of (sym (at3 _ _ (omega arith) (omega arith)) ∙ headed _ c.in-len1-up.len_at_least)

pub returns-in-240-to-244 : goal.returns-in-240-to-244
returns-in-240-to-244 c = c.four.ensures ∙ ap scalar_of (sym (at4 _ _ (omega arith) (omega arith)) ∙ headed _ c.in-len1-up.len_at_least)

pub returns-in_default-a : goal.returns-in_default-a
returns-in_default-a c =
    ap scalar_of (sym (at_none _ (take (length c.args.text.now - 1) (drop 1 c.args.text.now)) (omega arith) (omega arith)) ∙ headed _ c.in-len1-up.len_at_least)

pub returns-in_default-a-2 : goal.returns-in_default-a-2
returns-in_default-a-2 c =
    ap scalar_of (sym (at_past _ (take (length c.args.text.now - 1) (drop 1 c.args.text.now)) (omega arith)) ∙ headed _ c.in-len1-up.len_at_least)
