-- `decode_output::digit` meets its contract. Assumes nothing.
use mathlib.Core.Path.{refl, sym, ap}
use native.Mathlib.Omega.{arith}
use borrow.Author.Tests.{ne_eqb}
use Rattle.decode_output.specs.Waiting.{digit}
use Rattle.decode_output.proofs.digit.Goals as goal

pub returns-in-769 : goal.returns-in-769
unfolding digit
returns-in-769 c = (sym (ap digit c.in-769.is), omega arith)

pub returns-in-768 : goal.returns-in-768
unfolding digit
returns-in-768 c = (sym (ap digit c.in-768.is), omega arith)

pub returns-in-776 : goal.returns-in-776
unfolding digit
returns-in-776 c = (sym (ap digit c.in-776.is), omega arith)

pub returns-in-770 : goal.returns-in-770
unfolding digit
returns-in-770 c = (sym (ap digit c.in-770.is), omega arith)

pub returns-in-773 : goal.returns-in-773
unfolding digit
returns-in-773 c = (sym (ap digit c.in-773.is), omega arith)

pub returns-in-818 : goal.returns-in-818
unfolding digit
returns-in-818 c = (sym (ap digit c.in-818.is), omega arith)

pub returns-in_default : goal.returns-in_default
unfolding digit
returns-in_default c =
    let six = c.in_default.in_default-own.rest in
    let five = six.0 in
    let four = five.0 in
    let three = four.0 in
    let two = three.0 in
    let one = two.0 in
    let m = c.args.m in (
      rw (ne_eqb m 0x301 one.1, ne_eqb m 0x300 two.1, ne_eqb m 0x308 three.1, ne_eqb m 0x302 four.1, ne_eqb m 0x305 five.1, ne_eqb m 0x332 six.1) refl,
      omega arith,
    )
