-- `decimal` meets its contract: the number falls with each call of itself. Assumes nothing.
use Rattle.ascii.proofs.Digits.{decimal_put, decimal_last, decimal_few}
use native.Mathlib.Omega.{arith}
use Prim.Native.Nat.{◌/◌}
use Rattle.ascii.proofs.+decimal.Goals as goal

pub returns-then-n-lt10 : goal.returns-then-n-lt10
returns-then-n-lt10 t c = record {
  put = decimal_put c.if-n-lt10.true c.digit.ensures c.put.ensures;
  upper_bound = omega arith;
}

pub overflow_add-result-2 : goal.overflow_add-result-2
overflow_add-result-2 t c =
    omega (arith, c.decimal-next.ensures.put.next, decimal_few 19 (c.args.n / 10) (omega arith))

pub returns : goal.returns
returns t c = record {
  put = decimal_last c.if-n-lt10.false c.decimal-next.ensures.put c.digit-2.ensures c.put-2.ensures;
  upper_bound = omega (arith, c.decimal-next.ensures.put.next, decimal_few 18 (c.args.n / 10) (omega arith));
}
