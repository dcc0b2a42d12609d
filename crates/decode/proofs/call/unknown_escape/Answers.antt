-- `unknown_escape`: the part, or the empty one at the beginning.
use Prim.Native.Nat.{◌+◌, ◌-◌, ◌≤◌, ◌<◌}
use mathlib.Core.Path.{◌≡◌}
use native.Mathlib.Omega.{arith}
use borrow.Author.Tests.{le-leb, lt-leb}
use lib.ListN.{length, drop, length-drop}
use Rattle.reading.specs.Call.{escape_part}
use Rattle.decode.proofs.call.unknown_escape.Goals as goal

pub returns-then-start-input : goal.returns-then-start-input
unfolding escape_part
returns-then-start-input c = rw (lt-leb _ _ c.if-start-input.true)

pub returns-then-len-input : goal.returns-then-len-input
unfolding escape_part
returns-then-len-input c =
    let a = c.args in
    let p : length (drop a.start a.input.now) < a.len = omega (arith, length-drop a.start a.input.now, c.if-len-input.true) in
    rw (le-leb _ _ c.if-start-input.false, lt-leb _ _ p)

pub returns : goal.returns
unfolding escape_part
returns c =
    let a = c.args in
    let rest = length-drop a.start a.input.now in
    let p : a.len ≤ length (drop a.start a.input.now) = omega (arith, rest, c.if-len-input.false, c.if-start-input.false) in
    let e : a.start + a.len - a.start ≡ a.len = omega arith in
    rw (le-leb _ _ c.if-start-input.false, le-leb _ _ p, e)
