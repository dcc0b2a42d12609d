-- `read_command` meets its contract: a branch for each parameter. Assumes nothing.
use Prim.Native.Nat.{◌+◌, ◌≤◌, ◌<◌}
use mathlib.Core.Path.{◌≡◌, refl, ◌∙◌}
use native.Mathlib.Omega.{arith}
use lib.ListN.{length, get_or}
use Rattle.decode_macros.specs.Promises.{commanded}
use Rattle.decode_macros.proofs.Laws.{cmd_none, cmd_ends, cmd_defines, cmd_other}
use Rattle.decode_macros.proofs.read_command.Goals as goal

pub returns-then-i-b : goal.returns-then-i-b
unfolding commanded
returns-then-i-b c =
    let b = c.args.b.now in
    let i = c.args.i in
    let h : i < length b = c.requires in
    let k : length b ≤ i + 1 = omega arith in
    record { means = λ g left R place at s. cmd_none b i g left R place at s h k; within = tt }

pub returns-in-79 : goal.returns-in-79
unfolding commanded
returns-in-79 c =
    let b = c.args.b.now in
    let i = c.args.i in
    let h : i + 1 < length b = omega arith in
    let e : get_or b (i + 1) 0 ≡ 0x4F = c.in-79.is in
    record { means = λ g left R place at s. cmd_ends b i g left R h place at s e; within = record { room = omega arith; byte = e } }

pub returns-in-64 : goal.returns-in-64
returns-in-64 c =
    let b = c.args.b.now in
    let i = c.args.i in
    let h : i + 1 < length b = omega arith in
    let e : get_or b (i + 1) 0 ≡ 0x40 = c.in-64.is in record { means = λ g left R place at s. cmd_defines b i g left R h 0x40 place at s (refl, refl) e ∙ c.definition.ensures.means g left R place at s; within = c.definition.ensures.within }

pub returns-in-65 : goal.returns-in-65
returns-in-65 c =
    let b = c.args.b.now in
    let i = c.args.i in
    let h : i + 1 < length b = omega arith in
    let e : get_or b (i + 1) 0 ≡ 0x41 = c.in-65.is in record { means = λ g left R place at s. cmd_defines b i g left R h 0x41 place at s (refl, refl) e ∙ c.definition-in-65.ensures.means g left R place at s; within = c.definition-in-65.ensures.within }

pub returns-in_default : goal.returns-in_default
unfolding commanded
returns-in_default c =
    let b = c.args.b.now in
    let i = c.args.i in
    let h : i + 1 < length b = omega arith in
    record { means = λ g left R place at s. cmd_other b i g left R h place at s c.in_default.in_default-own.rest.0.0.1 c.in_default.in_default-own.rest.0.1 c.in_default.in_default-own.rest.1; within = omega arith }
