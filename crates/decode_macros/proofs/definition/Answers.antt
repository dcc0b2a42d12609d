-- `definition` meets its contract: a branch for each case of the definition. Assumes nothing.
use Prim.Native.Nat.{ℕ, ◌+◌, ◌-◌, ◌%◌, ◌≤◌, ◌<◌}
use mathlib.Core.Path.{◌≡◌, ap, ◌∙◌, subst}
use mathlib.Core.Bool.{cond}
use native.Mathlib.Omega.{arith}
use lib.ListN.{length, drop, get_or}
use Rattle.reading.specs.Macros.{end_of, defined}
use Rattle.decode_macros.specs.Promises.{commanded, Defined}
use Rattle.decode_macros.proofs.Laws.{definition_none, definition_ends, definition_open, defined_at}
use Rattle.decode_macros.proofs.definition.Goals as goal

pub returns-then-i-b : goal.returns-then-i-b
unfolding commanded
returns-then-i-b c =
    let b = c.args.b.now in
    let i = c.args.i in
    let h : i + 1 < length b = c.requires in
    let k : length b ≤ i + 2 = omega arith in
    record { means = λ g left R place at s. definition_none b i g left R _ place at s h k; within = tt }

pub returns-then-end-b : goal.returns-then-end-b
unfolding commanded
returns-then-end-b c =
    let b = c.args.b.now in
    let i = c.args.i in
    let h : i + 2 < length b = omega arith in
    let k : i + 3 + end_of (drop (i + 3) b) < length b = omega arith in
    let p : ℕ = cond c.args.runs 0x41 0x40 in
    let e : end_of (drop (i + 3) b) ≡ c.body_end-end.result - (i + 3) = omega arith in record { means = λ g left R place at s. definition_ends b i g left R p place at s h k ∙ ap (λ n. defined g left R p (get_or b (i + 2) 0 % 128) n place at s) e; within = subst (λ n. Defined (get_or b (i + 2) 0 % 128) n b i) e (defined_at b i (get_or b (i + 2) 0) k) }

pub returns-else-end-b : goal.returns-else-end-b
unfolding commanded
returns-else-end-b c =
    let b = c.args.b.now in
    let i = c.args.i in
    let h : i + 2 < length b = omega arith in
    let k : length b ≤ i + 3 + end_of (drop (i + 3) b) = omega arith in
    record { means = λ g left R place at s. definition_open b i g left R _ place at s h k; within = tt }
