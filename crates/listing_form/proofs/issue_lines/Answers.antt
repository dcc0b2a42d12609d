-- `issue_lines` meets its contract: the lines of the issues that are left are still to be put. Assumes nothing.
use mathlib.Core.Path.{◌≡◌, ap₂, subst}
use Prim.Native.Nat.{ℕ, ◌+◌, ◌-◌, ◌*◌, ◌<◌, ◌≤◌}
use native.Mathlib.Omega.{arith}
use mathlib.Core.List.{List}
use lib.ListN.{length, drop}
use Rattle.lent.proofs.Putting.{Rest, rest_all}
use Rattle.issues.specs.Issue.{numbers}
use Rattle.listing_form.specs.Lines.{issue_lines}
use Rattle.listing_form.proofs.Lines.{issue_whole, lines_turn, lines_end}
use Rattle.listing_form.proofs.issue_lines.Goals as goal

pub loop-i-init : goal.loop-i-init
loop-i-init c =
    let g = c.args in
    let e : g.k ≡ g.k - 0 = omega arith in
    (omega arith, subst (λ (n : ℕ). Rest g.out.now g.at (issue_lines g.k g.issues.now) g.out.now g.at (issue_lines n g.issues.now)) e (rest_all _ _ _))

pub slice_bounds-issue_line-end : goal.slice_bounds-issue_line-end
slice_bounds-issue_line-end c = omega (arith, c.loop-i-test.true, c.requires.2)

pub issue_line-next-requires : goal.issue_line-next-requires
issue_line-next-requires c =
    let g = c.args in
    let i = c.loop-i.i in
    let h : i * numbers + numbers ≤ length g.issues.now = omega (arith, c.loop-i-test.true, c.requires.2) in
    let w = issue_whole g.issues.now (i * numbers) h in
    (omega (arith, c.loop-i-test.true, c.loop-i.invariant.0, c.requires), omega (arith, w), omega (arith, w))

pub loop-i-preserved : goal.loop-i-preserved
loop-i-preserved c =
    let g = c.args in
    let i = c.loop-i.i in
    let h : i * numbers + numbers ≤ length g.issues.now = omega (arith, c.loop-i-test.true, c.requires.2) in
    let w = issue_whole g.issues.now (i * numbers) h in
    let e : g.k - i - 1 ≡ g.k - (i + 1) = omega arith in
    let f : i * numbers + numbers ≡ (i + 1) * numbers = omega arith in
    let t : 0 < g.k - i = omega (arith, c.loop-i-test.true) in
    let d = c.issue_line-next.ensures in (
      omega (arith, d.upper_bound, c.loop-i.invariant.0, w),
      subst (λ (l : List ℕ). Rest g.out.now g.at (issue_lines g.k g.issues.now) c.issue_line-next.new.out c.issue_line-next.result l)
          (ap₂ (λ (a b : ℕ). issue_lines a (drop b g.issues.now)) e f)
          (lines_turn g.issues.now (i * numbers) (g.k - i) c.loop-i.invariant.1 t d.put),
    )

pub returns : goal.returns
returns c = lines_end c.args.issues.now (c.loop-i.i * numbers) (c.args.k - c.loop-i.i) c.loop-i.invariant.1 (omega (arith, c.loop-i-test.false))
