-- `rise` meets its contract: what is left to ask of the places is what was asked of all. Assumes nothing.
use Prim.Native.Nat.{ℕ, ◌+◌, ◌-◌, ◌*◌}
use mathlib.Core.Path.{◌≡◌, sym, ap, ◌∙◌}
use native.Mathlib.Omega.{arith}
use lib.ListN.{take, drop}
use Rattle.catalogue_form.specs.Promises.{zero_behind, places_hold}
use Rattle.catalogue_form.proofs.Places.{hold_end, hold_low, hold_dirt, hold_next}
use Rattle.catalogue_form.proofs.rise.Goals as goal
use Rattle.catalogue_form.proofs.rise.Goals.{then-number-least-via-then-number-least, then-number-least-via-else-number-least+then-not-zero_behind}

pub returns-then-number-least : goal.returns-then-number-least
returns-then-number-least c =
    let a = c.args in
    let i = c.loop-i.i in
    let size : i * 260 + 260 - i * 260 ≡ 260 = omega arith in
    elim c.then-number-least.branch [
      | then-number-least-via-then-number-least w ↦
          hold_low a.places.now a.n i c.loop-i.least c.loop-i.invariant.1 c.loop-i-test.true
          (omega (arith, c.number.ensures, c.from-number.ensures, w.if-number-least.true))
      | then-number-least-via-else-number-least+then-not-zero_behind w ↦
          hold_dirt a.places.now a.n i c.loop-i.least c.loop-i.invariant.1 c.loop-i-test.true
          (omega (arith, c.number.ensures, c.from-number.ensures, w.if-number-least.false))
          (ap (λ (k : ℕ). zero_behind (take k (drop (i * 260) a.places.now))) (sym size) ∙ (sym w.zero_behind.ensures ∙ w.if-not-zero_behind.true))
    ]

pub loop-i-preserved : goal.loop-i-preserved
loop-i-preserved c =
    let a = c.args in
    let i = c.loop-i.i in
    let size : i * 260 + 260 - i * 260 ≡ 260 = omega arith in
    let clean = ap (λ (k : ℕ). zero_behind (take k (drop (i * 260) a.places.now))) (sym size) ∙ (sym c.zero_behind.ensures ∙ c.if-not-zero_behind.false) in
    let next = hold_next a.places.now a.n i c.loop-i.least c.loop-i.invariant.1 c.loop-i-test.true
    (omega (arith, c.number.ensures, c.from-number.ensures, c.if-number-least.false)) clean in
    let same = c.from-number.ensures ∙ c.number.ensures in
    (omega arith, next ∙ ap (λ (k : ℕ). places_hold (k + 1) (a.n - (i + 1)) (drop ((i + 1) * 260) a.places.now)) (sym same))

pub returns : goal.returns
returns c =
    hold_end c.args.places.now c.args.n c.loop-i.i c.loop-i.least c.loop-i.invariant.1 c.loop-i-test.false
