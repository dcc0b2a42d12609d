-- `having` meets its contract: of the entries from the last on so many have the key. Assumes nothing.
use Prim.Native.Nat.{ℕ, suc, ◌+◌, ◌-◌, ◌*◌, ◌<◌}
use mathlib.Core.Path.{◌≡◌, sym, subst, ◌∙◌}
use native.Mathlib.Omega.{arith}
use lib.ListN.{get_or, drop, length-drop}
use lib.Seq.{get_or-drop}
use Rattle.catalogue_form.specs.Form.{entries_of}
use Rattle.catalogue_places.proofs.Looking.{same_front, Counted, counted_none, counted_one, counted_not}
use Rattle.catalogue_places.proofs.having.Goals as goal

pub loop-i-init : goal.loop-i-init
loop-i-init c = (omega arith, counted_none c.args.key.now c.args.n c.args.places.now)

pub loop-i-preserved-then-has : goal.loop-i-preserved-then-has
loop-i-preserved-then-has c =
    let a = c.args in
    let i = c.loop-i.i - 1 in
    let l = drop (i * 260) a.places.now in
    let s : i * 260 + 260 - i * 260 ≡ 260 = omega arith in
    let one : c.loop-i.i ≡ suc i = omega (arith, c.loop-i-test.true) in
    let byte : get_or l 4 0 < 256 = omega (arith, c.type_inv.places (i * 260 + 4), get_or-drop (i * 260) a.places.now 4 0) in
    let asked = same_front a.key.now l _ s (omega (arith, one, c.loop-i.auto.i, c.requires.n_in_bounds, length-drop (i * 260) a.places.now)) byte ∙ sym c.has.ensures in
    let counted = subst (λ (k : ℕ). Counted a.key.now (drop k (entries_of a.n a.places.now)) c.loop-i.entries c.loop-i.number) one c.loop-i.invariant.1 in (
      omega (arith, c.loop-i.invariant.0, one),
      subst (λ (v : ℕ). Counted a.key.now (drop i (entries_of a.n a.places.now)) (c.loop-i.entries + 1) v) (sym c.number-number.ensures)
          (counted_one a.key.now i a.n a.places.now (omega (arith, one, c.loop-i.auto.i)) counted (asked ∙ c.if-has.true)),
    )

pub loop-i-preserved : goal.loop-i-preserved
loop-i-preserved c =
    let a = c.args in
    let i = c.loop-i.i - 1 in
    let l = drop (i * 260) a.places.now in
    let s : i * 260 + 260 - i * 260 ≡ 260 = omega arith in
    let one : c.loop-i.i ≡ suc i = omega (arith, c.loop-i-test.true) in
    let byte : get_or l 4 0 < 256 = omega (arith, c.type_inv.places (i * 260 + 4), get_or-drop (i * 260) a.places.now 4 0) in
    let asked = same_front a.key.now l _ s (omega (arith, one, c.loop-i.auto.i, c.requires.n_in_bounds, length-drop (i * 260) a.places.now)) byte ∙ sym c.has.ensures in
    let counted = subst (λ (k : ℕ). Counted a.key.now (drop k (entries_of a.n a.places.now)) c.loop-i.entries c.loop-i.number) one c.loop-i.invariant.1 in
    (omega (arith, c.loop-i.invariant.0, one), counted_not a.key.now i a.n a.places.now (omega (arith, one, c.loop-i.auto.i)) counted (asked ∙ c.if-has.false))

pub returns : goal.returns
returns c =
    let a = c.args in
    let none : c.loop-i.i ≡ 0 = omega (arith, c.loop-i-test.false) in
    let v = subst (λ (k : ℕ). Counted a.key.now (drop k (entries_of a.n a.places.now)) c.loop-i.entries c.loop-i.number) none c.loop-i.invariant.1 in
    record { entries_value = v.count; number_value = v.first }
