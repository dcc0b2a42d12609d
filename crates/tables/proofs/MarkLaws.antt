-- What the test for a mark answers, by the place at which the search ends, and what an answer says. Assumes nothing.
use Prim.Native.Nat.{ℕ, suc, ◌<◌, ◌≤◌}
use mathlib.Core.Path.{◌≡◌, refl, sym, ap, ◌∙◌}
use mathlib.Core.Bool.{Bool, true, false, false≢true}
use native.Mathlib.Omega.{arith}
use borrow.Author.Tests.{ne_eqb, lt-ltb, le-ltb, ltb-true, ltb-false}
use lib.Dec.{ltb}
use Rattle.tables.specs.Kanji.{non_spacing, has_character}
use Rattle.tables.specs.Marks.{place_with, turns, mark_test}
use Rattle.tables.specs.declared.MarkTest.{MarkTest}
use Rattle.tables.proofs.CellLaws.{has_place}

-- nothing below U+0300 is a mark, nor anything past U+20DD
pub no_mark : (c : ℕ) → (0x300 ≤ c → 0x20DD < c) → has_character non_spacing c ≡ false
unfolding has_character
no_mark c h =
    rw (
      ne_eqb 0x301 c (λ q. between (omega (arith, q)) (omega (arith, q))),
      ne_eqb 0x300 c (λ q. between (omega (arith, q)) (omega (arith, q))),
      ne_eqb 0x308 c (λ q. between (omega (arith, q)) (omega (arith, q))),
      ne_eqb 0x302 c (λ q. between (omega (arith, q)) (omega (arith, q))),
      ne_eqb 0x305 c (λ q. between (omega (arith, q)) (omega (arith, q))),
      ne_eqb 0x332 c (λ q. between (omega (arith, q)) (omega (arith, q))),
      ne_eqb 0x20DD c (λ q. between (omega (arith, q)) (omega (arith, q))),
    )
  where
    between : 0x300 ≤ c → c ≤ 0x20DD → ⊥
    between a b = omega (arith, h a, b)

low : (c : ℕ) → c < 0x300 → has_character non_spacing c ≡ false
low c h = no_mark c (λ a. absurd (omega (arith, h, a)))

-- the three cases of the turns
module _ (c : ℕ) where
  pub turns_low : c < 0x300 → turns c ≡ 0
  unfolding turns
  turns_low h = rw (lt-ltb c 0x300 h)

  pub turns_mark : 0x300 ≤ c → has_character non_spacing c ≡ true → turns c ≡ suc (place_with non_spacing c)
  unfolding turns
  turns_mark h m = rw (le-ltb c 0x300 h, m)

  pub turns_other : 0x300 ≤ c → has_character non_spacing c ≡ false → turns c ≡ 7
  unfolding turns
  turns_other h m = rw (le-ltb c 0x300 h, m)

  -- a mark has a place, and is no lower than U+0300
  pub placed : has_character non_spacing c ≡ true → place_with non_spacing c < 7
  placed m = ltb-true (place_with non_spacing c) 7 (has_place non_spacing c ∙ m)

  pub mark_from : has_character non_spacing c ≡ true → 0x300 ≤ c
  mark_from m = go (ltb c 0x300) refl
    where
      go : (b : Bool) → ltb c 0x300 ≡ b → 0x300 ≤ c
      go true e = absurd (false≢true (sym (low c (ltb-true c 0x300 e)) ∙ m))
      go false e = ltb-false c 0x300 e

  -- the answers of the test
  answer : {m : Bool} {n : ℕ} → has_character non_spacing c ≡ m → turns c ≡ n → ◌≡◌ {A = MarkTest} (record { mark = m; turns = n }) (mark_test c)
  answer e f = rw (e, f)

  pub lower : c < 0x300 → ◌≡◌ {A = MarkTest} (record { mark = false; turns = 0 }) (mark_test c)
  lower h = answer (low c h) (turns_low h)

  pub met : {n : ℕ} → 0x300 ≤ c → place_with non_spacing c < 7 → suc (place_with non_spacing c) ≡ n → ◌≡◌ {A = MarkTest} (record { mark = true; turns = n }) (mark_test c)
  met h l e =
      let m = sym (has_place non_spacing c) ∙ lt-ltb (place_with non_spacing c) 7 l in
      answer m (turns_mark h m ∙ e)

  pub unmet : {n : ℕ} → 0x300 ≤ c → 7 ≤ place_with non_spacing c → 7 ≡ n → ◌≡◌ {A = MarkTest} (record { mark = false; turns = n }) (mark_test c)
  unmet h l e =
      let m = sym (has_place non_spacing c) ∙ le-ltb (place_with non_spacing c) 7 l in
      answer m (turns_other h m ∙ e)

-- what an answer says
module _ (c : ℕ) {r : MarkTest} (e : r ≡ mark_test c) where
  pub tested : {b : Bool} → r.mark ≡ b → has_character non_spacing c ≡ b
  tested f = sym (ap (λ (t : MarkTest). t.mark) e) ∙ f

  pub turned : r.mark ≡ true → r.turns ≡ suc (place_with non_spacing c)
  turned f = ap (λ (t : MarkTest). t.turns) e ∙ turns_mark c (mark_from c (tested f)) (tested f)
