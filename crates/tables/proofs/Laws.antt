-- The turns of the test for a mark, by name: specs/Laws.antt states them. Assumes nothing.
use Prim.Native.Nat.{ℕ, suc, ◌+◌, ◌-◌, ◌<◌, ◌≤◌}
use mathlib.Core.Path.{◌≡◌, refl, sym, ap, ◌∙◌}
use mathlib.Core.Bool.{Bool, true, false, cond, ◌||◌}
use mathlib.Core.List.{List, [], ◌∷◌, map}
use native.Mathlib.Omega.{arith}
use borrow.Author.Tests.{eqb-true, ltb-true, ltb-false, lt-leb}
use lib.Dec.{eqb, ltb, leb, eqb→eq, ltb→lt}
use lib.ListN.{length, get_or}
use Rattle.base.proofs.Table.{at}
use Rattle.tables.specs.Kanji.{non_spacing, has_character}
use Rattle.tables.specs.Marks.{place_with, turns}
use Rattle.tables.specs.Laws.{marks, places, MarksInOrder, TurnsNone, TurnsMost, TurnsPlace, TurnsApart}
use Rattle.tables.specs.declared.Assignment.{Assignment}
use Rattle.tables.proofs.MarkLaws.{turns_low, turns_mark, turns_other, placed, mark_from}

pub marks_in_order : MarksInOrder
marks_in_order i h =
    ltb→lt (get_or places i 0) (get_or places (i + 1) 0) (rw (lt-leb 6 i h) at (at 0 (λ i p. leb 6 i || ltb p (get_or places (i + 1) 0)) places tt i (omega (arith, h))))

-- what holds of the turns, by their three cases
by_cases : (P : ℕ → Type 0) (c : ℕ) → (c < 0x300 → P 0) → ((n : ℕ) → 0x300 ≤ c → n < 7 → P (suc n)) → P (turns c)
by_cases P c none some = go (ltb c 0x300) refl (has_character non_spacing c) refl
  where
    go : (l : Bool) → ltb c 0x300 ≡ l → (m : Bool) → has_character non_spacing c ≡ m → P (turns c)
    go true e m f = let h = ltb-true c 0x300 e in rw (turns_low c h) (none h)
    go false e true f = let h = ltb-false c 0x300 e in rw (turns_mark c h f) (some (place_with non_spacing c) h (placed c f))
    go false e false f = let h = ltb-false c 0x300 e in rw (turns_other c h f) (some 6 h (omega arith))

pub turns_none : TurnsNone
turns_none c = (turns_low c, by_cases (λ n. n ≡ 0 → c < 0x300) c (λ h z. h) (λ n h l z. absurd (omega (arith, z))))

pub turns_most : TurnsMost
turns_most c = by_cases (λ n. n ≤ 7) c (λ h. omega arith) (λ n h l. omega (arith, l))

-- the character at a place found
there : (list : List Assignment) (c : ℕ) → place_with list c < length list → get_or (map (λ (a : Assignment). a.character) list) (place_with list c) 0 ≡ c
unfolding place_with
there [] c h = absurd (omega arith)
there (a ∷ more) c h = go (eqb a.character c) refl h (there more c)
  where
    characters : List Assignment → List ℕ
    characters = map (λ (b : Assignment). b.character)

    go : (b : Bool) → eqb a.character c ≡ b → cond b 0 (suc (place_with more c)) < suc (length more)
        → (place_with more c < length more → get_or (characters more) (place_with more c) 0 ≡ c)
        → get_or (characters (a ∷ more)) (cond b 0 (suc (place_with more c))) 0 ≡ c
    go true e l r = eqb-true a.character c e
    go false e l r = r (omega arith)

named : (c : ℕ) → has_character non_spacing c ≡ true → get_or marks (turns c - 1) 0 ≡ c
named c m =
    let e = turns_mark c (mark_from c m) m in
    let p : turns c - 1 ≡ place_with non_spacing c = omega (arith, e) in
    rw p (there non_spacing c (placed c m))

pub turns_place : TurnsPlace
unfolding turns has_character place_with
turns_place = (λ i h. eqb→eq (turns (get_or marks i 0)) (i + 1) (at 0 (λ i c. eqb (turns c) (i + 1)) marks tt i h), named)

pub turns_apart : TurnsApart
turns_apart c d m n e = sym (named c m) ∙ ap (λ (k : ℕ). get_or marks (k - 1) 0) e ∙ named d n
