-- A bookmark's numbers, put one part after the other. Assumes nothing.
use Prim.Native.Nat.{ℕ, zero, suc, ◌+◌, ◌-◌, ◌≤◌}
use mathlib.Core.Path.{◌≡◌, refl, sym, ap, ◌∙◌}
use mathlib.Core.Bool.{Bool, true, false, cond}
use native.Mathlib.Numerals.{add-one}
use native.Mathlib.Omega.{arith}
use mir.Val.{bool_byte}
use mathlib.Core.List.{List, [], ◌∷◌, ◌++◌, map, append_assoc}
use lib.ListN.{length, take, drop, get_or, get_or-map}
use lib.Seq.{sets-eq}
use borrow.Rule.Slice.PartMut.{put_mid}
use Rattle.std.proofs.lemmas.Slice.{put_mid-paste}
use Rattle.std.proofs.lemmas.List.Edits.{paste_all}
use Rattle.lent.specs.Put.{Put}
use Rattle.base.specs.Lists.{All}
use Rattle.tables.specs.Kanji.{non_spacing, has_character}
use Rattle.questions.specs.Buffer.{padded}
use Rattle.decode_output.proofs.Held.{held_waiting}
use Rattle.reading.specs.State.{Given, State}
use Rattle.decode_state.specs.declared.Core.{Core}
use Rattle.decode_state.specs.Promises.{Whole, Holds}
use Rattle.bookmark_form.specs.Numbers.{plus_one, numbers}
use Rattle.bookmark_marks.specs.Marks.{unpacked}
use Rattle.bookmark_marks.proofs.Packing.{unpacked_packed}

pub plus_none : (n : ℕ) → n ≡ 0 → 0 ≡ plus_one n
unfolding plus_one
plus_none n e = sym (ap plus_one e)

pub plus_some : (n : ℕ) → (n ≡ 0 → ⊥) → n + 1 ≡ plus_one n
unfolding plus_one
plus_some zero h = absurd (h refl)
plus_some (suc n) h = add-one (suc n)

pub length_plus : (s : List ℕ) → length (map plus_one s) ≡ length s
length_plus [] = refl
length_plus (x ∷ s) = ap suc (length_plus s)

pub plus_at : (s : List ℕ) (i : ℕ) → get_or (map plus_one s) i 0 ≡ plus_one (get_or s i 0)
unfolding plus_one
plus_at s i = get_or-map plus_one s i 0

-- numbers copied into a part
pub put_copied : (l xs : List ℕ) (n : ℕ) {ys : List ℕ} → n + length xs ≤ length l → ys ≡ xs → Put l n xs (put_mid n (n + length xs - n) l ys) (n + length xs)
put_copied l xs n {ys} h e =
    let k : length xs ≡ n + length xs - n = omega arith in
    record {
      written =
          put_mid-paste n (n + length xs - n) l ys xs (length xs) e k refl
          ∙ paste_all l n xs (length xs) refl
          ∙ sym (sets-eq xs l n h ∙ append_assoc (take n l) xs (drop (n + length xs) l));
      next = refl;
    }

-- whether the size is narrow, as a number
pub byte : (u : Bool) → bool_byte u ≡ cond u 1 0
byte true = refl
byte false = refl

-- four numbers, one by one
pub four_of : (l : List ℕ) → length l ≡ 4 → l ≡ get_or l 0 0 ∷ get_or l 1 0 ∷ get_or l 2 0 ∷ get_or l 3 0 ∷ []
four_of [] q = absurd (omega arith)
four_of (a ∷ []) q = absurd (omega arith)
four_of (a ∷ b ∷ []) q = absurd (omega arith)
four_of (a ∷ b ∷ c ∷ []) q = absurd (omega arith)
four_of (a ∷ b ∷ c ∷ d ∷ []) q = refl
four_of (a ∷ b ∷ c ∷ d ∷ e ∷ r) q = absurd (omega arith)

-- the numbers before the marks, of the decoder's struct
abbrev pub fronts : ℕ → Core → List ℕ
fronts place core =
    1 ∷ place ∷ (core.sets ++ (core.gl ∷ core.gr ∷ cond core.narrow 1 0 ∷ core.out.repeat ∷ length (unpacked 16 core.out.waiting []) ∷ core.out.first ∷ []))

-- the numbers of the state that the decoder holds, in the parts in which they are put
pub numbers_parts : (place : ℕ) {g : Given} {t₀ i₀ t i : List ℕ} {s : State} {d : Whole} → Holds g t₀ i₀ s d t i → All (λ m. has_character non_spacing m ≡ true) s.out.marks
    → length s.out.marks ≤ 16
    → numbers place s ≡ (((fronts place d.core ++ padded 16 (unpacked 16 d.core.out.waiting [])) ++ map plus_one d.starts) ++ d.lens)
    ++ (d.core.charged ∷ d.core.out.len ∷ d.core.out.issues ∷ [])
unfolding numbers
numbers_parts place {s = s} {d} h a few =
    let u : unpacked 16 d.core.out.waiting [] ≡ s.out.marks = ap (λ (w : ℕ). unpacked 16 w []) (held_waiting h.out) ∙ unpacked_packed s.out.marks a few in
    let f = fronts place d.core in
    let m = padded 16 (unpacked 16 d.core.out.waiting []) in
    let p = map plus_one d.starts in
    let back : List ℕ = d.core.charged ∷ d.core.out.len ∷ d.core.out.issues ∷ [] in
    let flat : (((f ++ m) ++ p) ++ d.lens) ++ back ≡ f ++ (m ++ (p ++ (d.lens ++ back))) =
    append_assoc ((f ++ m) ++ p) d.lens back ∙ append_assoc (f ++ m) p (d.lens ++ back) ∙ append_assoc f m (p ++ (d.lens ++ back)) in
    sym (flat ∙ (λ k.
    (1 ∷ place ∷ ((h.state k).core.sets
    ++ ((h.state k).core.gl ∷ (h.state k).core.gr ∷ cond (h.state k).core.narrow 1 0 ∷ (h.out.state k).repeat ∷ length (u k) ∷ (h.out.state k).first ∷ [])))
    ++ (padded 16 (u k) ++ (map plus_one (h.state k).starts ++ ((h.state k).lens ++ ((h.state k).core.charged ∷ (h.out.state k).len ∷ (h.out.state k).issues ∷ []))))))
