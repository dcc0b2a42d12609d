-- Bodies of macros that lie in the input and in which no definition ends: a definition that stands in the input adds one. Assumes nothing.
use Prim.Native.Nat.{ℕ, zero, suc, ◌+◌, ◌≤◌, ◌<◌}
use mathlib.Core.Path.{◌≡◌, refl, sym, ap, ◌∙◌}
use mathlib.Core.Bool.{Bool, true, false, cond, ◌&&◌}
use mathlib.Core.List.{List, [], ◌∷◌, ◌++◌}
use native.Mathlib.Decide.{ℕ_discrete}
use native.Mathlib.Omega.{arith}
use borrow.Author.Tests.{eqb-true, eqb-false}
use lib.Dec.{eqb}
use lib.ListN.{length, take, drop, get_or, set, replicate, length-append, length-drop, length-set}
use lib.Seq.{drop-drop, length-take-le, take-append-le, get_or-set_same, get_or-set_other}
use Rattle.reading.specs.Macros.{end_of}
use Rattle.laws_reading.proofs.Escapes.{LiesAt}

-- the body of a code
abbrev body_at : List ℕ → List ℕ → List ℕ → ℕ → List ℕ
body_at input starts lens code = take (get_or lens code 0) (drop (get_or starts code 0) input)

-- the 128 bodies, by their starts and lengths
pub record Macros (input starts lens : List ℕ) : Type 0 where
  pub starts_count : length starts ≡ 128
  pub lens_count : length lens ≡ 128
  pub inside : (code : ℕ) → get_or starts code 0 + get_or lens code 0 ≤ length input
  pub bare : (code : ℕ) → end_of (body_at input starts lens code) ≡ length (body_at input starts lens code)

zeros_at : (k c : ℕ) → ◌≡◌ {A = ℕ} (get_or (replicate {A = ℕ} k 0) c 0) 0
zeros_at zero c = refl
zeros_at (suc k) zero = refl
zeros_at (suc k) (suc c) = zeros_at k c

-- no macro is defined
pub macros_start : (input : List ℕ) → Macros input (replicate 128 0) (replicate 128 0)
unfolding end_of
macros_start input = record { starts_count = refl; lens_count = refl; inside = λ c. omega (arith, zeros_at 128 c); bare = λ c. rw (zeros_at 128 c) }

-- ---- the end of a definition

-- a byte that ends no definition stands before the end
end_one : (x y : ℕ) (r : List ℕ) → (x ≡ 0x95 → y ≡ 0x4F → ⊥) → end_of (x ∷ (y ∷ r)) ≡ suc (end_of (y ∷ r))
unfolding end_of
end_one x y r p = go (eqb x 0x95) refl (eqb y 0x4F) refl
  where
    go : (u : Bool) → eqb x 0x95 ≡ u → (v : Bool) → eqb y 0x4F ≡ v → cond (u && v) 0 (suc (end_of (y ∷ r))) ≡ suc (end_of (y ∷ r))
    go true e true f = absurd (p (eqb-true _ _ e) (eqb-true _ _ f))
    go true e false f = refl
    go false e v f = refl

-- no definition ends in what stands before the first end
end_cut : (l : List ℕ) → end_of (take (end_of l) l) ≡ end_of l
unfolding end_of
end_cut [] = refl
end_cut (x ∷ []) = refl
end_cut (x ∷ (y ∷ r)) = split (eqb x 0x95) refl (eqb y 0x4F) refl (end_cut (y ∷ r))
  where
    go : (m : ℕ) → (x ≡ 0x95 → y ≡ 0x4F → ⊥) → end_of (take m (y ∷ r)) ≡ m → end_of (x ∷ take m (y ∷ r)) ≡ suc m
    go zero p ih = refl
    go (suc m) p ih = end_one x y (take m r) p ∙ ap suc ih

    split : (u : Bool) → eqb x 0x95 ≡ u → (v : Bool) → eqb y 0x4F ≡ v → end_of (take (end_of (y ∷ r)) (y ∷ r)) ≡ end_of (y ∷ r)
        → end_of (take (cond (u && v) 0 (suc (end_of (y ∷ r)))) (x ∷ (y ∷ r))) ≡ cond (u && v) 0 (suc (end_of (y ∷ r)))
    split true e true f ih = refl
    split true e false f ih = go (end_of (y ∷ r)) (λ p q. eqb-false _ _ f q) ih
    split false e v f ih = go (end_of (y ∷ r)) (λ p q. eqb-false _ _ e p) ih

-- ---- a definition

get_or_set_le : (l : List ℕ) (i v : ℕ) → get_or (set l i v) i 0 ≤ v
get_or_set_le [] i v = omega arith
get_or_set_le (x ∷ xs) zero v = omega arith
get_or_set_le (x ∷ xs) (suc i) v = get_or_set_le xs i v

-- a body of the input in which no definition ends becomes that of a code
joins : (input starts lens : List ℕ) (code place n : ℕ) → code < 128 → place + n ≤ length input
    → end_of (take n (drop place input)) ≡ length (take n (drop place input)) → Macros input starts lens → Macros input (set starts code place) (set lens code n)
joins input starts lens code place n small fits b h = record {
  starts_count = length-set starts code place ∙ h.starts_count;
  lens_count = length-set lens code n ∙ h.lens_count;
  inside = λ c. near c (ℕ_discrete c code);
  bare = λ c. far c (ℕ_discrete c code);
}
  where
    body : ℕ → List ℕ
    body = body_at input (set starts code place) (set lens code n)

    near : (c : ℕ) → Dec (c ≡ code) → get_or (set starts code place) c 0 + get_or (set lens code n) c 0 ≤ length input
    near c (yes q) = rw q (omega (arith, get_or_set_le starts code place, get_or_set_le lens code n, fits))
    near c (no q) = rw (get_or-set_other starts code c place 0 q, get_or-set_other lens code c n 0 q) (h.inside c)

    far : (c : ℕ) → Dec (c ≡ code) → end_of (body c) ≡ length (body c)
    far c (yes q) =
        let hs : code < length starts = omega (arith, h.starts_count, small) in
        let hl : code < length lens = omega (arith, h.lens_count, small) in
        rw (q, get_or-set_same starts code place 0 hs, get_or-set_same lens code n 0 hl) b
    far c (no q) = rw (get_or-set_other starts code c place 0 q, get_or-set_other lens code c n 0 q) (h.bare c)

-- MACRO, its parameter and a code stand in the input before a body and its end
pub macros_define : (input starts lens : List ℕ) (code place x p mc : ℕ) (r : List ℕ) → code < 128 → LiesAt input place (x ∷ (p ∷ (mc ∷ r))) → end_of r < length r
    → Macros input starts lens → Macros input (set starts code (place + 3)) (set lens code (end_of r))
macros_define input starts lens code place x p mc r small l h m =
    let rest : drop (place + 3) input ≡ r ++ l.after = sym (drop-drop 3 place input) ∙ ap (drop 3) l.bytes in
    let body : take (end_of r) (drop (place + 3) input) ≡ take (end_of r) r = ap (take (end_of r)) rest ∙ take-append-le (end_of r) r l.after (omega (arith, h)) in
    joins input starts lens code (place + 3) (end_of r) small
    (omega (arith, h, length-drop (place + 3) input, ap length rest, length-append r l.after))
    (ap end_of body ∙ end_cut r ∙ sym (length-take-le (end_of r) r (omega (arith, h))) ∙ sym (ap length body))
    m
