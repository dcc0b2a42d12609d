-- Parts of a list whose numbers are replaced one by one. Assumes nothing.
use Prim.Native.Nat.{ℕ, zero, suc, ◌+◌, ◌-◌, ◌≤◌, ◌<◌}
use mathlib.Core.Path.{◌≡◌, refl, sym, ap, ap₂, ◌∙◌}
use mathlib.Core.List.{List, [], ◌∷◌, ◌++◌, append_assoc}
use native.Mathlib.Omega.{arith}
use lib.ListN.{length, set, take, drop, length-set}
use borrow.Rule.Slice.PartMut.{put_mid}
use Rattle.std.proofs.lemmas.Slice.{between_is}
use Rattle.lent.specs.Put.{Put}
use lib.Seq.{slice, slice-cons, take-set-le, get_or-set_same, drop-drop, take-append-le, length-slice, sets, sets-eq}

-- a number before the part
pub slice_before : (f t : ℕ) (l : List ℕ) (i v : ℕ) → i < f → slice f t (set l i v) ≡ slice f t l
slice_before f t [] i v h = refl
slice_before zero t (x ∷ l) i v h = absurd (omega arith)
slice_before (suc f) zero (x ∷ l) zero v h = refl
slice_before (suc f) zero (x ∷ l) (suc i) v h = refl
slice_before (suc f) (suc t) (x ∷ l) zero v h = refl
slice_before (suc f) (suc t) (x ∷ l) (suc i) v h = slice_before f t l i v (omega arith)

-- one behind it
pub slice_behind : (f t : ℕ) (l : List ℕ) (i v : ℕ) → t ≤ i → slice f t (set l i v) ≡ slice f t l
slice_behind f t l i v h = ap (drop f) (take-set-le t l i v h)

-- its first
pub slice_first : (f t : ℕ) (l : List ℕ) (v : ℕ) → f < t → t ≤ length l → slice f t (set l f v) ≡ v ∷ slice (suc f) t l
slice_first f t l v h k =
    slice-cons f t (set l f v) 0 h (omega (arith, length-set l f v))
    ∙ ap₂ (λ (a : ℕ) (r : List ℕ). a ∷ r) (get_or-set_same l f v 0 (omega arith)) (slice_before (suc f) t l f v (omega arith))

-- a part without its first n
pub slice_skip : (f n t : ℕ) (l : List ℕ) → slice (f + n) t l ≡ drop n (slice f t l)
slice_skip f n t l = sym (drop-drop n f (take t l))

-- ---- two parts lent one after the other

-- a list whose first `half` numbers are e, and whose others are f
pub first_part : (e f : List ℕ) (half a : ℕ) → length e ≡ half → a ≤ half → take a (e ++ f) ≡ take a e
first_part e f half a l h = take-append-le a e f (omega arith)

pub second_part_lem : (e f : List ℕ) (half b : ℕ) → length e ≡ half → slice half (half + b) (e ++ f) ≡ take b f
second_part_lem [] f half b l =
    let z : half ≡ 0 = sym l in
    let n : half + b ≡ b = omega arith in
    ap₂ (λ (i j : ℕ). slice i j f) z n
second_part_lem (x ∷ e) f half b l = go half l (second_part_lem e f)
  where
    go : (h : ℕ) → suc (length e) ≡ h → ((k c : ℕ) → length e ≡ k → slice k (k + c) (e ++ f) ≡ take c f) → slice h (h + b) (x ∷ (e ++ f)) ≡ take b f
    go zero q r = absurd (omega arith)
    go (suc h) q r =
        let n : suc h + b ≡ suc (h + b) = omega arith in
        ap (λ (i : ℕ). slice (suc h) i (x ∷ (e ++ f))) n ∙ r h b (omega arith)

-- ---- a part that is written

pub mid_sets : (i k : ℕ) (l ys : List ℕ) → length ys ≡ k → i + k ≤ length l → put_mid i k l ys ≡ sets l i ys
mid_sets i k l ys e h =
    let f : k ≡ length ys = sym e in
    ap (λ (r : List ℕ). take i l ++ (ys ++ r)) (drop-drop k i l ∙ ap (λ (n : ℕ). drop (i + n) l) f)
    ∙ (sym (append_assoc (take i l) ys (drop (i + length ys) l)) ∙ sym (sets-eq ys l i (omega arith)))

-- the part from lo to hi of another list
pub put_part : (to from : List ℕ) (i lo hi k : ℕ) (ys : List ℕ) → k ≡ hi - lo → lo ≤ hi → hi ≤ length from → i + (hi - lo) ≤ length to →
    ys ≡ take (hi - lo) (drop lo from) → Put to i (slice lo hi from) (put_mid i k to ys) (i + (hi - lo))
put_part to from i lo hi k ys q l h r e =
    let s : ys ≡ slice lo hi from = e ∙ between_is from lo hi in
    let n : length (slice lo hi from) ≡ hi - lo = length-slice lo hi from h in
    let m : length ys ≡ k = ap length s ∙ (n ∙ sym q) in
    record {
      written = mid_sets i k to ys m (omega arith) ∙ ap (sets to i) s;
      next = omega arith;
    }
