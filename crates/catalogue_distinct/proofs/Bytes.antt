-- The bytes of records: where they stand in the places, and how far two records are alike. Assumes nothing.
use Prim.Native.Nat.{ℕ, zero, suc, ◌+◌, ◌*◌, ◌≤◌, ◌<◌}
use mathlib.Core.Path.{◌≡◌, refl, sym, ap, ap₂, ◌∙◌, subst}
use mathlib.Core.Bool.{true}
use mathlib.Core.List.{List, [], ◌∷◌, ◌++◌}
use mathlib.Core.Bool.{◌&&◌}
use lib.Dec.{eqb}
use native.Mathlib.Numerals.{add-one}
use native.Mathlib.Omega.{arith}
use lib.ListN.{length, get_or, take, drop, length-drop}
use lib.Dec.{T, eqb}
use lib.Seq.{length-take-le, get_or-take, get_or-drop, take-suc, take_all, take-take, take-add, drop-drop}
use Rattle.catalogue_distinct.specs.Distinct.{same}
use Rattle.catalogue_distinct.specs.Runs.{record_at}
use Rattle.catalogue_distinct.specs.Promises.{Alike, Common}
use Rattle.catalogue_distinct.proofs.Same.{same_eq, same_on}

pub record_long : (places : List ℕ) (p : ℕ) → p * 260 + 260 ≤ length places → length (record_at places p) ≡ 256
record_long places p h = length-take-le 256 (drop (p * 260 + 4) places) (omega (arith, length-drop (p * 260 + 4) places))

pub byte_at : (places : List ℕ) (p i : ℕ) → i < 256 → get_or (record_at places p) i 0 ≡ get_or places (p * 260 + 4 + i) 0
byte_at places p i h = get_or-take 256 (drop (p * 260 + 4) places) i 0 h ∙ get_or-drop (p * 260 + 4) places i 0

-- ---- how far two records are alike

pub alike_start : (x y : List ℕ) (from : ℕ) → from ≤ 256 → Alike x y from from
alike_start x y from h = record { least = omega arith; most = h; before = λ e. e }

pub alike_on : (x y : List ℕ) (from i : ℕ) → length x ≡ 256 → length y ≡ 256 → i < 256 → get_or x i 0 ≡ get_or y i 0 → Alike x y from i → Alike x y from (i + 1)
alike_on x y from i lx ly h e a = record {
  least = omega (arith, a.least);
  most = omega arith;
  before = λ f. longer (a.before f);
}
  where
    longer : take i x ≡ take i y → take (i + 1) x ≡ take (i + 1) y
    longer f =
        ap (λ (k : ℕ). take k x) (add-one i) ∙ take-suc x i 0 (omega arith)
        ∙ (λ j. f j ++ (e j ∷ []))
        ∙ sym (ap (λ (k : ℕ). take k y) (add-one i) ∙ take-suc y i 0 (omega arith))

-- a whole part more
take_inside : (n i m : ℕ) (l : List ℕ) → i + n ≤ m → take n (drop i (take m l)) ≡ take n (drop i l)
take_inside n zero m l h = take-take n m l (omega arith)
take_inside n (suc i) zero l h = absurd (omega arith)
take_inside n (suc i) (suc m) [] h = refl
take_inside n (suc i) (suc m) (x ∷ l) h = take_inside n i m l (omega arith)

part : (places : List ℕ) (p i : ℕ) → i + 32 ≤ 256 → take 32 (drop i (record_at places p)) ≡ take 32 (drop (p * 260 + 4 + i) places)
part places p i h = take_inside 32 i 256 (drop (p * 260 + 4) places) h ∙ ap (take 32) (drop-drop i (p * 260 + 4) places)

pub alike_part : (places : List ℕ) (p q from i : ℕ) → i + 32 ≤ 256 → Alike (record_at places p) (record_at places q) from i →
    true ≡ same (take 32 (drop (p * 260 + 4 + i) places)) (take 32 (drop (q * 260 + 4 + i) places)) → Alike (record_at places p) (record_at places q) from (i + 32)
alike_part places p q from i h a t = record {
  least = omega (arith, a.least);
  most = h;
  before = λ f. longer (a.before f);
}
  where
    longer : take i (record_at places p) ≡ take i (record_at places q) → take (i + 32) (record_at places p) ≡ take (i + 32) (record_at places q)
    longer f =
        let e = same_eq (take 32 (drop (p * 260 + 4 + i) places)) (take 32 (drop (q * 260 + 4 + i) places)) (subst T t tt) in
        take-add i 32 (record_at places p)
        ∙ (ap₂ (λ (u v : List ℕ). u ++ v) f (part places p i h ∙ (e ∙ sym (part places q i h)))
        ∙ sym (take-add i 32 (record_at places q)))

pub common_there : (x y : List ℕ) (from i : ℕ) → Alike x y from i → (get_or x i 0 ≡ get_or y i 0 → ⊥) → Common x y from i
common_there x y from i a d = record { alike = a; there = λ h. d }

pub common_end : (x y : List ℕ) (from i : ℕ) → Alike x y from i → 256 ≤ i → Common x y from i
common_end x y from i a l = record { alike = a; there = λ h e. omega (arith, a.most) }

-- the same, seen from the other record
pub common_swap : (x y : List ℕ) (from r : ℕ) → Common x y from r → Common y x from r
common_swap x y from r c = record {
  alike = record { least = c.alike.least; most = c.alike.most; before = λ e. sym (c.alike.before (sym e)) };
  there = λ h e. c.there h (sym e);
}

-- records that are alike to the end are equal
pub equal : (x y : List ℕ) (from : ℕ) → length x ≡ 256 → length y ≡ 256 → Common x y from 256 → take from x ≡ take from y → x ≡ y
equal x y from lx ly c e = sym (take_all 256 x (omega arith)) ∙ (c.alike.before e ∙ take_all 256 y (omega arith))

-- ---- whether the bytes from a on are those from b on, byte by byte

pub same_next : (places : List ℕ) (a b i : ℕ) → a + 32 ≤ length places → b + 32 ≤ length places → i < 32 →
    same (take (i + 1) (drop a places)) (take (i + 1) (drop b places))
    ≡ same (take i (drop a places)) (take i (drop b places)) && eqb (get_or places (a + i) 0) (get_or places (b + i) 0)
same_next places a b i ha hb h =
    ap (λ (n : ℕ). same (take n (drop a places)) (take n (drop b places))) (add-one i)
    ∙ same_on (drop a places) (drop b places) i (omega (arith, length-drop a places)) (omega (arith, length-drop b places))
    ∙ ap₂ (λ (x y : ℕ). same (take i (drop a places)) (take i (drop b places)) && eqb x y) (get_or-drop a places i 0) (get_or-drop b places i 0)
