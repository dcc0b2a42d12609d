-- Bytes and places that move, and a place that is written. Assumes nothing.
use Prim.Native.Nat.{ℕ, ◌+◌, ◌-◌, ◌*◌, ◌≤◌, ◌<◌}
use mathlib.Core.Path.{◌≡◌, sym, ap, ap₂, ◌∙◌}
use mathlib.Core.List.{List, ◌∷◌, ◌++◌, append_assoc}
use native.Mathlib.Omega.{arith}
use lib.ListN.{length, take, drop, set, replicate, length-drop, length-replicate}
use lib.Seq.{sets, sets-eq, paste, take-paste, drop-paste, drop-drop, length-take-le, take-append-le, take-append-add, take-take, drop_at}
use borrow.Rule.Slice.PartMut.{put_mid}
use Rattle.catalogue_form.specs.Form.{big_endian, place}
use Rattle.catalogue_form.proofs.Zeros.{padded_zeros, drop_zeros}
use Rattle.catalogue_places.specs.Promises.{closed}

-- ---- room for a place

-- n - 1 places stand a place further, and the one that is put stands before them
pub room_made : (p c q d : List ℕ) (at n w : ℕ) → (n ≡ 0 → ⊥) → length c ≡ 260 → at + n * 260 ≤ length p → w ≡ 260
    → q ≡ paste p (at + 260) (drop at p) (at + (n - 1) * 260 - at) → d ≡ c → put_mid at w q d ≡ paste p at (c ++ drop at p) (n * 260)
room_made p c q d at n w some long fits s e f =
    ap₂ (λ (k : ℕ) (l : List ℕ). put_mid at k q l) s f
    ∙ (ap₂ (λ (x y : List ℕ). x ++ (c ++ y)) front behind
    ∙ (sym (append_assoc (take at p) c (part ++ after))
    ∙ (sym (append_assoc (take at p ++ c) part after)
    ∙ (ap (λ (l : List ℕ). l ++ after) (append_assoc (take at p) c part) ∙ sym whole))))
  where
    m : ℕ
    m = (n - 1) * 260

    moved : at + (n - 1) * 260 - at ≡ m
    moved = omega arith

    g : q ≡ paste p (at + 260) (drop at p) m
    g = e ∙ ap (λ (k : ℕ). paste p (at + 260) (drop at p) k) moved

    part : List ℕ
    part = take m (drop at p)

    after : List ℕ
    after = drop (at + n * 260) p

    first : length (take (at + 260) p) ≡ at + 260
    first = length-take-le (at + 260) p (omega (arith, fits, some))

    front : take at q ≡ take at p
    front =
        ap (take at) (g ∙ append_assoc (take (at + 260) p) part (drop (at + 260 + m) p))
        ∙ (take-append-le at (take (at + 260) p) (part ++ drop (at + 260 + m) p) (omega (arith, first)) ∙ take-take at (at + 260) p (omega arith))

    behind : drop 260 (drop at q) ≡ part ++ after
    behind =
        let t : at + 260 + m ≡ at + n * 260 = omega (arith, some) in
        drop-drop 260 at q
        ∙ (ap (drop (at + 260)) (g ∙ append_assoc (take (at + 260) p) part (drop (at + 260 + m) p))
        ∙ (drop_at (take (at + 260) p) (part ++ drop (at + 260 + m) p) (at + 260) first ∙ ap (λ (k : ℕ). part ++ drop k p) t))

    whole : paste p at (c ++ drop at p) (n * 260) ≡ take at p ++ (c ++ part) ++ after
    whole =
        let t : n * 260 ≡ length c + m = omega (arith, some) in
        ap (λ (k : ℕ). take at p ++ take k (c ++ drop at p) ++ after) t ∙ ap (λ (l : List ℕ). take at p ++ l ++ after) (take-append-add c (drop at p) m)

-- ---- a place that is taken away

pub close_end : (p q z : List ℕ) (n at w : ℕ) → at < n → n * 260 ≤ length p → w ≡ 260
    → q ≡ paste p (at * 260) (drop (at * 260 + 260) p) ((n - 1) * 260 + 260 - (at * 260 + 260))
    → z ≡ replicate (length (take w (drop ((n - 1) * 260) q))) 0
    → put_mid ((n - 1) * 260) w q z ≡ closed p n at
close_end p q z n at w h long s g f =
    ap₂ (λ (k : ℕ) (l : List ℕ). put_mid ((n - 1) * 260) k q l) s (f ∙ ap (λ (k : ℕ). replicate k 0) size)
    ∙ (ap₂ (λ (x y : List ℕ). x ++ (replicate 260 0 ++ y)) head rest ∙ append_assoc (take (at * 260) p) _ _)
  where
    m : ℕ
    m = (n - 1) * 260 - at * 260

    e : q ≡ paste p (at * 260) (drop (at * 260 + 260) p) m
    e =
        let t : (n - 1) * 260 + 260 - (at * 260 + 260) ≡ m = omega arith in
        g ∙ ap (λ (k : ℕ). paste p (at * 260) (drop (at * 260 + 260) p) k) t

    to : (n - 1) * 260 ≡ at * 260 + m
    to = omega arith

    moved : m ≡ (n - 1 - at) * 260
    moved = omega arith

    on : at * 260 + 260 ≡ (at + 1) * 260
    on = omega arith

    head : take ((n - 1) * 260) q ≡ take (at * 260) p ++ take ((n - 1 - at) * 260) (drop ((at + 1) * 260) p)
    head =
        ap₂ take to e
        ∙ (take-paste p (at * 260) (drop (at * 260 + 260) p) m (omega arith) (omega (arith, length-drop (at * 260 + 260) p))
        ∙ ap₂ (λ (x y : ℕ). take (at * 260) p ++ take x (drop y p)) moved on)

    tail : drop ((n - 1) * 260) q ≡ drop ((n - 1) * 260) p
    tail =
        ap₂ drop to e
        ∙ (drop-paste p (at * 260) (drop (at * 260 + 260) p) m (omega arith) (omega (arith, length-drop (at * 260 + 260) p))
        ∙ ap (λ (k : ℕ). drop k p) (sym to))

    size : length (take w (drop ((n - 1) * 260) q)) ≡ 260
    size =
        ap₂ (λ (k : ℕ) (l : List ℕ). length (take k l)) s tail ∙ length-take-le 260 (drop ((n - 1) * 260) p) (omega (arith, long, length-drop ((n - 1) * 260) p))

    rest : drop 260 (drop ((n - 1) * 260) q) ≡ drop (n * 260) p
    rest =
        let t : (n - 1) * 260 + 260 ≡ n * 260 = omega arith in
        ap (drop 260) tail ∙ (drop-drop 260 ((n - 1) * 260) p ∙ ap (λ (k : ℕ). drop k p) t)

-- ---- a place that is written

pub place_written : (n : ℕ) (k : List ℕ) → length k ≤ 255
    → sets (set (sets (replicate 260 0) 0 (big_endian n)) 4 (length k)) 5 k ≡ place (record { number = n; key = k })
place_written n k h =
    sets-eq k head 5 (omega (arith, length-replicate {A = ℕ} 255 0))
    ∙ (ap (λ (r : List ℕ). big_endian n ++ (length k ∷ (k ++ r))) (sym (drop-drop (length k) 5 head) ∙ drop_zeros (length k) 255)
    ∙ ap (λ (r : List ℕ). big_endian n ++ (length k ∷ r)) (sym (padded_zeros 255 k h)))
  where
    head : List ℕ
    head = big_endian n ++ (length k ∷ replicate 255 0)
