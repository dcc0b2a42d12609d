-- A part of the store, lent from a number on, and the store when it is given back. Assumes nothing.
use mathlib.Core.Path.{◌≡◌, sym, ap, ◌∙◌}
use mathlib.Core.List.{List, ◌++◌, append-nil}
use Prim.Native.Nat.{ℕ, ◌+◌, ◌-◌, ◌≤◌, ◌<◌}
use native.Mathlib.Omega.{arith}
use lib.ListN.{length, get_or, take, drop, drop_of_length-le, length-drop, length-append, get_or-append}
use lib.Seq.{take_all, get_or-take, length-take-le, get_or-append-add, drop-append-add}

abbrev pub lent_part : List ℕ → ℕ → List ℕ
lent_part s from = take (length s - from) (drop from s)

abbrev pub given_back : List ℕ → ℕ → List ℕ → List ℕ
given_back s from p = take from s ++ (p ++ drop (length s - from) (drop from s))

pub lent_part_lem : (s : List ℕ) (from : ℕ) → lent_part s from ≡ drop from s
lent_part_lem s from = take_all (length s - from) (drop from s) (omega (arith, length-drop from s))

pub given_back_lem : (s : List ℕ) (from : ℕ) (p : List ℕ) → given_back s from p ≡ take from s ++ p
given_back_lem s from p =
    ap (λ (l : List ℕ). take from s ++ (p ++ l)) (drop_of_length-le (drop from s) {i = length s - from} (omega (arith, length-drop from s))) ∙
    ap (λ (l : List ℕ). take from s ++ l) (append-nil p)

module _ (s p : List ℕ) (from : ℕ) (h : from ≤ length s) where
  long_front : length (take from s) ≡ from
  long_front = length-take-le from s h

  pub joined_long : length p ≡ length (drop from s) → length (take from s ++ p) ≡ length s
  joined_long e = omega (arith, length-append (take from s) p, long_front, length-drop from s)

  pub joined_front : (k : ℕ) → k < from → get_or (take from s ++ p) k 0 ≡ get_or s k 0
  joined_front k l = get_or-append (take from s) p 0 k (omega (arith, long_front)) ∙ get_or-take from s k 0 l

  pub joined_part : (k : ℕ) → get_or (take from s ++ p) (from + k) 0 ≡ get_or p k 0
  joined_part k = ap (λ (n : ℕ). get_or (take from s ++ p) (n + k) 0) (sym long_front) ∙ get_or-append-add (take from s) p k 0

  pub joined_drop : (k : ℕ) → drop (from + k) (take from s ++ p) ≡ drop k p
  joined_drop k = ap (λ (n : ℕ). drop (n + k) (take from s ++ p)) (sym long_front) ∙ drop-append-add (take from s) p k
