-- A store in which 287 numbers are replaced: they stand there, and all others stay. Assumes nothing.
use Prim.Native.Nat.{ℕ, ◌+◌, ◌-◌, ◌≤◌}
use mathlib.Core.Path.{◌≡◌, sym, ap, ◌∙◌}
use mathlib.Core.List.{List, ◌++◌}
use native.Mathlib.Omega.{arith}
use lib.ListN.{length, take, drop, length-append, length-drop, take-append-drop}
use lib.Seq.{length-take-le, take_at, drop_at, drop-append-le, take-append-le, drop-drop}

-- the numbers l from the number a on
abbrev pub put : List ℕ → ℕ → List ℕ → List ℕ
put store a l = take a store ++ (l ++ drop (a + 287) store)

module _ (store : List ℕ) (a : ℕ) (l : List ℕ) (h : a + 287 ≤ length store) (e : length l ≡ 287) where
  front : length (take a store) ≡ a
  front = length-take-le a store (omega (arith, h))

  pub length_put : length (put store a l) ≡ length store
  length_put =
      omega (arith, front, e, h, length-append (take a store) (l ++ drop (a + 287) store), length-append l (drop (a + 287) store), length-drop (a + 287) store)

  from_place : drop a (put store a l) ≡ l ++ drop (a + 287) store
  from_place = drop_at (take a store) (l ++ drop (a + 287) store) a front

  -- they stand there
  pub put_there : take 287 (drop a (put store a l)) ≡ l
  put_there = ap (take 287) from_place ∙ take_at l (drop (a + 287) store) 287 e

  pub put_before : take a (put store a l) ≡ take a store
  put_before = take_at (take a store) (l ++ drop (a + 287) store) a front

  pub put_behind : drop (a + 287) (put store a l) ≡ drop (a + 287) store
  put_behind = sym (drop-drop 287 a (put store a l)) ∙ ap (drop 287) from_place ∙ drop_at l (drop (a + 287) store) 287 e

  -- 287 numbers before them, and behind them, are those of the store
  pub other_before : (b : ℕ) → b + 287 ≤ a → take 287 (drop b (put store a l)) ≡ take 287 (drop b store)
  other_before b p =
      only (l ++ drop (a + 287) store) ∙ sym (ap (λ (s : List ℕ). take 287 (drop b s)) (sym (take-append-drop a store)) ∙ only (drop a store))
    where
      only : (r : List ℕ) → take 287 (drop b (take a store ++ r)) ≡ take 287 (drop b (take a store))
      only r =
          ap (take 287) (drop-append-le b (take a store) r (omega (arith, front, p)))
          ∙ take-append-le 287 (drop b (take a store)) r (omega (arith, front, p, length-drop b (take a store)))

  pub other_behind : (b : ℕ) → a + 287 ≤ b → take 287 (drop b (put store a l)) ≡ take 287 (drop b store)
  other_behind b p = ap (take 287) (along (put store a l) ∙ ap (drop (b - (a + 287))) put_behind ∙ sym (along store))
    where
      along : (s : List ℕ) → drop b s ≡ drop (b - (a + 287)) (drop (a + 287) s)
      along s =
          let q : b ≡ a + 287 + (b - (a + 287)) = omega (arith, p) in
          ap (λ (n : ℕ). drop n s) q ∙ sym (drop-drop (b - (a + 287)) (a + 287) s)

  -- other numbers in their place
  pub put_again : (l' : List ℕ) → put (put store a l) a l' ≡ put store a l'
  put_again l' = ap (λ (f : List ℕ). f ++ (l' ++ drop (a + 287) (put store a l))) put_before ∙ ap (λ (r : List ℕ). take a store ++ (l' ++ r)) put_behind
