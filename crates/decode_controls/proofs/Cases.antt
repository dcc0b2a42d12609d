-- The definitions of steps, by their cases, at a place of a body. Assumes nothing.
use Prim.Native.Nat.{ℕ, suc, ◌+◌, ◌-◌, ◌≤◌, ◌<◌}
use mathlib.Core.Path.{◌≡◌, sym, ap, ◌∙◌}
use mathlib.Core.Bool.{Bool, true, false, cond, ◌&&◌, ◌||◌}
use mathlib.Core.Logic.{◌⊎◌, inl, inr}
use mathlib.Core.List.{List, [], ◌∷◌, ◌++◌}
use mathlib.Core.Option.{none, some}
use native.Mathlib.Omega.{arith}
use borrow.Author.Tests.{eq-eqb, ne_eqb, le-leb, lt-leb}
use lib.Dec.{eqb, leb, eqb-suc-zero}
use lib.ListN.{length, take, drop, get_or, length-drop, drop_of_length-le}
use lib.Seq.{drop-drop, take-suc, get_or-drop, length-take-le}
use Rattle.control.specs.Controls.{count_of}
use Rattle.issues.specs.declared.IssueKind.TheVariants.{UndefinedControl, MalformedControl}
use Rattle.reading.specs.State.{State, Step, took, truncated, issue}
use Rattle.reading.specs.Controls.{leading, applied, unknown, applied_or, escape_at, escape, colour, ended, sequence_from, time, fixed}
use Rattle.decode_state.proofs.Steps.{drop_one}
use Rattle.decode_controls.specs.Controls.{second}

-- what is left of a body from its second byte on, or its third
drop_two : (b : List ℕ) (i : ℕ) → i + 1 < length b → drop (i + 1) b ≡ get_or b (i + 1) 0 ∷ drop (i + 2) b
drop_two b i h =
    let e : i + 1 + 1 ≡ i + 2 = omega arith in
    drop_one b (i + 1) h ∙ ap (λ (n : ℕ). get_or b (i + 1) 0 ∷ drop n b) e

-- a step on what follows the byte i: nothing does, or a byte p and what follows it
pub at_end : (f : List ℕ → Step) (b : List ℕ) (i at : ℕ) (s : State) → f [] ≡ truncated 1 at s → i < length b → length b ≤ i + 1 → f (drop (i + 1) b) ≡ truncated (length b - i) at s
at_end f b i at s e h k =
    let q : 1 ≡ length b - i = omega arith in
    ap f (drop_of_length-le b k) ∙ e ∙ ap (λ (n : ℕ). truncated n at s) q

pub at_head : (f : List ℕ → Step) (b : List ℕ) (i : ℕ) (w : Step) → i + 1 < length b → f (get_or b (i + 1) 0 ∷ drop (i + 2) b) ≡ w → f (drop (i + 1) b) ≡ w
at_head f b i w h e = ap f (drop_two b i h) ∙ e

-- ---- two parameters

pub second_some : (b : List ℕ) (i at : ℕ) (s : State) → i + 2 < length b → second (drop (i + 2) b) at s ≡ took 3 s
unfolding second
second_some b i at s h = ap (λ (l : List ℕ). second l at s) (drop_one b (i + 2) h)

pub second_none : (b : List ℕ) (i at : ℕ) (s : State) → i + 1 < length b → length b ≤ i + 2 → second (drop (i + 2) b) at s ≡ truncated (length b - i) at s
unfolding second
second_none b i at s h k =
    let q : 2 ≡ length b - i = omega arith in
    ap (λ (l : List ℕ). second l at s) (drop_of_length-le b k) ∙ ap (λ (n : ℕ). truncated n at s) q

module _ (p : ℕ) (r : List ℕ) (at : ℕ) (s : State) where
  pub colour_two : p ≡ 0x20 → colour (p ∷ r) at s ≡ second r at s
  unfolding colour second
  colour_two e = go r
    where
      go : (r : List ℕ) → colour (p ∷ r) at s ≡ second r at s
      go [] = rw (eq-eqb p 0x20 e)
      go (q ∷ r) = rw (eq-eqb p 0x20 e)

  pub colour_one : (p ≡ 0x20 → ⊥) → colour (p ∷ r) at s ≡ took 2 s
  unfolding colour
  colour_one e = go r
    where
      go : (r : List ℕ) → colour (p ∷ r) at s ≡ took 2 s
      go [] = rw (ne_eqb p 0x20 e)
      go (q ∷ r) = rw (ne_eqb p 0x20 e)

  -- ---- TIME

  pub time_two : (p ≡ 0x20) ⊎ (p ≡ 0x28) → time (p ∷ r) at s ≡ second r at s
  unfolding time second
  time_two e = go r (two e)
    where
      two : (p ≡ 0x20) ⊎ (p ≡ 0x28) → (eqb p 0x20 || eqb p 0x28) ≡ true
      two (inl e) = rw e
      two (inr e) = rw e

      go : (r : List ℕ) → (eqb p 0x20 || eqb p 0x28) ≡ true → time (p ∷ r) at s ≡ second r at s
      go [] e = rw e
      go (q ∷ r) e = rw (e, eqb-suc-zero (length r))

  pub time_sequence : p ≡ 0x29 → time (p ∷ r) at s ≡ sequence_from false 0x9D 2 r at s
  unfolding time
  time_sequence e = rw e

  pub time_malformed : (p ≡ 0x20 → ⊥) → (p ≡ 0x28 → ⊥) → (p ≡ 0x29 → ⊥) → time (p ∷ r) at s ≡ took 2 (issue at (MalformedControl 0x9D) s)
  unfolding time
  time_malformed x y z = rw (ne_eqb p 0x20 x, ne_eqb p 0x28 y, ne_eqb p 0x29 z)

-- ---- the bytes from 20 to a highest one

module _ (high : ℕ) where
  pub leading_most : (l : List ℕ) → leading 0x20 high l ≤ length l
  unfolding leading
  leading_most [] = omega arith
  leading_most (x ∷ l) = go (leb 0x20 x && leb x high) (leading_most l)
    where
      go : (b : Bool) → leading 0x20 high l ≤ length l → cond b (suc (leading 0x20 high l)) 0 ≤ suc (length l)
      go true h = omega arith
      go false h = omega arith

  pub leading_more : (b : List ℕ) (j : ℕ) → j < length b → (leb 0x20 (get_or b j 0) && leb (get_or b j 0) high) ≡ true → leading 0x20 high (drop j b) ≡ suc (leading 0x20 high (drop (j + 1) b))
  unfolding leading
  leading_more b j h t = ap (leading 0x20 high) (drop_one b j h) ∙ (rw t)

  pub leading_stop : (b : List ℕ) (j : ℕ) → j < length b → (leb 0x20 (get_or b j 0) && leb (get_or b j 0) high) ≡ false → leading 0x20 high (drop j b) ≡ 0
  unfolding leading
  leading_stop b j h t = ap (leading 0x20 high) (drop_one b j h) ∙ (rw t)

  pub leading_none : (b : List ℕ) (j : ℕ) → length b ≤ j → leading 0x20 high (drop j b) ≡ 0
  unfolding leading
  leading_none b j h = ap (leading 0x20 high) (drop_of_length-le b h)

-- ---- a sequence of parameters from the place `from` on, which the bytes up to the place j are

module _ (strict : Bool) (code : ℕ) (b : List ℕ) (i from j at : ℕ) (s : State) (before : i < from) (inside : from ≤ length b) (e : j ≡ from + leading 0x20 0x3F (drop from b)) where
  sequence_at : sequence_from strict code (from - i) (drop from b) at s ≡ ended strict code (j - i) (drop j b) at s
  unfolding sequence_from
  sequence_at =
      let k = leading 0x20 0x3F (drop from b) in
      let q : from - i + k ≡ j - i = omega arith in
      ap (λ (l : List ℕ). ended strict code (from - i + k) l at s) (drop-drop k from b)
      ∙ (λ x. ended strict code (q x) (drop (sym e x) b) at s)

  pub sequence_cut : length b ≤ j → sequence_from strict code (from - i) (drop from b) at s ≡ truncated (length b - i) at s
  unfolding ended
  sequence_cut h =
      let q : j - i ≡ length b - i = omega (arith, leading_most 0x3F (drop from b), length-drop from b) in
      sequence_at ∙ ap (λ (l : List ℕ). ended strict code (j - i) l at s) (drop_of_length-le b h) ∙ ap (λ (n : ℕ). truncated n at s) q

  pub sequence_final : j < length b → (leb 0x40 (get_or b j 0) && leb (get_or b j 0) 0x7E) ≡ true → sequence_from strict code (from - i) (drop from b) at s ≡ took (j + 1 - i) s
  unfolding ended
  sequence_final h f =
      let q : j - i + 1 ≡ j + 1 - i = omega arith in
      sequence_at ∙ ap (λ (l : List ℕ). ended strict code (j - i) l at s) (drop_one b j h) ∙ (rw (f, q))

  not_final : j < length b → (leb 0x40 (get_or b j 0) && leb (get_or b j 0) 0x7E) ≡ false
      → sequence_from strict code (from - i) (drop from b) at s ≡ cond strict (took (j - i) (issue at (MalformedControl code) s)) (took (j - i) s)
  unfolding ended
  not_final h f = sequence_at ∙ ap (λ (l : List ℕ). ended strict code (j - i) l at s) (drop_one b j h) ∙ (rw f)

  pub sequence_malformed : j < length b → (leb 0x40 (get_or b j 0) && leb (get_or b j 0) 0x7E) ≡ false → strict ≡ true
      → sequence_from strict code (from - i) (drop from b) at s ≡ took (j - i) (issue at (MalformedControl code) s)
  sequence_malformed h f d = not_final h f ∙ ap (λ (x : Bool). cond x (took (j - i) (issue at (MalformedControl code) s)) (took (j - i) s)) d

  pub sequence_other : j < length b → (leb 0x40 (get_or b j 0) && leb (get_or b j 0) 0x7E) ≡ false → strict ≡ false
      → sequence_from strict code (from - i) (drop from b) at s ≡ took (j - i) s
  sequence_other h f d = not_final h f ∙ ap (λ (x : Bool). cond x (took (j - i) (issue at (MalformedControl code) s)) (took (j - i) s)) d

-- ---- an escape, whose intermediates are the bytes from i + 1 up to the place j

module _ (b : List ℕ) (i j place at : ℕ) (s : State) (inside : i < length b) (e : j ≡ i + 1 + leading 0x20 0x2F (drop (i + 1) b)) where
  k : ℕ
  k = leading 0x20 0x2F (drop (i + 1) b)

  count : length (take k (drop (i + 1) b)) ≡ k
  unfolding k
  count = length-take-le k (drop (i + 1) b) (leading_most 0x2F (drop (i + 1) b))

  escape_from : escape (drop (i + 1) b) place at s ≡ escape_at (take k (drop (i + 1) b)) (drop j b) place at s
  unfolding escape k
  escape_from = ap (λ (l : List ℕ). escape_at (take k (drop (i + 1) b)) l place at s) (drop-drop k (i + 1) b ∙ ap (λ (n : ℕ). drop n b) (sym e))

  pub escape_cut : length b ≤ j → escape (drop (i + 1) b) place at s ≡ truncated (length b - i) at s
  unfolding escape_at k
  escape_cut h =
      let q : k + 1 ≡ length b - i = omega (arith, leading_most 0x2F (drop (i + 1) b), length-drop (i + 1) b) in
      escape_from ∙ ap (λ (l : List ℕ). escape_at (take k (drop (i + 1) b)) l place at s) (drop_of_length-le b h)
      ∙ ap (λ (n : ℕ). truncated (n + 1) at s) count ∙ ap (λ (n : ℕ). truncated n at s) q

  pub escape_none : j < length b → (leb 0x30 (get_or b j 0) && leb (get_or b j 0) 0x7E) ≡ false → escape (drop (i + 1) b) place at s ≡ unknown (j - i) place at s
  unfolding escape_at k
  escape_none h f =
      let q : k + 1 ≡ j - i = omega arith in
      escape_from ∙ ap (λ (l : List ℕ). escape_at (take k (drop (i + 1) b)) l place at s) (drop_one b j h)
      ∙ (rw f (ap (λ (n : ℕ). unknown (n + 1) place at s) count ∙ ap (λ (n : ℕ). unknown n place at s) q))

  -- the bytes after ESC, the final byte among them
  bytes : j < length b → take k (drop (i + 1) b) ++ (get_or b j 0 ∷ []) ≡ take (j - i) (drop (i + 1) b)
  unfolding k
  bytes h =
      let q : suc k ≡ j - i = omega arith in
      let r : k < length (drop (i + 1) b) = omega (arith, length-drop (i + 1) b) in
      ap (λ (x : ℕ). take k (drop (i + 1) b) ++ (x ∷ [])) (ap (λ (n : ℕ). get_or b n 0) e ∙ sym (get_or-drop (i + 1) b k 0))
      ∙ sym (take-suc (drop (i + 1) b) k 0 r) ∙ ap (λ (n : ℕ). take n (drop (i + 1) b)) q

  pub escape_final : j < length b → (leb 0x30 (get_or b j 0) && leb (get_or b j 0) 0x7E) ≡ true
      → escape (drop (i + 1) b) place at s ≡ applied_or (applied (take (j - i) (drop (i + 1) b)) s) (j + 1 - i) place at s
  unfolding escape_at k
  escape_final h f =
      let q : k + 2 ≡ j + 1 - i = omega arith in
      escape_from ∙ ap (λ (l : List ℕ). escape_at (take k (drop (i + 1) b)) l place at s) (drop_one b j h)
      ∙ (rw f (ap (λ (n : ℕ). applied_or (applied (take k (drop (i + 1) b) ++ (get_or b j 0 ∷ [])) s) (n + 2) place at s) count
      ∙ (λ x. applied_or (applied (bytes h x) s) (q x) place at s)))

-- ---- a control with a fixed number of parameters

module _ (b : List ℕ) (i at : ℕ) (s : State) (inside : i < length b) where
  pub fixed_all : (n : ℕ) → count_of (get_or b i 0) ≡ some n → n < length b - i → fixed (get_or b i 0) (drop (i + 1) b) at s ≡ took (n + 1) s
  unfolding fixed
  fixed_all n e h =
      let q : n ≤ length (drop (i + 1) b) = omega (arith, length-drop (i + 1) b) in
      rw e (rw (le-leb n (length (drop (i + 1) b)) q))

  pub fixed_cut : (n : ℕ) → count_of (get_or b i 0) ≡ some n → length b - i ≤ n → fixed (get_or b i 0) (drop (i + 1) b) at s ≡ truncated (length b - i) at s
  unfolding fixed
  fixed_cut n e h =
      let q : length (drop (i + 1) b) < n = omega (arith, length-drop (i + 1) b) in
      let r : length (drop (i + 1) b) + 1 ≡ length b - i = omega (arith, length-drop (i + 1) b) in
      rw e (rw (lt-leb n (length (drop (i + 1) b)) q) (ap (λ (m : ℕ). truncated m at s) r))

  pub fixed_undefined : count_of (get_or b i 0) ≡ none → fixed (get_or b i 0) (drop (i + 1) b) at s ≡ took 1 (issue at (UndefinedControl (get_or b i 0)) s)
  unfolding fixed
  fixed_undefined e = rw e
