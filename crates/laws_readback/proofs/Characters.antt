-- A character of an admissible coding is read and written. Assumes nothing.
use Prim.Native.Nat.{ℕ, zero, suc, ◌+◌, ◌<◌}
use mathlib.Core.Path.{◌≡◌, refl, sym, ap, ◌∙◌, subst}
use mathlib.Core.Bool.{Bool, true, false, cond, true≢false}
use mathlib.Core.List.{List, [], ◌∷◌, ◌++◌, map}
use native.Mathlib.Nat.{add-zero}
use native.Mathlib.Omega.{arith}
use lib.ListN.{length, length-map}
use Rattle.decode_output.specs.Output.{Output}
use Rattle.coding.specs.State.{State, set_in, single}
use Rattle.coding.specs.Candidates.{Size, Cand, candidates}
use Rattle.coding.specs.Admissible.{Sized, Half, low, high, Shows, left, right, shifted, direct}
use Rattle.reading.specs.State as reading
use Rattle.reading.specs.Macros.{Run}
use Rattle.reading.specs.Characters.{is_gl, is_gr, is_graphic, graphic_of, graphic, single_shift}
use Rattle.reading.specs.Steps.{step, offset}
use Rattle.base.specs.Lists.{All}
use Rattle.coding.specs.Admissible.{Some, here, there}
use Rattle.laws_readback.proofs.States.{read, Invokes, set_in_lem, Moves, one_step}
use Rattle.laws_readback.proofs.Halves.{Byte, is_left, not_left, is_right, in_half}
use Rattle.laws_readback.proofs.Codes.{puts, ReadsCode, Reads, candidates_read}

plus_none : (bs : List ℕ) → map (λ b. b + 0) bs ≡ bs
plus_none [] = refl
plus_none (b ∷ bs) = rw (add-zero b, plus_none bs)

-- a test that is known
passed : {A : Type 0} (t : Bool) (a b : A) → t ≡ true → cond t a b ≡ a
passed true a b e = refl
passed false a b e = absurd (true≢false (sym e))

failed : {A : Type 0} (t : Bool) (a b : A) → t ≡ false → cond t a b ≡ b
failed true a b e = absurd (true≢false e)
failed false a b e = refl

module _ (g : reading.Given) (depth : ℕ) (R : Run) where
  -- where a byte of a code is read
  step_left : (b : ℕ) (rest : List ℕ) (place at : ℕ) (s : reading.State) → Byte b → step g depth R (b + 0) rest place at s ≡ graphic g depth R s.gl (b + 0) rest at s
  unfolding step
  step_left b rest place at s p = passed (is_gl (b + 0)) _ _ (rw add-zero (is_left b p))

  step_right : (b : ℕ) (rest : List ℕ) (place at : ℕ) (s : reading.State) → Byte b → step g depth R (b + 128) rest place at s ≡ graphic g depth R s.gr (b + 128) rest at s
  unfolding step
  step_right b rest place at s p = failed (is_gl (b + 128)) _ _ (not_left b p) ∙ passed (is_gr (b + 128)) _ _ (is_right b p)

  step_single : (n b : ℕ) (rest : List ℕ) (at : ℕ) (s : reading.State) → is_graphic b ≡ true
      → single_shift g depth R n (b ∷ rest) at s ≡ reading.took (suc (graphic g depth R n b rest at s).used) (graphic g depth R n b rest at s).to
  unfolding single_shift
  step_single n b rest at s e = passed (is_graphic b) _ _ e

  step_ss2 : (rest : List ℕ) (place at : ℕ) (s : reading.State) → step g depth R 0x19 rest place at s ≡ single_shift g depth R 2 rest at s
  unfolding step
  step_ss2 rest place at s = refl

  step_ss3 : (rest : List ℕ) (place at : ℕ) (s : reading.State) → step g depth R 0x1D rest place at s ≡ single_shift g depth R 3 rest at s
  unfolding step
  step_ss3 rest place at s = refl

module _ (g : reading.Given) (depth : ℕ) (R : Run) (base origin : ℕ) (z : reading.State) where
  module _ (c n a : ℕ) (bs : List ℕ) (size : Size) (h : ℕ) (s : State) (small : n < 4) (r : ReadsCode g depth R z c (set_in s n) a bs size) (w : Sized s size) (k : Half h) (o : Output) where
    -- the code from a code element
    from_element : (rest : List ℕ) (at : ℕ) → graphic g depth R n (a + h) (map (λ b. b + h) bs ++ rest) at (read z s o) ≡ reading.took (suc (length (map (λ b. b + h) bs)))
        (read z s (puts c at o))
    unfolding graphic
    from_element rest at =
        ap (λ (x : ℕ). graphic_of g depth R x (a + h) (map (λ b. b + h) bs ++ rest) at (read z s o)) (set_in_lem s n small)
        ∙ r.reads s h w k rest at o
        ∙ ap (λ (m : ℕ). reading.took (suc m) (read z s (puts c at o))) (sym (length-map bs (λ b. b + h)))

    -- as it is invoked
    invoked : ((rest : List ℕ) (place at : ℕ) → step g depth R (a + h) rest place at (read z s o) ≡ graphic g depth R n (a + h) rest at (read z s o)) → (i : ℕ)
        → Moves g depth R base origin (map (λ b. b + h) (a ∷ bs)) i (read z s o) (read z s (puts c (offset origin i) o))
    invoked d i =
        one_step g depth R base origin (a + h) (map (λ b. b + h) bs) i _ _
        (λ rest. d (map (λ b. b + h) bs ++ rest) (base + i) (offset origin i) ∙ from_element rest (offset origin i))

    -- by a single shift
    by_single : (x : ℕ) → ((rest : List ℕ) (place at : ℕ) → step g depth R x rest place at (read z s o) ≡ single_shift g depth R n rest at (read z s o)) → (i : ℕ)
        → Moves g depth R base origin (x ∷ map (λ b. b + h) (a ∷ bs)) i (read z s o) (read z s (puts c (offset origin i) o))
    by_single x d i =
        one_step g depth R base origin x (map (λ b. b + h) (a ∷ bs)) i _ _
        (λ rest. d (map (λ b. b + h) (a ∷ bs) ++ rest) (base + i) (offset origin i)
        ∙ step_single g depth R n (a + h) (map (λ b. b + h) bs ++ rest) (offset origin i) (read z s o) (in_half a h r.first k).graphic
        ∙ ap (λ (u : reading.Step). reading.took (suc u.used) u.to) (from_element rest (offset origin i)))

  -- in each way of showing a candidate
  shows : {s : State} {k : Cand} {bs : List ℕ} (c : ℕ) → Shows s k bs → Reads g depth R z c k → Invokes s → (i : ℕ) (o : Output)
      → Moves g depth R base origin bs i (read z s o) (read z s (puts c (offset origin i) o))
  unfolding single
  shows c (left [] size w) r v i o = absurd r
  shows c (left {s = s} (a ∷ bs) size w) r v i o =
      subst (λ (l : List ℕ). Moves g depth R base origin l i (read z s o) (read z s (puts c (offset origin i) o))) (plus_none (a ∷ bs))
      (invoked c s.gl a bs size 0 s v.left r w low o (λ rest place at. step_left g depth R a rest place at (read z s o) r.first) i)
  shows c (right [] size w) r v i o = absurd r
  shows c (right {s = s} (a ∷ bs) size w) r v i o =
      invoked c s.gr a bs size 128 s v.right r w high o (λ rest place at. step_right g depth R a rest place at (read z s o) r.first) i
  shows c (shifted [] size n h k w l m) r v i o = absurd r
  shows c (shifted (a ∷ bs) size zero h k w l m) r v i o = absurd (omega arith)
  shows c (shifted (a ∷ bs) size (suc zero) h k w l m) r v i o = absurd (omega arith)
  shows c (shifted {s = s} (a ∷ bs) size (suc (suc zero)) h k w l m) r v i o = by_single c 2 a bs size h s m r w k o 0x19 (λ rest place at. step_ss2 g depth R rest place at (read z s o)) i
  shows c (shifted {s = s} (a ∷ bs) size (suc (suc (suc zero))) h k w l m) r v i o =
      by_single c 3 a bs size h s m r w k o 0x1D (λ rest place at. step_ss3 g depth R rest place at (read z s o)) i
  shows c (shifted (a ∷ bs) size (suc (suc (suc (suc n)))) h k w l m) r v i o = absurd (omega arith)
  shows c (direct b size w) r v i o = one_step g depth R base origin b [] i _ _ (λ rest. r _ w rest (base + i) (offset origin i) o)

  -- what was written is one of the candidates, each of which is read
  among : {s : State} {bs : List ℕ} {ks : List Cand} (c : ℕ) → Some (λ k. Shows s k bs) ks → All (Reads g depth R z c) ks → Invokes s → (i : ℕ) (o : Output)
      → Moves g depth R base origin bs i (read z s o) (read z s (puts c (offset origin i) o))
  among c (here w) r v i o = shows c w r.0 v i o
  among c (there w) r v i o = among c w r.1 v i o

  pub character_moves : {s : State} {bs : List ℕ} (c : ℕ) → Some (λ k. Shows s k bs) (candidates g.cells g.annex_e c) → Invokes s → (i : ℕ) (o : Output)
      → Moves g depth R base origin bs i (read z s o) (read z s (puts c (offset origin i) o))
  character_moves c w v i o = among c w (candidates_read g depth R z c) v i o
