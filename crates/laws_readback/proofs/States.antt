-- The coder's state as reading holds it, and steps over some bytes. Assumes nothing.
use Prim.Native.Nat.{ℕ, zero, suc, ◌+◌, ◌-◌, ◌<◌}
use mathlib.Core.Path.{◌≡◌, refl, ap, ◌∙◌}
use mathlib.Core.List.{List, [], ◌∷◌, ◌++◌}
use native.Mathlib.Nat.{add-zero}
use native.Mathlib.Omega.{arith}
use lib.Dec.{eqb}
use lib.ListN.{length, get_or}
use Rattle.decode_output.specs.Output.{Output}
use Rattle.coding.specs.State.{State, set_in}
use Rattle.reading.specs.State as reading
use Rattle.reading.specs.Macros.{Run}
use Rattle.reading.specs.Steps.{step, steps, offset}

-- a state of the coder in reading, beside the macros and the charge of z and what was written
abbrev pub read : reading.State → State → Output → reading.State
read z s o =
    record { sets = s.g0 ∷ s.g1 ∷ s.g2 ∷ s.g3 ∷ []; gl = s.gl; gr = s.gr; narrow = eqb s.narrow 1; starts = z.starts; lens = z.lens; charged = z.charged; out = o }

-- the code elements invoked are of the four
pub record Invokes (s : State) : Type 0 where
  pub left : s.gl < 4
  pub right : s.gr < 4

pub set_in_lem : (s : State) (n : ℕ) → n < 4 → get_or (s.g0 ∷ s.g1 ∷ s.g2 ∷ s.g3 ∷ []) n 0 ≡ set_in s n
unfolding set_in
set_in_lem s zero h = refl
set_in_lem s (suc zero) h = refl
set_in_lem s (suc (suc zero)) h = refl
set_in_lem s (suc (suc (suc zero))) h = refl
set_in_lem s (suc (suc (suc (suc n)))) h = absurd (omega arith)

module _ (g : reading.Given) (depth : ℕ) (R : Run) (base origin : ℕ) where
  -- the bytes bs, from the i-th of a body on, take the state s to t
  abbrev pub Moves : List ℕ → ℕ → reading.State → reading.State → Type 0
  Moves bs i s t = (rest : List ℕ) → steps g depth R base origin (bs ++ rest) i 0 s ≡ steps g depth R base origin rest (i + length bs) 0 t

  passed : (bs rest : List ℕ) (i : ℕ) (s : reading.State) → steps g depth R base origin (bs ++ rest) i (length bs) s ≡ steps g depth R base origin rest (i + length bs) 0 s
  unfolding steps
  passed [] rest i s = rw (add-zero i)
  passed (b ∷ bs) rest i s =
      let e : i + 1 + length bs ≡ i + suc (length bs) = omega arith in
      passed bs rest (i + 1) s ∙ ap (λ (m : ℕ). steps g depth R base origin rest m 0 s) e

  -- one step over all of them
  pub one_step : (b : ℕ) (bs : List ℕ) (i : ℕ) (s t : reading.State)
      → ((rest : List ℕ) → step g depth R b (bs ++ rest) (base + i) (offset origin i) s ≡ reading.took (suc (length bs)) t) → Moves (b ∷ bs) i s t
  unfolding steps
  one_step b bs i s t e rest =
      let n : suc (length bs) - 1 ≡ length bs = omega arith in
      let m : i + 1 + length bs ≡ i + suc (length bs) = omega arith in
      ap (λ (w : reading.Step). steps g depth R base origin (bs ++ rest) (i + 1) (w.used - 1) w.to) (e rest)
      ∙ ap (λ (k : ℕ). steps g depth R base origin (bs ++ rest) (i + 1) k t) n
      ∙ passed bs rest (i + 1) t
      ∙ ap (λ (k : ℕ). steps g depth R base origin rest k 0 t) m
