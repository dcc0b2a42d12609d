-- Steps, one after the other, from a place of a body. Assumes nothing.
use Prim.Native.Nat.{ℕ, zero, suc, ◌+◌, ◌-◌, ◌≤◌, ◌<◌}
use mathlib.Core.Path.{◌≡◌, refl, sym, ap, ◌∙◌, subst}
use mathlib.Core.Bool.{Bool, cond}
use mathlib.Core.List.{List, [], ◌∷◌}
use native.Mathlib.Nat.{add-zero}
use native.Mathlib.Numerals.{add-one}
use native.Mathlib.Omega.{arith}
use borrow.Author.Tests.{le-leb, lt-leb}
use lib.ListN.{length, drop, get_or, length-drop}
use lib.Seq.{drop-cons, drop-drop}
use Rattle.reading.specs.State.{Given, State, Step}
use Rattle.reading.specs.Macros.{Run}
use Rattle.reading.specs.Steps.{step, steps, offset}
use Rattle.reading.specs.Between.{Between, until}
use Rattle.decode_state.specs.declared.Core.{Core}
use Rattle.decode_state.specs.Promises.{Whole, whole, Holds, Moves, Goes}

-- what is left of a body, by its first byte
pub drop_one : (b : List ℕ) (j : ℕ) → j < length b → drop j b ≡ get_or b j 0 ∷ drop (j + 1) b
drop_one b j h = rw (add-one, drop-cons b j 0)

module _ (g : Given) (left : ℕ) (R : Run) (base origin : ℕ) where
  abbrev reached : ℕ → State → Between
  reached j s = record { at = j; state = s }

  module _ (to : ℕ) where
    until_skip : (xs : List ℕ) (i k : ℕ) (s : State) → k ≤ length xs → until g left R base origin to xs i k s ≡ until g left R base origin to (drop k xs) (i + k) 0 s
    unfolding until
    until_skip [] i zero s h = ap (λ (m : ℕ). reached m s) (sym (add-zero i))
    until_skip [] i (suc k) s h = absurd (omega arith)
    until_skip (x ∷ xs) i zero s h = ap (λ (m : ℕ). until g left R base origin to (x ∷ xs) m 0 s) (sym (add-zero i))
    until_skip (x ∷ xs) i (suc k) s h =
        let e : i + 1 + k ≡ i + suc k = omega arith in
        until_skip xs (i + 1) k s (omega arith) ∙ ap (λ (m : ℕ). until g left R base origin to (drop k xs) m 0 s) e

    -- a step of u bytes
    pub until_one : (b : List ℕ) (j : ℕ) (s : State) (u : ℕ) → j < to → j < length b → 1 ≤ u → j + u ≤ length b
        → u ≡ (step g left R (get_or b j 0) (drop (j + 1) b) (base + j) (offset origin j) s).used
        → until g left R base origin to (drop j b) j 0 s
        ≡ until g left R base origin to (drop (j + u) b) (j + u) 0 (step g left R (get_or b j 0) (drop (j + 1) b) (base + j) (offset origin j) s).to
    unfolding until
    until_one b j s u p h k n e =
        let w : Step = step g left R (get_or b j 0) (drop (j + 1) b) (base + j) (offset origin j) s in
        let q : j + 1 + (u - 1) ≡ j + u = omega arith in
        ap (λ (l : List ℕ). until g left R base origin to l j 0 s) (drop_one b j h)
        ∙ ap (λ (t : Bool). cond t (reached j s) (until g left R base origin to (drop (j + 1) b) (j + 1) (w.used - 1) w.to)) (lt-leb to j p)
        ∙ ap (λ (m : ℕ). until g left R base origin to (drop (j + 1) b) (j + 1) (m - 1) w.to) (sym e)
        ∙ until_skip (drop (j + 1) b) (j + 1) (u - 1) w.to (omega (arith, length-drop (j + 1) b))
        ∙ ap (λ (l : List ℕ). until g left R base origin to l (j + 1 + (u - 1)) 0 w.to) (drop-drop (u - 1) (j + 1) b)
        ∙ ap (λ (m : ℕ). until g left R base origin to (drop m b) m 0 w.to) q

    -- where no step is left
    until_here : (xs : List ℕ) (j : ℕ) (s : State) → to ≤ j → until g left R base origin to xs j 0 s ≡ reached j s
    unfolding until
    until_here [] j s h = refl
    until_here (x ∷ xs) j s h =
        let w : Step = step g left R x xs (base + j) (offset origin j) s in
        ap (λ (t : Bool). cond t (reached j s) (until g left R base origin to xs (j + 1) (w.used - 1) w.to)) (le-leb to j h)

    -- up to the end they are all
    pub until_all : (xs : List ℕ) (i k : ℕ) (s : State) → i + length xs ≤ to → (until g left R base origin to xs i k s).state ≡ steps g left R base origin xs i k s
    unfolding until steps
    until_all [] i k s h = refl
    until_all (x ∷ xs) i zero s h =
        let w : Step = step g left R x xs (base + i) (offset origin i) s in
        ap (λ (t : Bool). (cond t (reached i s) (until g left R base origin to xs (i + 1) (w.used - 1) w.to)).state) (lt-leb to i (omega (arith, h)))
        ∙ until_all xs (i + 1) (w.used - 1) w.to (omega (arith, h))
    until_all (x ∷ xs) i (suc k) s h = until_all xs (i + 1) k s (omega (arith, h))

  module _ (b : List ℕ) (to j : ℕ) (d : Whole) (t i : List ℕ) where
    -- no step
    pub goes_none : Goes g left R base origin b to j d t i j d t i
    goes_none t₀ i₀ s h = (s, (h, λ later l. refl))

    -- one stretch after another
    pub goes_on : (j₁ : ℕ) (d₁ : Whole) (t₁ i₁ : List ℕ) (j₂ : ℕ) (d₂ : Whole) (t₂ i₂ : List ℕ)
        → Goes g left R base origin b to j d t i j₁ d₁ t₁ i₁ → Goes g left R base origin b to j₁ d₁ t₁ i₁ j₂ d₂ t₂ i₂
        → Goes g left R base origin b to j d t i j₂ d₂ t₂ i₂
    goes_on j₁ d₁ t₁ i₁ j₂ d₂ t₂ i₂ p q t₀ i₀ s h =
        let v = p t₀ i₀ s h in
        let w = q t₀ i₀ v.0 v.1.0 in
        (w.0, (w.1.0, λ later l. w.1.1 later l ∙ v.1.1 later l))

    -- steps that begin before a byte begin before a later one
    pub goes_later : (to' j₁ : ℕ) (d₁ : Whole) (t₁ i₁ : List ℕ) → to ≤ to' → Goes g left R base origin b to j d t i j₁ d₁ t₁ i₁
        → Goes g left R base origin b to' j d t i j₁ d₁ t₁ i₁
    goes_later to' j₁ d₁ t₁ i₁ h p t₀ i₀ s k = let v = p t₀ i₀ s k in (v.0, (v.1.0, λ later l. v.1.1 later (omega (arith, h, l))))

    -- all of them
    pub goes_end : (j₁ : ℕ) (d₁ : Whole) (t₁ i₁ : List ℕ) → to ≤ j₁ → Goes g left R base origin b to j d t i j₁ d₁ t₁ i₁
        → (t₀ i₀ : List ℕ) (s : State) → Holds g t₀ i₀ s d t i
        → Holds g t₀ i₀ (until g left R base origin to (drop j b) j 0 s).state d₁ t₁ i₁ × (j₁ ≡ (until g left R base origin to (drop j b) j 0 s).at)
    goes_end j₁ d₁ t₁ i₁ h p t₀ i₀ s k =
        let v = p t₀ i₀ s k in
        let e : reached j₁ v.0 ≡ until g left R base origin to (drop j b) j 0 s = sym (until_here to (drop j₁ b) j₁ v.0 h) ∙ v.1.1 to (omega arith) in
        (subst (λ (z : Between). Holds g t₀ i₀ z.state d₁ t₁ i₁) e v.1.0, ap (λ (z : Between). z.at) e)

  -- a step that concerns no macro
  pub goes_step : (b : List ℕ) (to j : ℕ) (c : Core) (t i : List ℕ) (u : ℕ) (r : Core) (t' i' starts lens : List ℕ)
      → j < to → j < length b → 1 ≤ u → j + u ≤ length b
      → Moves g (step g left R (get_or b j 0) (drop (j + 1) b) (base + j) (offset origin j)) c t i u r t' i'
      → Goes g left R base origin b to j (whole c starts lens) t i (j + u) (whole r starts lens) t' i'
  goes_step b to j c t i u r t' i' starts lens p h k n m t₀ i₀ s q = (
    (step g left R (get_or b j 0) (drop (j + 1) b) (base + j) (offset origin j) s).to,
    (
      m.does starts lens t₀ i₀ s q,
      λ later l. sym (until_one later b j s u (omega (arith, p, l)) h k n (m.used starts lens t₀ i₀ s q)),
    ),
  )
