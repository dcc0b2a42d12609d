-- The loops of `run` and of the steps outside every body: the steps from the start, and what each turn adds.
use Prim.Native.Nat.{ℕ, zero, suc, ◌+◌, ◌-◌, ◌≤◌, ◌<◌}
use mathlib.Core.Path.{◌≡◌, refl, sym, ap, ◌∙◌, subst}
use mathlib.Core.List.{List, [], ◌∷◌}
use mathlib.Core.Logic.{◌⊎◌, inl, inr}
use native.Mathlib.Nat.{zero-add}
use native.Mathlib.Numerals.{add-one}
use native.Mathlib.Omega.{arith}
use borrow.Author.Tests.{lt-leb}
use lib.Dec.{leb}
use lib.ListN.{length, drop, get_or}
use Rattle.base.proofs.Tests.{either}
use Rattle.reading.specs.State.{Given, State, Step}
use Rattle.reading.specs.Macros.{limit}
use Rattle.reading.specs.Steps.{step, steps, run, offset}
use Rattle.reading.specs.Between.{Between, until}
use Rattle.laws_reading.specs.Reading.{Grows}
use Rattle.laws_reading.proofs.Reading.{same, issues_only_grow, has_later}
use Rattle.decode_output.specs.declared.Out.{Out}
use Rattle.decode_state.specs.declared.Core.{Core}
use Rattle.decode_state.specs.Promises.{Whole, whole, Holds, Goes, Stretch, Ends, Cut, HoldsOrCut, TakenOrCut}
use Rattle.decode_state.proofs.Steps.{drop_one, goes_none, goes_on, goes_end, until_one, until_all}
use Rattle.decode_bodies.specs.declared.Place.{Place}
use Rattle.decode_bodies.specs.Promises.{below, step_in, Ready, Grown, Ran, RanStep}
use Rattle.decode_bodies.proofs.Room.{grown_same, kept_grown, grown_on, grown_more}
use Rattle.decode_bodies.proofs.Steps.{step_as}

pub below_run : (g : Given) (left : ℕ) → (left ≡ 0 → ⊥) → below g left ≡ run g (left - 1)
unfolding below
below_run g zero h = absurd (h refl)
below_run g (suc left) h = let e : left ≡ suc left - 1 = omega arith in ap (run g) e

run_steps : (g : Given) (left : ℕ) (b : List ℕ) (base origin : ℕ) (s : State) → run g left b base origin s ≡ steps g left (below g left) base origin b 0 0 s
unfolding below run
run_steps g zero b base origin s = refl
run_steps g (suc left) b base origin s = refl

-- ---- issues are only appended to

-- as many as the struct counts
has_counted : {g : Given} {t₀ i₀ : List ℕ} {s : State} {d : Whole} {t i : List ℕ} {n : ℕ} → Holds g t₀ i₀ s d t i → n ≤ d.core.out.issues → n ≤ length s.out.issues
has_counted h k = omega (arith, k, ap (λ (o : Out). o.issues) h.out.state)

below_grows : (g : Given) (left : ℕ) → Grows (below g left)
unfolding below
below_grows g zero = λ b base origin s. same s
below_grows g (suc left) = issues_only_grow.run g left

-- and so do steps up to a byte
until_grows : (g : Given) (left base origin to : ℕ) (xs : List ℕ) (i k : ℕ) (s : State) (n : ℕ) → n ≤ length s.out.issues
    → n ≤ length (until g left (below g left) base origin to xs i k s).state.out.issues
unfolding until
until_grows g left base origin to [] i k s n h = h
until_grows g left base origin to (x ∷ xs) i zero s n h =
    let w : Step = step g left (below g left) x xs (base + i) (offset origin i) s in
    either (λ (z : Between). n ≤ length z.state.out.issues) (leb to i) h
    (until_grows g left base origin to xs (i + 1) (w.used - 1) w.to n
    (has_later (issues_only_grow.step g left (below g left) (below_grows g left) x xs (base + i) (offset origin i) s) h))
until_grows g left base origin to (x ∷ xs) i (suc k) s n h = until_grows g left base origin to xs (i + 1) k s n h

-- steps that have n issues behind the first one have as many
has_behind : {n : ℕ} (g : Given) (left base origin to : ℕ) (b : List ℕ) (j : ℕ) (s : State) → j < to → j < length b
    → n ≤ length (step g left (below g left) (get_or b j 0) (drop (j + 1) b) (base + j) (offset origin j) s).to.out.issues
    → n ≤ length (until g left (below g left) base origin to (drop j b) j 0 s).state.out.issues
unfolding until
has_behind g left base origin to b j s p h k = rw (drop_one b j h, lt-leb to j p) (until_grows g left base origin to (drop (j + 1) b) (j + 1) _ _ _ k)

-- ---- a loop along a body

-- the step at the byte j of b, as `steps` takes it
abbrev pub step_from : ℕ → ℕ → ℕ → List ℕ → ℕ → Given → State → Step
step_from left base origin b j g = step g left (below g left) (get_or b j 0) (drop (j + 1) b) (base + j) (offset origin j)

-- the steps from the byte j of b that begin before the byte `to`
abbrev pub steps_to : ℕ → ℕ → ℕ → List ℕ → ℕ → ℕ → Given → State → Between
steps_to left base origin b to j g = until g left (below g left) base origin to (drop j b) j 0

-- from the byte j of b to its byte j₁ by such steps
pub record Along (cells input : List ℕ) (left base origin : ℕ) (b : List ℕ) (to j : ℕ) (d : Whole) (t i : List ℕ) (j₁ : ℕ) (d₁ : Whole) (t₁ i₁ : List ℕ) : Type 0 where
  pub past : j ≤ j₁
  pub within : j₁ ≤ length b
  pub grown : Grown (limit input) (j₁ - j) d.core d₁.core
  pub goes : (g : Given) → g.cells ≡ cells → g.input ≡ input → Goes g left (below g left) base origin b to j d t i j₁ d₁ t₁ i₁
  pub as_long : length t₁ ≡ length t
  pub as_many : length i₁ ≡ length i

-- all of them, or to an issue that ends the reading
pub record Went (cells input : List ℕ) (left base origin : ℕ) (b : List ℕ) (to j : ℕ) (d : Whole) (t i : List ℕ) (j₁ : ℕ) (d₁ : Whole) (t₁ i₁ : List ℕ) : Type 0 where
  pub does : (g : Given) → g.cells ≡ cells → g.input ≡ input → (t₀ i₀ : List ℕ) (s : State) → Holds g t₀ i₀ s d t i
      → (Holds g t₀ i₀ (steps_to left base origin b to j g s).state d₁ t₁ i₁ × (j₁ ≡ (steps_to left base origin b to j g s).at))
      ⊎ Cut d₁.core (steps_to left base origin b to j g s).state
  pub grown : Grown (limit input) (length b - j) d.core d₁.core

module _ {cells input : List ℕ} {left base origin : ℕ} {b : List ℕ} {to j : ℕ} {d : Whole} {t i : List ℕ} where
  pub along_start : {e : ℕ} → j ≤ length b → Ready (limit input) e d.core → Along cells input left base origin b to j d t i j d t i
  along_start k h = record {
    past = omega arith;
    within = k;
    grown = grown_same h (j - j);
    goes = λ g x y. goes_none g left (below g left) base origin b to j d t i;
    as_long = refl;
    as_many = refl;
  }

  module _ {j₁ : ℕ} {d₁ : Whole} {t₁ i₁ : List ℕ} where
    -- plain steps
    pub along_stretch : {j₂ : ℕ} {c₂ : Core} {t₂ i₂ : List ℕ} → Along cells input left base origin b to j d t i j₁ d₁ t₁ i₁
        → Stretch cells base origin b to j₁ d₁.core t₁ i₁ j₂ c₂ t₂ i₂ → length t₂ ≡ length t₁ → length i₂ ≡ length i₁
        → Along cells input left base origin b to j d t i j₂ (whole c₂ d₁.starts d₁.lens) t₂ i₂
    along_stretch {j₂ = j₂} {c₂ = c₂} {t₂ = t₂} {i₂ = i₂} w v l m =
        let e : (j₁ - j) + (j₂ - j₁) ≤ j₂ - j = omega (arith, w.past, v.past) in
        record {
          past = omega (arith, w.past, v.past);
          within = v.within;
          grown = grown_more (j₂ - j) e (grown_on w.grown (kept_grown w.grown.within v.kept));
          goes = λ g x y.
              goes_on g left (below g left) base origin b to j d t i j₁ d₁ t₁ i₁ j₂ (whole c₂ d₁.starts d₁.lens) t₂ i₂
              (w.goes g x y) (v.goes g x left (below g left) d₁.starts d₁.lens);
          as_long = l ∙ w.as_long;
          as_many = m ∙ w.as_many;
        }

    module _ {u : ℕ} {d₂ : Whole} {t₂ i₂ : List ℕ} (w : Along cells input left base origin b to j d t i j₁ d₁ t₁ i₁) (before : j₁ < to) (h : j₁ < length b)
        (v : RanStep cells input b j₁ (step_from left base origin b j₁) d₁ t₁ i₁ u d₂ t₂ i₂) where
      -- the step at which they stopped, where the reading goes on
      pub along_step : (Ends d₂.core.enough d₂.core.out.issues → ⊥) → length t₂ ≡ length t₁ → length i₂ ≡ length i₁
          → Along cells input left base origin b to j d t i (j₁ + u) d₂ t₂ i₂
      along_step n l m =
          record {
            past = omega (arith, w.past);
            within = v.most;
            grown = grown_more (j₁ + u - j) (omega (arith, w.past, v.some)) (grown_on w.grown v.grown);
            goes = λ g x y.
                goes_on g left (below g left) base origin b to j d t i j₁ d₁ t₁ i₁ (j₁ + u) d₂ t₂ i₂ (w.goes g x y)
                (λ t₀ i₀ s k. taken g t₀ i₀ s (v.does g x y t₀ i₀ s k));
            as_long = l ∙ w.as_long;
            as_many = m ∙ w.as_many;
          }
        where
          taken : (g : Given) (t₀ i₀ : List ℕ) (s : State) → TakenOrCut g t₀ i₀ (step_from left base origin b j₁ g s) u d₂ t₂ i₂
              → (s' : State) × (Holds g t₀ i₀ s' d₂ t₂ i₂ × ((later : ℕ) → to ≤ later
              → until g left (below g left) base origin later (drop (j₁ + u) b) (j₁ + u) 0 s' ≡ until g left (below g left) base origin later (drop j₁ b) j₁ 0 s))
          taken g t₀ i₀ s (inl q) = (
            (step_from left base origin b j₁ g s).to,
            (q.0, λ later l. sym (until_one g left (below g left) base origin later b j₁ s u (omega (arith, before, l)) h v.some v.most q.1)),
          )
          taken g t₀ i₀ s (inr q) = absurd (n q.ends)

      -- the same, where it ends: all the steps as defined have as many issues
      pub along_cut : (j₂ : ℕ) → Ends d₂.core.enough d₂.core.out.issues → Went cells input left base origin b to j d t i j₂ d₂ t₂ i₂
      along_cut j₂ e =
          record {
            does = λ g x y t₀ i₀ s k.
                let p = w.goes g x y t₀ i₀ s k in
                let c = has_behind g left base origin to b j₁ p.0 before h (has g t₀ i₀ p.0 (v.does g x y t₀ i₀ p.0 p.1.0)) in
                inr (record { ends = e; has = subst (λ (z : Between). d₂.core.enough ≤ length z.state.out.issues) (p.1.1 to (omega arith)) c });
            grown = grown_more (length b - j) (omega (arith, w.past, v.some, v.most)) (grown_on w.grown v.grown);
          }
        where
          has : (g : Given) (t₀ i₀ : List ℕ) (s : State) → TakenOrCut g t₀ i₀ (step_from left base origin b j₁ g s) u d₂ t₂ i₂
              → d₂.core.enough ≤ length (step_from left base origin b j₁ g s).to.out.issues
          has g t₀ i₀ s (inl q) = has_counted q.0 e
          has g t₀ i₀ s (inr q) = q.has

    pub along_end : Along cells input left base origin b to j d t i j₁ d₁ t₁ i₁ → to ≤ j₁ → Went cells input left base origin b to j d t i j₁ d₁ t₁ i₁
    along_end w h = record {
      does = λ g x y t₀ i₀ s k. inl (goes_end g left (below g left) base origin b to j d t i j₁ d₁ t₁ i₁ h (w.goes g x y) t₀ i₀ s k);
      grown = grown_more (length b - j) (omega (arith, w.past, w.within)) w.grown;
    }

-- the same byte in other words
pub along_to : {cells input : List ℕ} {left base origin : ℕ} {b : List ℕ} {to j : ℕ} {d : Whole} {t i : List ℕ} {j₁ j₂ : ℕ} {d₁ : Whole} {t₁ i₁ : List ℕ}
    → j₁ ≡ j₂ → Along cells input left base origin b to j d t i j₁ d₁ t₁ i₁ → Along cells input left base origin b to j d t i j₂ d₁ t₁ i₁
along_to {cells} {input} {left} {base} {origin} {b} {to} {j} {d} {t} {i} {d₁ = d₁} {t₁} {i₁} e w = subst (λ (k : ℕ). Along cells input left base origin b to j d t i k d₁ t₁ i₁) e w

-- where the steps are over: at their end, or at an issue that ends the reading
pub along_over : {cells input : List ℕ} {left base origin : ℕ} {b : List ℕ} {to j : ℕ} {d : Whole} {t i : List ℕ} {j₁ : ℕ} {d₁ : Whole} {t₁ i₁ : List ℕ}
    → Along cells input left base origin b to j d t i j₁ d₁ t₁ i₁ → (to ≤ j₁) ⊎ Ends d₁.core.enough d₁.core.out.issues
    → Went cells input left base origin b to j d t i j₁ d₁ t₁ i₁
along_over w (inl h) = along_end w h
along_over {cells} {input} {left} {base} {origin} {b} {to} {j} {d} {t} {i} {j₁} {d₁} {t₁} {i₁} w (inr e) = record {
  does = λ g x y t₀ i₀ s k.
      let p = w.goes g x y t₀ i₀ s k in
      inr (record { ends = e; has = subst (λ (z : Between). d₁.core.enough ≤ length z.state.out.issues) (p.1.1 to (omega arith)) (until_grows g left base origin to (drop j₁ b) j₁ 0 p.0 _ (has_counted p.1.0 e)) });
  grown = grown_more (length b - j) (omega (arith, w.past, w.within)) w.grown;
}

-- the whole of a body
pub went_all : {cells input : List ℕ} {left base origin : ℕ} {b : List ℕ} {d : Whole} {t i : List ℕ} {j₁ : ℕ} {d₁ : Whole} {t₁ i₁ : List ℕ}
    → Went cells input left base origin b (length b) 0 d t i j₁ d₁ t₁ i₁ → Ran cells input (length b) (λ g. run g left b base origin) d t i d₁ t₁ i₁
went_all {left = left} {base} {origin} {b} {d} {t} {i} {j₁} {d₁} {t₁} {i₁} w = record {
  does = λ g x y t₀ i₀ s k. all g t₀ i₀ s (w.does g x y t₀ i₀ s k);
  grown = grown_more (length b) (omega arith) w.grown;
}
  where
    same : (g : Given) (s : State) → (steps_to left base origin b (length b) 0 g s).state ≡ run g left b base origin s
    same g s = until_all g left (below g left) base origin (length b) b 0 0 s (omega arith) ∙ sym (run_steps g left b base origin s)

    all : (g : Given) (t₀ i₀ : List ℕ) (s : State)
        → (Holds g t₀ i₀ (steps_to left base origin b (length b) 0 g s).state d₁ t₁ i₁ × (j₁ ≡ (steps_to left base origin b (length b) 0 g s).at))
        ⊎ Cut d₁.core (steps_to left base origin b (length b) 0 g s).state
        → HoldsOrCut g t₀ i₀ (run g left b base origin s) d₁ t₁ i₁
    all g t₀ i₀ s (inl q) = inl (subst (λ (z : State). Holds g t₀ i₀ z d₁ t₁ i₁) (same g s) q.0)
    all g t₀ i₀ s (inr q) = inr (subst (λ (z : State). Cut d₁.core z) (same g s) q)

-- ---- the offset

-- inside a body it is the outermost caller's
inside_offset : (at j : ℕ) → offset (at + 1) j ≡ at
unfolding offset
inside_offset at j = rw (add-one at)

pub inside_step : {cells input b : List ℕ} {d : Whole} {t i : List ℕ} {u : ℕ} {d' : Whole} {t' i' : List ℕ} (p : Place) (j : ℕ)
    → RanStep cells input b j (step_in b j p) d t i u d' t' i' → RanStep cells input b j (step_from p.left p.base (p.at + 1) b j) d t i u d' t' i'
inside_step {b = b} p j v =
    step_as (λ g s h. ap (λ (at : ℕ). step g p.left (below g p.left) (get_or b j 0) (drop (j + 1) b) (p.base + j) at s) (inside_offset p.at j)) v

-- outside every body it is the byte's own
pub outside_step : {cells input : List ℕ} {d : Whole} {t i : List ℕ} {u : ℕ} {d' : Whole} {t' i' : List ℕ} (left j : ℕ)
    → RanStep cells input input j (λ g. step g left (below g left) (get_or input j 0) (drop (j + 1) input) j j) d t i u d' t' i'
    → RanStep cells input input j (step_from left 0 0 input j) d t i u d' t' i'
unfolding offset
outside_step {input = input} left j v =
    step_as (λ g s h. ap (λ (place : ℕ). step g left (below g left) (get_or input j 0) (drop (j + 1) input) place j s) (zero-add j)) v
