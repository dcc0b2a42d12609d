-- What holds at the head of the loop of `plain`, and how a turn keeps it.
use Prim.Native.Nat.{ℕ, ◌+◌, ◌-◌, ◌≤◌, ◌<◌}
use mathlib.Core.Path.{◌≡◌, refl, ◌∙◌, subst}
use mathlib.Core.Bool.{true, false}
use mathlib.Core.List.{List}
use Rattle.std.specs.Prelude.{Option, Some, None}
use Rattle.std.specs.Option.{is_some}
use native.Mathlib.Omega.{arith}
use lib.ListN.{length, drop, get_or}
use Rattle.reading.specs.Macros.{Run}
use Rattle.reading.specs.Steps.{step, offset}
use Rattle.decode_state.specs.declared.Core.{Core}
use Rattle.decode_state.specs.declared.Stepped.{Stepped}
use Rattle.decode_steps.specs.declared.Stop.{Stop}
use Rattle.decode_state.specs.Promises.{MayTake, TookOver, Stretch}
use Rattle.decode_steps.specs.Promises.{Passes, Verdict, StopAt}
use Rattle.decode_steps.proofs.Stretches.{good_after, stretch_start, stretch_on, stretch_step}

-- the stretch so far, and buffers as long as they were
pub record Way (cells : List ℕ) (base origin : ℕ) (b : List ℕ) (to j : ℕ) (c : Core) (t i : List ℕ) (j' : ℕ) (r : Core) (t' i' : List ℕ) : Type 0 where
  pub stretch : Stretch cells base origin b to j c t i j' r t' i'
  pub text : length t' ≡ length t
  pub issues : length i' ≡ length i

module _ {cells : List ℕ} {base origin : ℕ} {b : List ℕ} {to j : ℕ} {c : Core} {t i : List ℕ} where
  pub way_start : {e : ℕ} → j ≤ length b → MayTake e c → Way cells base origin b to j c t i j c t i
  way_start h k = record { stretch = stretch_start cells base origin b to j c t i h k; text = refl; issues = refl }

  -- the room that is left for the rest of the body
  pub way_good : {j₁ : ℕ} {c₁ : Core} {t₁ i₁ : List ℕ} → Way cells base origin b to j c t i j₁ c₁ t₁ i₁ → MayTake (length b - j) c → MayTake (length b - j₁) c₁
  way_good {j₁} {c₁} w h =
      let e : length b - j ≡ (j₁ - j) + (length b - j₁) = omega (arith, w.stretch.past, w.stretch.within) in
      good_after {e = length b - j₁} (subst (λ (n : ℕ). MayTake n c) e h) w.stretch.kept

  -- a run of letters
  pub way_on : {j₁ : ℕ} {c₁ : Core} {t₁ i₁ : List ℕ} {j₂ : ℕ} {c₂ : Core} {t₂ : List ℕ} → Way cells base origin b to j c t i j₁ c₁ t₁ i₁
      → Stretch cells base origin b to j₁ c₁ t₁ i₁ j₂ c₂ t₂ i₁ → length t₂ ≡ length t₁ → Way cells base origin b to j c t i j₂ c₂ t₂ i₁
  way_on w v e = record { stretch = stretch_on cells base origin b to w.stretch v; text = e ∙ w.text; issues = w.issues }

  -- a step
  pub way_step : {j₁ : ℕ} {c₁ : Core} {t₁ i₁ : List ℕ} (r : Stepped) {t₂ i₂ : List ℕ} (at : ℕ) → at ≡ offset origin j₁ → j₁ < to → j₁ < length b
      → Way cells base origin b to j c t i j₁ c₁ t₁ i₁
      → ((left : ℕ) (R : Run) → TookOver cells b j₁ (λ g. step g left R (get_or b j₁ 0) (drop (j₁ + 1) b) (base + j₁) at) c₁ t₁ i₁ r t₂ i₂)
      → length t₂ ≡ length t₁ → length i₂ ≡ length i₁ → Way cells base origin b to j c t i (j₁ + r.used) r.core t₂ i₂
  way_step {j₁} {c₁} {t₁} {i₁} r {t₂} {i₂} at p before l w m e q =
      let n : (left : ℕ) (R : Run) → TookOver cells b j₁ (λ g. step g left R (get_or b j₁ 0) (drop (j₁ + 1) b) (base + j₁) (offset origin j₁)) c₁ t₁ i₁ r t₂ i₂ =
      λ left R. subst (λ (a : ℕ). TookOver cells b j₁ (λ g. step g left R (get_or b j₁ 0) (drop (j₁ + 1) b) (base + j₁) a) c₁ t₁ i₁ r t₂ i₂) p (m left R) in
      record { stretch = stretch_on cells base origin b to w.stretch (stretch_step cells base origin b to r n before l); text = e ∙ w.text; issues = q ∙ w.issues }

-- room for the next byte
pub good_next : {n : ℕ} {c : Core} → MayTake n c → 1 ≤ n → MayTake 1 c
good_next h k = record {
  gl = h.gl;
  gr = h.gr;
  room = record { ordered = h.room.ordered; repeat = h.room.repeat; text = omega (arith, h.room.text); issues = omega (arith, h.room.issues) };
}

-- what stops the steps, where something does
pub stop_at : (r : Option Stop) (b : List ℕ) (to i : ℕ) (c : Core) → is_some r ≡ true → i < to → Verdict r b i c → StopAt r b to i c
stop_at None b to i c h l v = absurd (cc)
stop_at (Some stop) b to i c h l v = (l, v)

-- and where nothing does
pub passes_at : (r : Option Stop) (b : List ℕ) (i : ℕ) (c : Core) → is_some r ≡ false → Verdict r b i c → Passes b i c
passes_at None b i c h v = v
passes_at (Some stop) b i c h v = absurd (cc)
