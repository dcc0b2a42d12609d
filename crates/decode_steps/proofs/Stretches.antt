-- The loop of `plain`: what each turn adds.
use Prim.Native.Nat.{ℕ, ◌+◌, ◌-◌, ◌≤◌, ◌<◌}
use mathlib.Core.Path.{◌≡◌, refl, ◌∙◌, subst}
use mathlib.Core.List.{List}
use native.Mathlib.Omega.{arith}
use lib.ListN.{length, drop, get_or}
use Rattle.reading.specs.Macros.{Run}
use Rattle.reading.specs.Steps.{step, offset}
use Rattle.decode_state.specs.declared.Core.{Core}
use Rattle.decode_state.specs.declared.Stepped.{Stepped}
use Rattle.decode_state.specs.Promises.{whole, MayTake, Kept, TookOver, Stretch}
use Rattle.decode_state.proofs.Steps.{goes_none, goes_on, goes_step}

pub good_after : {e k : ℕ} {c r : Core} → MayTake (k + e) c → Kept k c r → MayTake e r
good_after h w = record {
  gl = w.gl;
  gr = w.gr;
  room = record {
    ordered = w.grew.ordered;
    repeat = w.grew.repeat;
    text = omega (arith, h.room.text, w.grew.text);
    issues = omega (arith, h.room.issues, w.grew.issues);
  };
}

kept_on : {e k : ℕ} {c r q : Core} → Kept e c r → Kept k r q → Kept (e + k) c q
kept_on v w = record {
  gl = w.gl;
  gr = w.gr;
  enough = w.enough ∙ v.enough;
  charged = w.charged ∙ v.charged;
  grew = record {
    ordered = w.grew.ordered;
    repeat = w.grew.repeat;
    text = omega (arith, v.grew.text, w.grew.text);
    issues = omega (arith, v.grew.issues, w.grew.issues);
  };
}

module _ (cells : List ℕ) (base origin : ℕ) (b : List ℕ) (to : ℕ) where
  pub stretch_start : {e : ℕ} (j : ℕ) (c : Core) (t i : List ℕ) → j ≤ length b → MayTake e c → Stretch cells base origin b to j c t i j c t i
  stretch_start j c t i h k = record {
    past = omega arith;
    within = h;
    kept = record { gl = k.gl; gr = k.gr; enough = refl; charged = refl; grew = record { ordered = k.room.ordered; repeat = k.room.repeat; text = omega arith; issues = omega arith } };
    goes = λ g e left R starts lens. goes_none g left R base origin b to j (whole c starts lens) t i;
  }

  pub stretch_on : {j : ℕ} {c : Core} {t i : List ℕ} {j₁ : ℕ} {c₁ : Core} {t₁ i₁ : List ℕ} {j₂ : ℕ} {c₂ : Core} {t₂ i₂ : List ℕ}
      → Stretch cells base origin b to j c t i j₁ c₁ t₁ i₁ → Stretch cells base origin b to j₁ c₁ t₁ i₁ j₂ c₂ t₂ i₂ → Stretch cells base origin b to j c t i j₂ c₂ t₂ i₂
  stretch_on {j = j} {c = c} {t = t} {i = i} {j₁ = j₁} {c₁ = c₁} {t₁ = t₁} {i₁ = i₁} {j₂ = j₂} {c₂ = c₂} {t₂ = t₂} {i₂ = i₂} v w =
      let e : (j₁ - j) + (j₂ - j₁) ≡ j₂ - j = omega (arith, v.past, w.past) in
      record {
        past = omega (arith, v.past, w.past);
        within = w.within;
        kept = subst (λ (k : ℕ). Kept k c c₂) e (kept_on v.kept w.kept);
        goes = λ g p left R starts lens.
            goes_on g left R base origin b to j (whole c starts lens) t i j₁ (whole c₁ starts lens) t₁ i₁ j₂ (whole c₂ starts lens) t₂ i₂
            (v.goes g p left R starts lens) (w.goes g p left R starts lens);
      }

  pub stretch_step : {j : ℕ} {c : Core} {t i : List ℕ} (r : Stepped) {t₁ i₁ : List ℕ}
      → ((left : ℕ) (R : Run) → TookOver cells b j (λ g. step g left R (get_or b j 0) (drop (j + 1) b) (base + j) (offset origin j)) c t i r t₁ i₁)
      → j < to → j < length b → Stretch cells base origin b to j c t i (j + r.used) r.core t₁ i₁
  stretch_step {j = j} {c = c} {t = t} {i = i} r {t₁ = t₁} {i₁ = i₁} m before h =
      let v = m 0 (λ b₁ base₁ origin₁ s₁. s₁) in
      record {
        past = omega arith;
        within = v.within;
        kept = wider r.used v.some v.kept;
        goes = λ g p left R starts lens. goes_step g left R base origin b to j c t i r.used r.core t₁ i₁ starts lens before h v.some v.within ((m left R).moves g p);
      }
    where
      wider : (u : ℕ) → 1 ≤ u → Kept 1 c r.core → Kept (j + u - j) c r.core
      wider u k w = record {
        gl = w.gl;
        gr = w.gr;
        enough = w.enough;
        charged = w.charged;
        grew = record { ordered = w.grew.ordered; repeat = w.grew.repeat; text = omega (arith, w.grew.text); issues = omega (arith, w.grew.issues) };
      }
