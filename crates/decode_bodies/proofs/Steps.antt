-- From what a callee does to what its caller does.
use Prim.Native.Nat.{ℕ, suc, ◌+◌, ◌≤◌, ◌<◌}
use mathlib.Core.Path.{◌≡◌, refl, sym, ap, subst}
use mathlib.Core.List.{List}
use mathlib.Core.Logic.{inl, inr, ⊎_elim}
use native.Mathlib.Omega.{arith}
use native.Mathlib.Numerals.{add-one}
use lib.ListN.{length}
use Rattle.reading.specs.State.{Given, State, Step, took}
use Rattle.reading.specs.Macros.{Run, limit}
use Rattle.decode_state.specs.declared.Core.{Core}
use Rattle.decode_state.specs.declared.Stepped.{Stepped}
use Rattle.decode_state.specs.Promises.{Whole, whole, Holds, HoldsOrCut, TakenOrCut, TookOver}
use Rattle.decode_characters.specs.Promises.{Did}
use Rattle.decode_bodies.specs.Promises.{Ran, RanStep}
use Rattle.decode_bodies.proofs.Room.{kept_grown}

-- what a state that a decoder holds has in common with it
pub record Alike (d : Whole) (s : State) : Type 0 where
  pub sets : s.sets ≡ d.core.sets
  pub gl : s.gl ≡ d.core.gl
  pub gr : s.gr ≡ d.core.gr
  pub charged : s.charged ≡ d.core.charged
  pub starts : s.starts ≡ d.starts
  pub lens : s.lens ≡ d.lens

pub alike : {g : Given} {t₀ i₀ : List ℕ} {s : State} {d : Whole} {t i : List ℕ} → Holds g t₀ i₀ s d t i → Alike d s
alike h = record {
  sets = sym (ap (λ (d : Whole). d.core.sets) h.state);
  gl = sym (ap (λ (d : Whole). d.core.gl) h.state);
  gr = sym (ap (λ (d : Whole). d.core.gr) h.state);
  charged = sym (ap (λ (d : Whole). d.core.charged) h.state);
  starts = sym (ap (λ (d : Whole). d.starts) h.state);
  lens = sym (ap (λ (d : Whole). d.lens) h.state);
}

module _ {cells input : List ℕ} {d : Whole} {t i : List ℕ} where
  -- a function that agrees with f at the states that are held goes as f
  pub ran_as : {e : ℕ} {f f' : Given → State → State} {d' : Whole} {t' i' : List ℕ}
      → ((g : Given) → g.input ≡ input → (s : State) → Alike d s → f' g s ≡ f g s) → Ran cells input e f d t i d' t' i' → Ran cells input e f' d t i d' t' i'
  ran_as {d' = d'} {t' = t'} {i' = i'} p v = record {
    does = λ g x y t₀ i₀ s h. subst (λ (z : State). HoldsOrCut g t₀ i₀ z d' t' i') (sym (p g y s (alike h))) (v.does g x y t₀ i₀ s h);
    grown = v.grown;
  }

  -- the same of a step
  pub step_as : {b : List ℕ} {j u : ℕ} {f f' : Given → State → Step} {d' : Whole} {t' i' : List ℕ} → ((g : Given) (s : State) → Alike d s → f' g s ≡ f g s)
      → RanStep cells input b j f d t i u d' t' i' → RanStep cells input b j f' d t i u d' t' i'
  step_as {u = u} {d' = d'} {t' = t'} {i' = i'} p v = record {
    does = λ g x y t₀ i₀ s h. subst (λ (z : Step). TakenOrCut g t₀ i₀ z u d' t' i') (sym (p g s (alike h))) (v.does g x y t₀ i₀ s h);
    some = v.some;
    most = v.most;
    grown = v.grown;
  }

  -- from a function outside the cycle, which does not depend on how a body runs
  pub did_ran : {f : Given → State → State} {r : Core} {t' i' : List ℕ} → d.core.charged ≤ limit input → Did cells f d.core t i r t' i'
      → Ran cells input 1 f d t i (whole r d.starts d.lens) t' i'
  did_ran h v = record { does = λ g x y t₀ i₀ s k. inl (v.does g x d.starts d.lens t₀ i₀ s k); grown = kept_grown h v.kept }

  -- the same of a step
  pub took_ran : {b : List ℕ} {j : ℕ} (B : Given → Run) {f : Given → Run → State → Step} {r : Stepped} {t' i' : List ℕ} → d.core.charged ≤ limit input
      → ((R : Run) → TookOver cells b j (λ g. f g R) d.core t i r t' i')
      → RanStep cells input b j (λ g. f g (B g)) d t i r.used (whole r.core d.starts d.lens) t' i'
  took_ran B h v =
      let w = v (λ b₁ base₁ origin₁ s₁. s₁) in
      record {
        does = λ g x y t₀ i₀ s k.
            let m = (v (B g)).moves g x in
            inl (m.does d.starts d.lens t₀ i₀ s k, m.used d.starts d.lens t₀ i₀ s k);
        some = w.some;
        most = w.within;
        grown = kept_grown h w.kept;
      }

  -- one byte
  pub one_step : {b : List ℕ} {j : ℕ} {f : Given → State → State} {d' : Whole} {t' i' : List ℕ} → j < length b → Ran cells input 1 f d t i d' t' i'
      → RanStep cells input b j (λ g s. took 1 (f g s)) d t i 1 d' t' i'
  one_step h v = record {
    does = λ g x y t₀ i₀ s k. ⊎_elim (λ q. inl (q, refl)) (λ q. inr q) (v.does g x y t₀ i₀ s k);
    some = omega arith;
    most = omega (arith, h);
    grown = v.grown;
  }

  -- one byte more, before a character
  pub shift_step : {b : List ℕ} {j u : ℕ} {f : Given → State → Step} {d' : Whole} {t' i' : List ℕ} → RanStep cells input b (j + 1) f d t i u d' t' i'
      → RanStep cells input b j (λ g s. record { used = suc (f g s).used; to = (f g s).to }) d t i (u + 1) d' t' i'
  shift_step {u = u} v = record {
    does = λ g x y t₀ i₀ s k. ⊎_elim (λ q. inl (q.0, rw (add-one u) (ap suc q.1))) (λ q. inr q) (v.does g x y t₀ i₀ s k);
    some = omega arith;
    most = omega (arith, v.most);
    grown = v.grown;
  }
