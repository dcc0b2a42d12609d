-- What turns the settings, and steps by their first byte. Assumes nothing.
use Prim.Native.Nat.{ℕ, zero, suc, ◌+◌, ◌≤◌, ◌<◌}
use mathlib.Core.Path.{◌≡◌, refl, sym, ap, ◌∙◌}
use mathlib.Core.Bool.{Bool, true, false, cond, ◌&&◌}
use mathlib.Core.List.{List, [], ◌∷◌}
use mathlib.Core.Option.{Option, none, some}
use Rattle.std.specs.Prelude.{Some, None, Option as Answer}
use native.Mathlib.Omega.{arith}
use borrow.Author.Tests.{le-leb}
use mir.Val.{bool_byte}
use lib.Dec.{T, eqb, leb}
use lib.ListN.{length, drop, get_or, set, replicate}
use Rattle.base.proofs.Table.{at}
use Rattle.control.specs.Controls.{count_of}
use Rattle.reading.specs.State.{Given, State, Step, took, designate, invoke_gl, invoke_gr, resize}
use Rattle.reading.specs.Macros.{Run}
use Rattle.reading.specs.Steps.{step, offset}
use Rattle.reading.specs.Between.{until}
use Rattle.decode_state.proofs.Steps.{until_one}
use Rattle.decode_controls.specs.declared.Effect.{Effect}
use Rattle.decode_controls.specs.declared.Control.{Control}
use Rattle.decode_controls.specs.Controls.{step_of, Reads}
use Rattle.decode_settings.specs.Promises.{with_settings, Settings, Turns, used_of, Takes, Controls}

-- ---- the seven numbers

-- what holds of every seven numbers
pub seven : (P : List ℕ → Type 0) → ((a b c d e f h : ℕ) → P (a ∷ b ∷ c ∷ d ∷ e ∷ f ∷ h ∷ [])) → (l : List ℕ) → length l ≡ 7 → P l
seven P k [] q = absurd (omega arith)
seven P k (a ∷ []) q = absurd (omega arith)
seven P k (a ∷ b ∷ []) q = absurd (omega arith)
seven P k (a ∷ b ∷ c ∷ []) q = absurd (omega arith)
seven P k (a ∷ b ∷ c ∷ d ∷ []) q = absurd (omega arith)
seven P k (a ∷ b ∷ c ∷ d ∷ e ∷ []) q = absurd (omega arith)
seven P k (a ∷ b ∷ c ∷ d ∷ e ∷ f ∷ []) q = absurd (omega arith)
seven P k (a ∷ b ∷ c ∷ d ∷ e ∷ f ∷ h ∷ []) q = k a b c d e f h
seven P k (a ∷ b ∷ c ∷ d ∷ e ∷ f ∷ h ∷ i ∷ r) q = absurd (omega arith)

four : (P : ℕ → Type 0) → P 0 → P 1 → P 2 → P 3 → (e : ℕ) → e < 4 → P e
four P a b c d zero h = a
four P a b c d (suc zero) h = b
four P a b c d (suc (suc zero)) h = c
four P a b c d (suc (suc (suc zero))) h = d
four P a b c d (suc (suc (suc (suc e)))) h = absurd (omega arith)

module _ {l : List ℕ} (h : Settings l) where
  -- a code element is invoked in GL
  after_gl : (e : ℕ) → e < 4 → Settings (set l 4 e)
  after_gl e p = seven (λ (l : List ℕ). Settings l → Settings (set l 4 e)) (λ a b c d x y z k. record { seven = refl; gl = p; gr = k.gr }) l h.seven h

  turned_gl : (e : ℕ) (s : State) → invoke_gl e (with_settings l s) ≡ with_settings (set l 4 e) s
  unfolding invoke_gl
  turned_gl e s = seven (λ (l : List ℕ). invoke_gl e (with_settings l s) ≡ with_settings (set l 4 e) s) (λ a b c d x y z. refl) l h.seven

  -- in GR
  after_gr : (e : ℕ) → e < 4 → Settings (set l 5 e)
  after_gr e p = seven (λ (l : List ℕ). Settings l → Settings (set l 5 e)) (λ a b c d x y z k. record { seven = refl; gl = k.gl; gr = p }) l h.seven h

  turned_gr : (e : ℕ) (s : State) → invoke_gr e (with_settings l s) ≡ with_settings (set l 5 e) s
  unfolding invoke_gr
  turned_gr e s = seven (λ (l : List ℕ). invoke_gr e (with_settings l s) ≡ with_settings (set l 5 e) s) (λ a b c d x y z. refl) l h.seven

  -- a size is selected
  after_size : (n : ℕ) → Settings (set l 6 n)
  after_size n = seven (λ (l : List ℕ). Settings l → Settings (set l 6 n)) (λ a b c d x y z k. record { seven = refl; gl = k.gl; gr = k.gr }) l h.seven h

  turned_size : (n : ℕ) (s : State) → resize (eqb n 1) (with_settings l s) ≡ with_settings (set l 6 n) s
  unfolding resize
  turned_size n s = seven (λ (l : List ℕ). resize (eqb n 1) (with_settings l s) ≡ with_settings (set l 6 n) s) (λ a b c d x y z. refl) l h.seven

  -- a set is designated
  after_set : (e n : ℕ) → e < 4 → Settings (set l e n)
  after_set e n p =
      seven (λ (l : List ℕ). Settings l → Settings (set l e n))
      (λ a b c d x y z k.
      let r : Settings (a ∷ b ∷ c ∷ d ∷ x ∷ y ∷ z ∷ []) = k in
      four (λ (e : ℕ). Settings (set (a ∷ b ∷ c ∷ d ∷ x ∷ y ∷ z ∷ []) e n))
      (record { seven = refl; gl = r.gl; gr = r.gr })
      (record { seven = refl; gl = r.gl; gr = r.gr })
      (record { seven = refl; gl = r.gl; gr = r.gr })
      (record { seven = refl; gl = r.gl; gr = r.gr })
      e p)
      l h.seven h

  turned_set : (e n : ℕ) → e < 4 → (s : State) → designate e n (with_settings l s) ≡ with_settings (set l e n) s
  unfolding designate
  turned_set e n p s =
      seven (λ (l : List ℕ). designate e n (with_settings l s) ≡ with_settings (set l e n) s)
      (λ a b c d x y z. four (λ (e : ℕ). designate e n (with_settings (a ∷ b ∷ c ∷ d ∷ x ∷ y ∷ z ∷ []) s) ≡ with_settings (set (a ∷ b ∷ c ∷ d ∷ x ∷ y ∷ z ∷ []) e n) s) refl refl refl refl e p)
      l h.seven

-- ---- steps

module _ {b : List ℕ} {i : ℕ} {l : List ℕ} (h : Settings l) where
  -- a step is left
  pub turns_none : {f : State → Step} → i < length b → Turns f b i l 0 l
  turns_none p = record { within = omega arith; settings = h; left = λ q. refl; does = λ q s. absurd (q refl) }

  -- a step of u bytes changes nothing
  pub turns_same : {f : State → Step} {u : ℕ} → i + u ≤ length b → ((s : State) → f s ≡ took u s) → Turns f b i l u l
  turns_same p e = record { within = p; settings = h; left = λ q. refl; does = λ q s. e (with_settings l s) }

  -- a step of n bytes sets a number
  module _ {n r : ℕ} {l' : List ℕ} (some : 1 ≤ n) (inside : i + n ≤ length b) where
    pub turns_gl : (e : ℕ) → e < 4 → (r ≡ n) × (l' ≡ set l 4 e) → Turns (λ s. took n (invoke_gl e s)) b i l r l'
    turns_gl e p q = rw (q.0, q.1) (record { within = inside; settings = after_gl h e p; left = λ z. absurd (omega arith); does = λ z s. ap (took n) (turned_gl h e s) })

    pub turns_gr : (e : ℕ) → e < 4 → (r ≡ n) × (l' ≡ set l 5 e) → Turns (λ s. took n (invoke_gr e s)) b i l r l'
    turns_gr e p q = rw (q.0, q.1) (record { within = inside; settings = after_gr h e p; left = λ z. absurd (omega arith); does = λ z s. ap (took n) (turned_gr h e s) })

    pub turns_size : (x : ℕ) → (r ≡ n) × (l' ≡ set l 6 x) → Turns (λ s. took n (resize (eqb x 1) s)) b i l r l'
    turns_size x q = rw (q.0, q.1) (record { within = inside; settings = after_size h x; left = λ z. absurd (omega arith); does = λ z s. ap (took n) (turned_size h x s) })

    pub turns_set : (e x : ℕ) → e < 4 → (r ≡ n) × (l' ≡ set l e x) → Turns (λ s. took n (designate e x s)) b i l r l'
    turns_set e x p q = rw (q.0, q.1) (record { within = inside; settings = after_set h e x p; left = λ z. absurd (omega arith); does = λ z s. ap (took n) (turned_set h e x p s) })

-- a step that is another at every state
pub turns_as : {f f' : State → Step} {b : List ℕ} {i : ℕ} {l : List ℕ} {u : ℕ} {l' : List ℕ} → ((s : State) → f s ≡ f' s) → Turns f' b i l u l' → Turns f b i l u l'
turns_as {l = l} e t = record { within = t.within; settings = t.settings; left = t.left; does = λ q s. e (with_settings l s) ∙ t.does q s }

-- what was read
pub turns_read : {f : ℕ → ℕ → State → Step} {b : List ℕ} {i : ℕ} {c : Control} {e : Effect} {l : List ℕ} {u : ℕ} {l' : List ℕ} → Reads f b i c → c.effect ≡ e → (place at : ℕ)
    → Turns (step_of e c.used place at) b i l u l' → Turns (f place at) b i l u l'
turns_read {c = c} r q place at t = turns_as (λ s. r.says place at s ∙ ap (λ (e : Effect). step_of e c.used place at s) q) t

-- ---- the same of answers

unwrapped : (a b : ℕ) → ◌≡◌ {A = Answer ℕ} (Some a) (Some b) → a ≡ b
unwrapped a b e = ap used_of e

pub takes_none : {f : State → Step} {b : List ℕ} {i : ℕ} {l : List ℕ} → Settings l → i < length b → Takes f b i l None l
takes_none h p = record { turns = turns_none h p; some = λ u e. absurd (cc) }

pub takes_some : {f : State → Step} {b : List ℕ} {i : ℕ} {l l' : List ℕ} {n : ℕ} {o : Answer ℕ} → 1 ≤ n → o ≡ Some n → Turns f b i l n l' → Takes f b i l o l'
takes_some {f} {b} {i} {l} {l'} {n} {o} h e t =
    record { turns = rw e t; some = λ u q. let r : n ≡ u = unwrapped n u (sym e ∙ q) in omega (arith, h) }

pub takes_as : {f f' : State → Step} {b : List ℕ} {i : ℕ} {l : List ℕ} {o : Answer ℕ} {l' : List ℕ} → ((s : State) → f s ≡ f' s) → Takes f' b i l o l' → Takes f b i l o l'
takes_as e t = record { turns = turns_as e t.turns; some = t.some }

pub takes_read : {f : ℕ → ℕ → State → Step} {b : List ℕ} {i : ℕ} {c : Control} {e : Effect} {l : List ℕ} {o : Answer ℕ} {l' : List ℕ} → Reads f b i c → c.effect ≡ e → (place at : ℕ)
    → Takes (step_of e c.used place at) b i l o l' → Takes (f place at) b i l o l'
takes_read r q place at t = record { turns = turns_read r q place at t.turns; some = t.some }

-- a step that was taken, and one that was left
pub taken : {f : State → Step} {b : List ℕ} {i : ℕ} {l : List ℕ} {o : Answer ℕ} {l' : List ℕ} (u : ℕ) → o ≡ Some u → Takes f b i l o l' → Turns f b i l u l'
taken u e t = rw e at t.turns

pub left_out : {f : State → Step} {b : List ℕ} {i : ℕ} {l : List ℕ} {o : Answer ℕ} {l' : List ℕ} → o ≡ None → Takes f b i l o l' → Turns f b i l 0 l'
left_out e t = rw e at t.turns

-- whether the size is narrow, as a number
pub byte : (u : Bool) → u ≡ eqb (bool_byte u) 1
byte true = refl
byte false = refl

-- ---- the colours BKF to WHF have no parameter

is_zero : Option ℕ → Bool
is_zero none = false
is_zero (some zero) = true
is_zero (some (suc n)) = false

is_zero_lem : (o : Option ℕ) → T (is_zero o) → o ≡ some 0
unfolding is_zero
is_zero_lem none t = absurd t
is_zero_lem (some zero) t = refl
is_zero_lem (some (suc n)) t = absurd t

colour_test : ℕ → ℕ → Bool
colour_test k x = cond (leb 0x80 k && leb k 0x87) (is_zero (count_of k)) true

pub colours : (x : ℕ) → 0x80 ≤ x → x ≤ 0x87 → count_of x ≡ some 0
unfolding colour_test is_zero count_of
colours x p q =
    let t : T (colour_test x 0) = at' x (omega arith) in
    is_zero_lem (count_of x) (rw (le-leb 0x80 x p, le-leb x 0x87 q) at t)
  where
    at' : (x : ℕ) → x < 256 → T (colour_test x (get_or (replicate 256 0) x 0))
    at' x h = at 0 colour_test (replicate 256 0) tt x h

-- ---- controls, one after the other

-- a reading of nothing
pub nowhere : Given
nowhere = record { cells = []; annex_e = false; input = [] }

pub controls_none : {b : List ℕ} {to j : ℕ} {l : List ℕ} → j ≤ length b → Settings l → Controls b to j l j l
controls_none h f = record { past = omega arith; within = h; settings = f; goes = λ g left R base origin s later k. refl }

module _ {b : List ℕ} {to j : ℕ} {l : List ℕ} {j₁ : ℕ} {l₁ : List ℕ} {u : ℕ} {l₂ : List ℕ} (c : Controls b to j l j₁ l₁)
    (t : (g : Given) (left : ℕ) (R : Run) (place at : ℕ) → Turns (step g left R (get_or b j₁ 0) (drop (j₁ + 1) b) place at) b j₁ l₁ u l₂) where
  -- none more
  pub controls_left : u ≡ 0 → Controls b to j l j₁ l₂
  controls_left e = rw ((t nowhere 0 (λ b base origin s. s) 0 0).left e) c

  -- one more
  pub controls_more : (u ≡ 0 → ⊥) → j₁ < to → j₁ < length b → Controls b to j l (j₁ + u) l₂
  controls_more f p h =
      let w = t nowhere 0 (λ b base origin s. s) 0 0 in
      let past = c.past in
      record {
        past = omega arith;
        within = w.within;
        settings = w.settings;
        goes = λ g left R base origin s later k.
            let d = (t g left R (base + j₁) (offset origin j₁)).does f s in
            ap (λ (y : Step). until g left R base origin later (drop (j₁ + u) b) (j₁ + u) 0 y.to) (sym d)
            ∙ sym (until_one g left R base origin later b j₁ (with_settings l₁ s) u (omega (arith, p, k)) h (omega arith) w.within (sym (ap (λ (y : Step). y.used) d)))
            ∙ c.goes g left R base origin s later k;
      }
