-- Each way of the search writes a character admissibly, after at most six bytes. Assumes nothing.
use mathlib.Core.Path.{◌≡◌, refl, sym, ◌∙◌, subst}
use mathlib.Core.Bool.{Bool, true, false, ◌||◌}
use mathlib.Core.List.{List, [], ◌∷◌, ◌++◌, map, append_assoc}
use Prim.Native.Nat.{ℕ, zero, suc, ◌+◌, ◌≤◌, ◌<◌}
use native.Mathlib.Nat.{add-zero}
use native.Mathlib.Omega.{arith}
use lib.Dec.{eqb, leb, ltb}
use lib.ListN.{length, length-append}
use borrow.Author.Tests.{eqb-true, ltb-true, leb-true, lt-leb}
use Rattle.sets.specs.Sets.{designation, sequence, bytes_per_char, final_byte}
use Rattle.coding.specs.State.{State, set_in, designate, invoke_gl, invoke_gr, lock_gl, lock_gr, single}
use Rattle.coding.specs.Candidates.{Size, either, narrow, wide, Cand, graphic}
use Rattle.coding.specs.Ways.{Way, way, through, by_element, ways}
use Rattle.coding.specs.Admissible.{Sized, Shows, left, right, shifted, low, Control, designates, locks_gl, locks_gr, Admissible, control, write}
use Rattle.base.specs.Lists.{All, when}
use Rattle.coding.specs.Admissible.{Some}
use Rattle.base.proofs.Every.{all_append}
use Rattle.base.proofs.Tests.{by_test, either as anyway}
use Rattle.laws_coding.proofs.Somewhere.{some_map}
use Rattle.laws_coding.proofs.WaysNear.{single_one}

-- controls by which a coding from t becomes one from s
abbrev pub Leads : State → List ℕ → State → Type 0
Leads s p t = (css : List (List Cand)) (bs : List ℕ) → Admissible t css bs → Admissible s css (p ++ bs)

leads_on : (s t : State) (p : List ℕ) → Leads s p t → {q : List ℕ} {u : State} → Control t q u → Leads s (p ++ q) u
leads_on s t p f {q} k css bs d = rw append_assoc (f css (q ++ bs) (control k d))

-- a way from s that writes candidates of the set x
pub record Writes (x : ℕ) (s : State) (w : Way) : Type 0 where
  pub few : length w.pre ≤ 6
  pub size : w.to.narrow ≡ s.narrow
  pub write : (ks : List Cand) (code : List ℕ) (size : Size) → Some (λ k. k ≡ graphic x code size) ks → Sized s size → (css : List (List Cand)) (bs : List ℕ) →
      Admissible w.to css bs → Admissible s (ks ∷ css) (w.pre ++ (map (λ b. b + w.hi) code ++ bs))

resized : (s t : State) (size : Size) → s.narrow ≡ t.narrow → Sized s size → Sized t size
resized s t either e z = tt
resized s t narrow e z = sym e ∙ z
resized s t wide e z = sym e ∙ z

pub shown : (t : State) {ks : List Cand} (k : Cand) (bs : List ℕ) → Some (λ j. j ≡ k) ks → Shows t k bs → Some (λ j. Shows t j bs) ks
shown t k bs m sh = some_map m (λ j e. subst (λ (j : Cand). Shows t j bs) (sym e) sh)

plus_none : (code : List ℕ) → map (λ b. b + 0) code ≡ code
plus_none [] = refl
plus_none (b ∷ code) = rw (add-zero, plus_none code)

-- after the controls p, the state then being t
module _ (s t : State) (p : List ℕ) (leads : Leads s p t) (size : t.narrow ≡ s.narrow) where
  by_gl : length p ≤ 6 → Writes (set_in t t.gl) s (way p t 0)
  by_gl few =
      record {
        few = few;
        size = size;
        write = λ ks code z m k css bs d. rw plus_none (leads (ks ∷ css) (code ++ bs) (write (shown t _ code m (left code z (resized s t z (sym size) k))) d));
      }

  by_gr : length p ≤ 6 → Writes (set_in t t.gr) s (way p t 128)
  by_gr few =
      record {
        few = few;
        size = size;
        write = λ ks code z m k css bs d. leads (ks ∷ css) (map (λ b. b + 128) code ++ bs) (write (shown t _ _ m (right code z (resized s t z (sym size) k))) d);
      }

  by_single : length p ≤ 5 → (n : ℕ) → 2 ≤ n → n < 4 → Writes (set_in t n) s (way (p ++ single n) t 0)
  by_single few n two four =
      record {
        few = rw length-append (omega (arith, single_one n));
        size = size;
        write = λ ks code z m k css bs d.
            rw (append_assoc p (single n), ← append_assoc (single n))
            (leads (ks ∷ css) ((single n ++ map (λ b. b + 0) code) ++ bs) (write (shown t _ _ m (shifted code z n 0 low (resized s t z (sym size) k) two four)) d));
      }

-- each of two ways, where its test holds
whens : (P : Way → Type 0) (a b : Bool) (v w : Way) → (a ≡ true → P v) → (b ≡ true → P w) → All P (when a v ++ when b w)
whens P true true v w f g = (f refl, (g refl, tt))
whens P true false v w f g = (f refl, tt)
whens P false true v w f g = (g refl, tt)
whens P false false v w f g = tt

-- lengths of controls
lock_two : (n : ℕ) → (length (lock_gl n) ≤ 2) × (length (lock_gr n) ≤ 2)
unfolding lock_gl lock_gr
lock_two zero = (omega arith, omega arith)
lock_two (suc zero) = (omega arith, omega arith)
lock_two (suc (suc zero)) = (omega arith, omega arith)
lock_two (suc (suc (suc n))) = (omega arith, omega arith)

designation_four : (x n : ℕ) → x < 15 → length (designation x n) ≤ 4
unfolding designation
designation_four x n h = rw (lt-leb 15 x h) (go (eqb (bytes_per_char x) 2))
  where
    go : (two : Bool) → length (sequence two false n (final_byte x)) ≤ 4
    go true = by_test (λ (l : List ℕ). length l ≤ 4) (eqb n 0) (λ e. omega arith) (λ e. omega arith)
    go false = omega arith

-- what a designation and an invocation leave
designated : (s : State) (n x : ℕ) → (set_in (designate s n x) n ≡ x) × ((designate s n x).narrow ≡ s.narrow)
unfolding designate set_in
designated s zero x = (refl, refl)
designated s (suc zero) x = (refl, refl)
designated s (suc (suc zero)) x = (refl, refl)
designated s (suc (suc (suc n))) x = (refl, refl)

invoked : (s : State) (e n : ℕ) → (set_in (invoke_gl s e) n ≡ set_in s n) × (set_in (invoke_gr s e) n ≡ set_in s n)
unfolding set_in
invoked s e zero = (refl, refl)
invoked s e (suc zero) = (refl, refl)
invoked s e (suc (suc zero)) = (refl, refl)
invoked s e (suc (suc (suc n))) = (refl, refl)

through_writes : (s t : State) (p : List ℕ) → Leads s p t → t.narrow ≡ s.narrow → length p ≤ 4 → (n : ℕ) → n < 4 → All (Writes (set_in t n) s) (through p t n)
unfolding through
through_writes s t p leads size few n h =
    anyway (All (Writes (set_in t n) s)) (eqb t.gl n || eqb t.gr n)
    (whens (Writes (set_in t n) s) (eqb t.gl n) (eqb t.gr n) (way p t 0) (way p t 128)
    (λ e. subst (λ (m : ℕ). Writes (set_in t m) s (way p t 0)) (eqb-true _ _ e) (by_gl s t p leads size (omega arith)))
    (λ e. subst (λ (m : ℕ). Writes (set_in t m) s (way p t 128)) (eqb-true _ _ e) (by_gr s t p leads size (omega arith)))) (
      rw (invoked t n n).0 at (by_gl s (invoke_gl t n) (p ++ lock_gl n) (leads_on s t p leads (locks_gl n h)) size (rw length-append (omega (arith, lock_two n)))),
      whens (Writes (set_in t n) s) (ltb 0 n) (leb 2 n) (way (p ++ lock_gr n) (invoke_gr t n) 128) (way (p ++ single n) t 0)
          (λ e. rw (invoked t n n).1 at (by_gr s (invoke_gr t n) (p ++ lock_gr n) (leads_on s t p leads (locks_gr n (ltb-true 0 n e) h)) size (rw length-append (omega (arith, lock_two n)))))
          (λ e. by_single s t p leads size (omega arith) n (leb-true 2 n e) h),
    )

stays : (s : State) → Leads s [] s
stays s css bs d = d

module _ (s : State) (x : ℕ) (h : x < 15) where
  element_writes : (n : ℕ) → n < 4 → All (Writes x s) (by_element s x n)
  unfolding by_element
  element_writes n four =
      by_test (All (Writes x s)) (eqb (set_in s n) x)
      (λ e. subst (λ (y : ℕ). All (Writes y s) (through [] s n)) (eqb-true _ _ e) (through_writes s s [] (stays s) refl (omega arith) n four))
      (λ e. subst (λ (y : ℕ). All (Writes y s) (through (designation x n) (designate s n x) n)) (designated s n x).0
      (through_writes s (designate s n x) (designation x n) (λ css bs d. control (designates x n (omega arith) four) d) (designated s n x).1 (designation_four x n h) n four))

  pub ways_write : All (Writes x s) (ways s x)
  unfolding ways
  ways_write =
      anyway (All (Writes x s)) (eqb (set_in s s.gl) x || eqb (set_in s s.gr) x)
      (whens (Writes x s) (eqb (set_in s s.gl) x) (eqb (set_in s s.gr) x) (way [] s 0) (way [] s 128)
      (λ e. subst (λ (y : ℕ). Writes y s (way [] s 0)) (eqb-true _ _ e) (by_gl s s [] (stays s) refl (omega arith)))
      (λ e. subst (λ (y : ℕ). Writes y s (way [] s 128)) (eqb-true _ _ e) (by_gr s s [] (stays s) refl (omega arith))))
      (all_append (Writes x s) (by_element s x 0) _ (element_writes 0 (omega arith))
      (all_append (Writes x s) (by_element s x 1) _ (element_writes 1 (omega arith))
      (all_append (Writes x s) (by_element s x 2) (by_element s x 3) (element_writes 2 (omega arith)) (element_writes 3 (omega arith)))))
