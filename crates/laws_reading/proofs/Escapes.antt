-- Escapes: an unknown one is that part of the input. Assumes nothing.
use mathlib.Core.Path.{◌≡◌, refl, sym, ap, ◌∙◌, subst}
use mathlib.Core.Bool.{true, false, cond}
use mathlib.Core.List.{List, [], ◌∷◌, ◌++◌, append_assoc}
use mathlib.Core.Option.{Option, none, some}
use Prim.Native.Nat.{ℕ, suc, ◌+◌, ◌-◌, ◌≤◌, ◌<◌}
use native.Mathlib.Omega.{arith}
use borrow.Author.Tests.{le-leb}
use lib.Dec.{eqb}
use lib.ListN.{length, take, drop, length-append, length-drop, take-append-drop}
use lib.Seq.{take-append-add}
use Rattle.sets.specs.Sets.{Designation, read_designation}
use Rattle.issues.specs.declared.IssueKind.TheVariants.{UnknownEscape}
use Rattle.reading.specs.State.{Given, State}
use Rattle.reading.specs.Controls.{leading, locking_shift, designated, applied, applied_or, escape_at, escape}
use Rattle.reading.specs.Call.{escape_part}
use Rattle.base.specs.Lists.{All}
use Rattle.laws_reading.specs.Reading.{is_intermediate, is_final, Escape}
use Rattle.base.proofs.Tests.{either, by_test}
use Rattle.laws_reading.proofs.Controls.{To, StepWithin, takes, invoked_left, invoked_right, designates, tells, cut}

-- the bytes xs stand at a place of the input
pub record LiesAt (input : List ℕ) (place : ℕ) (xs : List ℕ) : Type 0 where
  pub after : List ℕ
  pub bytes : drop place input ≡ xs ++ after

leading_each : (l : List ℕ) → All (λ b. is_intermediate b ≡ true) (take (leading 0x20 0x2F l) l)
unfolding leading
leading_each [] = tt
leading_each (x ∷ l) = by_test (λ n. All (λ b. is_intermediate b ≡ true) (take n (x ∷ l))) (is_intermediate x) (λ e. (e, leading_each l)) (λ e. tt)

leading_whole : (l : List ℕ) (f : ℕ) (r : List ℕ) → drop (leading 0x20 0x2F l) l ≡ f ∷ r → is_intermediate f ≡ false
unfolding leading
leading_whole [] f r = λ e. absurd (let z : ◌≡◌ {A = ℕ} 0 1 = cc in omega arith)
leading_whole (x ∷ l) f r =
    by_test (λ n. drop n (x ∷ l) ≡ f ∷ r → is_intermediate f ≡ false) (is_intermediate x) (λ t e. leading_whole l f r e)
    (λ t e. let q : x ≡ f = cc in subst (λ b. is_intermediate b ≡ false) q t)

-- the escape of n bytes that stands at a place
module _ (input : List ℕ) (place : ℕ) (inter : List ℕ) (f : ℕ) (r : List ℕ) (s : LiesAt input place (0x1B ∷ (inter ++ (f ∷ r)))) where
  at_place : drop place input ≡ 0x1B ∷ (inter ++ (f ∷ (r ++ s.after)))
  at_place = s.bytes ∙ ap (λ (l : List ℕ). 0x1B ∷ l) (append_assoc inter (f ∷ r) s.after)

  long : length input - place ≡ suc (length inter + suc (length (r ++ s.after)))
  long = sym (length-drop place input) ∙ (ap length at_place ∙ ap suc (length-append inter _))

  handed : (k : ℕ) → k ≤ 1 → escape_part input place (suc (length inter + k)) ≡ 0x1B ∷ (inter ++ take k (f ∷ (r ++ s.after)))
  unfolding escape_part
  handed k h =
      rw (
        le-leb place (length input) (omega (arith, long)),
        at_place,
        le-leb (suc (length inter + k)) (suc (length (inter ++ (f ∷ (r ++ s.after)))))
            (omega (arith, length-append inter (f ∷ (r ++ s.after)))),
      )
      (ap (λ (l : List ℕ). 0x1B ∷ l) (take-append-add inter (f ∷ (r ++ s.after)) k))

  pub escape_of : (n k : ℕ) → n ≡ suc (length inter + k) → k ≤ 1 → take k (f ∷ (r ++ s.after)) ≡ cond (is_final f) (f ∷ []) [] → All (λ b. is_intermediate b ≡ true) inter →
      is_intermediate f ≡ false → Escape input place n
  escape_of n k e h t a w =
      record {
        intermediates = inter;
        next = f;
        rest = r ++ s.after;
        stands = at_place;
        each = a;
        whole = w;
        inside = omega (arith, long);
        part = ap (escape_part input place) e ∙ (handed k h ∙ ap (λ (l : List ℕ). 0x1B ∷ (inter ++ l)) t);
      }

-- what the bytes of a known escape do
module _ (C : Type 0) (g : Given) (s : State) where
  abbrev Known : Option State → Type 0
  Known none = Unit {0}
  Known (some t) = To C g 0 s t

  shift_known : (f : ℕ) → Known (locking_shift f s)
  unfolding locking_shift
  shift_known f =
      either Known (eqb f 0x6E) (invoked_left C g 2 s)
      (either Known (eqb f 0x6F) (invoked_left C g 3 s)
      (either Known (eqb f 0x7E) (invoked_right C g 1 s)
      (either Known (eqb f 0x7D) (invoked_right C g 2 s)
      (either Known (eqb f 0x7C) (invoked_right C g 3 s) tt))))

  designated_known : (d : Option Designation) → Known (designated d s)
  unfolding designated
  designated_known none = tt
  designated_known (some d) = designates C g d.element d.set s

  pub applied_known : (bs : List ℕ) → Known (applied bs s)
  unfolding applied
  applied_known [] = tt
  applied_known (f ∷ []) = shift_known f
  applied_known (a ∷ (b ∷ r)) = designated_known (read_designation (a ∷ (b ∷ r)))

module _ (C : Type 0) (g : Given) (place at : ℕ) (inside : C → at < length g.input) (rest : List ℕ) (s : State) (stands : C → LiesAt g.input place (0x1B ∷ rest)) where
  applied_or_lem : (o : Option State) (n : ℕ) → Known C g s o → (1 ≤ n) × (n ≤ suc (length rest)) → (C → Escape g.input place n) → StepWithin C g rest s (applied_or o n place at s)
  unfolding applied_or
  applied_or_lem none n k h e = tells C g at inside rest s n (UnknownEscape place n) e h
  applied_or_lem (some t) n k h e = takes C g rest s 0 n t (omega arith) k

  escape_at_lem : (inter tail : List ℕ) → rest ≡ inter ++ tail → All (λ b. is_intermediate b ≡ true) inter → ((f : ℕ) (r : List ℕ) → tail ≡ f ∷ r → is_intermediate f ≡ false) →
      StepWithin C g rest s (escape_at inter tail place at s)
  unfolding escape_at
  escape_at_lem inter [] e a w = cut C g at inside rest s (length inter + 1) (omega (arith, ap length e, length-append inter []))
  escape_at_lem inter (f ∷ r) e a w =
      let m = ap length e ∙ length-append inter (f ∷ r) in
      by_test (StepWithin C g rest s) (is_final f)
      (λ t. applied_or_lem (applied (inter ++ (f ∷ [])) s) (length inter + 2) (applied_known C g s (inter ++ (f ∷ []))) (omega arith)
      (λ c. escape_of g.input place inter f r (here c) (length inter + 2) 1 (omega arith) (omega arith) (rw t) a (w f r refl)))
      (λ t. tells C g at inside rest s (length inter + 1) (UnknownEscape place (length inter + 1))
      (λ c. escape_of g.input place inter f r (here c) (length inter + 1) 0 (omega arith) (omega arith) (rw t) a (w f r refl)) (omega arith))
    where
      here : C → LiesAt g.input place (0x1B ∷ (inter ++ (f ∷ r)))
      here c = subst (λ (l : List ℕ). LiesAt g.input place (0x1B ∷ l)) e (stands c)

  pub escape_good : StepWithin C g rest s (escape rest place at s)
  unfolding escape
  escape_good =
      escape_at_lem (take (leading 0x20 0x2F rest) rest) (drop (leading 0x20 0x2F rest) rest) (sym (take-append-drop (leading 0x20 0x2F rest) rest)) (leading_each rest)
      (leading_whole rest)
