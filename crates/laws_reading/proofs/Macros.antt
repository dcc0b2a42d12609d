-- Macros: a body that runs pays for what it writes by its charge. Assumes nothing.
use mathlib.Core.Path.{◌≡◌, refl, sym}
use mathlib.Core.Logic.{◌⊎◌, inl, inr}
use mathlib.Core.Bool.{Bool, true, false, ◌&&◌, ◌||◌}
use mathlib.Core.List.{List, [], ◌∷◌}
use Prim.Native.Nat.{ℕ, suc, ◌+◌, ◌-◌, ◌%◌, ◌≤◌, ◌<◌}
use native.Mathlib.Omega.{arith}
use borrow.Author.Tests.{ltb-true, ltb-false, leb-true}
use lib.Dec.{eqb, ltb, leb}
use lib.ListN.{length, take, drop, get_or, take-append-drop}
use Rattle.issues.specs.declared.IssueKind.TheVariants.{MalformedControl, UndefinedMacro, MacroLimit}
use Rattle.reading.specs.State.{Given, State, define, charge}
use Rattle.reading.specs.Macros.{Run, builtin_sets, builtin_of, builtin, limit, run_body, run_macro, end_of, defined, definition, macro_cmd}
use Rattle.laws_reading.proofs.Changes.{part, stays, follows}
use Rattle.base.proofs.Tests.{either, by_test}
use Rattle.laws_reading.proofs.Controls.{To, StepWithin, takes, passes, issued, tells, cut}
use Rattle.laws_reading.proofs.Escapes.{LiesAt}

-- a body is a part of the input, or built in
abbrev pub Body : List ℕ → ℕ → List ℕ → Type 0
Body input base b = LiesAt input base b ⊎ (k : ℕ) × (k < 16) × (b ≡ builtin_of (get_or builtin_sets k []))

-- what a run one deeper does
abbrev pub Runs : Type 0 → Given → Run → Type 0
Runs C g R = (b : List ℕ) (base at : ℕ) (s : State) → (C → Body g.input base b) → (C → at < length g.input) → To C g (length b) s (R b base (suc at) s)

and_right : (a b : Bool) → a && b ≡ true → b ≡ true
and_right true b e = e
and_right false b e = absurd (let z : ◌≡◌ {A = ℕ} 0 1 = cc in omega arith)

or_right : (a b : Bool) → a || b ≡ false → b ≡ false
or_right true b e = absurd (let z : ◌≡◌ {A = ℕ} 0 1 = cc in omega arith)
or_right false b e = e

-- the end of a body is two bytes
end_two : (l : List ℕ) → end_of l < length l → end_of l + 2 ≤ length l
unfolding end_of
end_two [] = λ h. absurd (omega arith)
end_two (x ∷ []) = λ h. absurd (omega arith)
end_two (x ∷ (y ∷ r)) =
    let a = end_two (y ∷ r) in
    either (λ n. n < length (x ∷ (y ∷ r)) → n + 2 ≤ length (x ∷ (y ∷ r))) (eqb x 0x95 && eqb y 0x4F) (λ h. omega arith) (λ h. let b = a (omega arith) in omega arith)

module _ (C : Type 0) (g : Given) where
  -- a body's length is charged, and what it writes was paid
  charges : (n : ℕ) (s t : State) → s.charged + n ≤ limit g.input → To C g n (charge n s) t → To C g 0 s t
  unfolding charge limit
  charges n s t h a =
      record {
        change =
            record {
              issues = a.change.issues;
              reported = a.change.reported;
              placed = a.change.placed;
              keeps = λ c f. let x = a.change.keeps c (record { charge = h; issues = f.issues; marks = f.marks; repeat = f.repeat }) in record { fine = x.fine; paid = omega arith };
            };
      }

  defines : (code place n : ℕ) (s : State) → To C g 0 s (define code place n s)
  unfolding define
  defines code place n s = record { change = stays C g.input 0 (part s) }

module _ (C : Type 0) (g : Given) (left : ℕ) (R : Run) (runs : Runs C g R) (at : ℕ) (inside : C → at < length g.input) where
  body_to : (body : List ℕ) (base : ℕ) (s : State) → Body g.input base body → To C g 0 s (run_body g left R body base at s)
  unfolding run_body
  body_to body base s b =
      by_test (To C g 0 s) (eqb left 0 || ltb (limit g.input) (s.charged + length body))
      (λ e. issued C g at inside MacroLimit (λ c. tt) s)
      (λ e. charges C g (length body) s (R body base (suc at) (charge (length body) s)) (ltb-false _ _ (or_right (eqb left 0) _ e))
      (runs body base at (charge (length body) s) (λ c. b) inside))

  pub macro_to : (code : ℕ) (s : State) → To C g 0 s (run_macro g left R code at s)
  unfolding run_macro
  macro_to code s =
      either (To C g 0 s) (eqb (get_or s.starts code 0) 0)
      (by_test (To C g 0 s) (leb 0x60 code && leb code 0x6F)
      (λ e. body_to (builtin code) 0 s (inr (code - 0x60, omega (arith, leb-true code 0x6F (and_right (leb 0x60 code) _ e)), refl)))
      (λ e. issued C g at inside (UndefinedMacro code) (λ c. tt) s))
      (body_to (take (get_or s.lens code 0) (drop (get_or s.starts code 0) g.input)) (get_or s.starts code 0) s
      (inl (record {
        after = drop (get_or s.lens code 0) (drop (get_or s.starts code 0) g.input);
        bytes = sym (take-append-drop (get_or s.lens code 0) (drop (get_or s.starts code 0) g.input));
      })))

  defined_good : (rest : List ℕ) (p code n place : ℕ) (s : State) → n + 5 ≤ suc (length rest) → StepWithin C g rest s (defined g left R p code n place at s)
  unfolding defined
  defined_good rest p code n place s h =
      let t = define code (place + 3) n s in
      either (StepWithin C g rest s) (eqb p 0x41)
      (takes C g rest s 0 (n + 5) (run_macro g left R code at t) (omega arith)
      (record {
        change = follows C g.input 0 0 0 (part s) (part t) (part (run_macro g left R code at t)) (omega arith) (defines C g code (place + 3) n s).change
            (macro_to code t).change;
      }))
      (takes C g rest s 0 (n + 5) t (omega arith) (defines C g code (place + 3) n s))

  definition_good : (p : ℕ) (r : List ℕ) (place : ℕ) (s : State) → StepWithin C g (p ∷ r) s (definition g left R p r place at s)
  unfolding definition
  definition_good p [] place s = cut C g at inside (p ∷ []) s 2 (omega arith)
  definition_good p (mc ∷ r) place s =
      by_test (StepWithin C g (p ∷ (mc ∷ r)) s) (ltb (end_of r) (length r))
      (λ e. defined_good (p ∷ (mc ∷ r)) p (mc % 128) (end_of r) place s (omega (arith, end_two r (ltb-true (end_of r) (length r) e))))
      (λ e. cut C g at inside (p ∷ (mc ∷ r)) s (length r + 3) (omega arith))

  pub command_good : (rest : List ℕ) (place : ℕ) (s : State) → StepWithin C g rest s (macro_cmd g left R rest place at s)
  unfolding macro_cmd
  command_good [] place s = cut C g at inside [] s 1 (omega arith)
  command_good (p ∷ r) place s =
      either (StepWithin C g (p ∷ r) s) (eqb p 0x4F) (passes C g (p ∷ r) s 2 (omega arith))
      (either (StepWithin C g (p ∷ r) s) (eqb p 0x40 || eqb p 0x41) (definition_good p r place s) (tells C g at inside (p ∷ r) s 2 (MalformedControl 0x95) (λ c. tt) (omega arith)))
