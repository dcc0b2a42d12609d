-- The controls that concern no macro and no escape, and the pieces that every step is made of. Assumes nothing.
use mathlib.Core.Bool.{Bool, true, false, cond, ◌&&◌, ◌||◌}
use mathlib.Core.List.{List, [], ◌∷◌}
use mathlib.Core.Option.{Option, none, some}
use Prim.Native.Nat.{ℕ, zero, suc, ◌+◌, ◌%◌, ◌≤◌, ◌<◌}
use native.Mathlib.Omega.{arith}
use borrow.Author.Tests.{leb-true}
use lib.Dec.{eqb, leb}
use lib.ListN.{length, drop, length-drop}
use Rattle.base.proofs.Tests.{either, by_test}
use Rattle.control.specs.Controls.{count_of}
use Rattle.issues.specs.declared.IssueKind.{IssueKind}
use Rattle.issues.specs.declared.IssueKind.TheVariants.{UndefinedControl, MalformedControl, Truncated, RepeatToEndOfLine}
use Rattle.reading.specs.State.{Given, State, Step, took, issue, placeholder, truncated, designate, invoke_gl, invoke_gr, resize}
use Rattle.reading.specs.Controls.{leading, szx, repeat_by, rpc, colour, ended, sequence_from, csi, time, fixed_of, fixed}
use Rattle.laws_reading.proofs.Changes.{part, Shown, Change, stays, follows, more, reports, emits, repeats, clears}

-- u bytes lead from the state s to t
pub record To (C : Type 0) (g : Given) (u : ℕ) (s t : State) : Type 0 where
  pub change : Change C g.input u (part s) (part t)

-- a step takes its first byte, and of the rest at most what there is
pub record StepWithin (C : Type 0) (g : Given) (rest : List ℕ) (s : State) (w : Step) : Type 0 where
  pub least : 1 ≤ w.used
  pub most : w.used ≤ suc (length rest)
  pub to : To C g w.used s w.to

pub leading_most : (low high : ℕ) (l : List ℕ) → leading low high l ≤ length l
unfolding leading
leading_most low high [] = omega arith
leading_most low high (x ∷ l) =
    let h = leading_most low high l in
    either (λ n. n ≤ suc (length l)) (leb low x && leb x high) (omega arith) (omega arith)

module _ (C : Type 0) (g : Given) where
  pub takes : (rest : List ℕ) (s : State) (u n : ℕ) (t : State) → (u ≤ n) × (1 ≤ n) × (n ≤ suc (length rest)) → To C g u s t → StepWithin C g rest s (took n t)
  takes rest s u n t h a = record { least = h.1; most = h.2; to = record { change = more C g.input u n (part s) (part t) h.0 a.change } }

  pub keeps : (s : State) → To C g 0 s s
  keeps s = record { change = stays C g.input 0 (part s) }

  pub passes : (rest : List ℕ) (s : State) (n : ℕ) → (1 ≤ n) × (n ≤ suc (length rest)) → StepWithin C g rest s (took n s)
  passes rest s n h = takes rest s 0 n s (omega arith) (keeps s)

  pub resized : (b : Bool) (s : State) → To C g 0 s (resize b s)
  unfolding resize
  resized b s = record { change = stays C g.input 0 (part s) }

  pub invoked_left : (n : ℕ) (s : State) → To C g 0 s (invoke_gl n s)
  unfolding invoke_gl
  invoked_left n s = record { change = stays C g.input 0 (part s) }

  pub invoked_right : (n : ℕ) (s : State) → To C g 0 s (invoke_gr n s)
  unfolding invoke_gr
  invoked_right n s = record { change = stays C g.input 0 (part s) }

  pub designates : (n number : ℕ) (s : State) → To C g 0 s (designate n number s)
  unfolding designate
  designates n number s = record { change = stays C g.input 0 (part s) }

module _ (C : Type 0) (g : Given) (at : ℕ) (inside : C → at < length g.input) where
  pub issued : (kind : IssueKind) → (C → Shown g.input kind) → (s : State) → To C g 0 s (issue at kind s)
  unfolding issue
  issued kind shown s = record { change = reports C g.input at kind (part s) inside shown }

  pub placed : (kind : IssueKind) → (C → Shown g.input kind) → (s : State) → To C g 1 s (placeholder at kind s)
  unfolding placeholder issue
  placed kind shown s = record { change = follows C g.input 0 1 1 (part s) (part (issue at kind s)) _ (omega arith) (issued kind shown s).change (emits C g.input 0xFFFD _) }

  -- bytes taken with an issue
  pub tells : (rest : List ℕ) (s : State) (n : ℕ) (kind : IssueKind) → (C → Shown g.input kind) → (1 ≤ n) × (n ≤ suc (length rest)) → StepWithin C g rest s (took n (issue at kind s))
  tells rest s n kind shown h = takes C g rest s 0 n (issue at kind s) (omega arith) (issued kind shown s)

  pub cut : (rest : List ℕ) (s : State) (n : ℕ) → (1 ≤ n) × (n ≤ suc (length rest)) → StepWithin C g rest s (truncated n at s)
  unfolding truncated
  cut rest s n h = tells rest s n Truncated (λ c. tt) h

  pub szx_good : (rest : List ℕ) (s : State) → StepWithin C g rest s (szx rest at s)
  unfolding szx
  szx_good [] s = cut [] s 1 (omega arith)
  szx_good (p ∷ r) s = takes C g (p ∷ r) s 0 2 (resize (eqb p 0x60) s) (omega arith) (resized C g (eqb p 0x60) s)

  repeat_to : (n : ℕ) (s : State) → n ≤ 63 → To C g 2 s (repeat_by n at s)
  unfolding repeat_by
  repeat_to zero s h =
      record {
        change = follows C g.input 0 0 2 (part s) (part (issue at RepeatToEndOfLine s)) _ (omega arith) (issued RepeatToEndOfLine (λ c. tt) s).change
            (clears C g.input _);
      }
  repeat_to (suc n) s h = record { change = repeats C g.input (suc n) (part s) h }

  pub rpc_good : (rest : List ℕ) (s : State) → StepWithin C g rest s (rpc rest at s)
  unfolding rpc
  rpc_good [] s = cut [] s 1 (omega arith)
  rpc_good (p ∷ r) s = takes C g (p ∷ r) s 2 2 (repeat_by (p % 64) at s) (omega arith) (repeat_to (p % 64) s (omega arith))

  pub colour_good : (rest : List ℕ) (s : State) → StepWithin C g rest s (colour rest at s)
  unfolding colour
  colour_good [] s = cut [] s 1 (omega arith)
  colour_good (p ∷ []) s = either (StepWithin C g (p ∷ []) s) (eqb p 0x20) (cut (p ∷ []) s 2 (omega arith)) (passes C g (p ∷ []) s 2 (omega arith))
  colour_good (p ∷ (q ∷ r)) s = either (StepWithin C g (p ∷ (q ∷ r)) s) (eqb p 0x20) (passes C g (p ∷ (q ∷ r)) s 3 (omega arith)) (passes C g (p ∷ (q ∷ r)) s 2 (omega arith))

  ended_good : (rest : List ℕ) (strict : Bool) (code n : ℕ) (tail : List ℕ) (s : State) → (1 ≤ n) × (n + length tail ≤ suc (length rest)) → StepWithin C g rest s (ended strict code n tail at s)
  unfolding ended
  ended_good rest strict code n [] s h = cut rest s n (omega arith)
  ended_good rest strict code n (f ∷ r) s h =
      either (StepWithin C g rest s) (leb 0x40 f && leb f 0x7E) (passes C g rest s (n + 1) (omega arith))
      (either (StepWithin C g rest s) strict (tells rest s n (MalformedControl code) (λ c. tt) (omega arith)) (passes C g rest s n (omega arith)))

  sequence_good : (rest : List ℕ) (strict : Bool) (code n : ℕ) (l : List ℕ) (s : State) → (1 ≤ n) × (n + length l ≤ suc (length rest)) → StepWithin C g rest s (sequence_from strict code n l at s)
  unfolding sequence_from
  sequence_good rest strict code n l s h = ended_good rest strict code _ (drop (leading 0x20 0x3F l) l) s (omega (arith, length-drop (leading 0x20 0x3F l) l, leading_most 0x20 0x3F l))

  pub csi_good : (rest : List ℕ) (s : State) → StepWithin C g rest s (csi rest at s)
  unfolding csi
  csi_good rest s = sequence_good rest true 0x9B 1 rest s (omega arith)

  pub time_good : (rest : List ℕ) (s : State) → StepWithin C g rest s (time rest at s)
  unfolding time
  time_good [] s = cut [] s 1 (omega arith)
  time_good (p ∷ r) s =
      either (StepWithin C g (p ∷ r) s) (eqb p 0x20 || eqb p 0x28) (three r)
      (either (StepWithin C g (p ∷ r) s) (eqb p 0x29) (sequence_good (p ∷ r) false 0x9D 2 r s (omega arith)) (tells (p ∷ r) s 2 (MalformedControl 0x9D) (λ c. tt) (omega arith)))
    where
      three : (r : List ℕ) → StepWithin C g (p ∷ r) s (cond (eqb (length r) 0) (truncated 2 at s) (took 3 s))
      three [] = cut (p ∷ []) s 2 (omega arith)
      three (q ∷ r) = either (StepWithin C g (p ∷ (q ∷ r)) s) (eqb (suc (length r)) 0) (cut (p ∷ (q ∷ r)) s 2 (omega arith)) (passes C g (p ∷ (q ∷ r)) s 3 (omega arith))

  fixed_of_lem : (o : Option ℕ) (x : ℕ) (rest : List ℕ) (s : State) → StepWithin C g rest s (fixed_of o x rest at s)
  unfolding fixed_of
  fixed_of_lem none x rest s = tells rest s 1 (UndefinedControl x) (λ c. tt) (omega arith)
  fixed_of_lem (some n) x rest s =
      by_test (StepWithin C g rest s) (leb n (length rest)) (λ e. passes C g rest s (n + 1) (omega (arith, leb-true n (length rest) e)))
      (λ e. cut rest s (length rest + 1) (omega arith))

  pub fixed_good : (x : ℕ) (rest : List ℕ) (s : State) → StepWithin C g rest s (fixed x rest at s)
  unfolding fixed
  fixed_good x rest s = fixed_of_lem (count_of x) x rest s
