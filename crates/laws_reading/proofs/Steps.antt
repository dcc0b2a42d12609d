-- One step, the steps of a body, and the run of a body. Assumes nothing.
use mathlib.Core.Path.{◌≡◌, refl, sym, ap, ◌∙◌, subst}
use mathlib.Core.Logic.{inl, inr}
use mathlib.Core.Bool.{true, false, cond, ◌||◌}
use mathlib.Core.List.{List, [], ◌∷◌}
use Prim.Native.Nat.{ℕ, zero, suc, ◌+◌, ◌-◌, ◌≤◌, ◌<◌}
use native.Mathlib.Omega.{arith}
use native.Mathlib.Nat.{add_assoc, add-zero}
use borrow.Author.Tests.{eqb-true}
use lib.Dec.{eqb, ltb}
use lib.ListN.{length, drop}
use lib.Seq.{drop-drop}
use Rattle.decode_output.specs.Output.{newline}
use Rattle.reading.specs.State.{Given, State, Step, writes, is_narrow, resize, invoke_gl}
use Rattle.reading.specs.Characters.{is_gl, is_gr}
use Rattle.reading.specs.Macros.{Run, builtin_sets, builtin_of}
use Rattle.reading.specs.Steps.{space, control0, control1, step, offset, steps, run}
use Rattle.base.specs.Lists.{All}
use Rattle.base.proofs.Every.{all_at}
use Rattle.laws_reading.proofs.Changes.{part, Bounded, Kept, stays, follows, more, emits, newlines}
use Rattle.base.proofs.Tests.{either, by_test}
use Rattle.laws_reading.proofs.Controls.{To, StepWithin, takes, resized, invoked_left, szx_good, rpc_good, colour_good, csi_good, time_good, fixed_good}
use Rattle.laws_reading.proofs.Escapes.{LiesAt, escape_good}
use Rattle.laws_reading.proofs.Macros.{Body, Runs, command_good}
use Rattle.laws_reading.proofs.Characters.{graphic_good, shift_good}

module _ (C : Type 0) (g : Given) (left : ℕ) (R : Run) (runs : Runs C g R) (x : ℕ) (rest : List ℕ) (place at : ℕ) (s : State) (inside : C → at < length g.input)
    (stands : C → LiesAt g.input place (x ∷ rest)) where
  abbrev Well : Step → Type 0
  Well w = StepWithin C g rest s w

  control0_good : Well (control0 g left R x rest place at s)
  unfolding control0
  control0_good =
      either Well (eqb x 0x20) (takes C g rest s 1 1 (space g s) (omega arith) (record { change = emits C g.input (cond (is_narrow g s) 0x20 0x3000) (part s) }))
      (either Well (eqb x 0x0F) (takes C g rest s 0 1 (invoke_gl 0 s) (omega arith) (invoked_left C g 0 s))
      (either Well (eqb x 0x0E) (takes C g rest s 0 1 (invoke_gl 1 s) (omega arith) (invoked_left C g 1 s))
      (either Well (eqb x 0x19) (shift_good C g left R runs at inside 2 rest s)
      (either Well (eqb x 0x1D) (shift_good C g left R runs at inside 3 rest s)
      (by_test Well (eqb x 0x1B) (λ e. escape_good C g place at inside rest s (λ c. subst (λ (y : ℕ). LiesAt g.input place (y ∷ rest)) (eqb-true x 0x1B e) (stands c)))
      (λ e. either Well (eqb x 0x0D) (takes C g rest s 1 1 (writes newline s) (omega arith) (record { change = newlines C g.input (part s) }))
      (fixed_good C g at inside x rest s)))))))

  control1_good : Well (control1 g left R x rest place at s)
  unfolding control1
  control1_good =
      either Well (eqb x 0x88 || eqb x 0x89) (takes C g rest s 0 1 (resize true s) (omega arith) (resized C g true s))
      (either Well (eqb x 0x8A) (takes C g rest s 0 1 (resize false s) (omega arith) (resized C g false s))
      (either Well (eqb x 0x8B) (szx_good C g at inside rest s)
      (either Well (eqb x 0x98) (rpc_good C g at inside rest s)
      (either Well (eqb x 0x90 || eqb x 0x92) (colour_good C g at inside rest s)
      (either Well (eqb x 0x9D) (time_good C g at inside rest s)
      (either Well (eqb x 0x9B) (csi_good C g at inside rest s)
      (either Well (eqb x 0x95) (command_good C g left R runs at inside rest place s)
      (fixed_good C g at inside x rest s))))))))

  pub step_good : Well (step g left R x rest place at s)
  unfolding step
  step_good =
      either Well (is_gl x) (graphic_good C g left R runs at inside s.gl x rest s)
      (either Well (is_gr x) (graphic_good C g left R runs at inside s.gr x rest s)
      (either Well (ltb x 0x80) control0_good control1_good))

-- the offset to report lies in the input: a byte's own, of the input itself, or the outermost caller's
abbrev pub Inside : List ℕ → ℕ → ℕ → List ℕ → Type 0
Inside input zero i xs = i + length xs ≤ length input
Inside input (suc at) i xs = at < length input

inside_here : (input : List ℕ) (origin i x : ℕ) (xs : List ℕ) → Inside input origin i (x ∷ xs) → offset origin i < length input
unfolding offset
inside_here input zero i x xs h = omega arith
inside_here input (suc at) i x xs h = h

inside_next : (input : List ℕ) (origin i x : ℕ) (xs : List ℕ) → Inside input origin i (x ∷ xs) → Inside input origin (i + 1) xs
inside_next input zero i x xs h = omega arith
inside_next input (suc at) i x xs h = h

stands_next : (input : List ℕ) (base i x : ℕ) (xs : List ℕ) → LiesAt input (base + i) (x ∷ xs) → LiesAt input (base + (i + 1)) xs
stands_next input base i x xs s =
    record { after = s.after; bytes = ap (λ (n : ℕ). drop n input) (sym (add_assoc base i 1)) ∙ (sym (drop-drop 1 (base + i) input) ∙ ap (drop 1) s.bytes) }

-- the bytes of a body but those passed over
pub steps_to_lem : (C : Type 0) (g : Given) (left : ℕ) (R : Run) → Runs C g R → (base origin : ℕ) (xs : List ℕ) (i k : ℕ) (s : State) → (C → Inside g.input origin i xs) →
    (C → LiesAt g.input (base + i) xs) → To C g (length xs - k) s (steps g left R base origin xs i k s)
unfolding steps
steps_to_lem C g left R runs base origin [] i k s a b = record { change = stays C g.input (0 - k) (part s) }
steps_to_lem C g left R runs base origin (x ∷ xs) i zero s a b =
    let w = step g left R x xs (base + i) (offset origin i) s in
    let q = step_good C g left R runs x xs (base + i) (offset origin i) s (λ c. inside_here g.input origin i x xs (a c)) b in
    let r = steps_to_lem C g left R runs base origin xs (i + 1) (w.used - 1) w.to (λ c. inside_next g.input origin i x xs (a c)) (λ c. stands_next g.input base i x xs (b c)) in
    record {
      change = follows C g.input w.used (length xs - (w.used - 1)) (suc (length xs) - 0) (part s) (part w.to) _ (omega (arith, q.least, q.most))
          q.to.change r.change;
    }
steps_to_lem C g left R runs base origin (x ∷ xs) i (suc k) s a b =
    let r = steps_to_lem C g left R runs base origin xs (i + 1) k s (λ c. inside_next g.input origin i x xs (a c)) (λ c. stands_next g.input base i x xs (b c)) in
    record { change = more C g.input (length xs - k) (suc (length xs) - suc k) (part s) _ (omega arith) r.change }

-- the built-in bodies report nothing and write nothing: each row of Table 7-18 is run
built_in : (g : Given) (left : ℕ) (R : Run) (base at : ℕ) (s : State) → All (λ row. part (steps g left R base (suc at) (builtin_of row) 0 0 s) ≡ part s) builtin_sets
unfolding steps builtin_of
built_in g left R base at s =
    (refl, (refl, (refl, (refl, (refl, (refl, (refl, (refl, (refl, (refl, (refl, (refl, (refl, (refl, (refl, (refl, tt))))))))))))))))

-- the whole of a body
body_to : (g : Given) (left : ℕ) (R : Run) → ((C : Type 0) → Runs C g R) → (C : Type 0) (b : List ℕ) (base at : ℕ) (s : State) → (C → Body g.input base b) →
    (C → at < length g.input) → To C g (length b) s (steps g left R base (suc at) b 0 0 s)
body_to g left R runs C b base at s body inside =
    let grows = (steps_to_lem ⊥ g left R (runs ⊥) base (suc at) b 0 0 s (λ c. absurd c) (λ c. absurd c)).change in
    record {
      change =
          record {
            issues = grows.issues;
            reported = grows.reported;
            placed = grows.placed;
            keeps = λ c f. kept (inside c) f (body c);
          };
    }
  where
    kept : at < length g.input → Bounded g.input (part s) → Body g.input base b → Kept g.input (length b) (part s) (part (steps g left R base (suc at) b 0 0 s))
    kept h f (inl q) =
        let x = (steps_to_lem (Unit {0}) g left R (runs (Unit {0})) base (suc at) b 0 0 s (λ c. h) (λ c. rw add-zero q)).change.keeps tt f in
        record { fine = x.fine; paid = omega arith }
    kept h f (inr q) =
        let e : part (steps g left R base (suc at) b 0 0 s) ≡ part s = rw q.2
        (all_at (λ row. part (steps g left R base (suc at) (builtin_of row) 0 0 s) ≡ part s) [] builtin_sets (built_in g left R base at s) q.0 q.1) in
        rw e (record { fine = f; paid = omega arith })

pub runs_to : (g : Given) (left : ℕ) (C : Type 0) → Runs C g (run g left)
unfolding run
runs_to g zero C = body_to g zero (λ b base origin s. s) (λ D b base at s body inside. record { change = stays D g.input (length b) (part s) }) C
runs_to g (suc left) C = body_to g (suc left) (run g left) (runs_to g left) C
