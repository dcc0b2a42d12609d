-- Graphic characters. Assumes nothing.
use mathlib.Core.Bool.{◌&&◌}
use mathlib.Core.List.{List, [], ◌∷◌}
use Prim.Native.Nat.{ℕ, zero, suc, ◌+◌, ◌-◌, ◌*◌, ◌/◌, ◌%◌, ◌<◌}
use native.Mathlib.Omega.{arith}
use lib.Dec.{eqb, leb}
use lib.ListN.{length, get_or}
use Rattle.sets.specs.Sets.{bytes_per_char}
use Rattle.addsym.specs.Symbols.{symbol}
use Rattle.tables.specs.Kanji.{non_spacing, has_character, kanji_at}
use Rattle.issues.specs.declared.IssueKind.{IssueKind}
use Rattle.issues.specs.declared.IssueKind.TheVariants.{UndefinedCode, UnsupportedCode, Drcs, Mosaic, LoneSingleShift}
use Rattle.reading.specs.State.{Given, State, Step, took, issue, is_narrow}
use Rattle.reading.specs.Macros.{Run, run_macro}
use Rattle.reading.specs.Characters.{is_graphic, emit_or, cell_or, char2, letter, mosaic, char1, graphic2, graphic, single_shift}
use Rattle.laws_reading.proofs.Changes.{part, Shown, follows, more, emits, marks, clears}
use Rattle.base.proofs.Tests.{either}
use Rattle.laws_reading.proofs.Controls.{To, StepWithin, takes, issued, placed, tells, cut}
use Rattle.laws_reading.proofs.Macros.{Runs, macro_to}

module _ (C : Type 0) (g : Given) (at : ℕ) (inside : C → at < length g.input) where
  emit_or_lem : (kind : IssueKind) → (C → Shown g.input kind) → (c : ℕ) (s : State) → To C g 1 s (emit_or kind c at s)
  unfolding emit_or
  emit_or_lem kind shown zero s = placed C g at inside kind shown s
  emit_or_lem kind shown (suc c) s = record { change = emits C g.input (suc c) (part s) }

  cell_or_lem : (kind : IssueKind) → (C → Shown g.input kind) → (c : ℕ) (s : State) → To C g 1 s (cell_or kind c at s)
  unfolding cell_or
  cell_or_lem kind shown c s = either (To C g 1 s) (has_character non_spacing c) (record { change = marks C g.input c at (part s) inside }) (emit_or_lem kind shown c s)

  char2_to : (number a b : ℕ) (s : State) → To C g 1 s (char2 g number a b at s)
  unfolding char2
  char2_to number a b s =
      let code = a * 256 + b in
      let row = a - 0x20 in
      let cell = b - 0x20 in
      either (To C g 1 s) (eqb number 0) (cell_or_lem (UndefinedCode number code) (λ c. tt) (kanji_at g.cells row cell) s)
      (either (To C g 1 s) (eqb number 14) (cell_or_lem (UndefinedCode number code) (λ c. tt) (symbol row cell) s)
      (either (To C g 1 s) (eqb number 12 && leb row 84) (cell_or_lem (UnsupportedCode number code) (λ c. tt) (kanji_at g.cells row cell) s)
      (either (To C g 1 s) (eqb number 16) (placed C g at inside (Drcs 0 code) (λ c. tt) s)
      (placed C g at inside (UnsupportedCode number code) (λ c. tt) s))))

  mosaic_to : (number c : ℕ) (s : State) → To C g 1 s (mosaic number c at s)
  unfolding mosaic
  mosaic_to number c s =
      record {
        change = follows C g.input 0 0 1 (part s) (part (issue at (Mosaic number c) s)) _ (omega arith) (issued C g at inside (Mosaic number c) (λ c. tt) s).change
            (clears C g.input _);
      }

  graphic2_good : (number x : ℕ) (rest : List ℕ) (s : State) → StepWithin C g rest s (graphic2 g number x rest at s)
  unfolding graphic2
  graphic2_good number x [] s = cut C g at inside [] s 1 (omega arith)
  graphic2_good number x (y ∷ r) s =
      either (StepWithin C g (y ∷ r) s) (is_graphic y && eqb (x / 128) (y / 128))
      (takes C g (y ∷ r) s 1 2 (char2 g number (x % 128) (y % 128) at s) (omega arith) (char2_to number (x % 128) (y % 128) s))
      (cut C g at inside (y ∷ r) s 1 (omega arith))

module _ (C : Type 0) (g : Given) (left : ℕ) (R : Run) (runs : Runs C g R) (at : ℕ) (inside : C → at < length g.input) where
  char1_to : (number c : ℕ) (s : State) → To C g 1 s (char1 g left R number c at s)
  unfolding char1
  char1_to number c s =
      either (To C g 1 s) (eqb number 15) (record {
        change = more C g.input 0 1 (part s) (part (run_macro g left R c at s)) (omega arith)
            (macro_to C g left R runs at inside c s).change;
      })
      (either (To C g 1 s) (leb 4 number && leb number 7) (mosaic_to C g at inside number c s)
      (either (To C g 1 s) (leb 17 number) (placed C g at inside (Drcs (number - 16) c) (λ c. tt) s)
      (emit_or_lem C g at inside (UndefinedCode number c) (λ c. tt) (letter (is_narrow g s) number c) s)))

  pub graphic_good : (element x : ℕ) (rest : List ℕ) (s : State) → StepWithin C g rest s (graphic g left R element x rest at s)
  unfolding graphic
  graphic_good element x rest s =
      let number = get_or s.sets element 0 in
      either (StepWithin C g rest s) (eqb (bytes_per_char number) 2) (graphic2_good C g at inside number x rest s)
      (takes C g rest s 1 1 (char1 g left R number (x % 128) at s) (omega arith) (char1_to number (x % 128) s))

  pub shift_good : (element : ℕ) (rest : List ℕ) (s : State) → StepWithin C g rest s (single_shift g left R element rest at s)
  unfolding single_shift
  shift_good element [] s = cut C g at inside [] s 1 (omega arith)
  shift_good element (y ∷ r) s = either (StepWithin C g (y ∷ r) s) (is_graphic y) (shifted (graphic_good element y r s)) (tells C g at inside (y ∷ r) s 1 LoneSingleShift (λ c. tt) (omega arith))
    where
      shifted : {w : Step} → StepWithin C g r s w → StepWithin C g (y ∷ r) s (took (suc w.used) w.to)
      shifted {w} a = takes C g (y ∷ r) s w.used (suc w.used) w.to (omega arith) a.to
