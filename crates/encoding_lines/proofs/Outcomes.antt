-- What a coding call gives, in lines: its numbers are bounded, and each way out prints the definition's lines. Assumes nothing.
use Prim.Native.Nat.{ℕ, zero, suc, ◌≤◌, ◌<◌}
use mathlib.Core.Path.{◌≡◌, refl, sym, ap, ◌∙◌, subst}
use mathlib.Core.Bool.{Bool}
use mathlib.Core.List.{List}
use native.Mathlib.Omega.{arith}
use lib.ListN.{length, take, replicate, length-replicate}
use Rattle.coding.specs.Search.{begin, run, gap_of, finish, code}
use Rattle.coding.specs.Call.{Lent, Outcome, choices, coding, outcome_of, outcome}
use Rattle.laws_coding.proofs.Answers.{passes}
use Rattle.encode.specs.Answers.{Answer, number_of, place_of, length_of, lent, Answered}
use Rattle.encode.specs.Answers as answers
use Rattle.jis_tab.specs.CellTable.{cell_table}
use Rattle.ascii.specs.Ascii.{refused_line}
use Rattle.encoding_form.specs.Lines.{coding_lines}
use Rattle.encoding_lines.specs.Lines.{answer_lines, call, coded_lines, encoding}

-- ---- bounds

gap_of_lem : (n f : ℕ) → gap_of n f ≤ n
unfolding gap_of
gap_of_lem n zero = omega arith
gap_of_lem n (suc f) = omega arith

gap_most : (c : Lent) → (coding c).gap ≤ length (coding c).out
unfolding coding code finish
gap_most c = gap_of_lem _ (run (choices c) (begin c.initial)).floor

-- an accepted coding is within its buffer, and its gap no greater
pub record Within (room : ℕ) (o : Outcome) : Type 0 where
  pub long : o.length ≤ room
  pub gap : o.gap ≤ room

pub within : (c : Lent) → (outcome c).refused ≡ 0 → Within c.coding_room (outcome c)
unfolding outcome_of
within c e =
    let p = passes c e in
    record {
      long = omega (arith, ap (λ (o : Outcome). o.length) p.given, p.fits);
      gap = omega (arith, ap (λ (o : Outcome). o.gap) p.given, p.fits, gap_most c);
    }

-- ---- lines

-- buffer and store of the program's rooms
pub answered_as : (cells text store : List ℕ) {a : Answer} {s b : List ℕ} → length store ≡ 1048576 → Answered (lent cells 0 0 text store (replicate 65529 0)) a s b →
    Answered (call cells text) a s b
answered_as cells text store {a} {s} {b} h v =
    subst (λ (n : ℕ). Answered (record { cells = cells; initial = 0; width = 0; text = text; store_room = n; coding_room = 65529 }) a s b) h
    (subst (λ (n : ℕ). Answered (record { cells = cells; initial = 0; width = 0; text = text; store_room = length store; coding_room = n }) a s b) (length-replicate {A = ℕ} 65529 0) v)

-- an outcome that is no refusal
shown : (o : Outcome) → o.refused ≡ 0 → answer_lines o.refused o ≡ coding_lines o.length o.gap (take o.length o.buffer)
unfolding answer_lines
shown o e = ap (λ (n : ℕ). answer_lines n o) e

lines_of : (cells text : List ℕ) → coded_lines cells text ≡ answer_lines (outcome (call cells text)).refused (outcome (call cells text))
unfolding coded_lines
lines_of cells text = refl

-- what the lines of a coding ask
pub record Few (n g : ℕ) : Type 0 where
  pub length : n ≤ 65529
  pub gap : g ≤ 65529

module _ (cells text : List ℕ) {a : Answer} {s b : List ℕ} (v : Answered (call cells text) a s b) where
  -- the call refuses
  pub lines_refused : {n p : ℕ} → n ≡ number_of a → 0 < n → p ≡ place_of a → coded_lines cells text ≡ refused_line n p
  unfolding coded_lines answer_lines
  lines_refused {n} {p} m k e = go n (m ∙ v.number) k
    where
      go : (n : ℕ) → n ≡ (outcome (call cells text)).refused → 0 < n → coded_lines cells text ≡ refused_line n p
      go zero x y = absurd (omega arith)
      go (suc n) x y = rw (sym x) (ap (refused_line (suc n)) (sym (e ∙ v.place)))

  accepted : {z : ℕ} → z ≡ number_of a → z ≤ 0 → (outcome (call cells text)).refused ≡ 0
  accepted m j = omega (arith, m ∙ v.number)

  -- the call codes
  pub lines_coded : {z n g : ℕ} → z ≡ number_of a → z ≤ 0 → n ≡ length_of a → g ≡ answers.gap_of a → coded_lines cells text ≡ coding_lines n g (take n b)
  lines_coded {z} {n} {g} m j x y = lines_of cells text ∙ shown (outcome (call cells text)) (accepted m j) ∙ sym (rw (x ∙ v.counted, y ∙ v.gap, v.written) refl)

  pub few_counts : {z n g : ℕ} → z ≡ number_of a → z ≤ 0 → n ≡ length_of a → g ≡ answers.gap_of a → Few n g
  few_counts m j x y =
      let w = within (call cells text) (accepted m j) in
      record { length = omega (arith, x ∙ v.counted, w.long); gap = omega (arith, y ∙ v.gap, w.gap) }

-- a cell table
pub encoding_as : (present : Bool) (table text cells : List ℕ) → cells ≡ cell_table present table → encoding present table text ≡ coded_lines cells text
unfolding encoding
encoding_as present table text cells e = ap (λ (l : List ℕ). coded_lines l text) (sym e)
