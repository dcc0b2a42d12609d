-- Controls, escapes and characters that concern no macro keep what `Fine` says. Assumes nothing.
use Prim.Native.Nat.{ℕ, zero, suc, ◌+◌, ◌-◌, ◌*◌, ◌/◌, ◌%◌, ◌≤◌, ◌<◌}
use mathlib.Core.Path.{◌≡◌, refl}
use mathlib.Core.Bool.{Bool, true, false, cond, ◌&&◌, ◌||◌}
use mathlib.Core.List.{List, [], ◌∷◌, ◌++◌}
use mathlib.Core.Option.{Option, none, some}
use native.Mathlib.Omega.{arith}
use lib.Dec.{eqb, leb}
use lib.ListN.{length, take, drop}
use Rattle.base.proofs.Tests.{either, by_test}
use Rattle.control.specs.Controls.{count_of}
use Rattle.sets.specs.Sets.{Designation, to_element, from_designation, selects, read_designation}
use Rattle.sets.proofs.Laws.{known_set}
use Rattle.addsym.specs.Symbols.{symbol}
use Rattle.tables.specs.Kanji.{non_spacing, has_character, kanji_at}
use Rattle.issues.specs.declared.IssueKind.{IssueKind}
use Rattle.issues.specs.declared.IssueKind.TheVariants.{
  UnknownEscape,
  UndefinedControl,
  MalformedControl,
  Truncated,
  UndefinedCode,
  UnsupportedCode,
  Drcs,
  Mosaic,
  RepeatToEndOfLine,
}
use Rattle.reading.specs.State.{Given, State, Step, truncated, is_narrow}
use Rattle.reading.specs.Controls.{
  leading,
  locking_shift,
  designated,
  applied,
  unknown,
  applied_or,
  escape_at,
  escape,
  szx,
  repeat_by,
  rpc,
  colour,
  ended,
  sequence_from,
  csi,
  time,
  fixed_of,
  fixed,
}
use Rattle.reading.specs.Characters.{is_graphic, emit_or, cell_or, char2, mosaic, graphic2}
use Rattle.reading.specs.Steps.{space}
use Rattle.laws_between.proofs.Fine.{Fine, sized, invoked_left, invoked_right, designates, emits, marked, issued, repeats, placed}

-- a step leads to a state of which it holds
abbrev pub To : List ℕ → Step → Type 0
To input w = Fine input w.to

-- ---- designations

-- the set is one of the 32
abbrev Small : Option Designation → Type 0
Small none = Unit {0}
Small (some d) = d.set ≤ 31

to_small : (n : ℕ) (o : Option ℕ) → ((s : ℕ) → o ≡ some s → s < 32) → Small (to_element n o)
unfolding to_element
to_small n none h = tt
to_small n (some s) h = omega (arith, h s refl)

found_small : (n : ℕ) (two drcs : Bool) (f : ℕ) → Small (to_element n (from_designation two drcs f))
found_small n two drcs f = to_small n (from_designation two drcs f) (known_set two drcs f)

read_small : (bs : List ℕ) → Small (read_designation bs)
unfolding read_designation
read_small [] = tt
read_small (f ∷ []) = tt
read_small (a ∷ (f ∷ [])) =
    either Small (selects 0 a) (found_small (a - 0x28) false false f)
    (either Small (eqb a 0x24) (found_small 0 true false f) tt)
read_small (a ∷ (b ∷ (f ∷ []))) =
    either Small (selects 0 a && eqb b 0x20) (found_small (a - 0x28) false true f)
    (either Small (eqb a 0x24 && selects 1 b) (found_small (b - 0x28) true false f) tt)
read_small (a ∷ (b ∷ (c ∷ (f ∷ [])))) = either Small (eqb a 0x24 && selects 0 b && eqb c 0x20) (found_small (b - 0x28) true true f) tt
read_small (a ∷ (b ∷ (c ∷ (d ∷ (e ∷ r))))) = tt

-- ---- controls

module _ {input : List ℕ} {s : State} (k : Fine input s) where
  pub cut : (n at : ℕ) → To input (truncated n at s)
  unfolding truncated
  cut n at = issued k at Truncated

  pub szx_to : (rest : List ℕ) (at : ℕ) → To input (szx rest at s)
  unfolding szx
  szx_to [] at = cut 1 at
  szx_to (p ∷ r) at = sized k (eqb p 0x60)

  repeat_to : (n at : ℕ) → Fine input (repeat_by n at s)
  unfolding repeat_by
  repeat_to zero at = repeats (issued k at RepeatToEndOfLine) 0
  repeat_to (suc n) at = repeats k (suc n)

  pub rpc_to : (rest : List ℕ) (at : ℕ) → To input (rpc rest at s)
  unfolding rpc
  rpc_to [] at = cut 1 at
  rpc_to (p ∷ r) at = repeat_to (p % 64) at

  pub colour_to : (rest : List ℕ) (at : ℕ) → To input (colour rest at s)
  unfolding colour
  colour_to [] at = cut 1 at
  colour_to (p ∷ []) at = either (To input) (eqb p 0x20) (cut 2 at) k
  colour_to (p ∷ (q ∷ r)) at = either (To input) (eqb p 0x20) k k

  ended_to : (strict : Bool) (code n : ℕ) (rest : List ℕ) (at : ℕ) → To input (ended strict code n rest at s)
  unfolding ended
  ended_to strict code n [] at = cut n at
  ended_to strict code n (f ∷ r) at =
      either (To input) (leb 0x40 f && leb f 0x7E) k
      (either (To input) strict (issued k at (MalformedControl code)) k)

  sequence_to : (strict : Bool) (code n : ℕ) (rest : List ℕ) (at : ℕ) → To input (sequence_from strict code n rest at s)
  unfolding sequence_from
  sequence_to strict code n rest at = ended_to strict code (n + leading 0x20 0x3F rest) (drop (leading 0x20 0x3F rest) rest) at

  pub csi_to : (rest : List ℕ) (at : ℕ) → To input (csi rest at s)
  unfolding csi
  csi_to rest at = sequence_to true 0x9B 1 rest at

  pub time_to : (rest : List ℕ) (at : ℕ) → To input (time rest at s)
  unfolding time
  time_to [] at = cut 1 at
  time_to (p ∷ r) at =
      either (To input) (eqb p 0x20 || eqb p 0x28) (either (To input) (eqb (length r) 0) (cut 2 at) k)
      (either (To input) (eqb p 0x29) (sequence_to false 0x9D 2 r at) (issued k at (MalformedControl 0x9D)))

  fixed_of_lem : (o : Option ℕ) (x : ℕ) (rest : List ℕ) (at : ℕ) → To input (fixed_of o x rest at s)
  unfolding fixed_of
  fixed_of_lem none x rest at = issued k at (UndefinedControl x)
  fixed_of_lem (some n) x rest at = either (To input) (leb n (length rest)) k (cut (length rest + 1) at)

  pub fixed_to : (x : ℕ) (rest : List ℕ) (at : ℕ) → To input (fixed x rest at s)
  unfolding fixed
  fixed_to x rest at = fixed_of_lem (count_of x) x rest at

  -- ---- escapes

  abbrev Known : Option State → Type 0
  Known none = Unit {0}
  Known (some t) = Fine input t

  shift_known : (f : ℕ) → Known (locking_shift f s)
  unfolding locking_shift
  shift_known f =
      either Known (eqb f 0x6E) (invoked_left k 2 (omega arith))
      (either Known (eqb f 0x6F) (invoked_left k 3 (omega arith))
      (either Known (eqb f 0x7E) (invoked_right k 1 (omega arith))
      (either Known (eqb f 0x7D) (invoked_right k 2 (omega arith))
      (either Known (eqb f 0x7C) (invoked_right k 3 (omega arith)) tt))))

  designated_known : (d : Option Designation) → Small d → Known (designated d s)
  unfolding designated
  designated_known none h = tt
  designated_known (some d) h = designates k d.element d.set h

  applied_known : (bs : List ℕ) → Known (applied bs s)
  unfolding applied
  applied_known [] = tt
  applied_known (f ∷ []) = shift_known f
  applied_known (a ∷ (b ∷ r)) = designated_known (read_designation (a ∷ (b ∷ r))) (read_small (a ∷ (b ∷ r)))

  unknown_to : (n place at : ℕ) → To input (unknown n place at s)
  unfolding unknown
  unknown_to n place at = issued k at (UnknownEscape place n)

  applied_or_lem : (o : Option State) → Known o → (n place at : ℕ) → To input (applied_or o n place at s)
  unfolding applied_or
  applied_or_lem none h n place at = unknown_to n place at
  applied_or_lem (some t) h n place at = h

  escape_at_lem : (inter rest : List ℕ) (place at : ℕ) → To input (escape_at inter rest place at s)
  unfolding escape_at
  escape_at_lem inter [] place at = cut (length inter + 1) at
  escape_at_lem inter (f ∷ r) place at =
      either (To input) (leb 0x30 f && leb f 0x7E)
      (applied_or_lem (applied (inter ++ (f ∷ [])) s) (applied_known (inter ++ (f ∷ []))) (length inter + 2) place at)
      (unknown_to (length inter + 1) place at)

  pub escape_to : (rest : List ℕ) (place at : ℕ) → To input (escape rest place at s)
  unfolding escape
  escape_to rest place at = escape_at_lem (take (leading 0x20 0x2F rest) rest) (drop (leading 0x20 0x2F rest) rest) place at

  -- ---- characters

  pub emit_or_lem : (kind : IssueKind) (c at : ℕ) → Fine input (emit_or kind c at s)
  unfolding emit_or
  emit_or_lem kind zero at = placed k at kind
  emit_or_lem kind (suc c) at = emits k (suc c)

  -- a mark is one of the seven
  cell_or_lem : (kind : IssueKind) (c at : ℕ) → Fine input (cell_or kind c at s)
  unfolding cell_or
  cell_or_lem kind c at = by_test (Fine input) (has_character non_spacing c) (λ e. marked k c at e) (λ e. emit_or_lem kind c at)

  pub mosaic_to : (number c at : ℕ) → Fine input (mosaic number c at s)
  unfolding mosaic
  mosaic_to number c at = repeats (issued k at (Mosaic number c)) 0

  pub space_to : (g : Given) → Fine input (space g s)
  unfolding space
  space_to g = emits k (cond (is_narrow g s) 0x20 0x3000)

  char2_to : (g : Given) (number a b at : ℕ) → Fine input (char2 g number a b at s)
  unfolding char2
  char2_to g number a b at =
      let code = a * 256 + b in
      let row = a - 0x20 in
      let cell = b - 0x20 in
      either (Fine input) (eqb number 0) (cell_or_lem (UndefinedCode number code) (kanji_at g.cells row cell) at)
      (either (Fine input) (eqb number 14) (cell_or_lem (UndefinedCode number code) (symbol row cell) at)
      (either (Fine input) (eqb number 12 && leb row 84) (cell_or_lem (UnsupportedCode number code) (kanji_at g.cells row cell) at)
      (either (Fine input) (eqb number 16) (placed k at (Drcs 0 code)) (placed k at (UnsupportedCode number code)))))

  pub graphic2_to : (g : Given) (number x : ℕ) (rest : List ℕ) (at : ℕ) → To input (graphic2 g number x rest at s)
  unfolding graphic2
  graphic2_to g number x [] at = cut 1 at
  graphic2_to g number x (y ∷ r) at =
      either (To input) (is_graphic y && eqb (x / 128) (y / 128)) (char2_to g number (x % 128) (y % 128) at) (cut 1 at)
