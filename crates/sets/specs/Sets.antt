-- Graphic sets and their designations, shifts, character sizes and initial states: document 01, "sets.rs", and ARIB STD-B24
-- volume 1 part 2, Tables 7-1 (invocation), 7-2 (designation), 7-3 (sets and final bytes) and 7-16 (sizes).
use Rattle.std.specs.Prelude.{ℕ, zero, suc, ◌+◌, ◌-◌, ◌%◌, Bool, true, false, cond, ◌&&◌, ◌||◌, not, List, [], ◌∷◌, ◌++◌, ◌≡◌, eqb, ltb, leb, length, get_or, replicate, Some, None, Option as Answer}
use Rattle.std.proofs.Math.Option.{Option, none, some}
use Rattle.control.specs.Codes.{ESC, LS0, LS1, SS2, SS3}
use Rattle.sets.specs.declared.GraphicSet.{GraphicSet}
use Rattle.sets.specs.declared.GraphicSet.TheVariants.{
  Kanji,
  Alphanumeric,
  Hiragana,
  Katakana,
  MosaicA,
  MosaicB,
  MosaicC,
  MosaicD,
  ProportionalAlphanumeric,
  ProportionalHiragana,
  ProportionalKatakana,
  JisX0201Katakana,
  JisKanjiPlane1,
  JisKanjiPlane2,
  AdditionalSymbols,
  Drcs,
  Macro,
}
use Rattle.sets.specs.declared.Sequence.TheInside.{Inside}
use Rattle.sets.specs.declared.Shift.{Shift}
use Rattle.sets.specs.declared.Shift.TheVariants.{Ls0, Ls1, Ls2, Ls3, Ls1r, Ls2r, Ls3r, Ss2, Ss3}
use Rattle.sets.specs.declared.CharSize.{CharSize}
use Rattle.sets.specs.declared.CharSize.TheVariants.{Small, Middle, Normal, Szx}
use Rattle.sets.specs.declared.InitialState.{InitialState}
use Rattle.sets.specs.declared.InitialState.TheVariants.{Si, Caption}
use Rattle.sets.specs.declared.Invocations.{Invocations}

-- 01, "Set numbers here": 0 to 14 in the order of `GraphicSet` up to AdditionalSymbols, Macro 15, Drcs(n) 16 + n
abbrev pub set_number : GraphicSet → ℕ
set_number Kanji = 0
set_number Alphanumeric = 1
set_number Hiragana = 2
set_number Katakana = 3
set_number MosaicA = 4
set_number MosaicB = 5
set_number MosaicC = 6
set_number MosaicD = 7
set_number ProportionalAlphanumeric = 8
set_number ProportionalHiragana = 9
set_number ProportionalKatakana = 10
set_number JisX0201Katakana = 11
set_number JisKanjiPlane1 = 12
set_number JisKanjiPlane2 = 13
set_number AdditionalSymbols = 14
set_number (Drcs n) = 16 + n
set_number Macro = 15

-- Table 7-3, "Remarks": two bytes a character for Kanji, JIS Kanji planes 1 and 2, additional symbols and DRCS-0, else one
unfoldable pub bytes_per_char : ℕ → ℕ
bytes_per_char s = cond (eqb s 0 || leb 12 s && leb s 14 || eqb s 16) 2 1

-- Table 7-2: the macro set and the DRCS are designated with 02/0 before the final byte
unfoldable pub is_drcs_form : ℕ → Bool
is_drcs_form s = leb 15 s

-- Table 7-3: the final bytes of the sets 0 to 15
abbrev pub final_bytes : List ℕ
final_bytes = 0x42 ∷ 0x4A ∷ 0x30 ∷ 0x31 ∷ 0x32 ∷ 0x33 ∷ 0x34 ∷ 0x35 ∷ 0x36 ∷ 0x37 ∷ 0x38 ∷ 0x49 ∷ 0x39 ∷ 0x3A ∷ 0x3B ∷ 0x70 ∷ []

-- Table 7-3: a set's final byte; DRCS-n has 04/0 + n, and the Rust's `final_byte` counts n modulo 16
unfoldable pub final_byte : ℕ → ℕ
final_byte s = cond (ltb s 16) (get_or final_bytes s 0) (0x40 + s % 16)

-- Table 7-2: what designates a set to G0 .. G3, by bytes a character (two or not), DRCS form or not, code element n and final byte f
unfoldable pub sequence : Bool → Bool → ℕ → ℕ → List ℕ
sequence false false n f = ESC ∷ (0x28 + n) ∷ f ∷ []
sequence false true n f = ESC ∷ (0x28 + n) ∷ 0x20 ∷ f ∷ []
sequence true false n f = cond (eqb n 0) (ESC ∷ 0x24 ∷ f ∷ []) (ESC ∷ 0x24 ∷ (0x28 + n) ∷ f ∷ [])
sequence true true n f = ESC ∷ 0x24 ∷ (0x28 + n) ∷ 0x20 ∷ f ∷ []

-- Table 7-2: the designation of set s to code element n
unfoldable pub designation : ℕ → ℕ → List ℕ
unfolding bytes_per_char is_drcs_form final_byte sequence
designation s n = sequence (eqb (bytes_per_char s) 2) (is_drcs_form s) n (final_byte s)

-- two answers are the same
abbrev pub agree : Bool → Bool → Bool
agree a b = cond a b (not b)

-- Table 7-3: set s is designated with two bytes or not, in the DRCS form or not, with the final byte f
unfoldable pub has_final : Bool → Bool → ℕ → ℕ → Bool
unfolding bytes_per_char is_drcs_form final_byte
has_final two drcs f s = agree two (eqb (bytes_per_char s) 2) && agree drcs (is_drcs_form s) && eqb f (final_byte s)

-- the first of the k numbers from s on that passes the test
unfoldable pub first_from : (ℕ → Bool) → ℕ → ℕ → Option ℕ
first_from p s zero = none
first_from p s (suc k) = cond (p s) (some s) (first_from p (suc s) k)

-- `from_designation`: the set of Table 7-3, numbers 0 to 31, that the final byte f selects; none if the table has no such set
unfoldable pub from_designation : Bool → Bool → ℕ → Option ℕ
unfolding first_from has_final
from_designation two drcs f = first_from (has_final two drcs f) 0 32

-- a set by its number, designated to a code element
pub record Designation : Type 0 where
  pub element : ℕ
  pub set : ℕ

-- the set, if there is one, designated to element n
unfoldable pub to_element : ℕ → Option ℕ → Option Designation
to_element n none = none
to_element n (some s) = some (record { element = n; set = s })

-- 02/8 + n, n from `low` to 3
abbrev pub selects : ℕ → ℕ → Bool
selects low b = leb (0x28 + low) b && leb b 0x2B

-- decode.rs, `escape` and `designate`: what the bytes after ESC, the final byte among them, designate
unfoldable pub read_designation : List ℕ → Option Designation
unfolding from_designation to_element
read_designation [] = none
read_designation (f ∷ []) = none
read_designation (a ∷ f ∷ []) =
    cond (selects 0 a) (to_element (a - 0x28) (from_designation false false f))
    (cond (eqb a 0x24) (to_element 0 (from_designation true false f)) none)
read_designation (a ∷ b ∷ f ∷ []) =
    cond (selects 0 a && eqb b 0x20) (to_element (a - 0x28) (from_designation false true f))
    (cond (eqb a 0x24 && selects 1 b) (to_element (b - 0x28) (from_designation true false f)) none)
read_designation (a ∷ b ∷ c ∷ f ∷ []) =
    cond (eqb a 0x24 && selects 0 b && eqb c 0x20) (to_element (b - 0x28) (from_designation true true f)) none
read_designation (a ∷ b ∷ c ∷ d ∷ e ∷ r) = none

-- the number of the set that an answer of `from_designation` holds
abbrev pub designated : Answer GraphicSet → Option ℕ
designated (Some s) = some (set_number s)
designated None = none

-- the fields of a `Sequence` hold the bytes xs, at most five, and zeros after them
pub record HoldsBytes (q : Inside) (xs : List ℕ) : Type 0 where
  pub filled : q.bytes ≡ xs ++ replicate (5 - length xs) 0
  pub counted : q.len ≡ length xs

-- Table 7-1: the coded representation of a shift
abbrev pub shift_bytes : Shift → List ℕ
shift_bytes Ls0 = LS0 ∷ []
shift_bytes Ls1 = LS1 ∷ []
shift_bytes Ls2 = ESC ∷ 0x6E ∷ []
shift_bytes Ls3 = ESC ∷ 0x6F ∷ []
shift_bytes Ls1r = ESC ∷ 0x7E ∷ []
shift_bytes Ls2r = ESC ∷ 0x7D ∷ []
shift_bytes Ls3r = ESC ∷ 0x7C ∷ []
shift_bytes Ss2 = SS2 ∷ []
shift_bytes Ss3 = SS3 ∷ []

-- Table 7-1: the code element that a shift invokes
abbrev pub shift_element : Shift → ℕ
shift_element Ls0 = 0
shift_element Ls1 = 1
shift_element Ls2 = 2
shift_element Ls3 = 3
shift_element Ls1r = 1
shift_element Ls2r = 2
shift_element Ls3r = 3
shift_element Ss2 = 2
shift_element Ss3 = 3

-- what a comparison of two byte strings says
pub record Compared (r : Bool) (a b : List ℕ) : Type 0 where
  pub equal : r ≡ true → a ≡ b
  pub unequal : r ≡ false → a ≡ b → ⊥

-- 01, "Narrow means .. size Small, Middle or SZX 60"
abbrev pub is_narrow : CharSize → Bool
is_narrow Small = true
is_narrow Middle = true
is_narrow Normal = false
is_narrow (Szx p) = eqb p 0x60

-- 01, "the options are 0 or 1 (Si, Caption ..)"
abbrev pub initial_number : InitialState → ℕ
initial_number Si = 0
initial_number Caption = 1

-- 01, "The initial sets are Kanji, Alphanumeric, Hiragana, then Katakana (Si) or Macro (Caption)", by the option
abbrev pub initial_sets : ℕ → List ℕ
initial_sets o = 0 ∷ 1 ∷ 2 ∷ cond (eqb o 0) 3 15 ∷ []

-- 01, "GL is G0 and GR is G2"
abbrev pub initial_invocations : Invocations
initial_invocations = record { gl = 0; gr = 2 }
