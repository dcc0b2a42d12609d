-- Where plain steps stop: at MACRO, at characters of the macro set, at the end, and behind an issue that ends the reading.
use Rattle.std.specs.Prelude.{ℕ, ◌+◌, ◌≤◌, ◌<◌, ◌≡◌, true, false, Option, Some, None, List, ◌⊎◌, length, get_or}
use Rattle.control.specs.Codes.{SS2, SS3, MACRO}
use Rattle.reading.specs.Characters.{is_gl, is_gr, is_graphic}
use Rattle.decode_state.specs.declared.Core.{Core}
use Rattle.decode_steps.specs.declared.Stop.{Stop}
use Rattle.decode_steps.specs.declared.Stop.TheVariants.{Macro, Char, Shifted}
use Rattle.decode_steps.specs.declared.Stretched.{Stretched}
use Rattle.decode_state.specs.Promises.{Ends, Stretch}

-- the byte x begins a character of the code element e
pub record CharOf (x e : ℕ) (c : Core) : Type 0 where
  pub element : e < 4
  pub through : ((is_gl x ≡ true) × (e ≡ c.gl)) ⊎ ((is_gl x ≡ false) × (is_gr x ≡ true) × (e ≡ c.gr))

-- the byte x shifts one character to the code element e
abbrev pub ShiftOf : ℕ → ℕ → Type 0
ShiftOf x e = ((x ≡ SS2) × (e ≡ 2)) ⊎ ((x ≡ SS3) × (e ≡ 3))

-- the byte i of b begins a character of the element e, which has the macro set
pub record CharAt (e : ℕ) (b : List ℕ) (i : ℕ) (c : Core) : Type 0 where
  pub within : i < length b
  pub char : CharOf (get_or b i 0) e c
  pub macros : get_or c.sets e 0 ≡ 15

-- the byte i of b shifts the character behind it to the element e, which has the macro set
pub record ShiftedAt (e : ℕ) (b : List ℕ) (i : ℕ) (c : Core) : Type 0 where
  pub within : i + 1 < length b
  pub shift : ShiftOf (get_or b i 0) e
  pub behind : is_graphic (get_or b (i + 1) 0) ≡ true
  pub macros : get_or c.sets e 0 ≡ 15

-- the step at the byte i of b concerns no macro
pub record Passes (b : List ℕ) (i : ℕ) (c : Core) : Type 0 where
  pub command : get_or b i 0 ≡ MACRO → ⊥
  pub left : is_gl (get_or b i 0) ≡ true → get_or c.sets c.gl 0 ≡ 15 → ⊥
  pub right : is_gr (get_or b i 0) ≡ true → get_or c.sets c.gr 0 ≡ 15 → ⊥
  pub shift : (e : ℕ) → ShiftOf (get_or b i 0) e → get_or c.sets e 0 ≡ 15 → i + 1 < length b → is_graphic (get_or b (i + 1) 0) ≡ true → ⊥

-- what stops the steps at the byte i of b: it is MACRO, or a character of the macro set
abbrev pub StopsAt : Stop → List ℕ → ℕ → Core → Type 0
StopsAt Macro b i c = (i < length b) × (get_or b i 0 ≡ MACRO)
StopsAt (Char e) b i c = CharAt e b i c
StopsAt (Shifted e) b i c = ShiftedAt e b i c

-- what a look at the byte i of b says: the step there concerns no macro, or what stops it
abbrev pub Verdict : Option Stop → List ℕ → ℕ → Core → Type 0
Verdict None b i c = Passes b i c
Verdict (Some stop) b i c = StopsAt stop b i c

-- why steps that begin before the byte `to` of b stop at its byte i: there are no more, an issue before it ends the reading, or what a look at it before `to` says
abbrev pub StopAt : Option Stop → List ℕ → ℕ → ℕ → Core → Type 0
StopAt None b to i c = (to ≤ i) ⊎ Ends c.enough c.out.issues
StopAt (Some stop) b to i c = (i < to) × StopsAt stop b i c

-- a stretch of plain steps, and where it stops
pub record Plain (cells : List ℕ) (base origin : ℕ) (b : List ℕ) (to j : ℕ) (c : Core) (t i : List ℕ) (r : Stretched) (t' i' : List ℕ) : Type 0 where
  pub stretch : Stretch cells base origin b to j c t i r.at r.core t' i'
  pub stop : StopAt r.stop b to r.at r.core
