-- The coder's state, and how controls change it: encode.rs, `State`.
use Rattle.std.specs.Prelude.{ℕ, zero, suc, Bool, cond, ◌&&◌, List, eqb}
use Rattle.sets.specs.declared.Shift.TheVariants.{Ls0, Ls1, Ls2, Ls3, Ls1r, Ls2r, Ls3r, Ss2, Ss3}
use Rattle.sets.specs.Sets.{shift_bytes}

-- the sets in G0 to G3 by 01's numbers, the code elements in GL and GR, and 1 where the size is narrow, else 0
pub record State : Type 0 where
  pub g0 : ℕ
  pub g1 : ℕ
  pub g2 : ℕ
  pub g3 : ℕ
  pub gl : ℕ
  pub gr : ℕ
  pub narrow : ℕ

-- "The initial sets are Kanji, Alphanumeric, Hiragana, then Katakana (Si) or Macro (Caption); GL is G0 and GR is G2"
unfoldable pub start : ℕ → State
start initial = record { g0 = 0; g1 = 1; g2 = 2; g3 = cond (eqb initial 0) 3 15; gl = 0; gr = 2; narrow = 0 }

-- two states are one
unfoldable pub same_state : State → State → Bool
same_state s t =
    eqb s.g0 t.g0 && (eqb s.g1 t.g1 && (eqb s.g2 t.g2 && (eqb s.g3 t.g3 &&
    (eqb s.gl t.gl && (eqb s.gr t.gr && eqb s.narrow t.narrow)))))

-- the set in the code element n
unfoldable pub set_in : State → ℕ → ℕ
set_in s zero = s.g0
set_in s (suc zero) = s.g1
set_in s (suc (suc zero)) = s.g2
set_in s (suc (suc (suc n))) = s.g3

-- the set x is designated to the code element n
unfoldable pub designate : State → ℕ → ℕ → State
designate s zero x = record { g0 = x; g1 = s.g1; g2 = s.g2; g3 = s.g3; gl = s.gl; gr = s.gr; narrow = s.narrow }
designate s (suc zero) x = record { g0 = s.g0; g1 = x; g2 = s.g2; g3 = s.g3; gl = s.gl; gr = s.gr; narrow = s.narrow }
designate s (suc (suc zero)) x = record { g0 = s.g0; g1 = s.g1; g2 = x; g3 = s.g3; gl = s.gl; gr = s.gr; narrow = s.narrow }
designate s (suc (suc (suc n))) x = record { g0 = s.g0; g1 = s.g1; g2 = s.g2; g3 = x; gl = s.gl; gr = s.gr; narrow = s.narrow }

-- the code element n is invoked in GL, in GR
abbrev pub invoke_gl : State → ℕ → State
invoke_gl s n = record { g0 = s.g0; g1 = s.g1; g2 = s.g2; g3 = s.g3; gl = n; gr = s.gr; narrow = s.narrow }

abbrev pub invoke_gr : State → ℕ → State
invoke_gr s n = record { g0 = s.g0; g1 = s.g1; g2 = s.g2; g3 = s.g3; gl = s.gl; gr = n; narrow = s.narrow }

-- the size becomes narrow (1) or wide (0)
abbrev pub resize : State → ℕ → State
resize s n = record { g0 = s.g0; g1 = s.g1; g2 = s.g2; g3 = s.g3; gl = s.gl; gr = s.gr; narrow = n }

-- Table 7-1: the locking shift of a code element to GL, the one of G1 to G3 to GR, and the single shift of G2 or G3
unfoldable pub lock_gl : ℕ → List ℕ
lock_gl zero = shift_bytes Ls0
lock_gl (suc zero) = shift_bytes Ls1
lock_gl (suc (suc zero)) = shift_bytes Ls2
lock_gl (suc (suc (suc n))) = shift_bytes Ls3

unfoldable pub lock_gr : ℕ → List ℕ
lock_gr zero = shift_bytes Ls1r
lock_gr (suc zero) = shift_bytes Ls1r
lock_gr (suc (suc zero)) = shift_bytes Ls2r
lock_gr (suc (suc (suc n))) = shift_bytes Ls3r

unfoldable pub single : ℕ → List ℕ
single zero = shift_bytes Ss2
single (suc zero) = shift_bytes Ss2
single (suc (suc zero)) = shift_bytes Ss2
single (suc (suc (suc n))) = shift_bytes Ss3
