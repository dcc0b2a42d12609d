-- The control codes: their names and how many parameter bytes follow, as the Rust's `name` and `fixed_params` list them.
use Rattle.std.specs.Prelude.{ℕ, Bool, false, cond, ◌||◌, List, [], ◌∷◌, ◌≡◌, refl, eqb, Some, None, Option as Answer}
use Prim.Native.Char.{code}
use Prim.Native.String as str
use Prim.Native.String.{String}
use Rattle.std.proofs.Math.Option.{Option, none, some}

-- A code with its name, and the number of its parameter bytes where that is fixed.
pub record Control : Type 0 where
  pub number : ℕ
  pub name : String
  pub params : Option ℕ

abbrev pub control : ℕ → String → Option ℕ → Control
control c s n = record { number = c; name = s; params = n }

-- Tables 7-15 (C0) and 7-16 (C1), with the shifts of Table 7-1, and SP and DEL of Table 7-14.
abbrev pub controls : List Control
controls =
    control 0x00 "NUL" (some 0) ∷
    control 0x07 "BEL" (some 0) ∷
    control 0x08 "APB" (some 0) ∷
    control 0x09 "APF" (some 0) ∷
    control 0x0A "APD" (some 0) ∷
    control 0x0B "APU" (some 0) ∷
    control 0x0C "CS" (some 0) ∷
    control 0x0D "APR" (some 0) ∷
    control 0x0E "LS1" (some 0) ∷
    control 0x0F "LS0" (some 0) ∷
    control 0x16 "PAPF" (some 1) ∷
    control 0x18 "CAN" (some 0) ∷
    control 0x19 "SS2" (some 0) ∷
    control 0x1B "ESC" none ∷
    control 0x1C "APS" (some 2) ∷
    control 0x1D "SS3" (some 0) ∷
    control 0x1E "RS" (some 0) ∷
    control 0x1F "US" (some 0) ∷
    control 0x20 "SP" (some 0) ∷
    control 0x7F "DEL" (some 0) ∷
    control 0x80 "BKF" (some 0) ∷
    control 0x81 "RDF" (some 0) ∷
    control 0x82 "GRF" (some 0) ∷
    control 0x83 "YLF" (some 0) ∷
    control 0x84 "BLF" (some 0) ∷
    control 0x85 "MGF" (some 0) ∷
    control 0x86 "CNF" (some 0) ∷
    control 0x87 "WHF" (some 0) ∷
    control 0x88 "SSZ" (some 0) ∷
    control 0x89 "MSZ" (some 0) ∷
    control 0x8A "NSZ" (some 0) ∷
    control 0x8B "SZX" (some 1) ∷
    control 0x90 "COL" none ∷
    control 0x91 "FLC" (some 1) ∷
    control 0x92 "CDC" none ∷
    control 0x93 "POL" (some 1) ∷
    control 0x94 "WMM" (some 1) ∷
    control 0x95 "MACRO" none ∷
    control 0x97 "HLC" (some 1) ∷
    control 0x98 "RPC" (some 1) ∷
    control 0x99 "SPL" (some 0) ∷
    control 0x9A "STL" (some 0) ∷
    control 0x9B "CSI" none ∷
    control 0x9D "TIME" none ∷
    []

-- Has the code an entry?
unfoldable pub listed : List Control → ℕ → Bool
listed [] c = false
listed (x ∷ xs) c = eqb c x.number || listed xs c

-- What the entry of a code says, and `d` where it has none.
unfoldable pub lookup : {A : Type 0} → (Control → A) → A → List Control → ℕ → A
lookup f d [] c = d
lookup f d (x ∷ xs) c = cond (eqb c x.number) (f x) (lookup f d xs c)

-- The Rust's `name`: empty where there is none.
unfoldable pub text_of : ℕ → String
unfolding lookup
text_of c = lookup (λ x. x.name) "" controls c

-- The Rust's `fixed_params`.
unfoldable pub count_of : ℕ → Option ℕ
unfolding lookup
count_of c = lookup (λ x. x.params) none controls c

-- The characters of a text, as numbers.
unfoldable pub bytes : String → List ℕ
bytes str.[] = []
bytes (str.◌∷◌ x s) = code x ∷ bytes s

-- The bytes of what `name` answers.
unfoldable pub name_of : ℕ → List ℕ
unfolding lookup bytes
name_of c = lookup (λ x. bytes x.name) [] controls c

-- What an answer of `fixed_params` says: the number of parameter bytes, where it is fixed.
abbrev pub params_of : Answer ℕ → Option ℕ
params_of (Some n) = some n
params_of None = none

-- Worked: APS is followed by two bytes, MACRO by a number that varies, and A0 has no entry.
worked : count_of 0x1C ∷ count_of 0x95 ∷ count_of 0xA0 ∷ [] ≡ some 2 ∷ none ∷ none ∷ []
unfolding count_of
worked = refl

worked_name : name_of 0x16 ≡ 0x50 ∷ 0x41 ∷ 0x50 ∷ 0x46 ∷ []
unfolding name_of
worked_name = refl
