-- The state of a reading between steps, and how steps change it: decode.rs, `Decoder`.
use Rattle.std.specs.Prelude.{ℕ, ◌+◌, Bool, false, ◌||◌, List, eqb, set, replicate}
use Rattle.sets.specs.Sets.{initial_sets}
use Rattle.issues.specs.declared.IssueKind.{IssueKind}
use Rattle.issues.specs.declared.IssueKind.TheVariants.{Truncated}
use Rattle.decode_output.specs.Output.{Output, nothing, emit, report}

-- what a reading is given: the lent cell table, whether the width option is AnnexE, and the input
pub record Given : Type 0 where
  pub cells : List ℕ
  pub annex_e : Bool
  pub input : List ℕ

-- the same, by 01's number of the width option
abbrev pub given : List ℕ → ℕ → List ℕ → Given
given cells width input = record { cells = cells; annex_e = eqb width 1; input = input }

-- What a later step can depend on: the numbers of the sets in G0 to G3, the code elements in GL and GR, whether the size is Small, Middle or
-- SZX 60, by code the 128 macro bodies' starts in the input (0 for none: no body starts before 3) and lengths, the charge so far, and what was
-- written and waits.
pub record State : Type 0 where
  pub sets : List ℕ
  pub gl : ℕ
  pub gr : ℕ
  pub narrow : Bool
  pub starts : List ℕ
  pub lens : List ℕ
  pub charged : ℕ
  pub out : Output

-- before the first byte, by the option: "GL is G0 and GR is G2"
unfoldable pub start : ℕ → State
unfolding nothing
start initial = record { sets = initial_sets initial; gl = 0; gr = 2; narrow = false; starts = replicate 128 0; lens = replicate 128 0; charged = 0; out = nothing }

-- a set is designated to a code element
unfoldable pub designate : ℕ → ℕ → State → State
designate element number s =
    record { sets = set s.sets element number; gl = s.gl; gr = s.gr; narrow = s.narrow; starts = s.starts; lens = s.lens; charged = s.charged; out = s.out }

-- a code element is invoked in GL, in GR
unfoldable pub invoke_gl : ℕ → State → State
invoke_gl element s = record { sets = s.sets; gl = element; gr = s.gr; narrow = s.narrow; starts = s.starts; lens = s.lens; charged = s.charged; out = s.out }

unfoldable pub invoke_gr : ℕ → State → State
invoke_gr element s = record { sets = s.sets; gl = s.gl; gr = element; narrow = s.narrow; starts = s.starts; lens = s.lens; charged = s.charged; out = s.out }

-- the size becomes narrow or not
unfoldable pub resize : Bool → State → State
resize b s = record { sets = s.sets; gl = s.gl; gr = s.gr; narrow = b; starts = s.starts; lens = s.lens; charged = s.charged; out = s.out }

-- the macro of a code has its body at a place of the input
unfoldable pub define : ℕ → ℕ → ℕ → State → State
define code place len s =
    record {
      sets = s.sets;
      gl = s.gl;
      gr = s.gr;
      narrow = s.narrow;
      starts = set s.starts code place;
      lens = set s.lens code len;
      charged = s.charged;
      out = s.out;
    }

-- "Running it charges its length"
unfoldable pub charge : ℕ → State → State
charge n s = record { sets = s.sets; gl = s.gl; gr = s.gr; narrow = s.narrow; starts = s.starts; lens = s.lens; charged = s.charged + n; out = s.out }

-- what was written changes
unfoldable pub writes : (Output → Output) → State → State
writes f s = record { sets = s.sets; gl = s.gl; gr = s.gr; narrow = s.narrow; starts = s.starts; lens = s.lens; charged = s.charged; out = f s.out }

-- an issue, with its position in the text so far
unfoldable pub issue : ℕ → IssueKind → State → State
unfolding writes report
issue at kind s = writes (report at kind) s

-- an issue, then U+FFFD in the character's place: "before the placeholder .. it brings" (request 4 of docs/REQUESTS.md)
unfoldable pub placeholder : ℕ → IssueKind → State → State
unfolding writes report emit
placeholder at kind s = writes (emit 0xFFFD) (writes (report at kind) s)

-- "Narrow means AnnexE, or size Small, Middle or SZX 60"
unfoldable pub is_narrow : Given → State → Bool
is_narrow g s = g.annex_e || s.narrow

-- what a step gives: the bytes it takes, and the state after it
pub record Step : Type 0 where
  pub used : ℕ
  pub to : State

abbrev pub took : ℕ → State → Step
took n s = record { used = n; to = s }

-- Truncated, and n bytes are used
unfoldable pub truncated : ℕ → ℕ → State → Step
unfolding issue
truncated n at s = took n (issue at Truncated s)
