-- What the functions promise.
use Rattle.std.specs.Prelude.{ℕ, ◌+◌, ◌≤◌, ◌<◌, ◌≡◌, true, false, cond, ◌&&◌, List, leb, length, take, drop, get_or}
use Rattle.control.specs.Codes.{MACRO}
use Rattle.issues.specs.declared.IssueKind.TheVariants.{MalformedControl}
use Rattle.reading.specs.State.{Given, State, Step, took, issue, truncated}
use Rattle.reading.specs.Macros.{Run, builtin, end_of, defined}
use Rattle.decode_macros.specs.declared.Command.{Command}
use Rattle.decode_macros.specs.declared.Command.TheVariants.{Cut, Ends, Malformed, Defines}

-- the first n bytes of l' are the built-in body of a code from 60 to 6F, and n is 0 for any other code; the rest is as in l
pub record Built (l : List ℕ) (code : ℕ) (l' : List ℕ) (n : ℕ) : Type 0 where
  pub same : length l' ≡ length l
  pub fits : n ≤ length l'
  pub has : (leb 0x60 code && leb code 0x6F) ≡ true → take n l' ≡ builtin code
  pub some : (leb 0x60 code && leb code 0x6F) ≡ true → 1 ≤ n
  pub none : (leb 0x60 code && leb code 0x6F) ≡ false → n ≡ 0
  pub rest : drop n l' ≡ drop n l

-- Table 7-16, `macro_cmd` of decode.rs: what a command does, as a step; n bytes are left from MACRO on
unfoldable pub commanded : Command → ℕ → Given → ℕ → Run → ℕ → ℕ → State → Step
unfolding truncated issue defined
commanded Cut n g left R place at s = truncated n at s
commanded Ends n g left R place at s = took 2 s
commanded Malformed n g left R place at s = took 2 (issue at (MalformedControl MACRO) s)
commanded (Defines code len runs) n g left R place at s = defined g left R (cond runs 0x41 0x40) code len place at s

-- the body of a definition at the byte i of b: it begins behind MACRO, parameter and code, and goes to the first MACRO 4F, which b has
pub record Defined (code len : ℕ) (b : List ℕ) (i : ℕ) : Type 0 where
  pub small : code < 128
  pub ended : i + len + 5 ≤ length b
  pub first : len ≡ end_of (drop (i + 3) b)

-- MACRO 4F at the byte i of b
pub record Ended (b : List ℕ) (i : ℕ) : Type 0 where
  pub room : i + 2 ≤ length b
  pub byte : get_or b (i + 1) 0 ≡ 0x4F

-- what a command says of the bytes from MACRO on, at the byte i of b
abbrev pub Within : Command → List ℕ → ℕ → Type 0
Within Cut b i = Unit {0}
Within Ends b i = Ended b i
Within Malformed b i = i + 2 ≤ length b
Within (Defines code len runs) b i = Defined code len b i
