-- What is promised of runs of characters and controls that are read as they stand.
use Rattle.std.specs.Prelude.{ℕ, ◌+◌, ◌-◌, ◌*◌, ◌≤◌, ◌≡◌, Bool, true, false, ◌||◌, List, eqb, length, take, get_or}
use Rattle.std.proofs.lemmas.List.Edits.{sets}
use Rattle.utf8.specs.Utf8.{utf8}
use Rattle.decode_output.specs.declared.Out.{Out}
use Rattle.reading.specs.State.{Given}
use Rattle.reading.specs.Macros.{Run}
use Rattle.decode_state.specs.declared.Core.{Core}
use Rattle.decode_state.specs.Promises.{whole, Goes}
use Rattle.decode_letters.specs.declared.Invoked.{Invoked}
use Rattle.decode_settings.specs.Promises.{Settings}
use Rattle.decode_runs.specs.declared.Reached.{Reached}

-- ---- runs of characters

-- where n bytes are written, three for each of m bytes more fit a text that has room for so many; or they begin behind its end, and can be counted
pub record Space (fits : Bool) (n m room : ℕ) : Type 0 where
  pub inside : fits ≡ true → n + 3 * m ≤ room
  pub behind : fits ≡ false → room ≤ n
  pub small : fits ≡ false → n + 3 * m ≤ 0x10000000000

-- the struct where n bytes are written, p characters of them private-use, and nothing waits
abbrev pub with_text : Core → ℕ → ℕ → Core
with_text c n p =
    record {
      sets = c.sets;
      gl = c.gl;
      gr = c.gr;
      narrow = c.narrow;
      annex = c.annex;
      enough = c.enough;
      charged = c.charged;
      out = record { len = n; end = n; waiting = c.out.waiting; first = 0; repeat = 0; issues = c.out.issues; private_use = p };
    }

-- the sets in GL and GR are those of v, it says whether alphanumerics are narrow, n bytes are written, p characters of them private-use,
-- and nothing waits
pub record Plain (v : Invoked) (n p : ℕ) (c : Core) : Type 0 where
  pub gl : v.gl ≡ get_or c.sets c.gl 0
  pub gr : v.gr ≡ get_or c.sets c.gr 0
  pub narrow : v.narrow ≡ (c.annex || c.narrow)
  pub text : c ≡ with_text c n p

-- from the byte j of b to the byte j' by characters that begin before the byte `to` and were written, of at most three bytes each, where n bytes were
-- written before and n' after, and p characters private-use before and p' after
pub record Letters (cells b : List ℕ) (to j : ℕ) (v : Invoked) (n p : ℕ) (t : List ℕ) (j' n' p' : ℕ) (t' : List ℕ) : Type 0 where
  pub past : j ≤ j'
  pub within : j' ≤ length b
  pub most : n' ≤ n + 3 * (j' - j)
  pub few : p' + n ≤ p + n'
  pub goes : (g : Given) → g.cells ≡ cells → (left : ℕ) (R : Run) (base origin : ℕ) (i starts lens : List ℕ) (c : Core) → Plain v n p c
      → Goes g left R base origin b to j (whole c starts lens) t i j' (whole (with_text c n' p') starts lens) t' i

-- a character c of u bytes behind what was reached, of which q are private-use
pub record Behind (from : Reached) (c u q : ℕ) (t : List ℕ) (r : Reached) (t' : List ℕ) : Type 0 where
  pub at : r.at ≡ from.at + u
  pub len : r.len ≡ from.len + length (utf8 c)
  pub private_use : r.private_use ≡ from.private_use + q
  pub text : t' ≡ sets t from.len (utf8 c)

-- ---- runs of characters and controls

-- the struct with these settings, where n bytes are written, p characters of them private-use, and nothing waits
abbrev pub core_at : List ℕ → ℕ → ℕ → Core → Core
core_at l n p c =
    record {
      sets = take 4 l;
      gl = get_or l 4 0;
      gr = get_or l 5 0;
      narrow = eqb (get_or l 6 0) 1;
      annex = c.annex;
      enough = c.enough;
      charged = c.charged;
      out = record { len = n; end = n; waiting = c.out.waiting; first = 0; repeat = 0; issues = c.out.issues; private_use = p };
    }

-- the same by characters and by controls that turned the settings l into l'
pub record RunsTo (cells b : List ℕ) (to j : ℕ) (annex : Bool) (l : List ℕ) (n p : ℕ) (t : List ℕ) (j' : ℕ) (l' : List ℕ) (n' p' : ℕ) (t' : List ℕ) : Type 0 where
  pub past : j ≤ j'
  pub within : j' ≤ length b
  pub most : n' ≤ n + 3 * (j' - j)
  pub few : p' + n ≤ p + n'
  pub settings : Settings l'
  pub goes : (g : Given) → g.cells ≡ cells → (left : ℕ) (R : Run) (base origin : ℕ) (i starts lens : List ℕ) (c : Core) → c.annex ≡ annex
      → Goes g left R base origin b to j (whole (core_at l n p c) starts lens) t i j' (whole (core_at l' n' p' c) starts lens) t' i

-- where a run may begin: nothing waits, and a table has its 8,836 cells
pub record Begins (o : Out) (cells : ℕ) : Type 0 where
  pub repeat : o.repeat ≡ 0
  pub end : o.len ≡ o.end
  pub first : o.first ≡ 0
  pub table : 8836 ≤ cells
