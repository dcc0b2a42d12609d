-- The bodies that run in a reading, in order: 01, "A macro's body runs only when ..", and "the definition's sum of run body lengths". Nothing of
-- `reading` stands on this; specs/Reading.antt states that the charge is the sum of their lengths.
use Rattle.std.specs.Prelude.{ℕ, zero, suc, ◌+◌, ◌-◌, ◌%◌, cond, ◌&&◌, List, [], ◌∷◌, ◌++◌, eqb, ltb, leb, length, take, drop, get_or}
use Rattle.std.proofs.Math.Option.{Option, none, some}
use Rattle.control.specs.Codes.{SS2, SS3, MACRO}
use Rattle.reading.specs.State.{Given, State, start, define, charge}
use Rattle.reading.specs.Characters.{is_gl, is_gr, is_graphic}
use Rattle.reading.specs.Macros.{Run, builtin, limit, end_of}
use Rattle.reading.specs.Steps.{step, offset, run}

-- A macro that a step calls: its code, and the state in which it is called.
pub record Called : Type 0 where
  pub code : ℕ
  pub from : State

-- The character that begins with the byte x, of the set in a code element: of the macro set, number 15, it calls the macro of its code.
unfoldable pub called_in : ℕ → ℕ → State → Option Called
called_in element x s = cond (eqb (get_or s.sets element 0) 15) (some (record { code = x % 128; from = s })) none

-- "A single shift reads one character from G2 or G3 in either half"
unfoldable pub called_shifted : ℕ → List ℕ → State → Option Called
unfolding is_graphic called_in
called_shifted element [] s = none
called_shifted element (y ∷ r) s = cond (is_graphic y) (called_in element y s) none

-- MACRO 41, decode.rs, `macro_cmd`: a whole definition, ended by 95 4F, is made and then called
unfoldable pub called_defined : List ℕ → ℕ → State → Option Called
unfolding end_of define
called_defined [] place s = none
called_defined (p ∷ []) place s = none
called_defined (p ∷ (mc ∷ r)) place s =
    cond (eqb p 0x41 && ltb (end_of r) (length r)) (some (record { code = mc % 128; from = define (mc % 128) (place + 3) (end_of r) s })) none

-- a code outside GL and GR
unfoldable pub called_by_code : ℕ → List ℕ → ℕ → State → Option Called
unfolding called_shifted called_defined
called_by_code x rest place s =
    cond (eqb x SS2) (called_shifted 2 rest s)
    (cond (eqb x SS3) (called_shifted 3 rest s)
    (cond (eqb x MACRO) (called_defined rest place s) none))

-- the macro that the step of the byte x calls, x standing at a place of the input before `rest`; none for any other step
unfoldable pub called : ℕ → List ℕ → ℕ → State → Option Called
unfolding is_gl is_gr called_in called_by_code
called x rest place s = cond (is_gl x) (called_in s.gl x s) (cond (is_gr x) (called_in s.gr x s) (called_by_code x rest place s))

-- A body: its bytes, and their place in the input (0 for a built-in body).
pub record Body : Type 0 where
  pub bytes : List ℕ
  pub place : ℕ

-- a macro's body: as defined, else "Codes 60 to 6F have the sixteen built-in bodies", else none
unfoldable pub body_of : Given → ℕ → State → Option Body
unfolding builtin
body_of g code s =
    cond (eqb (get_or s.starts code 0) 0)
    (cond (leb 0x60 code && leb code 0x6F) (some (record { bytes = builtin code; place = 0 })) none)
    (some (record { bytes = take (get_or s.lens code 0) (drop (get_or s.starts code 0) g.input); place = get_or s.starts code 0 }))

-- A body that runs, and the state in which it begins: "Running it charges its length".
pub record Begun : Type 0 where
  pub body : Body
  pub from : State

-- "A macro's body runs only when fewer than four bodies are open and its length is within what remains"; `left` more may be opened
unfoldable pub begun_of : Given → ℕ → Option Body → State → Option Begun
unfolding limit charge
begun_of g left none s = none
begun_of g left (some b) s =
    cond (ltb 0 left && leb (s.charged + length b.bytes) (limit g.input)) (some (record { body = b; from = charge (length b.bytes) s })) none

unfoldable pub begun_by : Given → ℕ → Option Called → Option Begun
unfolding begun_of body_of
begun_by g left none = none
begun_by g left (some c) = begun_of g left (body_of g c.code c.from) c.from

-- the body that the step of the byte x runs; none where it calls no macro, the macro has no body, or the body may not run
unfoldable pub begun : Given → ℕ → ℕ → List ℕ → ℕ → State → Option Begun
unfolding begun_by called
begun g left x rest place s = begun_by g left (called x rest place s)

-- To list the bodies that run within a body: of what `Run` runs.
abbrev pub Within : Type 0
Within = List ℕ → ℕ → ℕ → State → List (List ℕ)

-- a body, followed by those that run within it
unfoldable pub with_inner : Within → ℕ → Option Begun → List (List ℕ)
with_inner W at none = []
with_inner W at (some b) = b.body.bytes ∷ W b.body.bytes b.body.place (suc at) b.from

-- The bodies that run in the steps of a body, which go as in `steps` with the same arguments; W lists those within each.
unfoldable pub ran_in : Given → ℕ → Run → Within → ℕ → ℕ → List ℕ → ℕ → ℕ → State → List (List ℕ)
unfolding step offset begun with_inner
ran_in g left R W base origin [] i k s = []
ran_in g left R W base origin (x ∷ xs) i zero s =
    let w = step g left R x xs (base + i) (offset origin i) s in
    with_inner W (offset origin i) (begun g left x xs (base + i) s) ++ ran_in g left R W base origin xs (i + 1) (w.used - 1) w.to
ran_in g left R W base origin (x ∷ xs) i (suc k) s = ran_in g left R W base origin xs (i + 1) k s

-- the bodies that run within a body, inside which `left` more may be opened
unfoldable pub ran : Given → ℕ → Within
unfolding ran_in run
ran g zero b base origin s = ran_in g zero (λ b₁ base₁ origin₁ s₁. s₁) (λ b₁ base₁ origin₁ s₁. []) base origin b 0 0 s
ran g (suc left) b base origin s = ran_in g (suc left) (run g left) (ran g left) base origin b 0 0 s

-- the bodies that run in a reading, in the order in which they begin
unfoldable pub bodies : Given → ℕ → List (List ℕ)
unfolding ran start
bodies g initial = ran g 4 g.input 0 0 (start initial)

-- the sum of their lengths
unfoldable pub total : List (List ℕ) → ℕ
total [] = 0
total (b ∷ bs) = length b + total bs
