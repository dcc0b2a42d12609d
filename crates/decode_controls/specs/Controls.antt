-- What a control is read as, and the step that it is.
use Rattle.std.specs.Prelude.{ℕ, ◌+◌, ◌≤◌, ◌<◌, ◌≡◌, false, List, [], ◌∷◌, length}
use Rattle.std.proofs.Math.Option.{Option}
use Rattle.control.specs.Codes.{APR, SS2, SS3, SP, MACRO}
use Rattle.issues.specs.declared.IssueKind.TheVariants.{MalformedControl, UndefinedControl}
use Rattle.reading.specs.State.{State, Step, took, truncated, issue, designate, invoke_gl, invoke_gr, resize}
use Rattle.reading.specs.Characters.{is_gl, is_gr}
use Rattle.reading.specs.Controls.{repeat_by, unknown, applied_or}
use Rattle.decode_controls.specs.declared.Effect.{Effect}
use Rattle.decode_controls.specs.declared.Effect.TheVariants.{Nothing, Gl, Gr, Designates, Narrow, Repeat, Truncated, Malformed, UnknownEscape, Undefined}
use Rattle.decode_controls.specs.declared.Control.{Control}

-- the byte x begins a control that writes no text and concerns no macro: no character, SP, APR, SS2, SS3 or MACRO
pub record Begins (x : ℕ) : Type 0 where
  pub gl : is_gl x ≡ false
  pub gr : is_gr x ≡ false
  pub space : x ≡ SP → ⊥
  pub newline : x ≡ APR → ⊥
  pub ss2 : x ≡ SS2 → ⊥
  pub ss3 : x ≡ SS3 → ⊥
  pub macro : x ≡ MACRO → ⊥

-- the step of n bytes at a place of the input that a control is, by its effect
unfoldable pub step_of : Effect → ℕ → ℕ → ℕ → State → Step
unfolding invoke_gl invoke_gr designate resize repeat_by truncated issue unknown
step_of Nothing n place at s = took n s
step_of (Gl e) n place at s = took n (invoke_gl e s)
step_of (Gr e) n place at s = took n (invoke_gr e s)
step_of (Designates e x) n place at s = took n (designate e x s)
step_of (Narrow b) n place at s = took n (resize b s)
step_of (Repeat x) n place at s = took n (repeat_by x at s)
step_of Truncated n place at s = truncated n at s
step_of (Malformed code) n place at s = took n (issue at (MalformedControl code) s)
step_of UnknownEscape n place at s = unknown n place at s
step_of (Undefined code) n place at s = took n (issue at (UndefinedControl code) s)

-- the code element that it concerns, 0 where it concerns none
abbrev pub element_of : Effect → ℕ
element_of Nothing = 0
element_of (Gl e) = e
element_of (Gr e) = e
element_of (Designates e x) = e
element_of (Narrow b) = 0
element_of (Repeat x) = 0
element_of Truncated = 0
element_of (Malformed code) = 0
element_of UnknownEscape = 0
element_of (Undefined code) = 0

-- the count that it makes wait, 0 where it makes none wait
abbrev pub repeat_of : Effect → ℕ
repeat_of Nothing = 0
repeat_of (Gl e) = 0
repeat_of (Gr e) = 0
repeat_of (Designates e x) = 0
repeat_of (Narrow b) = 0
repeat_of (Repeat x) = x
repeat_of Truncated = 0
repeat_of (Malformed code) = 0
repeat_of UnknownEscape = 0
repeat_of (Undefined code) = 0

-- the code element is one of the four, and RPC's count has six bits
pub record Bounded (e : Effect) : Type 0 where
  pub element : element_of e < 4
  pub count : repeat_of e < 64

-- the step f, by its place and the offset to report, at the byte i of b is what was read there
pub record Reads (f : ℕ → ℕ → State → Step) (b : List ℕ) (i : ℕ) (c : Control) : Type 0 where
  pub says : (place at : ℕ) (s : State) → f place at s ≡ step_of c.effect c.used place at s
  pub some : 1 ≤ c.used
  pub within : i + c.used ≤ length b
  pub bounded : Bounded c.effect

-- Tables 7-1 and 7-2: an escape that changes the state as f says, and is unknown where it says none, has the effect e
pub record Means (f : State → Option State) (e : Effect) : Type 0 where
  pub says : (n place at : ℕ) (s : State) → applied_or (f s) n place at s ≡ step_of e n place at s
  pub bounded : Bounded e

-- what follows the first of two parameters: the second, which is used with it
unfoldable pub second : List ℕ → ℕ → State → Step
unfolding truncated
second [] at s = truncated 2 at s
second (p ∷ r) at s = took 3 s
