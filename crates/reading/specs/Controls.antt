-- Controls and escapes that concern no macro: decode.rs, `run`, `escape`, `time`, `sequence_end` and `csi`.
use Rattle.std.specs.Prelude.{ℕ, zero, suc, ◌+◌, ◌%◌, Bool, true, false, cond, ◌&&◌, ◌||◌, List, [], ◌∷◌, ◌++◌, eqb, leb, length, take, drop}
use Rattle.std.proofs.Math.Option.{Option, none, some}
use Rattle.sets.specs.Sets.{Designation, read_designation}
use Rattle.control.specs.Codes.{CSI, TIME}
use Rattle.control.specs.Controls.{count_of}
use Rattle.issues.specs.declared.IssueKind.TheVariants.{UnknownEscape, UndefinedControl, MalformedControl, RepeatToEndOfLine}
use Rattle.decode_output.specs.Output.{set_repeat}
use Rattle.reading.specs.State.{State, Step, took, issue, truncated, writes, designate, invoke_gl, invoke_gr, resize}

-- how many bytes at the head lie from low to high
unfoldable pub leading : ℕ → ℕ → List ℕ → ℕ
leading low high [] = 0
leading low high (x ∷ xs) = cond (leb low x && leb x high) (suc (leading low high xs)) 0

-- the locking shifts of Table 7-1 that begin with ESC, by the byte after it
unfoldable pub locking_shift : ℕ → State → Option State
unfolding invoke_gl invoke_gr
locking_shift f s =
    cond (eqb f 0x6E) (some (invoke_gl 2 s))
    (cond (eqb f 0x6F) (some (invoke_gl 3 s))
    (cond (eqb f 0x7E) (some (invoke_gr 1 s))
    (cond (eqb f 0x7D) (some (invoke_gr 2 s))
    (cond (eqb f 0x7C) (some (invoke_gr 3 s)) none))))

unfoldable pub designated : Option Designation → State → Option State
unfolding designate
designated none s = none
designated (some d) s = some (designate d.element d.set s)

-- what the bytes after ESC, the final byte among them, do; none where Tables 7-1 to 7-3 do not list them
unfoldable pub applied : List ℕ → State → Option State
unfolding locking_shift designated read_designation
applied [] s = none
applied (f ∷ []) s = locking_shift f s
applied (a ∷ (b ∷ r)) s = designated (read_designation (a ∷ (b ∷ r))) s

-- UnknownEscape, whose n bytes start at a place of the input
unfoldable pub unknown : ℕ → ℕ → ℕ → State → Step
unfolding issue
unknown n place at s = took n (issue at (UnknownEscape place n) s)

unfoldable pub applied_or : Option State → ℕ → ℕ → ℕ → State → Step
unfolding unknown
applied_or none n place at s = unknown n place at s
applied_or (some r) n place at s = took n r

-- ESC with k intermediates (02/0 to 02/15), and what follows them
unfoldable pub escape_at : List ℕ → List ℕ → ℕ → ℕ → State → Step
unfolding truncated applied_or applied unknown
escape_at inter [] place at s = truncated (length inter + 1) at s
escape_at inter (f ∷ r) place at s =
    cond (leb 0x30 f && leb f 0x7E)
    (applied_or (applied (inter ++ (f ∷ [])) s) (length inter + 2) place at s)
    (unknown (length inter + 1) place at s)

-- the bytes after ESC, which stands at a place of the input
unfoldable pub escape : List ℕ → ℕ → ℕ → State → Step
unfolding escape_at leading
escape rest place at s = escape_at (take (leading 0x20 0x2F rest) rest) (drop (leading 0x20 0x2F rest) rest) place at s

-- SZX p
unfoldable pub szx : List ℕ → ℕ → State → Step
unfolding truncated resize
szx [] at s = truncated 1 at s
szx (p ∷ r) at s = took 2 (resize (eqb p 0x60) s)

-- "RPC's low six bits give the count"; "Count 0 reports RepeatToEndOfLine and clears it"
unfoldable pub repeat_by : ℕ → ℕ → State → State
unfolding writes set_repeat issue
repeat_by zero at s = writes (set_repeat 0) (issue at RepeatToEndOfLine s)
repeat_by (suc n) at s = writes (set_repeat (suc n)) s

unfoldable pub rpc : List ℕ → ℕ → State → Step
unfolding truncated repeat_by
rpc [] at s = truncated 1 at s
rpc (p ∷ r) at s = took 2 (repeat_by (p % 64) at s)

-- COL and CDC: a parameter, or 20 and a parameter
unfoldable pub colour : List ℕ → ℕ → State → Step
unfolding truncated
colour [] at s = truncated 1 at s
colour (p ∷ []) at s = cond (eqb p 0x20) (truncated 2 at s) (took 2 s)
colour (p ∷ (q ∷ r)) at s = cond (eqb p 0x20) (took 3 s) (took 2 s)

-- "sequence_end": parameters and intermediates from 20 to 3F, then a final byte from 40 to 7E, which is used; another byte is not
-- used. `n` bytes stand before the parameters, and an issue is reported at another byte if `strict`.
unfoldable pub ended : Bool → ℕ → ℕ → List ℕ → ℕ → State → Step
unfolding truncated issue
ended strict code n [] at s = truncated n at s
ended strict code n (f ∷ r) at s =
    cond (leb 0x40 f && leb f 0x7E) (took (n + 1) s)
    (cond strict (took n (issue at (MalformedControl code) s)) (took n s))

unfoldable pub sequence_from : Bool → ℕ → ℕ → List ℕ → ℕ → State → Step
unfolding ended leading
sequence_from strict code n rest at s = ended strict code (n + leading 0x20 0x3F rest) (drop (leading 0x20 0x3F rest) rest) at s

-- CSI, Table 7-17
unfoldable pub csi : List ℕ → ℕ → State → Step
unfolding sequence_from
csi rest at s = sequence_from true CSI 1 rest at s

-- TIME, Table 7-16: 20 or 28 and a parameter, or 29 and a sequence
unfoldable pub time : List ℕ → ℕ → State → Step
unfolding truncated sequence_from issue
time [] at s = truncated 1 at s
time (p ∷ r) at s =
    cond (eqb p 0x20 || eqb p 0x28) (cond (eqb (length r) 0) (truncated 2 at s) (took 3 s))
    (cond (eqb p 0x29) (sequence_from false TIME 2 r at s) (took 2 (issue at (MalformedControl TIME) s)))

-- a control with a fixed number of parameters, or none in the tables
unfoldable pub fixed_of : Option ℕ → ℕ → List ℕ → ℕ → State → Step
unfolding truncated issue
fixed_of none x rest at s = took 1 (issue at (UndefinedControl x) s)
fixed_of (some n) x rest at s = cond (leb n (length rest)) (took (n + 1) s) (truncated (length rest + 1) at s)

unfoldable pub fixed : ℕ → List ℕ → ℕ → State → Step
unfolding fixed_of count_of
fixed x rest at s = fixed_of (count_of x) x rest at s
