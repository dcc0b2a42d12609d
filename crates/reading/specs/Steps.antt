-- One step, the run to the end, and decoding: decode.rs, `run` and `decode_with`.
use Rattle.std.specs.Prelude.{ℕ, zero, suc, ◌+◌, ◌-◌, true, false, cond, ◌||◌, List, [], ◌∷◌, eqb, ltb}
use Rattle.control.specs.Codes.{SP, APR, LS0, LS1, SS2, SS3, ESC, SSZ, MSZ, NSZ, SZX, COL, CDC, MACRO, RPC, CSI, TIME}
use Rattle.decode_output.specs.Output.{emit, newline, release}
use Rattle.reading.specs.State.{Given, State, Step, took, start, writes, resize, invoke_gl, is_narrow}
use Rattle.reading.specs.Characters.{is_gl, is_gr, graphic, single_shift}
use Rattle.reading.specs.Controls.{escape, szx, rpc, colour, csi, time, fixed}
use Rattle.reading.specs.Macros.{Run, macro_cmd}

-- "SP is U+0020 when narrow, else U+3000"
unfoldable pub space : Given → State → State
unfolding is_narrow writes emit
space g s = writes (emit (cond (is_narrow g s) 0x20 0x3000)) s

-- a code below 80 outside GL
unfoldable pub control0 : Given → ℕ → Run → ℕ → List ℕ → ℕ → ℕ → State → Step
unfolding space invoke_gl single_shift escape writes newline fixed
control0 g left R x rest place at s =
    cond (eqb x SP) (took 1 (space g s))
    (cond (eqb x LS0) (took 1 (invoke_gl 0 s))
    (cond (eqb x LS1) (took 1 (invoke_gl 1 s))
    (cond (eqb x SS2) (single_shift g left R 2 rest at s)
    (cond (eqb x SS3) (single_shift g left R 3 rest at s)
    (cond (eqb x ESC) (escape rest place at s)
    (cond (eqb x APR) (took 1 (writes newline s))
    (fixed x rest at s)))))))

-- a code from 80 on outside GR
unfoldable pub control1 : Given → ℕ → Run → ℕ → List ℕ → ℕ → ℕ → State → Step
unfolding resize szx rpc colour time csi macro_cmd fixed
control1 g left R x rest place at s =
    cond (eqb x SSZ || eqb x MSZ) (took 1 (resize true s))
    (cond (eqb x NSZ) (took 1 (resize false s))
    (cond (eqb x SZX) (szx rest at s)
    (cond (eqb x RPC) (rpc rest at s)
    (cond (eqb x COL || eqb x CDC) (colour rest at s)
    (cond (eqb x TIME) (time rest at s)
    (cond (eqb x CSI) (csi rest at s)
    (cond (eqb x MACRO) (macro_cmd g left R rest place at s)
    (fixed x rest at s))))))))

-- "One step is chosen by its first byte and takes that byte with its parameters": the byte x, at a place of the input, and what follows it
unfoldable pub step : Given → ℕ → Run → ℕ → List ℕ → ℕ → ℕ → State → Step
unfolding is_gl is_gr graphic control0 control1
step g left R x rest place at s =
    cond (is_gl x) (graphic g left R s.gl x rest at s)
    (cond (is_gr x) (graphic g left R s.gr x rest at s)
    (cond (ltb x 0x80) (control0 g left R x rest place at s) (control1 g left R x rest place at s)))

-- the offset to report: a byte's own (origin 0), or "Inside a body every issue carries the outermost caller's offset" (that + 1)
unfoldable pub offset : ℕ → ℕ → ℕ
offset zero i = i
offset (suc at) i = at

-- The steps of a body, or of the input as the outermost one. In the order of the arguments: what the reading is given; how many more bodies may be
-- opened; how one is run (`R`); the body's place in the input; the origin of `offset`; the bytes from the i-th on; i; how many of them the last step
-- took, which are passed over (`k`); the state.
unfoldable pub steps : Given → ℕ → Run → ℕ → ℕ → List ℕ → ℕ → ℕ → State → State
unfolding step offset
steps g left R base origin [] i k s = s
steps g left R base origin (x ∷ xs) i zero s =
    let w = step g left R x xs (base + i) (offset origin i) s in
    steps g left R base origin xs (i + 1) (w.used - 1) w.to
steps g left R base origin (x ∷ xs) i (suc k) s = steps g left R base origin xs (i + 1) k s

-- a body at a place of the input, inside which `left` more may be opened
unfoldable pub run : Given → ℕ → Run
unfolding steps
run g zero b base origin s = steps g zero (λ b₁ base₁ origin₁ s₁. s₁) base origin b 0 0 s
run g (suc left) b base origin s = steps g (suc left) (run g left) base origin b 0 0 s

-- decoding: the start state, stepped to the end of the input, then the release of the marks
unfoldable pub decode : Given → ℕ → State
unfolding run start writes release
decode g initial = writes release (run g 4 g.input 0 0 (start initial))
