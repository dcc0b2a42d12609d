-- Every step, the steps of a body and a run go alike behind an earlier text and earlier issues. Assumes nothing.
use mathlib.Core.Path.{◌≡◌, refl, ap, ◌∙◌}
use mathlib.Core.Bool.{Bool, true, false, cond, ◌&&◌, ◌||◌}
use mathlib.Core.List.{List, [], ◌∷◌, ◌++◌}
use mathlib.Core.Option.{Option, none, some}
use Prim.Native.Nat.{ℕ, zero, suc, ◌+◌, ◌-◌, ◌*◌, ◌/◌, ◌%◌}
use lib.Dec.{eqb, ltb, leb}
use lib.ListN.{length, take, drop, get_or}
use Rattle.control.specs.Codes.{SP, APR, LS0, LS1, SS2, SS3, ESC, SSZ, MSZ, NSZ, SZX, COL, CDC, MACRO, RPC, CSI, TIME}
use Rattle.control.specs.Controls.{count_of}
use Rattle.sets.specs.Sets.{Designation, read_designation, bytes_per_char}
use Rattle.addsym.specs.Symbols.{symbol}
use Rattle.tables.specs.Kanji.{non_spacing, has_character, kanji_at}
use Rattle.issues.specs.Issue.{Issue}
use Rattle.issues.specs.declared.IssueKind.{IssueKind}
use Rattle.issues.specs.declared.IssueKind.TheVariants.{
  UnknownEscape,
  UndefinedControl,
  MalformedControl,
  Truncated,
  UndefinedCode,
  UnsupportedCode,
  Drcs,
  Mosaic,
  UndefinedMacro,
  MacroLimit,
  LoneSingleShift,
  RepeatToEndOfLine,
}
use Rattle.decode_output.specs.Output.{set_repeat}
use Rattle.reading.specs.State.{Given, State, Step, took, issue, truncated, writes, is_narrow, designate, invoke_gl, invoke_gr, resize, define, charge}
use Rattle.reading.specs.Controls.{
  leading,
  locking_shift,
  designated,
  applied,
  unknown,
  applied_or,
  escape_at,
  escape,
  szx,
  repeat_by,
  rpc,
  colour,
  ended,
  sequence_from,
  csi,
  time,
  fixed_of,
  fixed,
}
use Rattle.reading.specs.Macros.{Run, builtin, limit, run_body, run_macro, end_of, defined, definition, macro_cmd}
use Rattle.reading.specs.Characters.{is_gl, is_gr, is_graphic, emit_or, cell_or, char2, letter, mosaic, char1, graphic2, graphic_of, graphic, single_shift}
use Rattle.reading.specs.Steps.{space, control0, control1, step, offset, steps, run}
use Rattle.laws_behind.specs.Behind.{behind, RunsAlike}
use Rattle.laws_behind.proofs.Written.{Alike, StepAlike, then, emits, marked, repeats, newlines, issued, placed, takes}

-- two values that one test chooses
alike : {A : Type 0} (P : A → A → Type 0) (t : Bool) {a b c d : A} → P a b → P c d → P (cond t a c) (cond t b d)
alike P true x y = x
alike P false x y = y

module _ (text : List ℕ) (issues : List Issue) where
  -- a state behind them, and what is to be shown of a state and of a step
  abbrev later : State → State
  later s = writes (behind text issues) s

  abbrev To : State → State → Type 0
  To s t = Alike text issues s t

  abbrev StepTo : Step → Step → Type 0
  StepTo w v = StepAlike text issues w v

  same : (s : State) → To s (later s)
  same s = record { same = refl }

  -- ---- controls

  module _ (s : State) where
    cut : (n at : ℕ) → StepTo (truncated n at s) (truncated n at (later s))
    unfolding truncated
    cut n at = takes text issues n (issued text issues s at Truncated)

    tells : (n at : ℕ) (kind : IssueKind) → StepTo (took n (issue at kind s)) (took n (issue at kind (later s)))
    tells n at kind = takes text issues n (issued text issues s at kind)

    passes : (n : ℕ) → StepTo (took n s) (took n (later s))
    passes n = takes text issues n (same s)

    sized : (b : Bool) → To (resize b s) (resize b (later s))
    unfolding resize writes
    sized b = record { same = refl }

    invoked_left : (n : ℕ) → To (invoke_gl n s) (invoke_gl n (later s))
    unfolding invoke_gl writes
    invoked_left n = record { same = refl }

    invoked_right : (n : ℕ) → To (invoke_gr n s) (invoke_gr n (later s))
    unfolding invoke_gr writes
    invoked_right n = record { same = refl }

    designates : (element number : ℕ) → To (designate element number s) (designate element number (later s))
    unfolding designate writes
    designates element number = record { same = refl }

    szx_to : (rest : List ℕ) (at : ℕ) → StepTo (szx rest at s) (szx rest at (later s))
    unfolding szx
    szx_to [] at = cut 1 at
    szx_to (p ∷ r) at = takes text issues 2 (sized (eqb p 0x60))

    repeat_to : (n at : ℕ) → To (repeat_by n at s) (repeat_by n at (later s))
    unfolding repeat_by
    repeat_to zero at = then text issues (writes (set_repeat 0)) (issued text issues s at RepeatToEndOfLine) (repeats text issues (issue at RepeatToEndOfLine s) 0)
    repeat_to (suc n) at = repeats text issues s (suc n)

    rpc_to : (rest : List ℕ) (at : ℕ) → StepTo (rpc rest at s) (rpc rest at (later s))
    unfolding rpc
    rpc_to [] at = cut 1 at
    rpc_to (p ∷ r) at = takes text issues 2 (repeat_to (p % 64) at)

    colour_to : (rest : List ℕ) (at : ℕ) → StepTo (colour rest at s) (colour rest at (later s))
    unfolding colour
    colour_to [] at = cut 1 at
    colour_to (p ∷ []) at = alike StepTo (eqb p 0x20) (cut 2 at) (passes 2)
    colour_to (p ∷ (q ∷ r)) at = alike StepTo (eqb p 0x20) (passes 3) (passes 2)

    ended_to : (strict : Bool) (code n : ℕ) (rest : List ℕ) (at : ℕ) → StepTo (ended strict code n rest at s) (ended strict code n rest at (later s))
    unfolding ended
    ended_to strict code n [] at = cut n at
    ended_to strict code n (f ∷ r) at =
        alike StepTo (leb 0x40 f && leb f 0x7E) (passes (n + 1)) (alike StepTo strict (tells n at (MalformedControl code)) (passes n))

    sequence_to : (strict : Bool) (code n : ℕ) (rest : List ℕ) (at : ℕ) → StepTo (sequence_from strict code n rest at s) (sequence_from strict code n rest at (later s))
    unfolding sequence_from
    sequence_to strict code n rest at = ended_to strict code (n + leading 0x20 0x3F rest) (drop (leading 0x20 0x3F rest) rest) at

    csi_to : (rest : List ℕ) (at : ℕ) → StepTo (csi rest at s) (csi rest at (later s))
    unfolding csi
    csi_to rest at = sequence_to true CSI 1 rest at

    time_to : (rest : List ℕ) (at : ℕ) → StepTo (time rest at s) (time rest at (later s))
    unfolding time
    time_to [] at = cut 1 at
    time_to (p ∷ r) at =
        alike StepTo (eqb p 0x20 || eqb p 0x28) (alike StepTo (eqb (length r) 0) (cut 2 at) (passes 3))
        (alike StepTo (eqb p 0x29) (sequence_to false TIME 2 r at) (tells 2 at (MalformedControl TIME)))

    fixed_of_lem : (o : Option ℕ) (x : ℕ) (rest : List ℕ) (at : ℕ) → StepTo (fixed_of o x rest at s) (fixed_of o x rest at (later s))
    unfolding fixed_of
    fixed_of_lem none x rest at = tells 1 at (UndefinedControl x)
    fixed_of_lem (some n) x rest at = alike StepTo (leb n (length rest)) (passes (n + 1)) (cut (length rest + 1) at)

    fixed_to : (x : ℕ) (rest : List ℕ) (at : ℕ) → StepTo (fixed x rest at s) (fixed x rest at (later s))
    unfolding fixed
    fixed_to x rest at = fixed_of_lem (count_of x) x rest at

    -- ---- escapes

    unknown_to : (n place at : ℕ) → StepTo (unknown n place at s) (unknown n place at (later s))
    unfolding unknown
    unknown_to n place at = tells n at (UnknownEscape place n)

    module _ (n place at : ℕ) where
      -- what the bytes of an escape do, here and there
      abbrev KnownTo : Option State → Option State → Type 0
      KnownTo o p = StepTo (applied_or o n place at s) (applied_or p n place at (later s))

      none_to : KnownTo none none
      unfolding applied_or
      none_to = unknown_to n place at

      some_to : {t u : State} → To t u → KnownTo (some t) (some u)
      unfolding applied_or
      some_to h = takes text issues n h

      locked_to : (f : ℕ) → KnownTo (locking_shift f s) (locking_shift f (later s))
      unfolding locking_shift
      locked_to f =
          alike KnownTo (eqb f 0x6E) (some_to (invoked_left 2))
          (alike KnownTo (eqb f 0x6F) (some_to (invoked_left 3))
          (alike KnownTo (eqb f 0x7E) (some_to (invoked_right 1))
          (alike KnownTo (eqb f 0x7D) (some_to (invoked_right 2))
          (alike KnownTo (eqb f 0x7C) (some_to (invoked_right 3)) none_to))))

      designated_to : (d : Option Designation) → KnownTo (designated d s) (designated d (later s))
      unfolding designated
      designated_to none = none_to
      designated_to (some d) = some_to (designates d.element d.set)

      applied_to : (bs : List ℕ) → KnownTo (applied bs s) (applied bs (later s))
      unfolding applied
      applied_to [] = none_to
      applied_to (f ∷ []) = locked_to f
      applied_to (a ∷ (b ∷ r)) = designated_to (read_designation (a ∷ (b ∷ r)))

    escape_at_lem : (inter rest : List ℕ) (place at : ℕ) → StepTo (escape_at inter rest place at s) (escape_at inter rest place at (later s))
    unfolding escape_at
    escape_at_lem inter [] place at = cut (length inter + 1) at
    escape_at_lem inter (f ∷ r) place at =
        alike StepTo (leb 0x30 f && leb f 0x7E) (applied_to (length inter + 2) place at (inter ++ (f ∷ []))) (unknown_to (length inter + 1) place at)

    escape_to : (rest : List ℕ) (place at : ℕ) → StepTo (escape rest place at s) (escape rest place at (later s))
    unfolding escape
    escape_to rest place at = escape_at_lem (take (leading 0x20 0x2F rest) rest) (drop (leading 0x20 0x2F rest) rest) place at

    -- ---- characters

    emit_or_lem : (kind : IssueKind) (c at : ℕ) → To (emit_or kind c at s) (emit_or kind c at (later s))
    unfolding emit_or
    emit_or_lem kind zero at = placed text issues s at kind
    emit_or_lem kind (suc c) at = emits text issues s (suc c)

    cell_or_lem : (kind : IssueKind) (c at : ℕ) → To (cell_or kind c at s) (cell_or kind c at (later s))
    unfolding cell_or
    cell_or_lem kind c at = alike To (has_character non_spacing c) (marked text issues s c at) (emit_or_lem kind c at)

    mosaic_to : (number c at : ℕ) → To (mosaic number c at s) (mosaic number c at (later s))
    unfolding mosaic
    mosaic_to number c at = then text issues (writes (set_repeat 0)) (issued text issues s at (Mosaic number c)) (repeats text issues (issue at (Mosaic number c) s) 0)

    space_to : (g : Given) → To (space g s) (space g (later s))
    unfolding space
    space_to g = emits text issues s (cond (is_narrow g s) 0x20 0x3000)

    char2_to : (g : Given) (number a b at : ℕ) → To (char2 g number a b at s) (char2 g number a b at (later s))
    unfolding char2
    char2_to g number a b at =
        let code = a * 256 + b in
        let row = a - 0x20 in
        let cell = b - 0x20 in
        alike To (eqb number 0) (cell_or_lem (UndefinedCode number code) (kanji_at g.cells row cell) at)
        (alike To (eqb number 14) (cell_or_lem (UndefinedCode number code) (symbol row cell) at)
        (alike To (eqb number 12 && leb row 84) (cell_or_lem (UnsupportedCode number code) (kanji_at g.cells row cell) at)
        (alike To (eqb number 16) (placed text issues s at (Drcs 0 code)) (placed text issues s at (UnsupportedCode number code)))))

    graphic2_to : (g : Given) (number x : ℕ) (rest : List ℕ) (at : ℕ) → StepTo (graphic2 g number x rest at s) (graphic2 g number x rest at (later s))
    unfolding graphic2
    graphic2_to g number x [] at = cut 1 at
    graphic2_to g number x (y ∷ r) at =
        alike StepTo (is_graphic y && eqb (x / 128) (y / 128)) (takes text issues 2 (char2_to g number (x % 128) (y % 128) at)) (cut 1 at)

  -- ---- macros

  module _ (g : Given) (left : ℕ) (R : Run) (runs : RunsAlike R) where
    body_to : (body : List ℕ) (base at : ℕ) (s : State) → To (run_body g left R body base at s) (run_body g left R body base at (later s))
    unfolding run_body charge
    body_to body base at s =
        alike To (eqb left 0 || ltb (limit g.input) (s.charged + length body)) (issued text issues s at MacroLimit)
        (record { same = runs text issues body base (suc at) (charge (length body) s) })

    macro_to : (code at : ℕ) (s : State) → To (run_macro g left R code at s) (run_macro g left R code at (later s))
    unfolding run_macro
    macro_to code at s =
        alike To (eqb (get_or s.starts code 0) 0)
        (alike To (leb 0x60 code && leb code 0x6F) (body_to (builtin code) 0 at s) (issued text issues s at (UndefinedMacro code)))
        (body_to (take (get_or s.lens code 0) (drop (get_or s.starts code 0) g.input)) (get_or s.starts code 0) at s)

    defines : (code place n : ℕ) (s : State) → To (define code place n s) (define code place n (later s))
    unfolding define writes
    defines code place n s = record { same = refl }

    defined_to : (p code n place at : ℕ) (s : State) → StepTo (defined g left R p code n place at s) (defined g left R p code n place at (later s))
    unfolding defined
    defined_to p code n place at s =
        let d = defines code (place + 3) n s in
        alike StepTo (eqb p 0x41) (takes text issues (n + 5) (then text issues (run_macro g left R code at) d (macro_to code at (define code (place + 3) n s))))
        (takes text issues (n + 5) d)

    definition_to : (p : ℕ) (r : List ℕ) (place at : ℕ) (s : State) → StepTo (definition g left R p r place at s) (definition g left R p r place at (later s))
    unfolding definition
    definition_to p [] place at s = cut s 2 at
    definition_to p (mc ∷ r) place at s = alike StepTo (ltb (end_of r) (length r)) (defined_to p (mc % 128) (end_of r) place at s) (cut s (length r + 3) at)

    command_to : (rest : List ℕ) (place at : ℕ) (s : State) → StepTo (macro_cmd g left R rest place at s) (macro_cmd g left R rest place at (later s))
    unfolding macro_cmd
    command_to [] place at s = cut s 1 at
    command_to (p ∷ r) place at s =
        alike StepTo (eqb p 0x4F) (passes s 2)
        (alike StepTo (eqb p 0x40 || eqb p 0x41) (definition_to p r place at s) (tells s 2 at (MalformedControl MACRO)))

    char1_to : (number c at : ℕ) (s : State) → To (char1 g left R number c at s) (char1 g left R number c at (later s))
    unfolding char1
    char1_to number c at s =
        alike To (eqb number 15) (macro_to c at s)
        (alike To (leb 4 number && leb number 7) (mosaic_to s number c at)
        (alike To (leb 17 number) (placed text issues s at (Drcs (number - 16) c)) (emit_or_lem s (UndefinedCode number c) (letter (is_narrow g s) number c) at)))

    graphic_to : (element x : ℕ) (rest : List ℕ) (at : ℕ) (s : State) → StepTo (graphic g left R element x rest at s) (graphic g left R element x rest at (later s))
    unfolding graphic graphic_of
    graphic_to element x rest at s =
        let number = get_or s.sets element 0 in
        alike StepTo (eqb (bytes_per_char number) 2) (graphic2_to s g number x rest at) (takes text issues 1 (char1_to number (x % 128) at s))

    -- a shift before a character
    shifted : {w v : Step} → StepTo w v → StepTo (took (suc w.used) w.to) (took (suc v.used) v.to)
    shifted h = record { same = ap (λ (v : Step). took (suc v.used) v.to) h.same }

    shift_to : (element : ℕ) (rest : List ℕ) (at : ℕ) (s : State) → StepTo (single_shift g left R element rest at s) (single_shift g left R element rest at (later s))
    unfolding single_shift
    shift_to element [] at s = cut s 1 at
    shift_to element (y ∷ r) at s = alike StepTo (is_graphic y) (shifted (graphic_to element y r at s)) (tells s 1 at LoneSingleShift)

    -- ---- a step, the steps of a body, and a run

    control0_to : (x : ℕ) (rest : List ℕ) (place at : ℕ) (s : State) → StepTo (control0 g left R x rest place at s) (control0 g left R x rest place at (later s))
    unfolding control0
    control0_to x rest place at s =
        alike StepTo (eqb x SP) (takes text issues 1 (space_to s g))
        (alike StepTo (eqb x LS0) (takes text issues 1 (invoked_left s 0))
        (alike StepTo (eqb x LS1) (takes text issues 1 (invoked_left s 1))
        (alike StepTo (eqb x SS2) (shift_to 2 rest at s)
        (alike StepTo (eqb x SS3) (shift_to 3 rest at s)
        (alike StepTo (eqb x ESC) (escape_to s rest place at)
        (alike StepTo (eqb x APR) (takes text issues 1 (newlines text issues s))
        (fixed_to s x rest at)))))))

    control1_to : (x : ℕ) (rest : List ℕ) (place at : ℕ) (s : State) → StepTo (control1 g left R x rest place at s) (control1 g left R x rest place at (later s))
    unfolding control1
    control1_to x rest place at s =
        alike StepTo (eqb x SSZ || eqb x MSZ) (takes text issues 1 (sized s true))
        (alike StepTo (eqb x NSZ) (takes text issues 1 (sized s false))
        (alike StepTo (eqb x SZX) (szx_to s rest at)
        (alike StepTo (eqb x RPC) (rpc_to s rest at)
        (alike StepTo (eqb x COL || eqb x CDC) (colour_to s rest at)
        (alike StepTo (eqb x TIME) (time_to s rest at)
        (alike StepTo (eqb x CSI) (csi_to s rest at)
        (alike StepTo (eqb x MACRO) (command_to rest place at s)
        (fixed_to s x rest at))))))))

    pub step_alike : (x : ℕ) (rest : List ℕ) (place at : ℕ) (s : State) → StepTo (step g left R x rest place at s) (step g left R x rest place at (later s))
    unfolding step
    step_alike x rest place at s =
        alike StepTo (is_gl x) (graphic_to s.gl x rest at s)
        (alike StepTo (is_gr x) (graphic_to s.gr x rest at s)
        (alike StepTo (ltb x 0x80) (control0_to x rest place at s) (control1_to x rest place at s)))

    pub steps_alike : (base origin : ℕ) (b : List ℕ) (i k : ℕ) (s : State) → steps g left R base origin b i k (later s) ≡ later (steps g left R base origin b i k s)
    unfolding steps
    steps_alike base origin [] i k s = refl
    steps_alike base origin (x ∷ xs) i zero s =
        let w = step g left R x xs (base + i) (offset origin i) s in
        ap (λ (v : Step). steps g left R base origin xs (i + 1) (v.used - 1) v.to) (step_alike x xs (base + i) (offset origin i) s).same
        ∙ steps_alike base origin xs (i + 1) (w.used - 1) w.to
    steps_alike base origin (x ∷ xs) i (suc k) s = steps_alike base origin xs (i + 1) k s

pub run_alike : (g : Given) (left : ℕ) → RunsAlike (run g left)
unfolding run
run_alike g zero text issues b base origin s =
    steps_alike text issues g zero (λ b₁ base₁ origin₁ s₁. s₁) (λ text₁ issues₁ b₁ base₁ origin₁ s₁. refl) base origin b 0 0 s
run_alike g (suc left) text issues b base origin s = steps_alike text issues g (suc left) (run g left) (run_alike g left) base origin b 0 0 s
