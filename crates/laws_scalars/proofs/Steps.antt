-- Every step keeps to scalars. Assumes nothing.
use mathlib.Core.Bool.{Bool, true, false, cond, ◌&&◌, ◌||◌}
use mathlib.Core.List.{List, [], ◌∷◌, ◌++◌}
use mathlib.Core.Option.{Option, none, some}
use Prim.Native.Nat.{ℕ, zero, suc, ◌+◌, ◌-◌, ◌*◌, ◌/◌, ◌%◌}
use lib.Dec.{T, eqb, ltb, leb}
use lib.ListN.{length, take, drop, get_or}
use Rattle.sets.specs.Sets.{Designation, read_designation, bytes_per_char}
use Rattle.control.specs.Controls.{count_of}
use Rattle.utf8.specs.Utf8.{is_scalar}
use Rattle.addsym.specs.Symbols.{symbol}
use Rattle.tables.specs.Kanji.{non_spacing, has_character, kanji_at}
use Rattle.issues.specs.declared.IssueKind.{IssueKind}
use Rattle.issues.specs.declared.IssueKind.TheVariants.{
  UnknownEscape,
  UndefinedControl,
  MalformedControl,
  Truncated,
  UndefinedCode,
  UnsupportedCode,
  Drcs,
  Mosaic,
  UndefinedMacro,
  MacroLimit,
  LoneSingleShift,
  RepeatToEndOfLine,
}
use Rattle.decode_output.specs.Output.{emit}
use Rattle.reading.specs.State.{Given, State, Step, issue, truncated, writes, is_narrow, designate, invoke_gl, invoke_gr, resize, define, charge}
use Rattle.reading.specs.Controls.{
  leading,
  locking_shift,
  designated,
  applied,
  unknown,
  applied_or,
  escape_at,
  escape,
  szx,
  repeat_by,
  rpc,
  colour,
  ended,
  sequence_from,
  csi,
  time,
  fixed_of,
  fixed,
}
use Rattle.reading.specs.Macros.{Run, builtin, limit, run_body, run_macro, end_of, defined, definition, macro_cmd}
use Rattle.reading.specs.Characters.{is_gl, is_gr, is_graphic, emit_or, cell_or, char2, letter, mosaic, char1, graphic2, graphic_of, graphic, single_shift}
use Rattle.reading.specs.Steps.{space, control0, control1, step, offset, steps, run}
use Rattle.laws_scalars.specs.Scalars.{Table}
use Rattle.laws_scalars.proofs.Characters.{either, letter_scalar, symbol_is, kanji_is}
use Rattle.laws_scalars.proofs.Written.{OfScalars, emits, marked, issued, repeats, placed, newlines}

-- a step leads to what is of scalars
abbrev To : Step → Type 0
To w = OfScalars w.to

-- ---- controls

module _ (s : State) (k : OfScalars s) where
  cut : (n at : ℕ) → To (truncated n at s)
  unfolding truncated
  cut n at = issued s k at Truncated

  sized : (b : Bool) → OfScalars (resize b s)
  unfolding resize
  sized b = record { text = k.text; marks = k.marks }

  invoked_left : (n : ℕ) → OfScalars (invoke_gl n s)
  unfolding invoke_gl
  invoked_left n = record { text = k.text; marks = k.marks }

  invoked_right : (n : ℕ) → OfScalars (invoke_gr n s)
  unfolding invoke_gr
  invoked_right n = record { text = k.text; marks = k.marks }

  szx_to : (rest : List ℕ) (at : ℕ) → To (szx rest at s)
  unfolding szx
  szx_to [] at = cut 1 at
  szx_to (p ∷ r) at = sized (eqb p 0x60)

  repeat_to : (n at : ℕ) → OfScalars (repeat_by n at s)
  unfolding repeat_by
  repeat_to zero at = repeats (issue at RepeatToEndOfLine s) (issued s k at RepeatToEndOfLine) 0
  repeat_to (suc n) at = repeats s k (suc n)

  rpc_to : (rest : List ℕ) (at : ℕ) → To (rpc rest at s)
  unfolding rpc
  rpc_to [] at = cut 1 at
  rpc_to (p ∷ r) at = repeat_to (p % 64) at

  colour_to : (rest : List ℕ) (at : ℕ) → To (colour rest at s)
  unfolding colour
  colour_to [] at = cut 1 at
  colour_to (p ∷ []) at = either To (eqb p 0x20) (cut 2 at) k
  colour_to (p ∷ (q ∷ r)) at = either To (eqb p 0x20) k k

  ended_to : (strict : Bool) (code n : ℕ) (rest : List ℕ) (at : ℕ) → To (ended strict code n rest at s)
  unfolding ended
  ended_to strict code n [] at = cut n at
  ended_to strict code n (f ∷ r) at = either To (leb 0x40 f && leb f 0x7E) k (either To strict (issued s k at (MalformedControl code)) k)

  sequence_to : (strict : Bool) (code n : ℕ) (rest : List ℕ) (at : ℕ) → To (sequence_from strict code n rest at s)
  unfolding sequence_from
  sequence_to strict code n rest at = ended_to strict code (n + leading 0x20 0x3F rest) (drop (leading 0x20 0x3F rest) rest) at

  csi_to : (rest : List ℕ) (at : ℕ) → To (csi rest at s)
  unfolding csi
  csi_to rest at = sequence_to true 0x9B 1 rest at

  time_to : (rest : List ℕ) (at : ℕ) → To (time rest at s)
  unfolding time
  time_to [] at = cut 1 at
  time_to (p ∷ r) at =
      either To (eqb p 0x20 || eqb p 0x28) (either To (eqb (length r) 0) (cut 2 at) k)
      (either To (eqb p 0x29) (sequence_to false 0x9D 2 r at) (issued s k at (MalformedControl 0x9D)))

  fixed_of_lem : (o : Option ℕ) (x : ℕ) (rest : List ℕ) (at : ℕ) → To (fixed_of o x rest at s)
  unfolding fixed_of
  fixed_of_lem none x rest at = issued s k at (UndefinedControl x)
  fixed_of_lem (some n) x rest at = either To (leb n (length rest)) k (cut (length rest + 1) at)

  fixed_to : (x : ℕ) (rest : List ℕ) (at : ℕ) → To (fixed x rest at s)
  unfolding fixed
  fixed_to x rest at = fixed_of_lem (count_of x) x rest at

  -- ---- escapes

  abbrev Known : Option State → Type 0
  Known none = Unit {0}
  Known (some t) = OfScalars t

  shift_known : (f : ℕ) → Known (locking_shift f s)
  unfolding locking_shift
  shift_known f =
      either Known (eqb f 0x6E) (invoked_left 2)
      (either Known (eqb f 0x6F) (invoked_left 3)
      (either Known (eqb f 0x7E) (invoked_right 1)
      (either Known (eqb f 0x7D) (invoked_right 2)
      (either Known (eqb f 0x7C) (invoked_right 3) tt))))

  designated_known : (d : Option Designation) → Known (designated d s)
  unfolding designated designate
  designated_known none = tt
  designated_known (some d) = record { text = k.text; marks = k.marks }

  applied_known : (bs : List ℕ) → Known (applied bs s)
  unfolding applied
  applied_known [] = tt
  applied_known (f ∷ []) = shift_known f
  applied_known (a ∷ (b ∷ r)) = designated_known (read_designation (a ∷ (b ∷ r)))

  unknown_to : (n place at : ℕ) → To (unknown n place at s)
  unfolding unknown
  unknown_to n place at = issued s k at (UnknownEscape place n)

  applied_or_lem : (o : Option State) → Known o → (n place at : ℕ) → To (applied_or o n place at s)
  unfolding applied_or
  applied_or_lem none h n place at = unknown_to n place at
  applied_or_lem (some t) h n place at = h

  escape_at_lem : (inter rest : List ℕ) (place at : ℕ) → To (escape_at inter rest place at s)
  unfolding escape_at
  escape_at_lem inter [] place at = cut (length inter + 1) at
  escape_at_lem inter (f ∷ r) place at =
      either To (leb 0x30 f && leb f 0x7E) (applied_or_lem (applied (inter ++ (f ∷ [])) s) (applied_known (inter ++ (f ∷ []))) (length inter + 2) place at)
      (unknown_to (length inter + 1) place at)

  escape_to : (rest : List ℕ) (place at : ℕ) → To (escape rest place at s)
  unfolding escape
  escape_to rest place at = escape_at_lem (take (leading 0x20 0x2F rest) rest) (drop (leading 0x20 0x2F rest) rest) place at

  -- ---- characters

  emit_or_lem : (kind : IssueKind) (c : ℕ) → T (is_scalar c) → (at : ℕ) → OfScalars (emit_or kind c at s)
  unfolding emit_or
  emit_or_lem kind zero h at = placed s k at kind
  emit_or_lem kind (suc c) h at = emits s k (suc c) h

  cell_or_lem : (kind : IssueKind) (c : ℕ) → T (is_scalar c) → (at : ℕ) → OfScalars (cell_or kind c at s)
  unfolding cell_or
  cell_or_lem kind c h at = either OfScalars (has_character non_spacing c) (marked s k c at h) (emit_or_lem kind c h at)

  mosaic_to : (number c at : ℕ) → OfScalars (mosaic number c at s)
  unfolding mosaic
  mosaic_to number c at = repeats (issue at (Mosaic number c) s) (issued s k at (Mosaic number c)) 0

  space_to : (g : Given) → OfScalars (space g s)
  unfolding space is_scalar
  space_to g = go (is_narrow g s)
    where
      go : (b : Bool) → OfScalars (writes (emit (cond b 0x20 0x3000)) s)
      go true = emits s k 0x20 tt
      go false = emits s k 0x3000 tt

  module _ (g : Given) (t : Table g) where
    char2_to : (number a b at : ℕ) → OfScalars (char2 g number a b at s)
    unfolding char2
    char2_to number a b at =
        let code = a * 256 + b in
        let row = a - 0x20 in
        let cell = b - 0x20 in
        either OfScalars (eqb number 0) (cell_or_lem (UndefinedCode number code) (kanji_at g.cells row cell) (kanji_is g t row cell) at)
        (either OfScalars (eqb number 14) (cell_or_lem (UndefinedCode number code) (symbol row cell) (symbol_is row cell) at)
        (either OfScalars (eqb number 12 && leb row 84) (cell_or_lem (UnsupportedCode number code) (kanji_at g.cells row cell) (kanji_is g t row cell) at)
        (either OfScalars (eqb number 16) (placed s k at (Drcs 0 code)) (placed s k at (UnsupportedCode number code)))))

    graphic2_to : (number x : ℕ) (rest : List ℕ) (at : ℕ) → To (graphic2 g number x rest at s)
    unfolding graphic2
    graphic2_to number x [] at = cut 1 at
    graphic2_to number x (y ∷ r) at = either To (is_graphic y && eqb (x / 128) (y / 128)) (char2_to number (x % 128) (y % 128) at) (cut 1 at)

-- ---- macros

-- a run of a body keeps to scalars
abbrev pub Runs : Run → Type 0
Runs R = (b : List ℕ) (base origin : ℕ) (s : State) → OfScalars s → OfScalars (R b base origin s)

module _ (g : Given) (t : Table g) (left : ℕ) (R : Run) (runs : Runs R) where
  body_to : (body : List ℕ) (base at : ℕ) (s : State) → OfScalars s → OfScalars (run_body g left R body base at s)
  unfolding run_body charge
  body_to body base at s k =
      either OfScalars (eqb left 0 || ltb (limit g.input) (s.charged + length body)) (issued s k at MacroLimit)
      (runs body base (suc at) (charge (length body) s) (record { text = k.text; marks = k.marks }))

  macro_to : (code at : ℕ) (s : State) → OfScalars s → OfScalars (run_macro g left R code at s)
  unfolding run_macro
  macro_to code at s k =
      either OfScalars (eqb (get_or s.starts code 0) 0)
      (either OfScalars (leb 0x60 code && leb code 0x6F) (body_to (builtin code) 0 at s k) (issued s k at (UndefinedMacro code)))
      (body_to (take (get_or s.lens code 0) (drop (get_or s.starts code 0) g.input)) (get_or s.starts code 0) at s k)

  defines : (code place n : ℕ) (s : State) → OfScalars s → OfScalars (define code place n s)
  unfolding define
  defines code place n s k = record { text = k.text; marks = k.marks }

  defined_to : (p code n place at : ℕ) (s : State) → OfScalars s → To (defined g left R p code n place at s)
  unfolding defined
  defined_to p code n place at s k =
      let d = defines code (place + 3) n s k in
      either To (eqb p 0x41) (macro_to code at (define code (place + 3) n s) d) d

  definition_to : (p : ℕ) (r : List ℕ) (place at : ℕ) (s : State) → OfScalars s → To (definition g left R p r place at s)
  unfolding definition
  definition_to p [] place at s k = cut s k 2 at
  definition_to p (mc ∷ r) place at s k = either To (ltb (end_of r) (length r)) (defined_to p (mc % 128) (end_of r) place at s k) (cut s k (length r + 3) at)

  command_to : (rest : List ℕ) (place at : ℕ) (s : State) → OfScalars s → To (macro_cmd g left R rest place at s)
  unfolding macro_cmd
  command_to [] place at s k = cut s k 1 at
  command_to (p ∷ r) place at s k =
      either To (eqb p 0x4F) k
      (either To (eqb p 0x40 || eqb p 0x41) (definition_to p r place at s k) (issued s k at (MalformedControl 0x95)))

  char1_to : (number c at : ℕ) (s : State) → OfScalars s → OfScalars (char1 g left R number c at s)
  unfolding char1
  char1_to number c at s k =
      either OfScalars (eqb number 15) (macro_to c at s k)
      (either OfScalars (leb 4 number && leb number 7) (mosaic_to s k number c at)
      (either OfScalars (leb 17 number) (placed s k at (Drcs (number - 16) c))
      (emit_or_lem s k (UndefinedCode number c) (letter (is_narrow g s) number c) (letter_scalar (is_narrow g s) number c) at)))

  graphic_to : (element x : ℕ) (rest : List ℕ) (at : ℕ) (s : State) → OfScalars s → To (graphic g left R element x rest at s)
  unfolding graphic graphic_of
  graphic_to element x rest at s k =
      let number = get_or s.sets element 0 in
      either To (eqb (bytes_per_char number) 2) (graphic2_to s k g t number x rest at) (char1_to number (x % 128) at s k)

  shift_to : (element : ℕ) (rest : List ℕ) (at : ℕ) (s : State) → OfScalars s → To (single_shift g left R element rest at s)
  unfolding single_shift
  shift_to element [] at s k = cut s k 1 at
  shift_to element (y ∷ r) at s k = either To (is_graphic y) (graphic_to element y r at s k) (issued s k at LoneSingleShift)

  -- ---- a step, the steps of a body, and a run

  control0_to : (x : ℕ) (rest : List ℕ) (place at : ℕ) (s : State) → OfScalars s → To (control0 g left R x rest place at s)
  unfolding control0
  control0_to x rest place at s k =
      either To (eqb x 0x20) (space_to s k g)
      (either To (eqb x 0x0F) (invoked_left s k 0)
      (either To (eqb x 0x0E) (invoked_left s k 1)
      (either To (eqb x 0x19) (shift_to 2 rest at s k)
      (either To (eqb x 0x1D) (shift_to 3 rest at s k)
      (either To (eqb x 0x1B) (escape_to s k rest place at)
      (either To (eqb x 0x0D) (newlines s k)
      (fixed_to s k x rest at)))))))

  control1_to : (x : ℕ) (rest : List ℕ) (place at : ℕ) (s : State) → OfScalars s → To (control1 g left R x rest place at s)
  unfolding control1
  control1_to x rest place at s k =
      either To (eqb x 0x88 || eqb x 0x89) (sized s k true)
      (either To (eqb x 0x8A) (sized s k false)
      (either To (eqb x 0x8B) (szx_to s k rest at)
      (either To (eqb x 0x98) (rpc_to s k rest at)
      (either To (eqb x 0x90 || eqb x 0x92) (colour_to s k rest at)
      (either To (eqb x 0x9D) (time_to s k rest at)
      (either To (eqb x 0x9B) (csi_to s k rest at)
      (either To (eqb x 0x95) (command_to rest place at s k)
      (fixed_to s k x rest at))))))))

  step_to : (x : ℕ) (rest : List ℕ) (place at : ℕ) (s : State) → OfScalars s → To (step g left R x rest place at s)
  unfolding step
  step_to x rest place at s k =
      either To (is_gl x) (graphic_to s.gl x rest at s k)
      (either To (is_gr x) (graphic_to s.gr x rest at s k)
      (either To (ltb x 0x80) (control0_to x rest place at s k) (control1_to x rest place at s k)))

  steps_to_lem : (base origin : ℕ) (b : List ℕ) (i n : ℕ) (s : State) → OfScalars s → OfScalars (steps g left R base origin b i n s)
  unfolding steps
  steps_to_lem base origin [] i n s k = k
  steps_to_lem base origin (x ∷ xs) i zero s k =
      let w = step g left R x xs (base + i) (offset origin i) s in
      steps_to_lem base origin xs (i + 1) (w.used - 1) w.to (step_to x xs (base + i) (offset origin i) s k)
  steps_to_lem base origin (x ∷ xs) i (suc n) s k = steps_to_lem base origin xs (i + 1) n s k

pub runs_to : (g : Given) → Table g → (left : ℕ) → Runs (run g left)
unfolding run
runs_to g t zero b base origin s k = steps_to_lem g t zero (λ b₁ base₁ origin₁ s₁. s₁) (λ b₁ base₁ origin₁ s₁ k₁. k₁) base origin b 0 0 s k
runs_to g t (suc left) b base origin s k = steps_to_lem g t (suc left) (run g left) (runs_to g t left) base origin b 0 0 s k
