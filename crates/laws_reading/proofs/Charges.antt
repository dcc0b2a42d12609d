-- Steps that run no body charge nothing, and report where the text ends that they find. Assumes nothing.
use mathlib.Core.Path.{◌≡◌, refl, sym, ◌∙◌}
use mathlib.Core.Bool.{Bool, true, false, ◌&&◌, ◌||◌}
use mathlib.Core.List.{List, [], ◌∷◌, ◌++◌, append-nil}
use mathlib.Core.Option.{Option, none, some}
use Prim.Native.Nat.{ℕ, zero, suc, ◌+◌, ◌-◌, ◌*◌, ◌/◌, ◌%◌}
use lib.Dec.{eqb, leb}
use lib.ListN.{length, take, drop}
use Rattle.base.proofs.Tests.{either}
use Rattle.sets.specs.Sets.{Designation, read_designation}
use Rattle.addsym.specs.Symbols.{symbol}
use Rattle.control.specs.Controls.{count_of}
use Rattle.tables.specs.Kanji.{non_spacing, has_character, kanji_at}
use Rattle.issues.specs.declared.IssueKind.{IssueKind}
use Rattle.issues.specs.declared.IssueKind.TheVariants.{
  UnknownEscape,
  UndefinedControl,
  MalformedControl,
  Truncated,
  UndefinedCode,
  UnsupportedCode,
  Drcs,
  DanglingNonSpacing,
  RepeatToEndOfLine,
}
use Rattle.decode_output.specs.Output.{position, newline, release, release_of}
use Rattle.reading.specs.State.{Given, State, Step, writes}
use Rattle.reading.specs.Characters.{is_graphic, emit_or, cell_or, char2, graphic2}
use Rattle.reading.specs.Controls.{
  leading,
  locking_shift,
  designated,
  applied,
  applied_or,
  escape_at,
  escape,
  szx,
  repeat_by,
  rpc,
  colour,
  ended,
  sequence_from,
  csi,
  time,
  fixed_of,
  fixed,
}
use Rattle.laws_reading.specs.Reading.{Free}

-- a step charges nothing, and reports where the text ends that it finds
abbrev pub StepFree : State → Step → Type 0
StepFree s w = Free s w.to

-- nothing is reported
pub quiet : {s t : State} → t.charged ≡ s.charged → t.out.issues ≡ s.out.issues → Free s t
quiet e i = record { charged = e; reported = record { issues = []; reported = i ∙ sym (append-nil _); placed = tt } }

-- an issue is reported
pub tells : (at : ℕ) (kind : IssueKind) {s t : State} → t.charged ≡ s.charged
    → t.out.issues ≡ s.out.issues ++ (record { offset = at; kind = kind; position = position s.out } ∷ []) → Free s t
tells at kind e i = record { charged = e; reported = record { issues = _; reported = i; placed = (refl, tt) } }

-- the marks are released
pub released_same : (s : State) → Free s (writes release s)
unfolding writes release
released_same s = go s.out.marks
  where
    go : (ms : List ℕ) → Free s (writes (release_of ms) s)
    go [] = quiet refl refl
    go (m ∷ ms) = tells s.out.marks_at DanglingNonSpacing refl refl

pub newline_same : (s : State) → Free s (writes newline s)
unfolding writes newline
newline_same s =
    let r = released_same s in
    record { charged = r.charged; reported = record { issues = r.reported.issues; reported = r.reported.reported; placed = r.reported.placed } }

module _ (at : ℕ) (s : State) where
  pub emit_or_same : (kind : IssueKind) (c : ℕ) → Free s (emit_or kind c at s)
  unfolding emit_or
  emit_or_same kind zero = tells at kind refl refl
  emit_or_same kind (suc c) = quiet refl refl

  cell_or_same : (kind : IssueKind) (c : ℕ) → Free s (cell_or kind c at s)
  unfolding cell_or
  cell_or_same kind c = either (Free s) (has_character non_spacing c) (quiet refl refl) (emit_or_same kind c)

  char2_same : (g : Given) (number a b : ℕ) → Free s (char2 g number a b at s)
  unfolding char2
  char2_same g number a b =
      let code = a * 256 + b in
      let row = a - 0x20 in
      let cell = b - 0x20 in
      either (Free s) (eqb number 0) (cell_or_same (UndefinedCode number code) (kanji_at g.cells row cell))
      (either (Free s) (eqb number 14) (cell_or_same (UndefinedCode number code) (symbol row cell))
      (either (Free s) (eqb number 12 && leb row 84) (cell_or_same (UnsupportedCode number code) (kanji_at g.cells row cell))
      (either (Free s) (eqb number 16) (tells at (Drcs 0 code) refl refl) (tells at (UnsupportedCode number code) refl refl))))

  pub graphic2_free : (g : Given) (number x : ℕ) (rest : List ℕ) → StepFree s (graphic2 g number x rest at s)
  unfolding graphic2
  graphic2_free g number x [] = tells at Truncated refl refl
  graphic2_free g number x (y ∷ r) = either (StepFree s) (is_graphic y && eqb (x / 128) (y / 128)) (char2_same g number (x % 128) (y % 128)) (tells at Truncated refl refl)

  -- what the bytes of a known escape leave charged
  abbrev KnownSame : Option State → Type 0
  KnownSame none = Unit {0}
  KnownSame (some t) = Free s t

  shift_same : (f : ℕ) → KnownSame (locking_shift f s)
  unfolding locking_shift
  shift_same f =
      either KnownSame (eqb f 0x6E) (quiet refl refl)
      (either KnownSame (eqb f 0x6F) (quiet refl refl)
      (either KnownSame (eqb f 0x7E) (quiet refl refl)
      (either KnownSame (eqb f 0x7D) (quiet refl refl)
      (either KnownSame (eqb f 0x7C) (quiet refl refl) tt))))

  designated_same : (d : Option Designation) → KnownSame (designated d s)
  unfolding designated
  designated_same none = tt
  designated_same (some d) = quiet refl refl

  applied_same : (bs : List ℕ) → KnownSame (applied bs s)
  unfolding applied
  applied_same [] = tt
  applied_same (f ∷ []) = shift_same f
  applied_same (a ∷ (b ∷ r)) = designated_same (read_designation (a ∷ (b ∷ r)))

  applied_or_free : (o : Option State) (n place : ℕ) → KnownSame o → StepFree s (applied_or o n place at s)
  unfolding applied_or
  applied_or_free none n place k = tells at (UnknownEscape place n) refl refl
  applied_or_free (some t) n place k = k

  escape_at_free : (inter tail : List ℕ) (place : ℕ) → StepFree s (escape_at inter tail place at s)
  unfolding escape_at
  escape_at_free inter [] place = tells at Truncated refl refl
  escape_at_free inter (f ∷ r) place =
      either (StepFree s) (leb 0x30 f && leb f 0x7E) (applied_or_free (applied (inter ++ (f ∷ [])) s) (length inter + 2) place (applied_same (inter ++ (f ∷ []))))
      (tells at (UnknownEscape place (length inter + 1)) refl refl)

  pub escape_free : (rest : List ℕ) (place : ℕ) → StepFree s (escape rest place at s)
  unfolding escape
  escape_free rest place = escape_at_free (take (leading 0x20 0x2F rest) rest) (drop (leading 0x20 0x2F rest) rest) place

  pub szx_free : (rest : List ℕ) → StepFree s (szx rest at s)
  unfolding szx
  szx_free [] = tells at Truncated refl refl
  szx_free (p ∷ r) = quiet refl refl

  repeat_same : (n : ℕ) → Free s (repeat_by n at s)
  unfolding repeat_by
  repeat_same zero = tells at RepeatToEndOfLine refl refl
  repeat_same (suc n) = quiet refl refl

  pub rpc_free : (rest : List ℕ) → StepFree s (rpc rest at s)
  unfolding rpc
  rpc_free [] = tells at Truncated refl refl
  rpc_free (p ∷ r) = repeat_same (p % 64)

  pub colour_free : (rest : List ℕ) → StepFree s (colour rest at s)
  unfolding colour
  colour_free [] = tells at Truncated refl refl
  colour_free (p ∷ []) = either (StepFree s) (eqb p 0x20) (tells at Truncated refl refl) (quiet refl refl)
  colour_free (p ∷ (q ∷ r)) = either (StepFree s) (eqb p 0x20) (quiet refl refl) (quiet refl refl)

  ended_free : (strict : Bool) (code n : ℕ) (tail : List ℕ) → StepFree s (ended strict code n tail at s)
  unfolding ended
  ended_free strict code n [] = tells at Truncated refl refl
  ended_free strict code n (f ∷ r) = either (StepFree s) (leb 0x40 f && leb f 0x7E) (quiet refl refl) (either (StepFree s) strict (tells at (MalformedControl code) refl refl) (quiet refl refl))

  sequence_free : (strict : Bool) (code n : ℕ) (l : List ℕ) → StepFree s (sequence_from strict code n l at s)
  unfolding sequence_from
  sequence_free strict code n l = ended_free strict code (n + leading 0x20 0x3F l) (drop (leading 0x20 0x3F l) l)

  pub csi_free : (rest : List ℕ) → StepFree s (csi rest at s)
  unfolding csi
  csi_free rest = sequence_free true 0x9B 1 rest

  pub time_free : (rest : List ℕ) → StepFree s (time rest at s)
  unfolding time
  time_free [] = tells at Truncated refl refl
  time_free (p ∷ r) =
      either (StepFree s) (eqb p 0x20 || eqb p 0x28) (either (StepFree s) (eqb (length r) 0) (tells at Truncated refl refl) (quiet refl refl))
      (either (StepFree s) (eqb p 0x29) (sequence_free false 0x9D 2 r) (tells at (MalformedControl 0x9D) refl refl))

  fixed_of_free : (o : Option ℕ) (x : ℕ) (rest : List ℕ) → StepFree s (fixed_of o x rest at s)
  unfolding fixed_of
  fixed_of_free none x rest = tells at (UndefinedControl x) refl refl
  fixed_of_free (some n) x rest = either (StepFree s) (leb n (length rest)) (quiet refl refl) (tells at Truncated refl refl)

  pub fixed_free : (x : ℕ) (rest : List ℕ) → StepFree s (fixed x rest at s)
  unfolding fixed
  fixed_free x rest = fixed_of_free (count_of x) x rest
