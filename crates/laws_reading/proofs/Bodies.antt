-- A step runs the body that it is said to run, or reports where the text ends that it finds; and the charge is the sum of the lengths of the bodies
-- that ran. Assumes nothing.
use mathlib.Core.Path.{◌≡◌, refl, sym, ap, subst}
use mathlib.Core.Bool.{Bool, true, false, cond, ◌&&◌, ◌||◌}
use mathlib.Core.List.{List, [], ◌∷◌, ◌++◌}
use mathlib.Core.Option.{Option, none, some}
use Prim.Native.Nat.{ℕ, zero, suc, ◌+◌, ◌-◌, ◌%◌}
use native.Mathlib.Omega.{arith}
use borrow.Author.Tests.{eqb-true, eqb-false, ltb-true, ltb-false, lt-ltb, le-ltb, le-leb, lt-leb}
use lib.Dec.{eqb, ltb, leb}
use lib.ListN.{length, take, drop, get_or}
use Rattle.base.proofs.Tests.{either, by_test}
use Rattle.sets.specs.Sets.{bytes_per_char}
use Rattle.issues.specs.Issue.{Issue}
use Rattle.issues.specs.declared.IssueKind.{IssueKind}
use Rattle.issues.specs.declared.IssueKind.TheVariants.{MalformedControl, Truncated, UndefinedCode, Drcs, Mosaic, UndefinedMacro, MacroLimit, LoneSingleShift}
use Rattle.decode_output.specs.Output.{Output, position}
use Rattle.reading.specs.State.{Given, State, Step, start, define, issue, writes, placeholder, is_narrow}
use Rattle.reading.specs.Characters.{is_gl, is_gr, is_graphic, letter, mosaic, char1, graphic_of, graphic, single_shift}
use Rattle.reading.specs.Macros.{Run, builtin, limit, run_body, run_macro, end_of, defined, definition, macro_cmd}
use Rattle.reading.specs.Steps.{control0, control1, step, offset, steps, run, decode}
use Rattle.laws_reading.specs.Bodies.{
  Called,
  Body,
  Begun,
  Within,
  called_in,
  called_shifted,
  called_defined,
  called_by_code,
  called,
  body_of,
  begun_of,
  begun_by,
  begun,
  with_inner,
  ran_in,
  ran,
  bodies,
  total,
}
use Rattle.laws_reading.specs.Positions.{TextBefore}
use Rattle.laws_reading.specs.Reading.{ChargeIsSum, Free, RunOrFree, BodiesRun}
use Rattle.laws_reading.proofs.Charges.{
  StepFree,
  quiet,
  tells,
  released_same,
  newline_same,
  emit_or_same,
  graphic2_free,
  escape_free,
  szx_free,
  rpc_free,
  colour_free,
  csi_free,
  time_free,
  fixed_free,
}

-- two values that one test chooses
alike : {A B : Type 0} (P : A → B → Type 0) (t : Bool) {a c : A} {b d : B} → P a b → P c d → P (cond t a c) (cond t b d)
alike P true x y = x
alike P false x y = y

-- an issue in the state s, which has what the state r before the step has
issue_same : (at : ℕ) (kind : IssueKind) (r s : State) → s.charged ≡ r.charged → s.out ≡ r.out → Free r (issue at kind s)
unfolding issue
issue_same at kind r s e o =
    let x : Issue = record { offset = at; kind = kind; position = position s.out } in
    record { charged = e; reported = record { issues = x ∷ []; reported = ap (λ (y : Output). y.issues ++ (x ∷ [])) o; placed = (ap position o, tt) } }

module _ (g : Given) (left : ℕ) (R : Run) (at : ℕ) where
  -- from s to t the body of the macro that is called is run, or nothing is charged
  abbrev Calls : State → Option Called → State → Type 0
  Calls s c t = RunOrFree R at s (begun_by g left c) t

  -- `r` is the state before the step, s that in which the macro is called: MACRO 41 defines it first
  body_runs : (r s : State) (b : Body) → s.charged ≡ r.charged → s.out ≡ r.out → RunOrFree R at r (begun_of g left (some b) s) (run_body g left R b.bytes b.place at s)
  unfolding begun_of run_body
  body_runs r s b e o = go (eqb left 0) (ltb (limit g.input) (s.charged + length b.bytes)) refl refl
    where
      go : (t u : Bool) → eqb left 0 ≡ t → ltb (limit g.input) (s.charged + length b.bytes) ≡ u →
          RunOrFree R at r (begun_of g left (some b) s) (run_body g left R b.bytes b.place at s)
      go true u p q = rw (p, le-ltb 0 left (omega (arith, eqb-true left 0 p))) (issue_same at MacroLimit r s e o)
      go false true p q = rw (p, q, lt-ltb 0 left (omega (arith, eqb-false left 0 p)), lt-leb (s.charged + length b.bytes) (limit g.input) (ltb-true _ _ q)) (issue_same at MacroLimit r s e o)
      go false false p q =
          rw (p, q, lt-ltb 0 left (omega (arith, eqb-false left 0 p)), le-leb (s.charged + length b.bytes) (limit g.input) (ltb-false _ _ q))
          (record { charges = ap (λ (n : ℕ). n + length b.bytes) e; begins = o; ends = refl })

  macro_runs : (r s : State) (code : ℕ) → s.charged ≡ r.charged → s.out ≡ r.out → Calls r (some (record { code = code; from = s })) (run_macro g left R code at s)
  unfolding begun_by body_of run_macro begun_of issue
  macro_runs r s code e o = go (eqb (get_or s.starts code 0) 0) (leb 0x60 code && leb code 0x6F)
    where
      built : Body
      built = record { bytes = builtin code; place = 0 }

      own : Body
      own = record { bytes = take (get_or s.lens code 0) (drop (get_or s.starts code 0) g.input); place = get_or s.starts code 0 }

      go : (t u : Bool) → RunOrFree R at r (begun_of g left (cond t (cond u (some built) none) (some own)) s)
          (cond t (cond u (run_body g left R built.bytes built.place at s) (issue at (UndefinedMacro code) s)) (run_body g left R own.bytes own.place at s))
      go true true = body_runs r s built e o
      go true false = issue_same at (UndefinedMacro code) r s e o
      go false u = body_runs r s own e o

  char1_free : (number c : ℕ) (s : State) → eqb number 15 ≡ false → Free s (char1 g left R number c at s)
  unfolding char1 mosaic placeholder
  char1_free number c s e =
      by_test (Free s) (eqb number 15) (λ t. absurd (eqb-false number 15 e (eqb-true number 15 t)))
      (λ t. either (Free s) (leb 4 number && leb number 7) (tells at (Mosaic number c) refl refl)
      (either (Free s) (leb 17 number) (tells at (Drcs (number - 16) c) refl refl) (emit_or_same at s (UndefinedCode number c) (letter (is_narrow g s) number c))))

  -- a character of the set of a number
  set_runs : (number x : ℕ) (rest : List ℕ) (s : State) →
      Calls s (cond (eqb number 15) (some (record { code = x % 128; from = s })) none) (graphic_of g left R number x rest at s).to
  unfolding graphic_of begun_by
  set_runs number x rest s = go (eqb number 15) refl
    where
      free : eqb number 15 ≡ false → StepFree s (graphic_of g left R number x rest at s)
      free e = either (StepFree s) (eqb (bytes_per_char number) 2) (graphic2_free at s g number x rest) (char1_free number (x % 128) s e)

      go : (t : Bool) → eqb number 15 ≡ t → Calls s (cond t (some (record { code = x % 128; from = s })) none) (graphic_of g left R number x rest at s).to
      go true e =
          subst (λ (n : ℕ). Calls s (some (record { code = x % 128; from = s })) (graphic_of g left R n x rest at s).to) (sym (eqb-true number 15 e)) (macro_runs s s (x % 128) refl refl)
      go false e = free e

  graphic_runs : (element x : ℕ) (rest : List ℕ) (s : State) → Calls s (called_in element x s) (graphic g left R element x rest at s).to
  unfolding called_in graphic
  graphic_runs element x rest s = set_runs (get_or s.sets element 0) x rest s

  shifted_runs : (element : ℕ) (rest : List ℕ) (s : State) → Calls s (called_shifted element rest s) (single_shift g left R element rest at s).to
  unfolding called_shifted single_shift begun_by issue
  shifted_runs element [] s = tells at Truncated refl refl
  shifted_runs element (y ∷ r) s = alike (λ (c : Option Called) (w : Step). Calls s c w.to) (is_graphic y) (graphic_runs element y r s) (tells at LoneSingleShift refl refl)

  -- MACRO with another parameter than 41
  command_free : (p : ℕ) (r : List ℕ) (place : ℕ) (s : State) → eqb p 0x41 ≡ false → StepFree s (macro_cmd g left R (p ∷ r) place at s)
  unfolding macro_cmd
  command_free p r place s e = either (StepFree s) (eqb p 0x4F) (quiet refl refl) (either (StepFree s) (eqb p 0x40 || eqb p 0x41) (definition_free r) (tells at (MalformedControl 0x95) refl refl))
    where
      defined_free : (code n : ℕ) → StepFree s (defined g left R p code n place at s)
      defined_free code n = by_test (StepFree s) (eqb p 0x41) (λ t. absurd (eqb-false p 0x41 e (eqb-true p 0x41 t))) (λ t. quiet refl refl)

      definition_free : (r : List ℕ) → StepFree s (definition g left R p r place at s)
      definition_free [] = tells at Truncated refl refl
      definition_free (mc ∷ r) = either (StepFree s) (ltb (end_of r) (length r)) (defined_free (mc % 128) (end_of r)) (tells at Truncated refl refl)

  command_runs : (rest : List ℕ) (place : ℕ) (s : State) → Calls s (called_defined rest place s) (macro_cmd g left R rest place at s).to
  unfolding called_defined macro_cmd begun_by define issue
  command_runs [] place s = tells at Truncated refl refl
  command_runs (p ∷ []) place s =
      either (StepFree s) (eqb p 0x4F) (quiet refl refl)
      (either (StepFree s) (eqb p 0x40 || eqb p 0x41) (tells at Truncated refl refl) (tells at (MalformedControl 0x95) refl refl))
  command_runs (p ∷ (mc ∷ r)) place s = go (eqb p 0x41) refl
    where
      told : Called
      told = record { code = mc % 128; from = define (mc % 128) (place + 3) (end_of r) s }

      go : (t : Bool) → eqb p 0x41 ≡ t → Calls s (cond (t && ltb (end_of r) (length r)) (some told) none) (macro_cmd g left R (p ∷ (mc ∷ r)) place at s).to
      go true e =
          subst (λ (q : ℕ). Calls s (cond (ltb (end_of r) (length r)) (some told) none) (macro_cmd g left R (q ∷ (mc ∷ r)) place at s).to) (sym (eqb-true p 0x41 e))
          (alike (λ (c : Option Called) (w : Step). Calls s c w.to) (ltb (end_of r) (length r)) (macro_runs s told.from (mc % 128) refl refl) (tells at Truncated refl refl))
      go false e = command_free p (mc ∷ r) place s e

  -- a code outside GL and GR
  abbrev CodeRuns : ℕ → List ℕ → ℕ → State → Type 0
  CodeRuns x rest place s =
      Calls s (called_by_code x rest place s) (cond (ltb x 0x80) (control0 g left R x rest place at s) (control1 g left R x rest place at s)).to

  module _ (x : ℕ) (rest : List ℕ) (place : ℕ) (s : State) where
    control0_free : eqb x 0x19 ≡ false → eqb x 0x1D ≡ false → StepFree s (control0 g left R x rest place at s)
    unfolding control0
    control0_free two three =
        either (StepFree s) (eqb x 0x20) (quiet refl refl)
        (either (StepFree s) (eqb x 0x0F) (quiet refl refl)
        (either (StepFree s) (eqb x 0x0E) (quiet refl refl)
        (by_test (StepFree s) (eqb x 0x19) (λ t. absurd (eqb-false x 0x19 two (eqb-true x 0x19 t)))
        (λ _. by_test (StepFree s) (eqb x 0x1D) (λ t. absurd (eqb-false x 0x1D three (eqb-true x 0x1D t)))
        (λ _. either (StepFree s) (eqb x 0x1B) (escape_free at s rest place)
        (either (StepFree s) (eqb x 0x0D) (newline_same s) (fixed_free at s x rest)))))))

    control1_free : eqb x 0x95 ≡ false → StepFree s (control1 g left R x rest place at s)
    unfolding control1
    control1_free macro =
        either (StepFree s) (eqb x 0x88 || eqb x 0x89) (quiet refl refl)
        (either (StepFree s) (eqb x 0x8A) (quiet refl refl)
        (either (StepFree s) (eqb x 0x8B) (szx_free at s rest)
        (either (StepFree s) (eqb x 0x98) (rpc_free at s rest)
        (either (StepFree s) (eqb x 0x90 || eqb x 0x92) (colour_free at s rest)
        (either (StepFree s) (eqb x 0x9D) (time_free at s rest)
        (either (StepFree s) (eqb x 0x9B) (csi_free at s rest)
        (by_test (StepFree s) (eqb x 0x95) (λ t. absurd (eqb-false x 0x95 macro (eqb-true x 0x95 t)))
        (λ _. fixed_free at s x rest))))))))

    code_runs : CodeRuns x rest place s
    unfolding control0 control1 called_by_code begun_by
    code_runs = go (eqb x 0x19) (eqb x 0x1D) (eqb x 0x95) refl refl refl
      where
        go : (a b c : Bool) → eqb x 0x19 ≡ a → eqb x 0x1D ≡ b → eqb x 0x95 ≡ c → CodeRuns x rest place s
        go true b c p q m = subst (λ (y : ℕ). CodeRuns y rest place s) (sym (eqb-true x 0x19 p)) (shifted_runs 2 rest s)
        go false true c p q m = subst (λ (y : ℕ). CodeRuns y rest place s) (sym (eqb-true x 0x1D q)) (shifted_runs 3 rest s)
        go false false true p q m = subst (λ (y : ℕ). CodeRuns y rest place s) (sym (eqb-true x 0x95 m)) (command_runs rest place s)
        go false false false p q m =
            let none-called : called_by_code x rest place s ≡ none = rw (p, q, m) in
            subst (λ (c : Option Called). Calls s c (cond (ltb x 0x80) (control0 g left R x rest place at s) (control1 g left R x rest place at s)).to) (sym none-called)
            (either (StepFree s) (ltb x 0x80) (control0_free p q) (control1_free m))

    step_runs : RunOrFree R at s (begun g left x rest place s) (step g left R x rest place at s).to
    unfolding begun called step
    step_runs =
        alike (λ (c : Option Called) (w : Step). Calls s c w.to) (is_gl x) (graphic_runs s.gl x rest s)
        (alike (λ (c : Option Called) (w : Step). Calls s c w.to) (is_gr x) (graphic_runs s.gr x rest s) code_runs)

pub bodies_run : BodiesRun
bodies_run g left R x rest place at s = step_runs g left R at x rest place s

pub text_before : TextBefore
text_before =
    record {
      step = λ g left R x rest place at s e.
          (subst (λ (b : Option Begun). RunOrFree R at s b (step g left R x rest place at s).to) e (bodies_run g left R x rest place at s)).reported;
      body = λ g left x rest place s b e.
          let R : Run = λ b₁ base₁ origin₁ s₁. s₁ in
          (subst (λ (y : Option Begun). RunOrFree R 0 s y (step g left R x rest place 0 s).to) e (bodies_run g left R x rest place 0 s)).begins;
      released = λ s. (released_same s).reported;
    }

total_append : (a b : List (List ℕ)) → total (a ++ b) ≡ total a + total b
unfolding total
total_append [] b = omega arith
total_append (x ∷ a) b = omega (arith, total_append a b)

-- R charges the lengths of the bodies that W lists
abbrev Sums : Run → Within → Type 0
Sums R W = (b : List ℕ) (base origin : ℕ) (s : State) → (R b base origin s).charged ≡ s.charged + total (W b base origin s)

module _ (R : Run) (W : Within) (sums : Sums R W) where
  body_sum : (at : ℕ) (s : State) (o : Option Begun) (t : State) → RunOrFree R at s o t → t.charged ≡ s.charged + total (with_inner W at o)
  unfolding with_inner total
  body_sum at s none t h = omega (arith, h.charged)
  body_sum at s (some b) t h =
      omega (arith, h.charges, ap (λ (u : State). u.charged) h.ends, sums b.body.bytes b.body.place (suc at) b.from)

  steps_sum : (g : Given) (left base origin : ℕ) (xs : List ℕ) (i k : ℕ) (s : State) →
      (steps g left R base origin xs i k s).charged ≡ s.charged + total (ran_in g left R W base origin xs i k s)
  unfolding steps ran_in total
  steps_sum g left base origin [] i k s = omega arith
  steps_sum g left base origin (x ∷ xs) i zero s =
      let w = step g left R x xs (base + i) (offset origin i) s in
      let own = with_inner W (offset origin i) (begun g left x xs (base + i) s) in
      let after = ran_in g left R W base origin xs (i + 1) (w.used - 1) w.to in
      omega (
        arith,
        body_sum (offset origin i) s (begun g left x xs (base + i) s) w.to (bodies_run g left R x xs (base + i) (offset origin i) s),
        steps_sum g left base origin xs (i + 1) (w.used - 1) w.to,
        total_append own after,
      )
  steps_sum g left base origin (x ∷ xs) i (suc k) s = steps_sum g left base origin xs (i + 1) k s

run_sums : (g : Given) (left : ℕ) → Sums (run g left) (ran g left)
unfolding run ran total
run_sums g zero b base origin s =
    steps_sum (λ b₁ base₁ origin₁ s₁. s₁) (λ b₁ base₁ origin₁ s₁. []) (λ b₁ base₁ origin₁ s₁. omega arith) g zero base origin b 0 0 s
run_sums g (suc left) b base origin s = steps_sum (run g left) (ran g left) (run_sums g left) g (suc left) base origin b 0 0 s

pub charge_is_sum : ChargeIsSum
unfolding decode writes bodies start
charge_is_sum g initial = omega (arith, run_sums g 4 g.input 0 0 (start initial))
