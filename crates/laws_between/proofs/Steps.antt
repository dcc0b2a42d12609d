-- Every step, and every run of a body, keeps what `Fine` says. Assumes nothing.
use Prim.Native.Nat.{ℕ, zero, suc, ◌+◌, ◌-◌, ◌%◌, ◌≤◌, ◌<◌}
use mathlib.Core.Path.{◌≡◌, refl, sym, ap, ◌∙◌, subst}
use mathlib.Core.Logic.{inl, inr}
use mathlib.Core.Bool.{Bool, true, false, ◌&&◌, ◌||◌}
use mathlib.Core.List.{List, [], ◌∷◌}
use native.Mathlib.Nat.{add_assoc, add-zero}
use native.Mathlib.Omega.{arith}
use borrow.Author.Tests.{ltb-true, leb-true}
use lib.Dec.{T, eqb, ltb, leb}
use lib.ListN.{length, take, drop, get_or, take-append-drop}
use lib.Seq.{drop-drop}
use Rattle.base.specs.Lists.{All}
use Rattle.base.proofs.Every.{all_at}
use Rattle.base.proofs.Table.{at}
use Rattle.base.proofs.Tests.{either, by_test}
use Rattle.sets.specs.Sets.{bytes_per_char}
use Rattle.issues.specs.declared.IssueKind.TheVariants.{MalformedControl, UndefinedCode, Drcs, UndefinedMacro, MacroLimit, LoneSingleShift}
use Rattle.reading.specs.State.{Given, State, is_narrow, designate, invoke_gl, invoke_gr, define, charge}
use Rattle.reading.specs.Macros.{Run, builtin_sets, builtin_of, builtin, limit, run_body, run_macro, end_of, defined, definition, macro_cmd}
use Rattle.reading.specs.Characters.{is_gl, is_gr, is_graphic, letter, char1, graphic_of, graphic, single_shift}
use Rattle.reading.specs.Steps.{control0, control1, step, offset, steps, run}
use Rattle.laws_reading.proofs.Escapes.{LiesAt}
use Rattle.laws_reading.proofs.Macros.{Body}
use Rattle.laws_between.proofs.Defining.{macros_define}
use Rattle.laws_between.proofs.Fine.{Fine, sized, charged, invoked_left, invoked_right, designates, issued, placed, newlines}
use Rattle.laws_between.proofs.Controls.{
  To,
  cut,
  szx_to,
  rpc_to,
  colour_to,
  csi_to,
  time_to,
  fixed_to,
  escape_to,
  emit_or_lem,
  mosaic_to,
  space_to,
  graphic2_to,
}

-- what a run one deeper keeps
abbrev pub Runs : Given → Run → Type 0
Runs g R = (b : List ℕ) (base at : ℕ) (s : State) → Body g.input base b → Fine g.input s → Fine g.input (R b base (suc at) s)

and_right : (a b : Bool) → a && b ≡ true → b ≡ true
and_right true b e = e
and_right false b e = absurd (let z : ◌≡◌ {A = ℕ} 0 1 = cc in omega arith)

-- the bytes from the next one on
stands_next : (input : List ℕ) (base i x : ℕ) (xs : List ℕ) → LiesAt input (base + i) (x ∷ xs) → LiesAt input (base + (i + 1)) xs
stands_next input base i x xs l =
    record { after = l.after; bytes = ap (λ (n : ℕ). drop n input) (sym (add_assoc base i 1)) ∙ (sym (drop-drop 1 (base + i) input) ∙ ap (drop 1) l.bytes) }

-- a macro whose definition stands in the input
defines : {input : List ℕ} {s : State} → Fine input s → (place x p mc : ℕ) (r : List ℕ) → LiesAt input place (x ∷ (p ∷ (mc ∷ r))) → end_of r < length r
    → Fine input (define (mc % 128) (place + 3) (end_of r) s)
unfolding define
defines {input = input} {s = s} k place x p mc r l h =
    record {
      four = k.four;
      sets = k.sets;
      gl = k.gl;
      gr = k.gr;
      macros = macros_define input s.starts s.lens (mc % 128) place x p mc r (omega arith) l h k.macros;
      marks = k.marks;
    }

module _ (g : Given) (left : ℕ) (R : Run) (runs : Runs g R) where
  -- ---- macros

  body_to : (body : List ℕ) (base at : ℕ) (s : State) → Body g.input base body → Fine g.input s → Fine g.input (run_body g left R body base at s)
  unfolding run_body
  body_to body base at s b k =
      either (Fine g.input) (eqb left 0 || ltb (limit g.input) (s.charged + length body)) (issued k at MacroLimit)
      (runs body base at (charge (length body) s) b (charged k (length body)))

  macro_to : (code at : ℕ) (s : State) → Fine g.input s → Fine g.input (run_macro g left R code at s)
  unfolding run_macro
  macro_to code at s k =
      either (Fine g.input) (eqb (get_or s.starts code 0) 0)
      (by_test (Fine g.input) (leb 0x60 code && leb code 0x6F)
      (λ e. body_to (builtin code) 0 at s (inr (code - 0x60, omega (arith, leb-true code 0x6F (and_right (leb 0x60 code) _ e)), refl)) k)
      (λ e. issued k at (UndefinedMacro code)))
      (body_to (take (get_or s.lens code 0) (drop (get_or s.starts code 0) g.input)) (get_or s.starts code 0) at s
      (inl (record {
        after = drop (get_or s.lens code 0) (drop (get_or s.starts code 0) g.input);
        bytes = sym (take-append-drop (get_or s.lens code 0) (drop (get_or s.starts code 0) g.input));
      })) k)

  defined_to : (p code n place at : ℕ) (s : State) → Fine g.input (define code (place + 3) n s) → To g.input (defined g left R p code n place at s)
  unfolding defined
  defined_to p code n place at s d = either (To g.input) (eqb p 0x41) (macro_to code at (define code (place + 3) n s) d) d

  definition_to : (x p : ℕ) (r : List ℕ) (place at : ℕ) (s : State) → LiesAt g.input place (x ∷ (p ∷ r)) → Fine g.input s
      → To g.input (definition g left R p r place at s)
  unfolding definition
  definition_to x p [] place at s l k = cut k 2 at
  definition_to x p (mc ∷ r) place at s l k =
      by_test (To g.input) (ltb (end_of r) (length r))
      (λ e. defined_to p (mc % 128) (end_of r) place at s (defines k place x p mc r l (ltb-true (end_of r) (length r) e)))
      (λ e. cut k (length r + 3) at)

  command_to : (x : ℕ) (rest : List ℕ) (place at : ℕ) (s : State) → LiesAt g.input place (x ∷ rest) → Fine g.input s
      → To g.input (macro_cmd g left R rest place at s)
  unfolding macro_cmd
  command_to x [] place at s l k = cut k 1 at
  command_to x (p ∷ r) place at s l k =
      either (To g.input) (eqb p 0x4F) k
      (either (To g.input) (eqb p 0x40 || eqb p 0x41) (definition_to x p r place at s l k) (issued k at (MalformedControl 0x95)))

  -- ---- characters

  char1_to : (number c at : ℕ) (s : State) → Fine g.input s → Fine g.input (char1 g left R number c at s)
  unfolding char1
  char1_to number c at s k =
      either (Fine g.input) (eqb number 15) (macro_to c at s k)
      (either (Fine g.input) (leb 4 number && leb number 7) (mosaic_to k number c at)
      (either (Fine g.input) (leb 17 number) (placed k at (Drcs (number - 16) c))
      (emit_or_lem k (UndefinedCode number c) (letter (is_narrow g s) number c) at)))

  graphic_to : (element x : ℕ) (rest : List ℕ) (at : ℕ) (s : State) → Fine g.input s → To g.input (graphic g left R element x rest at s)
  unfolding graphic graphic_of
  graphic_to element x rest at s k =
      let number = get_or s.sets element 0 in
      either (To g.input) (eqb (bytes_per_char number) 2) (graphic2_to k g number x rest at) (char1_to number (x % 128) at s k)

  shift_to : (element : ℕ) (rest : List ℕ) (at : ℕ) (s : State) → Fine g.input s → To g.input (single_shift g left R element rest at s)
  unfolding single_shift
  shift_to element [] at s k = cut k 1 at
  shift_to element (y ∷ r) at s k = either (To g.input) (is_graphic y) (graphic_to element y r at s k) (issued k at LoneSingleShift)

  -- ---- a step, and the steps of a part of the input

  control0_to : (x : ℕ) (rest : List ℕ) (place at : ℕ) (s : State) → Fine g.input s → To g.input (control0 g left R x rest place at s)
  unfolding control0
  control0_to x rest place at s k =
      either (To g.input) (eqb x 0x20) (space_to k g)
      (either (To g.input) (eqb x 0x0F) (invoked_left k 0 (omega arith))
      (either (To g.input) (eqb x 0x0E) (invoked_left k 1 (omega arith))
      (either (To g.input) (eqb x 0x19) (shift_to 2 rest at s k)
      (either (To g.input) (eqb x 0x1D) (shift_to 3 rest at s k)
      (either (To g.input) (eqb x 0x1B) (escape_to k rest place at)
      (either (To g.input) (eqb x 0x0D) (newlines k)
      (fixed_to k x rest at)))))))

  control1_to : (x : ℕ) (rest : List ℕ) (place at : ℕ) (s : State) → LiesAt g.input place (x ∷ rest) → Fine g.input s
      → To g.input (control1 g left R x rest place at s)
  unfolding control1
  control1_to x rest place at s l k =
      either (To g.input) (eqb x 0x88 || eqb x 0x89) (sized k true)
      (either (To g.input) (eqb x 0x8A) (sized k false)
      (either (To g.input) (eqb x 0x8B) (szx_to k rest at)
      (either (To g.input) (eqb x 0x98) (rpc_to k rest at)
      (either (To g.input) (eqb x 0x90 || eqb x 0x92) (colour_to k rest at)
      (either (To g.input) (eqb x 0x9D) (time_to k rest at)
      (either (To g.input) (eqb x 0x9B) (csi_to k rest at)
      (either (To g.input) (eqb x 0x95) (command_to x rest place at s l k)
      (fixed_to k x rest at))))))))

  pub step_to : (x : ℕ) (rest : List ℕ) (place at : ℕ) (s : State) → LiesAt g.input place (x ∷ rest) → Fine g.input s
      → To g.input (step g left R x rest place at s)
  unfolding step
  step_to x rest place at s l k =
      either (To g.input) (is_gl x) (graphic_to s.gl x rest at s k)
      (either (To g.input) (is_gr x) (graphic_to s.gr x rest at s k)
      (either (To g.input) (ltb x 0x80) (control0_to x rest place at s k) (control1_to x rest place at s l k)))

  steps_to_lem : (base origin : ℕ) (b : List ℕ) (i n : ℕ) (s : State) → LiesAt g.input (base + i) b → Fine g.input s
      → Fine g.input (steps g left R base origin b i n s)
  unfolding steps
  steps_to_lem base origin [] i n s l k = k
  steps_to_lem base origin (x ∷ xs) i zero s l k =
      let w = step g left R x xs (base + i) (offset origin i) s in
      steps_to_lem base origin xs (i + 1) (w.used - 1) w.to (stands_next g.input base i x xs l) (step_to x xs (base + i) (offset origin i) s l k)
  steps_to_lem base origin (x ∷ xs) i (suc n) s l k = steps_to_lem base origin xs (i + 1) n s (stands_next g.input base i x xs l) k

-- ---- the built-in bodies

-- four designations, LS0 and LS2R
abbrev settled : List ℕ → State → State
settled row s = invoke_gr 2 (invoke_gl 0 (designate 3 15 (designate 2 (get_or row 2 0) (designate 1 (get_or row 1 0) (designate 0 (get_or row 0 0) s)))))

-- each row of Table 7-18 is run
built_in : (g : Given) (left : ℕ) (R : Run) (base at : ℕ) (s : State) → All (λ row. steps g left R base (suc at) (builtin_of row) 0 0 s ≡ settled row s) builtin_sets
unfolding steps builtin_of
built_in g left R base at s =
    (refl, (refl, (refl, (refl, (refl, (refl, (refl, (refl, (refl, (refl, (refl, (refl, (refl, (refl, (refl, (refl, tt))))))))))))))))

test_small : (n : ℕ) → T (leb n 31) → n ≤ 31
test_small n t = go (leb n 31) refl t
  where
    go : (b : Bool) → leb n 31 ≡ b → T b → n ≤ 31
    go true e t = leb-true n 31 e
    go false e t = absurd t

settled_fine : {input : List ℕ} {s : State} → Fine input s → (i : ℕ) → i < 16 → Fine input (settled (get_or builtin_sets i []) s)
settled_fine k i h =
    let a = test_small _ (at [] (λ _ row. leb (get_or row 0 0) 31) builtin_sets tt i h) in
    let b = test_small _ (at [] (λ _ row. leb (get_or row 1 0) 31) builtin_sets tt i h) in
    let c = test_small _ (at [] (λ _ row. leb (get_or row 2 0) 31) builtin_sets tt i h) in
    invoked_right (invoked_left (designates (designates (designates (designates k 0 _ a) 1 _ b) 2 _ c) 3 15 (omega arith)) 0 (omega arith)) 2 (omega arith)

-- ---- the run of a body

whole_to : (g : Given) (left : ℕ) (R : Run) → Runs g R → Runs g (λ b base origin s. steps g left R base origin b 0 0 s)
whole_to g left R runs b base at s (inl l) k = steps_to_lem g left R runs base (suc at) b 0 0 s (rw add-zero l) k
whole_to g left R runs b base at s (inr q) k =
    let e : steps g left R base (suc at) b 0 0 s ≡ settled (get_or builtin_sets q.0 []) s =
    ap (λ (l : List ℕ). steps g left R base (suc at) l 0 0 s) q.2
    ∙ all_at (λ row. steps g left R base (suc at) (builtin_of row) 0 0 s ≡ settled row s) [] builtin_sets (built_in g left R base at s) q.0 q.1 in
    subst (Fine g.input) (sym e) (settled_fine k q.0 q.1)

pub runs_fine : (g : Given) (left : ℕ) → Runs g (run g left)
unfolding run
runs_fine g zero = whole_to g zero (λ b base origin s. s) (λ b base at s body k. k)
runs_fine g (suc left) = whole_to g (suc left) (run g left) (runs_fine g left)
