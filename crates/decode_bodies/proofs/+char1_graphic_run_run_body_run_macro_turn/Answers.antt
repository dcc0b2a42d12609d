-- The functions that call each other through macro bodies meet their contracts together, over the measure that falls.
use native.Mathlib.Omega.{arith}
use Rattle.decode_bodies.proofs.Steps.{ran_as, step_as, one_step, did_ran, shift_step, took_ran}
use Rattle.decode_bodies.proofs.Bodies.{char1_macro, graphic_macro, macro_defined, macro_built_in, macro_none, body_within, body_bare}
use Rattle.decode_bodies.proofs.Bodies.{built_test, built_none, built_body, deeper, body_deep, body_dear, ran_body, ran_empty}
use Prim.Native.Nat.{ℕ, ◌+◌, ◌-◌, ◌≤◌, ◌<◌}
use mathlib.Core.Path.{◌≡◌, refl, sym, ap, ◌∙◌}
use mathlib.Core.List.{List}
use lib.ListN.{length, get_or}
use lib.Seq.{length-take-le}
use Rattle.decode_bodies.proofs.Room.{ready_good, opens_to, limit_is, ready_body, ready_left, ready_less}
use Rattle.reading.specs.Macros.{limit}
use Rattle.decode_steps.proofs.Dispatch.{step_char, step_shift, step_macro}
use Rattle.decode_bodies.specs.Promises.{below}
use Rattle.decode_bodies.proofs.Stops.{told, stops, over_at, stops_before, shift_char}
use Rattle.decode_bodies.proofs.Along.{along_start, along_stretch, along_step, along_cut, along_over, went_all, inside_step}
use Rattle.decode_bodies.proofs.+char1_graphic_run_run_body_run_macro_turn.Goals as goal

-- `char1`: the macro of the character runs.

pub char1-run_macro-requires : goal.char1-run_macro-requires
char1-run_macro-requires t c =
    (omega arith, (c.requires.opens, c.requires.c_bound))

pub char1-returns : goal.char1-returns
char1-returns t c =
    ran_as (λ g y s h. char1_macro g _ _ _ _ s) c.run_macro.ensures

-- `graphic`: one byte, whose character is of the macro set.

pub graphic-char1-requires : goal.graphic-char1-requires
graphic-char1-requires t c =
    (omega arith, (c.requires.opens, omega arith))

pub graphic-returns : goal.graphic-returns
graphic-returns t c =
    λ e b i q l k. step_as (λ g s h. graphic_macro g _ _ _ _ _ _ s h.sets q) (one_step l c.char1.ensures)

-- `run_macro`: the body that was defined, the built-in one, or none.

pub run_macro-overflow_add-end : goal.run_macro-overflow_add-end
run_macro-overflow_add-end t c = omega (arith, body_within c.args.inputs.now.macros.now c.args.code c.requires.opens.inside, c.requires.opens.input_short)

pub run_macro-slice_bounds-run_body-count : goal.run_macro-slice_bounds-run_body-count
run_macro-slice_bounds-run_body-count t c = omega (arith, body_within c.args.inputs.now.macros.now c.args.code c.requires.opens.inside, c.requires.opens.input_short)

pub run_macro-slice_bounds-run_body-start : goal.run_macro-slice_bounds-run_body-start
run_macro-slice_bounds-run_body-start t c = omega (arith, body_within c.args.inputs.now.macros.now c.args.code c.requires.opens.inside, c.requires.opens.input_short)

pub run_macro-slice_bounds-run_body-end : goal.run_macro-slice_bounds-run_body-end
run_macro-slice_bounds-run_body-end t c = omega (arith, body_within c.args.inputs.now.macros.now c.args.code c.requires.opens.inside, c.requires.opens.input_short)

pub run_macro-run_body-requires : goal.run_macro-run_body-requires
run_macro-run_body-requires t c =
    let a = c.args in
    let opens = c.requires.opens in
    let macros = a.inputs.now.macros.now in
    let base : get_or macros.starts a.code 0 ≤ 65535 = omega (arith, body_within macros a.code opens.inside, opens.input_short) in (
      omega arith,
      (opens_to _ base opens.at opens.ready opens, body_bare macros a.code opens.input_short opens.inside),
    )

pub run_macro-returns-then-start-gt0 : goal.run_macro-returns-then-start-gt0
run_macro-returns-then-start-gt0 t c =
    let a = c.args in
    let macros = a.inputs.now.macros.now in
    let start = get_or macros.starts a.code 0 in
    let len = get_or macros.lens a.code 0 in
    let k : start + len - start ≡ len = omega arith in
    let n : start ≡ 0 → ⊥ = λ z. omega (arith, c.if-start-gt0.true, z) in
    let at_code : List ℕ → ℕ = λ l. get_or l a.code 0 in
    ran_as (λ g y s h. macro_defined g _ _ _ _ s start len (ap at_code h.starts) (ap at_code h.lens) n ∙ rw (y, k)) c.run_body.ensures

pub run_macro-slice_bounds-body-end : goal.run_macro-slice_bounds-body-end
run_macro-slice_bounds-body-end t c = c.default_macro-n.ensures.fits

pub run_macro-slice_bounds-run_body-end-then-n-gt0 : goal.run_macro-slice_bounds-run_body-end-then-n-gt0
run_macro-slice_bounds-run_body-end-then-n-gt0 t c = sym (length-take-le _ _ c.default_macro-n.ensures.fits)

pub run_macro-run_body-requires-then-n-gt0 : goal.run_macro-run_body-requires-then-n-gt0
run_macro-run_body-requires-then-n-gt0 t c =
    let opens = c.requires.opens in (
      omega arith,
      (opens_to _ (omega arith) opens.at opens.ready opens, built_body c.default_macro-n.ensures c.if-n-gt0.true (omega arith)),
    )

pub run_macro-overflow_cast-code : goal.run_macro-overflow_cast-code
run_macro-overflow_cast-code t c =
    omega (arith, c.requires.code_bound)

pub run_macro-report-requires : goal.run_macro-report-requires
run_macro-report-requires t c =
    ready_good c.requires.opens.ready

pub run_macro-returns-then-n-gt0 : goal.run_macro-returns-then-n-gt0
run_macro-returns-then-n-gt0 t c =
    let a = c.args in
    let built = c.default_macro-n.ensures in
    let test = built_test built c.if-n-gt0.true in
    let none : get_or a.inputs.now.macros.now.starts a.code 0 ≡ 0 = omega (arith, c.if-start-gt0.false) in
    let at_code : List ℕ → ℕ = λ l. get_or l a.code 0 in
    ran_as (λ g y s h. macro_built_in g _ _ _ _ s (ap at_code h.starts ∙ none) test ∙ rw (← built.has test)) c.run_body-then-n-gt0.ensures

pub run_macro-returns-else-n-gt0 : goal.run_macro-returns-else-n-gt0
run_macro-returns-else-n-gt0 t c =
    let a = c.args in
    let none : get_or a.inputs.now.macros.now.starts a.code 0 ≡ 0 = omega (arith, c.if-start-gt0.false) in
    let empty : c.default_macro-n.result ≡ 0 = omega (arith, c.if-n-gt0.false) in
    let at_code : List ℕ → ℕ = λ l. get_or l a.code 0 in
    ran_as (λ g y s h. macro_none g _ _ _ _ s (ap at_code h.starts ∙ none) (built_none c.default_macro-n.ensures empty))
    (did_ran c.requires.opens.ready.within (c.report.ensures a.inputs.now.cells.now _))

-- `run_body`: MacroLimit, an empty body, or a body that runs one deeper.

pub run_body-report-requires : goal.run_body-report-requires
run_body-report-requires t c =
    ready_good c.requires.opens.ready

pub run_body-returns-then-p-eq0 : goal.run_body-returns-then-p-eq0
run_body-returns-then-p-eq0 t c =
    ran_as (λ g y s h. body_deep g _ _ _ _ _ s c.if-p-eq0.true)
    (did_ran c.requires.opens.ready.within (c.report.ensures c.args.inputs.now.cells.now _))

pub run_body-overflow_add-after : goal.run_body-overflow_add-after
run_body-overflow_add-after t c =
    let opens = c.requires.opens in
    omega (arith, limit_is c.args.inputs.now.input.now, opens.ready.within, opens.input_short, c.requires.body.short)

pub run_body-overflow_mul-inputs : goal.run_body-overflow_mul-inputs
run_body-overflow_mul-inputs t c =
    omega (arith, c.requires.opens.input_short)

pub run_body-overflow_add-inputs : goal.run_body-overflow_add-inputs
run_body-overflow_add-inputs t c =
    omega (arith, c.requires.opens.input_short)

pub run_body-report-requires-then-after-inputs : goal.run_body-report-requires-then-after-inputs
run_body-report-requires-then-after-inputs t c =
    ready_good c.requires.opens.ready

pub run_body-returns-then-after-inputs : goal.run_body-returns-then-after-inputs
run_body-returns-then-after-inputs t c =
    let a = c.args in
    let over : limit a.inputs.now.input.now < a.s.charged + length a.body.now = omega (arith, limit_is a.inputs.now.input.now, c.if-after-inputs.true) in
    ran_as (λ g y s h. body_dear g _ _ _ _ _ s c.if-p-eq0.false (rw (h.charged, y) over))
    (did_ran c.requires.opens.ready.within (c.report-then-after-inputs.ensures a.inputs.now.cells.now _))

pub run_body-returns-then-body-eq0 : goal.run_body-returns-then-body-eq0
run_body-returns-then-body-eq0 t c =
    ran_empty _ _ _ c.args.p _ _ _ c.if-p-eq0.false c.if-body-eq0.true c.requires.opens.ready

pub run_body-overflow_cast-t : goal.run_body-overflow_cast-t
run_body-overflow_cast-t t c =
    omega (arith, c.if-after-inputs.false, c.requires.opens.input_short)

pub run_body-overflow_sub-deeper : goal.run_body-overflow_sub-deeper
run_body-overflow_sub-deeper t c =
    omega (arith, c.if-p-eq0.false)

pub run_body-run-requires : goal.run_body-run-requires
run_body-run-requires t c =
    let a = c.args in
    let opens = c.requires.opens in
    let fits : a.s.charged + length a.body.now ≤ limit a.inputs.now.input.now = omega (arith, limit_is a.inputs.now.input.now, c.if-after-inputs.false) in (
      omega (arith, c.if-p-eq0.false),
      (opens_to (deeper a.p) opens.base opens.at (ready_body opens.ready fits) opens, c.requires.body),
    )

pub run_body-returns : goal.run_body-returns
run_body-returns t c =
    let a = c.args in
    let fits : a.s.charged + length a.body.now ≤ limit a.inputs.now.input.now = omega (arith, limit_is a.inputs.now.input.now, c.if-after-inputs.false) in
    ran_body _ _ _ a.p _ _ _ c.if-p-eq0.false fits c.run.ensures

-- `turn`: a character, a shifted one, or MACRO.

pub turn-graphic-core-requires : goal.turn-graphic-core-requires
turn-graphic-core-requires t c =
    (omega arith, c.requires.opens)

pub turn-overflow_add-i : goal.turn-overflow_add-i
turn-overflow_add-i t c =
    omega (arith, c.requires.body.short, stops_before _ _ _ _ c.requires.stops_at)

pub turn-graphic-core-requires-in-Shifted : goal.turn-graphic-core-requires-in-Shifted
turn-graphic-core-requires-in-Shifted t c =
    (omega arith, c.requires.opens)

pub turn-macro_cmd-requires : goal.turn-macro_cmd-requires
turn-macro_cmd-requires t c =
    let h = told _ _ _ c.in-Macro.is c.requires.stops_at in
    record { i_in_bounds = h; body = c.requires.body; may_take = ready_good c.requires.opens.ready }

pub turn-returns-in-Char : goal.turn-returns-in-Char
turn-returns-in-Char t c =
    let h = told _ _ _ c.in-Char.is c.requires.stops_at in
    step_as (λ g s k. step_char g _ _ _ _ _ _ s _ _ k.gl k.gr h.char) (c.graphic-core.ensures _ _ _ h.macros h.within refl)

pub turn-returns-in-Shifted : goal.turn-returns-in-Shifted
turn-returns-in-Shifted t c =
    let h = told _ _ _ c.in-Shifted.is c.requires.stops_at in
    step_as (λ g s k. step_shift g _ _ _ _ _ _ s _ h.shift ∙ shift_char g _ _ _ _ _ _ s h.within h.behind)
    (shift_step (c.graphic-core-in-Shifted.ensures _ _ _ h.macros h.within refl))

pub turn-returns-in-Macro : goal.turn-returns-in-Macro
turn-returns-in-Macro t c =
    let a = c.args in
    let h = told _ _ _ c.in-Macro.is c.requires.stops_at in
    step_as (λ g s k. step_macro g _ _ _ _ _ _ s h.1)
    (took_ran (λ g. below g a.p.left) c.requires.opens.ready.within
    (λ R. c.macro_cmd.ensures a.p.left R (a.p.base + a.f.at) a.inputs.now.cells.now _))

-- `run`: the loop goes along the body; the measure of the loop is what is left unread of it.

pub run-loop-stop-init : goal.run-loop-stop-init
run-loop-stop-init t c =
    along_start (omega arith) c.requires.opens.ready

pub run-overflow_add-origin : goal.run-overflow_add-origin
run-overflow_add-origin t c =
    omega (arith, c.requires.opens.at)

pub run-plain-f-requires : goal.run-plain-f-requires
run-plain-f-requires t c =
    let inv = c.loop-stop.invariant in
    let opens = c.requires.opens in
    let body = c.requires.body in
    record { from_in_bounds = (inv.within, body.short, opens.base, omega arith); may_take = ready_good (ready_left opens.ready inv.within inv.grown) }

pub run-returns-in_default : goal.run-returns-in_default
run-returns-in_default t c =
    let inv = c.loop-stop.invariant in
    let w = along_stretch inv c.plain-f.ensures.stretch c.plain-f.auto.text c.plain-f.auto.issues in
    went_all (along_over w (over_at _ _ _ _ c.in_default.is c.plain-f.ensures.stop))

pub run-turn-r-requires : goal.run-turn-r-requires
run-turn-r-requires t c =
    let opens = c.requires.opens in
    let w =
    along_stretch c.loop-stop.invariant c.plain-f.ensures.stretch c.plain-f.auto.text c.plain-f.auto.issues in
    let stop = stops _ _ _ _ c.in-Some.is c.plain-f.ensures.stop in
    let before = stop.0 in
    let ready = ready_less {e = 1} (ready_left opens.ready w.within w.grown) (omega (arith, before)) in (
      omega arith,
      (opens_to c.args.p opens.base opens.at ready opens, (c.requires.body, stop.1)),
    )

pub run-returns-then-ended : goal.run-returns-then-ended
run-returns-then-ended t c =
    let w =
    along_stretch c.loop-stop.invariant c.plain-f.ensures.stretch c.plain-f.auto.text c.plain-f.auto.issues in
    let before = (stops _ _ _ _ c.in-Some.is c.plain-f.ensures.stop).0 in
    went_all (along_cut w before before (inside_step c.args.p c.plain-f.result.at c.turn-r.ensures) 0
    (c.ended.ensures.0 c.if-ended.true))

pub run-overflow_add-i : goal.run-overflow_add-i
run-overflow_add-i t c =
    omega (arith, c.turn-r.ensures.most, c.requires.body.short)

pub run-loop-stop-smaller : goal.run-loop-stop-smaller
run-loop-stop-smaller t c =
    let before = (stops _ _ _ _ c.in-Some.is c.plain-f.ensures.stop).0 in
    omega (arith, c.turn-r.ensures.some, c.turn-r.ensures.most, c.plain-f.ensures.stretch.past, before)

pub run-loop-stop-preserved : goal.run-loop-stop-preserved
run-loop-stop-preserved t c =
    let w =
    along_stretch c.loop-stop.invariant c.plain-f.ensures.stretch c.plain-f.auto.text c.plain-f.auto.issues in
    let before = (stops _ _ _ _ c.in-Some.is c.plain-f.ensures.stop).0 in
    along_step w before before (inside_step c.args.p c.plain-f.result.at c.turn-r.ensures)
    (c.ended.ensures.1 c.if-ended.false)
    c.turn-r.auto.text c.turn-r.auto.issues
