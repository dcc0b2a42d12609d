-- `stop_at` meets its contract, by the byte.
use mathlib.Core.Path.{refl}
use mathlib.Core.Logic.{inl, inr}
use native.Mathlib.Omega.{arith}
use Rattle.decode_controls.proofs.Bytes.{gl_in, gl_below, gl_above, gr_in, gr_below, gr_above}
use Rattle.decode_steps.proofs.Stops.{passes_other}
use Rattle.decode_steps.proofs.stop_at.Goals as goal

pub stop_shift-requires : goal.stop_shift-requires
stop_shift-requires c = (c.requires.0, omega arith, inl (c.in-25.is, refl))

pub stop_shift-requires-in-29 : goal.stop_shift-requires-in-29
stop_shift-requires-in-29 c = (c.requires.0, omega arith, inr (c.in-29.is, refl))

pub stop_char-requires : goal.stop_char-requires
stop_char-requires c =
    record { element = c.requires.1; through = inl (gl_in _ (omega arith) (omega arith), refl) }

pub stop_char-requires-in-161-to-254 : goal.stop_char-requires-in-161-to-254
stop_char-requires-in-161-to-254 c =
    record { element = c.requires.2; through = inr (gl_above _ (omega arith), gr_in _ (omega arith) (omega arith), refl) }

pub returns-in-33-to-126 : goal.returns-in-33-to-126
returns-in-33-to-126 c =
    c.stop_char.ensures c.args.b.now c.args.i c.requires.0 refl

pub returns-in-161-to-254 : goal.returns-in-161-to-254
returns-in-161-to-254 c =
    c.stop_char-in-161-to-254.ensures c.args.b.now c.args.i c.requires.0 refl

pub returns-in_default : goal.returns-in_default
returns-in_default c =
    let a = c.args in
    passes_other a.b.now a.i a.s (gl_below _ (omega arith)) (gr_below _ (omega arith)) c.in_default.in_default-own.rest.0.0.1 c.in_default.in_default-own.rest.0.1 c.in_default.in_default-own.rest.1

pub returns-in_default-2 : goal.returns-in_default-2
returns-in_default-2 c =
    let a = c.args in
    passes_other a.b.now a.i a.s (gl_above _ (omega arith)) (gr_below _ (omega arith)) c.in_default.in_default-own.rest.0.0.1 c.in_default.in_default-own.rest.0.1 c.in_default.in_default-own.rest.1

pub returns-in_default-3 : goal.returns-in_default-3
returns-in_default-3 c =
    let a = c.args in
    passes_other a.b.now a.i a.s (gl_above _ (omega arith)) (gr_above _ (omega arith)) c.in_default.in_default-own.rest.0.0.1 c.in_default.in_default-own.rest.0.1 c.in_default.in_default-own.rest.1
