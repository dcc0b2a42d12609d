-- `step`: MACRO, a character, or a shifted one.
use mathlib.Core.Path.{◌∙◌}
use Rattle.decode_steps.proofs.Dispatch.{step_char, step_shift, step_macro}
use Rattle.decode_bodies.proofs.Stops.{told, stops_before, shift_char}
use Rattle.decode_outer.proofs.Defining.{outer_as, shift_outer}
use Rattle.decode_outer.proofs.step.Goals as goal

pub macro_cmd-requires : goal.macro_cmd-requires
macro_cmd-requires c = record { outside = c.requires.outside; i_in_bounds = stops_before _ _ _ _ c.requires.stops_at }

pub returns-in-Macro : goal.returns-in-Macro
returns-in-Macro c =
    let h = told _ _ _ c.in-Macro.is c.requires.stops_at in
    outer_as (λ g s k. step_macro g _ _ _ _ _ _ s h.1) c.macro_cmd.ensures

pub returns-in-Char : goal.returns-in-Char
returns-in-Char c =
    let h = told _ _ _ c.in-Char.is c.requires.stops_at in
    outer_as (λ g s k. step_char g _ _ _ _ _ _ s _ _ k.gl k.gr h.char) (c.call.ensures _ h.macros)

pub returns-in-Shifted : goal.returns-in-Shifted
returns-in-Shifted c =
    let h = told _ _ _ c.in-Shifted.is c.requires.stops_at in
    outer_as (λ g s k. step_shift g _ _ _ _ _ _ s _ h.shift ∙ shift_char g _ _ _ _ _ _ s h.within h.behind)
    (shift_outer (c.call-in-Shifted.ensures _ h.macros))
