-- `time` meets its contract. Assumes nothing.
use Prim.Native.Nat.{ℕ, ◌+◌, ◌-◌}
use mathlib.Core.Path.{◌≡◌, refl, ap, ◌∙◌}
use mathlib.Core.Bool.{false}
use mathlib.Core.Logic.{inl, inr}
use native.Mathlib.Omega.{arith}
use lib.ListN.{drop}
use Rattle.reading.specs.Controls.{sequence_from, time}
use Rattle.decode_controls.proofs.Effects.{reads_of, reads_as, bounded}
use Rattle.decode_controls.proofs.Cases.{at_end, at_head, time_two, time_sequence, time_malformed}
use Rattle.decode_controls.specs.Controls.{step_of}
use Rattle.decode_controls.proofs.time.Goals as goal

pub returns-then-b-i : goal.returns-then-b-i
unfolding time
returns-then-b-i c =
    let a = c.args in
    c.cut.ensures _ (λ place at s. at_end (λ l. time l at s) a.b.now a.i at s refl c.requires c.if-b-i.true)

pub returns-in-32 : goal.returns-in-32
returns-in-32 c =
    let a = c.args in
    reads_as (λ place at s. at_head (λ l. time l at s) a.b.now a.i _ c.if-b-i.false (time_two _ _ at s c.in-32.is)) c.second.ensures

pub returns-in-41 : goal.returns-in-41
returns-in-41 c =
    let a = c.args in
    let n : 2 ≡ a.i + 2 - a.i = omega arith in
    reads_as
    (λ place at s.
    at_head (λ l. time l at s) a.b.now a.i _ c.if-b-i.false
    (time_sequence _ _ at s c.in-41.is ∙ ap (λ (k : ℕ). sequence_from false 0x9D k (drop (a.i + 2) a.b.now) at s) n))
    c.sequence.ensures

pub returns-in_default : goal.returns-in_default
unfolding step_of
returns-in_default c =
    let a = c.args in
    let more = c.if-b-i.false in
    let other = c.in_default.in_default-own.rest in
    reads_of _ _ (bounded refl refl) (omega arith) (omega arith)
    (λ place at s.
    at_head (λ l. time l at s) a.b.now a.i _ more
    (time_malformed _ _ at s (λ e. other.0.1 (inl e)) (λ e. other.0.1 (inr e)) other.1))
