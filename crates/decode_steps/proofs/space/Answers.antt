-- `space` meets its contract: the character is the definition's.
use mathlib.Core.Path.{◌≡◌, ap, ◌∙◌}
use mathlib.Core.Bool.{Bool, cond}
use native.Mathlib.Omega.{arith}
use Prim.Native.Nat.{◌<◌}
use Rattle.private_use.proofs.Laws.{below}
use Rattle.decode_steps.proofs.Moving.{took_over, took_as, took_writes}
use Rattle.decode_steps.proofs.Branches.{space_as}
use Rattle.decode_steps.proofs.space.Goals as goal
use Rattle.decode_steps.proofs.space.Goals.{then-is_narrow, else-is_narrow}

pub emit-o-requires : goal.emit-o-requires
emit-o-requires c =
    let low : c.if-is_narrow.c < 0xE000 = elim c.if-is_narrow.branch [ then-is_narrow w ↦ omega arith | else-is_narrow w ↦ omega arith ] in
    let room = c.requires.room in
    record { room = record { ordered = room.ordered; repeat = room.repeat; text = room.text; issues = omega arith }; c_value = below c.if-is_narrow.c low }

pub returns : goal.returns
returns c =
    let e : c.if-is_narrow.c ≡ cond c.is_narrow.result 0x20 0x3000 =
    elim c.if-is_narrow.branch [ then-is_narrow w ↦ rw w.if-is_narrow.true w.c-is | else-is_narrow w ↦ rw w.if-is_narrow.false w.c-is ] in
    λ cells b i₁ i l.
    took_as
    (λ g starts lens t₀ i₀ s h. space_as h c.if-is_narrow.c (e ∙ ap (λ (u : Bool). cond u 0x20 0x3000) c.is_narrow.ensures))
    (took_over (λ g. took_writes b i (omega arith) (omega arith) l c.requires (c.emit-o.ensures i₁)))
