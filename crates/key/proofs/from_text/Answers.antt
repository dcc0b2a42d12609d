-- `key::from_text` meets its contract: the key, or 11 where there are private-use characters. Assumes nothing.
use Prim.Native.Nat.{ℕ}
use mathlib.Core.Path.{sym, ap, ◌∙◌}
use mathlib.Core.List.{[]}
use native.Mathlib.Omega.{arith}
use lib.Seq.{length-take-le}
use Rattle.questions.specs.Buffer.{padded}
use Rattle.questions.proofs.Buffers.{clear_all}
use Rattle.key.proofs.Calls.{keyed, refused_11}
use Rattle.key.proofs.from_text.Goals as goal

pub returns-then-decoded-gt0 : goal.returns-then-decoded-gt0
returns-then-decoded-gt0 c =
    let a = c.args in
    λ l d.
    refused_11 l a.decoded a.buffer.now d (λ z. omega (arith, c.if-decoded-gt0.true, z)) _
    (c.clear.ensures ∙ clear_all a.buffer.now ∙ ap (λ (n : ℕ). padded n []) d.room)

pub slice_bounds-remove-end-2 : goal.slice_bounds-remove-end-2
slice_bounds-remove-end-2 c = sym (length-take-le _ _ c.requires)

pub returns : goal.returns
returns c =
    let a = c.args in
    λ l d. keyed l a.decoded a.buffer.now d (omega (arith, c.if-decoded-gt0.false)) _ _ c.remove.ensures
