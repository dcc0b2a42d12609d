-- `body_holds` meets its contract. Assumes nothing.
use Prim.Native.Nat.{ℕ, ◌+◌, ◌-◌}
use mathlib.Core.Path.{◌≡◌, ap, ◌∙◌}
use mathlib.Core.List.{List}
use native.Mathlib.Omega.{arith}
use borrow.Author.Tests.{le-leb, lt-leb}
use lib.Dec.{eqb}
use lib.ListN.{take, drop}
use Rattle.reading.specs.Macros.{end_of}
use Rattle.bookmark_form.specs.Form.{body_holds}
use Rattle.bookmark_form.proofs.Below.{stops, passes}
use Rattle.bookmark_form.proofs.body_holds.Goals as goal

-- the part that is lent
ends : (input : List ℕ) (start len : ℕ) {r : ℕ} → r ≡ 0 + end_of (drop 0 (take ((start + len) - start) (drop start input)))
    → eqb r len ≡ eqb (end_of (take len (drop start input))) len
ends input start len e =
    let q : (start + len) - start ≡ len = omega arith in
    let z : 0 + end_of (take ((start + len) - start) (drop start input)) ≡ end_of (take ((start + len) - start) (drop start input)) = omega arith in
    ap (λ n. eqb n len) (e ∙ (z ∙ ap (λ n. end_of (take n (drop start input))) q))

pub returns-then-end-input : goal.returns-then-end-input
unfolding body_holds
returns-then-end-input c = stops _ _ (lt-leb _ _ c.if-end-input.true)

pub returns : goal.returns
unfolding body_holds
returns c =
    passes _ _ (le-leb _ _ c.if-end-input.false) (ends c.args.input.now c.args.start c.args.len c.body_end.ensures)
