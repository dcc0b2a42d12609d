-- `counts_hold` meets its contract. Assumes nothing.
use Prim.Native.Nat.{ℕ, ◌+◌, ◌*◌}
use mathlib.Core.Path.{◌≡◌, refl, sym, ap, ap₂, ◌∙◌}
use mathlib.Core.Bool.{Bool, ◌&&◌}
use mathlib.Core.List.{List}
use native.Mathlib.Omega.{arith}
use borrow.Author.Tests.{le-leb, lt-leb}
use lib.Dec.{leb}
use lib.ListN.{length, get_or}
use Rattle.reading.specs.Macros.{limit}
use Rattle.bookmark_form.specs.Form.{counts_hold}
use Rattle.bookmark_form.proofs.Below.{passes, fails, five}
use Rattle.bookmark_form.proofs.counts_hold.Goals as goal
use Rattle.bookmark_form.proofs.counts_hold.Goals.{then-l-input, else-l-input, then-l-le63, else-l-le63, then-l-le16, else-l-le16}

-- the five tests, of an input of so many bytes
tested : (l b : List ℕ) (n : ℕ) (u v w r : Bool) → length b ≡ n → u ≡ (leb (get_or l 1 0) n && leb (get_or l 9 0) 63) → v ≡ (u && leb (get_or l 10 0) 16)
    → w ≡ (v && leb (get_or l 284 0) (n * 64 + 4096)) → r ≡ (w && leb (get_or l 285 0) 2147483647) → r ≡ counts_hold b l
unfolding counts_hold limit
tested l b n u v w r e p q s t =
    let m : n * 64 + 4096 ≡ 64 * length b + 4096 = omega arith in
    t
    ∙ (ap (λ (x : Bool). x && leb (get_or l 285 0) 2147483647)
    (s ∙ ap (λ (x : Bool). x && leb (get_or l 284 0) (n * 64 + 4096)) (q ∙ ap (λ (x : Bool). x && leb (get_or l 10 0) 16) p))
    ∙ (five (leb (get_or l 1 0) n) (leb (get_or l 9 0) 63) (leb (get_or l 10 0) 16) (leb (get_or l 284 0) (n * 64 + 4096)) (leb (get_or l 285 0) 2147483647)
    ∙ ap₂ (λ (x y : ℕ). leb (get_or l 1 0) x && (leb (get_or l 9 0) 63 && (leb (get_or l 10 0) 16 && (leb (get_or l 284 0) y && leb (get_or l 285 0) 2147483647)))) (sym e) m))

pub returns-then-l-input-2 : goal.returns-then-l-input-2
returns-then-l-input-2 c =
    λ b e.
    let l = c.args.l.now in
    let n = c.args.input in
    let p : c.if-l-input.value ≡ (leb (get_or l 1 0) n && leb (get_or l 9 0) 63) = elim c.if-l-input.branch [
      | then-l-input w ↦ passes _ _ (le-leb _ _ w.if-l-input.true) w.value-is
      | else-l-input w ↦ fails _ _ (lt-leb _ _ w.if-l-input.false) w.value-is
    ] in
    let q : c.if-l-le63.value ≡ (c.if-l-input.value && leb (get_or l 10 0) 16) = elim c.if-l-le63.branch [
      | then-l-le63 w ↦ passes _ _ w.if-l-le63.true w.value-is
      | else-l-le63 w ↦ fails _ _ w.if-l-le63.false w.value-is
    ] in
    let s : c.if-l-le16.value ≡ (c.if-l-le63.value && leb (get_or l 284 0) (n * 64 + 4096)) = elim c.if-l-le16.branch [
      | then-l-le16 w ↦ passes _ _ w.if-l-le16.true w.value-is
      | else-l-le16 w ↦ fails _ _ w.if-l-le16.false w.value-is
    ] in
    tested l b n c.if-l-input.value c.if-l-le63.value c.if-l-le16.value _ e p q s (passes _ _ c.if-l-input-2.true refl)

pub returns-else-l-input-2 : goal.returns-else-l-input-2
returns-else-l-input-2 c =
    λ b e.
    let l = c.args.l.now in
    let n = c.args.input in
    let p : c.if-l-input.value ≡ (leb (get_or l 1 0) n && leb (get_or l 9 0) 63) = elim c.if-l-input.branch [
      | then-l-input w ↦ passes _ _ (le-leb _ _ w.if-l-input.true) w.value-is
      | else-l-input w ↦ fails _ _ (lt-leb _ _ w.if-l-input.false) w.value-is
    ] in
    let q : c.if-l-le63.value ≡ (c.if-l-input.value && leb (get_or l 10 0) 16) = elim c.if-l-le63.branch [
      | then-l-le63 w ↦ passes _ _ w.if-l-le63.true w.value-is
      | else-l-le63 w ↦ fails _ _ w.if-l-le63.false w.value-is
    ] in
    let s : c.if-l-le16.value ≡ (c.if-l-le63.value && leb (get_or l 284 0) (n * 64 + 4096)) = elim c.if-l-le16.branch [
      | then-l-le16 w ↦ passes _ _ w.if-l-le16.true w.value-is
      | else-l-le16 w ↦ fails _ _ w.if-l-le16.false w.value-is
    ] in
    tested l b n c.if-l-input.value c.if-l-le63.value c.if-l-le16.value _ e p q s (fails _ _ c.if-l-input-2.false refl)
