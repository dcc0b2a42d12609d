-- `return_to`: the questions in order, and the rest. Assumes nothing.
use Prim.Native.Nat.{ℕ, ◌+◌, ◌-◌, ◌*◌, ◌≤◌}
use mathlib.Core.Path.{◌≡◌, refl, sym, ap, ◌∙◌}
use mathlib.Core.List.{List}
use native.Mathlib.Omega.{arith}
use lib.ListN.{length, take, drop, length-drop}
use lib.Seq.{length-take-le}
use Rattle.reading.specs.WithoutBuffers.{lent, refusal}
use Rattle.bookmark_form.specs.Form.{named}
use Rattle.questions.specs.declared.refusal.Refusal.TheVariants.{BookmarkMismatch}
use Rattle.bookmark.specs.Promises.{returning}
use Rattle.bookmark.proofs.Refusals.{return_questioned, return_refused, return_none, return_resumed, may_name, may_unset, may_not, may, name_known}
use Rattle.bookmark.proofs.Reaching.{short_input, store_long}
use Rattle.bookmark.proofs.return_to.Goals as goal

-- the part that is lent is the name's numbers
part-named : (store : List ℕ) (name : ℕ) → take (name * 287 + 287 - name * 287) (drop (name * 287) store) ≡ named store name
part-named store name =
    let e : name * 287 + 287 - name * 287 ≡ 287 = omega arith in
    ap (λ (k : ℕ). take k (drop (name * 287) store)) e

pub returns-in-Err : goal.returns-in-Err
unfolding refusal
returns-in-Err c =
    let a = c.args in
    return_questioned (returning (lent a.cells.now a.initial a.width a.input.now) a.name a.store.now a.text.now a.issues.now) _
    c.in-Err.ensures.number c.in-Err.ensures.place refl refl c.refuse.ensures

pub returns-then-not-name_holds : goal.returns-then-not-name_holds
unfolding refusal
returns-then-not-name_holds c =
    let a = c.args in
    let lends = returning (lent a.cells.now a.initial a.width a.input.now) a.name a.store.now a.text.now a.issues.now in
    return_refused lends BookmarkMismatch
    (return_none lends (sym c.in_default.ensures.number)
    (may_name lends (sym c.name_holds.ensures ∙ c.if-not-name_holds.true))) refl refl refl c.refuse-then-not-name_holds.ensures

pub slice_bounds-l-end : goal.slice_bounds-l-end
slice_bounds-l-end c =
    let n = name_known c.args.store.now c.args.name (sym c.name_holds.ensures ∙ c.if-not-name_holds.false) in
    omega (arith, n.0, store_long c.args.store.now n.1)

pub returns-then-l-ne1 : goal.returns-then-l-ne1
unfolding refusal
returns-then-l-ne1 c =
    let a = c.args in
    let lends = returning (lent a.cells.now a.initial a.width a.input.now) a.name a.store.now a.text.now a.issues.now in
    let none = may_unset lends (part-named a.store.now a.name) c.if-l-ne1.true in
    return_refused lends BookmarkMismatch (return_none lends (sym c.in_default.ensures.number) none) refl refl refl c.refuse-then-l-ne1.ensures

pub resumable-requires : goal.resumable-requires
unfolding refusal
resumable-requires c =
    let a = c.args in
    let n = name_known a.store.now a.name (sym c.name_holds.ensures ∙ c.if-not-name_holds.false) in
    let k : a.name * 287 + 287 - a.name * 287 ≤ length (drop (a.name * 287) a.store.now) = omega
    (arith, n.0, store_long a.store.now n.1, length-drop (a.name * 287) a.store.now) in (
      short_input (lent a.cells.now a.initial a.width a.input.now) (sym c.in_default.ensures.number),
      length-take-le _ _ k ∙
          (let e : a.name * 287 + 287 - a.name * 287 ≡ 287 = omega arith in e),
    )

pub returns-then-not-resumable : goal.returns-then-not-resumable
unfolding refusal
returns-then-not-resumable c =
    let a = c.args in
    let lends = returning (lent a.cells.now a.initial a.width a.input.now) a.name a.store.now a.text.now a.issues.now in
    let none = may_not lends (part-named a.store.now a.name) (sym c.resumable.ensures ∙ c.if-not-resumable.true) in
    return_refused lends BookmarkMismatch (return_none lends (sym c.in_default.ensures.number) none) refl refl refl c.refuse-then-not-resumable.ensures

pub read_on-requires : goal.read_on-requires
unfolding refusal
read_on-requires c =
    let a = c.args in
    let n = name_known a.store.now a.name (sym c.name_holds.ensures ∙ c.if-not-name_holds.false) in
    let k : a.name * 287 + 287 - a.name * 287 ≤ length (drop (a.name * 287) a.store.now) = omega
    (arith, n.0, store_long a.store.now n.1, length-drop (a.name * 287) a.store.now) in record {
      input_len_bound = (
        short_input (lent a.cells.now a.initial a.width a.input.now) (sym c.in_default.ensures.number),
        length-take-le _ _ k ∙
            (let e : a.name * 287 + 287 - a.name * 287 ≡ 287 = omega arith in e),
      );
      l_value = sym c.resumable.ensures ∙ c.if-not-resumable.false;
    }

pub returns : goal.returns
unfolding refusal
returns c =
    let a = c.args in
    let lends = returning (lent a.cells.now a.initial a.width a.input.now) a.name a.store.now a.text.now a.issues.now in
    let e = part-named a.store.now a.name in
    let pass = may lends e (sym c.name_holds.ensures ∙ c.if-not-name_holds.false) c.if-l-ne1.false
    (sym c.resumable.ensures ∙ c.if-not-resumable.false) in
    return_resumed lends (sym c.in_default.ensures.number) pass e c.read_on.ensures
