-- `add` meets its contract. Assumes nothing.
use mathlib.Core.Path.{◌≡◌, refl, sym, subst, ◌∙◌}
use borrow.Author.Rules.{rules}
use Rattle.std.specs.Prelude.{Err}
use Rattle.questions.specs.declared.refusal.Refusal.TheVariants.{CatalogueMismatch}
use Rattle.key.specs.Promises as keys
use Rattle.key.specs.Promises.{KeyAnswer}
use Rattle.catalogue.specs.Promises.{lent, Added}
use Rattle.catalogue.proofs.Calls.{not_formed_add}
use Rattle.catalogue.proofs.Answers.{added_refused, added_keyless, added_keyed, key_inside}
use Rattle.catalogue.proofs.add.Goals as goal

pub returns-then-not-form : goal.returns-then-not-form
returns-then-not-form c =
    let a = c.args in
    let call = lent (keys.lent a.cells.now a.initial a.width a.title.now a.key.now) a.number a.store.now in
    let no_form = sym c.form.ensures ∙ c.if-not-form.true in
    subst (λ (r : KeyAnswer). Added call r a.store.now c.refuse.new.key) (sym c.refuse.ensures.value)
    (added_refused call CatalogueMismatch (not_formed_add call no_form) refl c.refuse.ensures.key_after)

pub enter-requires : goal.enter-requires
enter-requires c =
    let a = c.args in
    let call = lent (keys.lent a.cells.now a.initial a.width a.title.now a.key.now) a.number a.store.now in
    let form = sym c.form.ensures ∙ c.if-not-form.false in
    record { store_value = form; len_in_bounds = key_inside call c.in_ok-keyed.ensures }

pub returns : goal.returns
returns c =
    let a = c.args in
    let call = lent (keys.lent a.cells.now a.initial a.width a.title.now a.key.now) a.number a.store.now in
    let form = sym c.form.ensures ∙ c.if-not-form.false in
    added_keyed call _ _ form c.in_ok-keyed.ensures c.enter.ensures

pub returns-in_err-keyed : goal.returns-in_err-keyed
returns-in_err-keyed c =
    let a = c.args in
    let call = lent (keys.lent a.cells.now a.initial a.width a.title.now a.key.now) a.number a.store.now in
    let form = sym c.form.ensures ∙ c.if-not-form.false in
    let e = c.in_err-keyed.field-0.0 in
    let is : c.from_residual.result ≡ Err e = search rules in
    subst (λ (r : KeyAnswer). Added call r a.store.now c.key.new.buffer) (sym is) (added_keyless call e _ form c.in_err-keyed.ensures)
