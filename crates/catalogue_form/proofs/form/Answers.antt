-- `form` meets its contract: each answer is that of what is asked, one after the other. Assumes nothing.
use Prim.Native.Nat.{ℕ, ◌+◌, ◌*◌}
use mathlib.Core.Path.{◌≡◌, sym, ap, ap₂, ◌∙◌}
use mathlib.Core.Bool.{true}
use mathlib.Core.List.{List}
use lib.Dec.{eqb}
use lib.ListN.{drop}
use Rattle.questions.specs.Questions.{all, zero?}
use Rattle.catalogue_distinct.specs.Distinct.{distinct, records}
use Rattle.catalogue_form.specs.Form.{value}
use Rattle.catalogue_form.specs.Promises.{places_hold}
use Rattle.lent.proofs.Parts.{lent_rest}
use Rattle.catalogue_form.proofs.Forms.{refused_long, refused_few, refused_hold, refused_rest, answered}
use native.Mathlib.Omega.{arith}
use Rattle.catalogue_form.proofs.form.Goals as goal

pub returns-then-store-ne-STORE : goal.returns-then-store-ne-STORE
returns-then-store-ne-STORE c =
    refused_long c.args.store.now c.if-store-ne-STORE.true

pub returns-then-n-gt-ENTRIES : goal.returns-then-n-gt-ENTRIES
returns-then-n-gt-ENTRIES c =
    refused_few c.args.store.now (omega (arith, c.number-n.ensures, c.if-n-gt-ENTRIES.true))

pub returns-then-not-rise : goal.returns-then-not-rise
returns-then-not-rise c =
    refused_hold c.args.store.now
    (ap₂ (places_hold 0) (sym c.number-n.ensures) (sym (lent_rest c.args.store.now 8)) ∙ (sym c.rise.ensures ∙ c.if-not-rise.true))

pub returns-then-not-zero : goal.returns-then-not-zero
returns-then-not-zero c =
    refused_rest c.args.store.now
    (ap (λ (n : ℕ). all zero? (drop (8 + n * 260) c.args.store.now)) (sym c.number-n.ensures)
    ∙ (ap (all zero?) (sym (lent_rest c.args.store.now _)) ∙ (sym c.zero.ensures ∙ c.if-not-zero.true)))

pub returns : goal.returns
returns c =
    let s = c.args.store.now in
    let n = c.number-n.ensures in
    let held : places_hold 0 (value s) (drop 8 s) ≡ true = ap₂ (places_hold 0) (sym n) (sym (lent_rest s 8)) ∙ (sym c.rise.ensures ∙ c.if-not-rise.false) in
    let rest : all zero? (drop (8 + value s * 260) s) ≡ true =
    ap (λ (k : ℕ). all zero? (drop (8 + k * 260) s)) (sym n) ∙ (ap (all zero?) (sym (lent_rest s _)) ∙ (sym c.zero.ensures ∙ c.if-not-zero.false)) in
    let count = c.distinct.ensures ∙ ap₂ (λ (k : ℕ) (l : List ℕ). distinct (records k l)) n (lent_rest s 8) in
    ap₂ eqb c.number.ensures count
    ∙ answered s (λ i. omega (arith, c.type_inv.store i)) c.if-store-ne-STORE.false (omega (arith, n, c.if-n-gt-ENTRIES.false)) held rest
