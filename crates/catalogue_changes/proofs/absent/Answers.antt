-- `absent` meets its contract: a key is new where no entry has it. Assumes nothing.
use Prim.Native.Nat.{ℕ}
use mathlib.Core.Path.{sym, ap, ◌∙◌}
use lib.Dec.{eqb}
use Rattle.catalogue_form.specs.Form.{entries_of}
use Rattle.catalogue_changes.proofs.Keys.{among_having}
use Rattle.catalogue_changes.proofs.absent.Goals as goal

pub returns : goal.returns
returns c =
    let a = c.args in
    ap (λ (n : ℕ). eqb n 0) c.having-held.ensures.entries_value ∙ sym (among_having a.key.now (entries_of a.n a.places.now))
