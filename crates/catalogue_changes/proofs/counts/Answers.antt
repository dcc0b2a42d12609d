-- `counts` meets its contract. Assumes nothing.
use Prim.Native.Nat.{ℕ}
use mathlib.Core.Path.{ap, ◌∙◌}
use mathlib.Core.List.{List}
use lib.Seq.{sets}
use Rattle.catalogue_form.specs.Form.{big_endian}
use Rattle.catalogue_changes.proofs.Stores.{both_counts}
use Rattle.catalogue_changes.proofs.counts.Goals as goal

pub returns : goal.returns
returns c =
    let a = c.args in
    c.put_number-2.ensures
    ∙ (ap (λ (l : List ℕ). sets l 4 (big_endian a.distinct)) c.put_number.ensures ∙ both_counts a.front.now a.entries a.distinct c.requires)
