-- `has` meets its contract. Assumes nothing.
use Prim.Native.Nat.{ℕ, ◌+◌, ◌-◌}
use mathlib.Core.Path.{◌≡◌, ap, ◌∙◌}
use native.Mathlib.Omega.{arith}
use lib.ListN.{get_or, take, drop}
use Rattle.catalogue_distinct.specs.Distinct.{same}
use Rattle.catalogue_distinct.proofs.Same.{same_is}
use Rattle.catalogue_places.proofs.has.Goals as goal

pub returns : goal.returns
returns c =
    let place = c.args.place.now in
    let s : 5 + get_or place 4 0 - 5 ≡ get_or place 4 0 = omega arith in
    c.eq.ensures
    ∙ (same_is c.args.key.now (take (5 + get_or place 4 0 - 5) (drop 5 place)) ∙ ap (λ (k : ℕ). same c.args.key.now (take k (drop 5 place))) s)
