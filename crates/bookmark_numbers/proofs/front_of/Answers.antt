-- `front_of` meets its contract. Assumes nothing.
use mathlib.Core.Path.{◌≡◌, sym}
use mathlib.Core.List.{[], ◌∷◌, ◌++◌}
use borrow.Author.Rules.{rules}
use lib.ListN.{length}
use Rattle.bookmark_numbers.proofs.Putting.{four_of, byte}
use Rattle.bookmark_numbers.proofs.front_of.Goals as goal

pub returns : goal.returns
returns c =
    let core = c.args.core in
    let place = c.args.place in
    let four : length core.sets ≡ 4 = search rules in
    sym (λ k.
    1 ∷ place ∷ (four_of core.sets four k
    ++ (core.gl ∷ core.gr ∷ sym (byte core.narrow) k ∷ core.out.repeat ∷ sym c.count.ensures.0 k ∷ core.out.first ∷ [])))
