-- The laws of positions, by name: specs/Positions.antt states them. Assumes nothing.
use mathlib.Core.Path.{sym, subst}
use mathlib.Core.List.{List, []}
use Prim.Native.Nat.{ℕ, ◌≤◌}
use native.Mathlib.Omega.{arith}
use lib.ListN.{length}
use Rattle.base.proofs.Every.{all_map}
use Rattle.utf8.specs.Utf8.{utf8s}
use Rattle.utf8.proofs.Bytes.{utf8s_most}
use Rattle.issues.specs.Issue.{Issue}
use Rattle.decode_output.specs.Output.{nothing}
use Rattle.reading.specs.State.{Given, start}
use Rattle.reading.specs.Steps.{decode}
use Rattle.laws_reading.specs.Positions.{Placed, PositionsInside, PositionsNeverFall, PositionsCut, PositionsSmall}
use Rattle.laws_reading.proofs.Placed.{placed_cut, placed_inside, placed_falls}
use Rattle.laws_reading.proofs.Reading.{decode_change, charge_bound, characters_bound}

-- all issues of a reading, from the empty text on
whole : (g : Given) (initial : ℕ) → Placed [] (decode g initial).out.issues (decode g initial).out.text
unfolding start nothing
whole g initial =
    let c = decode_change g initial in
    subst (λ (is : List Issue). Placed [] is (decode g initial).out.text) (sym c.reported) c.placed

pub positions_inside : PositionsInside
positions_inside g initial = placed_inside [] (decode g initial).out.text (decode g initial).out.issues (whole g initial)

pub positions_never_fall : PositionsNeverFall
positions_never_fall g initial = placed_falls [] (decode g initial).out.text (decode g initial).out.issues (whole g initial)

pub positions_cut : PositionsCut
positions_cut g initial = placed_cut [] (decode g initial).out.text (decode g initial).out.issues (whole g initial)

-- 84 × (65,535 + 64 × 65,535 + 4,096) is below 2^32
pub positions_small : PositionsSmall
positions_small g initial h =
    let text = (decode g initial).out.text in
    all_map (λ i. i.position ≤ length (utf8s text)) (λ i. i.position ≤ 0xFFFFFFFF) (decode g initial).out.issues
    (λ i k. omega (arith, k, h, utf8s_most text, characters_bound g initial, charge_bound g initial))
    (positions_inside g initial)
