-- `close_up` meets its contract. Assumes nothing.
use Prim.Native.Nat.{◌+◌, ◌-◌, ◌*◌}
use mathlib.Core.Path.{◌≡◌}
use native.Mathlib.Omega.{arith}
use Rattle.catalogue_places.proofs.Moves.{close_end}
use Rattle.catalogue_places.proofs.moving.close_up.Goals as goal

pub returns : goal.returns
returns c =
    let a = c.args in
    let s : (a.n - 1) * 260 + 260 - (a.n - 1) * 260 ≡ 260 = omega arith in
    close_end a.places.now c.copy_within.new.self c.fill.new.self a.n a.at _ c.requires.at_lt_n c.requires.n_in_bounds s c.copy_within.ensures.after
    (c.fill.ensures.after (λ y e. e))
