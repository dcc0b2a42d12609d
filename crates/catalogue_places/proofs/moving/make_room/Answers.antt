-- `make_room` meets its contract. Assumes nothing.
use Prim.Native.Nat.{◌+◌, ◌-◌}
use mathlib.Core.Path.{◌≡◌}
use native.Mathlib.Omega.{arith}
use Rattle.catalogue_places.proofs.Moves.{room_made}
use Rattle.catalogue_places.proofs.moving.make_room.Goals as goal

pub returns : goal.returns
returns c =
    let a = c.args in
    let s : a.at + 260 - a.at ≡ 260 = omega arith in
    room_made a.places.now a.carried.now c.copy_within.new.self c.copy_from_slice.new.self a.at a.n _ c.if-n-eq0.false c.requires.carried_len c.requires.n_in_bounds s
    c.copy_within.ensures.after c.copy_from_slice.ensures.after
