-- `zero_behind` meets its contract. Assumes nothing.
use mathlib.Core.Path.{◌∙◌}
use Rattle.catalogue_form.proofs.Zeros.{behind_part}
use native.Mathlib.Omega.{arith}
use Rattle.catalogue_form.proofs.zero_behind.Goals as goal

pub overflow_cast-len : goal.overflow_cast-len
overflow_cast-len c = omega (arith, c.type_inv.place 4)

pub overflow_add-len : goal.overflow_add-len
overflow_add-len c = omega (arith, c.type_inv.place 4)

pub slice_bounds-zero-count : goal.slice_bounds-zero-count
slice_bounds-zero-count c = omega (arith, c.type_inv.place 4)

pub slice_bounds-zero-start : goal.slice_bounds-zero-start
slice_bounds-zero-start c = omega (arith, c.type_inv.place 4)

pub returns : goal.returns
returns c =
    c.zero.ensures ∙ behind_part c.args.place.now _ c.requires
