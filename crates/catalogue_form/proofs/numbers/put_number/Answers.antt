-- `put_number` meets its contract. Assumes nothing.
use mathlib.Core.Path.{◌≡◌, ap, ◌∙◌}
use native.Mathlib.Omega.{arith}
use lib.ListN.{length}
use Rattle.std.proofs.Math.Seq.{sets}
use Rattle.catalogue_distinct.proofs.Slices.{mid_sets}
use Rattle.catalogue_form.specs.Form.{big_endian}
use Rattle.catalogue_form.proofs.FourBytes.{be_bytes}
use Rattle.catalogue_form.proofs.numbers.put_number.Goals as goal

pub returns : goal.returns
returns c =
    let a = c.args in
    let e : c.copy_from_slice.new.self ≡ big_endian a.n = c.copy_from_slice.ensures.after ∙ (c.to_be_bytes.ensures ∙ be_bytes a.n (omega (arith, c.ranges.n.fits))) in
    mid_sets a.at _ a.s.now c.copy_from_slice.new.self (ap length e ∙ omega arith) (omega arith) ∙ ap (sets a.s.now a.at) e
