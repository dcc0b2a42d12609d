-- `put_title` meets its contract: the bytes of what stands behind the TAB. Assumes nothing.
use Prim.Native.Nat.{◌+◌, ◌-◌, ◌/◌}
use mathlib.Core.Path.{◌≡◌, sym, ◌∙◌}
use native.Mathlib.Omega.{arith}
use lib.ListN.{length, take, drop}
use lib.Seq.{length-take-le}
use Rattle.keys_form.proofs.Reading.{formed}
use Rattle.keys_form.proofs.Writing.{titled}
use Rattle.keys_form.proofs.parts.put_title.Goals as goal

pub overflow_add-hex : goal.overflow_add-hex
overflow_add-hex c =
    omega (arith, (formed c.args.line.now c.args.tab c.requires.1 c.requires.0).inside, c.well_formed)

pub slice_bounds-hex-count : goal.slice_bounds-hex-count
slice_bounds-hex-count c =
    omega (arith, (formed c.args.line.now c.args.tab c.requires.1 c.requires.0).inside)

pub slice_bounds-hex-start : goal.slice_bounds-hex-start
slice_bounds-hex-start c =
    omega (arith, (formed c.args.line.now c.args.tab c.requires.1 c.requires.0).inside)

pub slice_bounds-put_bytes-end : goal.slice_bounds-put_bytes-end
slice_bounds-put_bytes-end c =
    omega (arith, (formed c.args.line.now c.args.tab c.requires.1 c.requires.0).few, c.requires.2)

pub slice_bounds-put_bytes-end-2 : goal.slice_bounds-put_bytes-end-2
slice_bounds-put_bytes-end-2 c =
    sym (length-take-le _ _ (omega (arith, (formed c.args.line.now c.args.tab c.requires.1 c.requires.0).few, c.requires.2)))

pub put_bytes-requires : goal.put_bytes-requires
put_bytes-requires c =
    let f = formed c.args.line.now c.args.tab c.requires.1 c.requires.0 in
    let n = length (take (length c.args.line.now - (c.args.tab + 1)) (drop (c.args.tab + 1) c.args.line.now)) / 2 in
    (f.hex, omega (arith, f.pairs, length-take-le n c.args.title.now (omega (arith, f.few, c.requires.2))))

pub returns : goal.returns
returns c =
    let f = formed c.args.line.now c.args.tab c.requires.1 c.requires.0 in
    let n = length (take (length c.args.line.now - (c.args.tab + 1)) (drop (c.args.tab + 1) c.args.line.now)) / 2 in
    let e : length c.put_bytes.new.bytes ≡ n = c.put_bytes.auto.bytes ∙ length-take-le n c.args.title.now (omega (arith, f.few, c.requires.2)) in
    titled c.args.line.now c.args.tab n c.requires.1 c.put_bytes.new.bytes c.args.title.now e f.few c.put_bytes.ensures
