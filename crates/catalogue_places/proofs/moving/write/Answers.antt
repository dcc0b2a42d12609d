-- `write` meets its contract. Assumes nothing.
use Prim.Native.Nat.{ℕ}
use mathlib.Core.Path.{◌≡◌, ap, ◌∙◌}
use mathlib.Core.List.{List}
use native.Mathlib.Omega.{arith}
use lib.ListN.{length, set, length-set, length-replicate}
use lib.Seq.{sets}
use Rattle.catalogue_distinct.proofs.Slices.{mid_sets}
use Rattle.catalogue_form.specs.Form.{big_endian}
use Rattle.catalogue_places.proofs.Moves.{place_written}
use Rattle.catalogue_places.proofs.moving.write.Goals as goal

pub returns : goal.returns
returns c =
    let a = c.args in
    let n = a.number in
    let k = a.key.now in
    let head = set c.put_number.new.s 4 (length k) in
    let long : length a.zeros.now ≡ 260 = ap length c.requires.zeros_value ∙ length-replicate {A = ℕ} 260 0 in
    let same : length c.copy_from_slice.new.self ≡ length k = ap length c.copy_from_slice.ensures.after in
    mid_sets 5 _ head c.copy_from_slice.new.self (same ∙ omega arith)
    (omega (arith, long, c.put_number.auto.s, c.requires.key_len_bound, length-set c.put_number.new.s 4 (length k)))
    ∙ (ap (sets head 5) c.copy_from_slice.ensures.after
    ∙ (ap (λ (l : List ℕ). sets (set l 4 (length k)) 5 k) (c.put_number.ensures ∙ ap (λ (l : List ℕ). sets l 0 (big_endian n)) c.requires.zeros_value)
    ∙ place_written n k c.requires.key_len_bound))
