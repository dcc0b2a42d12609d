-- The waiting marks out of the decoder's number (crate decode_output, specs/Waiting.antt), by its octal digits.
use Rattle.std.specs.Prelude.{ℕ, zero, suc, ◌/◌, ◌%◌, cond, List, ◌∷◌, eqb}
use Rattle.decode_output.specs.Waiting.{mark_of}

-- up to k digits from the lowest on, in front of what was taken
unfoldable pub unpacked : ℕ → ℕ → List ℕ → List ℕ
unfolding mark_of
unpacked zero w more = more
unpacked (suc k) w more = cond (eqb w 0) more (unpacked k (w / 8) (mark_of (w % 8) ∷ more))
