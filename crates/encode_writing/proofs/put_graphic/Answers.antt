-- `encode_writing::put_graphic` meets its contract: the four parts, one behind another. Assumes nothing.
use Prim.Native.Nat.{ℕ, ◌+◌, ◌/◌, ◌%◌}
use mathlib.Core.Path.{sym, ap}
use mathlib.Core.List.{map}
use Rattle.encode_candidates.specs.Packed.{code_of}
use native.Mathlib.Omega.{arith}
use lib.Dec.{eqb}
use Rattle.encode_states.specs.Packed.{set_of}
use Rattle.encode_states.specs.Written.{written_by}
use Rattle.lent.proofs.Putting.{put_then, put_as}
use Rattle.encode_writing.proofs.Laws.{size_length, designated_length, invocation_length, half_most}
use Rattle.encode_writing.proofs.put_graphic.Goals as goal

pub put_designation-to-requires : goal.put_designation-to-requires
put_designation-to-requires c =
    (omega (arith, size_length (c.args.how / 16 % 4), c.put_size-to.ensures.next), c.requires.1, omega arith)

pub put_invocation-to-requires : goal.put_invocation-to-requires
put_invocation-to-requires c = (
  omega (
    arith,
    size_length (c.args.how / 16 % 4),
    c.put_size-to.ensures.next,
    designated_length (eqb (c.args.how / 256 % 2) 1) (set_of c.args.x) (c.args.how / 64 % 4),
    c.put_designation-to.ensures.next,
  ),
  omega arith,
)

pub put_code-requires : goal.put_code-requires
put_code-requires c = (
  omega (
    arith,
    size_length (c.args.how / 16 % 4),
    c.put_size-to.ensures.next,
    designated_length (eqb (c.args.how / 256 % 2) 1) (set_of c.args.x) (c.args.how / 64 % 4),
    c.put_designation-to.ensures.next,
    invocation_length (c.args.how / 512) (c.args.how / 64 % 4),
    c.put_invocation-to.ensures.next,
  ),
  c.requires.2,
  c.requires.3,
  omega (arith, c.half.ensures, half_most (c.args.how / 512)),
)

pub returns : goal.returns
unfolding written_by
returns c =
    λ size. put_then c.put_size-to.ensures (put_then (put_then c.put_designation-to.ensures c.put_invocation-to.ensures)
    (put_as (ap (λ (h : ℕ). map (λ b. b + h) (code_of c.args.code)) (sym c.half.ensures)) c.put_code.ensures))
