-- `number` meets its contract. Assumes nothing.
use mathlib.Core.Path.{◌≡◌, ◌∙◌}
use Prim.Native.Nat.{◌+◌, ◌*◌}
use native.Mathlib.Omega.{arith}
use lib.ListN.{get_or}
use Rattle.jis_tab.proofs.Table.{number_at, number_past}
use Rattle.jis_tab.proofs.number.Goals as goal

pub returns-then-i-bytes : goal.returns-then-i-bytes
returns-then-i-bytes c =
    let e : c.from_be_bytes.result ≡ get_or c.args.bytes.now (2 * c.args.i) 0 * 256 + get_or c.args.bytes.now (2 * c.args.i + 1) 0 = omega arith in
    e ∙ number_at _ _ c.if-i-bytes.true

pub returns : goal.returns
returns c = number_past _ _ c.if-i-bytes.false
