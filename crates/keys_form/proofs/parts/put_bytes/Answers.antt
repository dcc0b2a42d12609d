-- `put_bytes` meets its contract: a byte a turn. Assumes nothing.
use Prim.Native.Nat.{◌*◌, ◌+◌}
use mathlib.Core.Path.{◌≡◌}
use native.Mathlib.Omega.{arith}
use lib.ListN.{length, get_or}
use Rattle.keys_form.specs.Line.{hex_value}
use Rattle.keys_form.proofs.Reading.{half_none, half_next, half_all, is_hex_lem, hex_read}
use Rattle.keys_form.proofs.parts.put_bytes.Goals as goal

pub loop-i-init : goal.loop-i-init
loop-i-init c = half_none _ _

pub unwrap-requires : goal.unwrap-requires
unwrap-requires c =
    let h : length c.args.bytes.now * 2 ≡ length c.args.ds.now = c.requires.1 in
    let d = hex_read _ c.hex_value.ensures ((is_hex_lem _ c.requires.0).digits (2 * c.loop-i.i) (omega arith)) in
    rw d

pub overflow_mul-byte : goal.overflow_mul-byte
overflow_mul-byte c =
    let h : length c.args.bytes.now * 2 ≡ length c.args.ds.now = c.requires.1 in
    let d = hex_read _ c.hex_value.ensures ((is_hex_lem _ c.requires.0).digits (2 * c.loop-i.i) (omega arith)) in
    let x : c.unwrap.result ≡ hex_value (get_or c.args.ds.now (2 * c.loop-i.i) 0) = cc in
    omega (arith, (is_hex_lem _ c.requires.0).digits (2 * c.loop-i.i) (omega arith))

pub unwrap-requires-in-loop-i : goal.unwrap-requires-in-loop-i
unwrap-requires-in-loop-i c =
    let h : length c.args.bytes.now * 2 ≡ length c.args.ds.now = c.requires.1 in
    let d = hex_read _ c.hex_value.ensures ((is_hex_lem _ c.requires.0).digits (2 * c.loop-i.i) (omega arith)) in
    let e = hex_read _ c.hex_value-in-loop-i.ensures ((is_hex_lem _ c.requires.0).digits (2 * c.loop-i.i + 1) (omega arith)) in
    rw e

pub overflow_add-byte : goal.overflow_add-byte
overflow_add-byte c =
    let h : length c.args.bytes.now * 2 ≡ length c.args.ds.now = c.requires.1 in
    let d = hex_read _ c.hex_value.ensures ((is_hex_lem _ c.requires.0).digits (2 * c.loop-i.i) (omega arith)) in
    let e = hex_read _ c.hex_value-in-loop-i.ensures ((is_hex_lem _ c.requires.0).digits (2 * c.loop-i.i + 1) (omega arith)) in
    let x : c.unwrap.result ≡ hex_value (get_or c.args.ds.now (2 * c.loop-i.i) 0) = cc in
    let y : c.unwrap-in-loop-i.result ≡ hex_value (get_or c.args.ds.now (2 * c.loop-i.i + 1) 0) = cc in
    omega (arith, (is_hex_lem _ c.requires.0).digits (2 * c.loop-i.i) (omega arith), (is_hex_lem _ c.requires.0).digits (2 * c.loop-i.i + 1) (omega arith))

pub loop-i-preserved : goal.loop-i-preserved
loop-i-preserved c =
    let h : length c.args.bytes.now * 2 ≡ length c.args.ds.now = c.requires.1 in
    let d = hex_read _ c.hex_value.ensures ((is_hex_lem _ c.requires.0).digits (2 * c.loop-i.i) (omega arith)) in
    let e = hex_read _ c.hex_value-in-loop-i.ensures ((is_hex_lem _ c.requires.0).digits (2 * c.loop-i.i + 1) (omega arith)) in
    let x : c.unwrap.result ≡ hex_value (get_or c.args.ds.now (2 * c.loop-i.i) 0) = cc in
    let y : c.unwrap-in-loop-i.result ≡ hex_value (get_or c.args.ds.now (2 * c.loop-i.i + 1) 0) = cc in
    rw (x, y) (half_next _ _ _ _ c.loop-i.invariant (omega (arith, c.loop-i.invariant.long)) c.requires.1)

pub returns : goal.returns
returns c = half_all _ _ _ _ c.loop-i.invariant (omega (arith, c.loop-i.invariant.long)) c.requires.1
