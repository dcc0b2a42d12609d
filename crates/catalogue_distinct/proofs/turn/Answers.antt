-- `turn` meets its contract: which of the two heads comes first. Assumes nothing.
use Prim.Native.Nat.{ℕ, ◌/◌, ◌%◌, ◌<◌}
use mathlib.Core.Path.{◌≡◌, subst}
use native.Mathlib.Omega.{arith}
use Rattle.catalogue_distinct.specs.Runs.{record_of}
use Rattle.catalogue_distinct.specs.Promises.{Common}
use Rattle.catalogue_distinct.proofs.Bytes.{byte_at}
use Rattle.catalogue_distinct.proofs.Choosing.{left_more, left_both, left_less, right_more, right_less}
use Rattle.catalogue_distinct.proofs.turn.Goals as goal

pub returns-then-n-m : goal.returns-then-n-m
returns-then-n-m c =
    left_more _ _ _ c.requires.0 c.requires.1 c.if-n-m.true

pub returns-then-m-n : goal.returns-then-m-n
returns-then-m-n c =
    right_more _ _ _ c.requires.0 c.requires.1 c.if-m-n.true

pub returns-then-c-eq-RECORD : goal.returns-then-c-eq-RECORD
returns-then-c-eq-RECORD c =
    let a = c.args in
    let e : a.x % 256 ≡ a.y % 256 = omega (arith, c.if-m-n.false, c.if-n-m.false) in
    left_both _ _ _ c.requires.0 c.requires.1 e
    (subst (λ (n : ℕ). Common (record_of a.places.now a.x) (record_of a.places.now a.y) (a.x % 256) n) c.if-c-eq-RECORD.true c.common-c.ensures)

pub returns-then-places-p : goal.returns-then-places-p
returns-then-places-p c =
    let a = c.args in
    let e : a.x % 256 ≡ a.y % 256 = omega (arith, c.if-m-n.false, c.if-n-m.false) in
    let k = c.common-c.result in
    let h : k < 256 = omega (arith, c.common-c.ensures.alike.most, c.if-c-eq-RECORD.false) in
    left_less _ _ _ c.requires.0 c.requires.1 e k c.common-c.ensures h
    (rw (byte_at a.places.now (a.x / 256) k h, byte_at a.places.now (a.y / 256) k h) c.if-places-p.true)

pub returns : goal.returns
returns c =
    let a = c.args in
    let e : a.x % 256 ≡ a.y % 256 = omega (arith, c.if-m-n.false, c.if-n-m.false) in
    let k = c.common-c.result in
    let h : k < 256 = omega (arith, c.common-c.ensures.alike.most, c.if-c-eq-RECORD.false) in
    right_less _ _ _ c.requires.0 c.requires.1 e k c.common-c.ensures h
    (rw (byte_at a.places.now (a.x / 256) k h, byte_at a.places.now (a.y / 256) k h) c.if-places-p.false)
