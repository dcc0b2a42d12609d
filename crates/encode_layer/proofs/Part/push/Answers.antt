-- `encode_layer::Part::push` meets its contract: by what the chain of the state's bucket tells. Assumes nothing.
use Prim.Native.Nat.{ℕ, ◌-◌, ◌*◌, ◌+◌, ◌/◌}
use mathlib.Core.Path.{ap, subst}
use native.Mathlib.Omega.{arith}
use lib.ListN.{get_or}
use Rattle.encode_layer.specs.Layer.{head_at, Entered}
use Rattle.encode_layer.proofs.Standing.{full, stays, replaces, overflows, adds}
use Rattle.encode_layer.proofs.Part.push.Goals as goal

pub returns-then-self-count : goal.returns-then-self-count
returns-then-self-count c =
    let a = c.args in
    λ cs most h. full cs a.self.from a.self.cap a.self.buckets most a.store.now a.count a.entry c.requires.room
    (record { proper = c.requires.proper; cheap = h }) c.if-self-count.true

pub returns-then-entry-store : goal.returns-then-entry-store
returns-then-entry-store c =
    let a = c.args in
    λ cs most h. replaces cs a.self.from a.self.cap a.self.buckets most a.store.now a.count a.entry c.requires.room
    (record { proper = c.requires.proper; cheap = h }) (65535 - get_or a.store.now (c.bucket-b.result * 4 + 3) 0 / 65536) c.find-p.result c.if-self-count.false
    (ap (λ (b : ℕ). head_at a.store.now b) c.bucket-b.ensures.0) c.find-p.ensures
    c.if-p-count.true _ c.put_node.ensures c.if-entry-store.true

pub returns-else-entry-store : goal.returns-else-entry-store
returns-else-entry-store c =
    let a = c.args in
    λ cs most h. stays cs a.self.from a.self.cap a.self.buckets most a.store.now a.count a.entry c.requires.room
    (record { proper = c.requires.proper; cheap = h }) (65535 - get_or a.store.now (c.bucket-b.result * 4 + 3) 0 / 65536) c.find-p.result c.if-self-count.false
    (ap (λ (b : ℕ). head_at a.store.now b) c.bucket-b.ensures.0) c.find-p.ensures
    c.if-p-count.true c.if-entry-store.false

pub returns-then-count-self : goal.returns-then-count-self
returns-then-count-self c =
    let a = c.args in
    λ cs most h. overflows cs a.self.from a.self.cap a.self.buckets most a.store.now a.count a.entry c.requires.room
    (record { proper = c.requires.proper; cheap = h }) (65535 - get_or a.store.now (c.bucket-b.result * 4 + 3) 0 / 65536) c.find-p.result c.if-self-count.false
    (ap (λ (b : ℕ). head_at a.store.now b) c.bucket-b.ensures.0) c.find-p.ensures
    c.if-p-count.false c.if-count-self.true

pub returns : goal.returns
returns c =
    let a = c.args in
    λ cs most h. adds cs a.self.from a.self.cap a.self.buckets most a.store.now a.count a.entry c.requires.room
    (record { proper = c.requires.proper; cheap = h }) (65535 - get_or a.store.now (c.bucket-b.result * 4 + 3) 0 / 65536) c.find-p.result c.if-self-count.false
    (ap (λ (b : ℕ). head_at a.store.now b) c.bucket-b.ensures.0) c.find-p.ensures
    c.if-p-count.false _ _ (omega (arith, c.if-self-count.false, c.if-count-self.false)) c.store-2-1.given
    (subst (λ (b : ℕ). Entered a.store.now c.enter.new.store a.self.from a.count b
    (65535 - get_or a.store.now (c.bucket-b.result * 4 + 3) 0 / 65536)) c.bucket-b.ensures.0 c.enter.ensures) c.put_node-2.ensures
