-- `encode::call::encode_checked` meets its contract: by what questions 4 to 7 answer. Assumes nothing.
use Prim.Native.Nat.{◌≤◌}
use mathlib.Core.Path.{◌≡◌, ap}
use native.Mathlib.Omega.{arith}
use lib.ListN.{length, take}
use Rattle.std.specs.Prelude.{Ok}
use Rattle.std.proofs.lemmas.Grind.{common_steps}
use Rattle.questions.proofs.Refusals.{passed}
use Rattle.encode.proofs.Outcomes.{leading, answered_nothing, answered_written, answered_refused}
use Rattle.encode.proofs.call.encode_checked.Goals as goal

pub find-requires : goal.find-requires
find-requires c =
    let h : length c.args.text.now ≤ 7281 = (passed _ _ _ _ _ c.requires).within in (h, record { room = h })

pub slice_bounds-characters-end : goal.slice_bounds-characters-end
slice_bounds-characters-end c =
    let l = leading c.args.cells.now c.args.initial c.args.width c.args.text.now c.args.store.now c.args.coding.now c.find.new.store
    c.find.new.characters _ (c.in-Ok.ensures (length c.args.coding.now)) (ap Ok c.in-Some.is) in
    let e : c.in-Some.target.count ≡ length (take c.in-Some.target.count c.find.new.characters) = l.count in
    grind (arith, common_steps)

pub slice_bounds-write-end : goal.slice_bounds-write-end
slice_bounds-write-end c =
    (leading c.args.cells.now c.args.initial c.args.width c.args.text.now c.args.store.now c.args.coding.now c.find.new.store
    c.find.new.characters _ (c.in-Ok.ensures (length c.args.coding.now)) (ap Ok c.in-Some.is)).count

pub write-requires : goal.write-requires
write-requires c =
    (leading c.args.cells.now c.args.initial c.args.width c.args.text.now c.args.store.now c.args.coding.now c.find.new.store
    c.find.new.characters _ (c.in-Ok.ensures (length c.args.coding.now)) (ap Ok c.in-Some.is)).searched

pub returns-in-None : goal.returns-in-None
returns-in-None c =
    answered_nothing c.args.cells.now c.args.initial c.args.width c.args.text.now c.args.store.now c.args.coding.now c.find.new.store
    c.find.new.characters _ (c.in-Ok.ensures (length c.args.coding.now)) c.requires (ap Ok c.in-None.is) c.find.auto.store c.nothing.ensures

pub returns-in-Some : goal.returns-in-Some
returns-in-Some c =
    let l = leading c.args.cells.now c.args.initial c.args.width c.args.text.now c.args.store.now c.args.coding.now c.find.new.store
    c.find.new.characters _ (c.in-Ok.ensures (length c.args.coding.now)) (ap Ok c.in-Some.is) in
    answered_written c.args.cells.now c.args.initial c.args.width c.args.text.now c.args.store.now c.args.coding.now c.find.new.store
    c.find.new.characters _ (c.in-Ok.ensures (length c.args.coding.now)) c.requires (ap Ok c.in-Some.is) c.find.auto.store (c.write.ensures _ l)

pub returns-in-Err : goal.returns-in-Err
returns-in-Err c =
    answered_refused c.args.cells.now c.args.initial c.args.width c.args.text.now c.args.store.now c.args.coding.now c.find.new.store
    c.find.new.characters c.find.result (c.find.ensures (length c.args.coding.now)) c.requires c.in-Err.is c.find.auto.store c.refuse.ensures
