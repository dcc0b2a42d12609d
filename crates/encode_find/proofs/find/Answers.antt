-- `encode_find::find` meets its contract: by what the passes over the text answer. Assumes nothing.
use native.Mathlib.Omega.{arith}
use lib.Seq.{length-take-le}
use mathlib.Core.Path.{◌≡◌, sym}
use Rattle.std.proofs.Common.{rules, Err}
use Rattle.encode_find.proofs.Planning.{count_most, few_of, characters_of, planned_on, planned_not}
use Rattle.encode_find.proofs.find.Goals as goal

pub returns-in_err-ordered : goal.returns-in_err-ordered
returns-in_err-ordered c =
    let e = c.in_err-ordered.field-0.0 in
    let is : c.from_residual.result ≡ Err e = search rules in
    λ room. rw is (planned_not c.args.cells.now c.args.options.initial c.args.options.width c.args.text.now c.tokenise.new.characters c.tokenise.result
    c.tokenise.ensures c.args.store.now c.args.store.now room c.in_err-ordered.was)

pub slice_bounds-lead-end : goal.slice_bounds-lead-end
slice_bounds-lead-end c =
    count_most c.args.cells.now c.args.options.initial c.args.options.width c.args.text.now c.tokenise.new.characters c.tokenise.result c.tokenise.ensures
    c.in_ok-ordered.was (omega (arith, c.requires.1.room, c.tokenise.auto.characters))

pub slice_bounds-lead-end-2 : goal.slice_bounds-lead-end-2
slice_bounds-lead-end-2 c =
    sym (length-take-le _ c.tokenise.new.characters
    (count_most c.args.cells.now c.args.options.initial c.args.options.width c.args.text.now c.tokenise.new.characters c.tokenise.result c.tokenise.ensures
    c.in_ok-ordered.was (omega (arith, c.requires.1.room, c.tokenise.auto.characters))))

pub lead-requires : goal.lead-requires
lead-requires c =
    few_of c.args.cells.now c.args.options.initial c.args.options.width c.args.text.now c.tokenise.new.characters c.tokenise.result c.tokenise.ensures
    c.in_ok-ordered.was c.requires.0
    (count_most c.args.cells.now c.args.options.initial c.args.options.width c.args.text.now c.tokenise.new.characters c.tokenise.result c.tokenise.ensures
    c.in_ok-ordered.was (omega (arith, c.requires.1.room, c.tokenise.auto.characters)))

pub returns : goal.returns
returns c =
    λ room. planned_on c.args.cells.now c.args.options.initial c.args.options.width c.args.text.now c.tokenise.new.characters c.tokenise.result c.tokenise.ensures
    c.args.store.now c.lead.new.store room c.in_ok-ordered.was c.lead.auto.store
    (count_most c.args.cells.now c.args.options.initial c.args.options.width c.args.text.now c.tokenise.new.characters c.tokenise.result c.tokenise.ensures
    c.in_ok-ordered.was (omega (arith, c.requires.1.room, c.tokenise.auto.characters)))
    (c.lead.ensures (characters_of c.args.cells.now c.args.options.initial c.args.options.width c.args.text.now
    c.tokenise.new.characters c.tokenise.result c.tokenise.ensures c.in_ok-ordered.was))
