-- `encode_search::search` meets its contract: the start is put into the store, then a layer for each character. Assumes nothing.
use mathlib.Core.Path.{sym, subst}
use mathlib.Core.List.{List}
use Prim.Native.Nat.{ℕ}
use native.Mathlib.Omega.{arith}
use Rattle.base.specs.Lists.{All}
use Rattle.encode_layer.specs.Entries.{entries_of}
use Rattle.encode_layer.specs.Layer.{Sound}
use Rattle.encode_search.specs.Layers.{Begins}
use Rattle.encode_search.proofs.Running.{begins, sound_start, no_room, searched_as}
use Rattle.encode_search.proofs.search.Goals as goal

pub returns-then-store-lt4 : goal.returns-then-store-lt4
returns-then-store-lt4 c =
    no_room c.args.characters.now c.args.task.annex c.args.task.initial c.args.task.rest c.args.store.now c.args.store.now c.requires.1 c.if-store-lt4.true

pub run-requires : goal.run-requires
run-requires c = (
  c.requires.0,
  omega arith,
  subst (λ (x : List ℕ). All (Sound 0) (entries_of x 0 1)) (sym c.put_node.ensures)
      (sound_start c.args.store.now c.start.result c.args.task.initial c.if-store-lt4.false c.start.ensures),
)

pub returns : goal.returns
returns c =
    searched_as c.args.characters.now c.args.task.annex c.args.task.initial c.args.task.rest c.args.store.now _ _ c.run.result (omega arith)
    (c.run.ensures (subst (λ (x : List ℕ). Begins c.args.task.initial x) (sym c.put_node.ensures)
    (begins c.args.store.now c.start.result c.args.task.initial c.if-store-lt4.false c.start.ensures)))
