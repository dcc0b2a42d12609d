-- `decode_output::insert` meets its contract. Assumes nothing.
use mathlib.Core.Path.{ap, ◌∙◌}
use mathlib.Core.List.{List}
use Prim.Native.Nat.{ℕ}
use lib.ListN.{replicate}
use lib.Seq.{sets}
use Rattle.utf8.specs.Utf8.{utf8s}
use Rattle.decode_output.proofs.insert.Goals as goal

pub returns : goal.returns
returns c =
    let a = c.args in
    c.put_times.ensures ∙ ap (λ (l : List ℕ). sets l 0 (utf8s (replicate a.n a.c))) c.shift_up.ensures
