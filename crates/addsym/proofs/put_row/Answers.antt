-- `addsym::put_row` meets its contract. Assumes nothing.
use mathlib.Core.Path.{◌≡◌, sym, ◌∙◌}
use mathlib.Core.List.{List, ◌++◌}
use Prim.Native.Nat.{ℕ, ◌+◌, ◌-◌, ◌≤◌}
use native.Mathlib.Omega.{arith}
use lib.ListN.{length, take, drop}
use lib.Seq.{drop-drop}
use Rattle.std.proofs.Common.{append_assoc}
use Rattle.std.proofs.lemmas.List.Edits.{sets, sets-eq}
use Rattle.addsym.proofs.put_row.Goals as goal

-- a part that was written, between what stands before it and behind it
written : (vs l : List ℕ) (i k : ℕ) → k ≡ length vs → i + length vs ≤ length l → take i l ++ (vs ++ drop k (drop i l)) ≡ sets l i vs
written vs l i k e h =
    rw (e, drop-drop (length vs) i l) (sym (sets-eq vs l i h ∙ append_assoc (take i l) vs (drop (i + length vs) l)))

pub returns : goal.returns
returns c =
    let at = c.args.at in
    let row = c.args.row.now in
    rw c.copy_from_slice.ensures.after (written row c.args.all.now at (at + length row - at) (omega arith) c.requires)
