-- `alone` meets its contract: an entry has its key alone where one has it. Assumes nothing.
use Prim.Native.Nat.{ℕ, ◌+◌, ◌-◌, ◌*◌}
use mathlib.Core.Path.{◌≡◌, sym, ap, ap₂, ◌∙◌}
use mathlib.Core.List.{List}
use native.Mathlib.Omega.{arith}
use lib.Dec.{eqb}
use lib.ListN.{length, get_or, take, drop}
use lib.Seq.{get_or-drop, drop-drop}
use Rattle.catalogue_form.specs.Form.{entry_of, entries_of}
use Rattle.catalogue_form.specs.Entries.{having}
use Rattle.catalogue_changes.proofs.alone.Goals as goal

pub returns : goal.returns
returns c =
    let p = c.args.places.now in
    let at = c.args.at * 260 in
    let n = get_or p (at + 4) 0 in
    let s : at + 5 + n - (at + 5) ≡ n = omega arith in
    let byte : get_or p (at + 4) 0 ≡ get_or (drop at p) 4 0 = sym (get_or-drop at p 4 0) in
    let key : take (at + 5 + n - (at + 5)) (drop (at + 5) p) ≡ (entry_of (drop at p)).key =
    ap₂ (λ (k : ℕ) (l : List ℕ). take k l) (s ∙ byte) (sym (drop-drop 5 at p)) in
    ap (λ (k : ℕ). eqb k 1) (c.having-held.ensures.entries_value ∙ ap (λ (k : List ℕ). length (having k (entries_of c.args.n p))) key)
