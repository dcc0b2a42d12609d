-- `keys::lines::print` meets its contract. Assumes nothing.
use Rattle.std.proofs.Common.{ℕ, ◌≡◌, refl, sym, ◌≤◌, length, length-take-le}
use Rattle.std.specs.Prelude.{Option, Some, None, IfSome}
use Rattle.keys_lines.proofs.Writing.{within}
use Rattle.keys.proofs.lines.print.Goals as goal

pub slice_bounds-print-end : goal.slice_bounds-print-end
slice_bounds-print-end c = sym (length-take-le _ _ c.if-len-line.false)

pub print-requires : goal.print-requires
print-requires c =
    c.requires

pub returns : goal.returns
returns c = printed c.print.result refl
  where
    printed : (r : Option ℕ) → c.print.result ≡ r → IfSome r (λ n. n ≤ length c.print.new.out)
    printed (Some n) e = within _ _ _ _ e c.print.ensures
    printed None e = tt
