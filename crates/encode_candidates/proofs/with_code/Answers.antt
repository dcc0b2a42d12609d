-- `encode_candidates::with_code` meets its contract. Assumes nothing.
use mathlib.Core.Path.{sym, ap, ◌∙◌}
use mathlib.Core.List.{[], ◌∷◌}
use native.Mathlib.Omega.{arith}
use Rattle.tables_onebyte.specs.Reverse.{code_value}
use Rattle.tables_onebyte.proofs.Laws.{one_byte_found}
use Rattle.coding.specs.Candidates.{Cand, of_code}
use Rattle.encode_states.specs.Packed.{set_of}
use Rattle.encode_candidates.specs.Packed.{size_of, cand}
use Rattle.encode_candidates.proofs.Adding.{likewise, one_more, none_more, byte_cand}
use Rattle.encode_candidates.proofs.with_code.Goals as goal

pub invariant_of-push : goal.invariant_of-push
invariant_of-push c =
    let f = one_byte_found c.args.table c.args.c _ (sym c.one_byte_reverse.ensures ∙ ap code_value c.in-Some.is) in
    let t = f.to in
    record { known = omega arith; six = λ n. c.requires.set_bound; plain = λ e. omega arith; row = omega arith; last = omega arith }

pub returns-in-Some : goal.returns-in-Some
unfolding of_code cand
returns-in-Some c =
    let e = sym c.one_byte_reverse.ensures ∙ ap code_value c.in-Some.is in
    let f = one_byte_found c.args.table c.args.c _ e in
    likewise (one_more _ _ _ c.push.ensures)
    (ap (λ (y : Cand). y ∷ []) (byte_cand c.args.set _ (size_of c.args.size) c.requires.set_bound f.to)
    ∙ ap (of_code (set_of c.args.set) (size_of c.args.size)) (sym e))

pub returns-in_default : goal.returns-in_default
unfolding of_code
returns-in_default c =
    let e = sym c.one_byte_reverse.ensures ∙ ap code_value c.in_default.is in
    likewise (none_more _ 1) (ap (of_code (set_of c.args.set) (size_of c.args.size)) (sym e))
