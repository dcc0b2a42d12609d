-- `encode_ways::by_shift` meets its contract: pushes the ways through the code element n of the state a, in which it is not invoked.
use Rattle.encode_states.proofs.Elements.{lock_most}
use mathlib.Core.Path.{sym}
use mathlib.Core.List.{[], ◌∷◌, ◌++◌}
use native.Mathlib.Omega.{arith}
use Rattle.coding.specs.State.{invoke_gl, invoke_gr, lock_gl, lock_gr, single}
use Rattle.encode_states.specs.Packed.{unpack}
use Rattle.encode_ways.proofs.Chain.{and, pushes_as, renamed, reached, locks, locks_right, shifts, by_one, by_two, by_three}
use Rattle.encode_ways.proofs.by_shift.Goals as goal

pub overflow_add-left : goal.overflow_add-left
overflow_add-left c = omega (arith, c.lock_length.ensures, lock_most c.args.n)

pub returns-then-n-eq0 : goal.returns-then-n-eq0
returns-then-n-eq0 c =
    let a = c.args in
    λ cs most t p w h.
    let b = unpack a.entry.state in
    let p1 = renamed _ (reached t (p ++ lock_gl a.n) (invoke_gl b a.n) 0)
    (locks cs t p a.n a.entry.cost a.entry.link w c.to_gl.result c.lock_length.result (invoke_gl b a.n) c.to_gl.ensures.is
    c.lock_length.ensures) (c.push-c.ensures cs most (omega (arith, c.lock_length.ensures, lock_most a.n))) in
    pushes_as _ _ (sym (by_one t p b a.n c.requires.2.left c.requires.2.right c.if-n-eq0.true)) p1

pub returns-then-n-lt2 : goal.returns-then-n-lt2
returns-then-n-lt2 c =
    let a = c.args in
    λ cs most t p w h.
    let b = unpack a.entry.state in
    let p1 = renamed _ (reached t (p ++ lock_gl a.n) (invoke_gl b a.n) 0)
    (locks cs t p a.n a.entry.cost a.entry.link w c.to_gl.result c.lock_length.result (invoke_gl b a.n) c.to_gl.ensures.is
    c.lock_length.ensures) (c.push-c.ensures cs most (omega (arith, c.lock_length.ensures, lock_most a.n))) in
    let p2 = renamed _ (reached t (p ++ lock_gr a.n) (invoke_gr b a.n) 128)
    (locks_right cs t p a.n a.entry.cost a.entry.link w c.to_gr.result (invoke_gr b a.n) c.to_gr.ensures.is)
    (c.push-d.ensures cs most (omega arith)) in
    pushes_as _ _ (sym (by_two t p b a.n c.requires.2.left c.requires.2.right c.if-n-eq0.false c.if-n-lt2.true)) (and (_ ∷ []) (_ ∷ []) p1 p2)

pub returns : goal.returns
returns c =
    let a = c.args in
    λ cs most t p w h.
    let b = unpack a.entry.state in
    let p1 = renamed _ (reached t (p ++ lock_gl a.n) (invoke_gl b a.n) 0)
    (locks cs t p a.n a.entry.cost a.entry.link w c.to_gl.result c.lock_length.result (invoke_gl b a.n) c.to_gl.ensures.is
    c.lock_length.ensures) (c.push-c.ensures cs most (omega (arith, c.lock_length.ensures, lock_most a.n))) in
    let p2 = renamed _ (reached t (p ++ lock_gr a.n) (invoke_gr b a.n) 128)
    (locks_right cs t p a.n a.entry.cost a.entry.link w c.to_gr.result (invoke_gr b a.n) c.to_gr.ensures.is)
    (c.push-d.ensures cs most (omega arith)) in
    let p3 = renamed _ (reached t (p ++ single a.n) b 0) (shifts cs t p a.n a.entry.cost a.entry.link w a.entry.state) (c.push.ensures cs most (omega arith)) in
    pushes_as _ _ (sym (by_three t p b a.n c.requires.2.left c.requires.2.right c.if-n-lt2.false)) (and (_ ∷ []) (_ ∷ _ ∷ []) p1 (and (_ ∷ []) (_ ∷ []) p2 p3))
