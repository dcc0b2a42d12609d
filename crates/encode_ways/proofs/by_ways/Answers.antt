-- `encode_ways::by_ways` meets its contract: pushes the ways to the set of code x.
use mathlib.Core.Path.{sym}
use mathlib.Core.List.{[], ◌∷◌}
use native.Mathlib.Omega.{arith}
use Rattle.encode_states.specs.Packed.{unpack}
use Rattle.encode_ways.proofs.Chain.{and, pushes_as, renamed, reached, stands, stands_right}
use Rattle.encode_ways.proofs.Reaching.{codes_at, through_none, set_both, set_left, set_right, set_apart}
use Rattle.encode_ways.proofs.by_ways.Goals as goal

pub returns-then-right-x : goal.returns-then-right-x
returns-then-right-x c =
    let a = c.args in
    let b = unpack a.entry.state in
    let cl = codes_at c.set_in-left.result c.gl.result b.gl b c.gl.ensures.is c.set_in-left.ensures in
    let cr = codes_at c.set_in-right.result c.gr.result b.gr b c.gr.ensures.is c.set_in-right.ensures in
    λ cs most t w h.
    let v = through_none cs t a.x a.entry.cost a.entry.link w in
    let p1 = renamed _ (reached t [] b 0) (stands cs t [] 0 a.entry.cost a.entry.link v a.entry.state) (c.push-c.ensures cs most (omega arith)) in
    let p2 = renamed _ (reached t [] b 128) (stands_right cs t [] 0 a.entry.cost a.entry.link v a.entry.state) (c.push.ensures cs most (omega arith)) in
    pushes_as _ _ (sym (set_both t b a.x c.set_in-left.result c.set_in-right.result cl cr c.if-left-x.true c.if-right-x.true)) (and (_ ∷ []) (_ ∷ []) p1 p2)

pub returns-then-left-x : goal.returns-then-left-x
returns-then-left-x c =
    let a = c.args in
    let b = unpack a.entry.state in
    let cl = codes_at c.set_in-left.result c.gl.result b.gl b c.gl.ensures.is c.set_in-left.ensures in
    let cr = codes_at c.set_in-right.result c.gr.result b.gr b c.gr.ensures.is c.set_in-right.ensures in
    λ cs most t w h.
    let v = through_none cs t a.x a.entry.cost a.entry.link w in
    let p1 = renamed _ (reached t [] b 0) (stands cs t [] 0 a.entry.cost a.entry.link v a.entry.state) (c.push-c.ensures cs most (omega arith)) in
    pushes_as _ _ (sym (set_left t b a.x c.set_in-left.result c.set_in-right.result cl cr c.if-left-x.true c.if-right-x.false)) p1

pub returns-then-right-x-2 : goal.returns-then-right-x-2
returns-then-right-x-2 c =
    let a = c.args in
    let b = unpack a.entry.state in
    let cl = codes_at c.set_in-left.result c.gl.result b.gl b c.gl.ensures.is c.set_in-left.ensures in
    let cr = codes_at c.set_in-right.result c.gr.result b.gr b c.gr.ensures.is c.set_in-right.ensures in
    λ cs most t w h.
    let v = through_none cs t a.x a.entry.cost a.entry.link w in
    let p2 = renamed _ (reached t [] b 128) (stands_right cs t [] 0 a.entry.cost a.entry.link v a.entry.state) (c.push-then-right-x-2.ensures cs most (omega arith)) in
    pushes_as _ _ (sym (set_right t b a.x c.set_in-left.result c.set_in-right.result cl cr c.if-left-x.false c.if-right-x-2.true)) p2

pub returns : goal.returns
returns c =
    let a = c.args in
    let b = unpack a.entry.state in
    let cl = codes_at c.set_in-left.result c.gl.result b.gl b c.gl.ensures.is c.set_in-left.ensures in
    let cr = codes_at c.set_in-right.result c.gr.result b.gr b c.gr.ensures.is c.set_in-right.ensures in
    λ cs most t w h.
    let v = through_none cs t a.x a.entry.cost a.entry.link w in
    pushes_as _ _ (sym (set_apart t b a.x c.set_in-left.result c.set_in-right.result cl cr c.if-left-x.false c.if-right-x-2.false))
    (c.by_elements.ensures cs most t w h)
