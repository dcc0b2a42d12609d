-- From a node of the newest layer back to the start, character by character. Assumes nothing.
use mathlib.Core.Path.{◌≡◌, refl, sym, ap, subst, ◌∙◌}
use mathlib.Core.Bool.{Bool}
use mathlib.Core.List.{List, [], ◌∷◌, ◌++◌}
use Prim.Native.Nat.{ℕ, suc, ◌+◌, ◌-◌, ◌/◌, ◌%◌, ◌≤◌, ◌<◌}
use native.Mathlib.Omega.{arith}
use lib.ListN.{length, get_or, length-append}
use lib.Seq.{sets}
use Rattle.coding.specs.State.{State, start}
use Rattle.coding.specs.Candidates.{Cand}
use Rattle.coding.specs.Search.{Node, node, begin, run, newest, node_at, back}
use Rattle.encode_candidates.specs.Packed.{cands_of, StandsForCandidates}
use Rattle.encode_candidates.specs.declared.candidate.Candidate.{Candidate}
use Rattle.encode_tokens.specs.declared.Character.{Character}
use Rattle.encode_states.specs.Written.{written}
use Rattle.encode_search.specs.Layers.{last_of, Older}
use Rattle.laws_coding.proofs.Chains.{begins, run_chain}
use Rattle.base.proofs.Every.{all_at}
use Rattle.encode_backtrack.specs.Promises.{Chosen, Searched}
use Rattle.encode_backtrack.proofs.Stores.{sets_before}
use Rattle.encode_backtrack.proofs.Nodes.{node_at_lem, Linked, linked_of, linked_link, linked_rest, linked_start, Newest, newest_of, alone_of}

-- how the node at a number was written, and the number of the one before it
abbrev pub how_of : List ℕ → ℕ → ℕ
how_of s p = get_or s p 0 / 131072

abbrev pub before_of : List ℕ → ℕ → ℕ
before_of s p = p - get_or s p 0 % 131072

-- k characters are still to be written, up to the place `to`, the last of them by the node at the number p, and what is behind them is written
pub record Going (css : List (List Cand)) (s : List ℕ) (k p to : ℕ) (l₀ l target : List ℕ) : Type 0 where
  pub layers : List (List Node)
  pub end : ℕ
  pub count : ℕ
  pub i : ℕ
  pub state : State
  pub acc : List ℕ
  pub stand : Older css s (suc k) end count layers
  pub linked : Linked state layers
  pub fits : end ≤ length s
  pub inside : i < count
  pub place : p + count ≡ end + i
  pub bytes : back layers i acc ≡ target
  pub long : to + length acc ≡ length target
  pub coding : l ≡ sets l₀ to acc

-- going back never takes bytes away
back_longer : (ls : List (List Node)) (i : ℕ) (acc : List ℕ) → length acc ≤ length (back ls i acc)
unfolding back
back_longer [] i acc = omega arith
back_longer (l ∷ ls) i acc = omega (arith, back_longer ls (node_at l i).1 ((node_at l i).0 ++ acc), length-append (node_at l i).0 acc)

-- a node, and the one before it
module _ (css : List (List Cand)) (s : List ℕ) (j end count i p : ℕ) (ls : List (List Node)) (t : State) (b : Newest css s (suc j) end count ls) (linked : Linked t ls)
    (h : i < count) (place : p + count ≡ end + i) where
  stands : p ≡ b.from + i
  stands = omega (arith, b.ends)

  last : Newest css s j b.from b.before b.rest
  last = newest_of j refl b.older

  some : 1 ≤ length b.rest
  some = rw last.whole (omega arith)

  linked_whole : Linked t (b.layer ∷ b.rest)
  linked_whole = subst (Linked t) b.whole linked

  before_count : length (newest b.rest) ≡ b.before
  unfolding newest
  before_count = ap (λ (x : List (List Node)). length (newest x)) last.whole ∙ sym last.long

  abbrev prev : ℕ
  prev = (node_at b.layer i).1

  prev_inside : prev < b.before
  prev_inside =
      omega (
        arith,
        before_count,
        ap (λ (x : List ℕ × ℕ). x.1) (node_at_lem b.layer i),
        all_at (λ (m : Node). m.prev < length (newest b.rest)) (node 0 0 (start 0) []) b.layer (linked_link some linked_whole) i (omega (arith, b.long)),
      )

  far : get_or s p 0 % 131072 ≡ b.before + i - prev
  far = ap (λ (x : ℕ). get_or s x 0 % 131072) stands ∙ (b.each i h).far

  how : written (last_of css (suc j)) (how_of s p) ≡ (node_at b.layer i).0
  how = ap (λ (x : ℕ). written (last_of css (suc j)) (how_of s x)) stands ∙ (b.each i h).how

  -- it is before it, in the layer before
  pub far_most : get_or s p 0 % 131072 ≤ p
  far_most = omega (arith, far, stands, last.ends, prev_inside)

  place' : before_of s p + b.before ≡ b.from + prev
  place' = omega (arith, far, stands, last.ends, prev_inside)

  bytes' : (acc : List ℕ) → back ls i acc ≡ back b.rest prev (written (last_of css (suc j)) (how_of s p) ++ acc)
  unfolding back
  bytes' acc = ap (λ (x : List (List Node)). back x i acc) b.whole ∙ ap (λ (x : List ℕ). back b.rest prev (x ++ acc)) (sym how)

  module _ (to : ℕ) (acc target : List ℕ) (y : back ls i acc ≡ target) (z : to + length acc ≡ length target) where
    abbrev bs : List ℕ
    bs = written (last_of css (suc j)) (how_of s p)

    pub bytes_most : length bs ≤ to
    bytes_most = omega (arith, z, ap length (sym (bytes' acc) ∙ y), back_longer b.rest prev (bs ++ acc), length-append bs acc)

    next : (l₀ l l' : List ℕ) (K : List Cand) → K ≡ last_of css (suc j) → end ≤ length s → l ≡ sets l₀ to acc →
        l' ≡ sets l (to - length (written K (how_of s p))) (written K (how_of s p)) → Going css s j (before_of s p) (to - length (written K (how_of s p))) l₀ l' target
    next l₀ l l' K same f x w =
        let m = bytes_most in
        let n : length (written K (how_of s p)) ≡ length bs = ap (λ (c : List Cand). length (written c (how_of s p))) same in
        record {
          layers = b.rest;
          end = b.from;
          count = b.before;
          i = prev;
          state = t;
          acc = bs ++ acc;
          stand = b.older;
          linked = linked_rest some linked_whole;
          fits = omega (arith, b.ends);
          inside = prev_inside;
          place = place';
          bytes = sym (bytes' acc) ∙ y;
          long = omega (arith, length-append bs acc);
          coding =
              w ∙ ap (λ (c : List Cand). sets l (to - length (written c (how_of s p))) (written c (how_of s p))) same ∙
              ap (λ (x : List ℕ). sets x (to - length bs) bs) x ∙
              sets_before bs acc l₀ to (to - length bs) (omega arith) ∙ ap (λ (k : ℕ). sets l₀ k (bs ++ acc)) (omega arith);
        }

-- the start wrote nothing
start_end : (css : List (List Cand)) (s : List ℕ) (end count i : ℕ) (ls : List (List Node)) (t : State) → Older css s 1 end count ls → Linked t ls → i < count →
    (acc : List ℕ) → back ls i acc ≡ acc
unfolding back node_at
start_end css s end count i ls t o c h acc =
    let b = newest_of 0 refl o in
    let w : ls ≡ b.layer ∷ [] = b.whole ∙ ap (λ (x : List (List Node)). b.layer ∷ x) (alone_of b.older) in
    let d : b.layer ≡ node 0 0 t [] ∷ [] = linked_start (subst (Linked t) w c) in
    let e : i ≡ 0 = omega (arith, b.long, ap length d) in
    ap (λ (x : List (List Node)). back x i acc) (w ∙ ap (λ (x : List Node). x ∷ []) d) ∙ ap (λ (x : ℕ). back ((node 0 0 t [] ∷ []) ∷ []) x acc) e

module _ {css : List (List Cand)} {s l₀ target : List ℕ} where
  -- the node is in the store, and so is the one before it
  pub going_fits : {k p to : ℕ} {l : List ℕ} → Going css s k p to l₀ l target → p < length s
  going_fits {k} {p} g = let b = newest_of k refl g.stand in omega (arith, g.place, g.inside, g.fits, b.ends)

  module _ {k p to : ℕ} {l : List ℕ} (j : ℕ) (ek : k ≡ suc j) (g : Going css s k p to l₀ l target) where
    newest_here : Newest css s (suc j) g.end g.count g.layers
    newest_here = newest_of (suc j) (ap suc ek) g.stand

    pub going_before : get_or s p 0 % 131072 ≤ p
    going_before = far_most css s j g.end g.count g.i p g.layers g.state newest_here g.linked g.inside g.place

    -- a character more
    module _ {cells : List ℕ} {annex_e : Bool} {x : Character} (K : List Candidate) (q : Chosen cells annex_e x (get_or css j []))
        (st : StandsForCandidates x.char x.kanji x.symbol annex_e K) where
      same : cands_of K ≡ last_of css (suc j)
      unfolding last_of
      same = st.list cells q.has.kanji q.has.symbol ∙ sym q.list

      pub going_most : length (written (cands_of K) (how_of s p)) ≤ to
      going_most =
          subst (λ (c : List Cand). length (written c (how_of s p)) ≤ to) (sym same)
          (bytes_most css s j g.end g.count g.i p g.layers g.state newest_here g.linked g.inside g.place to g.acc target g.bytes g.long)

      pub going_on : {l' : List ℕ} → l' ≡ sets l (to - length (written (cands_of K) (how_of s p))) (written (cands_of K) (how_of s p)) →
          Going css s j (before_of s p) (to - length (written (cands_of K) (how_of s p))) l₀ l' target
      going_on {l'} e =
          next css s j g.end g.count g.i p g.layers g.state newest_here g.linked g.inside g.place to g.acc target g.bytes g.long l₀ l l'
          (cands_of K) same g.fits g.coding e

  -- none left
  pub going_end : {k p to : ℕ} {l : List ℕ} → k ≡ 0 → Going css s k p to l₀ l target → l ≡ sets l₀ 0 target
  going_end e g =
      let o = subst (λ (x : ℕ). Older css s (suc x) g.end g.count g.layers) e g.stand in
      let w : g.acc ≡ target = sym (start_end css s g.end g.count g.i g.layers g.state o g.linked g.inside g.acc) ∙ g.bytes in
      let z : to_of g ≡ 0 = omega (arith, g.long, ap length w) in
      g.coding ∙ ap (λ (x : ℕ). sets l₀ x g.acc) z ∙ ap (sets l₀ 0) w
    where
      to_of : {k p to : ℕ} {l : List ℕ} → Going css s k p to l₀ l target → ℕ
      to_of {k} {p} {to} g = to

-- the whole way
pub going_start : {annex_e : Bool} {xs : List Character} {s : List ℕ} {node bytes : ℕ} (f : Searched annex_e xs s node bytes) (l : List ℕ) →
    Going f.css s (length xs) node bytes l l (back (run f.css (begin f.initial)).layers f.place [])
unfolding begin
going_start f l =
    record {
      layers = (run f.css (begin f.initial)).layers;
      end = f.end;
      count = f.count;
      i = f.place;
      state = start f.initial;
      acc = [];
      stand = f.layers;
      linked = linked_of (run_chain ⊥ (start f.initial) f.css (λ x. absurd x) [] (begin f.initial) begins);
      fits = f.fits;
      inside = f.inside;
      place = f.stands;
      bytes = refl;
      long = omega (arith, f.bytes_are);
      coding = refl;
    }
