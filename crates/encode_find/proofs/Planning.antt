-- The search for a coding, against the definition. Assumes nothing.
use mathlib.Core.Path.{◌≡◌, refl, sym, ap, subst, ◌∙◌}
use mathlib.Core.Bool.{Bool, true, false, cond}
use mathlib.Core.List.{List, [], ◌∷◌, ◌++◌, map, reverse_aux}
use Prim.Native.Nat.{ℕ, zero, suc, ◌+◌, ◌-◌, ◌*◌, ◌≤◌, ◌<◌}
use native.Mathlib.Omega.{arith}
use mathlib.Core.Option.{none}
use lib.Dec.{eqb}
use lib.ListN.{length, get_or, take, drop, length-drop, length-map, get_or-map}
use lib.Seq.{length-take-le}
use Rattle.std.specs.Prelude.{Option, Some, None, Result, Ok, Err}
use Rattle.std.proofs.lemmas.List.{get_or_default}
use Rattle.questions.specs.declared.refusal.Refusal.{Refusal}
use Rattle.questions.specs.declared.refusal.Refusal.TheVariants.{StoreTooSmall}
use Rattle.coding.specs.State.{start}
use Rattle.coding.specs.Candidates.{Cand, candidates, candidates_of}
use Rattle.coding.specs.Search.{Node, begin, Run, run, newest, least, first_of, node_at, back, gap_of, Coded, finish, code}
use Rattle.coding.specs.Tokens.{tokens, in_order, chars}
use Rattle.coding.specs.Store.{needs, fit}
use Rattle.coding.specs.Call.{question7, question8, refuse, without, coding, choices, ordering}
use Rattle.encode_tokens.specs.Promises.{character, Ready, Tokenised, answered}
use Rattle.encode_tokens.specs.Promises as tokens-contracts
use Rattle.encode_tokens.specs.declared.Character.{Character}
use Rattle.encode_tokens.specs.declared.Ordered.{Ordered}
use Rattle.encode_layer.specs.Entries.{layer_of}
use Rattle.encode_search.specs.declared.Last.{Last}
use Rattle.encode_search.specs.Layers.{last_of, Older, Found, Inside, Few}
use Rattle.encode_search.specs.Layers as search
use Rattle.encode_backtrack.specs.Promises.{Chosen}
use Rattle.encode_layer.specs.Kept.{Squeezed}
use Rattle.encode_search.proofs.Squeezing.{newest_older}
use Rattle.encode_search.proofs.Parts.{lent_part, given_back, lent_part_lem, given_back_lem, joined_long, joined_front, joined_part}
use Rattle.encode_backtrack.proofs.Nodes.{length_layer}
use Rattle.laws_coding.proofs.Chains.{Chain, begins, run_chain, back_length}
use Rattle.base.specs.Lists.{All}
use Rattle.coding.specs.Admissible as admissible
use Rattle.coding.specs.Admissible.{here}
use Rattle.laws_coding.proofs.Choices.{choices_filled}
use Rattle.laws_coding.proofs.Cheapest.{Filled, cheapest, run_filled}
use Rattle.encode_find.specs.declared.Target.{Target}
use Rattle.encode_find.specs.Plans.{asked, Characters, planned, Leading, leads, taken, Planned, Led}

-- the gap
pub gap_none : (len floor : ℕ) → floor ≡ 0 → 0 ≡ gap_of len floor
unfolding gap_of
gap_none len zero e = refl
gap_none len (suc f) e = absurd (omega arith)

pub gap_some : (len floor : ℕ) → (floor ≡ 0 → ⊥) → len - (floor - 1) ≡ gap_of len floor
unfolding gap_of
gap_some len zero e = absurd (e refl)
gap_some len (suc f) e = omega arith

pub gap_over : (len floor : ℕ) → (floor ≡ 0 → ⊥) → len ≤ floor - 1 → 0 ≡ gap_of len floor
unfolding gap_of
gap_over len zero e h = absurd (e refl)
gap_over len (suc f) e h = omega arith

-- the characters' candidates
module _ (cells : List ℕ) (annex_e : Bool) where
  candidates_at : (cs : List ℕ) (j : ℕ) → j < length cs → get_or (candidates_of cells annex_e cs) j [] ≡ candidates cells annex_e (get_or cs j 0)
  unfolding candidates_of
  candidates_at [] j h = absurd (omega arith)
  candidates_at (c ∷ cs) zero h = refl
  candidates_at (c ∷ cs) (suc j) h = candidates_at cs j (omega arith)

  chosen_at : (xs : List Character) (cs : List ℕ) → xs ≡ map (character cells) cs → (j : ℕ) (d : Character) → j < length xs →
      Chosen cells annex_e (get_or xs j d) (get_or (candidates_of cells annex_e cs) j [])
  chosen_at xs cs h j d g =
      let n : length xs ≡ length cs = ap length h ∙ length-map cs (character cells) in
      let e : get_or xs j d ≡ character cells (get_or cs j 0) =
      get_or_default xs j d (character cells 0) g ∙ (ap (λ (l : List Character). get_or l j (character cells 0)) h ∙ get_or-map (character cells) cs j 0) in
      subst (λ (x : Character). Chosen cells annex_e x (get_or (candidates_of cells annex_e cs) j [])) (sym e)
      (record { list = candidates_at cs j (omega arith); has = record { kanji = refl; symbol = refl } })

  no_candidates : (cs : List ℕ) → 0 ≡ length cs → candidates_of cells annex_e cs ≡ []
  unfolding candidates_of
  no_candidates [] e = refl
  no_candidates (c ∷ cs) e = absurd (omega arith)

-- the coding of no character
code_none : (initial : ℕ) → code [] initial ≡ record { out = []; gap = 0 }
unfolding code finish run begin back node_at first_of least newest gap_of
code_none initial = refl

fit_none : (room initial : ℕ) → fit room (needs [] initial) ≡ true
unfolding fit needs
fit_none room initial = refl

-- the first of a cost is one of the layer, or behind it
first_most : (cost : ℕ) (l : List Node) → first_of cost l ≤ length l
unfolding first_of
first_most cost [] = omega arith
first_most cost (n ∷ l) = go (eqb n.cost cost) refl (first_most cost l)
  where
    go : (b : Bool) → eqb n.cost cost ≡ b → first_of cost l ≤ length l → first_of cost (n ∷ l) ≤ length (n ∷ l)
    go true e h = rw (e, first_of) (omega arith)
    go false e h = rw (e, first_of) (omega arith)

pub place_most : (part : List ℕ) (count cost place : ℕ) → count * 4 ≤ length part → ((cs : List Cand) → place ≡ first_of cost (layer_of cs part 0 count)) → place ≤ count
place_most part count cost place h e = omega (arith, e [], first_most cost (layer_of [] part 0 count), length_layer part 0 count (omega arith) [])

-- the search's answer
module _ (annex_e : Bool) (initial : ℕ) (s s' : List ℕ) (xs : List Character) (rest : ℕ) (t : Characters annex_e xs rest) (same : length s' ≡ length s) where
  abbrev css : List (List Cand)
  css = candidates_of t.cells annex_e t.chars

  abbrev ran : Run
  ran = run css (begin initial)

  abbrev last : List Node
  last = newest ran.layers

  abbrev n : ℕ
  n = length xs

  number : n ≡ length t.chars
  number = ap length t.holds ∙ length-map t.chars (character t.cells)

  pub led_nothing : n ≡ 0 → Led annex_e (code css initial) (needs css initial) (Ok None) s' xs
  unfolding planned leads
  led_nothing e =
      let n = no_candidates t.cells annex_e t.chars (omega (arith, number)) in
      let k : code css initial ≡ record { out = []; gap = 0 } = ap (λ (x : List (List Cand)). code x initial) n ∙ code_none initial in
      let f : fit (length s') (needs css initial) ≡ true = ap (λ (x : List (List Cand)). fit (length s') (needs x initial)) n ∙ fit_none (length s') initial in
      record { answer = λ room. rw f refl; found = (ap (λ (x : Coded). x.out) k, ap (λ (x : Coded). x.gap) k) }

  pub led_full : search.Searched xs annex_e initial rest s s' None → Led annex_e (code css initial) (needs css initial) (Err StoreTooSmall) s' xs
  unfolding planned leads
  led_full d =
      let h : fit (length s') (needs css initial) ≡ false = rw same (d t.cells t.chars t.holds) in
      record { answer = λ room. rw h refl; found = tt }

  module _ {l : Last} (d : search.Led xs annex_e initial rest s s' l) where
    abbrev from : ℕ
    from = l.from

    abbrev count : ℕ
    count = l.count

    abbrev before : ℕ
    before = l.before

    abbrev floor : ℕ
    floor = l.floor

    module _ where
      found_at : Found css initial s' n from count before floor
      found_at = d.done t.cells t.chars t.holds t.shortest

      inside : Inside s from count before
      inside = d.inside

      abbrev part : List ℕ
      part = drop from s'

      long : length part ≡ length s' - from
      long = length-drop from s'

      part_fits : count * 4 ≤ length part
      part_fits = omega (arith, inside.store, same, long)

      pub lent_fits : count * 4 ≤ length (lent_part s' from)
      lent_fits = rw lent_part_lem part_fits

      abbrev layer : List Node
      layer = layer_of (last_of css n) part 0 count

      head : last ≡ layer
      unfolding newest
      head = ap newest found_at.layers.whole

      chain : Chain ⊥ (start initial) (reverse_aux css []) ran.layers
      unfolding begin
      chain = run_chain ⊥ (start initial) css (λ x. absurd x) [] (begin initial) begins

      filled : Filled last
      unfolding begin newest
      filled = run_filled css t.each (begin initial) (here tt)

      -- the newest layer is squeezed too
      module _ (p' : List ℕ) (es : Squeezed (lent_part s' from) p' count before) (same-part : length p' ≡ length (lent_part s' from)) where
        fits_from : from ≤ length s'
        fits_from = omega (arith, inside.store, same)

        abbrev joined : List ℕ
        joined = take from s' ++ p'

        older_all : Older css joined (suc n) (from + count) count ran.layers
        older_all =
            let q : Squeezed part p' count before = rw lent_part_lem at es in
            newest_older css s' joined n from count before ran.layers (omega (arith, inside.store, same)) inside.few inside.before_few found_at.layers
            (joined_front s' p' from fits_from) (λ i k. joined_part s' p' from fits_from i ∙ q.each i k)

        joined_same : length joined ≡ length s'
        joined_same = joined_long s' p' from fits_from (rw lent_part_lem at same-part)

        pub led_found : (best place gap : ℕ) → best ≤ 4294967295 → ((cs : List Cand) → best ≡ least (layer_of cs (lent_part s' from) 0 count)) →
            ((cs : List Cand) → place ≡ first_of best (layer_of cs (lent_part s' from) 0 count)) → gap ≡ gap_of best floor →
            Led annex_e (code css initial) (needs css initial) (Ok (Some (record { count = n; node = from + place; length = best; gap = gap }))) (given_back s' from p') xs
        unfolding code finish planned leads
        led_found best place gap small eb en eg =
            let f = found_at in
            let lp = lent_part_lem s' from in
            let b : best ≡ least last = eb (last_of css n) ∙ ap (λ (x : List ℕ). least (layer_of (last_of css n) x 0 count)) lp ∙ ap least (sym head) in
            let i : place ≡ first_of (least last) last =
            en (last_of css n) ∙ ap (λ (x : List ℕ). first_of best (layer_of (last_of css n) x 0 count)) lp ∙ ap (λ (x : ℕ). first_of x layer) b ∙ ap (first_of (least last)) (sym head) in
            let q = cheapest last filled in
            let m : length last ≡ count = ap length head ∙ length_layer part 0 count (omega (arith, part_fits)) (last_of css n) in
            let o : length (code css initial).out ≡ least last = omega (arith, back_length ⊥ (start initial) chain (first_of (least last) last) q.0 [], q.1) in
            let z : best ≡ length (code css initial).out = b ∙ sym o in
            let w : back ran.layers place [] ≡ (code css initial).out = ap (λ (x : ℕ). back ran.layers x []) i in
            rw given_back_lem
            (record {
              answer = λ room. rw (joined_same, f.room) refl;
              found = record {
                count = refl;
                searched = record {
                  cells = t.cells;
                  css = css;
                  initial = initial;
                  end = from + count;
                  count = count;
                  place = place;
                  chosen = chosen_at t.cells annex_e xs t.chars t.holds;
                  layers = older_all;
                  fits = omega (arith, joined_same, inside.store, same);
                  inside = omega (arith, q.0, m, i);
                  stands = omega arith;
                  bytes_are = z ∙ ap length (sym w);
                  bytes_few = small;
                };
                out = w;
                length_is = z;
                gap_is = eg ∙ ap (λ (x : ℕ). gap_of x floor) z ∙ ap (gap_of (length (code css initial).out)) (sym f.floors);
              };
            })

-- the characters are those with which the array begins
taken_leads : (p : Result (Option Target) Refusal) (annex_e : Bool) (k : Coded) (s : List ℕ) (xs : List Character) (n : ℕ) → n ≤ length xs → leads p annex_e k s (take n xs) →
    leads p annex_e k s (taken p xs)
unfolding leads taken
taken_leads (Ok None) annex_e k s xs n h l = l
taken_leads (Ok (Some t)) annex_e k s xs n h l =
    let e : n ≡ t.count = omega (arith, l.count, length-take-le n xs h) in
    subst (λ (m : ℕ). Leading annex_e k t s (take m xs)) e l
taken_leads (Err e) annex_e k s xs n h l = tt

-- questions 4 to 6
pub filled_all : (cells : List ℕ) (width : ℕ) (text : List ℕ) → without (in_order (tokens text)) (candidates_of cells (eqb width 1) (chars (in_order (tokens text)))) ≡ none →
    All (λ cs. admissible.Some (λ k. Unit {0}) cs) (candidates_of cells (eqb width 1) (chars (in_order (tokens text))))
unfolding choices ordering
filled_all cells width text e = choices_filled (asked cells 0 width text [] 0) e

module _ (cells : List ℕ) (initial width : ℕ) (text : List ℕ) (xs : List Character) (r : Result Ordered Refusal) (d : Tokenised cells (eqb width 1) text r xs) where
  pub ready : {o : Ordered} → r ≡ Ok o → Ready cells (eqb width 1) text o.count o.rest xs
  unfolding tokens-contracts.left
  ready e = subst (λ (x : Result Ordered Refusal). tokens-contracts.left x cells (eqb width 1) text xs) e d.array

  abbrev pub characters_of : {o : Ordered} → r ≡ Ok o → Characters (eqb width 1) (take o.count xs) o.rest
  characters_of e =
      let q = ready e in
      record {
        cells = cells;
        chars = chars (in_order (tokens text));
        holds = ap (λ (n : ℕ). take n xs) q.count ∙ q.holds.characters;
        shortest = q.rest;
        each = filled_all cells width text q.each;
      }

  -- the characters are no more than the array has
  pub count_most : {o : Ordered} → r ≡ Ok o → length text ≤ length xs → o.count ≤ length xs
  count_most e h = let q = ready e in omega (arith, q.few)

  pub few_of : {o : Ordered} → r ≡ Ok o → length text ≤ 7281 → o.count ≤ length xs → Few (take o.count xs) o.rest
  few_of {o} e h k =
      let q = ready e in
      record { few = omega (arith, q.few, length-take-le o.count xs k); rest_small = omega (arith, q.few, q.short) }

  pub planned_on : {o : Ordered} (s s' : List ℕ) (room : ℕ) {p : Result (Option Target) Refusal} → r ≡ Ok o → length s' ≡ length s → o.count ≤ length xs →
      Led (eqb width 1) (code (candidates_of cells (eqb width 1) (chars (in_order (tokens text)))) initial)
      (needs (candidates_of cells (eqb width 1) (chars (in_order (tokens text)))) initial) p s' (take o.count xs) →
      Planned (asked cells initial width text s room) p s' xs
  unfolding answered question7 coding choices ordering
  planned_on {o} s s' room {p} e m k l =
      let c = asked cells initial width text s room in
      record {
        answer = d.answer c refl refl refl ∙ ap (λ (x : Result Ordered Refusal). answered x c) e ∙
            ap (λ (x : ℕ). cond (fit x (needs (choices c) initial)) (question8 room (coding c)) (refuse 7 0)) (sym m) ∙ l.answer room;
        found = taken_leads p (eqb width 1) (coding c) s' xs o.count k l.found;
      }

  pub planned_not : {e : Refusal} (s s' : List ℕ) (room : ℕ) → r ≡ Err e → Planned (asked cells initial width text s room) (Err e) s' xs
  unfolding answered planned leads
  planned_not s s' room e =
      let c = asked cells initial width text s room in
      record { answer = d.answer c refl refl refl ∙ ap (λ (x : Result Ordered Refusal). answered x c) e; found = tt }
