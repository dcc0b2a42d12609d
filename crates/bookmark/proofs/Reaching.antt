-- A setting: what was reached, and what is stored. Assumes nothing.
use Prim.Native.Nat.{ℕ, ◌+◌, ◌*◌, ◌≤◌, ◌<◌}
use mathlib.Core.Path.{◌≡◌, refl, ap, ◌∙◌}
use mathlib.Core.Bool.{Bool, true, false}
use mathlib.Core.List.{List, ◌++◌, append_assoc}
use mathlib.Core.Logic.{inl, inr}
use native.Mathlib.Omega.{arith}
use lib.ListN.{length, take, drop, get_or}
use lib.Seq.{sets-eq}
use lib.Dec.{eqb, leb}
use borrow.Author.Tests.{eqb-true, leb-true, leb-false}
use Rattle.lent.specs.Put.{Put}
use Rattle.questions.proofs.Refusals.{passed}
use Rattle.decode_output.proofs.Held.{held_waiting}
use Rattle.reading.specs.State.{given, start}
use Rattle.reading.specs.Macros.{limit}
use Rattle.reading.specs.Between.{before}
use Rattle.reading.specs.WithoutBuffers as unbuffered
use Rattle.decode_state.specs.declared.Core.{Core}
use Rattle.decode_state.specs.declared.Decoder.{Decoder}
use Rattle.decode_state.specs.Promises.{start_of, undefined, view, Holds}
use Rattle.decode_outer.specs.declared.Reached.{Reached}
use Rattle.decode_outer.specs.Promises.{steps_from, ReachesOrCut, TopRan}
use Rattle.decode_outer.proofs.Start.{end_start, enough_end, issues_end, reached_start}
use Rattle.bookmark_form.specs.Form.{is_store, all_below}
use Rattle.bookmark_marks.proofs.Packing.{packed_few, packed_many}
use Rattle.bookmark.specs.Bookmark.{replaced}
use Rattle.bookmark.proofs.Refusals.{both}

not_more : (n m : ℕ) → (m < n → ⊥) → n ≤ m
not_more n m f = go (leb n m) refl
  where
    go : (b : Bool) → leb n m ≡ b → n ≤ m
    go true e = leb-true n m e
    go false e = absurd (f (leb-false n m e))

-- question 3
pub short_input : (c : unbuffered.Lent) → unbuffered.refusal c ≡ 0 → length c.input ≤ 65535
unfolding unbuffered.refusal
short_input c h = (passed c.cells c.initial c.width 65535 (length c.input) h).within

-- a store of bookmarks
pub store_long : (store : List ℕ) → is_store store ≡ true → length store ≡ 4592
unfolding is_store
store_long store h = eqb-true (length store) 4592 (both (eqb (length store) 4592) (all_below 16 (λ k. leb (get_or store (k * 287) 0) 1)) h).0

module _ (cells : List ℕ) (initial width : ℕ) (input : List ℕ) {place : ℕ} {t i : List ℕ} {x : Core} {d : Decoder} {r : Reached} {t' i' : List ℕ}
    (short : length input ≤ 65535) (e : x ≡ start_of initial width 0xFFFFFFFF) (q : d ≡ undefined x) (top : TopRan cells input 0 place d t i r t' i') where
  -- the steps lead to the first that begins at the place or behind it; they are not cut, since there are not enough issues
  pub reaches : Holds (given cells width input) t i (before (given cells width input) initial place).state (view r.decoder) t' i'
      × (r.at ≡ (before (given cells width input) initial place).at)
  unfolding before
  reaches = go (reached_start input initial width 0xFFFFFFFF short e q top)
    where
      go : ReachesOrCut (given cells width input) t i (steps_from 0 place (given cells width input) (start initial)) r.at r.decoder t' i'
          → Holds (given cells width input) t i (steps_from 0 place (given cells width input) (start initial)).state (view r.decoder) t' i'
          × (r.at ≡ (steps_from 0 place (given cells width input) (start initial)).at)
      go (inl h) = h
      go (inr c) = absurd (omega (arith, enough_end input initial width 0xFFFFFFFF short e q top, issues_end input initial width 0xFFFFFFFF short e q top, c.ends))

  -- the text is short enough for a number of 32 bits
  pub short_text : r.decoder.core.out.len ≤ 0xFFFFFFFF
  unfolding limit
  short_text = omega (arith, end_start input initial width 0xFFFFFFFF short e q, top.grown.ordered.0, top.grown.text, short)

  -- sixteen marks at most, by the number that the struct keeps
  pub few_marks : r.decoder.core.out.waiting < 0x1000000000000 → length (before (given cells width input) initial place).state.out.marks ≤ 16
  few_marks h = not_more (length (before (given cells width input) initial place).state.out.marks) 16
      (λ p. omega (arith, packed_many (before (given cells width input) initial place).state.out.marks p, held_waiting reaches.0.out, h))

  pub many_marks : 0x1000000000000 ≤ r.decoder.core.out.waiting → length (before (given cells width input) initial place).state.out.marks ≤ 16 → ⊥
  many_marks h p = omega (arith, packed_few (before (given cells width input) initial place).state.out.marks p, held_waiting reaches.0.out, h)

-- what was put is what a name's numbers were replaced by
pub put_replaced : {store l store' : List ℕ} {r : ℕ} (name : ℕ) → name ≤ 15 → length store ≡ 4592 → length l ≡ 287 → Put store (name * 287) l store' r
    → store' ≡ replaced store name l
put_replaced {store} {l} name h n e p =
    p.written
    ∙ sets-eq l store (name * 287) (omega (arith, h, n, e))
    ∙ append_assoc (take (name * 287) store) l (drop (name * 287 + length l) store)
    ∙ ap (λ (k : ℕ). take (name * 287) store ++ (l ++ drop (name * 287 + k) store)) e
