-- The order in which characters are coded, and that in which reading writes them. Assumes nothing.
use Prim.Native.Nat.{ℕ, ◌+◌}
use mathlib.Core.Path.{◌≡◌, refl, sym, ap, ◌∙◌}
use mathlib.Core.Bool.{Bool, true, false, not, true≢false}
use mathlib.Core.List.{List, [], ◌∷◌, ◌++◌, append_assoc}
use mathlib.Core.Option.{none}
use native.Mathlib.Omega.{arith}
use lib.Dec.{eqb}
use lib.ListN.{length}
use Rattle.tables.specs.Kanji.{non_spacing, has_character}
use Rattle.utf8.specs.Utf8.{utf8, scalars}
use Rattle.coding.specs.Candidates.{Cand, candidates, candidates_of}
use Rattle.coding.specs.Tokens.{Token, placed, tokens, ordered, in_order, chars, baseless}

-- The candidates of characters in coding order, before which the marks ms wait, and the characters that are written: marks follow the next
-- character that is none, and none waits at a newline or at the end.
pub data Coded (cells : List ℕ) (annex_e : Bool) : List ℕ → List (List Cand) → List ℕ → Type 0 where
  end : Coded cells annex_e [] [] []
  with_mark : {ms ts : List ℕ} {css : List (List Cand)} (c : ℕ) → has_character non_spacing c ≡ true → Coded cells annex_e (ms ++ (c ∷ [])) css ts →
      Coded cells annex_e ms (candidates cells annex_e c ∷ css) ts
  with_base : {ms ts : List ℕ} {css : List (List Cand)} (c : ℕ) → has_character non_spacing c ≡ false → (eqb c 10 ≡ true → ms ≡ []) → Coded cells annex_e [] css ts →
      Coded cells annex_e ms (candidates cells annex_e c ∷ css) (c ∷ (ms ++ ts))

module _ (cells : List ℕ) (annex_e : Bool) where
  -- the base b with the characters ts after it, of which the marks ms stand before b in coding order
  abbrev Ordered : Token → List Token → List ℕ → Type 0
  Ordered b ts ms =
      has_character non_spacing b.char ≡ false → (eqb b.char 10 ≡ true → ms ≡ []) → baseless (not (eqb b.char 10)) ts ≡ none
      → Coded cells annex_e ms (candidates_of cells annex_e (chars (ordered b ts))) (b.char ∷ (ms ++ chars ts))

  ordered_coded : (b : Token) (ts : List Token) (ms : List ℕ) → Ordered b ts ms
  unfolding ordered chars candidates_of baseless
  ordered_coded b [] ms m n e = with_base b.char m n end
  ordered_coded b (t ∷ ts) ms m n e = go (has_character non_spacing t.char) refl (eqb b.char 10) refl (ordered_coded b ts (ms ++ (t.char ∷ []))) (ordered_coded t ts [])
    where
      go : (x : Bool) → has_character non_spacing t.char ≡ x → (y : Bool) → eqb b.char 10 ≡ y → Ordered b ts (ms ++ (t.char ∷ [])) → Ordered t ts []
          → Coded cells annex_e ms (candidates_of cells annex_e (chars (ordered b (t ∷ ts)))) (b.char ∷ (ms ++ chars (t ∷ ts)))
      go true p true q later next = let f = rw (p, q, baseless) at e in absurd (let z : ◌≡◌ {A = ℕ} 0 1 = cc in omega arith)
      go true p false q later next =
          let f = rw (p, q, baseless) at e in
          rw p (with_mark t.char p (rw append_assoc at (later m (λ z. absurd (true≢false (sym z ∙ q))) (rw q f))))
      go false p y q later next = let f = rw (p, baseless) at e in rw p (with_base b.char m n (next p (λ z. refl) f))

  in_order_lem : (ts : List Token) → baseless false ts ≡ none → Coded cells annex_e [] (candidates_of cells annex_e (chars (in_order ts))) (chars ts)
  unfolding in_order chars candidates_of baseless
  in_order_lem [] e = end
  in_order_lem (t ∷ ts) e = go (has_character non_spacing t.char) refl
    where
      go : (x : Bool) → has_character non_spacing t.char ≡ x → Coded cells annex_e [] (candidates_of cells annex_e (chars (ordered t ts))) (t.char ∷ chars ts)
      go true p = let f = rw (p, baseless) at e in absurd (let z : ◌≡◌ {A = ℕ} 0 1 = cc in omega arith)
      go false p = ordered_coded t ts [] p (λ z. refl) (rw (p, baseless) at e)

  chars_placed : (p : ℕ) (cs : List ℕ) → chars (placed p cs) ≡ cs
  unfolding placed chars
  chars_placed p [] = refl
  chars_placed p (c ∷ cs) = ap (λ (l : List ℕ). c ∷ l) (chars_placed (p + length (utf8 c)) cs)

  -- a text, coded in order, is written as it is
  pub text_coded : (text : List ℕ) → baseless false (tokens text) ≡ none → Coded cells annex_e [] (candidates_of cells annex_e (chars (in_order (tokens text)))) (scalars text)
  unfolding tokens
  text_coded text e = rw (chars_placed 0 (scalars text)) at (in_order_lem (tokens text) e)
