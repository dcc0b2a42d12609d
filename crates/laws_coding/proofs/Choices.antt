-- The candidates of characters: they are fine, and there is a list for each character of the text. Assumes nothing.
use mathlib.Core.Path.{◌≡◌, refl, ◌∙◌, ap}
use mathlib.Core.Bool.{Bool, true, false, cond}
use mathlib.Core.List.{List, [], ◌∷◌}
use mathlib.Core.Option.{Option, none, some}
use Prim.Native.Nat.{ℕ, zero, suc, ◌+◌, ◌-◌, ◌≤◌, ◌<◌}
use native.Mathlib.Omega.{arith}
use lib.Dec.{eqb}
use lib.ListN.{length}
use Rattle.tables.specs.Kanji.{non_spacing, has_character, cell_with}
use Rattle.tables_onebyte.specs.Reverse.{one_byte_reverse}
use Rattle.tables_reverse.specs.Reverse.{kanji_reverse, additional_reverse}
use Rattle.tables_onebyte.specs.declared.OneByteTable.TheVariants.{Alphanumeric, Fullwidth, Hiragana, Katakana, JisX0201Katakana}
use Rattle.utf8.specs.Utf8.{utf8, sequence, scalars_from, scalars}
use Rattle.utf8.specs.declared.Sequence.{Sequence}
use Rattle.utf8.specs.declared.Sequence.TheVariants.{Scalar, Fault, End}
use Rattle.coding.specs.Candidates.{Size, either, narrow, wide, Cand, plain, of_code, of_place, fullwidth, letters, candidates, candidates_of}
use Rattle.coding.specs.Tokens.{Token, placed, tokens, ordered, in_order, chars}
use Rattle.coding.specs.Call.{Lent, ordering, choices, without}
use Rattle.base.specs.Lists.{All, when}
use Rattle.coding.specs.Admissible.{here}
use Rattle.base.proofs.Every.{all_append}
use Rattle.laws_coding.proofs.Written.{OfTables}
use Rattle.laws_coding.proofs.Cheapest.{Filled}

of_code_lem : (x : ℕ) (size : Size) → x < 15 → (k : Option ℕ) → All OfTables (of_code x size k)
unfolding of_code
of_code_lem x size h none = tt
of_code_lem x size h (some b) = ((h, omega arith), tt)

of_place_lem : (x : ℕ) (size : Size) → x < 15 → (p : Option (ℕ × ℕ)) → All OfTables (of_place x size p)
unfolding of_place
of_place_lem x size h none = tt
of_place_lem x size h (some p) = ((h, omega arith), tt)

of_space : (b : Bool) (size : Size) → All OfTables (when b (plain 0x20 size))
of_space true size = (tt, tt)
of_space false size = tt

of_fullwidth : (annex_e : Bool) (c : ℕ) → All OfTables (fullwidth annex_e c)
unfolding fullwidth
of_fullwidth true c = tt
of_fullwidth false c = of_code_lem 1 wide (omega arith) (one_byte_reverse Fullwidth c)

of_wide_space : (annex_e : Bool) (c : ℕ) → All OfTables (cond annex_e [] (when (eqb c 0x3000) (plain 0x20 wide)))
of_wide_space true c = tt
of_wide_space false c = of_space (eqb c 0x3000) wide

letters_fine : (cells : List ℕ) (annex_e : Bool) (c : ℕ) → All OfTables (letters cells annex_e c)
unfolding letters
letters_fine cells annex_e c =
    all_append OfTables (of_code 2 wide (one_byte_reverse Hiragana c)) _ (of_code_lem 2 wide (omega arith) (one_byte_reverse Hiragana c))
    (all_append OfTables (of_code 3 wide (one_byte_reverse Katakana c)) _ (of_code_lem 3 wide (omega arith) (one_byte_reverse Katakana c))
    (all_append OfTables (of_code 1 narrow (one_byte_reverse Alphanumeric c)) _ (of_code_lem 1 narrow (omega arith) (one_byte_reverse Alphanumeric c))
    (all_append OfTables (fullwidth annex_e c) _ (of_fullwidth annex_e c)
    (all_append OfTables (of_place 0 wide (kanji_reverse cells c)) _ (of_place_lem 0 wide (omega arith) (kanji_reverse cells c))
    (all_append OfTables (of_place 14 wide (additional_reverse c)) _ (of_place_lem 14 wide (omega arith) (additional_reverse c))
    (all_append OfTables (of_code 11 narrow (one_byte_reverse JisX0201Katakana c)) _ (of_code_lem 11 narrow (omega arith) (one_byte_reverse JisX0201Katakana c))
    (all_append OfTables (when (eqb c 0x20) (plain 0x20 narrow)) _ (of_space (eqb c 0x20) narrow) (of_wide_space annex_e c))))))))

pub candidates_fine : (cells : List ℕ) (annex_e : Bool) (c : ℕ) → All OfTables (candidates cells annex_e c)
unfolding candidates
candidates_fine cells annex_e c = go (eqb c 10) (has_character non_spacing c)
  where
    go : (newline mark : Bool) →
        All OfTables (elim newline [ true ↦ plain 0x0D either ∷ [] | false ↦ elim mark [ true ↦ of_place 0 either (cell_with non_spacing c) | false ↦ letters cells annex_e c ] ])
    go true mark = (tt, tt)
    go false true = of_place_lem 0 either (omega arith) (cell_with non_spacing c)
    go false false = letters_fine cells annex_e c

all_fine : (cells : List ℕ) (annex_e : Bool) (cs : List ℕ) → All (All OfTables) (candidates_of cells annex_e cs)
unfolding candidates_of
all_fine cells annex_e [] = tt
all_fine cells annex_e (c ∷ cs) = (candidates_fine cells annex_e c, all_fine cells annex_e cs)

pub choices_fine : (c : Lent) → All (All OfTables) (choices c)
unfolding choices
choices_fine c = all_fine c.cells (eqb c.width 1) (chars (ordering c))

-- lengths
candidates_length : (cells : List ℕ) (annex_e : Bool) (ts : List Token) → length (candidates_of cells annex_e (chars ts)) ≡ length ts
unfolding candidates_of chars
candidates_length cells annex_e [] = refl
candidates_length cells annex_e (t ∷ ts) = ap suc (candidates_length cells annex_e ts)

placed_length : (p : ℕ) (cs : List ℕ) → length (placed p cs) ≡ length cs
unfolding placed
placed_length p [] = refl
placed_length p (c ∷ cs) = ap suc (placed_length (p + length (utf8 c)) cs)

ordered_length : (b : Token) (ts : List Token) → length (ordered b ts) ≡ suc (length ts)
unfolding ordered
ordered_length b [] = refl
ordered_length b (t ∷ ts) = go (has_character non_spacing t.char) (ordered_length b ts) (ordered_length t ts)
  where
    go : (mark : Bool) → length (ordered b ts) ≡ suc (length ts) → length (ordered t ts) ≡ suc (length ts) → length (cond mark (t ∷ ordered b ts) (b ∷ ordered t ts)) ≡ suc (suc (length ts))
    go true e f = ap suc e
    go false e f = ap suc f

in_order_length : (ts : List Token) → length (in_order ts) ≡ length ts
unfolding in_order
in_order_length [] = refl
in_order_length (t ∷ ts) = ordered_length t ts

pub choices_length : (c : Lent) → length (choices c) ≡ length (scalars c.text)
unfolding choices ordering tokens
choices_length c = candidates_length c.cells (eqb c.width 1) (ordering c) ∙ in_order_length (tokens c.text) ∙ placed_length 0 (scalars c.text)

scalars_from_most : (k : ℕ) (l : List ℕ) → length (scalars_from k l) ≤ length l
unfolding scalars_from
scalars_from_most k [] = omega arith
scalars_from_most (suc k) (x ∷ l) = omega (arith, scalars_from_most k l)
scalars_from_most zero (x ∷ l) = go (sequence (x ∷ l)) refl (λ k. scalars_from_most k l)
  where
    go : (q : Sequence) → sequence (x ∷ l) ≡ q → ((k : ℕ) → length (scalars_from k l) ≤ length l) → length (scalars_from zero (x ∷ l)) ≤ suc (length l)
    go (Scalar c n) e h = rw (e, scalars_from) (omega (arith, h (n - 1)))
    go Fault e h = rw (e, scalars_from) (omega arith)
    go End e h = rw (e, scalars_from) (omega arith)

pub scalars_most : (text : List ℕ) → length (scalars text) ≤ length text
unfolding scalars
scalars_most text = scalars_from_most 0 text

-- "Has each character a candidate?"
have : (ts : List Token) (css : List (List Cand)) → length css ≤ length ts → without ts css ≡ none → All Filled css
unfolding without
have ts [] h e = tt
have [] (ks ∷ css) h e = absurd (omega arith)
have (t ∷ ts) ([] ∷ css) h e = absurd (let z : ◌≡◌ {A = ℕ} 0 1 = cc in omega arith)
have (t ∷ ts) ((k ∷ ks) ∷ css) h e = (here tt, have ts css (omega arith) e)

pub choices_filled : (c : Lent) → without (ordering c) (choices c) ≡ none → All Filled (choices c)
unfolding choices
choices_filled c e = have (ordering c) (choices c) (omega (arith, candidates_length c.cells (eqb c.width 1) (ordering c))) e
