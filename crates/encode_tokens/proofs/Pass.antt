-- The pass that appends the characters in the order of coding. Assumes nothing.
use mathlib.Core.Path.{◌≡◌, refl, sym, ap, ◌∙◌, subst}
use mathlib.Core.Bool.{Bool}
use mathlib.Core.List.{List, [], ◌∷◌, ◌++◌, map, append_assoc, append-nil}
use mathlib.Core.Option as coding-option
use Prim.Native.Nat.{ℕ, ◌+◌, ◌*◌, ◌≤◌, ◌<◌}
use native.Mathlib.Nat.{zero-add}
use native.Mathlib.Numerals.{add-one}
use native.Mathlib.Omega.{arith}
use lib.ListN.{length, take, set, length-set}
use lib.Seq.{take-suc-set, length-take-le}
use Rattle.std.specs.Prelude.{Some, None}
use Rattle.std.proofs.Math.ListN.{length-map}
use Rattle.coding.specs.Candidates.{Cand, candidates, candidates_of, shortest, rest_of}
use Rattle.coding.specs.Tokens as coding
use Rattle.coding.specs.Tokens.{tokens, in_order, ordered}
use Rattle.coding.specs.Call as call
use Rattle.questions.specs.declared.refusal.Refusal.TheVariants.{Unencodable}
use Rattle.encode_tokens.specs.Promises.{ArraysFit, character, Ready}
use Rattle.encode_tokens.specs.declared.Character.{Character}
use Rattle.encode_tokens.specs.declared.Next.{Next}
use Rattle.encode_tokens.specs.declared.Token.{Token}
use Rattle.encode_tokens.specs.Steps.{token, Orders, shortest_of, Appended, Missing}
use Rattle.encode_tokens.proofs.Texts.{at_place, from, from_first, Read}

-- Of all the characters in the order of coding n are appended, and those of `left` are not; r is the sum of the shortest codes so far.
pub record Pass (cells : List ℕ) (annex_e : Bool) (all left : List coding.Token) (n r : ℕ) (xs : List Character) : Type 0 where
  pub written : take n xs ++ map (character cells) (coding.chars left) ≡ map (character cells) (coding.chars all)
  pub without : call.without all (candidates_of cells annex_e (coding.chars all)) ≡ call.without left (candidates_of cells annex_e (coding.chars left))
  pub rest : r + rest_of (candidates_of cells annex_e (coding.chars left)) ≡ rest_of (candidates_of cells annex_e (coding.chars all))
  pub short : r ≤ 2 * n

pub pass_none : (cells : List ℕ) (annex_e : Bool) (all : List coding.Token) (xs : List Character) → Pass cells annex_e all all 0 0 xs
pass_none cells annex_e all xs = record { written = refl; without = refl; rest = omega arith; short = omega arith }

-- ---- one more

-- a character with a candidate is passed over, and its shortest code counted; one without decides
some_first : (x : coding.Token) (left : List coding.Token) (cs : List Cand) (css : List (List Cand)) (n : ℕ) → Some n ≡ shortest_of cs
    → (call.without (x ∷ left) (cs ∷ css) ≡ call.without left css) × (n ≡ shortest cs)
unfolding call.without shortest_of
some_first x left [] css n e = let z : ◌≡◌ {A = ℕ} 0 1 = cc in absurd (omega arith)
some_first x left (k ∷ ks) css n e = let f : n ≡ shortest (k ∷ ks) = cc in (refl, f)

none_first : (x : coding.Token) (left : List coding.Token) (cs : List Cand) (css : List (List Cand)) → None ≡ shortest_of cs
    → call.without (x ∷ left) (cs ∷ css) ≡ coding-option.some x.place
unfolding call.without shortest_of
none_first x left [] css e = refl
none_first x left (k ∷ ks) css e = let z : ◌≡◌ {A = ℕ} 0 1 = cc in absurd (omega arith)

module _ {cells : List ℕ} {annex_e : Bool} {all left : List coding.Token} {n r : ℕ} {xs : List Character} (x : coding.Token)
    (p : Pass cells annex_e all (x ∷ left) n r xs) {y : Character} where
  pub pass_missing : Appended cells annex_e x.char y None → call.without all (candidates_of cells annex_e (coding.chars all)) ≡ coding-option.some x.place
  unfolding candidates_of coding.chars
  pass_missing a = p.without ∙ none_first x left (candidates cells annex_e x.char) (candidates_of cells annex_e (coding.chars left)) a.shortest

  pub pass_next : {code : ℕ} → Appended cells annex_e x.char y (Some code) → n < length xs → Pass cells annex_e all left (n + 1) (r + code) (set xs n y)
  unfolding candidates_of coding.chars rest_of
  pass_next {code} a h =
      let f = some_first x left (candidates cells annex_e x.char) (candidates_of cells annex_e (coding.chars left)) code a.shortest in
      record {
        written =
            ap (λ (k : ℕ). take k (set xs n y) ++ map (character cells) (coding.chars left)) (add-one n)
            ∙ (ap (λ (l : List Character). l ++ map (character cells) (coding.chars left)) (take-suc-set xs n y h)
            ∙ (append_assoc (take n xs) (y ∷ []) (map (character cells) (coding.chars left))
            ∙ (ap (λ (z : Character). take n xs ++ (z ∷ map (character cells) (coding.chars left))) a.character ∙ p.written)));
        without = p.without ∙ f.0;
        rest = omega (arith, f.1, p.rest);
        short = omega (arith, a.short, p.short);
      }

-- ---- the end

pub pass_ready : (cells : List ℕ) (annex_e : Bool) (text : List ℕ) (n r : ℕ) (xs : List Character) → Pass cells annex_e (in_order (tokens text)) [] n r xs → n ≤ length text
    → n ≤ length xs → Ready cells annex_e text n r xs
unfolding coding.chars candidates_of call.without rest_of
pass_ready cells annex_e text n r xs p few w =
    let e : take n xs ≡ map (character cells) (coding.chars (in_order (tokens text))) = sym (append-nil (take n xs)) ∙ p.written in
    let d : n ≡ length (coding.chars (in_order (tokens text))) =
    sym (length-take-le n xs w) ∙ ap length e ∙ length-map (coding.chars (in_order (tokens text))) (character cells) in
    record {
      holds = record { characters = ap (λ (k : ℕ). take k xs) (sym d) ∙ e };
      count = d;
      few = few;
      each = p.without;
      rest = omega (arith, p.rest);
      short = p.short;
    }

-- ---- the loop: a base waits, and the characters from a place on are to be read

pub record Loop (cells : List ℕ) (annex_e : Bool) (text : List ℕ) (xs₀ xs : List Character) (b : Token) (at n r : ℕ) : Type 0 where
  pub pass : Pass cells annex_e (in_order (tokens text)) (ordered (token b) (from text at)) n r xs
  pub behind : n < at
  pub within : at ≤ length text
  pub length : length xs ≡ length xs₀

module _ {cells : List ℕ} {annex_e : Bool} {text : List ℕ} {xs₀ xs : List Character} {b : Token} {at n r : ℕ} (l : Loop cells annex_e text xs₀ xs b at n r)
    (fit : ArraysFit text xs₀) where
  pub loop_within : n < length xs
  loop_within = omega (arith, l.behind, l.within, l.length, fit.room)

  -- a character was read, and the mark or the base that comes next is appended
  module _ {c size : ℕ} (d : Read text at c size) {next : Next} (o : Orders b (record { place = at; char = c }) next) where
    turn : Pass cells annex_e (in_order (tokens text)) (token next.coded ∷ ordered (token next.base) (from text (at + size))) n r xs
    turn =
        subst (λ (ts : List coding.Token). Pass cells annex_e (in_order (tokens text)) ts n r xs)
        (ap (ordered (token b)) d.tokens ∙ o.ordered (from text (at + size)))
        l.pass

    pub loop_missing : {y : Character} → Appended cells annex_e next.coded.char y None → Missing cells annex_e text (Unencodable next.coded.place)
    loop_missing a = record { place = next.coded.place; question = refl; first = pass_missing (token next.coded) turn a }

    pub loop_next : {y : Character} {code : ℕ} → Appended cells annex_e next.coded.char y (Some code)
        → Loop cells annex_e text xs₀ (set xs n y) next.base (at + size) (n + 1) (r + code)
    loop_next {y} a =
        record {
          pass = pass_next (token next.coded) turn a loop_within;
          behind = omega (arith, l.behind, d.least);
          within = d.within;
          length = length-set xs n y ∙ l.length;
        }

  -- nothing is left to be read, and the base is appended
  module _ (z : from text at ≡ []) where
    last : Pass cells annex_e (in_order (tokens text)) (token b ∷ []) n r xs
    unfolding ordered
    last = subst (λ (ts : List coding.Token). Pass cells annex_e (in_order (tokens text)) ts n r xs) (ap (ordered (token b)) z) l.pass

    pub last_missing : {y : Character} → Appended cells annex_e b.char y None → Missing cells annex_e text (Unencodable b.place)
    last_missing a = record { place = b.place; question = refl; first = pass_missing (token b) last a }

    pub last_ready : {y : Character} {code : ℕ} → Appended cells annex_e b.char y (Some code) → Ready cells annex_e text (n + 1) (r + code) (set xs n y)
    last_ready {y} {code} a =
        pass_ready cells annex_e text (n + 1) (r + code) (set xs n y) (pass_next (token b) last a loop_within) (omega (arith, l.behind, l.within))
        (omega (arith, loop_within, length-set xs n y))

-- the first character waits
pub loop_first : (cells : List ℕ) (annex_e : Bool) (text : List ℕ) (xs : List Character) (c size : ℕ) → Read text 0 c size
    → Loop cells annex_e text xs xs (record { place = 0; char = c }) size 0 0
unfolding in_order
loop_first cells annex_e text xs c size d =
    let z : 0 + size ≡ size = zero-add size in
    let e : in_order (tokens text) ≡ ordered (at_place 0 c) (from text size) = ap in_order (from_first text ∙ (d.tokens ∙ ap (λ (k : ℕ). at_place 0 c ∷ from text k) z)) in
    record {
      pass = subst (λ (ts : List coding.Token). Pass cells annex_e (in_order (tokens text)) ts 0 0 xs) e (pass_none cells annex_e (in_order (tokens text)) xs);
      behind = omega (arith, d.least);
      within = omega (arith, d.within);
      length = refl;
    }

-- there is none
pub ready_none : (cells : List ℕ) (annex_e : Bool) (text : List ℕ) (xs : List Character) → from text 0 ≡ [] → Ready cells annex_e text 0 0 xs
unfolding in_order
ready_none cells annex_e text xs e =
    pass_ready cells annex_e text 0 0 xs
    (subst (λ (ts : List coding.Token). Pass cells annex_e (in_order (tokens text)) ts 0 0 xs) (ap in_order (from_first text ∙ e)) (pass_none cells annex_e (in_order (tokens text)) xs))
    (omega arith)
    (omega arith)
