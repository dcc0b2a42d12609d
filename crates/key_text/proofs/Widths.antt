-- The alphanumeric whose full-width form a character is: what the search finds, and what one test of the 94 says of each. Assumes nothing.
use mathlib.Core.Path.{◌≡◌, refl, sym, ap, ◌∙◌, subst}
use mathlib.Core.Logic.{◌⊎◌, inl, inr}
use mathlib.Core.Bool.{Bool, true, false, ◌||◌}
use mathlib.Core.List.{List, [], ◌∷◌}
use Prim.Native.Nat.{ℕ, zero, suc, ◌+◌, ◌-◌, ◌<◌, ◌≤◌}
use native.Mathlib.Omega.{arith}
use borrow.Author.Tests.{eqb-true, eqb-false, ne_eqb}
use lib.Dec.{T, eqb, leb, eqb→eq, leb→le}
use lib.ListN.{length, get_or, replicate}
use Rattle.base.proofs.Table.{every, at}
use Rattle.tables_onebyte.specs.OneByte.{alphanumeric_table, table_of, one_byte_at, fullwidth_of}
use Rattle.tables_onebyte.specs.declared.OneByteTable.TheVariants.{Alphanumeric}
use Rattle.tables_onebyte.proofs.OneByteLaws.{code_reads}
use Rattle.utf8.specs.Utf8.{utf8}
use Rattle.key_text.specs.KeyText.{halfwidth_in, halfwidth_of}
use Rattle.key_text.specs.Laws.{Widths}

-- ---- the search

record Found (l : List ℕ) (c : ℕ) : Type 0 where
  place : ℕ
  inside : place < length l
  form : fullwidth_of (get_or l place 0) ≡ c
  answer : halfwidth_in l c ≡ get_or l place 0

record Absent (l : List ℕ) (c : ℕ) : Type 0 where
  nowhere : (k : ℕ) → k < length l → fullwidth_of (get_or l k 0) ≡ c → ⊥
  answer : halfwidth_in l c ≡ c

searched : (l : List ℕ) (c : ℕ) → Found l c ⊎ Absent l c
unfolding halfwidth_in
searched [] c = inr (record { nowhere = λ k h e. omega arith; answer = refl })
searched (a ∷ rest) c = go (eqb (fullwidth_of a) c) refl (searched rest c)
  where
    others : eqb (fullwidth_of a) c ≡ false → Absent rest c → (k : ℕ) → k < length (a ∷ rest) → fullwidth_of (get_or (a ∷ rest) k 0) ≡ c → ⊥
    others e n zero h w = eqb-false (fullwidth_of a) c e w
    others e n (suc k) h w = n.nowhere k (omega arith) w

    go : (b : Bool) → eqb (fullwidth_of a) c ≡ b → Found rest c ⊎ Absent rest c → Found (a ∷ rest) c ⊎ Absent (a ∷ rest) c
    go true e r = inl (record { place = 0; inside = omega arith; form = eqb-true (fullwidth_of a) c e; answer = rw e })
    go false e (inl f) = inl (record { place = suc f.place; inside = omega (arith, f.inside); form = f.form; answer = rw e f.answer })
    go false e (inr n) = inr (record { nowhere = others e n; answer = rw e n.answer })

-- the alphanumeric at a code is the table's
at_code : (code : ℕ) → 0x21 ≤ code → one_byte_at Alphanumeric code ≡ get_or alphanumeric_table (code - 0x21) 0
unfolding table_of
at_code code h = code_reads Alphanumeric code h

module _ {half full : ℕ} (w : Widths half full) where
  place_inside : w.code - 0x21 < 94
  place_inside = omega (arith, w.from, w.to)

  at_place : get_or alphanumeric_table (w.code - 0x21) 0 ≡ half
  at_place = sym (at_code w.code w.from) ∙ w.alphanumeric

-- a character that is the full-width form of none of the 94
pub record Own (c : ℕ) : Type 0 where
  pub no_form : (half : ℕ) → Widths half c → ⊥
  pub same : halfwidth_of c ≡ c

-- a character is the full-width form of what the search answers, or of none
pub halved : (c : ℕ) → Widths (halfwidth_of c) c ⊎ Own c
unfolding halfwidth_of
halved c = go (searched alphanumeric_table c)
  where
    go : Found alphanumeric_table c ⊎ Absent alphanumeric_table c → Widths (halfwidth_of c) c ⊎ Own c
    go (inl f) =
        let h : f.place < 94 = f.inside in
        let k : f.place + 0x21 - 0x21 ≡ f.place = omega arith in
        inl
        (record {
          code = f.place + 0x21;
          from = omega arith;
          to = omega arith;
          alphanumeric = at_code (f.place + 0x21) (omega arith) ∙ (ap (λ (i : ℕ). get_or alphanumeric_table i 0) k ∙ sym f.answer);
          form = ap fullwidth_of f.answer ∙ f.form;
        })
    go (inr n) =
        inr
        (record {
          no_form = λ half w. n.nowhere (w.code - 0x21) (place_inside w) (ap fullwidth_of (at_place w) ∙ w.form);
          same = n.answer;
        })

-- what is the form of none of the 94 is itself
pub itself : (c : ℕ) → ((half : ℕ) → Widths half c → ⊥) → halfwidth_of c ≡ c
itself c n = go (halved c)
  where
    go : Widths (halfwidth_of c) c ⊎ Own c → halfwidth_of c ≡ c
    go (inl w) = absurd (n (halfwidth_of c) w)
    go (inr own) = own.same

-- ---- one test of the 94

module _ (f : ℕ → Bool) where
  abbrev passes : ℕ → ℕ → Bool
  passes k half = f half

  of_each : T (every passes 0 alphanumeric_table) → (half full : ℕ) → Widths half full → T (f half)
  of_each t half full w = subst (λ (x : ℕ). T (f x)) (at_place w) (at 0 passes alphanumeric_table t (w.code - 0x21) (place_inside w))

-- the forms are distinct
pub again : (half full : ℕ) → Widths half full → halfwidth_of full ≡ half
unfolding halfwidth_of
again half full w =
    ap halfwidth_of (sym w.form) ∙ eqb→eq (halfwidth_of (fullwidth_of half)) half (of_each (λ a. eqb (halfwidth_of (fullwidth_of a)) a) tt half full w)

-- a form takes at least as many bytes
pub no_more : (half full : ℕ) → Widths half full → length (utf8 half) ≤ length (utf8 full)
unfolding utf8 fullwidth_of
no_more half full w =
    subst (λ (c : ℕ). length (utf8 half) ≤ length (utf8 c)) w.form
    (leb→le (length (utf8 half)) (length (utf8 (fullwidth_of half))) (of_each (λ a. leb (length (utf8 a)) (length (utf8 (fullwidth_of a)))) tt half full w))

-- where the 94 and their forms stand
pub record Ranges (half full : ℕ) : Type 0 where
  pub least : 0x21 ≤ half
  pub greatest : half ≤ 0xA5
  pub from : 0xFF01 ≤ full
  pub to : (full ≡ 0xFFE5 → ⊥) → full ≤ 0xFF5E

abbrev up_to : ℕ → Bool
up_to c = eqb c 0xFFE5 || leb c 0xFF5E

pub ranges : (half full : ℕ) → Widths half full → Ranges half full
unfolding fullwidth_of
ranges half full w =
    record {
      least = leb→le 0x21 half (of_each (λ a. leb 0x21 a) tt half full w);
      greatest = leb→le half 0xA5 (of_each (λ a. leb a 0xA5) tt half full w);
      from = leb→le 0xFF01 full (subst (λ (c : ℕ). T (leb 0xFF01 c)) w.form (of_each (λ a. leb 0xFF01 (fullwidth_of a)) tt half full w));
      to = λ n. leb→le full 0xFF5E (rw (ne_eqb full 0xFFE5 n) at (subst (λ (c : ℕ). T (up_to c)) w.form (of_each (λ a. up_to (fullwidth_of a)) tt half full w)));
    }

-- ---- the code's ranges

-- is the form at a place of the run that of the alphanumeric at the same place?
abbrev in_step : ℕ → ℕ → Bool
in_step k x = eqb k 0x3B || eqb (halfwidth_of (0xFF01 + k)) (0x21 + k)

pub in_run : (c : ℕ) → 0xFF01 ≤ c → c ≤ 0xFF5E → (c ≡ 0xFF3C → ⊥) → halfwidth_of c ≡ c - 0xFF01 + 0x21
unfolding halfwidth_of
in_run c a b n =
    let k = c - 0xFF01 in
    let p : 0xFF01 + k ≡ c = omega arith in
    let q : 0x21 + k ≡ k + 0x21 = omega arith in
    let m : k ≡ 0x3B → ⊥ = λ e. n (omega arith) in
    ap halfwidth_of (sym p) ∙ (eqb→eq (halfwidth_of (0xFF01 + k)) (0x21 + k) (rw (ne_eqb k 0x3B m) at (at 0 in_step (replicate 94 0) tt k (omega arith))) ∙ q)

-- what is outside of them is itself
pub out_of_run : (c : ℕ) → (c ≡ 0xFFE5 → ⊥) → (0xFF01 ≤ c → c ≤ 0xFF5E → ⊥) → halfwidth_of c ≡ c
out_of_run c n o = itself c (λ half w. let r = ranges half c w in o r.from (r.to n))
