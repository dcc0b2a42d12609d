-- The laws of keys, by name: specs/Laws.antt states them. Assumes nothing.
use mathlib.Core.Path.{◌≡◌, refl, sym, ap, ap₂, ◌∙◌, subst}
use mathlib.Core.Logic.{◌⊎◌, inl, inr}
use mathlib.Core.Bool.{Bool, true, false, cond, ◌||◌}
use mathlib.Core.List.{List, [], ◌∷◌}
use mathlib.Core.Option.{none, some}
use Prim.Native.Nat.{ℕ}
use native.Mathlib.Omega.{arith}
use borrow.Author.Tests.{eqb-false}
use lib.Dec.{eqb}
use Rattle.tables_onebyte.specs.OneByte.{fullwidth_of}
use Rattle.key_text.specs.KeyText.{halfwidth_of, key_char, kept, key_text}
use Rattle.key_text.specs.Laws.{Without, Widths, Halfwidth, SameLetter}
use Rattle.key_text.specs.Laws.{KeyWithout, KeyHalfwidth, OwnKey, KeyOfKey, WidthsOneKey, OneKeyWidths}
use Rattle.key_text.proofs.Characters.{stays}
use Rattle.key_text.proofs.Widths.{Own, halved, itself, again, ranges}

-- ---- what a key holds

-- what stands for a character is none of the three, if that is none
half_without : (c : ℕ) → Without (c ∷ []) → Without (halfwidth_of c ∷ [])
half_without c n = go (halved c)
  where
    go : Widths (halfwidth_of c) c ⊎ Own c → Without (halfwidth_of c ∷ [])
    go (inl w) = let b = ranges (halfwidth_of c) c w in ((λ e. omega (arith, b.least)), (λ e. omega (arith, b.least)), (λ e. omega (arith, b.greatest)), tt)
    go (inr own) = rw own.same n

pub key_without : KeyWithout
unfolding key_text key_char kept
key_without [] = tt
key_without (c ∷ cs) = go (eqb c 0x0A) (eqb c 0x20) (eqb c 0x3000) refl refl refl (key_without cs)
  where
    go : (a b d : Bool) → eqb c 0x0A ≡ a → eqb c 0x20 ≡ b → eqb c 0x3000 ≡ d → Without (key_text cs) → Without (kept (cond (a || b || d) none (some (halfwidth_of c))) (key_text cs))
    go true b d p q r w = w
    go false true d p q r w = w
    go false false true p q r w = w
    go false false false p q r w =
        let h = half_without c (eqb-false c 0x0A p, eqb-false c 0x20 q, eqb-false c 0x3000 r, tt) in
        (h.0, h.1, h.2, w)

-- what stands for a character is no form of the 94, which end before their forms begin
half_halfwidth : (c half : ℕ) → Widths half (halfwidth_of c) → ⊥
half_halfwidth c half v = go (halved c)
  where
    go : Widths (halfwidth_of c) c ⊎ Own c → ⊥
    go (inl w) = omega (arith, (ranges (halfwidth_of c) c w).greatest, (ranges half (halfwidth_of c) v).from)
    go (inr own) = own.no_form half (subst (Widths half) own.same v)

pub key_halfwidth : KeyHalfwidth
unfolding key_text key_char kept
key_halfwidth [] = tt
key_halfwidth (c ∷ cs) = go (eqb c 0x0A || eqb c 0x20 || eqb c 0x3000) (key_halfwidth cs)
  where
    go : (b : Bool) → Halfwidth (key_text cs) → Halfwidth (kept (cond b none (some (halfwidth_of c))) (key_text cs))
    go true h = h
    go false h = (half_halfwidth c, h)

-- ---- the key of a key

-- a character that is none of the three has its place in the key
kept_first : (c : ℕ) (cs : List ℕ) → Without (c ∷ cs) → key_text (c ∷ cs) ≡ halfwidth_of c ∷ key_text cs
unfolding key_text kept
kept_first c cs w = rw (stays c w.0 w.1 w.2)

pub own_key : OwnKey
unfolding key_text
own_key [] h k = refl
own_key (c ∷ cs) h k = kept_first c cs h ∙ ap₂ (λ (x : ℕ) (l : List ℕ). x ∷ l) (itself c k.0) (own_key cs h.3 k.1)

pub key_of_key : KeyOfKey
key_of_key text = own_key (key_text text) (key_without text) (key_halfwidth text)

-- ---- one key

-- the two widths of one of the 94 have one character in a key
one_char : (half full : ℕ) → Widths half full → key_char half ≡ key_char full
one_char half full w =
    let b = ranges half full w in
    let from = b.from in
    let least = b.least in
    let greatest = b.greatest in
    stays half (λ e. omega arith) (λ e. omega arith) (λ e. omega arith)
    ∙ (ap some (itself half (λ x v. omega (arith, (ranges x half v).from)) ∙ sym (again half full w)) ∙ sym (stays full (λ e. omega arith) (λ e. omega arith) (λ e. omega arith)))

same_char : (c d : ℕ) → SameLetter c d → key_char c ≡ key_char d
same_char c d (inl e) = ap key_char e
same_char c d (inr (inl w)) = one_char c d w
same_char c d (inr (inr w)) = sym (one_char d c w)

pub widths_one_key : WidthsOneKey
unfolding key_text
widths_one_key [] [] h = refl
widths_one_key [] (d ∷ ds) h = absurd h
widths_one_key (c ∷ cs) [] h = absurd h
widths_one_key (c ∷ cs) (d ∷ ds) h = ap₂ kept (same_char c d h.0) (widths_one_key cs ds h.1)

-- characters that have one half-width are one, or the widths of one of the 94
same_letter : (c d : ℕ) → halfwidth_of c ≡ halfwidth_of d → SameLetter c d
same_letter c d e = go (halved c) (halved d)
  where
    go : Widths (halfwidth_of c) c ⊎ Own c → Widths (halfwidth_of d) d ⊎ Own d → SameLetter c d
    go (inl v) (inl w) = inl (sym v.form ∙ (ap fullwidth_of e ∙ w.form))
    go (inl v) (inr own) = inr (inr (subst (λ (x : ℕ). Widths x c) (e ∙ own.same) v))
    go (inr own) (inl w) = inr (inl (subst (λ (x : ℕ). Widths x d) (sym e ∙ own.same) w))
    go (inr p) (inr q) = inl (sym p.same ∙ (e ∙ q.same))

pub one_key_widths : OneKeyWidths
unfolding key_text
one_key_widths [] [] v w e = tt
one_key_widths [] (d ∷ ds) v w e = let z : [] ≡ halfwidth_of d ∷ key_text ds = e ∙ kept_first d ds w in let y : ◌≡◌ {A = ℕ} 0 1 = cc in omega arith
one_key_widths (c ∷ cs) [] v w e = let z : halfwidth_of c ∷ key_text cs ≡ [] = sym (kept_first c cs v) ∙ e in let y : ◌≡◌ {A = ℕ} 0 1 = cc in omega arith
one_key_widths (c ∷ cs) (d ∷ ds) v w e =
    let z : halfwidth_of c ∷ key_text cs ≡ halfwidth_of d ∷ key_text ds = sym (kept_first c cs v) ∙ (e ∙ kept_first d ds w) in
    let x : halfwidth_of c ≡ halfwidth_of d = cc in
    let y : key_text cs ≡ key_text ds = cc in
    (same_letter c d x, one_key_widths cs ds v.3 w.3 y)
