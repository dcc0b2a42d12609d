-- What a key has for a character, and for a text, character by character. Assumes nothing.
use mathlib.Core.Path.{◌≡◌, refl, sym, ap}
use mathlib.Core.Logic.{◌⊎◌, inl, inr}
use mathlib.Core.Bool.{Bool, true, false, cond, ◌||◌}
use mathlib.Core.List.{List, [], ◌∷◌, ◌++◌, append-nil}
use mathlib.Core.Option.{Option, none, some}
use Prim.Native.Nat.{ℕ, ◌+◌, ◌≤◌}
use native.Mathlib.Omega.{arith}
use borrow.Author.Tests.{ne_eqb}
use lib.Dec.{eqb}
use lib.ListN.{length}
use Rattle.lent.specs.Put.{Put}
use Rattle.utf8.specs.Utf8.{utf8, utf8s, PutScalar}
use Rattle.key_text.specs.KeyText.{halfwidth_of, key_char, kept, key_text}
use Rattle.key_text.specs.Laws.{Widths}
use Rattle.key_text.proofs.Widths.{Own, halved, no_more}

-- the three that a key leaves out, and any other
pub left_out : (c : ℕ) → (c ≡ 0x0A) ⊎ ((c ≡ 0x20) ⊎ (c ≡ 0x3000)) → key_char c ≡ none
unfolding key_char
left_out c (inl e) = rw e
left_out c (inr (inl e)) = rw e
left_out c (inr (inr e)) = rw e

pub stays : (c : ℕ) → (c ≡ 0x0A → ⊥) → (c ≡ 0x20 → ⊥) → (c ≡ 0x3000 → ⊥) → key_char c ≡ some (halfwidth_of c)
unfolding key_char
stays c p q r = rw (ne_eqb c 0x0A p, ne_eqb c 0x20 q, ne_eqb c 0x3000 r)

-- the character that is kept takes no more bytes than the one it stands for
pub no_longer : (c : ℕ) → length (utf8s (kept (key_char c) [])) ≤ length (utf8 c)
unfolding key_char kept utf8s
no_longer c = go (eqb c 0x0A || eqb c 0x20 || eqb c 0x3000)
  where
    half : Widths (halfwidth_of c) c ⊎ Own c → length (utf8 (halfwidth_of c)) ≤ length (utf8 c)
    half (inl w) = no_more (halfwidth_of c) c w
    half (inr own) = rw own.same (omega arith)

    go : (b : Bool) → length (utf8s (kept (cond b none (some (halfwidth_of c))) [])) ≤ length (utf8 c)
    go true = omega arith
    go false = rw append-nil (half (halved c))

-- the bytes of a key, by the first character
pub first_bytes : (c : ℕ) (cs : List ℕ) → utf8s (key_text (c ∷ cs)) ≡ utf8s (kept (key_char c) []) ++ utf8s (key_text cs)
unfolding key_text kept utf8s
first_bytes c cs = go (key_char c)
  where
    go : (o : Option ℕ) → utf8s (kept o (key_text cs)) ≡ utf8s (kept o []) ++ utf8s (key_text cs)
    go none = refl
    go (some x) = ap (λ (l : List ℕ). l ++ utf8s (key_text cs)) (sym (append-nil (utf8 x)))

-- what is to be put for a character
module _ (before : List ℕ) (at c : ℕ) where
  pub put_char : (x n : ℕ) (after : List ℕ) → key_char c ≡ some x → PutScalar before at x after n → Put before at (utf8s (kept (key_char c) [])) after (at + n)
  unfolding kept utf8s
  put_char x n after e p = record { written = rw (e, append-nil) p.bytes; next = rw (e, append-nil) (ap (λ (k : ℕ). at + k) p.count) }

  pub put_nothing : key_char c ≡ none → Put before at (utf8s (kept (key_char c) [])) before at
  unfolding kept utf8s
  put_nothing e = record { written = rw e; next = rw e (omega arith) }
