-- The bytes of a scalar and of a text: the rows of Table 3-6, the lengths, each byte below 256, and texts one after another.
-- Assumes nothing.
use mathlib.Core.Path.{◌≡◌, refl, sym, ap, ◌∙◌, subst}
use mathlib.Core.List.{List, [], ◌∷◌, ◌++◌, append_assoc, append-nil}
use Prim.Native.Nat.{ℕ, zero, suc, ◌+◌, ◌-◌, ◌*◌, ◌/◌, ◌%◌, ◌≤◌, ◌<◌}
use native.Mathlib.Omega.{arith}
use native.Mathlib.Decide.{dec_lt}
use borrow.Author.Tests.{lt-ltb, le-ltb}
use lib.ListN.{length, get_or, length-append, get_or-append}
use lib.Seq.{get_or-append-add}
use Rattle.utf8.specs.Utf8.{utf8, utf8s, trailing}

-- ---- the rows of Table 3-6

pub row1 : (c : ℕ) → c < 0x80 → utf8 c ≡ c ∷ []
unfolding utf8
row1 c h = rw (lt-ltb c 0x80 h)

pub row2 : (c : ℕ) → 0x80 ≤ c → c < 0x800 → utf8 c ≡ (0xC0 + c / 64) ∷ trailing c ∷ []
unfolding utf8
row2 c g h = rw (le-ltb c 0x80 g, lt-ltb c 0x800 h)

pub row3 : (c : ℕ) → 0x800 ≤ c → c < 0x10000 → utf8 c ≡ (0xE0 + c / 4096) ∷ trailing (c / 64) ∷ trailing c ∷ []
unfolding utf8
row3 c g h =
    let e : 0x80 ≤ c = omega arith in
    rw (le-ltb c 0x80 e, le-ltb c 0x800 g, lt-ltb c 0x10000 h)

pub row4 : (c : ℕ) → 0x10000 ≤ c → utf8 c ≡ (0xF0 + c / 262144 % 8) ∷ trailing (c / 4096) ∷ trailing (c / 64) ∷ trailing c ∷ []
unfolding utf8
row4 c g =
    let e : 0x80 ≤ c = omega arith in
    let f : 0x800 ≤ c = omega arith in
    rw (le-ltb c 0x80 e, le-ltb c 0x800 f, le-ltb c 0x10000 g)

-- the row that a number stands in
pub data Row (c : ℕ) : Type 0 where
  in1 : c < 0x80 → Row c
  in2 : 0x80 ≤ c → c < 0x800 → Row c
  in3 : 0x800 ≤ c → c < 0x10000 → Row c
  in4 : 0x10000 ≤ c → Row c

pub row : (c : ℕ) → Row c
row c = go (dec_lt c 0x80) (dec_lt c 0x800) (dec_lt c 0x10000)
  where
    go : Dec (c < 0x80) → Dec (c < 0x800) → Dec (c < 0x10000) → Row c
    go (yes h) q r = in1 h
    go (no g) (yes h) r = in2 (omega (arith, g)) h
    go (no f) (no g) (yes h) = in3 (omega (arith, g)) h
    go (no f) (no g) (no h) = in4 (omega (arith, h))

-- ---- lengths

pub record OneToFour (n : ℕ) : Type 0 where
  pub least : 1 ≤ n
  pub most : n ≤ 4

pub length_utf8 : (c : ℕ) → OneToFour (length (utf8 c))
length_utf8 c = go (row c)
  where
    go : Row c → OneToFour (length (utf8 c))
    go (in1 h) = rw (row1 c h) (omega arith)
    go (in2 g h) = rw (row2 c g h) (omega arith)
    go (in3 g h) = rw (row3 c g h) (omega arith)
    go (in4 g) = rw (row4 c g) (omega arith)

-- a text has one to four bytes a character
pub utf8s_least : (cs : List ℕ) → length cs ≤ length (utf8s cs)
unfolding utf8s
utf8s_least [] = omega arith
utf8s_least (c ∷ cs) = omega (arith, length-append (utf8 c) (utf8s cs), (length_utf8 c).least, utf8s_least cs)

pub utf8s_most : (cs : List ℕ) → length (utf8s cs) ≤ 4 * length cs
unfolding utf8s
utf8s_most [] = omega arith
utf8s_most (c ∷ cs) = omega (arith, length-append (utf8 c) (utf8s cs), (length_utf8 c).most, utf8s_most cs)

pub utf8s_append : (cs ds : List ℕ) → utf8s (cs ++ ds) ≡ utf8s cs ++ utf8s ds
unfolding utf8s
utf8s_append [] ds = refl
utf8s_append (c ∷ cs) ds = ap (λ (r : List ℕ). utf8 c ++ r) (utf8s_append cs ds) ∙ sym (append_assoc (utf8 c) (utf8s cs) (utf8s ds))

-- one scalar more
pub utf8s_snoc : (cs : List ℕ) (c : ℕ) → utf8s (cs ++ (c ∷ [])) ≡ utf8s cs ++ utf8 c
unfolding utf8s
utf8s_snoc cs c = utf8s_append cs (c ∷ []) ∙ ap (λ (r : List ℕ). utf8s cs ++ r) (append-nil (utf8 c))

-- ---- each byte is below 256

pub utf8_byte : (c k : ℕ) → get_or (utf8 c) k 0 < 256
utf8_byte c k = go (row c) k
  where
    nil : (j : ℕ) → get_or {A = ℕ} [] j 0 < 256
    nil zero = omega arith
    nil (suc j) = omega arith

    then : (a : ℕ) (l : List ℕ) → a < 256 → ((j : ℕ) → get_or l j 0 < 256) → (j : ℕ) → get_or (a ∷ l) j 0 < 256
    then a l h r zero = h
    then a l h r (suc j) = r j

    last : (x : ℕ) (j : ℕ) → get_or (trailing x ∷ []) j 0 < 256
    last x = then (trailing x) [] (omega arith) nil

    pair : (x y : ℕ) (j : ℕ) → get_or (trailing x ∷ trailing y ∷ []) j 0 < 256
    pair x y = then (trailing x) (trailing y ∷ []) (omega arith) (last y)

    go : Row c → (j : ℕ) → get_or (utf8 c) j 0 < 256
    go (in1 h) = rw (row1 c h) (then c [] (omega arith) nil)
    go (in2 g h) = rw (row2 c g h) (then (0xC0 + c / 64) (trailing c ∷ []) (omega arith) (last c))
    go (in3 g h) = rw (row3 c g h) (then (0xE0 + c / 4096) (trailing (c / 64) ∷ trailing c ∷ []) (omega arith) (pair (c / 64) c))
    go (in4 g) =
        rw (row4 c g)
        (then (0xF0 + c / 262144 % 8) (trailing (c / 4096) ∷ trailing (c / 64) ∷ trailing c ∷ []) (omega arith)
        (then (trailing (c / 4096)) (trailing (c / 64) ∷ trailing c ∷ []) (omega arith) (pair (c / 64) c)))

pub utf8s_byte : (cs : List ℕ) (k : ℕ) → get_or (utf8s cs) k 0 < 256
unfolding utf8s
utf8s_byte [] zero = omega arith
utf8s_byte [] (suc k) = omega arith
utf8s_byte (c ∷ cs) k = go (dec_lt k (length (utf8 c))) (utf8s_byte cs (k - length (utf8 c)))
  where
    go : Dec (k < length (utf8 c)) → get_or (utf8s cs) (k - length (utf8 c)) 0 < 256 → get_or (utf8 c ++ utf8s cs) k 0 < 256
    go (yes h) ih = rw (get_or-append (utf8 c) (utf8s cs) 0 k h) (utf8_byte c k)
    go (no h) ih =
        let e : length (utf8 c) + (k - length (utf8 c)) ≡ k = omega (arith, h) in
        subst (λ (j : ℕ). get_or (utf8 c ++ utf8s cs) j 0 < 256) e (rw get_or-append-add ih)
