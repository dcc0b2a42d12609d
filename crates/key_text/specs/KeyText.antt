-- The key of a text: 01, "Keys", and request 1 of docs/REQUESTS.md.
use Rattle.std.specs.Prelude.{ℕ, ◌≡◌, refl, cond, ◌||◌, List, [], ◌∷◌, eqb}
use Rattle.std.proofs.Math.Option.{Option, none, some}
use Rattle.tables_onebyte.specs.OneByte.{alphanumeric_table, fullwidth_of}

-- "A key is the decoded text without newline, U+0020 and U+3000." "After removal of spaces and newlines, every character that `fullwidth` makes from
-- one of the 94 alphanumerics becomes that alphanumeric"

-- the one of these characters whose full-width form c is, or c
unfoldable pub halfwidth_in : List ℕ → ℕ → ℕ
unfolding fullwidth_of
halfwidth_in [] c = c
halfwidth_in (a ∷ rest) c = cond (eqb (fullwidth_of a) c) a (halfwidth_in rest c)

-- the alphanumeric whose full-width form c is, or c
unfoldable pub halfwidth_of : ℕ → ℕ
unfolding halfwidth_in
halfwidth_of c = halfwidth_in alphanumeric_table c

-- what a key has for a character: nothing, or a character
unfoldable pub key_char : ℕ → Option ℕ
key_char c = cond (eqb c 0x0A || eqb c 0x20 || eqb c 0x3000) none (some (halfwidth_of c))

-- a character, if it is one, before the others
unfoldable pub kept : Option ℕ → List ℕ → List ℕ
kept none k = k
kept (some c) k = c ∷ k

-- the key of a text
unfoldable pub key_text : List ℕ → List ℕ
unfolding key_char kept
key_text [] = []
key_text (c ∷ cs) = kept (key_char c) (key_text cs)

-- Worked: Ａ, ￥ and ～ between the three that go; ＼, since backslash is not among the 94; a.
worked : key_text (0xFF21 ∷ 0x20 ∷ 0xFFE5 ∷ 0x3000 ∷ 0xFF5E ∷ 0x0A ∷ 0xFF3C ∷ 0x61 ∷ []) ≡ 0x41 ∷ 0xA5 ∷ 0x7E ∷ 0xFF3C ∷ 0x61 ∷ []
unfolding key_text halfwidth_of
worked = refl
