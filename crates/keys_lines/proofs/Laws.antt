-- The laws of lines, by name: specs/Laws.antt states them. Assumes nothing.
use Prim.Native.Nat.{ℕ, zero, suc, ◌+◌, ◌-◌, ◌/◌, ◌%◌, ◌≤◌, ◌<◌}
use mathlib.Core.Path.{◌≡◌, refl, sym, ap, ◌∙◌, subst}
use mathlib.Core.Bool.{Bool, true, false, cond, and-eq-true_iff}
use mathlib.Core.List.{List, [], ◌∷◌, ◌++◌, append_assoc}
use mathlib.Core.Option.{none, some}
use native.Mathlib.Omega.{arith}
use lib.Dec.{eqb, ltb, leb}
use lib.ListN.{length, take, drop, get_or, length-drop}
use lib.Seq.{length-take-le}
use Rattle.utf8.specs.Utf8.{utf8, utf8s}
use Rattle.utf8.proofs.Bytes.{Row, in1, in2, in3, in4, row, row1, row2, row3, row4}
use Rattle.questions.specs.Questions.{all}
use Rattle.ascii.specs.Ascii.{digit, decimal_in, decimal, space, refused_word, refusal}
use Rattle.key_text.specs.KeyText.{key_text}
use Rattle.key_text.specs.Laws.{Without}
use Rattle.key_text.proofs.Laws.{key_without}
use Rattle.key.specs.Key.{Lent, reading, key_bytes, outcome}
use Rattle.key.proofs.Calls.{key_bytes_lem}
use Rattle.keys_form.specs.Line.{is_decimal, is_number, is_hex, bytes_of, trimmed, tab_at, is_line, answer_text, line_of}
use Rattle.keys_form.proofs.Reading.{decimal_range, rest_all, Formed, formed}
use Rattle.keys_lines.specs.Line.{call, line_text, printed}
use Rattle.keys_lines.specs.Laws.{Lacks, LongMalformed, Line, OneLine, KeyLacksSpace}
use Rattle.keys_lines.proofs.Writing.{malformed, well_formed}

-- ---- long lines

trimmed_long : (l : List ℕ) → length l ≤ length (trimmed l) + 1
unfolding trimmed
trimmed_long l = go (eqb (get_or l (length l - 1) 0) 0x0D)
  where
    go : (b : Bool) → length l ≤ length (cond b (take (length l - 1) l) l) + 1
    go true = omega (arith, length-take-le (length l - 1) l (omega arith))
    go false = omega arith

formed_long : (l : List ℕ) (tab : ℕ) → Formed l tab → length l ≤ 131081
formed_long l tab f = omega (arith, f.inside, f.short, f.pairs, f.few, ap length (rest_all l (tab + 1)), length-drop (tab + 1) l)

pub long_malformed : LongMalformed
long_malformed cells line h = go (is_line (trimmed line)) refl
  where
    go : (b : Bool) → is_line (trimmed line) ≡ b → printed cells line ≡ none
    go true e = absurd (omega (arith, trimmed_long line, formed_long (trimmed line) (tab_at (trimmed line)) (formed (trimmed line) (tab_at (trimmed line)) refl e)))
    go false e = malformed cells line (trimmed line) refl e

-- ---- bytes that do not stand in what is printed

lacks_append : (x : ℕ) (l m : List ℕ) → Lacks x l → Lacks x m → Lacks x (l ++ m)
lacks_append x [] m a b = b
lacks_append x (y ∷ l) m a b = (a.0, lacks_append x l m a.1 b)

-- a byte below 80 stands in a character's bytes only where it is the character
utf8_lacks : (x c : ℕ) → x < 0x80 → (c ≡ x → ⊥) → Lacks x (utf8 c)
utf8_lacks x c h k = go (row c)
  where
    go : Row c → Lacks x (utf8 c)
    go (in1 a) = rw (row1 c a) (k, tt)
    go (in2 a b) = rw (row2 c a b) ((λ e. omega arith), ((λ e. omega arith), tt))
    go (in3 a b) = rw (row3 c a b) ((λ e. omega arith), ((λ e. omega arith), ((λ e. omega arith), tt)))
    go (in4 a) = rw (row4 c a) ((λ e. omega arith), ((λ e. omega arith), ((λ e. omega arith), ((λ e. omega arith), tt))))

newline_lacks : (cs : List ℕ) → Without cs → Lacks 0x0A (utf8s cs)
unfolding utf8s
newline_lacks [] w = tt
newline_lacks (c ∷ cs) w = lacks_append 0x0A (utf8 c) (utf8s cs) (utf8_lacks 0x0A c (omega arith) w.0) (newline_lacks cs w.3)

space_lacks : (cs : List ℕ) → Without cs → Lacks 0x20 (utf8s cs)
unfolding utf8s
space_lacks [] w = tt
space_lacks (c ∷ cs) w = lacks_append 0x20 (utf8 c) (utf8s cs) (utf8_lacks 0x20 c (omega arith) w.1) (space_lacks cs w.3)

module _ (c : Lent) (e : (outcome c).refused ≡ 0) where
  answer_key : answer_text (outcome c).refused (take (outcome c).len (outcome c).buffer) ≡ key_bytes c
  unfolding answer_text
  answer_key = ap (λ (q : ℕ). answer_text q (take (outcome c).len (outcome c).buffer)) e ∙ key_bytes_lem c e

  key_newline : Lacks 0x0A (answer_text (outcome c).refused (take (outcome c).len (outcome c).buffer))
  unfolding key_bytes
  key_newline = subst (Lacks 0x0A) (sym answer_key) (newline_lacks (key_text (reading c).out.text) (key_without (reading c).out.text))

  key_space : Lacks 0x20 (answer_text (outcome c).refused (take (outcome c).len (outcome c).buffer))
  unfolding key_bytes
  key_space = subst (Lacks 0x20) (sym answer_key) (space_lacks (key_text (reading c).out.text) (key_without (reading c).out.text))

pub key_lacks_space : KeyLacksSpace
key_lacks_space c e = key_space c e

-- ---- one line

digit_lacks : (n : ℕ) → digit n ≡ 0x0A → ⊥
digit_lacks n = go (ltb n 10)
  where
    go : (b : Bool) → cond b (48 + n) (55 + n) ≡ 0x0A → ⊥
    go true e = omega arith
    go false e = omega arith

decimal_in_lacks : (turns n : ℕ) → Lacks 0x0A (decimal_in turns n)
unfolding decimal_in
decimal_in_lacks zero n = tt
decimal_in_lacks (suc turns) n = go (ltb n 10) (decimal_in_lacks turns (n / 10))
  where
    go : (b : Bool) → Lacks 0x0A (decimal_in turns (n / 10)) → Lacks 0x0A (elim b [ true ↦ digit n ∷ [] | false ↦ decimal_in turns (n / 10) ++ (digit (n % 10) ∷ []) ])
    go true w = (digit_lacks n, tt)
    go false w = lacks_append 0x0A (decimal_in turns (n / 10)) (digit (n % 10) ∷ []) w (digit_lacks (n % 10), tt)

decimal_lacks : (n : ℕ) → Lacks 0x0A (decimal n)
unfolding decimal
decimal_lacks n = decimal_in_lacks (suc n) n

word_lacks : Lacks 0x0A refused_word
word_lacks = (
  (λ e. omega arith),
  (
    (λ e. omega arith),
    (
      (λ e. omega arith),
      ((λ e. omega arith), ((λ e. omega arith), ((λ e. omega arith), ((λ e. omega arith), ((λ e. omega arith), tt))))),
    ),
  ),
)

refusal_lacks : (q : ℕ) → Lacks 0x0A (refusal q 0)
unfolding refusal
refusal_lacks q =
    let number = lacks_append 0x0A refused_word (decimal q) word_lacks (decimal_lacks q) in
    lacks_append 0x0A (refused_word ++ decimal q ++ space) (decimal 0) (lacks_append 0x0A (refused_word ++ decimal q) space number ((λ e. omega arith), tt)) (decimal_lacks 0)

answer_lacks : (c : Lent) → Lacks 0x0A (answer_text (outcome c).refused (take (outcome c).len (outcome c).buffer))
unfolding answer_text
answer_lacks c = go (outcome c).refused refl
  where
    go : (q : ℕ) → (outcome c).refused ≡ q → Lacks 0x0A (answer_text (outcome c).refused (take (outcome c).len (outcome c).buffer))
    go zero e = key_newline c e
    go (suc q) e = rw e (refusal_lacks (suc q))

digits_lack : (ds : List ℕ) → all is_decimal ds ≡ true → Lacks 0x0A ds
unfolding all
digits_lack [] e = tt
digits_lack (x ∷ ds) e =
    let b = (and-eq-true_iff (is_decimal x) (all is_decimal ds)).0 e in
    let r = decimal_range x b.0 in
    ((λ z. omega (arith, r.0)), digits_lack ds b.1)

-- NUMBER is of decimal digits
line_digits : (l : List ℕ) → is_line l ≡ true → all is_decimal (take (tab_at l) l) ≡ true
unfolding is_line is_number
line_digits l e =
    let n = ((and-eq-true_iff (is_number (take (tab_at l) l)) (is_hex (drop (tab_at l + 1) l))).0 ((and-eq-true_iff (ltb (tab_at l) (length l)) _).0 e).1).0 in
    let d = ((and-eq-true_iff (leb (length (take (tab_at l) l)) 10) _).0 ((and-eq-true_iff (leb 1 (length (take (tab_at l) l))) _).0 n).1).1 in
    ((and-eq-true_iff (all is_decimal (take (tab_at l) l)) _).0 d).0

line_text_lem : (cells l : List ℕ) → is_line l ≡ true → Line (line_text cells l)
unfolding line_text line_of
line_text_lem cells l e =
    let c = call cells (bytes_of (drop (tab_at l + 1) l)) in
    let answer = answer_text (outcome c).refused (take (outcome c).len (outcome c).buffer) in
    record {
      front = take (tab_at l) l ++ (0x09 ∷ answer);
      ends = sym (append_assoc (take (tab_at l) l) (0x09 ∷ answer) (0x0A ∷ []));
      only = lacks_append 0x0A (take (tab_at l) l) _ (digits_lack (take (tab_at l) l) (line_digits l e)) ((λ z. omega arith), answer_lacks c);
    }

pub one_line : OneLine
one_line cells line text p = go (is_line (trimmed line)) refl
  where
    go : (b : Bool) → is_line (trimmed line) ≡ b → Line text
    go true e =
        let q : some text ≡ some (line_text cells (trimmed line)) = sym p ∙ well_formed cells line (trimmed line) refl e in
        let s : line_text cells (trimmed line) ≡ text = cc in
        subst Line s (line_text_lem cells (trimmed line) e)
    go false e = absurd (let q : none ≡ some text = sym (malformed cells line (trimmed line) refl e) ∙ p in let z : ◌≡◌ {A = ℕ} 0 1 = cc in omega arith)
