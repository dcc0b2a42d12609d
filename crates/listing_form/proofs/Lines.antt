-- The lines of issues, and how long lines are. Assumes nothing.
use Prim.Native.Nat.{ℕ, zero, suc, ◌+◌, ◌-◌, ◌*◌, ◌≤◌, ◌<◌}
use mathlib.Core.Path.{◌≡◌, refl, sym, ap, ap₂, ◌∙◌}
use mathlib.Core.List.{List, [], ◌∷◌, ◌++◌}
use native.Mathlib.Numerals.{add-one}
use native.Mathlib.Omega.{arith}
use lib.ListN.{length, get_or, take, drop, length-append, length-drop, length-take, drop_of_length-le}
use lib.Seq.{drop-cons, drop-drop, length-take-le}
use Rattle.lent.specs.Put.{Put}
use Rattle.lent.proofs.Putting.{put_then, Rest, rest_less, rest_none}
use Rattle.issues.specs.Issue.{numbers}
use Rattle.ascii.specs.Ascii.{decimal, hexadecimal, space, newline}
use Rattle.ascii.proofs.Digits.{decimal_few, hexadecimal_long}
use Rattle.listing_form.specs.Lines.{first_line, others, issue_line, issue_lines}

-- ---- a line

-- the first number, and the others behind it
pub line_as : (ns : List ℕ) → 1 ≤ length ns → issue_line ns ≡ decimal (get_or ns 0 0) ++ others (drop 1 ns)
unfolding issue_line
line_as [] h = absurd (omega arith)
line_as (x ∷ ns) h = refl

others_more : (ns : List ℕ) (i : ℕ) → i < length ns → others (drop i ns) ≡ space ++ decimal (get_or ns i 0) ++ others (drop (i + 1) ns)
unfolding others
others_more ns i h = rw (add-one, drop-cons ns i 0)

-- one number more
pub line_turn : (ns : List ℕ) (i : ℕ) {l₀ xs l l₁ l₂ : List ℕ} {at n m r : ℕ} → Rest l₀ at xs l n (others (drop i ns)) → i < length ns
    → Put l n space l₁ m → Put l₁ m (decimal (get_or ns i 0)) l₂ r → Rest l₀ at xs l₂ r (others (drop (i + 1) ns))
line_turn ns i w h p q = rest_less w (put_then p q) (others_more ns i h)

-- the newline
pub line_end : (ns : List ℕ) (i : ℕ) {l₀ xs l l₁ : List ℕ} {at n r : ℕ} → Rest l₀ at xs l n (others (drop i ns)) → length ns ≤ i → Put l n newline l₁ r
    → Put l₀ at xs l₁ r
unfolding others
line_end ns i w h p = w.leads (rw (drop_of_length-le ns h) p)

-- ---- the lines

-- an issue has its numbers
pub issue_whole : (ns : List ℕ) (i : ℕ) → i + numbers ≤ length ns → length (take (i + numbers - i) (drop i ns)) ≡ numbers
issue_whole ns i h =
    let e : i + numbers - i ≡ numbers = omega arith in
    ap (λ (k : ℕ). length (take k (drop i ns))) e ∙ length-take-le numbers (drop i ns) (omega (arith, length-drop i ns))

-- one line more
pub lines_turn : (ns : List ℕ) (i left : ℕ) {l₀ xs l l₁ : List ℕ} {at n r : ℕ} → Rest l₀ at xs l n (issue_lines left (drop i ns)) → 0 < left
    → Put l n (issue_line (take (i + numbers - i) (drop i ns))) l₁ r → Rest l₀ at xs l₁ r (issue_lines (left - 1) (drop (i + numbers) ns))
unfolding issue_lines
lines_turn ns i zero w h p = absurd (omega arith)
lines_turn ns i (suc left) w h p =
    let e : i + numbers - i ≡ numbers = omega arith in
    let f : left ≡ suc left - 1 = omega arith in
    rest_less w p
    (ap₂ (λ (a : ℕ) (b : List ℕ). issue_line (take a (drop i ns)) ++ issue_lines left b) (sym e) (drop-drop numbers i ns)
    ∙ ap (λ (k : ℕ). issue_line (take (i + numbers - i) (drop i ns)) ++ issue_lines k (drop (i + numbers) ns)) f)

pub lines_end : (ns : List ℕ) (i left : ℕ) {l₀ xs l : List ℕ} {at n : ℕ} → Rest l₀ at xs l n (issue_lines left (drop i ns)) → left ≤ 0 → Put l₀ at xs l n
unfolding issue_lines
lines_end ns i left w h =
    let e : left ≡ 0 = omega arith in
    rest_none w (ap (λ (k : ℕ). issue_lines k (drop i ns)) e)

-- ---- lengths

pub first_few : (n k charged : ℕ) → n ≤ 65536 → k ≤ 256 → charged ≤ 266240 → length (first_line n k charged) ≤ 37
unfolding first_line
first_few n k charged p q r = simp length-append (omega (arith, decimal_few 4 n (omega arith), decimal_few 2 k (omega arith), decimal_few 5 charged (omega arith)))

-- where the first line ends, and the second
pub first_within : (n k charged : ℕ) {l l' : List ℕ} {r : ℕ} → (n ≤ 65536) × (k ≤ 256) × (charged ≤ 266240) → Put l 0 (first_line n k charged) l' r → r ≤ 37
first_within n k charged h p = omega (arith, p.next, first_few n k charged h.0 h.1 h.2)

pub text_within : (text : List ℕ) {l l' : List ℕ} {a r : ℕ} → length text ≤ 65536 → a ≤ 37 → Put l a (hexadecimal text) l' r → r ≤ 37 + 131072
text_within text h g p = omega (arith, p.next, hexadecimal_long text)

-- numbers of 32 bits
abbrev pub Wide : List ℕ → Type 0
Wide ns = (k : ℕ) → get_or ns k 0 < 4294967296

others_few : (ns : List ℕ) → Wide ns → length (others ns) ≤ 11 * length ns + 1
unfolding others
others_few [] w = omega arith
others_few (x ∷ ns) w = omega (arith, length-append (space ++ decimal x) (others ns), length-append space (decimal x), decimal_few 9 x (omega (arith, w 0)), others_few ns (λ k. w (suc k)))

issue_few : (ns : List ℕ) → Wide ns → length ns ≤ numbers → length (issue_line ns) ≤ 11 * numbers
unfolding issue_line
issue_few [] w h = omega arith
issue_few (x ∷ ns) w h = omega (arith, length-append (decimal x) (others ns), decimal_few 9 x (omega (arith, w 0)), others_few ns (λ k. w (suc k)))

take_wide : (n : ℕ) (ns : List ℕ) → Wide ns → Wide (take n ns)
take_wide zero ns w k = omega arith
take_wide (suc n) [] w k = omega arith
take_wide (suc n) (x ∷ ns) w zero = w 0
take_wide (suc n) (x ∷ ns) w (suc k) = take_wide n ns (λ j. w (suc j)) k

drop_wide : (n : ℕ) (ns : List ℕ) → Wide ns → Wide (drop n ns)
drop_wide zero ns w k = w k
drop_wide (suc n) [] w k = omega arith
drop_wide (suc n) (x ∷ ns) w k = drop_wide n ns (λ j. w (suc j)) k

pub lines_few : (k : ℕ) (ns : List ℕ) → Wide ns → length (issue_lines k ns) ≤ k * (11 * numbers)
unfolding issue_lines
lines_few zero ns w = omega arith
lines_few (suc k) ns w =
    omega (
      arith,
      length-append (issue_line (take numbers ns)) (issue_lines k (drop numbers ns)),
      issue_few (take numbers ns) (take_wide numbers ns w)
          (omega (arith, length-take numbers ns)),
      lines_few k (drop numbers ns) (drop_wide numbers ns w),
    )
