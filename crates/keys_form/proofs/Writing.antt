-- The line that is printed, put together. Assumes nothing.
use Prim.Native.Nat.{ℕ, zero, suc, ◌+◌, ◌-◌, ◌≤◌, ◌<◌}
use mathlib.Core.Path.{◌≡◌, refl, sym, ap, ap₂, ◌∙◌}
use mathlib.Core.List.{List, [], ◌∷◌, ◌++◌, append_assoc}
use native.Mathlib.Numerals.{add-one}
use native.Mathlib.Omega.{arith}
use lib.ListN.{length, take, drop, set, length-append}
use lib.Seq.{sets, length-take-le, take-suc-set, take-append-add, take-append-le, take_at}
use Rattle.lent.specs.Put.{Put}
use Rattle.lent.proofs.Stores.{take_sets}
use Rattle.lent.proofs.Putting.{put_long}
use Rattle.ascii.specs.Ascii.{newline, refusal, refused_line}
use Rattle.keys_form.specs.Line.{bytes_of, tab_at, number_of, tab, answer_text, line_of}
use Rattle.keys_form.specs.Promises.{Titled, ending_at, ending}
use Rattle.keys_form.proofs.Reading.{rest_all}

-- ---- the title

-- the bytes that were put at the front of a buffer
module _ (l : List ℕ) (at n : ℕ) (e : at ≡ tab_at l) (bytes title : List ℕ) (h : length bytes ≡ n) where
  pub titled : n ≤ 65535 → bytes ≡ bytes_of (take (length l - (at + 1)) (drop (at + 1) l)) → Titled l title (bytes ++ drop n title) n
  titled k b = record {
    few = k;
    inside = omega (arith, length-append bytes (drop n title));
    bytes = take_at bytes (drop n title) n h ∙ (b ∙ (ap bytes_of (rest_all l (at + 1)) ∙ ap (λ (m : ℕ). bytes_of (drop (m + 1) l)) e));
  }

-- ---- NUMBER

-- NUMBER and TAB, by the place of the TAB
pub number_as : (l : List ℕ) (at : ℕ) → at ≡ tab_at l → number_of l ++ tab ≡ take at l ++ tab
number_as l at e = ap (λ (n : ℕ). take n l ++ tab) (sym e)

-- they take one byte more than NUMBER
pub number_behind : (l : List ℕ) (at : ℕ) {out out₁ : List ℕ} {r : ℕ} → at ≤ length l → Put out 0 (take at l ++ tab) out₁ r → r ≡ at + 1
number_behind l at h p = p.next ∙ omega (arith, length-append (take at l) tab, length-take-le at l h)

-- ---- the answer

-- what ends a line, by the question's number
pub refused_put : (at q len : ℕ) {l l' : List ℕ} {r : ℕ} → 0 < q → Put l at (refused_line q 0) l' r × (r ≤ at + 50) → Put l (ending_at at q len) (ending q) l' r × (r ≤ ending_at at q len + 50)
refused_put at zero len h p = absurd (omega arith)
refused_put at (suc q) len h p = p

pub newline_put : (at q len : ℕ) {l l' : List ℕ} {r : ℕ} → q ≤ 0 → Put l (at + len) newline l' r → Put l (ending_at at q len) (ending q) l' r × (r ≤ ending_at at q len + 50)
newline_put at zero len h p = (p, omega (arith, p.next))
newline_put at (suc q) len h p = absurd (omega arith)

-- a refusal and a newline
refused_as : (q : ℕ) → refused_line q 0 ≡ refusal q 0 ++ newline
unfolding refused_line
refused_as q = refl

module _ (xs part rest : List ℕ) (at : ℕ) (e : length xs ≡ at) where
  -- a byte behind a part of what stands there
  take_key : (len x : ℕ) → len ≤ length part → at + len < length (xs ++ (part ++ rest)) → take (at + len + 1) (set (xs ++ (part ++ rest)) (at + len) x) ≡ xs ++ (take len part ++ (x ∷ []))
  take_key len x h k =
      ap (λ (n : ℕ). take n (set (xs ++ (part ++ rest)) (at + len) x)) (add-one (at + len))
      ∙ (take-suc-set (xs ++ (part ++ rest)) (at + len) x k
      ∙ (ap (λ (l : List ℕ). l ++ (x ∷ [])) (ap (λ (n : ℕ). take (n + len) (xs ++ (part ++ rest))) (sym e) ∙
      (take-append-add xs (part ++ rest) len ∙ ap (λ (l : List ℕ). xs ++ l) (take-append-le len part rest h)))
      ∙ append_assoc xs (take len part) (x ∷ [])))

  -- a run in the place of what stands there
  take_run : (vs : List ℕ) → at + length vs ≤ length (xs ++ (part ++ rest)) → take (at + length vs) (sets (xs ++ (part ++ rest)) at vs) ≡ xs ++ vs
  take_run vs h = take_sets vs (xs ++ (part ++ rest)) at h ∙ ap (λ (l : List ℕ). l ++ vs) (take_at xs (part ++ rest) at e)

  -- what is put behind it ends the line
  pub ended : (q len : ℕ) {out : List ℕ} {m : ℕ} → len ≤ length part → at + len < length (xs ++ (part ++ rest)) → at + 50 ≤ length (xs ++ (part ++ rest))
      → Put (xs ++ (part ++ rest)) (ending_at at q len) (ending q) out m → m ≤ ending_at at q len + 50 → (m ≤ length out) × (take m out ≡ xs ++ (answer_text q (take len part) ++ newline))
  unfolding answer_text
  ended zero len h k g p s = (omega (arith, p.next, put_long p), ap₂ take p.next p.written ∙ take_key len 0x0A h k)
  ended (suc q) len h k g p s =
      let f : at + length (refused_line (suc q) 0) ≤ length (xs ++ (part ++ rest)) = omega (arith, p.next) in
      (omega (arith, put_long p), ap₂ take p.next p.written ∙ (take_run (refused_line (suc q) 0) f ∙ ap (λ (l : List ℕ). xs ++ l) (refused_as (suc q))))

-- ---- the line

-- NUMBER and TAB stand at the front, and what ends the line is put behind them
pub line_printed : (number : List ℕ) (at q len : ℕ) (part rest : List ℕ) {out out₁ out₃ : List ℕ} {m : ℕ} → Put out 0 (number ++ tab) out₁ at →
    length (number ++ tab) ≤ length out → len ≤ length part
    → at + len < length (take at out₁ ++ (part ++ rest)) → at + 50 ≤ length (take at out₁ ++ (part ++ rest))
    → Put (take at out₁ ++ (part ++ rest)) (ending_at at q len) (ending q) out₃ m → m ≤ ending_at at q len + 50 → (m ≤ length out₃) × (take m out₃ ≡ line_of number q (take len part))
unfolding line_of
line_printed number at q len part rest {out} {out₁} p f h k g w s =
    let front : take at out₁ ≡ number ++ tab = ap₂ take p.next p.written ∙ take_sets (number ++ tab) out 0 (omega (arith, f)) in
    let long : length (take at out₁) ≡ at = ap length front ∙ sym (p.next ∙ omega arith) in
    let d = ended (take at out₁) part rest at long q len h k g w s in
    (d.0, d.1 ∙ (ap (λ (x : List ℕ). x ++ (answer_text q (take len part) ++ newline)) front ∙ append_assoc number tab (answer_text q (take len part) ++ newline)))
