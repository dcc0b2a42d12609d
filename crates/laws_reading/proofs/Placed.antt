-- Issues that are reported at the end of the text written by then: one stretch after another, and what follows for positions. Assumes nothing.
use mathlib.Core.Path.{◌≡◌, sym, ap, ◌∙◌, subst}
use mathlib.Core.List.{List, [], ◌∷◌, ◌++◌, append_assoc, append-nil}
use Prim.Native.Nat.{ℕ, ◌≤◌}
use native.Mathlib.Omega.{arith}
use lib.ListN.{length, length-append}
use lib.Seq.{take-append_seam, drop-append_seam}
use Rattle.base.specs.Lists.{All}
use Rattle.base.proofs.Every.{all_map}
use Rattle.utf8.specs.Utf8.{utf8s}
use Rattle.utf8.proofs.Bytes.{utf8s_append}
use Rattle.issues.specs.Issue.{Issue}
use Rattle.laws_reading.specs.Positions.{Placed, NeverFall, CutAt}

-- no issue
pub placed_none : (a : List ℕ) {b : List ℕ} (text : List ℕ) → b ≡ a ++ text → Placed a [] b
placed_none a text e = (text, e)

-- one, where a ends, and nothing is written
pub placed_one : (a : List ℕ) (i : Issue) → i.position ≡ length (utf8s a) → Placed a (i ∷ []) a
placed_one a i e =
    let n : a ++ [] ≡ a = append-nil a in
    ([], e ∙ ap (λ (l : List ℕ). length (utf8s l)) (sym n), ([], sym (append-nil (a ++ []) ∙ n)))

-- what was written before them
placed_later : (a : List ℕ) {b : List ℕ} (is : List Issue) (c text : List ℕ) → b ≡ a ++ text → Placed b is c → Placed a is c
placed_later a [] c text e p = (text ++ p.0, p.1 ∙ ap (λ (l : List ℕ). l ++ p.0) e ∙ append_assoc a text p.0)
placed_later a {b} (i ∷ is) c text e p =
    let f : b ++ p.0 ≡ a ++ (text ++ p.0) = ap (λ (l : List ℕ). l ++ p.0) e ∙ append_assoc a text p.0 in
    (text ++ p.0, p.1 ∙ ap (λ (l : List ℕ). length (utf8s l)) f, subst (λ (l : List ℕ). Placed l is c) f p.2)

-- a stretch and then another
pub placed_then : (a b c : List ℕ) (is js : List Issue) → Placed a is b → Placed b js c → Placed a (is ++ js) c
placed_then a b c [] js p q = placed_later a js c p.0 p.1 q
placed_then a b c (i ∷ is) js p q = (p.0, p.1, placed_then (a ++ p.0) b c is js p.2 q)

-- the text in the end begins with the text at the beginning
pub placed_begins : (a b : List ℕ) (is : List Issue) → Placed a is b → (text : List ℕ) × (b ≡ a ++ text)
placed_begins a b [] p = p
placed_begins a b (i ∷ is) p =
    let q = placed_begins (a ++ p.0) b is p.2 in
    (p.0 ++ q.0, q.1 ∙ append_assoc a p.0 q.0)

-- where a text ends, what goes on from it can be cut
pub cut_at : (a text : List ℕ) {b : List ℕ} {n : ℕ} → b ≡ a ++ text → n ≡ length (utf8s a) → CutAt b n
cut_at a text e k =
    let f = ap utf8s e ∙ utf8s_append a text in
    record {
      before = a;
      after = text;
      whole = e;
      first = rw (k, f) (take-append_seam (utf8s a) (utf8s text));
      second = rw (k, f) (drop-append_seam (utf8s a) (utf8s text));
    }

pub placed_cut : (a b : List ℕ) (is : List Issue) → Placed a is b → All (λ i. CutAt b i.position) is
placed_cut a b [] p = tt
placed_cut a b (i ∷ is) p =
    let q = placed_begins (a ++ p.0) b is p.2 in
    (cut_at (a ++ p.0) q.0 q.1 p.1, placed_cut (a ++ p.0) b is p.2)

-- the bytes of a text are at least those of its beginning
longer : (a text : List ℕ) → length (utf8s a) ≤ length (utf8s (a ++ text))
longer a text = omega (arith, ap length (utf8s_append a text), length-append (utf8s a) (utf8s text))

pub placed_inside : (a b : List ℕ) (is : List Issue) → Placed a is b → All (λ i. i.position ≤ length (utf8s b)) is
placed_inside a b [] p = tt
placed_inside a b (i ∷ is) p =
    let q = placed_begins (a ++ p.0) b is p.2 in
    (omega (arith, p.1, longer (a ++ p.0) q.0, ap (λ (l : List ℕ). length (utf8s l)) q.1), placed_inside (a ++ p.0) b is p.2)

placed_behind : (a b : List ℕ) (is : List Issue) → Placed a is b → All (λ i. length (utf8s a) ≤ i.position) is
placed_behind a b [] p = tt
placed_behind a b (i ∷ is) p =
    let c = a ++ p.0 in
    let m = longer a p.0 in
    (omega (arith, p.1, m), all_map (λ j. length (utf8s c) ≤ j.position) (λ j. length (utf8s a) ≤ j.position) is (λ j h. omega (arith, m, h)) (placed_behind c b is p.2))

pub placed_falls : (a b : List ℕ) (is : List Issue) → Placed a is b → NeverFall is
placed_falls a b [] p = tt
placed_falls a b (i ∷ is) p =
    let c = a ++ p.0 in
    (all_map (λ j. length (utf8s c) ≤ j.position) (λ j. i.position ≤ j.position) is (λ j h. omega (arith, p.1, h)) (placed_behind c b is p.2), placed_falls c b is p.2)
