-- A text that moves up in its own buffer, a character at a time. Assumes nothing.
use mathlib.Core.Path.{◌≡◌, refl, sym, ap, ap₂, ◌∙◌}
use mathlib.Core.List.{List, [], ◌∷◌, ◌++◌, append-nil, append_assoc}
use Prim.Native.Nat.{ℕ, zero, suc, ◌+◌, ◌≤◌}
use native.Mathlib.Omega.{arith}
use lib.ListN.{length, take, drop, length-drop}
use lib.Seq.{sets, length-sets, length-take-le, drop-drop}
use Rattle.lent.specs.Put.{Put}
use Rattle.lent.proofs.Stores.{take_sets, drop_sets}
use Rattle.utf8.specs.declared.Sequence.TheVariants.{Scalar}
use Rattle.utf8.specs.Utf8.{utf8s, sequence, scalars}
use Rattle.utf8.proofs.Reading.{sequence_begins}
use Rattle.utf8.proofs.Texts.{sequence_least, sequence_within, scalars_next}
use Rattle.questions.specs.Buffer.{padded, cleared_to, cleared}
use Rattle.key_text.specs.KeyText.{key_char, kept, key_text}
use Rattle.key_text.specs.Promises.{Removed}
use Rattle.key_text.proofs.Characters.{no_longer, first_bytes}

-- of the text t₀ `at` bytes were read, and their key stands in the first `to` bytes of t
pub record Moved (t₀ t : List ℕ) (at to : ℕ) : Type 0 where
  pub long : length t ≡ length t₀
  pub order : to ≤ at
  pub within : at ≤ length t₀
  pub rest : drop at t ≡ drop at t₀
  pub same : take to t ++ utf8s (key_text (scalars (drop at t₀))) ≡ utf8s (key_text (scalars t₀))

pub moved_none : (t₀ : List ℕ) → Moved t₀ t₀ 0 0
moved_none t₀ = record { long = refl; order = omega arith; within = omega arith; rest = refl; same = refl }

-- ---- a turn

-- what a key has for the character
abbrev pub bytes_of : ℕ → List ℕ
bytes_of c = utf8s (kept (key_char c) [])

pub record Turn (t₀ t : List ℕ) (at to n : ℕ) (t' : List ℕ) (to' : ℕ) : Type 0 where
  pub least : 1 ≤ n
  pub within : at + n ≤ length t₀
  pub moved : Moved t₀ t' (at + n) to'

turn : (t₀ t : List ℕ) (at to c n : ℕ) → Moved t₀ t at to → sequence (drop at t) ≡ Scalar c n → Turn t₀ t at to n (sets t to (bytes_of c)) (to + length (bytes_of c))
turn t₀ t at to c n m e =
    let e₀ : sequence (drop at t₀) ≡ Scalar c n = ap sequence (sym m.rest) ∙ e in
    let least : 1 ≤ n = sequence_least (drop at t₀) c n e₀ in
    let w : at + n ≤ length t₀ = omega (arith, sequence_within (drop at t₀) c n e₀, length-drop at t₀, m.within) in
    let short : length (bytes_of c) ≤ n = omega (arith, no_longer c, (sequence_begins (drop at t₀) c n e₀).count) in
    let order : to + length (bytes_of c) ≤ at + n = omega (arith, m.order) in
    let fits : to + length (bytes_of c) ≤ length t = omega (arith, m.long) in
    record {
      least = least;
      within = w;
      moved =
          record {
            long = length-sets t to (bytes_of c) ∙ m.long;
            order = order;
            within = w;
            rest = drop_sets (bytes_of c) t to (at + n) order ∙ (sym (drop-drop n at t) ∙ (ap (drop n) m.rest ∙ drop-drop n at t₀));
            same =
                ap (λ (l : List ℕ). l ++ utf8s (key_text (scalars (drop (at + n) t₀)))) (take_sets (bytes_of c) t to fits)
                ∙ (append_assoc (take to t) (bytes_of c) (utf8s (key_text (scalars (drop (at + n) t₀))))
                ∙ (ap (λ (l : List ℕ). take to t ++ l) (rest_bytes e₀) ∙ m.same));
          };
    }
  where
    rest_bytes : sequence (drop at t₀) ≡ Scalar c n → bytes_of c ++ utf8s (key_text (scalars (drop (at + n) t₀))) ≡ utf8s (key_text (scalars (drop at t₀)))
    rest_bytes e₀ =
        ap (λ (l : List ℕ). bytes_of c ++ utf8s (key_text (scalars l))) (sym (drop-drop n at t₀))
        ∙ (sym (first_bytes c (scalars (drop n (drop at t₀)))) ∙ ap (λ (l : List ℕ). utf8s (key_text l)) (sym (scalars_next (drop at t₀) c n e₀)))

-- the same of what the code put
pub turned : (t₀ t : List ℕ) (at to c n : ℕ) {t' : List ℕ} {to' : ℕ} → Moved t₀ t at to → sequence (drop at t) ≡ Scalar c n → Put t to (bytes_of c) t' to' → Turn t₀ t at to n t' to'
turned t₀ t at to c n m e p = rw (p.written, p.next) (turn t₀ t at to c n m e)

-- ---- the end

cleared_take : (l : List ℕ) (j : ℕ) → cleared l j ≡ padded (length l) (take j l)
unfolding cleared_to padded
cleared_take [] j = refl
cleared_take (x ∷ l) zero = ap (λ (r : List ℕ). 0 ∷ r) (cleared_take l zero)
cleared_take (x ∷ l) (suc j) = ap (λ (r : List ℕ). x ∷ r) (cleared_take l j)

pub moved_all : (t₀ t : List ℕ) (at to : ℕ) → Moved t₀ t at to → scalars (drop at t) ≡ [] → Removed t₀ to (cleared t to)
unfolding key_text utf8s
moved_all t₀ t at to m e =
    let z : scalars (drop at t₀) ≡ [] = ap scalars (sym m.rest) ∙ e in
    let q : take to t ≡ utf8s (key_text (scalars t₀)) = sym (append-nil (take to t)) ∙ (ap (λ (l : List ℕ). take to t ++ utf8s (key_text l)) (sym z) ∙ m.same) in
    record {
      len = sym (length-take-le to t (omega (arith, m.order, m.within, m.long))) ∙ ap length q;
      bytes = cleared_take t to ∙ ap₂ padded m.long q;
    }
