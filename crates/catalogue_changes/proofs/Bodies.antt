-- The places of a catalogue with one entry more or less. Assumes nothing.
use Prim.Native.Nat.{ℕ, ◌+◌, ◌-◌, ◌*◌, ◌≤◌, ◌<◌}
use mathlib.Core.Path.{◌≡◌, sym, ap, ap₂, ◌∙◌}
use mathlib.Core.List.{List, ◌∷◌, ◌++◌, append_assoc}
use native.Mathlib.Omega.{arith}
use lib.ListN.{length, take, drop, replicate, take-append-drop, length-append, length-drop, replicate-append-replicate}
use lib.Seq.{length-take-le, take_at, drop_at, drop-drop}
use Rattle.questions.specs.Buffer.{padded}
use Rattle.catalogue_form.specs.Form.{Entry, place, places}
use Rattle.catalogue_form.proofs.Zeros.{padded_zeros, drop_zeros}
use Rattle.catalogue_form.proofs.Places.{length_place, length_places, places_append}
use Rattle.catalogue_places.specs.Promises.{opened, closed}
use Rattle.catalogue_changes.specs.Promises.{put_at, taken_at}

abbrev body : List Entry → List ℕ
body es = padded 266240 (places es)

module _ (es : List Entry) (few : length es ≤ 1024) where
  abbrev zeros : List ℕ
  zeros = replicate (266240 - length es * 260) 0

  module _ (at : ℕ) (h : at ≤ length es) where
    split : places es ≡ places (take at es) ++ places (drop at es)
    split = ap places (sym (take-append-drop at es)) ∙ places_append (take at es) (drop at es)

    front_long : length (places (take at es)) ≡ at * 260
    front_long = length_places (take at es) ∙ ap (λ (n : ℕ). n * 260) (length-take-le at es h)

    rest_long : length (places (drop at es)) ≡ (length es - at) * 260
    rest_long = length_places (drop at es) ∙ ap (λ (n : ℕ). n * 260) (length-drop at es)

    -- the places up to one, those from it on, and zeros
    cut : body es ≡ places (take at es) ++ (places (drop at es) ++ zeros)
    cut =
        padded_zeros 266240 (places es) (omega (arith, length_places es))
        ∙ (ap₂ (λ (l : List ℕ) (n : ℕ). l ++ replicate (266240 - n) 0) split (length_places es) ∙ append_assoc (places (take at es)) (places (drop at es)) zeros)

    pub front : take (at * 260) (body es) ≡ places (take at es)
    front = ap (take (at * 260)) cut ∙ take_at (places (take at es)) _ (at * 260) front_long

    pub behind : drop (at * 260) (body es) ≡ places (drop at es) ++ zeros
    behind = ap (drop (at * 260)) cut ∙ drop_at (places (take at es)) _ (at * 260) front_long

  pub all_behind : drop (length es * 260) (body es) ≡ zeros
  all_behind =
      ap (drop (length es * 260)) (padded_zeros 266240 (places es) (omega (arith, length_places es)))
      ∙ (drop_at (places es) _ (length es * 260) (length_places es) ∙ ap (λ (n : ℕ). replicate (266240 - n) 0) (length_places es))

-- an entry more
pub opened_body : (es : List Entry) (at : ℕ) (e : Entry) → length es < 1024 → at ≤ length es
    → opened (body es) (at * 260) (length es - at + 1) (place e) ≡ body (put_at at e es)
opened_body es at e few h =
    ap₂ (λ (x y : List ℕ). x ++ y ++ drop (at * 260 + (n - at + 1) * 260) (body es)) (front es (omega arith) at h)
    (ap (λ (r : List ℕ). take ((n - at + 1) * 260) (place e ++ r)) (behind es (omega arith) at h) ∙ written)
    ∙ (ap (λ (r : List ℕ). places (take at es) ++ (place e ++ rest) ++ r) last ∙ sym all)
  where
    n : ℕ
    n = length es

    rest : List ℕ
    rest = places (drop at es)

    left : ℕ
    left = 266240 - n * 260

    written : take ((n - at + 1) * 260) (place e ++ (rest ++ replicate left 0)) ≡ place e ++ rest
    written =
        ap (take ((n - at + 1) * 260)) (sym (append_assoc (place e) rest (replicate left 0)))
        ∙ take_at (place e ++ rest) (replicate left 0) ((n - at + 1) * 260) (omega (arith, length-append (place e) rest, length_place e, rest_long es (omega arith) at h))

    last : drop (at * 260 + (n - at + 1) * 260) (body es) ≡ replicate (left - 260) 0
    last =
        let s : at * 260 + (n - at + 1) * 260 ≡ n * 260 + 260 = omega arith in
        ap (λ (k : ℕ). drop k (body es)) s ∙ (sym (drop-drop 260 (n * 260) (body es)) ∙ (ap (drop 260) (all_behind es (omega arith)) ∙ drop_zeros 260 left))

    spelt : places (put_at at e es) ≡ places (take at es) ++ (place e ++ rest)
    spelt = places_append (take at es) (e ∷ drop at es)

    size : length (places (put_at at e es)) ≡ (n + 1) * 260
    size = omega (
      arith,
      ap length spelt,
      length-append (places (take at es)) (place e ++ rest),
      length-append (place e) rest,
      length_place e,
      front_long es
          (omega arith) at h,
      rest_long es (omega arith) at h,
    )

    all : body (put_at at e es) ≡ places (take at es) ++ (place e ++ rest) ++ replicate (left - 260) 0
    all =
        let s : 266240 - (n + 1) * 260 ≡ left - 260 = omega arith in
        padded_zeros 266240 (places (put_at at e es)) (omega (arith, size))
        ∙ (ap₂ (λ (l : List ℕ) (k : ℕ). l ++ replicate (266240 - k) 0) spelt size ∙ ap (λ (k : ℕ). places (take at es) ++ (place e ++ rest) ++ replicate k 0) s)

-- an entry less
pub closed_body : (es : List Entry) (at : ℕ) → length es ≤ 1024 → at < length es → closed (body es) (length es) at ≡ body (taken_at at es)
closed_body es at few h =
    ap₂ (λ (x y : List ℕ). x ++ y) (front es few at (omega arith))
    (ap₂ (λ (x y : List ℕ). x ++ y) (ap (take ((n - 1 - at) * 260)) (behind es few (at + 1) (omega arith)) ∙ kept)
    (ap (λ (r : List ℕ). replicate 260 0 ++ r) (all_behind es few) ∙ replicate-append-replicate 260 left 0))
    ∙ sym all
  where
    n : ℕ
    n = length es

    back : List ℕ
    back = places (drop (at + 1) es)

    left : ℕ
    left = 266240 - n * 260

    kept : take ((n - 1 - at) * 260) (back ++ replicate left 0) ≡ back
    kept = take_at back (replicate left 0) ((n - 1 - at) * 260) (omega (arith, rest_long es few (at + 1) (omega arith)))

    spelt : places (taken_at at es) ≡ places (take at es) ++ back
    spelt = places_append (take at es) (drop (at + 1) es)

    size : length (places (taken_at at es)) ≡ (n - 1) * 260
    size = omega (arith, ap length spelt, length-append (places (take at es)) back, front_long es few at (omega arith), rest_long es few (at + 1) (omega arith))

    all : body (taken_at at es) ≡ places (take at es) ++ (back ++ replicate (260 + left) 0)
    all =
        let s : 266240 - (n - 1) * 260 ≡ 260 + left = omega arith in
        padded_zeros 266240 (places (taken_at at es)) (omega (arith, size))
        ∙ (ap₂ (λ (l : List ℕ) (k : ℕ). l ++ replicate (266240 - k) 0) spelt size
        ∙ (ap (λ (k : ℕ). places (take at es) ++ back ++ replicate k 0) s ∙ append_assoc (places (take at es)) back (replicate (260 + left) 0)))
