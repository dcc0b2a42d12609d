-- `run_body`, `run_macro`, `char1` and `graphic` of the definition, by case.
use Prim.Native.Nat.{ℕ, suc, ◌+◌, ◌-◌, ◌%◌, ◌≤◌, ◌<◌}
use mathlib.Core.Path.{◌≡◌, refl, sym, ◌∙◌, subst}
use mathlib.Core.Bool.{Bool, true, false, ◌&&◌, false≢true}
use mathlib.Core.List.{List}
use native.Mathlib.Omega.{arith}
use native.Mathlib.Numerals.{add-one}
use borrow.Author.Tests.{eq-eqb, ne_eqb, lt-ltb, le-ltb, leb-true}
use lib.Dec.{leb}
use lib.ListN.{length, take, drop, get_or, length-drop}
use lib.Seq.{length-take-le}
use Rattle.sets.specs.Sets.{bytes_per_char}
use Rattle.issues.specs.declared.IssueKind.TheVariants.{UndefinedMacro, MacroLimit}
use Rattle.reading.specs.State.{Given, State, took, issue, charge}
use Rattle.reading.specs.Characters.{char1, graphic, graphic_of}
use Rattle.reading.specs.Macros.{Run, run_macro, run_body, builtin, limit}
use Rattle.reading.specs.Steps.{run}
use Rattle.decode_state.specs.declared.Macros.{Macros}
use Rattle.decode_state.specs.Promises.{Whole, whole, HoldsOrCut}
use Rattle.decode_state.proofs.Lift.{holds_charged, with_charged}
use Rattle.decode_macros.specs.Promises.{Built}
use Rattle.decode_macros.proofs.Laws.{builtin_bare}
use Rattle.decode_bodies.specs.declared.Place.{Place}
use Rattle.decode_bodies.specs.Promises.{below, Body, Inside, Ready, Ran}
use Rattle.decode_bodies.proofs.Room.{ready_body, grown_body}
use Rattle.decode_bodies.proofs.Along.{below_run, along_start, along_end, went_all}
use Rattle.decode_bodies.proofs.Steps.{alike}

-- ---- `char1` and `graphic`

pub char1_macro : (g : Given) (left : ℕ) (R : Run) (c at : ℕ) (s : State) → char1 g left R 15 c at s ≡ run_macro g left R c at s
unfolding char1
char1_macro g left R c at s = refl

pub graphic_macro : (g : Given) (left : ℕ) (R : Run) (e x : ℕ) (rest : List ℕ) (at : ℕ) (s : State) {sets : List ℕ} → s.sets ≡ sets → get_or sets e 0 ≡ 15
    → graphic g left R e x rest at s ≡ took 1 (char1 g left R 15 (x % 128) at s)
unfolding graphic graphic_of bytes_per_char
graphic_macro g left R e x rest at s p q = rw (p, q)

-- ---- `run_body`

module _ (g : Given) (left : ℕ) (R : Run) (body : List ℕ) (base at : ℕ) (s : State) where
  pub body_deep : left ≡ 0 → run_body g left R body base at s ≡ issue at MacroLimit s
  unfolding run_body
  body_deep h = rw (eq-eqb left 0 h)

  pub body_dear : (left ≡ 0 → ⊥) → limit g.input < s.charged + length body → run_body g left R body base at s ≡ issue at MacroLimit s
  unfolding run_body
  body_dear h k = rw (ne_eqb left 0 h, lt-ltb _ _ k)

  pub body_runs : (left ≡ 0 → ⊥) → s.charged + length body ≤ limit g.input → run_body g left R body base at s ≡ R body base (suc at) (charge (length body) s)
  unfolding run_body
  body_runs h k = rw (ne_eqb left 0 h, le-ltb _ _ k)

-- the length of a body is charged
abbrev charging : Whole → ℕ → Whole
charging d n = whole (with_charged d.core (d.core.charged + n)) d.starts d.lens

-- the place one deeper
abbrev pub deeper : Place → Place
deeper p = record { base = p.base; at = p.at; left = p.left - 1 }

module _ (cells input body : List ℕ) (p : Place) (d : Whole) (t i : List ℕ) where
  -- a body that runs: its length is charged, and it runs one deeper
  pub ran_body : {d' : Whole} {t' i' : List ℕ} → (p.left ≡ 0 → ⊥) → d.core.charged + length body ≤ limit input
      → Ran cells input (length body) (λ g. run g (p.left - 1) body p.base (p.at + 1)) (charging d (length body)) t i d' t' i'
      → Ran cells input 1 (λ g. run_body g p.left (below g p.left) body p.base p.at) d t i d' t' i'
  ran_body {d' = d'} {t' = t'} {i' = i'} h k v = record {
    does = λ g x y t₀ i₀ s q.
        let m : s.charged + length body ≤ limit g.input = rw ((alike q).charged, y) k in
        let e : run_body g p.left (below g p.left) body p.base p.at s ≡ run g (p.left - 1) body p.base (p.at + 1) (charge (length body) s) =
        body_runs g p.left (below g p.left) body p.base p.at s h m ∙ rw (below_run g p.left h, add-one p.at) in
        subst (λ (z : State). HoldsOrCut g t₀ i₀ z d' t' i') (sym e)
        (v.does g x y t₀ i₀ (charge (length body) s) (holds_charged g d.starts d.lens t₀ i₀ s d.core t i q (length body)));
    grown = grown_body k v.grown;
  }

  -- an empty one: nothing is charged, and nothing runs
  pub ran_empty : (p.left ≡ 0 → ⊥) → length body ≡ 0 → Ready (limit input) 1 d.core
      → Ran cells input 1 (λ g. run_body g p.left (below g p.left) body p.base p.at) d t i d t i
  ran_empty h e q =
      let n : d.core.charged + length body ≡ d.core.charged = omega (arith, e) in
      let k : d.core.charged + length body ≤ limit input = omega (arith, e, q.within) in
      let w = along_start {b = body} {to = length body} {j = 0} {d = charging d (length body)} (omega arith) (ready_body q k) in
      subst (λ (m : ℕ). Ran cells input 1 (λ g. run_body g p.left (below g p.left) body p.base p.at) d t i (whole (with_charged d.core m) d.starts d.lens) t i) n
      (ran_body h k (went_all (along_end w (omega (arith, e)))))

-- ---- `run_macro`

module _ (g : Given) (left : ℕ) (R : Run) (code at : ℕ) (s : State) where
  pub macro_defined : (start len : ℕ) → get_or s.starts code 0 ≡ start → get_or s.lens code 0 ≡ len → (start ≡ 0 → ⊥)
      → run_macro g left R code at s ≡ run_body g left R (take len (drop start g.input)) start at s
  unfolding run_macro
  macro_defined start len p q h = rw (p, q, ne_eqb start 0 h)

  pub macro_built_in : get_or s.starts code 0 ≡ 0 → (leb 0x60 code && leb code 0x6F) ≡ true → run_macro g left R code at s ≡ run_body g left R (builtin code) 0 at s
  unfolding run_macro
  macro_built_in p h = rw (p, h)

  pub macro_none : get_or s.starts code 0 ≡ 0 → (leb 0x60 code && leb code 0x6F) ≡ false → run_macro g left R code at s ≡ issue at (UndefinedMacro code) s
  unfolding run_macro
  macro_none p h = rw (p, h)

-- a body that was defined, as the part of the input from its start to its end
pub body_inside : {input starts lens : List ℕ} (code start end : ℕ) → length input ≤ 65535 → Inside input starts lens
    → start ≡ get_or starts code 0 → end ≡ get_or starts code 0 + get_or lens code 0 → Body (take (end - start) (drop start input))
body_inside {input} {starts} {lens} code start end h k p q =
    let n : get_or lens code 0 ≡ end - start = omega (arith, p, q) in
    let e : length (take (end - start) (drop start input)) ≡ end - start = length-take-le (end - start) (drop start input) (omega (arith, length-drop start input, k.within code, p, q)) in
    record {
      short = omega (arith, e, k.within code, h, p, q);
      bare = rw (← n, p) (k.bare code);
    }

-- the body of a code lies in the input
pub body_within : {input : List ℕ} (macros : Macros) (code : ℕ) → Inside input macros.starts macros.lens
    → get_or macros.starts code 0 + get_or macros.lens code 0 ≤ length input
body_within macros code h = h.within code

pub body_bare : {input : List ℕ} (macros : Macros) (code : ℕ) → length input ≤ 65535 → Inside input macros.starts macros.lens
    → Body (take (get_or macros.starts code 0 + get_or macros.lens code 0 - get_or macros.starts code 0) (drop (get_or macros.starts code 0) input))
body_bare macros code h k = body_inside code _ _ h k refl refl

-- ---- a built-in body

-- one that has bytes is the built-in body of a code from 60 to 6F
pub built_test : {l : List ℕ} {code : ℕ} {l' : List ℕ} {n : ℕ} → Built l code l' n → 1 ≤ n → (leb 0x60 code && leb code 0x6F) ≡ true
built_test {code = code} h k = go (leb 0x60 code && leb code 0x6F) refl
  where
    go : (b : Bool) → (leb 0x60 code && leb code 0x6F) ≡ b → (leb 0x60 code && leb code 0x6F) ≡ true
    go true e = e
    go false e = absurd (omega (arith, h.none e, k))

pub built_none : {l : List ℕ} {code : ℕ} {l' : List ℕ} {n : ℕ} → Built l code l' n → n ≡ 0 → (leb 0x60 code && leb code 0x6F) ≡ false
built_none {code = code} h k = go (leb 0x60 code && leb code 0x6F) refl
  where
    go : (b : Bool) → (leb 0x60 code && leb code 0x6F) ≡ b → (leb 0x60 code && leb code 0x6F) ≡ false
    go true e = absurd (omega (arith, h.some e, k))
    go false e = e

pub built_body : {l : List ℕ} {code : ℕ} {l' : List ℕ} {n : ℕ} → Built l code l' n → 1 ≤ n → length l ≤ 65535 → Body (take n l')
built_body {code = code} {l' = l'} {n = n} h k m =
    let e = built_test h k in
    let low : 0x60 ≤ code = leb-true 0x60 code (and_both (leb 0x60 code) (leb code 0x6F) e).0 in
    let high : code ≤ 0x6F = leb-true code 0x6F (and_both (leb 0x60 code) (leb code 0x6F) e).1 in
    record {
      short = omega (arith, length-take-le n l' h.fits, h.fits, h.same);
      bare = rw (h.has e) (builtin_bare code low high);
    }
  where
    and_both : (a b : Bool) → (a && b) ≡ true → (a ≡ true) × (b ≡ true)
    and_both true b e = (refl, e)
    and_both false b e = absurd (false≢true e)
