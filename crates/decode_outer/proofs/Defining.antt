-- Macros that are defined and run outside every body.
use Prim.Native.Nat.{ℕ, zero, suc, ◌+◌, ◌-◌, ◌≤◌, ◌<◌}
use mathlib.Core.Path.{◌≡◌, refl, sym, ap, ap₂, ◌∙◌, subst}
use mathlib.Core.Bool.{Bool, true, false, cond, true≢false, false≢true}
use mathlib.Core.List.{List, [], ◌∷◌}
use mathlib.Core.Logic.{inl, inr, ⊎_elim}
use native.Mathlib.Decide.{ℕ_discrete}
use native.Mathlib.Omega.{arith}
use lib.ListN.{length, drop, get_or, set, replicate, length-set}
use lib.Seq.{get_or-set_other, get_or-set_same}
use Rattle.reading.specs.State.{Given, State, Step, define}
use Rattle.reading.specs.Macros.{run_macro, defined, macro_cmd, end_of}
use Rattle.decode_state.specs.declared.Decoder.{Decoder}
use Rattle.decode_state.specs.Promises.{view, Holds, Does}
use Rattle.decode_macros.specs.declared.Command.{Command}
use Rattle.decode_macros.specs.declared.Command.TheVariants.{Ends}
use Rattle.decode_macros.specs.Promises.{Defined, commanded}
use Rattle.decode_macros.proofs.Laws.{defined_fits, defined_bare}
use Rattle.decode_bodies.specs.Promises.{below, body_at, Inside, RanStep}
use Rattle.decode_bodies.proofs.Room.{grown_same}
use Rattle.decode_bodies.proofs.Steps.{Alike, step_as, shift_step}
use Rattle.decode_bodies.proofs.Commands.{Means}
use Rattle.decode_outer.specs.declared.Reached.{Reached}
use Rattle.decode_outer.specs.Promises.{Outside, Executed, OuterStep, defining}

-- ---- the macros

get_or_set_le : (l : List ℕ) (i v : ℕ) → get_or (set l i v) i 0 ≤ v
get_or_set_le [] i v = omega arith
get_or_set_le (x ∷ xs) zero v = omega arith
get_or_set_le (x ∷ xs) (suc i) v = get_or_set_le xs i v

-- a body that is defined lies in the input, and no definition ends in it
inside_define : (input starts lens : List ℕ) (code len i : ℕ) → Defined code len input i → Inside input starts lens
    → Inside input (set starts code (i + 3)) (set lens code len)
inside_define input starts lens code len i d h = record {
  starts_count = length-set starts code (i + 3) ∙ h.starts_count;
  lens_count = length-set lens code len ∙ h.lens_count;
  within = λ c. near c (ℕ_discrete c code);
  bare = λ c. far c (ℕ_discrete c code);
}
  where
    body : ℕ → List ℕ
    body = body_at input (set starts code (i + 3)) (set lens code len)

    near : (c : ℕ) → Dec (c ≡ code) → get_or (set starts code (i + 3)) c 0 + get_or (set lens code len) c 0 ≤ length input
    near c (yes q) = rw q (omega (arith, get_or_set_le starts code (i + 3), get_or_set_le lens code len, defined_fits d))
    near c (no q) = rw (get_or-set_other starts code c (i + 3) 0 q, get_or-set_other lens code c len 0 q) (h.within c)

    far : (c : ℕ) → Dec (c ≡ code) → end_of (body c) ≡ length (body c)
    far c (yes q) =
        let hs : code < length starts = omega (arith, h.starts_count, d.small) in
        let hl : code < length lens = omega (arith, h.lens_count, d.small) in
        rw (q, get_or-set_same starts code (i + 3) 0 hs, get_or-set_same lens code len 0 hl) (defined_bare d)
    far c (no q) = rw (get_or-set_other starts code c (i + 3) 0 q, get_or-set_other lens code c len 0 q) (h.bare c)

zeros_at : (k c : ℕ) → ◌≡◌ {A = ℕ} (get_or (replicate {A = ℕ} k 0) c 0) 0
zeros_at zero c = refl
zeros_at (suc k) zero = refl
zeros_at (suc k) (suc c) = zeros_at k c

-- no macro is defined
pub inside_start : (input : List ℕ) → Inside input (replicate 128 0) (replicate 128 0)
unfolding end_of
inside_start input = record { starts_count = refl; lens_count = refl; within = λ c. omega (arith, zeros_at 128 c); bare = λ c. rw (zeros_at 128 c) }

-- a macro is defined
pub outside_define : {input : List ℕ} {d : Decoder} {code len j : ℕ} → Defined code len input j → Outside input 1 d
    → Outside input 1 (defining d code (j + 3) len)
outside_define {input = input} {d = d} {code = code} {len = len} {j = j} h o = record {
  short = o.short;
  inside = inside_define input d.macros.starts d.macros.lens code len j h o.inside;
  ready = o.ready;
}

does_define : (g : Given) (d : Decoder) (t i : List ℕ) (code place len : ℕ)
    → Does g (define code place len) (view d) t i (view (defining d code place len)) t i
unfolding define
does_define g d t i code place len t₀ i₀ s h = record {
  state = λ j. record { core = (h.state j).core; starts = set (h.state j).starts code place; lens = set (h.state j).lens code len };
  out = h.out;
}

-- ---- from the cycle

module _ {cells input : List ℕ} {d : Decoder} {t i : List ℕ} where
  -- a step of u bytes
  pub outer : {j u : ℕ} {f : Given → State → Step} {r : Decoder} {t' i' : List ℕ} → Inside input r.macros.starts r.macros.lens
      → RanStep cells input input j f (view d) t i u (view r) t' i' → OuterStep cells input j f d t i (record { at = j + u; decoder = r }) t' i'
  outer {j = j} {u = u} {f = f} {r = r} {t' = t'} {i' = i'} h v =
      let e : u ≡ j + u - j = omega arith in
      record { ran = subst (λ (k : ℕ). RanStep cells input input j f (view d) t i k (view r) t' i') e v; inside = h }

  -- a step that agrees with f at the states that are held
  pub outer_as : {j : ℕ} {f f' : Given → State → Step} {r : Reached} {t' i' : List ℕ} → ((g : Given) (s : State) → Alike (view d) s → f' g s ≡ f g s)
      → OuterStep cells input j f d t i r t' i' → OuterStep cells input j f' d t i r t' i'
  outer_as p v = record { ran = step_as p v.ran; inside = v.inside }

  -- one byte more, before a character
  pub shift_outer : {j : ℕ} {f : Given → State → Step} {r : Reached} {t' i' : List ℕ} → OuterStep cells input (j + 1) f d t i r t' i'
      → OuterStep cells input j (λ g s. record { used = suc (f g s).used; to = (f g s).to }) d t i r t' i'
  shift_outer {j = j} {f = f} {r = r} {t' = t'} {i' = i'} v =
      let e : r.at - (j + 1) + 1 ≡ r.at - j = omega (arith, v.ran.some) in
      record {
        ran = subst (λ (k : ℕ). RanStep cells input input j (λ g s. record { used = suc (f g s).used; to = (f g s).to }) (view d) t i k (view r.decoder) t' i') e (shift_step v.ran);
        inside = v.inside;
      }

-- ---- MACRO

module _ (cells input : List ℕ) (j : ℕ) (d : Decoder) (t i : List ℕ) where
  -- MACRO 4F
  pub outer_ends : {e : ℕ} (n : ℕ) (cmd : Command) → Means input j n cmd → cmd ≡ Ends → j + 2 ≤ length input → Outside input e d
      → OuterStep cells input j (λ g. macro_cmd g 4 (below g 4) (drop (j + 1) input) j j) d t i (record { at = j + 2; decoder = d }) t i
  unfolding commanded
  outer_ends n cmd m q h o =
      let same : (g : Given) (s : State) → macro_cmd g 4 (below g 4) (drop (j + 1) input) j j s ≡ commanded Ends n g 4 (below g 4) j j s =
      λ g s. m g 4 (below g 4) j j s ∙ ap (λ (z : Command). commanded z n g 4 (below g 4) j j s) q in
      outer o.inside
      (record {
        does = λ g x y t₀ i₀ s p.
            inl (subst (λ (z : Step). Holds g t₀ i₀ z.to (view d) t i) (sym (same g s)) p, sym (ap (λ (z : Step). z.used) (same g s)));
        some = omega arith;
        most = h;
        grown = grown_same o.ready 1;
      })

  -- MACRO 40 and 41
  module _ (code len : ℕ) (h : Defined code len input j) (o : Outside input 1 d) where
    abbrev defines : Decoder
    defines = defining d code (j + 3) len

    at_end : j + (len + 5) ≡ j + len + 5
    at_end = omega arith

    pub outer_defines : (runs : Bool) → runs ≡ false
        → OuterStep cells input j (λ g. defined g 4 (below g 4) (cond runs 0x41 0x40) code len j j) d t i (record { at = j + len + 5; decoder = defines }) t i
    unfolding defined
    outer_defines true q = absurd (true≢false q)
    outer_defines false q =
        subst (λ (k : ℕ). OuterStep cells input j (λ g. defined g 4 (below g 4) 0x40 code len j j) d t i (record { at = k; decoder = defines }) t i) at_end
        (outer (outside_define h o).inside
        (record {
          does = λ g x y t₀ i₀ s p. inl (does_define g d t i code (j + 3) len t₀ i₀ s p, refl);
          some = omega arith;
          most = omega (arith, h.ended);
          grown = grown_same o.ready 1;
        }))

    pub outer_runs : {r : Decoder} {t' i' : List ℕ} (runs : Bool) → runs ≡ true
        → Executed cells input (λ g. run_macro g 4 (below g 4) code j) defines t i r t' i'
        → OuterStep cells input j (λ g. defined g 4 (below g 4) (cond runs 0x41 0x40) code len j j) d t i (record { at = j + len + 5; decoder = r }) t' i'
    unfolding defined
    outer_runs false q v = absurd (false≢true q)
    outer_runs {r} {t'} {i'} true q v =
        let inside : Inside input r.macros.starts r.macros.lens = rw v.macros (outside_define h o).inside in
        subst (λ (k : ℕ). OuterStep cells input j (λ g. defined g 4 (below g 4) 0x41 code len j j) d t i (record { at = k; decoder = r }) t' i') at_end
        (outer inside
        (record {
          does = λ g x y t₀ i₀ s p.
              ⊎_elim (λ q. inl (q, refl)) (λ q. inr q) (v.ran.does g x y t₀ i₀ (define code (j + 3) len s) (does_define g d t i code (j + 3) len t₀ i₀ s p));
          some = omega arith;
          most = omega (arith, h.ended);
          grown = v.ran.grown;
        }))

  -- what a step gives, where the decoder is another's result
  pub outer_with : {f : Given → State → Step} {u : ℕ} {e r : Decoder} {t' i' : List ℕ} → r ≡ e
      → OuterStep cells input j f d t i (record { at = u; decoder = e }) t' i' → OuterStep cells input j f d t i (record { at = u; decoder = r }) t' i'
  outer_with {f = f} {u = u} {t' = t'} {i' = i'} q v = subst (λ (z : Decoder). OuterStep cells input j f d t i (record { at = u; decoder = z }) t' i') (sym q) v

-- what a macro is run from, where the decoder is another's result
pub executed_from : {cells input : List ℕ} {f : Given → State → State} {d e : Decoder} {t i : List ℕ} {r : Decoder} {t' i' : List ℕ} → d ≡ e
    → Executed cells input f d t i r t' i' → Executed cells input f e t i r t' i'
executed_from {cells = cells} {input = input} {f = f} {t = t} {i = i} {r = r} {t' = t'} {i' = i'} q v =
    subst (λ (z : Decoder). Executed cells input f z t i r t' i') q v
