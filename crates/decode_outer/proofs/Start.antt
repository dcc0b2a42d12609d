-- What steps of the input are given, from the state before the first byte and from any other, and what is left at the end.
use Prim.Native.Nat.{ℕ, ◌-◌, ◌≤◌}
use mathlib.Core.Path.{◌≡◌, refl, sym, ap, ◌∙◌, subst}
use mathlib.Core.List.{List}
use mathlib.Core.Logic.{inl, inr}
use native.Mathlib.Omega.{arith}
use lib.ListN.{length, drop}
use Rattle.private_use.specs.PrivateUse.{private_use}
use Rattle.utf8.specs.Utf8.{utf8s}
use Rattle.decode_output.specs.Output.{nothing}
use Rattle.decode_output.specs.Waiting.{packed}
use Rattle.decode_output.specs.Promises as output
use Rattle.reading.specs.State.{Given, State, given, start}
use Rattle.reading.specs.Macros.{limit}
use Rattle.reading.specs.Steps.{run}
use Rattle.reading.specs.Between.{until}
use Rattle.decode_state.specs.declared.Core.{Core}
use Rattle.decode_state.specs.declared.Decoder.{Decoder}
use Rattle.decode_state.specs.Promises.{start_of, undefined, view, Holds, Cut, HoldsOrCut}
use Rattle.decode_state.proofs.Begun.{holds_start}
use Rattle.decode_state.proofs.Steps.{until_all}
use Rattle.decode_bodies.specs.Promises.{below, Inside}
use Rattle.decode_bodies.proofs.Along.{Went}
use Rattle.decode_outer.specs.declared.Reached.{Reached}
use Rattle.decode_outer.specs.Promises.{Outside, steps_from, ReachesOrCut, TopRan}
use Rattle.decode_outer.proofs.Defining.{inside_start}

-- ---- from any state

-- the steps that the loop went
pub top_ran : {cells input : List ℕ} {from to : ℕ} {d : Decoder} {t i : List ℕ} {at : ℕ} {d₁ : Decoder} {t₁ i₁ : List ℕ}
    → Went cells input 4 0 0 input to from (view d) t i at (view d₁) t₁ i₁ → Inside input d₁.macros.starts d₁.macros.lens
    → TopRan cells input from to d t i (record { at = at; decoder = d₁ }) t₁ i₁
unfolding below
top_ran {input = input} {from} {to} {at = at} {d₁} {t₁} {i₁} w inside = record {
  does = λ g x y t₀ i₀ s k.
      subst (λ (l : List ℕ). ReachesOrCut g t₀ i₀ (until g 4 (run g 3) 0 0 to (drop from l) from 0 s) at d₁ t₁ i₁) (sym y) (w.does g x y t₀ i₀ s k);
  inside = inside;
  grown = w.grown;
}

module _ {cells input : List ℕ} {from to : ℕ} {d : Decoder} {t i : List ℕ} {r : Reached} {t₁ i₁ : List ℕ} (o : Outside input (length input - from) d)
    (none : d.core.out.issues ≡ 0) (v : TopRan cells input from to d t i r t₁ i₁) where
  -- after the steps there is room for the release of the marks
  pub room_after : output.Room 0 1 r.decoder.core.out
  unfolding limit
  room_after = record {
    ordered = v.grown.ordered;
    repeat = v.grown.repeat;
    text = omega (arith, v.grown.text, o.ready.room.text);
    issues = omega (arith, v.grown.issues, none, o.short);
  }

  -- there are not more issues than bytes were read
  pub few_issues : r.decoder.core.out.issues ≤ 4263871
  unfolding limit
  few_issues = omega (arith, none, v.grown.issues, v.grown.within, o.short)

-- ---- from the start

module _ (input : List ℕ) {c : Core} {d : Decoder} (initial width : ℕ) (enough : ℕ) (h : length input ≤ 65535) (e : c ≡ start_of initial width enough) (q : d ≡ undefined c)
  where
    abbrev first : Decoder
    first = undefined (start_of initial width enough)

    p : first ≡ d
    p = ap undefined (sym e) ∙ sym q

    -- there is room for all steps
    outside_first : Outside input (length input - 0) first
    unfolding limit nothing utf8s private_use packed
    outside_first =
        record {
          short = h;
          inside = inside_start input;
          ready =
              record {
                gl = omega arith;
                gr = omega arith;
                within = omega arith;
                room = record { ordered = (omega arith, omega arith); repeat = omega arith; text = omega arith; issues = omega arith };
              };
        }

    pub outside_start : Outside input (length input - 0) d
    outside_start = subst (Outside input (length input - 0)) p outside_first

    -- nothing ends it but as many issues as were asked for, and there are none yet
    pub enough_start : d.core.enough ≡ enough
    enough_start = ap (λ (z : Decoder). z.core.enough) (sym p)

    pub issues_start : d.core.out.issues ≡ 0
    unfolding nothing
    issues_start = ap (λ (z : Decoder). z.core.out.issues) (sym p)

    pub end_start : d.core.out.end ≤ 4096
    unfolding nothing utf8s
    end_start = omega (arith, ap (λ (z : Decoder). z.core.out.end) (sym p))

    begun : (cells t i : List ℕ) → Holds (given cells width input) t i (start initial) (view d) t i
    begun cells t i = subst (λ (z : Decoder). Holds (given cells width input) t i (start initial) (view z) t i) p (holds_start cells input initial width enough t i)

    module _ {cells t i : List ℕ} {to : ℕ} {r : Reached} {t' i' : List ℕ} (v : TopRan cells input 0 to d t i r t' i') where
      -- after all steps there is room for the release of the marks
      pub room_end : output.Room 0 1 r.decoder.core.out
      room_end = room_after outside_start issues_start v

      -- how many issues end it is as it was asked, and there are not more than bytes were read
      pub enough_end : r.decoder.core.enough ≡ enough
      enough_end = v.grown.enough ∙ enough_start

      pub issues_end : r.decoder.core.out.issues ≤ 4263871
      issues_end = few_issues outside_start issues_start v

      -- they go from the state before the first byte up to a byte, unless the reading is cut
      pub reached_start : ReachesOrCut (given cells width input) t i (steps_from 0 to (given cells width input) (start initial)) r.at r.decoder t' i'
      reached_start = v.does (given cells width input) refl refl t i (start initial) (begun cells t i)

    -- or to the end
    pub ran_start : {cells t i : List ℕ} {r : Reached} {t' i' : List ℕ} → TopRan cells input 0 (length input) d t i r t' i'
        → HoldsOrCut (given cells width input) t i (run (given cells width input) 4 input 0 0 (start initial)) (view r.decoder) t' i'
    unfolding run
    ran_start {cells} {t} {i} {r} {t'} {i'} v = all (reached_start v)
      where
        g : Given
        g = given cells width input

        same : (steps_from 0 (length input) g (start initial)).state ≡ run g 4 input 0 0 (start initial)
        same = until_all g 4 (run g 3) 0 0 (length input) input 0 0 (start initial) (omega arith)

        all : ReachesOrCut g t i (steps_from 0 (length input) g (start initial)) r.at r.decoder t' i' → HoldsOrCut g t i (run g 4 input 0 0 (start initial)) (view r.decoder) t' i'
        all (inl q) = inl (subst (λ (z : State). Holds g t i z (view r.decoder) t' i') same q.0)
        all (inr q) = inr (subst (λ (z : State). Cut r.decoder.core z) same q)
