-- The laws of coding, by name: specs/Coding.antt states them. Assumes nothing.
use mathlib.Core.Path.{◌≡◌, refl}
use mathlib.Core.List.{List, [], ◌∷◌}
use Prim.Native.Nat.{ℕ, ◌+◌, ◌*◌, ◌≤◌}
use native.Mathlib.Omega.{arith}
use lib.ListN.{length}
use Rattle.questions.proofs.Buffers.{take_padded}
use Rattle.utf8.specs.Utf8.{scalars}
use Rattle.coding.specs.Candidates.{Cand, candidates}
use Rattle.coding.specs.Search.{Node, by_cand}
use Rattle.coding.specs.Store.{counts}
use Rattle.coding.specs.Call.{Lent, choices, coding, outcome_of}
use Rattle.base.specs.Lists.{All}
use Rattle.coding.specs.Admissible.{here}
use Rattle.laws_coding.specs.Coding.{NoShorter, CodingAdmissible, GapExact, NineBytes, returned, Accepted, StoreFree, MoreStore, StillAccepted, LargerStore, NineSuffice, AcceptedMeans}
use Rattle.base.proofs.Every.{all_map}
use Rattle.laws_coding.proofs.Written.{OfTables, Step, cand_steps}
use Rattle.laws_coding.proofs.Choices.{candidates_fine, choices_fine, choices_length, scalars_most, choices_filled}
use Rattle.laws_coding.proofs.Searches.{out_admissible, out_nine, gap_by, no_shorter_any}
use Rattle.laws_coding.proofs.Answers.{Passes, passes, overfull, whatever_store, with_more, four_each, still_fits, accepted_still, as_in_larger, but_for_room, with_enough}

pub no_shorter : NoShorter
unfolding coding
no_shorter = record { text = λ c. no_shorter_any (choices c) c.initial; any = no_shorter_any }

pub gap_exact : GapExact
unfolding coding
gap_exact c = gap_by (choices c) c.initial

pub coding_admissible : CodingAdmissible
unfolding coding
coding_admissible c e = out_admissible (choices c) c.initial (choices_fine c) (choices_filled c e)

nine_text : (c : Lent) → length (coding c).out ≤ 9 * length (scalars c.text)
unfolding coding
nine_text c = rw (← choices_length c) (out_nine (choices c) c.initial (choices_fine c))

nine_character : (n : Node) (i : ℕ) (ks : List Cand) → All OfTables ks → All (λ k. All (λ m. m.cost ≤ n.cost + 9) (by_cand n i k)) ks
nine_character n i [] a = tt
nine_character n i (k ∷ ks) a = (
  all_map (Step (Unit {0}) (k ∷ []) n i) (λ m. m.cost ≤ n.cost + 9) (by_cand n i k) (λ m s. omega (arith, s.cost, s.nine tt))
      (cand_steps (Unit {0}) (k ∷ []) n i k (λ x. a.0) (here refl)),
  nine_character n i ks a.1,
)

pub nine_bytes : NineBytes
nine_bytes =
    record {
      character = λ cells annex_e c n i. nine_character n i (candidates cells annex_e c) (candidates_fine cells annex_e c);
      text = nine_text;
      decoded = λ c h. omega (arith, nine_text c, scalars_most c.text);
    }

pub accepted : Accepted
unfolding outcome_of
accepted c e =
    let p = passes c e in
    let q : returned c ≡ (coding c).out = led c p in
    record {
      led = q;
      admissible = rw q (coding_admissible c p.choice);
      shortest = λ bs d. rw (q, p.given) (no_shorter.text c bs d);
      gap = rw (q, p.given) (gap_exact c);
      decoded = rw q (nine_bytes.decoded c p.short);
    }
  where
    led : (c : Lent) → Passes c → returned c ≡ (coding c).out
    led c p = rw p.given (take_padded c.coding_room (coding c).out p.fits)

pub store_free : StoreFree
store_free = whatever_store

pub more_store : MoreStore
more_store = with_more

pub still_accepted : StillAccepted
still_accepted = record { need = λ css initial. four_each (counts css initial); fits = still_fits; accepted = accepted_still }

pub larger_store : LargerStore
larger_store = as_in_larger

pub nine_suffice : NineSuffice
nine_suffice =
    record {
      characters = λ c h e. absurd (omega (arith, (overfull c e).over, nine_text c));
      longest = λ c h e. absurd (omega (arith, (overfull c e).over, nine_text c, scalars_most c.text, (overfull c e).short));
    }

pub accepted_means : AcceptedMeans
accepted_means = record { passes = but_for_room; accepted = with_enough }
