-- Every broadcaster's arrangement, by name: specs/Arrangements.antt states it. Assumes nothing.
use Prim.Native.Nat.{ℕ, zero, suc}
use mathlib.Core.Path.{◌≡◌, refl, sym, ap, ap₂, subst, ◌∙◌}
use mathlib.Core.Bool.{Bool, true, false, cond}
use mathlib.Core.List.{List, []}
use borrow.Author.Tests.{le-leb}
use lib.Dec.{eqb, leb}
use lib.ListN.{length}
use Rattle.private_use.specs.PrivateUse.{private_use}
use Rattle.utf8.specs.Utf8.{scalars}
use Rattle.utf8.proofs.Texts.{utf8s_scalars}
use Rattle.questions.specs.Questions.{first_refusal}
use Rattle.questions.specs.Buffer.{padded}
use Rattle.reading.specs.Call as decoding
use Rattle.coding.specs.Call as coding
use Rattle.laws_coding.specs.Coding.{AcceptedText}
use Rattle.laws_readback.specs.ReadBack.{PassesQuestions, ReadAs}
use Rattle.laws_readback.proofs.ReadBack.{read_back, call_read_back}
use Rattle.laws_readback.proofs.Accepted.{accepted_call}
use Rattle.key.specs.Key as key
use Rattle.key.specs.Laws.{first_of}
use Rattle.key.proofs.ByText.{Reads, its_key, its_number, its_outcome}
use Rattle.catalogue_form.specs.Form.{bytes, entries, formed}
use Rattle.catalogue_form.specs.Entries.{entered}
use Rattle.catalogue.specs.Catalogue as catalogue
use Rattle.catalogue.proofs.Laws.{found_together}
use Rattle.laws_arrangements.specs.Arrangements.{Arranged, EveryArrangement, keying, key_of, keyed, EveryKey, Alike, same_key, both_private, both_small, OneKey}
use Rattle.laws_arrangements.specs.Arrangements.{adding, AddedAlike, FoundBoth, StationsTogether}

-- ---- Reading

-- no room decides what an accepted text has passed
passes : (c : coding.Lent) → AcceptedText c → PassesQuestions c
passes c a =
    let p = accepted_call (record { cells = c.cells; initial = c.initial; width = c.width; text = c.text; store_room = a.store_room; coding_room = a.coding_room }) a.accepted in
    record { cells = p.cells; initial = p.initial; width = p.width; well_formed = p.well_formed; based = p.based }

pub every_arrangement : EveryArrangement
every_arrangement c bs text_room issue_room a = call_read_back c bs text_room issue_room (passes c a.accepted) a.admissible a.within

-- ---- Keys

module _ (c : coding.Lent) (bs : List ℕ) (room : ℕ) (a : Arranged c bs) where
  abbrev k : key.Lent
  k = keying c bs room

  p : PassesQuestions c
  p = passes c a.accepted

  as_read : ReadAs c (key.reading k)
  unfolding key.reading decoding.reading
  as_read = read_back c bs p.based a.admissible

  reads : Reads (key.reading k) (scalars c.text)
  reads = record { text_is = as_read.text; no_issue = as_read.issues; no_charge = as_read.charged }

  none_of_three : first_of k ≡ 0
  unfolding first_refusal
  none_of_three = rw (p.cells, le-leb c.initial 1 p.initial, le-leb c.width 1 p.width, le-leb (length bs) 65535 a.within)

  key_is : key.key_bytes k ≡ key_of c
  key_is = its_key k (scalars c.text) reads

  number_is : key.refusal k ≡ cond (leb (length c.text) room) (cond (eqb (private_use (scalars c.text)) 0) 0 11) 8
  number_is = its_number k (scalars c.text) reads c.text (utf8s_scalars c.text p.well_formed) none_of_three

  outcome_is : key.outcome k ≡ keyed c room
  outcome_is = its_outcome k (scalars c.text) reads c.text (utf8s_scalars c.text p.well_formed) none_of_three

pub every_key : EveryKey
every_key = outcome_is

pub one_key : OneKey
one_key = record {
  outcome = λ c bs ds room a b. outcome_is c bs room a ∙ sym (outcome_is c ds room b);
  alike = λ c bs ds room a b. by c bs ds room a b (leb (length c.text) room) refl (eqb (private_use (scalars c.text)) 0) refl;
}
  where
    by : (c : coding.Lent) (bs ds : List ℕ) (room : ℕ) → Arranged c bs → Arranged c ds → (fits : Bool) → leb (length c.text) room ≡ fits
        → (ordinary : Bool) → eqb (private_use (scalars c.text)) 0 ≡ ordinary → Alike c bs ds room
    by c bs ds room a b true f true o =
        same_key (number_is c bs room a ∙ rw (f, o)) (number_is c ds room b ∙ rw (f, o)) (key_is c bs room a ∙ sym (key_is c ds room b))
    by c bs ds room a b true f false o = both_private (number_is c bs room a ∙ rw (f, o)) (number_is c ds room b ∙ rw (f, o))
    by c bs ds room a b false f ordinary o = both_small (number_is c bs room a ∙ rw f) (number_is c ds room b ∙ rw f)

-- ---- A catalogue

-- an add depends on the key's questions, the key and the key call's outcome
module _ (k l : key.Lent) (room : k.room ≡ l.room) (bytes_are : key.key_bytes k ≡ key.key_bytes l) (number : ℕ) (store : List ℕ) where
  abbrev first : catalogue.Lent
  first = record { keyed = k; number = number; store = store }

  abbrev second : catalogue.Lent
  second = record { keyed = l; number = number; store = store }

  asked : (q : ℕ) → catalogue.key_refusal q first ≡ catalogue.key_refusal q second
  unfolding catalogue.key_refusal
  asked zero = ap (λ (i : List ℕ). catalogue.refusal_of (record { number = number; key = i }) (entries store)) bytes_are
  asked (suc q) = refl

  left : key.outcome k ≡ key.outcome l → (q : ℕ) → catalogue.added_by q first ≡ catalogue.added_by q second
  unfolding catalogue.added_by
  left o zero =
      ap₂ (λ (r : key.Outcome) (i : List ℕ). record {
        refused = 0;
        len = r.len;
        charged = r.charged;
        store = bytes (entered (record { number = number; key = i }) (entries store));
        buffer = r.buffer;
      }) o bytes_are
  left o (suc q) = ap (λ (n : ℕ). record { refused = suc q; len = 0; charged = 0; store = store; buffer = padded n [] }) room

  added_as : key.refusal k ≡ key.refusal l → key.outcome k ≡ key.outcome l → catalogue.added first ≡ catalogue.added second
  unfolding catalogue.added catalogue.add_refusal
  added_as q o =
      ap (λ (n : ℕ). catalogue.added_by (cond (formed store) n 12) first) (ap (λ (n : ℕ). catalogue.key_refusal n first) q ∙ asked (key.refusal l))
      ∙ left o (catalogue.add_refusal second)

pub added_alike : AddedAlike
added_alike c bs ds room number store a b =
    added_as (keying c bs room) (keying c ds room) refl (key_is c bs room a ∙ sym (key_is c ds room b)) number store
    (number_is c bs room a ∙ sym (number_is c ds room b)) (one_key.outcome c bs ds room a b)

pub stations_together : StationsTogether
stations_together c bs ds room more first second store a b n m y z =
    let one = adding c bs room first store in
    let two = adding c ds more second (catalogue.added one).store in
    let t = found_together one two n m y refl z (key_is c bs room a ∙ sym (key_is c ds more b)) in
    subst (λ (l : List ℕ). FoundBoth (catalogue.added two).store l first second) (key_is c bs room a)
    (record { refused = t.refused; both = t.both; least_first = t.first; least_second = t.second })
