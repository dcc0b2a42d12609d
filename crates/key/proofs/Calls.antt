-- The key call, from the answer of the decoding. Assumes nothing.
use Prim.Native.Nat.{ℕ, zero, suc, ◌+◌, ◌-◌, ◌≤◌, ◌<◌}
use mathlib.Core.Path.{◌≡◌, refl, sym, ap, ap₂, ◌∙◌, subst}
use mathlib.Core.Bool.{Bool, true, false, cond}
use mathlib.Core.List.{List, [], ◌∷◌, ◌++◌}
use native.Mathlib.Nat.{zero-add, suc-add, sub-zero}
use native.Mathlib.Omega.{arith}
use borrow.Author.Tests.{ne_eqb}
use lib.Dec.{eqb, T}
use lib.ListN.{length, take, drop, get_or, length-append}
use Rattle.private_use.specs.PrivateUse.{private_use}
use Rattle.utf8.specs.Utf8.{are_scalars, utf8, utf8s, scalars}
use Rattle.utf8.proofs.Texts.{scalars_utf8s}
use Rattle.questions.specs.Questions.{first_refusal, decode_limit}
use Rattle.questions.specs.Buffer.{padded}
use Rattle.questions.proofs.Buffers.{take_padded}
use Rattle.questions.proofs.Refusals.{some_number, passed}
use Rattle.reading.specs.Call as decoding
use Rattle.std.specs.Prelude.{Ok, Err}
use Rattle.questions.specs.declared.refusal.Refusal.{Refusal}
use Rattle.questions.specs.declared.refusal.Refusal.TheVariants.{PrivateUse}
use Rattle.questions.specs.Refusal as refusals
use Rattle.decode_read.specs.declared.Counts.{Counts}
use Rattle.decode.specs.Answers as decode
use Rattle.decode.specs.Answers.{Answer}
use Rattle.key.specs.Key.{Lent, decoding_of, reading, text_bytes, key_bytes, question_of, eleventh, refusal, Outcome, outcome_of, outcome}
use Rattle.laws_scalars.proofs.Scalars.{text_scalars, accepted_call}
use Rattle.key_text.specs.KeyText.{key_char, kept, key_text}
use Rattle.key_text.specs.Promises.{Removed}
use Rattle.key_text.proofs.Characters.{no_longer, first_bytes}
use Rattle.key.specs.Promises.{KeyAnswer, Decodes, lent, Answered, FromText}

-- ---- the buffer

-- zeros behind a result and zeros
padded_more : (m k : ℕ) (vs : List ℕ) → length vs ≤ m → padded m vs ++ padded k [] ≡ padded (m + k) vs
unfolding padded
padded_more zero k [] h = ap (λ (n : ℕ). padded n []) (sym (zero-add k))
padded_more zero k (v ∷ vs) h = absurd (omega arith)
padded_more (suc m) k [] h = ap (λ (l : List ℕ). 0 ∷ l) (padded_more m k [] (omega arith)) ∙ ap (λ (n : ℕ). padded n []) (sym (suc-add m k))
padded_more (suc m) k (v ∷ vs) h = ap (λ (l : List ℕ). v ∷ l) (padded_more m k vs (omega arith)) ∙ ap (λ (n : ℕ). padded n (v ∷ vs)) (sym (suc-add m k))

drop_padded : (n : ℕ) (vs : List ℕ) → length vs ≤ n → drop (length vs) (padded n vs) ≡ padded (n - length vs) []
unfolding padded
drop_padded n [] h = ap (λ (k : ℕ). padded k []) (sym (sub-zero n))
drop_padded zero (v ∷ vs) h = absurd (omega arith)
drop_padded (suc n) (v ∷ vs) h = drop_padded n vs (omega arith) ∙ ap (λ (k : ℕ). padded k []) (let e : n - length vs ≡ suc n - suc (length vs) = omega arith in e)

-- ---- the answer

-- a key has no more bytes than its text
key_shorter : (cs : List ℕ) → length (utf8s (key_text cs)) ≤ length (utf8s cs)
unfolding utf8s key_text
key_shorter [] = omega arith
key_shorter (x ∷ cs) =
    omega (arith, ap length (first_bytes x cs), length-append (utf8s (kept (key_char x) [])) (utf8s (key_text cs)), length-append (utf8 x) (utf8s cs), no_longer x, key_shorter cs)

module _ (c : Lent) where
  abbrev number : ℕ
  number = decoding.refusal (decoding_of c)

  -- the number of a decoding's outcome
  number_of : (decoding.outcome (decoding_of c)).refused ≡ number
  unfolding decoding.outcome decoding.outcome_of
  number_of = go number
    where
      go : (q : ℕ) → (decoding.outcome_of q (decoding_of c)).refused ≡ q
      go zero = refl
      go (suc q) = refl

  -- both outcomes by the decoding's number
  outcome_as : (q : ℕ) → number ≡ suc q → outcome c ≡ outcome_of (question_of (suc q)) c
  unfolding outcome refusal
  outcome_as q e = rw e

  outcome_0 : number ≡ 0 → (q : ℕ) → eleventh c ≡ q → outcome c ≡ outcome_of q c
  unfolding outcome refusal
  outcome_0 e q f = rw (e, f)

  decoded_as : (q : ℕ) → number ≡ q → decoding.outcome (decoding_of c) ≡ decoding.outcome_of q (decoding_of c)
  unfolding decoding.outcome
  decoded_as q e = ap (λ (n : ℕ). decoding.outcome_of n (decoding_of c)) e

  -- the first three questions were passed, and the text fits
  passed_0 : number ≡ 0 → (first_refusal c.cells c.initial c.width decode_limit (length c.input) ≡ 0) × (length (text_bytes c) ≤ c.room)
  unfolding text_bytes
  passed_0 = accepted_call (decoding_of c)

  -- what was accepted
  module _ (x : Counts) (b : List ℕ) (d : Decodes c (Ok x) b) where
    accepted : number ≡ 0
    accepted = sym number_of ∙ sym d.answered.number

    written : b ≡ padded c.room (text_bytes c)
    unfolding decoding.outcome_of text_bytes reading decoding.text_bytes
    written = d.answered.written ∙ ap (λ (o : decoding.Outcome). o.text_buffer) (decoded_as 0 accepted)

    counted : x.text ≡ length (text_bytes c)
    unfolding decoding.outcome_of text_bytes reading decoding.text_bytes
    counted = d.answered.counted ∙ ap (λ (o : decoding.Outcome). o.text) (decoded_as 0 accepted)

    charges : x.charged ≡ (reading c).charged
    unfolding decoding.outcome_of reading
    charges = d.answered.charged ∙ ap (λ (o : decoding.Outcome). o.charged) (decoded_as 0 accepted)

    privates : x.private_use ≡ private_use (reading c).out.text
    unfolding decoding.outcome_of reading
    privates = d.answered.private_use ∙ ap (λ (o : decoding.Outcome). o.private_use) (decoded_as 0 accepted)

    -- the text, and its key
    text_part : take x.text b ≡ text_bytes c
    text_part = ap₂ take counted written ∙ take_padded c.room (text_bytes c) (passed_0 accepted).1

    key_part : utf8s (key_text (scalars (take x.text b))) ≡ key_bytes c
    unfolding key_bytes text_bytes
    key_part = ap (λ (l : List ℕ). utf8s (key_text (scalars l))) text_part ∙ ap (λ (l : List ℕ). utf8s (key_text l)) (scalars_utf8s (reading c).out.text (d.scalars (passed_0 accepted).0))

    key_fits : length (key_bytes c) ≤ length (text_bytes c)
    unfolding key_bytes text_bytes
    key_fits = key_shorter (reading c).out.text

    buffer_as : (part : List ℕ) → part ≡ padded (length (text_bytes c)) (key_bytes c) → part ++ drop x.text b ≡ padded c.room (key_bytes c)
    buffer_as part e =
        let h : length (text_bytes c) ≤ c.room = (passed_0 accepted).1 in
        let n : length (text_bytes c) + (c.room - length (text_bytes c)) ≡ c.room = omega arith in
        ap₂ ◌++◌ e (ap₂ drop counted written ∙ drop_padded c.room (text_bytes c) h)
        ∙ (padded_more (length (text_bytes c)) (c.room - length (text_bytes c)) (key_bytes c) key_fits ∙ ap (λ (m : ℕ). padded m (key_bytes c)) n)

    pub keyed : x.private_use ≡ 0 → (len : ℕ) (part : List ℕ) → Removed (take x.text b) len part → Answered c (Ok (record { len = len; charged = x.charged })) (part ++ drop x.text b)
    unfolding outcome_of eleventh
    keyed n len part r =
        let o = outcome_0 accepted 0 (rw (sym privates, n)) in
        let p : part ≡ padded (length (text_bytes c)) (key_bytes c) = r.bytes ∙ ap₂ padded (ap length text_part) key_part in
        record {
          number = sym (ap (λ (x : Outcome). x.refused) o);
          case = λ z. refl;
          place = refl;
          counted = r.len ∙ (ap length key_part ∙ sym (ap (λ (x : Outcome). x.len) o));
          charged = charges ∙ sym (ap (λ (x : Outcome). x.charged) o);
          written = buffer_as part p ∙ sym (ap (λ (x : Outcome). x.buffer) o);
        }

    -- it has private-use characters
    pub refused_11 : (x.private_use ≡ 0 → ⊥) → (z : List ℕ) → z ≡ padded c.room [] → Answered c (Err PrivateUse) z
    unfolding outcome_of eleventh
    refused_11 n z e =
        let o = outcome_0 accepted 11 (rw (sym privates, ne_eqb x.private_use 0 n)) in
        record {
          number = sym (ap (λ (x : Outcome). x.refused) o);
          case = λ y. absurd (omega arith);
          place = refl;
          counted = sym (ap (λ (x : Outcome). x.len) o);
          charged = sym (ap (λ (x : Outcome). x.charged) o);
          written = e ∙ sym (ap (λ (x : Outcome). x.buffer) o);
        }

    -- the text lies in the buffer
    pub inside : x.text ≤ length b
    inside = omega (arith, counted, (passed_0 accepted).1, d.room)

  -- what was refused, by the decoding with e and by the key with k
  module _ (e k : Refusal) (b : List ℕ) (d : Decodes c (Err e) b) (v : refusals.number_of k ≡ question_of (refusals.number_of e)) (p : refusals.place_of k ≡ refusals.place_of e) where
    same : number ≡ refusals.number_of e
    same = sym number_of ∙ sym d.answered.number

    module _ (n : ℕ) (f : refusals.number_of e ≡ suc n) where
      cleared : b ≡ padded c.room []
      unfolding decoding.outcome_of
      cleared = d.answered.written ∙ ap (λ (o : decoding.Outcome). o.text_buffer) (decoded_as (suc n) (same ∙ f))

      refused_more : (m : ℕ) → refusals.number_of k ≡ suc m → Answered c (Err k) b
      unfolding outcome_of
      refused_more m g =
          let o : outcome c ≡ outcome_of (suc m) c = outcome_as n (same ∙ f) ∙ ap (λ (k : ℕ). outcome_of k c) (ap question_of (sym f) ∙ sym v ∙ g) in
          record {
            number = g ∙ sym (ap (λ (x : Outcome). x.refused) o);
            case = λ z. absurd (omega (arith, g, z));
            place = p ∙ d.answered.place;
            counted = sym (ap (λ (x : Outcome). x.len) o);
            charged = sym (ap (λ (x : Outcome). x.charged) o);
            written = cleared ∙ sym (ap (λ (x : Outcome). x.buffer) o);
          }

    pub refused : Answered c (Err k) b
    refused = go (refusals.number_of e) (refusals.number_of k) refl refl
      where
        go : (n m : ℕ) → refusals.number_of e ≡ n → refusals.number_of k ≡ m → Answered c (Err k) b
        go zero m f g = absurd (omega (arith, some_number e, f))
        go (suc n) zero f g = absurd (omega (arith, some_number k, g))
        go (suc n) (suc m) f g = refused_more n f m g

-- ---- the same of an answer that is known by an equation

module _ (c : Lent) (r : Answer) (b : List ℕ) (d : Decodes c r b) where
  pub keyed_as : (x : Counts) (k : KeyAnswer) (z : List ℕ) → r ≡ Ok x → FromText x b k z → Answered c k z
  keyed_as x k z e f = f c (subst (λ (y : Answer). Decodes c y b) e d)

  pub refused_as : (e k : Refusal) → r ≡ Err e → refusals.number_of k ≡ question_of (refusals.number_of e) → refusals.place_of k ≡ refusals.place_of e → Answered c (Err k) b
  refused_as e k f v p = refused c e k b (subst (λ (x : Answer). Decodes c x b) f d) v p

  -- the text lies in the buffer
  pub text_inside : decode.text_of r ≤ length b
  text_inside = go r refl
    where
      go : (x : Answer) → r ≡ x → decode.text_of x ≤ length b
      go (Ok x) e = inside c x b (subst (λ (y : Answer). Decodes c y b) e d)
      go (Err x) e = omega arith

-- ---- a key lies in the buffer

-- where the key is not refused, the decoding was not
pub decoded : (c : Lent) → refusal c ≡ 0 → decoding.refusal (decoding_of c) ≡ 0
unfolding refusal
decoded c = go (decoding.refusal (decoding_of c)) refl
  where
    by : (q : ℕ) (t : Bool) → ◌≡◌ {A = ℕ} (cond t 10 (suc q)) 0 → ⊥
    by q true f = omega arith
    by q false f = omega arith

    go : (q : ℕ) → decoding.refusal (decoding_of c) ≡ q → refusal c ≡ 0 → decoding.refusal (decoding_of c) ≡ 0
    go zero e f = e
    go (suc q) e f = absurd (by q (eqb (suc q) 9) (rw e at f))

pub len_inside : (c : Lent) → (outcome c).len ≤ c.room
unfolding outcome outcome_of key_bytes text_bytes
len_inside c = go (refusal c) refl
  where
    go : (m : ℕ) → refusal c ≡ m → (outcome_of m c).len ≤ c.room
    go zero e = omega (arith, (passed_0 c (decoded c e)).1, key_shorter (reading c).out.text)
    go (suc m) e = omega arith

-- and stands at its beginning
pub key_bytes_lem : (c : Lent) → (outcome c).refused ≡ 0 → take (outcome c).len (outcome c).buffer ≡ key_bytes c
unfolding outcome outcome_of
key_bytes_lem c e = go (refusal c) e (len_inside c)
  where
    go : (m : ℕ) → (outcome_of m c).refused ≡ 0 → (outcome_of m c).len ≤ c.room → take (outcome_of m c).len (outcome_of m c).buffer ≡ key_bytes c
    go zero f h = take_padded c.room (key_bytes c) h
    go (suc m) f h = absurd (omega arith)

-- ---- what the decoding of a lent table gives

module _ (cells : List ℕ) (initial width : ℕ) (input buffer : List ℕ) (numbers : (k : ℕ) → get_or cells k 0 < 0x10000) where
  lent_scalars : first_refusal cells initial width decode_limit (length input) ≡ 0 → T (are_scalars (reading (lent cells initial width input buffer)).out.text)
  unfolding reading decoding.reading
  lent_scalars z = text_scalars (record { cells = cells; annex_e = eqb width 1; input = input }) initial
      (record { admitted = (passed cells initial width decode_limit (length input) z).table; numbers = numbers })

  pub decodes : (r : Answer) (t i : List ℕ) → length t ≡ length buffer → decode.Answered (decoding_of (lent cells initial width input buffer)) r t i → Decodes
      (lent cells initial width input buffer) r t
  decodes r t i h a = record { room = h; scalars = lent_scalars; issues = i; answered = a }
