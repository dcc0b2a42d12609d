-- What the exported calls leave, from the answers that they report. Assumes nothing.
use Prim.Native.Nat.{ℕ, ◌-◌, ◌≤◌}
use mathlib.Core.Path.{◌≡◌, refl, ap, ◌∙◌}
use mathlib.Core.Bool.{Bool, true, false}
use mathlib.Core.List.{List, [], ◌∷◌}
use native.Mathlib.Omega.{arith}
use borrow.Author.Tests.{leb-true, le-leb}
use lib.Dec.{leb}
use lib.ListN.{length, take, drop, length-drop}
use lib.Seq.{length-take-le}
use Rattle.reading.specs.Call.{Lent, escape_part}
use Rattle.decode.specs.Answers as decoded
use Rattle.coding.specs.Call as coding
use Rattle.encode.specs.Answers as codes
use Rattle.reading.specs.WithoutBuffers as unbuffered
use Rattle.measure.specs.Promises as measures
use Rattle.clean.specs.Promises as cleans
use Rattle.key.specs.Key as key
use Rattle.key.specs.Promises as keys
use Rattle.catalogue.specs.Catalogue as catalogue
use Rattle.catalogue.specs.Promises as catalogues
use Rattle.catalogue.specs.declared.Found as found
use Rattle.bookmark.specs.Bookmark as bookmark
use Rattle.bookmark.specs.Promises as bookmarks
use Rattle.std.specs.Prelude.{Result, Ok, Err}
use Rattle.questions.specs.declared.refusal.Refusal.{Refusal}
use Rattle.questions.specs.Refusal.{refused, refused_at}
use Rattle.text_counts.specs.Counts.{fronted, escape_start}
use Rattle.text.specs.Numbers.{reported, of_decoding, of_measuring, of_clean, of_key, of_find, of_coding}
use Rattle.text.specs.Calls.{counts, Decodes, Escapes, measure_counts, Measures, clean_counts, Cleans, key_counts, Keys, add_counts, Adds, find_counts, Finds, Sets, Returns, coding_counts, Codes}

-- an answer whose numbers were reported

four : (a : decoded.Answer) → reported of_decoding 4 a ≡ decoded.text_of a ∷ decoded.issues_of a ∷ decoded.charged_of a ∷ decoded.private_use_of a ∷ []
four (Ok x) = refl
four (Err e) = refl

pub decodes : {c : Lent} {a : decoded.Answer} {before after t i : List ℕ} {n : ℕ} → decoded.Answered c a t i → n ≡ refused a
    → after ≡ fronted before (refused_at a ∷ reported of_decoding 4 a) → Decodes c before n t i after
unfolding counts
decodes {a = a} v n e = record {
  number = n ∙ v.number;
  counted = e ∙ rw (four a, v.place, v.counted, v.reported, v.charged, v.private_use) refl;
  written = v.written;
  listed = v.listed;
}

-- so of the rest of a reading
pub returns_to : {c : bookmark.Returning} {a : decoded.Answer} {before after t i : List ℕ} {n : ℕ} → bookmarks.Returns c a t i → n ≡ refused a
    → after ≡ fronted before (refused_at a ∷ reported of_decoding 4 a) → Returns c before n t i after
unfolding counts
returns_to {a = a} v n e = record {
  number = n ∙ v.number;
  counted = e ∙ rw (four a, v.place, v.counted, v.reported, v.charged, v.private_use) refl;
  written = v.written;
  listed = v.listed;
}

none : (a : Result (Unit {0}) Refusal) → reported {A = Unit {0}} (λ x. []) 0 a ≡ []
none (Ok x) = refl
none (Err e) = refl

pub sets_to : {c : bookmark.Setting} {a : Result (Unit {0}) Refusal} {n : ℕ} {before after s : List ℕ} → bookmarks.Sets c a s → n ≡ refused a
    → after ≡ fronted before (refused_at a ∷ reported {A = Unit {0}} (λ x. []) 0 a) → Sets c before n s after
sets_to {a = a} v n e = record { number = n ∙ v.number; counted = e ∙ rw (none a, v.place) refl; stored = v.stored }

three : (a : measures.MeasureAnswer) → reported of_measuring 3 a ≡ measures.text_of a ∷ measures.issues_of a ∷ measures.charged_of a ∷ []
three (Ok x) = refl
three (Err e) = refl

pub measured : {c : unbuffered.Lent} {a : measures.MeasureAnswer} {before after : List ℕ} {n : ℕ} → measures.Answered c a → n ≡ refused a
    → after ≡ fronted before (refused_at a ∷ reported of_measuring 3 a) → Measures c before n after
unfolding measure_counts
measured {a = a} v n e = record { number = n ∙ v.number; counted = e ∙ rw (three a, v.place, v.counted, v.reported, v.charged) refl }

one : (a : cleans.CleanAnswer) → reported of_clean 1 a ≡ cleans.clean_of a ∷ []
one (Ok x) = refl
one (Err e) = refl

pub cleaned : {c : unbuffered.Lent} {a : cleans.CleanAnswer} {before after : List ℕ} {n : ℕ} → cleans.Answered c a → n ≡ refused a
    → after ≡ fronted before (refused_at a ∷ reported of_clean 1 a) → Cleans c before n after
unfolding clean_counts
cleaned {a = a} v n e = record { number = n ∙ v.number; counted = e ∙ rw (one a, v.place, v.said) refl }

two : (a : keys.KeyAnswer) → reported of_key 2 a ≡ keys.len_of a ∷ keys.charged_of a ∷ []
two (Ok x) = refl
two (Err e) = refl

pub keyed : {c : key.Lent} {a : keys.KeyAnswer} {before after b : List ℕ} {n : ℕ} → keys.Answered c a b → n ≡ refused a
    → after ≡ fronted before (refused_at a ∷ reported of_key 2 a) → Keys c before n b after
unfolding key_counts
keyed {a = a} v n e = record {
  number = n ∙ v.number;
  counted = e ∙ rw (two a, v.place, v.counted, v.charged) refl;
  written = v.written;
}

pub adds : {c : catalogue.Lent} {a : keys.KeyAnswer} {before after s b : List ℕ} {n : ℕ} → catalogues.Added c a s b → n ≡ refused a
    → after ≡ fronted before (refused_at a ∷ reported of_key 2 a) → Adds c before n s b after
unfolding add_counts
adds {a = a} v n e = record {
  number = n ∙ v.number;
  counted = e ∙ rw (two a, v.place, v.counted, v.charged) refl;
  stored = v.stored;
  written = v.written;
}

pair : (a : Result found.Found Refusal) → reported of_find 2 a ≡ catalogues.entries_of a ∷ catalogues.smallest_of a ∷ []
pair (Ok x) = refl
pair (Err e) = refl

pub finds : {store k before after : List ℕ} {a : Result found.Found Refusal} {n : ℕ} → catalogues.Finds store k a → n ≡ refused a
    → after ≡ fronted before (refused_at a ∷ reported of_find 2 a) → Finds store k before n after
unfolding find_counts
finds {a = a} v n e = record { number = n ∙ v.number; counted = e ∙ rw (pair a, v.place, v.counted, v.smallest) refl }

coding_pair : (a : codes.Answer) → reported of_coding 2 a ≡ codes.length_of a ∷ codes.gap_of a ∷ []
coding_pair (Ok x) = refl
coding_pair (Err e) = refl

pub coded : {c : coding.Lent} {a : codes.Answer} {before after s b : List ℕ} {n : ℕ} → codes.Answered c a s b → n ≡ refused a
    → after ≡ fronted before (refused_at a ∷ reported of_coding 2 a) → Codes c before n s b after
unfolding coding_counts
coded {a = a} v n e = record {
  number = n ∙ v.number;
  counted = e ∙ rw (coding_pair a, v.place, v.counted, v.gap) refl;
  written = v.written;
  cleared = v.cleared;
}

-- the part that a start and a length name
names : (input : List ℕ) (start len : ℕ) → take (length (escape_part input start len)) (drop (escape_start (length input) start len) input) ≡ escape_part input start len
unfolding escape_part escape_start
names input start len = go (leb start (length input)) (leb len (length input - start)) refl refl
  where
    go : (a b : Bool) → leb start (length input) ≡ a → leb len (length input - start) ≡ b
        → take (length (escape_part input start len)) (drop (escape_start (length input) start len) input) ≡ escape_part input start len
    go false b p q = rw p
    go true false p q = rw (p, length-drop start input, q)
    go true true p q =
        let fits : len ≤ length (drop start input) = omega (arith, leb-true len (length input - start) q, length-drop start input) in
        rw (p, le-leb _ _ fits, q) (ap (λ (n : ℕ). take n (drop start input)) (length-take-le len (drop start input) fits))

pub escapes : {input : List ℕ} {start len : ℕ} {l l' part : List ℕ} {s : ℕ} → part ≡ escape_part input start len → s ≡ escape_start (length input) start len
    → l' ≡ fronted l (s ∷ length part ∷ []) → Escapes input start len l (length part) l'
escapes {input} {start} {len} {l} {l'} {part} {s} e f p = record {
  long = ap length e;
  counted = p ∙ ap (λ (n : ℕ). fronted l (n ∷ length part ∷ [])) f;
  names = ap (λ (k : List ℕ). take (length k) (drop (escape_start (length input) start len) input)) e ∙ names input start len;
}
