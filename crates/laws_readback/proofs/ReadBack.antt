-- Reading back, by name: specs/ReadBack.antt states it. Assumes nothing.
use Prim.Native.Nat.{ℕ, zero, suc, ◌+◌, ◌≤◌}
use mathlib.Core.Path.{◌≡◌, refl, sym, ap, ◌∙◌, subst}
use mathlib.Core.Bool.{Bool, true, false, cond}
use mathlib.Core.List.{List, [], ◌∷◌, ◌++◌, append_assoc, append-nil}
use native.Mathlib.Omega.{arith}
use borrow.Author.Tests.{eqb-true, le-leb}
use lib.Dec.{eqb, leb, leb-zero}
use lib.ListN.{length}
use Rattle.tables.specs.Kanji.{non_spacing, has_character}
use Rattle.private_use.specs.PrivateUse.{private_use}
use Rattle.utf8.specs.Utf8.{scalars, utf8s}
use Rattle.utf8.proofs.Texts.{utf8s_scalars}
use Rattle.questions.specs.Questions.{cells_hold, options_hold}
use Rattle.questions.specs.Buffer.{padded}
use Rattle.issues.specs.Issue.{issues_numbers}
use Rattle.decode_output.specs.Output.{Output, first_at, release}
use Rattle.coding.specs.State.{State, start}
use Rattle.coding.specs.Candidates.{Cand}
use Rattle.coding.specs.Admissible.{Admissible, done, control, write}
use Rattle.coding.specs.Call as coding
use Rattle.reading.specs.State as reading
use Rattle.reading.specs.Macros.{Run}
use Rattle.reading.specs.Steps.{steps, run, offset, decode}
use Rattle.reading.specs.Call as call
use Rattle.laws_readback.specs.ReadBack.{Codes, Based, ReadAs, ReadBack, decoding, CallReadBack, OneOutcome}
use Rattle.laws_readback.proofs.States.{read, Invokes}
use Rattle.laws_readback.proofs.Controls.{still, control_moves}
use Rattle.laws_readback.proofs.Order.{Coded, end, with_mark, with_base, text_coded}
use Rattle.laws_readback.proofs.Codes.{puts}
use Rattle.laws_readback.proofs.Characters.{character_moves}

-- ---- What is written

-- text and waiting marks, no repeat and no issue
abbrev written : List ℕ → List ℕ → ℕ → Output
written text ms first = record { text = text; marks = ms; marks_at = first; repeat = 0; issues = [] }

-- a mark waits; a base is written, and the marks after it
puts_mark : (c at : ℕ) (text ms : List ℕ) (first : ℕ) → has_character non_spacing c ≡ true → puts c at (written text ms first) ≡ written text (ms ++ (c ∷ [])) (first_at ms first at)
unfolding puts
puts_mark c at text ms first e = rw e

record Puts (c at : ℕ) (text ms : List ℕ) (first : ℕ) : Type 0 where
  then : ℕ
  is : puts c at (written text ms first) ≡ written (text ++ (c ∷ ms)) [] then

puts_base : (c at : ℕ) (text ms : List ℕ) (first : ℕ) → has_character non_spacing c ≡ false → (eqb c 10 ≡ true → ms ≡ []) → Puts c at text ms first
unfolding puts
puts_base c at text ms first e n = go (eqb c 10) refl
  where
    go : (b : Bool) → eqb c 10 ≡ b → Puts c at text ms first
    go true q = record { then = first; is = rw (e, q, n q, eqb-true c 10 q) }
    go false q = record { then = 0; is = rw (e, q) }

-- ---- An admissible coding is read as its characters

module _ (g : reading.Given) (depth : ℕ) (R : Run) (base origin : ℕ) (z : reading.State) where
  -- the text is written and nothing waits
  record Ends (t : reading.State) (text : List ℕ) : Type 0 where
    to : State
    first : ℕ
    is : t ≡ read z to (written text [] first)

  on : (t u : reading.State) (text : List ℕ) → t ≡ u → Ends u text → Ends t text
  on t u text e r = record { to = r.to; first = r.first; is = e ∙ r.is }

  -- by the controls and characters of the coding; ms wait, and the text was written before
  coded : {s : State} {css : List (List Cand)} {bs ms ts : List ℕ} → Admissible s css bs → Coded g.cells g.annex_e ms css ts → Invokes s → (text : List ℕ) (first i : ℕ)
      → Ends (steps g depth R base origin bs i 0 (read z s (written text ms first))) (text ++ ts)
  unfolding steps
  coded (done s) end v text first i = record { to = s; first = first; is = rw (append-nil text) }
  coded {ms = ms} (control {bs = bs} {cs = cs} k d) q v text first i =
      on _ _ _ (control_moves g depth R base origin z k i (written text ms first) cs) (coded d q (still k v) text first (i + length bs))
  coded (write {s = s} {bs = bs} {cs = cs} w d) (with_mark {ms = ms} c m q) v text first i =
      on _ _ _ (character_moves g depth R base origin z c w v i (written text ms first) cs ∙
      ap (λ (o : Output). steps g depth R base origin cs (i + length bs) 0 (read z s o)) (puts_mark c (offset origin i) text ms first m))
      (coded d q v text (first_at ms first (offset origin i)) (i + length bs))
  coded (write {s = s} {bs = bs} {cs = cs} w d) (with_base {ms = ms} {ts = ts} c m n q) v text first i =
      let p = puts_base c (offset origin i) text ms first m n in
      on _ _ _ (character_moves g depth R base origin z c w v i (written text ms first) cs ∙ ap (λ (o : Output). steps g depth R base origin cs (i + length bs) 0 (read z s o)) p.is)
      (subst (Ends _) (append_assoc text (c ∷ ms) ts) (coded d q v (text ++ (c ∷ ms)) p.then (i + length bs)))

-- ---- The statements

-- the coder's start is reading's
started : (initial : ℕ) → read (reading.start initial) (start initial) (written [] [] 0) ≡ reading.start initial
unfolding reading.start start
started initial = refl

invokes : (initial : ℕ) → Invokes (start initial)
unfolding start
invokes initial = record { left = omega arith; right = omega arith }

-- the release at the end releases nothing
released : (c : coding.Lent) (t : reading.State) (to : State) (first : ℕ) → t ≡ read (reading.start c.initial) to (written (scalars c.text) [] first) →
    ReadAs c (reading.writes release t)
unfolding reading.writes release reading.start
released c t to first e = rw e (record { text = refl; marks = refl; issues = refl; charged = refl })

pub read_back : ReadBack
unfolding decode coding.choices
read_back c bs b d =
    let g : reading.Given = record { cells = c.cells; annex_e = eqb c.width 1; input = bs } in
    let e = coded g 4 (run g 3) 0 0 (reading.start c.initial) d (text_coded c.cells (eqb c.width 1) c.text b) (invokes c.initial) [] 0 0 in
    released c _ e.to e.first (ap (steps g 4 (run g 3) 0 0 bs 0 0) (sym (started c.initial)) ∙ e.is)

-- ---- The call

-- what the decoding call gives of any admissible coding: the number of its refusal, and by it the outcome
number : coding.Lent → ℕ → ℕ
number c text_room =
    cond (cells_hold c.cells) (cond (options_hold c.initial c.width) (cond (leb (length (utf8s (scalars c.text))) text_room) 0 8) 2) 1

given_as : coding.Lent → ℕ → ℕ → ℕ → call.Outcome
given_as c text_room issue_room zero =
    record {
      refused = 0;
      text = length (utf8s (scalars c.text));
      issues = 0;
      charged = 0;
      private_use = private_use (scalars c.text);
      text_buffer = padded text_room (utf8s (scalars c.text));
      issue_buffer = padded issue_room [];
    }
given_as c text_room issue_room (suc q) =
    record { refused = suc q; text = 0; issues = 0; charged = 0; private_use = 0; text_buffer = padded text_room []; issue_buffer = padded issue_room [] }

module _ (c : coding.Lent) (bs : List ℕ) (text_room issue_room : ℕ) (b : Based c) (d : Codes c bs) (h : length bs ≤ 65535) where
  as_read : ReadAs c (call.reading (decoding c bs text_room issue_room))
  unfolding call.reading
  as_read = read_back c bs b d

  fits_as : call.fits (decoding c bs text_room issue_room) ≡ cond (leb (length (utf8s (scalars c.text))) text_room) 0 8
  unfolding call.fits issues_numbers
  fits_as = rw (as_read.text, as_read.issues, leb-zero issue_room)

  refusal_as : call.refusal (decoding c bs text_room issue_room) ≡ number c text_room
  unfolding call.refusal number
  refusal_as = rw (le-leb (length bs) 65535 h) (asked (cells_hold c.cells) (options_hold c.initial c.width) fits_as)
    where
      asked : (x y : Bool) {f n : ℕ} → f ≡ n → ◌≡◌ {A = ℕ} (elim (cond x (cond {A = ℕ} y 0 2) 1) [ zero ↦ f | suc q ↦ suc q ]) (cond x (cond y n 2) 1)
      asked true true e = e
      asked true false e = refl
      asked false y e = refl

  outcome_as : (q : ℕ) → call.outcome_of q (decoding c bs text_room issue_room) ≡ given_as c text_room issue_room q
  unfolding call.outcome_of given_as issues_numbers
  outcome_as zero = rw (as_read.text, as_read.issues, as_read.charged)
  outcome_as (suc q) = refl

  -- whatever the coding
  one : call.outcome (decoding c bs text_room issue_room) ≡ given_as c text_room issue_room (number c text_room)
  unfolding call.outcome
  one = rw refusal_as (outcome_as (number c text_room))

pub call_read_back : CallReadBack
unfolding number given_as
call_read_back c bs text_room issue_room a d h room =
    let t : utf8s (scalars c.text) ≡ c.text = utf8s_scalars c.text a.well_formed in
    one c bs text_room issue_room a.based d h
    ∙ rw (t, a.cells, le-leb c.initial 1 a.initial, le-leb c.width 1 a.width, le-leb (length c.text) text_room room) (rw t)

pub one_outcome : OneOutcome
one_outcome c ds bs text_room issue_room b d e h k = one c ds text_room issue_room b d h ∙ sym (one c bs text_room issue_room b e k)
