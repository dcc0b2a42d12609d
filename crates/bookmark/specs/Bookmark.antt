-- The two calls of a bookmark: request 9 of docs/REQUESTS.md, whose words are quoted.
use Rattle.std.specs.Prelude.{ℕ, zero, suc, ◌+◌, ◌*◌, Bool, cond, ◌&&◌, List, [], ◌++◌, map, eqb, leb, length, take, drop, get_or}
use Rattle.private_use.specs.PrivateUse.{private_use}
use Rattle.utf8.specs.Utf8.{utf8s}
use Rattle.questions.specs.Buffer.{padded}
use Rattle.issues.specs.Issue.{issues_numbers}
use Rattle.decode_output.specs.Output.{Output}
use Rattle.reading.specs.State.{Given, State, given, writes}
use Rattle.reading.specs.Between.{Between, before, rest}
use Rattle.reading.specs.Call.{Outcome}
use Rattle.reading.specs.WithoutBuffers as unbuffered
use Rattle.laws_behind.specs.Behind.{later}
use Rattle.bookmark_form.specs.Numbers.{size, numbers, place_of, text_length, state_of}
use Rattle.bookmark_form.specs.Form.{is_store, named, resumable}

-- what a reading is given
abbrev pub given_of : unbuffered.Lent → Given
given_of c = given c.cells c.width c.input

-- "a name above 15, .. or a store of another length or with a bookmark's first number above 1, is 15"
unfoldable pub name_holds : List ℕ → ℕ → Bool
unfolding is_store
name_holds store name = leb name 15 && is_store store

-- ---- "Let them name a place with 0 to 15"

-- what the caller lends: cell table, options and input; the place, its name, and the store
pub record Setting : Type 0 where
  pub lent : unbuffered.Lent
  pub place : ℕ
  pub name : ℕ
  pub store : List ℕ

-- the reading up to the place
abbrev pub reached : Setting → Between
reached c = before (given_of c.lent) c.lent.initial c.place

-- "then a place where no outermost step begins, the input's end excepted, or where more than sixteen marks wait, is 16"
unfoldable pub place_holds : Between → ℕ → Bool
place_holds b place = eqb b.at place && leb (length b.state.out.marks) 16

abbrev pub place_refusal : Setting → ℕ
place_refusal c = cond (place_holds (reached c) c.place) 0 16

-- "After questions 1 to 3 .."
unfoldable pub set_refusal_of : ℕ → Setting → ℕ
unfolding name_holds place_holds
set_refusal_of zero c = cond (name_holds c.store c.name) (place_refusal c) 15
set_refusal_of (suc q) c = suc q

unfoldable pub set_refusal : Setting → ℕ
unfolding set_refusal_of unbuffered.refusal
set_refusal c = set_refusal_of (unbuffered.refusal c.lent) c

-- the store where a name's numbers are these
abbrev pub replaced : List ℕ → ℕ → List ℕ → List ℕ
replaced store name l = take (name * size) store ++ (l ++ drop (name * size + size) store)

-- What the call gives: the number of the refusal (0: none), and the store. "Setting a name again replaces it; a refused call changes none."
pub record WasSet : Type 0 where
  pub refused : ℕ
  pub store : List ℕ

unfoldable pub set_by : ℕ → Setting → WasSet
unfolding numbers
set_by zero c = record { refused = 0; store = replaced c.store c.name (numbers c.place (reached c).state) }
set_by (suc q) c = record { refused = suc q; store = c.store }

unfoldable pub was_set : Setting → WasSet
unfolding set_by set_refusal
was_set c = set_by (set_refusal c) c

-- ---- ".. and return to it"

-- what the caller lends: cell table, options and input; the name and the store; and how many bytes and numbers the two buffers hold
pub record Returning : Type 0 where
  pub lent : unbuffered.Lent
  pub name : ℕ
  pub store : List ℕ
  pub text_room : ℕ
  pub issue_room : ℕ

-- "issue places included": positions are those in the text of the whole reading, of which n bytes stand before
unfoldable pub positioned : ℕ → Output → Output
unfolding later
positioned n o = record { text = o.text; marks = o.marks; marks_at = o.marks_at; repeat = o.repeat; issues = map (later n) o.issues }

-- "Going on from one": the rest of the reading, from the state that the numbers l say
unfoldable pub resumed : Given → List ℕ → State
unfolding writes positioned rest state_of
resumed g l = writes (positioned (text_length l)) (rest g (place_of l) (state_of l))

-- the numbers of the name, and its rest
abbrev pub bookmark : Returning → List ℕ
bookmark c = named c.store c.name

abbrev pub rest_of : Returning → State
rest_of c = resumed (given_of c.lent) (bookmark c)

-- 15 also "unset when returning"; and where the numbers are none that a reading of the input can have, which are not those of a setting
unfoldable pub may_return : Returning → Bool
unfolding name_holds resumable
may_return c = name_holds c.store c.name && (eqb (get_or (bookmark c) 0 0) 1 && resumable c.lent.input (bookmark c))

-- then 8 and 9, as a decoding has them
unfoldable pub fits : Returning → ℕ
unfolding resumed utf8s issues_numbers
fits c = cond (leb (length (utf8s (rest_of c).out.text)) c.text_room) (cond (leb (length (issues_numbers (rest_of c).out.issues)) c.issue_room) 0 9) 8

unfoldable pub return_refusal_of : ℕ → Returning → ℕ
unfolding may_return fits
return_refusal_of zero c = cond (may_return c) (fits c) 15
return_refusal_of (suc q) c = suc q

unfoldable pub return_refusal : Returning → ℕ
unfolding return_refusal_of unbuffered.refusal
return_refusal c = return_refusal_of (unbuffered.refusal c.lent) c

-- What the call gives, as a decoding: "counts are the rest's, the charge the whole reading's".
unfoldable pub returned_by : ℕ → Returning → Outcome
unfolding resumed utf8s issues_numbers private_use padded
returned_by zero c =
    record {
      refused = 0;
      text = length (utf8s (rest_of c).out.text);
      issues = length (rest_of c).out.issues;
      charged = (rest_of c).charged;
      private_use = private_use (rest_of c).out.text;
      text_buffer = padded c.text_room (utf8s (rest_of c).out.text);
      issue_buffer = padded c.issue_room (issues_numbers (rest_of c).out.issues);
    }
returned_by (suc q) c =
    record {
      refused = suc q;
      text = 0;
      issues = 0;
      charged = 0;
      private_use = 0;
      text_buffer = padded c.text_room [];
      issue_buffer = padded c.issue_room [];
    }

unfoldable pub returned : Returning → Outcome
unfolding returned_by return_refusal
returned c = returned_by (return_refusal c) c
