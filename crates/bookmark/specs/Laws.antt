-- The laws of bookmarks, as statements: request 9 of docs/REQUESTS.md. proofs/Laws.antt proves each under its name.
use Rattle.std.specs.Prelude.{ℕ, suc, ◌≤◌, ◌<◌, ◌≡◌, true, List, [], ◌++◌, length}
use Rattle.decode_output.specs.Output.{Output}
use Rattle.reading.specs.State.{Given, writes}
use Rattle.reading.specs.Between.{before}
use Rattle.reading.specs.WithoutBuffers as unbuffered
use Rattle.bookmark_form.specs.Numbers.{numbers}
use Rattle.bookmark_form.specs.Form.{named}
use Rattle.bookmark.specs.Bookmark.{name_holds, Setting, reached, set_refusal, was_set, Returning, bookmark, rest_of, may_return, returned}

-- what was written, without the text and the issues
unfoldable pub without_text : Output → Output
without_text o = record { text = []; marks = o.marks; marks_at = o.marks_at; repeat = o.repeat; issues = [] }

-- A state of a reading between outermost steps, with at most sixteen marks, is determined by its numbers, the text and issues before it aside.
abbrev pub StateDetermined : Type 0
StateDetermined = (g g' : Given) (initial initial' place place' : ℕ) → let s = (before g initial place).state in let s' = (before g' initial' place').state in
    length s.out.marks ≤ 16 → length s'.out.marks ≤ 16 → numbers place s ≡ numbers place' s' → (place ≡ place') × (writes without_text s ≡ writes without_text s')

-- a return to a name that was set, over the same input, options and cell table
abbrev pub back : Setting → ℕ → ℕ → Returning
back c text_room issue_room = record { lent = c.lent; name = c.name; store = (was_set c).store; text_room = text_room; issue_room = issue_room }

-- "Going on from one over the same input yields the rest of the text and issues that a reading from the start yields, issue places included; .. the charge
-- the whole reading's": it is not answered 15, whatever the buffers
pub record Continues (c : Setting) (text_room issue_room : ℕ) : Type 0 where
  pub may : may_return (back c text_room issue_room) ≡ true
  pub text : (unbuffered.reading c.lent).out.text ≡ (reached c).state.out.text ++ (rest_of (back c text_room issue_room)).out.text
  pub issues : (unbuffered.reading c.lent).out.issues ≡ (reached c).state.out.issues ++ (rest_of (back c text_room issue_room)).out.issues
  pub charged : (unbuffered.reading c.lent).charged ≡ (rest_of (back c text_room issue_room)).charged

abbrev pub PartAndRest : Type 0
PartAndRest = (c : Setting) (text_room issue_room : ℕ) → set_refusal c ≡ 0 → Continues c text_room issue_room

-- the same setting in another store
abbrev pub in_store : Setting → List ℕ → Setting
in_store c store = record { lent = c.lent; place = c.place; name = c.name; store = store }

-- "Setting a name again replaces it"
abbrev pub SetAgain : Type 0
SetAgain = (c d : Setting) → set_refusal c ≡ 0 → c.name ≡ d.name → d.store ≡ c.store → set_refusal d ≡ 0
    → (was_set (in_store d (was_set c).store)).store ≡ (was_set d).store

-- no other name's numbers change
abbrev pub OthersKept : Type 0
OthersKept = (c : Setting) (k : ℕ) → set_refusal c ≡ 0 → k < 16 → (k ≡ c.name → ⊥) → named (was_set c).store k ≡ named c.store k

-- "a refused call changes none"
abbrev pub RefusedKeeps : Type 0
RefusedKeeps = (c : Setting) (q : ℕ) → set_refusal c ≡ suc q → (was_set c).store ≡ c.store

-- A return depends on its own name's numbers alone, so that returning twice gives the same, whatever other names are set between.
abbrev pub ReturnsAlike : Type 0
ReturnsAlike = (c d : Returning) → c.lent ≡ d.lent → c.text_room ≡ d.text_room → c.issue_room ≡ d.issue_room
    → name_holds c.store c.name ≡ name_holds d.store d.name → bookmark c ≡ bookmark d → returned c ≡ returned d
