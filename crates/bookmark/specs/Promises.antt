-- What the functions of the two calls promise.
use Rattle.std.specs.Prelude.{ℕ, ◌≡◌, List, length, Result}
use Rattle.reading.specs.WithoutBuffers as unbuffered
use Rattle.questions.specs.declared.refusal.Refusal.{Refusal}
use Rattle.questions.specs.Refusal.{refused, refused_at}
use Rattle.decode.specs.Answers.{Answer, Decoded, number_of, place_of, text_of, issues_of, charged_of, private_use_of}
use Rattle.bookmark.specs.Bookmark.{Setting, was_set, Returning, returned}

-- what a setting is lent, and a return
abbrev pub setting : unbuffered.Lent → ℕ → ℕ → List ℕ → Setting
setting c place name store = record { lent = c; place = place; name = name; store = store }

abbrev pub returning : unbuffered.Lent → ℕ → List ℕ → List ℕ → List ℕ → Returning
returning c name store text issues = record { lent = c; name = name; store = store; text_room = length text; issue_room = length issues }

-- the number of the refusal, its place, and every number of the store
pub record Sets (c : Setting) (r : Result (Unit {0}) Refusal) (store : List ℕ) : Type 0 where
  pub number : refused r ≡ (was_set c).refused
  pub place : refused_at r ≡ 0
  pub stored : store ≡ (was_set c).store

-- every number of the answer, which is `Ok` where none is refused, and every element of both buffers
pub record Returns (c : Returning) (r : Answer) (text issues : List ℕ) : Type 0 where
  pub number : number_of r ≡ (returned c).refused
  pub case : number_of r ≡ 0 → r ≡ Decoded r
  pub place : place_of r ≡ 0
  pub counted : text_of r ≡ (returned c).text
  pub reported : issues_of r ≡ (returned c).issues
  pub charged : charged_of r ≡ (returned c).charged
  pub private_use : private_use_of r ≡ (returned c).private_use
  pub written : text ≡ (returned c).text_buffer
  pub listed : issues ≡ (returned c).issue_buffer
