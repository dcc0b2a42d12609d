-- What the functions that ask for the form promise.
use Rattle.std.specs.Prelude.{ℕ, zero, suc, ◌+◌, ◌≡◌, Bool, true, ◌&&◌, List, leb, get_or, take, drop}
use Rattle.questions.specs.Questions.{all, zero?}
use Rattle.catalogue_form.specs.Form.{Entry, is_catalogue, bytes, value}

-- behind the key a place is zero
abbrev pub zero_behind : List ℕ → Bool
zero_behind l = all zero? (drop (5 + get_or l 4 0) (take 260 l))

-- so in each of k places, whose numbers rise from one that is at least m
unfoldable pub places_hold : ℕ → ℕ → List ℕ → Bool
places_hold m zero l = true
places_hold m (suc k) l = leb m (value l) && (zero_behind l && places_hold (suc (value l)) k (drop 260 l))

-- the store holds a catalogue
pub record Held (es : List Entry) (store : List ℕ) : Type 0 where
  pub catalogue : is_catalogue es ≡ true
  pub stored : store ≡ bytes es
