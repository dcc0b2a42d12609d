-- What the functions that put an entry into a place, or take one away, promise.
use Rattle.std.specs.Prelude.{ℕ, ◌+◌, ◌≡◌, true, List, ◌∷◌, ◌++◌, length, take, drop}
use Rattle.catalogue_form.specs.Form.{Entry, entries, formed}

-- a store of the form, with n entries
pub record Holds (store : List ℕ) (n : ℕ) : Type 0 where
  pub form : formed store ≡ true
  pub count : n ≡ length (entries store)

-- the entries with one more, behind so many of them
abbrev pub put_at : ℕ → Entry → List Entry → List Entry
put_at at e es = take at es ++ (e ∷ drop at es)

-- the entries without the one behind so many of them
abbrev pub taken_at : ℕ → List Entry → List Entry
taken_at at es = take at es ++ drop (at + 1) es
