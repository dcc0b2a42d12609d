-- The number of a refusal, by "The questions, put in this order" (01) and the requests after it, and its place: "place 0 but
-- for 4, 5 and 6".
use Rattle.std.specs.Prelude.{ℕ, Result, Ok, Err}
use Rattle.questions.specs.declared.refusal.Refusal.{Refusal}
use Rattle.questions.specs.declared.refusal.Refusal.TheVariants as refusals

abbrev pub number_of : Refusal → ℕ
number_of refusals.CellTable = 1
number_of refusals.Options = 2
number_of refusals.TooLong = 3
number_of (refusals.IllFormed place) = 4
number_of (refusals.NoBase place) = 5
number_of (refusals.Unencodable place) = 6
number_of refusals.StoreTooSmall = 7
number_of refusals.BufferTooSmall = 8
number_of refusals.IssuesTooMany = 9
number_of refusals.HasIssues = 10
number_of refusals.PrivateUse = 11
number_of refusals.CatalogueMismatch = 12
number_of refusals.KeyTooLong = 13
number_of refusals.CatalogueFull = 14
number_of refusals.BookmarkMismatch = 15
number_of refusals.BookmarkPlace = 16

abbrev pub place_of : Refusal → ℕ
place_of (refusals.IllFormed place) = place
place_of (refusals.NoBase place) = place
place_of (refusals.Unencodable place) = place
place_of refusals.CellTable = 0
place_of refusals.Options = 0
place_of refusals.TooLong = 0
place_of refusals.StoreTooSmall = 0
place_of refusals.BufferTooSmall = 0
place_of refusals.IssuesTooMany = 0
place_of refusals.HasIssues = 0
place_of refusals.PrivateUse = 0
place_of refusals.CatalogueMismatch = 0
place_of refusals.KeyTooLong = 0
place_of refusals.CatalogueFull = 0
place_of refusals.BookmarkMismatch = 0
place_of refusals.BookmarkPlace = 0

-- the number of the refusal that a call ends with, 0 where it is not refused
abbrev pub refused : {A : Type 0} → Result A Refusal → ℕ
refused (Ok x) = 0
refused (Err e) = number_of e

-- its place
abbrev pub refused_at : {A : Type 0} → Result A Refusal → ℕ
refused_at (Ok x) = 0
refused_at (Err e) = place_of e
