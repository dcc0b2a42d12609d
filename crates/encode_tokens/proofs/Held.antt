-- An element of the array that holds characters is its character with its cells. Assumes nothing.
use mathlib.Core.Path.{◌≡◌, sym, ap, ◌∙◌}
use mathlib.Core.List.{List}
use Prim.Native.Nat.{ℕ, ◌<◌}
use lib.ListN.{length, get_or}
use Rattle.std.proofs.lemmas.List.{get_or-take, get_or-map}
use Rattle.encode_tokens.specs.Promises.{character, HoldCharacters}
use Rattle.encode_tokens.specs.declared.Character.{Character}

pub held : {cells cs : List ℕ} {xs : List Character} → HoldCharacters cells cs xs → (i : ℕ) (d : Character) → i < length cs → get_or xs i d ≡ character cells (get_or cs i 0)
held {cells} {cs} {xs} h i d l =
    sym (get_or-take (length cs) xs i d l) ∙ (ap (λ (ys : List Character). get_or ys i d) h.characters ∙ get_or-map (character cells) cs i 0 d l)
