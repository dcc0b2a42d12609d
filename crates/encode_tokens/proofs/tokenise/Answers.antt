-- `encode_tokens::tokenise` meets its contract, question by question. Assumes nothing.
use mathlib.Core.Path.{sym, ◌∙◌}
use Rattle.encode_tokens.proofs.Answers.{refused4, refused5, answer6}
use Rattle.encode_tokens.proofs.tokenise.Goals as goal

pub returns-in-Some : goal.returns-in-Some
returns-in-Some c = refused4 _ _ _ _ _ (sym c.first_fault.ensures ∙ c.in-Some.is)

pub returns-in-Some-baseless : goal.returns-in-Some-baseless
returns-in-Some-baseless c = refused5 _ _ _ _ _ (sym c.first_fault.ensures ∙ c.in_default.is) (sym c.baseless.ensures ∙ c.in-Some-baseless.is)

pub returns : goal.returns
returns c = answer6 _ _ _ _ _ (sym c.first_fault.ensures ∙ c.in_default.is) (sym c.baseless.ensures ∙ c.in_default-baseless.is) c.in_order.ensures
