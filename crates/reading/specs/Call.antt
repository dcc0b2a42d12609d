-- The decoding call: the questions in order, and what it leaves in every byte of its buffers. 01, "The questions, put in this order".
use Rattle.std.specs.Prelude.{ℕ, zero, suc, cond, List, [], leb}
use lib.ListN.{length}
use Rattle.private_use.specs.PrivateUse.{private_use}
use Rattle.utf8.specs.Utf8.{utf8s}
use Rattle.questions.specs.Questions.{first_refusal, decode_limit}
use Rattle.questions.specs.Buffer.{padded}
use Rattle.issues.specs.Issue.{issues_numbers}
use Rattle.reading.specs.State.{State, given}
use Rattle.reading.specs.Steps.{decode}

-- what the caller lends: the cell table, the two options, the input, and how many bytes and numbers the two buffers hold
pub record Lent : Type 0 where
  pub cells : List ℕ
  pub initial : ℕ
  pub width : ℕ
  pub input : List ℕ
  pub text_room : ℕ
  pub issue_room : ℕ

-- the reading of the input
unfoldable pub reading : Lent → State
unfolding decode
reading c = decode (given c.cells c.width c.input) c.initial

-- the text's bytes, and the issues' numbers
unfoldable pub text_bytes : Lent → List ℕ
unfolding reading utf8s
text_bytes c = utf8s (reading c).out.text

unfoldable pub issue_list : Lent → List ℕ
unfolding reading issues_numbers
issue_list c = issues_numbers (reading c).out.issues

-- "Does the whole text fit its buffer? If no, 8. Do the issues fit? If no, 9"
unfoldable pub fits : Lent → ℕ
unfolding text_bytes issue_list
fits c = cond (leb (length (text_bytes c)) c.text_room) (cond (leb (length (issue_list c)) c.issue_room) 0 9) 8

-- the number of the first question that fails, of 1, 2, 3, 8 and 9; 0 where none does
unfoldable pub refusal : Lent → ℕ
unfolding first_refusal fits
refusal c = first (first_refusal c.cells c.initial c.width decode_limit (length c.input))
  where
    first : ℕ → ℕ
    first zero = fits c
    first (suc q) = suc q

-- What the call gives: the number of the refusal (0: none), the lengths of the text and of the issues, the charge, "the private-use characters in its
-- text, each repeat counted" (request 6 of docs/REQUESTS.md), and the buffers.
pub record Outcome : Type 0 where
  pub refused : ℕ
  pub text : ℕ
  pub issues : ℕ
  pub charged : ℕ
  pub private_use : ℕ
  pub text_buffer : List ℕ
  pub issue_buffer : List ℕ

-- "Acceptance gives the lengths, the charge ..; output past the result is zero." "A refusal gives the number .. with all counts 0 and each output
-- buffer zero-filled"
unfoldable pub outcome_of : ℕ → Lent → Outcome
unfolding reading text_bytes issue_list private_use padded
outcome_of zero c =
    record {
      refused = 0;
      text = length (text_bytes c);
      issues = length (reading c).out.issues;
      charged = (reading c).charged;
      private_use = private_use (reading c).out.text;
      text_buffer = padded c.text_room (text_bytes c);
      issue_buffer = padded c.issue_room (issue_list c);
    }
outcome_of (suc q) c =
    record {
      refused = suc q;
      text = 0;
      issues = 0;
      charged = 0;
      private_use = 0;
      text_buffer = padded c.text_room [];
      issue_buffer = padded c.issue_room [];
    }

unfoldable pub outcome : Lent → Outcome
unfolding outcome_of refusal
outcome c = outcome_of (refusal c) c

-- "handed back as that part of the input on request; a start and length that leave the input get the empty part at its beginning"
unfoldable pub escape_part : List ℕ → ℕ → ℕ → List ℕ
escape_part input start len =
    cond (leb start (length input)) (cond (leb len (lib.ListN.length (lib.ListN.drop start input))) (lib.ListN.take len (lib.ListN.drop start input)) []) []
