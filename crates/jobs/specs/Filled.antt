-- The text that the logs and the words of a board give.
use Rattle.std.specs.Prelude.{ℕ, List, take}
use Rattle.lists.specs.Lists.{total_moves}
use Rattle.answertext.specs.Answers.{answer_text}

-- the answer that the logs and the words lane of a board give, with so many records
abbrev pub printed_of : ℕ → ℕ → List ℕ → List ℕ → List ℕ → List ℕ
printed_of s marked codes moved words = answer_text (take (total_moves s) codes) (take (total_moves s) moved) (take marked words)
