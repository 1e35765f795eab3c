-- Texts in a lent buffer.
use Rattle.std.specs.Prelude.{ℕ, ◌+◌, min, max, ◌≡◌, List, ◌++◌, length, drop}
use Rattle.std.proofs.lemmas.List.Edits.{sets}

-- a text stands in a buffer from index at up to, not including, index r, as far as the buffer goes; all else is as it was
pub record Written (before : List ℕ) (at : ℕ) (text : List ℕ) (r : ℕ) (after : List ℕ) : Type 0 where
  pub end : r ≡ max at (min (at + length text) (length before))
  pub is : after ≡ sets before at text

-- a whole text of r bytes stands at the start of a buffer, and the rest of the buffer is as it was
pub record OutFilled (before text : List ℕ) (r : ℕ) (after : List ℕ) : Type 0 where
  pub count : r ≡ length text
  pub is : after ≡ text ++ drop (length text) before
