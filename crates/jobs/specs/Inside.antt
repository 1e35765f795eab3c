-- What the program's inner functions ask and leave.
use Rattle.std.specs.Prelude.{ℕ, ◌≤◌, ◌<◌, ◌≡◌, true, List, [], length, get_or, take}
use Rattle.laws.specs.Tables.{entries}
use Rattle.array.specs.Cells.{is_side, cells}
use Rattle.array.specs.declared.lent.LentSlots.{LentSlots}
use Rattle.runs.specs.Runs.{codes as codes_of}
use Rattle.lists.specs.declared.Trip.TheVariants.{Concentrate}
use Rattle.lists.specs.Lists.{total_moves, concentrate_runs}
use Rattle.slots.specs.Cells.{Sized}
use Rattle.records.specs.Records.{marked_cell, count_in, moved_counts}
use Rattle.answertext.specs.Answers.{answer_text}

-- six lanes of a board, with marks that are marks
pub record JobBoard (s : ℕ) (front spare : LentSlots) : Type 0 where
  pub side : is_side s ≡ true
  pub sized : Sized (cells s) front.words.now front.marks.now front.aims.now spare.words.now spare.marks.now spare.aims.now
  pub marked : (k : ℕ) → k < length front.marks.now → get_or front.marks.now k 0 < 2

-- lanes that were ranked and concentrated: the logs of concentrate, and the word of the marked cell of rank r in cell r
pub record Settled (s : ℕ) (w m w' codes' moved' : List ℕ) : Type 0 where
  pub coded : take (total_moves s) codes' ≡ codes_of (concentrate_runs s)
  pub counted : take (total_moves s) moved' ≡ moved_counts Concentrate s (total_moves s) m []
  pub worded : (r : ℕ) → r < count_in s m → r < cells s → get_or w' r 0 ≡ get_or w (marked_cell m (cells s) r) 0

-- a board's words and marks, with so many marked cells
pub record JobLanes (s marked : ℕ) (w m : List ℕ) : Type 0 where
  pub side : is_side s ≡ true
  pub words_long : length w ≡ cells s
  pub marks_long : length m ≡ cells s
  pub good : (k : ℕ) → k < length m → get_or m k 0 < 2
  pub all : marked ≡ count_in s m
  pub few : marked ≤ cells s

-- the answer to them: concentrate's moves and moved counts, and the words in the order of the ranks
unfoldable pub lanes_text : ℕ → ℕ → List ℕ → List ℕ → List ℕ
lanes_text s marked w m =
    answer_text (codes_of (concentrate_runs s)) (moved_counts Concentrate s (total_moves s) m []) (entries (λ r. get_or w (marked_cell m (cells s) r) 0) 0 marked)
