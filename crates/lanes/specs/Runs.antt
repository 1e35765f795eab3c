-- What a run makes of a lane of words.
use Rattle.std.specs.Prelude.{ℕ, suc, Bool, cond, ◌&&◌, List, length, leb}
use Rattle.std.proofs.Math.Option.{Option}
use Rattle.array.specs.declared.moves.Way.{Way}
use Rattle.runs.specs.Runs.{along}
use Rattle.array.specs.Cells.{is_board}
use Rattle.lanes.specs.declared.Joining.{Joining}
use Rattle.lanes.specs.declared.Joining.TheVariants.{Add, Copy, Fill}
use Rattle.lanes.specs.Machine.{Stage, all, load, unload}
use Rattle.sums.specs.Sums.{plus}
use Rattle.lanes.specs.Stages.{position, steps_on, front, word, copy, filled}

-- what a cell at position p has after a move in which it is the turn of position q
abbrev pub rule_of : Joining → ℕ → ℕ → ℕ → Option ℕ → ℕ
rule_of Add = front plus
rule_of Copy = front copy
rule_of Fill = λ q p own got. filled got

-- n moves one way: from position e on with a front, or of all positions
abbrev pub running : Way → Joining → ℕ → ℕ → Stage ℕ ℕ
running w j e n = record { run = along w n; send = word; rule = λ k c d a b. rule_of j (steps_on w e (suc k)) (position w a b) }

-- a run is one on a board where it starts at a position from 0 to s and makes s moves at most
abbrev pub is_run : ℕ → ℕ → ℕ → Bool
is_run s e n = leb e s && leb n s

-- a lane after a run; what is no lane of a board stays, and so does a lane where the run is none on its board
abbrev pub ran_words : ℕ → Way → Joining → ℕ → ℕ → List ℕ → List ℕ
ran_words s w j e n l = cond (is_board s (length l) && is_run s e n) (unload s (all s (running w j e n) (load s l))) l
