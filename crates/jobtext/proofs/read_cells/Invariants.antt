-- `jobtext::read_cells`: line after line, each a marked cell.
use Rattle.std.specs.Slice.Iter.{split_inclusive_rest}
use Rattle.jobtext.proofs.Cells.{Cells}
use Rattle.jobtext.proofs.read_cells.Given as goal

abbrev pub invariant-loop-piece : goal.invariant-loop-piece
invariant-loop-piece l =
    (goal.iterator-loop-piece).can_next l.piece-iterator
    × (goal.iterator-loop-piece).is_finite l.piece-iterator
    × Cells l.text l.side l.initial.words l.initial.marks l.words l.marks (split_inclusive_rest l.piece-iterator) l.next l.marked
