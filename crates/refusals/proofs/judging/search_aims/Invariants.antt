-- `refusals::judging::search_aims` meets its contract: cell after cell, with the rank and the aim before it carried along (Judged).
use lib.ListN.{length}
use Rattle.refusals.proofs.Judged.{Counted, Judging}
use Rattle.refusals.proofs.judging.search_aims.Given as goal

abbrev pub invariant-loop-cell : goal.invariant-loop-cell
invariant-loop-cell l = record {
  can : (goal.iterator-loop-cell).can_next l.cell-iterator;
  finite : (goal.iterator-loop-cell).is_finite l.cell-iterator;
  counted : Counted l.frame.marks.now l.frame.aims.now l.cell-iterator (length l.yielded);
  judging : Judging l.trip l.frame.side l.frame.marks.now l.frame.aims.now l.rank l.previous (length l.yielded);
}
