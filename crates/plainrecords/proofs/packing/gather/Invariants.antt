-- `plainrecords::packing::gather` meets its contract: cell after cell, each word at the rank of its cell.
use Rattle.plainrecords.proofs.Gathering.{Gathering}
use Rattle.plainrecords.proofs.packing.gather.Given as goal

abbrev pub invariant-loop-i : goal.invariant-loop-i
invariant-loop-i l = Gathering l.marks l.initial.words l.words l.rank l.i
