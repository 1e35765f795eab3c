-- `answers::moves_of` meets its contract: the runs are counted one after the other.
use Rattle.std.proofs.Common.{◌^◌}
use Rattle.runs.specs.Runs.{electronic as electronic_of, swaps as swaps_of}
use Rattle.answers.proofs.Counting.{Counting}
use Rattle.answers.proofs.moves_of.Given as goal

abbrev pub invariant-loop-run : goal.invariant-loop-run
invariant-loop-run l = record {
  electronic : Counting electronic_of (2 ^ 64) l.run-items l.run-index l.electronic;
  swaps : Counting swaps_of (2 ^ 64) l.run-items l.run-index l.swaps;
}
