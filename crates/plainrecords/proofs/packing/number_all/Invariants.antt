-- `plainrecords::packing::number_all` meets its contract: cell after cell.
use Rattle.std.proofs.Common.{◌≡◌, ℕ, ◌<◌, get_or}
use Rattle.plainrecords.proofs.packing.number_all.Given as goal

abbrev pub invariant-loop-i : goal.invariant-loop-i
invariant-loop-i l = (k : ℕ) → k < l.i → get_or l.aims k 0 ≡ k
