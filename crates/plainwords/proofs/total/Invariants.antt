use Rattle.std.proofs.Common.{◌≡◌, ◌%◌, ◌^◌}
use Rattle.laws.specs.Sums.{sum_of}
use Rattle.plainwords.proofs.total.Given as goal

abbrev pub invariant-loop-word : goal.invariant-loop-word
invariant-loop-word l = l.sum ≡ sum_of l.word-index l.words % 2 ^ 32
