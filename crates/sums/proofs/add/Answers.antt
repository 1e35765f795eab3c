-- `sums::add` meets its contract: each cell made the step of the closure.
use Rattle.std.proofs.Common.{rules}
use Rattle.sums.specs.Sums.{plus}
use Rattle.sums.proofs.Stepping.{stepped}
use Rattle.sums.proofs.add.Goals as goal

pub returns : goal.returns
returns c = stepped plus _ _ _ c.combine.auto.to c.combine.ensures.other (λ e i h. let made = c.combine.ensures.each e i h in search rules)
