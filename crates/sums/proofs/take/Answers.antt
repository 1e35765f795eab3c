-- `sums::take` meets its contract: each cell made the step of the closure.
use Rattle.std.proofs.Common.{rules}
use Rattle.sums.proofs.Stepping.{stepped}
use Rattle.sums.proofs.take.Goals as goal

pub returns : goal.returns
returns c = stepped (λ own x. x) _ _ _ c.combine.auto.to c.combine.ensures.other (λ e i h. let made = c.combine.ensures.each e i h in search rules)
