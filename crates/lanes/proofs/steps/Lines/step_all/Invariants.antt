use Rattle.array.specs.Cells.{groups}
use Rattle.laws.proofs.Blocks.{Changed}
use Rattle.lanes.specs.Inside.{stepped}
use Rattle.lanes.proofs.steps.Lines.step_all.Given as goal

abbrev pub invariant-loop-g : goal.invariant-loop-g
invariant-loop-g l = Changed (stepped l.self.side l.self.way l.rule) (groups l.self.side) l.initial.words l.g l.words
