-- `plainwords::tables::Lines::shift_each` meets its contract: block after block.
use Rattle.plainwords.proofs.Shifting.{blocks_next}
use Rattle.plainwords.proofs.tables.Lines.shift_each.Goals as goal

pub loop-block-preserved : goal.loop-block-preserved
loop-block-preserved c = blocks_next c.loop-block.invariant c.shift_lines.ensures
