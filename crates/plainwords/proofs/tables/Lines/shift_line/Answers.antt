-- `plainwords::tables::Lines::shift_line` meets its contract: what was taken is laid.
use Rattle.plainwords.proofs.Shifting.{line-shifted}
use Rattle.plainwords.proofs.tables.Lines.shift_line.Goals as goal

pub returns : goal.returns
returns c = line-shifted c.args.self.from.now c.take_line.ensures c.lay_line.ensures
