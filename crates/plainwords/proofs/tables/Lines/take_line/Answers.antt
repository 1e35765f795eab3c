-- `plainwords::tables::Lines::take_line` meets its contract: word after word, and what lies behind them is as it was.
use Rattle.std.proofs.Common.{arith}
use lib.Seq.{length-take-le}
use Rattle.plainwords.proofs.Shifting.{line_taken}
use Rattle.plainwords.proofs.tables.Lines.take_line.Goals as goal

pub returns : goal.returns
returns c =
    let long = length-take-le c.args.self.side c.args.line.now (omega arith) in
    line_taken (omega (arith, long)) (omega arith) c.requires.line_value c.loop-p.invariant
