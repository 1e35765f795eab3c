-- `plainwords::tables::Lines::shift_lines` meets its contract: the lines that go in eights, and then line after line.
use Rattle.std.proofs.Common.{◌≡◌, arith}
use Rattle.plainwords.proofs.Shifting.{lines_next}
use Rattle.plainwords.proofs.tables.Lines.shift_lines.Goals as goal

pub loop-o-preserved : goal.loop-o-preserved
loop-o-preserved c = lines_next (omega arith) (omega arith) (omega arith) c.loop-o.invariant c.shift_line.ensures

pub returns : goal.returns
returns c =
    let e : c.loop-o.o ≡ c.args.self.stride = omega arith in
    lines_next (omega arith) (omega arith) (omega arith) c.shift_eights.ensures (rw e at c.loop-o.invariant)
