-- `plainwords::tables::Lines::shift_eights` meets its contract: eight lines after eight.
use Rattle.std.proofs.Common.{◌≡◌, ◌+◌, ◌*◌, arith}
use Rattle.plainwords.proofs.Shifting.{lines_next}
use Rattle.plainwords.proofs.tables.Lines.shift_eights.Goals as goal

pub loop-e-preserved : goal.loop-e-preserved
loop-e-preserved c =
    let next : (c.loop-e.e + 1) * 8 ≡ c.loop-e.e * 8 + 8 = omega arith in
    rw next (lines_next (omega arith) (omega arith) (omega arith) c.loop-e.invariant c.shift_eight.ensures)
