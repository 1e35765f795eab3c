-- `array::cells::is_cell` meets its contract: the power is the number of cells.
use Rattle.std.proofs.Common.{arith, rules}
use Rattle.laws.proofs.Bools.{passed}
use Rattle.array.proofs.Board.{side_known}
use Rattle.laws.proofs.Powers.{fourth_power}
use Rattle.array.proofs.cells.is_cell.Goals as goal

pub pow-requires : goal.pow-requires
pow-requires c = let k = side_known c.args.side (passed c.is_side.ensures c.if-is_side.true) in omega (arith, fourth_power c.args.side, k.cells_few)

pub returns-then-is_side : goal.returns-then-is_side
returns-then-is_side c = rw (passed c.is_side.ensures c.if-is_side.true, c.pow.ensures, fourth_power c.args.side) (search rules)
