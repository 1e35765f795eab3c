-- `cases::frames::lane_cells` meets its contract: a board has 1 to 4,096 cells.
use Rattle.std.proofs.Common.{sym, arith, mul-pos}
use Rattle.laws.proofs.Powers.{fourth_power}
use Rattle.array.proofs.Board.{side_known}
use Rattle.cases.proofs.frames.lane_cells.Goals as goal

pub pow-requires : goal.pow-requires
pow-requires c = let board = side_known c.args.side (sym c.if-is_side.ensures) in omega (arith, fourth_power c.args.side, board.cells_few)

pub returns-then-is_side : goal.returns-then-is_side
returns-then-is_side c =
    let board = side_known c.args.side (sym c.if-is_side.ensures) in
    rw (c.pow.ensures, fourth_power c.args.side) (mul-pos board.groups-pos board.groups-pos, board.cells_few)
