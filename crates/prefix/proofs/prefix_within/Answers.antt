-- `prefix::prefix_within` meets its contract: on a board that has room the lane holds the prefix sums.
use Rattle.std.proofs.Common.{◌≤◌, length, sym, rules, arith, le-leb}
use Rattle.prefix.proofs.Composing.{prefix_done}
use Rattle.prefix.proofs.prefix_within.Goals as goal

pub returns-then-is_board : goal.returns-then-is_board
returns-then-is_board g c =
    let room : length c.args.words.now ≤ g.row.N = omega arith in
    let few : g.row.N ≤ 4096 = omega arith in
    rw (le-leb _ _ room, le-leb _ _ few) (prefix_done _ _ _ (sym c.if-is_board.ensures) (search rules) c.sum_within.ensures)
