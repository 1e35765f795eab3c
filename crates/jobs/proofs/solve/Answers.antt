-- `jobs::solve` meets its contract: what concentrate leaves is what is printed.
use native.Mathlib.Omega.{arith}
use Rattle.array.proofs.Board.{side_known}
use Rattle.jobs.proofs.Answered.{solve_filled}
use Rattle.jobs.proofs.solve.Goals as goal

pub settle_lanes-requires : goal.settle_lanes-requires
settle_lanes-requires c =
    let b = c.requires in
    record { side_value = b.side; lanes_long = (b.words_long, b.marks_long); good_marks = b.good }

pub print-requires : goal.print-requires
print-requires c =
    let b = c.requires in
    let k = side_known c.args.job.side b.side in
    record {
      side_value = b.side;
      marked_bound = omega (arith, k, b);
      words_long = omega (arith, b, c.settle_lanes.auto.words);
    }

pub returns : goal.returns
returns c =
    solve_filled c.requires c.settle_lanes.auto.words c.settle_lanes.ensures c.print.ensures
