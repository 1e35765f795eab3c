-- `refusals::judging::all_aimed` meets its contract: the three tests together say that no aim is wrong (Joined).
use Rattle.std.proofs.Common.{arith, sym, length-take-le}
use Rattle.refusals.proofs.Joined.{count_is, count_few, aimed_all}
use Rattle.refusals.proofs.judging.all_aimed.Goals as goal

pub slice_bounds-marks-end : goal.slice_bounds-marks-end
slice_bounds-marks-end c =
    sym (length-take-le _ _ (count_few c.args.marks.now c.requires.few c.requires.good c.count_marks-count.ensures))

pub slice_bounds-aims-end : goal.slice_bounds-aims-end
slice_bounds-aims-end c =
    let few = count_few c.args.marks.now c.requires.few c.requires.good c.count_marks-count.ensures in
    sym (length-take-le _ _ (omega (arith, few, c.requires.long)))

pub returns-then-all_rising : goal.returns-then-all_rising
returns-then-all_rising c =
    let few = count_few c.args.marks.now c.requires.few c.requires.good c.count_marks-count.ensures in
    aimed_all c.args.side c.args.marks.now c.args.aims.now (count_is c.args.marks.now c.requires.few c.requires.good c.count_marks-count.ensures) few
    (omega (arith, few, c.requires.long)) c.all_marked.ensures c.all_rising.ensures c.last_inside.ensures c.if-all_marked.true c.if-all_rising.true
