-- `refusals::judge_full` meets its contract: where the marks are judged, the lanes are a board's.
use Rattle.refusals.proofs.Verdicting.{one_board}
use Rattle.refusals.proofs.judge_full.Goals as goal

pub check_marked-requires : goal.check_marked-requires
check_marked-requires c = one_board c.args.frame c.check_lanes.ensures c.in_ok-check_lanes.was
