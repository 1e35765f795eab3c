-- `refusals::judging::check_marked` meets its contract: where the aims are judged, the marks are good.
use Rattle.refusals.proofs.Verdicting.{checked_marks}
use Rattle.refusals.proofs.judging.check_marked.Goals as goal

pub check_aims-requires : goal.check_aims-requires
check_aims-requires c = checked_marks c.requires c.check_marks.ensures c.in_ok-check_marks.was
