-- `refusals::judging::check_aims` meets its contract: where the test of all aims passes none is wrong, and else the first is searched.
use Rattle.refusals.proofs.Joined.{none_case}
use Rattle.refusals.proofs.judging.check_aims.Goals as goal

pub returns-then-all_good : goal.returns-then-all_good
returns-then-all_good c = none_case c.all_good.ensures c.if-all_good.true
