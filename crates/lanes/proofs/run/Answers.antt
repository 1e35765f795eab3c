-- `lanes::run` meets its contract: on a board the run is made.
use Rattle.laws.proofs.Bools.{passed}
use Rattle.lanes.proofs.Held.{ran_moved}
use Rattle.lanes.proofs.run.Goals as goal

pub returns : goal.returns
returns c =
    ran_moved c.args.side c.args.way c.args.joining c.args.e c.args.n _ _ (passed c.is_run.ensures c.if-not-is_run.false)
    c.run.auto.words c.run.ensures
