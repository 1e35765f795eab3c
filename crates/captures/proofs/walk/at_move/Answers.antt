-- `captures::walk::at_move` meets its contract: what it does to the tally, where it is in its turn.
use Rattle.captures.proofs.Telling.{turned}
use Rattle.captures.proofs.walk.at_move.Goals as goal

pub returns : goal.returns
returns c =
    let a = c.args in
    turned a.start.now.side a.count a.number a.code _ _ _ _ _ _ a.tally _ c.in_turn.ensures c.if-not-in_turn.false
    c.code_at.ensures c.then_some-missing.ensures c.ne.ensures c.then_some-other.ensures c.or.ensures c.or-2.ensures
