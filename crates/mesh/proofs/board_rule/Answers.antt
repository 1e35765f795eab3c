-- `mesh::board_rule` meets its contract: the rule of a leg is one of a board.
use Rattle.array.proofs.Board.{side_known}
use Rattle.mesh.proofs.Legs.{stride-pos, unit_pos, period_few, strided_leg}
use Rattle.mesh.proofs.board_rule.Goals as goal

pub share-requires : goal.share-requires
share-requires c = let l = c.args.leg in rw c.rule_of-rule.ensures (period_few (side_known l.side c.requires) l.low l.way)

pub invariant_of-result-clause-side : goal.invariant_of-result-clause-side
invariant_of-result-clause-side c = rw c.rule_of-rule.ensures c.requires

pub invariant_of-result-clause-unit : goal.invariant_of-result-clause-unit
invariant_of-result-clause-unit c = let l = c.args.leg in rw c.rule_of-rule.ensures (unit_pos (side_known l.side c.requires) l.low l.way)

pub invariant_of-result-clause-stride : goal.invariant_of-result-clause-stride
invariant_of-result-clause-stride c = let l = c.args.leg in rw c.rule_of-rule.ensures (stride-pos (side_known l.side c.requires) l.way)

pub invariant_of-result-clause-few : goal.invariant_of-result-clause-few
invariant_of-result-clause-few c = let l = c.args.leg in rw c.rule_of-rule.ensures (period_few (side_known l.side c.requires) l.low l.way).1

pub invariant_of-result-clause-strided : goal.invariant_of-result-clause-strided
invariant_of-result-clause-strided c = rw c.rule_of-rule.ensures (strided_leg c.args.leg)
