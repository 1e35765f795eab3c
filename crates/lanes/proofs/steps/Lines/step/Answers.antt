-- `lanes::steps::Lines::step` meets its contract: by cases on the joining.
use Rattle.std.proofs.Common.{refl, rules}
use Rattle.lanes.specs.declared.Joining.TheVariants.{Add, Copy}
use Rattle.sums.specs.Sums.{plus}
use Rattle.lanes.specs.Stages.{copy}
use Rattle.lanes.proofs.Spots.{line_in_group}
use Rattle.lanes.proofs.Sweeping.{turn_stepped}
use Rattle.lanes.proofs.steps.Lines.step.Goals as goal

pub join_line-requires-clause-lines_in : goal.join_line-requires-clause-lines_in
join_line-requires-clause-lines_in c = rw c.requires.line_value (line_in_group c.requires.group c.args.self.way c.args.rule.front)

pub join_line-requires-in-Copy-clause-lines_in : goal.join_line-requires-in-Copy-clause-lines_in
join_line-requires-in-Copy-clause-lines_in c = rw c.requires.line_value (line_in_group c.requires.group c.args.self.way c.args.rule.front)

pub returns-in-Add : goal.returns-in-Add
returns-in-Add c =
    let g = c.requires.group in
    turn_stepped c.args.self.side _ _ _ _ plus Add _ refl c.in-Add.is g c.requires.line_value c.join_line.ensures (λ own x r e. search rules)

pub returns-in-Copy : goal.returns-in-Copy
returns-in-Copy c =
    let g = c.requires.group in
    turn_stepped c.args.self.side _ _ _ _ copy Copy _ refl c.in-Copy.is g c.requires.line_value c.join_line-in-Copy.ensures (λ own x r e. search rules)
