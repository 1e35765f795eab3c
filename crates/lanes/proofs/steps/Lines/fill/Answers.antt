-- `lanes::steps::Lines::fill` meets its contract: the words went on, and the lines begin with 0.
use Rattle.std.proofs.Common.{arith, sym, ◌∙◌}
use Rattle.lanes.proofs.Sweeping.{Slid, slid_forth, slid_back, filled_stepped}
use Rattle.lanes.proofs.steps.Lines.fill.Goals.{then-is_forth, else-is_forth}
use Rattle.lanes.proofs.steps.Lines.fill.Goals as goal

pub returns : goal.returns
returns c =
    let forth = sym c.is_forth.ensures in
    let slid : Slid c.args.self.side c.args.self.way c.args.part.now c.if-is_forth.part = elim c.if-is_forth.branch [
      | then-is_forth w ↦ rw w.part-is (slid_forth _ w.copy_within.ensures.len (omega arith) (forth ∙ w.if-is_forth.true) (rw c.stride-stride.ensures at w.copy_within.ensures.by_index.0))
      | else-is_forth w ↦ rw w.part-is (slid_back _ w.copy_within-else-is_forth.ensures.len (omega arith) (forth ∙ w.if-is_forth.false) (rw c.stride-stride.ensures at w.copy_within-else-is_forth.ensures.by_index.0))
    ] in
    filled_stepped c.args.self.side c.args.self.way _ _ _ c.requires slid (rw (c.beginning.ensures, c.stride-stride.ensures, c.line_gap.ensures) at c.clear_places.ensures)
