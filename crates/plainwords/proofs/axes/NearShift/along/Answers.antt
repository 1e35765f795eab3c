-- `plainwords::axes::NearShift::along` meets its contract: its blocks of lines are the board, and its table names where words come from.
use Rattle.plainwords.proofs.Placed.{near, names, named_is, whole-blocks, board_shifted}
use Rattle.plainwords.proofs.axes.NearShift.along.Goals as goal

pub invariant_of-lines-clause-names : goal.invariant_of-lines-clause-names
invariant_of-lines-clause-names c = names c.args.self.edge (near c.args.self) c.sources-from.ensures

pub shift_blocks-requires : goal.shift_blocks-requires
shift_blocks-requires c = whole-blocks c.args.axis c.requires c.stride_along.ensures c.blocks_along.ensures

pub returns : goal.returns
returns c =
    let a = c.args in
    let laid = rw (c.stride_along.ensures, c.blocks_along.ensures) at c.shift_blocks.ensures in
    board_shifted a.axis c.requires laid (named_is a.self.edge (near a.self) c.sources-from.ensures)
