-- `mover::make_run` meets its contract: by what the light says of swaps, and the mesh of electronic moves.
use Rattle.std.proofs.Common.{refl}
use Rattle.mover.proofs.Swapping.{cells-swapped, swap_count}
use Rattle.mover.proofs.Running.{made_swaps}
use Rattle.mover.proofs.make_run.Goals as goal

pub returns-in-Swap-clause-made : goal.returns-in-Swap-clause-made
returns-in-Swap-clause-made c =
    let a = c.args in
    let q = c.swap_lanes.ensures.swapped in
    made_swaps a.trip a.side a.swaps a.run c.in-Swap.is c.min-made.ensures refl
    (cells-swapped _ c.requires.a_side c.requires.long _ q) (swap_count _ c.requires.a_side c.requires.long _ q)
