-- `jobs::run` meets its contract: what is read is refused, or solved.
use Rattle.std.proofs.Common.{◌*◌, Fits, w64}
use Rattle.laws.proofs.Powers.{fourth_power}
use Rattle.jobtext.proofs.Boards.{ready_cells, words_room, marks_room, words-part, marks-part}
use Rattle.jobs.proofs.Answered.{ready_lanes, ready_filled, refused_output}
use Rattle.jobs.proofs.run.Goals as goal

pub returns-in_default : goal.returns-in_default
returns-in_default c = search refused_output

pub pow-cells-requires : goal.pow-cells-requires
pow-cells-requires c =
    let side = c.in-Ok.job.side in
    let few : Fits w64 (side * side * (side * side)) = search ready_cells in
    rw fourth_power few.fits

pub slice_bounds-words-end : goal.slice_bounds-words-end
slice_bounds-words-end c = rw (c.pow-cells.ensures, fourth_power) (search words_room)

pub slice_bounds-solve-end : goal.slice_bounds-solve-end
slice_bounds-solve-end c = rw (c.pow-cells.ensures, fourth_power) (search words-part)

pub slice_bounds-marks-end : goal.slice_bounds-marks-end
slice_bounds-marks-end c = rw (c.pow-cells.ensures, fourth_power) (search marks_room)

pub slice_bounds-solve-end-2 : goal.slice_bounds-solve-end-2
slice_bounds-solve-end-2 c = rw (c.pow-cells.ensures, fourth_power) (search marks-part)

pub solve-requires : goal.solve-requires
solve-requires c = rw (c.pow-cells.ensures, fourth_power) (search ready_lanes)

pub returns : goal.returns
returns c = let solved = rw (c.pow-cells.ensures, fourth_power) at c.solve.ensures in search ready_filled
