-- `replays::replay_job` meets its contract: what is read is refused, or replayed.
use Rattle.std.proofs.lemmas.Result.{err_from_is_err_and}
use Rattle.laws.proofs.Powers.{fourth_power}
use Rattle.jobtext.proofs.Boards.{ready_cells, words_room, marks_room, words-part, marks-part}
use Rattle.replays.proofs.Replaying.{job_good, job_replayed, job_refused}
use Rattle.replays.proofs.replay_job.Goals as goal

pub returns-in_err-side : goal.returns-in_err-side
returns-in_err-side c =
    let p = err_from_is_err_and c.from_residual.result c.from_residual.ensures.1 in
    rw (p.1, p.2) (job_refused _ c.read.ensures _ c.in_err-side.was _)

pub pow-cells-requires : goal.pow-cells-requires
pow-cells-requires c = let few = ready_cells _ c.read.ensures _ c.in_ok-side.was in rw fourth_power few.fits

pub slice_bounds-words-end : goal.slice_bounds-words-end
slice_bounds-words-end c = rw (c.pow-cells.ensures, fourth_power) (words_room _ c.read.ensures _ c.in_ok-side.was)

pub slice_bounds-replay_lanes-end : goal.slice_bounds-replay_lanes-end
slice_bounds-replay_lanes-end c = rw (c.pow-cells.ensures, fourth_power) (words-part _ c.read.ensures _ c.in_ok-side.was)

pub slice_bounds-marks-end : goal.slice_bounds-marks-end
slice_bounds-marks-end c = rw (c.pow-cells.ensures, fourth_power) (marks_room _ c.read.ensures _ c.in_ok-side.was)

pub slice_bounds-replay_lanes-end-2 : goal.slice_bounds-replay_lanes-end-2
slice_bounds-replay_lanes-end-2 c = rw (c.pow-cells.ensures, fourth_power) (marks-part _ c.read.ensures _ c.in_ok-side.was)

pub replay_lanes-requires : goal.replay_lanes-requires
replay_lanes-requires c = rw (c.pow-cells.ensures, fourth_power) (job_good _ c.read.ensures _ c.in_ok-side.was)

pub returns : goal.returns
returns c = job_replayed _ c.read.ensures _ c.in_ok-side.was _ (rw (c.pow-cells.ensures, fourth_power) at c.replay_lanes.ensures)
