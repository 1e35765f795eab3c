-- `replays::replay_lanes` meets its contract: its aims are as long as the marks.
use Rattle.replays.proofs.Replaying.{aims_room, aims_part}
use borrow.Author.Rules.{rules}
use Rattle.replays.proofs.replay_lanes.Goals as goal

pub slice_bounds-aims-end : goal.slice_bounds-aims-end
slice_bounds-aims-end c = search aims_room

pub slice_bounds-replay_ranked-end : goal.slice_bounds-replay_ranked-end
slice_bounds-replay_ranked-end c = search aims_part

pub replay_ranked-requires : goal.replay_ranked-requires
replay_ranked-requires c = record { good_marks = search rules; marks_len = search aims_part }
