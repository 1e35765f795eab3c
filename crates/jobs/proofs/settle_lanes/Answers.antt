-- `jobs::settle_lanes` meets its contract: lanes of its own are as long as the board.
use Rattle.std.proofs.Common.{◌∙◌, length-take-le}
use Rattle.texts.proofs.Reading.{part_length}
use Rattle.jobs.proofs.Answered.{lane_room}
use Rattle.jobs.proofs.settle_lanes.Goals as goal

pub slice_bounds-spare_words-end : goal.slice_bounds-spare_words-end
slice_bounds-spare_words-end c = lane_room c.args.side c.requires.side_value c.requires.lanes_long.0

pub slice_bounds-spare-end : goal.slice_bounds-spare-end
slice_bounds-spare-end c = part_length _ _ (lane_room c.args.side c.requires.side_value c.requires.lanes_long.0)

pub slice_bounds-spare_marks-end : goal.slice_bounds-spare_marks-end
slice_bounds-spare_marks-end c = lane_room c.args.side c.requires.side_value c.requires.lanes_long.0

pub slice_bounds-spare-end-2 : goal.slice_bounds-spare-end-2
slice_bounds-spare-end-2 c = part_length _ _ (lane_room c.args.side c.requires.side_value c.requires.lanes_long.0)

pub slice_bounds-spare_aims-end : goal.slice_bounds-spare_aims-end
slice_bounds-spare_aims-end c = lane_room c.args.side c.requires.side_value c.requires.lanes_long.0

pub slice_bounds-spare-end-3 : goal.slice_bounds-spare-end-3
slice_bounds-spare-end-3 c = part_length _ _ (lane_room c.args.side c.requires.side_value c.requires.lanes_long.0)

pub slice_bounds-aims-end : goal.slice_bounds-aims-end
slice_bounds-aims-end c = lane_room c.args.side c.requires.side_value c.requires.lanes_long.0

pub slice_bounds-front-end : goal.slice_bounds-front-end
slice_bounds-front-end c = part_length _ _ (lane_room c.args.side c.requires.side_value c.requires.lanes_long.0)

pub settle-requires : goal.settle-requires
settle-requires c =
    let p = c.requires in
    let r = lane_room c.args.side p.side_value p.lanes_long.0 in
    record {
      side = p.side_value;
      sized = record {
        words = p.lanes_long.0;
        marks = p.lanes_long.1;
        aims = length-take-le _ _ r ∙ p.lanes_long.0;
        words2 = length-take-le _ _ r ∙ p.lanes_long.0;
        marks2 = length-take-le _ _ r ∙ p.lanes_long.0;
        aims2 = length-take-le _ _ r ∙ p.lanes_long.0;
      };
      marked = p.good_marks;
    }
