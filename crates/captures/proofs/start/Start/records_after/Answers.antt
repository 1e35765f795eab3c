-- `captures::start::Start::records_after` meets its contract: the run up to a cut is not refused, and leaves the records of its state.
use Rattle.std.proofs.Common.{◌≡◌, ◌∙◌, length, rules}
use Rattle.slots.specs.Lanes.{cells_in}
use Rattle.captures.specs.Replays.{held_below}
use Rattle.captures.proofs.Starting.{small_board, board_sized, is_taken, taken, state_listed}
use Rattle.captures.proofs.start.Start.records_after.Goals as goal

pub unwrap-requires : goal.unwrap-requires
unwrap-requires c =
    let b = c.args.self.now in
    let h = small_board b in
    is_taken c.run_cut.result (taken b.startable (board_sized b _ _ _ h h h) c.requires c.run_cut.ensures.run.answer)

pub returns : goal.returns
returns c =
    let b = c.args.self.now in
    let lanes = c.run_cut.new.lanes in
    let kept = c.run_cut.ensures.same.front.words.long in
    let l : c.list_records.new.records ≡ held_below (cells_in lanes.front.now lanes.spare.now) (length lanes.front.now.words.now) = search rules in
    let h = small_board b in
    let sized = board_sized b _ _ _ h h h in
    state_listed b.startable sized c.requires c.run_cut.ensures.run (kept ∙ sized.words) l
