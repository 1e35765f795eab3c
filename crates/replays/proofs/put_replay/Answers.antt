-- `replays::put_replay` meets its contract: the line of a replay, or of its refusal.
use Rattle.replays.proofs.Lines.{replayed_filled, refused_filled}
use Rattle.replays.proofs.put_replay.Goals as goal

pub returns-in-Ok : goal.returns-in-Ok
returns-in-Ok c = search replayed_filled

pub returns-in-Err : goal.returns-in-Err
returns-in-Err c = search refused_filled
