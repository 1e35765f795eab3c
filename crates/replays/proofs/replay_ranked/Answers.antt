-- `replays::replay_ranked` meets its contract: rank accepts, and leaves the ranks.
use Rattle.std.proofs.Common.{rules}
use Rattle.replays.proofs.Replaying.{rank_accepts}
use Rattle.replays.proofs.replay_ranked.Goals as goal

pub returns-in_err-rank : goal.returns-in_err-rank
returns-in_err-rank c =
    absurd (rank_accepts c.requires.good_marks _ _ _ _ c.requires.marks_len (search rules) c.rank.ensures c.in_err-rank.was)
