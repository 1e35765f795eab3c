-- A job that was read: rank accepts its marks, and its lanes on its board are those that it starts from.
use Rattle.std.proofs.Common.{◌≡◌, ℕ, ◌≤◌, List, Result, Ok, Err, length, take, sym, ◌∙◌, arith}
use Rattle.array.specs.Cells.{cells}
use Rattle.array.proofs.Board.{side_known}
use Rattle.answers.specs.declared.Moves.{Moves}
use Rattle.answers.specs.declared.Refusal.{Refusal}
use Rattle.answers.specs.Answers.{answer_of}
use Rattle.answers.specs.Entry.{Entry}
use Rattle.answers.proofs.Judging.{refusal_numbered}
use Rattle.lists.specs.Lists.{prefix_sum_runs}
use Rattle.texts.proofs.Reading.{part_length}
use Rattle.ranking.specs.Ranks.{ranks}
use Rattle.ranking.specs.Inside.{GoodMarks}
use Rattle.ranking.specs.Entries.{rank_cases}
use Rattle.ranking.proofs.Answering.{rank-takes}
use Rattle.jobtext.specs.declared.CellWord.{CellWord}
use Rattle.jobtext.specs.declared.Job.{Job}
use Rattle.jobtext.specs.Verdicts.{TextVerdict, text_verdict}
use Rattle.jobtext.specs.Lanes.{JobRead}
use Rattle.jobtext.proofs.Boards.{part_long, part_is, part-marks, Taken, taken, refused_is}
use Rattle.captures.specs.declared.Replayed.{Replayed}
use Rattle.captures.specs.Replays.{replay_of}
use Rattle.replays.specs.Outputs.{replay_from}

-- good marks of a board
module _ {s : ℕ} {marks : List ℕ} (g : GoodMarks s marks) where
  module _ (aims : List ℕ) (n log : ℕ) (r : Result Moves Refusal) {L K : Type 0} (l : length marks ≡ n) (h : log ≡ 51)
      (z : Entry (rank_cases s marks n log) (prefix_sum_runs s) (aims ≡ ranks s marks) L K (answer_of r)) where
    accepted : (answer_of r).number ≡ 0
    accepted = rank-takes g n log (sym l ∙ g.size) (omega arith) z.answer

    -- rank does not refuse them
    pub rank_accepts : {e : Refusal} → r ≡ Err e → ⊥
    rank_accepts q = refusal_numbered q accepted

  -- they are no more than 4,096
  pub aims_room : length marks ≤ 4096
  aims_room = omega (arith, g.size, (side_known s g.side).cells_few)

  pub aims_part : (lane : List ℕ) → length lane ≡ 4096 → length marks ≡ length (take (length marks) lane)
  aims_part lane l = part_length (length marks) lane (omega (arith, aims_room))

-- a job that was read
module _ {v : TextVerdict} {s k : ℕ} {es : List CellWord} {w m : List ℕ} (j : Taken v s k es w m) where
  taken_good : GoodMarks s (take (cells s) m)
  taken_good =
      rw j.marks_are
      (record { side = j.side; size = part_long s es j.side j.rising (λ e. 1); good = part-marks s es j.side j.rising })

  taken_replayed : (capture : List ℕ) → replay_of s (take (cells s) w) (take (cells s) m) (ranks s (take (cells s) m)) capture ≡ replay_from v capture
  unfolding replay_from
  taken_replayed capture =
      let same = part_is s es j.side j.rising in
      rw (j.words_are, j.marks_are, j.is, same (λ e. e.word), same (λ e. 1))

module _ {w₀ w m₀ m : List ℕ} {r : Result Job Refusal} (text : List ℕ) (z : JobRead (text_verdict text) w₀ w m₀ m r) where
  pub job_good : (j : Job) → r ≡ Ok j → GoodMarks j.side (take (cells j.side) m)
  job_good j e = taken_good (taken text z j e).1

  pub job_replayed : (j : Job) → r ≡ Ok j → (capture : List ℕ) {x : Result Replayed Refusal}
      → x ≡ replay_of j.side (take (cells j.side) w) (take (cells j.side) m) (ranks j.side (take (cells j.side) m)) capture
      → x ≡ replay_from (text_verdict text) capture
  job_replayed j e capture f = f ∙ taken_replayed (taken text z j e).1 capture

  -- a text that is no job
  pub job_refused : (e : Refusal) → r ≡ Err e → (capture : List ℕ) → Err e ≡ replay_from (text_verdict text) capture
  unfolding replay_from
  job_refused e q capture = rw (refused_is text z e q)
