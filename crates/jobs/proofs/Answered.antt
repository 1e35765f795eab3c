-- The lanes of a job that was read, and the answer to them: it is the output of the verdict.
use Prim.Native.Nat.{ℕ, ◌≤◌, ◌<◌}
use mathlib.Core.Path.{◌≡◌, sym, ap, ◌∙◌}
use mathlib.Core.Bool.{true}
use mathlib.Core.List.{List, []}
use native.Mathlib.Omega.{arith}
use lib.ListN.{length, get_or, take, length-map}
use lib.Seq.{length-take-le, get_or-take}
use Rattle.std.specs.Prelude.{Result, Ok, Err}
use Rattle.laws.specs.Tables.{entries}
use Rattle.laws.proofs.Sums.{sum_cong}
use Rattle.laws.proofs.Tables.{entries-all}
use Rattle.lists.specs.Lists.{total_moves}
use Rattle.array.specs.Cells.{is_side, cells}
use Rattle.array.proofs.Board.{side_known}
use Rattle.lists.specs.declared.Trip.TheVariants.{Concentrate}
use Rattle.marks.specs.Marks.{rank_in}
use Rattle.records.specs.Records.{marked_cell, count_in, moved_counts}
use Rattle.records.proofs.Marked.{marked_cell-rank_in}
use Rattle.answers.specs.declared.Refusal.{Refusal}
use Rattle.answers.specs.Answers.{number_of, place_of}
use Rattle.answertext.specs.Answers.{refused_text}
use Rattle.jobtext.specs.declared.Job.{Job}
use Rattle.jobtext.specs.declared.CellWord.{CellWord}
use Rattle.jobtext.specs.Verdicts.{TextVerdict, text_verdict}
use Rattle.jobtext.specs.Lanes.{JobRead}
use Rattle.jobtext.proofs.Accepted.{Rising, few as few_cells}
use Rattle.jobtext.proofs.Boards.{lane_in, part_long, part_at, part-marks, Taken, taken, refused_is}
use Rattle.printing.specs.Buffers.{Written, OutFilled}
use Rattle.jobs.specs.Outputs.{home_of, words_in, job_counts, output_of}
use Rattle.jobs.specs.Filled.{printed_of}
use Rattle.jobs.specs.Inside.{Settled, JobLanes, lanes_text}
use Rattle.jobs.proofs.Ranks.{home_in, ranked, all-marked, home_value, home_marked}
use Rattle.jobs.proofs.Filling.{refused_filled}
use Rattle.jobs.proofs.Solved.{changing, counts_same}

-- the answer of settled lanes is that of the lanes
pub lanes_text_lem : {s k : ℕ} {w m w' codes' moved' : List ℕ} → JobLanes s k w m → length w' ≡ length w → Settled s w m w' codes' moved'
    → printed_of s k codes' moved' w' ≡ lanes_text s k w m
unfolding lanes_text
lanes_text_lem {s} {k} {w} {m} {w'} b l z =
    rw (
      z.coded,
      z.counted,
      entries-all (λ r. get_or w (marked_cell m (cells s) r) 0) k 0 (take k w') (length-take-le k w' (omega (arith, b.few, b.words_long)))
          (λ r h. get_or-take k w' r 0 h ∙ z.worded r (omega (arith, b.all)) (omega (arith, b.few))),
    )

pub solve_filled : {s k : ℕ} {w m w' codes' moved' : List ℕ} → JobLanes s k w m → length w' ≡ length w → Settled s w m w' codes' moved'
    → {a : List ℕ} {r : ℕ} {b : List ℕ}
    → OutFilled a (printed_of s k codes' moved' w') r b → OutFilled a (lanes_text s k w m) r b
solve_filled l e z f = rw (lanes_text_lem l e z) at f

-- a board's lane fits 4,096 cells
pub lane_room : (s : ℕ) {n : ℕ} → is_side s ≡ true → n ≡ cells s → n ≤ 4096
lane_room s h e = omega (arith, (side_known s h).cells_few)

-- a job's lanes
module _ (s : ℕ) (es : List CellWord) (side : is_side s ≡ true) (d : Rising 0 (cells s) es) where
  few : cells s ≤ 4096
  few = (side_known s side).cells_few

  abbrev words : List ℕ
  words = take (cells s) (lane_in (λ e. e.word) es)

  abbrev marks : List ℕ
  marks = take (cells s) (lane_in (λ e. 1) es)

  rank_same : (i : ℕ) → i ≤ cells s → rank_in marks i ≡ rank_in (lane_in (λ e. 1) es) i
  rank_same i h = sum_cong i (λ k l. part_at s es side d (λ e. 1) k (omega arith))

  counted : count_in s marks ≡ length es
  counted = rank_same (cells s) (omega arith) ∙ all-marked es (cells s) few d

  homes : (r : ℕ) → r < length es → marked_cell marks (cells s) r ≡ home_of es r
  homes r h =
      let i = home_in (cells s) es 0 r h d in
      let e : rank_in marks (home_of es r) ≡ r = rank_same (home_of es r) (omega (arith, i.1)) ∙ ranked es (cells s) few d r h in
      let o : get_or marks (home_of es r) 0 ≡ 1 = part_at s es side d (λ e. 1) (home_of es r) i.1 ∙ home_marked es (cells s) few d r h in
      ap (marked_cell marks (cells s)) (sym e) ∙ marked_cell-rank_in marks (cells s) (home_of es r) i.1 o

  small : length es ≤ cells s
  small = omega (arith, few_cells es 0 (cells s) (omega arith) d)

  job_lanes : JobLanes s (length es) words marks
  job_lanes = record {
    side = side;
    words_long = part_long s es side d (λ e. e.word);
    marks_long = part_long s es side d (λ e. 1);
    good = part-marks s es side d;
    all = sym counted;
    few = small;
  }

  moved_same : moved_counts Concentrate s (total_moves s) marks [] ≡ job_counts s es
  moved_same =
      ap (λ (b : ℕ). entries (changing s b (marked_cell marks (cells s))) 0 (total_moves s)) counted
      ∙ counts_same s es (marked_cell marks (cells s)) homes

  word_at : (r : ℕ) → r < length es → get_or words (marked_cell marks (cells s) r) 0 ≡ get_or (words_in es) r 0
  word_at r h =
      ap (λ (i : ℕ). get_or words i 0) (homes r h)
      ∙ part_at s es side d (λ e. e.word) (home_of es r) (home_in (cells s) es 0 r h d).1
      ∙ home_value es (cells s) few d (λ e. e.word) r h

  words_same : entries (λ r. get_or words (marked_cell marks (cells s) r) 0) 0 (length es) ≡ words_in es
  words_same =
      sym
      (entries-all (λ r. get_or words (marked_cell marks (cells s) r) 0) (length es) 0 (words_in es) (length-map es (λ e. e.word))
      (λ r h. sym (word_at r h)))

  job_text : lanes_text s (length es) words marks ≡ output_of (Ok (record { side = s; marked = es }))
  unfolding lanes_text output_of
  job_text = rw (moved_same, words_same)

-- the lanes of a job that was read, and the answer to them
module _ {v : TextVerdict} {s k : ℕ} {es : List CellWord} {w m : List ℕ} (j : Taken v s k es w m) where
  taken_lanes : JobLanes s k (take (cells s) w) (take (cells s) m)
  taken_lanes = rw (j.count, j.words_are, j.marks_are) (job_lanes s es j.side j.rising)

  taken_text : lanes_text s k (take (cells s) w) (take (cells s) m) ≡ output_of v
  taken_text = rw (j.count, j.words_are, j.marks_are, j.is) (job_text s es j.side j.rising)

-- what `run` needs of it
module _ {w₀ w m₀ m : List ℕ} {r : Result Job Refusal} (text : List ℕ) (z : JobRead (text_verdict text) w₀ w m₀ m r) where
  pub ready_lanes : (j : Job) → r ≡ Ok j → JobLanes j.side j.marked (take (cells j.side) w) (take (cells j.side) m)
  ready_lanes j e = taken_lanes (taken text z j e).1

  pub ready_filled : (j : Job) → r ≡ Ok j → {a : List ℕ} {n : ℕ} {b : List ℕ}
      → OutFilled a (lanes_text j.side j.marked (take (cells j.side) w) (take (cells j.side) m)) n b → OutFilled a (output_of (text_verdict text)) n b
  ready_filled j e f = rw (taken_text (taken text z j e).1) at f

  pub refused_output : (e : Refusal) → r ≡ Err e → {number place : ℕ} → number ≡ number_of e → place ≡ place_of e → {a : List ℕ} {n : ℕ} {b : List ℕ}
      → length a ≡ 196608
      → Written a 0 (refused_text number place) n b → OutFilled a (output_of (text_verdict text)) n b
  unfolding output_of
  refused_output e q {number} {place} f g l w = rw (refused_is text z e q, ← f, ← g) (refused_filled number place l w)
