-- JobLanes of a board with good marks: rank accepts them, concentrate accepts what rank leaves, and its logs and words are those of the marked cells.
use Prim.Native.Nat.{ℕ, ◌≤◌, ◌<◌}
use mathlib.Core.Path.{◌≡◌, ap, ◌∙◌}
use mathlib.Core.Bool.{true}
use mathlib.Core.List.{List, []}
use native.Mathlib.Omega.{arith}
use borrow.Author.Tests.{eq-eqb}
use lib.ListN.{length, get_or, take, length-append, length-drop}
use lib.Seq.{take_at}
use Rattle.laws.proofs.Tables.{entry_at, length-entries}
use Rattle.std.specs.Prelude.{Result, IsOk}
use Rattle.answers.specs.declared.Answer.{Answer}
use Rattle.answers.specs.declared.Moves.{Moves}
use Rattle.answers.specs.declared.Refusal.{Refusal}
use Rattle.answers.proofs.Judging.{accepted_ok}
use Rattle.array.specs.Cells.{is_side, cells}
use Rattle.array.specs.declared.lent.LentSlots.{LentSlots}
use Rattle.runs.specs.Runs.{codes as codes_of}
use Rattle.lists.specs.declared.Trip.TheVariants.{Concentrate}
use Rattle.lists.specs.Lists.{total_moves, concentrate_runs, prefix_sum_runs}
use Rattle.answers.specs.Answers.{verdict, accepted_by, answer_of}
use Rattle.answers.specs.Entry.{Entry, in_front}
use Rattle.array.proofs.Board.{side_known}
use Rattle.lists.proofs.Counts.{prefix_sum-length, concentrate_length}
use Rattle.answers.proofs.Entering.{codes-length}
use Rattle.slots.specs.declared.Cell.{Cell}
use Rattle.slots.specs.Cells.{Sized}
use Rattle.ranking.specs.Ranks.{aim_in, ranks}
use Rattle.ranking.specs.Entries.{rank_cases}
use Rattle.ranking.specs.Inside.{GoodMarks}
use Rattle.ranking.proofs.Answering.{rank-takes}
use Rattle.refusals.specs.Cases.{full_cases, Good}
use Rattle.refusals.proofs.Verdicting.{Fitting}
use Rattle.refusals.proofs.Accepting.{Asked, asked_good, full_accepted}
use Rattle.records.specs.Records.{moved_counts}
use Rattle.records.specs.Entries.{Stood, sizes_of}
use Rattle.jobs.specs.Inside.{JobBoard, Settled}
use Rattle.jobs.proofs.Ended.{word_there}

module _ (s : ℕ) (side : is_side s ≡ true) (marks : List ℕ) (long : length marks ≡ cells s) (good : (k : ℕ) → k < length marks → get_or marks k 0 < 2) where
  -- the aims that rank leaves are those that concentrate asks for
  ranks_asked : Asked Concentrate s marks (ranks s marks)
  ranks_asked = record {
    mark = λ i h. omega (arith, good i (omega arith));
    rank = λ i h e. entry_at (aim_in marks) (cells s) i 0 h ∙ rw (eq-eqb (get_or marks i 0) 1 e);
  }

  pub ranks_good : Good Concentrate s marks (ranks s marks)
  ranks_good = asked_good Concentrate s marks (ranks s marks) side long ranks_asked

  -- concentrate accepts
  pub concentrate_accepts : (w a w₂ m₂ a₂ : List ℕ) (codes moved : ℕ) (b : Answer) → Sized (cells s) w marks a w₂ m₂ a₂ → 51 ≤ codes → 51 ≤ moved
      → verdict (full_cases Concentrate s (sizes_of w w₂ m₂ a₂) marks (ranks s marks) codes moved) b ≡ b
  concentrate_accepts w a w₂ m₂ a₂ codes moved b z c m =
      full_accepted Concentrate s (sizes_of w w₂ m₂ a₂) marks (ranks s marks) fitting ranks_good b codes moved
      (omega (arith, (side_known s side).most)) (omega (arith, (side_known s side).most))
    where
      fitting : Fitting s (length marks) (length (ranks s marks)) (sizes_of w w₂ m₂ a₂)
      fitting = record {
        side = side;
        words = z.words;
        marks = long;
        aims = length-entries (aim_in marks) 0 (cells s);
        words2 = z.words2;
        marks2 = z.marks2;
        aims2 = z.aims2;
      }

-- a whole run of concentrate behind rank
module _ {s : ℕ} {front spare : LentSlots} (b : JobBoard s front spare) where
  abbrev w : List ℕ
  w = front.words.now

  abbrev m : List ℕ
  m = front.marks.now

  abbrev a : List ℕ
  a = front.aims.now

  abbrev w₂ : List ℕ
  w₂ = spare.words.now

  abbrev m₂ : List ℕ
  m₂ = spare.marks.now

  abbrev a₂ : List ℕ
  a₂ = spare.aims.now

  long : length m ≡ cells s
  long = b.sized.marks

  good : Good Concentrate s m (ranks s m)
  good = ranks_good s b.side m long b.marked

  few : total_moves s ≤ 51
  few = omega (arith, (side_known s b.side).most)

  marks_good : GoodMarks s m
  marks_good = record { side = b.side; size = long; good = b.marked }

  -- a log keeps its length
  log_long : (numbers log : List ℕ) → length numbers ≤ length log → length (in_front numbers log) ≡ length log
  log_long numbers log h = rw (length-append, length-drop) (omega arith)

  module _ (r₁ : Result Moves Refusal) (codes : List ℕ) {a' codes' : List ℕ} {K₁ : Type 0}
      (z₁ : Entry (rank_cases s m (length a) (length codes)) (prefix_sum_runs s) (a' ≡ ranks s m) (codes' ≡ in_front (codes_of (prefix_sum_runs s)) codes) K₁ (answer_of r₁))
      (codes_room : length codes ≡ 51) where
    ranked : (answer_of r₁).number ≡ 0
    ranked = rank-takes marks_good (length a) (length codes) b.sized.aims (omega (arith, codes_room)) z₁.answer

    -- rank accepts
    pub rank_accepted : IsOk r₁
    rank_accepted = accepted_ok r₁ ranked

    codes_long : length codes' ≡ 51
    codes_long =
        let room : length (codes_of (prefix_sum_runs s)) ≤ length codes = omega (arith, codes-length (prefix_sum_runs s), prefix_sum-length s, few, codes_room) in
        ap length (z₁.logs ranked) ∙ log_long (codes_of (prefix_sum_runs s)) codes room ∙ codes_room

    module _ (r₂ : Result Moves Refusal) (moved : List ℕ) {codes'' moved'' : List ℕ} {T : ℕ → Cell} {K₂ : Type 0}
        (z₂ : Entry (full_cases Concentrate s (sizes_of w w₂ m₂ a₂) m a' (length codes') (length moved)) (concentrate_runs s) (Stood Concentrate s (total_moves s) w m a' T)
        ((codes'' ≡ in_front (codes_of (concentrate_runs s)) codes') × (moved'' ≡ in_front (moved_counts Concentrate s (total_moves s) m a') moved)) K₂ (answer_of r₂))
        (moved_room : length moved ≡ 51) where
      taken : (answer_of r₂).number ≡ 0
      taken =
          let end = accepted_by (concentrate_runs s) in
          let z = rw (z₁.lanes ranked) at z₂ in
          ap (λ (x : Answer). x.number)
          (z.answer ∙ concentrate_accepts s b.side m long b.marked w a w₂ m₂ a₂ (length codes') (length moved) end b.sized (omega (arith, codes_long)) (omega (arith, moved_room)))

      -- and so does concentrate
      pub concentrate_accepted : IsOk r₂
      concentrate_accepted = accepted_ok r₂ taken

      pub settled : (words : List ℕ) → ((r : ℕ) → get_or words r 0 ≡ (T r).front.word) → {w' : List ℕ} → w' ≡ words → Settled s w m w' codes'' moved''
      settled words there e =
          let z = rw (z₁.lanes ranked) at z₂ in
          record {
            coded = ap (take (total_moves s)) (z.logs taken).0 ∙ take_at (codes_of (concentrate_runs s)) _ (total_moves s) (codes-length (concentrate_runs s) ∙ concentrate_length s);
            counted = ap (take (total_moves s)) (z.logs taken).1 ∙ take_at (moved_counts Concentrate s (total_moves s) m []) _ (total_moves s) (length-entries _ 0 (total_moves s));
            worded = λ r h u. ap (λ (l : List ℕ). get_or l r 0) e ∙ there r ∙ word_there s (side_known s b.side).least w m (ranks s m) long good (z.lanes taken) r h u;
          }
