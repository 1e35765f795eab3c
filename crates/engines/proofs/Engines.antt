-- The stepping engine and the plain one agree, operation by operation: on the same side, arguments and lanes, with logs at least as long as the list, they
-- answer the same and leave the same lanes, as lists; with shorter logs stepping answers 3 exactly where plain answers 0, 5 or 6, and elsewhere both are the same.
use Prim.Native.Nat.{ℕ}
use mathlib.Core.Path.{◌≡◌, refl, sym, ap, ap₂, ◌∙◌}
use mathlib.Core.List.{List}
use lib.IntN.{ℤ}
use lib.ListN.{length}
use Rattle.laws.specs.Lent.{Lent, old, new}
use Rattle.array.specs.Cells.{is_cell}
use Rattle.answers.specs.declared.Answer.{Answer}
use Rattle.answers.specs.Answers.{without_logs}
use Rattle.light.specs.Lanes.{table_before, table_after}
use Rattle.lists.specs.declared.Trip.TheVariants.{Concentrate, Distribute}
use Rattle.lists.specs.Lists.{broadcast_list, broadcast_runs, data_sum_runs, prefix_sum_runs, runs_of}
use Rattle.shiftlists.specs.declared.Axis.{Axis}
use Rattle.shiftlists.specs.declared.Edge.{Edge}
use Rattle.shiftlists.specs.Shifts.{distance_of, within, forth_moves, back_moves, shift_list, shift_runs}
use Rattle.spreads.specs.Results.{broadcast_words, data_sum_words}
use Rattle.prefix.specs.Results.{prefix_sum_words}
use Rattle.shifts.specs.Results.{shift_words}
use Rattle.words.specs.Entries.{broadcast_cases, sum_cases, shift_cases, Broadcast, DataSum, PrefixSum, Shift}
use Rattle.ranking.specs.Ranks.{ranks}
use Rattle.ranking.specs.Entries.{rank_cases, Ranked}
use Rattle.records.specs.Entries.{FullRun}
use Rattle.records.proofs.Outcomes.{LengthsKept}
use Rattle.plainwords.specs.Entries.{PlainBroadcast, PlainDataSum, PlainPrefixSum, PlainShift}
use Rattle.plainrecords.specs.Entries.{PlainRank, PlainRun}
use Rattle.engines.specs.Engines.{has_room, have_room, EnginesAgree}
use Rattle.engines.proofs.Both.{and_true, WithLogs, engines_agree}
use Rattle.engines.proofs.Records.{full_agrees}
use Rattle.engines.proofs.Words.{sum_logged, argument_logged, words_agree}

module _ (s : ℕ) (words words' codes : Lent) {r p : Answer} (same : old words ≡ old words') where
  pub broadcast_agrees : (i : ℕ) → Broadcast s i words codes r → PlainBroadcast s i words' p
      → EnginesAgree (has_room (broadcast_runs s i) (length (old codes))) r p (new words ≡ new words')
  broadcast_agrees i =
      words_agree (broadcast_cases s i) (broadcast_runs s i) (broadcast_words s i) words words' codes
      (argument_logged s (is_cell s i) (broadcast_list s i) (length (old words)) (length (old codes))) refl same

  pub data_sum_agrees : DataSum s words codes r → PlainDataSum s words' p → EnginesAgree (has_room (data_sum_runs s) (length (old codes))) r p (new words ≡ new words')
  data_sum_agrees =
      words_agree (sum_cases s (data_sum_runs s)) (data_sum_runs s) (data_sum_words s) words words' codes
      (sum_logged s (data_sum_runs s) (length (old words)) (length (old codes))) refl same

  pub prefix_sum_agrees : PrefixSum s words codes r → PlainPrefixSum s words' p → EnginesAgree (has_room (prefix_sum_runs s) (length (old codes))) r p (new words ≡ new words')
  prefix_sum_agrees =
      words_agree (sum_cases s (prefix_sum_runs s)) (prefix_sum_runs s) (prefix_sum_words s) words words' codes
      (sum_logged s (prefix_sum_runs s) (length (old words)) (length (old codes))) refl same

  pub shift_agrees : (axis : Axis) (edge : Edge) (k : ℤ) → Shift s axis edge k words codes r → PlainShift s axis edge k words' p
      → EnginesAgree (has_room (shift_runs s axis edge k) (length (old codes))) r p (new words ≡ new words')
  shift_agrees axis edge k =
      let d = distance_of k in
      words_agree (shift_cases s axis edge k) (shift_runs s axis edge k) (shift_words s axis edge k) words words' codes
      (argument_logged s (within s d) (shift_list axis (forth_moves edge s d) (back_moves edge s d)) (length (old words)) (length (old codes))) refl same

-- 1, 2, 3 and 5
rank_logged : (s : ℕ) (marks : List ℕ) (aims log : ℕ) → WithLogs (has_room (prefix_sum_runs s) log) (rank_cases s marks aims log)
rank_logged s marks aims log = record {
  ascends = refl;
  refuses = refl;
  logs = and_true (has_room (prefix_sum_runs s) log);
  later = λ h. (λ k. refl, (λ k. refl, (λ k. refl, (λ k. refl, tt))));
}

pub rank_agrees : (s : ℕ) (marks marks' : List ℕ) (aims aims' codes : Lent) {r p : Answer} → marks ≡ marks' → old aims ≡ old aims'
    → Ranked s marks aims codes r → PlainRank s marks' aims' p → EnginesAgree (has_room (prefix_sum_runs s) (length (old codes))) r p (new aims ≡ new aims')
rank_agrees s marks marks' aims aims' codes e f z z' =
    engines_agree (rank_logged s marks (length (old aims)) (length (old codes)))
    (ap₂ (λ (m a : List ℕ). without_logs (rank_cases s m (length a) 0)) e f) z z'
    (λ h l l'. l ∙ ap (ranks s) e ∙ sym l') (λ k k'. k.0 ∙ f ∙ sym k')

-- six lanes and both logs of the stepping engine, and the six lanes of the plain one; a slice keeps its length in a call
module _ (s : ℕ) (w m a w₂ m₂ a₂ codes moved w' m' a' w₂' m₂' a₂' : Lent) {r p : Answer} (k : LengthsKept w m a w₂ m₂ a₂) (k' : LengthsKept w' m' a' w₂' m₂' a₂')
    (same : table_before w m a w₂ m₂ a₂ ≡ table_before w' m' a' w₂' m₂' a₂') where
  pub concentrate_agrees : FullRun Concentrate s w m a w₂ m₂ a₂ codes moved r → PlainRun Concentrate s w' m' a' w₂' m₂' a₂' p
      → EnginesAgree (have_room (runs_of Concentrate s) (length (old codes)) (length (old moved))) r p (table_after w m a w₂ m₂ a₂ ≡ table_after w' m' a' w₂' m₂' a₂')
  concentrate_agrees = full_agrees Concentrate s w m a w₂ m₂ a₂ w' m' a' w₂' m₂' a₂' k k' same codes moved

  pub distribute_agrees : FullRun Distribute s w m a w₂ m₂ a₂ codes moved r → PlainRun Distribute s w' m' a' w₂' m₂' a₂' p
      → EnginesAgree (have_room (runs_of Distribute s) (length (old codes)) (length (old moved))) r p (table_after w m a w₂ m₂ a₂ ≡ table_after w' m' a' w₂' m₂' a₂')
  distribute_agrees = full_agrees Distribute s w m a w₂ m₂ a₂ w' m' a' w₂' m₂' a₂' k k' same codes moved
