-- What a side that passed its check is known by.
use Rattle.std.proofs.Common.{◌≡◌, ℕ, true, cond, [], ◌∷◌, refl, ap, ◌∙◌}
use Rattle.std.specs.Prelude.{Result, Ok}
use Rattle.answers.specs.declared.Refusal.{Refusal}
use Rattle.answers.specs.declared.Answer.{Answer}
use Rattle.answers.specs.Answers.{verdict, side_case, lane_case}
use Rattle.answers.specs.Judged.{Judged, answer_behind}
use Rattle.answers.proofs.Judging.{none_judged}
use Rattle.answers.proofs.Verdicts.{side_built, lane_whole}
use Rattle.array.specs.Cells.{is_side, cells}
use Rattle.array.proofs.Board.{Side, side_known}
use Rattle.lists.specs.Lists.{total_moves}

module _ (s n : ℕ) {r : Result (Unit {0}) Refusal} {u : Unit {0}} (j : Judged (side_case s ∷ lane_case s n ∷ []) r) (e : r ≡ Ok u) where
  pub side_stands : is_side s ≡ true
  side_stands = side_built s (none_judged j refl e).0

  pub side_passed : Side s
  side_passed = side_known s side_stands

  -- and the moves of its list
  pub listed : {total : ℕ} → total ≡ cond (is_side s) (total_moves s) 0 → total ≡ total_moves s
  listed f = f ∙ rw side_stands

  -- no case of it refuses
  pub allowed : (a : Answer) → verdict (side_case s ∷ lane_case s n ∷ []) a ≡ a
  allowed a = j.so a ∙ ap (λ (x : Result (Unit {0}) Refusal). answer_behind x a) e

  -- the lane is a board's
  pub whole : n ≡ cells s
  whole = lane_whole s n (none_judged j refl e).1.0
