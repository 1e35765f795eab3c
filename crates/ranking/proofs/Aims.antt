-- From prefix sums to ranks.
use Prim.Native.Nat.{ℕ, zero, suc, ◌%◌, ◌^◌, ◌≤◌, ◌<◌}
use mathlib.Core.Path.{◌≡◌, refl, sym, ap, ◌∙◌}
use mathlib.Core.Bool.{Bool, true, false, cond, ◌&&◌}
use mathlib.Core.List.{List, [], ◌∷◌, map}
use native.Mathlib.Omega.{arith}
use lib.Dec.{eqb, leb}
use lib.ListN.{length, get_or}
use borrow.Author.Tests.{eqb-true, eq-eqb, le-leb}
use native.Mathlib.Nat.{mod-eq_of_lt}
use Rattle.laws.specs.Sums.{sum_of}
use Rattle.laws.proofs.Tables.{length-entries, entry_at}
use Rattle.array.specs.Cells.{cells, is_board}
use Rattle.array.proofs.Board.{side_known}
use Rattle.lists.specs.Lists.{prefix_sum_runs}
use Rattle.lanes.specs.Machine.{State, Stage, make, ran, all, made, stage_runs, at, load, unload}
use Rattle.lanes.specs.Registers.{IsWord}
use Rattle.lanes.proofs.Coordinates.{at<, unload_by}
use Rattle.lanes.proofs.Held.{unload_holds}
use Rattle.prefix.specs.Programs.{Sums, load_sums, prefix_sum, prefixed}
use Rattle.prefix.specs.Results.{prefix_sum_words, prefix_sum_lane}
use Rattle.prefix.proofs.Adding.{prefix_sum-all}
use Rattle.ranking.specs.Inside.{Summed, GoodMarks}
use Rattle.ranking.specs.Programs.{Ranking, with_mark, rank, unload_aim, ranked_marks}
use Rattle.ranking.specs.Ranks.{aim_in, aim_of, ranks}

-- so many marks are marked at most
few_marked : (marks : List ℕ) (n : ℕ) → ((i : ℕ) → i < n → get_or marks i 0 < 2) → sum_of n marks ≤ n
few_marked marks zero h = omega arith
few_marked marks (suc n) h = omega (arith, few_marked marks n (λ i u. h i (omega arith)), h n (omega arith))

-- one taken off the prefix sum of a marked cell is its rank
one_off : (marks : List ℕ) (i sum : ℕ) → sum ≡ sum_of (suc i) marks → aim_of (get_or marks i 0) sum ≡ aim_in marks i
one_off marks i sum h = go (eqb (get_or marks i 0) 1) refl
  where
    go : (t : Bool) → eqb (get_or marks i 0) 1 ≡ t → aim_of (get_or marks i 0) sum ≡ aim_in marks i
    go true e = rw e (omega (arith, h, eqb-true (get_or marks i 0) 1 e))
    go false e = rw e

module _ {marks sums : List ℕ} (z : Summed marks sums) (i : ℕ) (h : i < length marks) where
  pub sum_few : get_or sums i 0 ≤ 4096
  sum_few = omega (arith, z.sums_are i h, few_marked marks (suc i) (λ k u. z.good k (omega arith)), z.few)

-- the prefix sums of good marks
summed-marks : (s : ℕ) (marks sums : List ℕ) → GoodMarks s marks → sums ≡ cond (is_board s (length marks)) (prefix_sum_words s marks) marks → Summed marks sums
summed-marks s marks sums z e = record {
  size = rw (sums_are, length-entries (λ i. sum_of (suc i) marks % 2 ^ 32) 0 (cells s)) (sym z.size);
  few = rw z.size (side_known s z.side).cells_few;
  good = z.good;
  sums_are = each;
}
  where
    board : is_board s (length marks) ≡ true
    board = rw z.side (eq-eqb (length marks) (cells s) z.size)

    sums_are : sums ≡ prefix_sum_words s marks
    sums_are = rw board at e

    each : (i : ℕ) → i < length marks → get_or sums i 0 ≡ sum_of (suc i) marks
    each i h =
        rw sums_are
        (entry_at (λ i. sum_of (suc i) marks % 2 ^ 32) (cells s) i 0 (rw z.size at h)
        ∙ mod-eq_of_lt (omega (arith, few_marked marks (suc i) (λ k u. z.good k (omega arith)), z.size, (side_known s z.side).cells_few)))

summed : {s : ℕ} {marks loaded sums : List ℕ} → GoodMarks s marks → loaded ≡ marks
    → sums ≡ cond (is_board s (length loaded)) (prefix_sum_words s loaded) loaded → Summed marks sums
summed {s} {marks} {loaded} {sums} z l e = summed-marks s marks sums z (e ∙ ap (λ (w : List ℕ). cond (is_board s (length w)) (prefix_sum_words s w) w) l)

-- the same of a room of n words, in which the marks find theirs
pub summed_within : {n s : ℕ} {marks loaded sums : List ℕ} → GoodMarks s marks → length marks ≤ n → n ≤ 4096 → loaded ≡ marks
    → sums ≡ cond (leb (length loaded) n && leb n 4096) (prefix_sum_lane s loaded) loaded → Summed marks sums
summed_within {n} {s} {marks} {loaded} {sums} z h few l e =
    let room : length loaded ≤ n = omega (arith, ap length l) in
    summed z l (rw (le-leb (length loaded) n room, le-leb n 4096 few) at e)

-- the mark stays beside the registers of the stages
abbrev beside : State Sums → State ℕ → State Ranking
beside σ marks c d a b = record { sums = σ c d a b; mark = marks c d a b }

ran-beside : (s : ℕ) (t : Stage Sums ℕ) (k : ℕ) (σ : State Sums) (marks : State ℕ)
    → ran s (with_mark t) k (beside σ marks) ≡ beside (ran s t k σ) marks
ran-beside s t zero σ marks = refl
ran-beside s t (suc k) σ marks = ap (make s t.run.step (with_mark t).send ((with_mark t).rule k)) (ran-beside s t k σ marks)

made-beside : (s : ℕ) (ts : List (Stage Sums ℕ)) (σ : State Sums) (marks : State ℕ)
    → made s (map with_mark ts) (beside σ marks) ≡ beside (made s ts σ) marks
made-beside s [] σ marks = refl
made-beside s (t ∷ ts) σ marks =
    ap (made s (map with_mark ts)) (ran-beside s t t.run.times σ marks) ∙ made-beside s ts (all s t σ) marks

-- so at the end a cell has its mark and the prefix sum
ranked_marks_lem : (s : ℕ) (σ : State ℕ) → ranked_marks s σ ≡ (λ c d a b. aim_of (σ c d a b) (prefixed s σ c d a b))
ranked_marks_lem s σ =
    ap {B = State ℕ} (λ (τ : State Ranking) c d a b. unload_aim (τ c d a b)) (made-beside s (prefix_sum s) (λ c d a b. load_sums (σ c d a b)) σ)

-- rank, step by step, for every side: its moves made on good marks give the ranks, where a word can count the cells
pub rank_steps : (s : ℕ) (marks : List ℕ) → 1 ≤ s → IsWord (cells s) → ((i : ℕ) → get_or marks i 0 < 2)
    → unload s (ranked_marks s (load s marks)) ≡ ranks s marks
rank_steps s marks pos few good =
    ap (unload s) (ranked_marks_lem s (load s marks))
    ∙ unload_by s _ (aim_in marks) pos (λ c d a b hc hd ha hb. one_off marks (at s c d a b) _ (summed_at c d a b hc hd ha hb))
  where
    summed_at : (c d a b : ℕ) → c < s → d < s → a < s → b < s → prefixed s (load s marks) c d a b ≡ sum_of (suc (at s c d a b)) marks
    summed_at c d a b hc hd ha hb =
        let i_in = at< s c d a b hc hd ha hb in
        sym ((unload_holds s (prefixed s (load s marks))).is c d a b hc hd ha hb)
        ∙ ap (λ (l : List ℕ). get_or l (at s c d a b) 0) (prefix_sum-all s marks pos (λ k. omega (arith, good k)))
        ∙ entry_at (λ i. sum_of (suc i) marks % 2 ^ 32) (cells s) (at s c d a b) 0 i_in
        ∙ mod-eq_of_lt (omega (arith, few_marked marks (suc (at s c d a b)) (λ k u. good k)))

-- the moves that the program makes are those of the list
pub rank-moves : (s : ℕ) → stage_runs (rank s) ≡ prefix_sum_runs s
rank-moves s = refl
