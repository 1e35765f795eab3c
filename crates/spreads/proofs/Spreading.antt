-- Broadcast and data sum: the listed moves give the result.
use Prim.Native.Nat.{ℕ, suc, ◌+◌, ◌-◌, ◌%◌, ◌^◌, ◌≤◌, ◌<◌}
use mathlib.Core.Path.{◌≡◌, refl, sym, ap, ◌∙◌}
use mathlib.Core.List.{List}
use native.Mathlib.Omega.{arith}
use native.Mathlib.Decide.{dec_le}
use native.Mathlib.Nat.{zero-add, mod-eq_of_lt}
use lib.ListN.{get_or}
use Rattle.laws.specs.Sums.{sum}
use Rattle.array.specs.Cells.{cells, group, row, column}
use Rattle.lists.specs.Lists.{broadcast_list, data_sum_runs}
use Rattle.array.specs.declared.moves.Way.TheVariants.{Right, Left, Up, Down}
use Rattle.lanes.specs.Machine.{State, Rule, from_before, from_after, all, made, stage_runs, at, load, unload}
use Rattle.sums.specs.Sums.{plus}
use Rattle.lanes.specs.Stages.{front, from, word, copy}
use Rattle.spreads.specs.Programs.{spread, broadcast, group_sum, data_sum}
use Rattle.spreads.specs.Results.{broadcast_words, data_sum_words}
use Rattle.lanes.proofs.Coordinates.{c_in, d_in, a_in, b_in, at_is, unload-same, sum-cells}
use Rattle.lanes.proofs.Lines.{line, plain, acc-copy, acc-plus, before_on, before_off, after_on}
use Rattle.lanes.proofs.Lines as lines

-- position p has what e had
before_copy : (e n : ℕ) (f : ℕ → ℕ) (p : ℕ) → e ≤ p → p ≤ e + n → line from_before (λ k. front copy (e + suc k)) n f p ≡ f e
before_copy e n f p h h' =
    let q : e + (p - e) ≡ p = omega arith in
    (rw q at (before_on copy e n f (p - e) (omega arith))) ∙ acc-copy (λ i. f (e + i)) (p - e) ∙ ap f {x = e + 0} (omega arith)

after-copy : (s e n : ℕ) → e < s → n ≤ e → (f : ℕ → ℕ) (p : ℕ) → e - n ≤ p → p ≤ e → line (from_after s) (λ k. front copy (e - suc k)) n f p ≡ f e
after-copy s e n l l' f p h h' =
    let q : e - (e - p) ≡ p = omega arith in
    (rw q at (after_on copy s e n l l' f (e - p) (omega arith))) ∙ acc-copy (λ i. f (e - i)) (e - p) ∙ ap f {x = e - 0} (omega arith)

-- to both sides of e
line-copied : (s e : ℕ) (f : ℕ → ℕ) → e < s → (p : ℕ) → p < s
    → line from_before (λ k. front copy (e + suc k)) (s - 1 - e) (line (from_after s) (λ k. front copy (e - suc k)) e f) p ≡ f e
line-copied s e f h p l = go (dec_le p e)
  where
    go : Dec (p ≤ e) → line from_before (λ k. front copy (e + suc k)) (s - 1 - e) (line (from_after s) (λ k. front copy (e - suc k)) e f) p ≡ f e
    go (yes q) = before_off copy e (s - 1 - e) _ p q ∙ after-copy s e e h (omega arith) f p (omega arith) q
    go (no q) = before_copy e (s - 1 - e) _ p (omega arith) (omega arith) ∙ after-copy s e e h (omega arith) f e (omega arith) (omega arith)

-- the sum to the end, and back
line-summed : (s : ℕ) (f g : ℕ → ℕ) → ((i : ℕ) → i < s → f i ≡ g i % (2 ^ 32)) → (p : ℕ) → p < s
    → line (from_after s) (λ k. front copy (s - 1 - suc k)) (s - 1) (line from_before (λ k. front plus (0 + suc k)) (s - 1) f) p ≡ sum s g % (2 ^ 32)
line-summed s f g h p l =
    let q : suc (s - 1) ≡ s = omega arith in
    after-copy s (s - 1) (s - 1) (omega arith) (omega arith) _ p (omega arith) (omega arith)
    ∙ ap (line from_before (λ k. front plus (0 + suc k)) (s - 1) f) (omega arith)
    ∙ before_on plus 0 (s - 1) f (s - 1) (omega arith)
    ∙ acc-plus (λ i. f (0 + i)) g (s - 1) (λ i l'. ap f (zero-add i) ∙ h i (omega arith)) ∙ ap (λ n. sum n g % (2 ^ 32)) q

-- two stages along rows, or along columns, are two runs along each line
module _ (s : ℕ) (σ : State ℕ) (c d : ℕ) (ρ ρ' : ℕ → Rule ℕ ℕ) (k k' : ℕ) where
  right-left : (a b : ℕ) → all s (plain Left k' ρ') (all s (plain Right k ρ) σ) c d a b
      ≡ line (from_after s) (λ k. ρ' k c d a) k' (line from_before (λ k. ρ k c d a) k (σ c d a)) b
  right-left a b =
      ap (λ (g : ℕ → ℕ). g b) (lines.left s k' ρ' (all s (plain Right k ρ) σ) c d k' a)
      ∙ ap (λ (g : ℕ → ℕ). line (from_after s) (λ k. ρ' k c d a) k' g b) (lines.right s k ρ σ c d k a)

  left-right : (a b : ℕ) → all s (plain Right k' ρ') (all s (plain Left k ρ) σ) c d a b
      ≡ line from_before (λ k. ρ' k c d a) k' (line (from_after s) (λ k. ρ k c d a) k (σ c d a)) b
  left-right a b =
      ap (λ (g : ℕ → ℕ). g b) (lines.right s k' ρ' (all s (plain Left k ρ) σ) c d k' a)
      ∙ ap (λ (g : ℕ → ℕ). line from_before (λ k. ρ' k c d a) k' g b) (lines.left s k ρ σ c d k a)

  down-up : (a b : ℕ) → all s (plain Up k' ρ') (all s (plain Down k ρ) σ) c d a b
      ≡ line (from_after s) (λ k a. ρ' k c d a b) k' (line from_before (λ k a. ρ k c d a b) k (λ a. σ c d a b)) a
  down-up a b =
      ap (λ (g : ℕ → ℕ). g a) (lines.up s k' ρ' (all s (plain Down k ρ) σ) c d k' b)
      ∙ ap (λ (g : ℕ → ℕ). line (from_after s) (λ k a. ρ' k c d a b) k' g a) (lines.down s k ρ σ c d k b)

  up-down : (a b : ℕ) → all s (plain Down k' ρ') (all s (plain Up k ρ) σ) c d a b
      ≡ line from_before (λ k a. ρ' k c d a b) k' (line (from_after s) (λ k a. ρ k c d a b) k (λ a. σ c d a b)) a
  up-down a b =
      ap (λ (g : ℕ → ℕ). g a) (lines.down s k' ρ' (all s (plain Up k ρ) σ) c d k' b)
      ∙ ap (λ (g : ℕ → ℕ). line from_before (λ k a. ρ' k c d a b) k' g a) (lines.up s k ρ σ c d k b)

module _ (s : ℕ) (σ : State ℕ) (c d : ℕ) where
  spread-all : (a b : ℕ) → a < s → b < s → (i j : ℕ) → i < s → j < s → made s (spread s a b) σ c d i j ≡ σ c d a b
  spread-all a b ha hb i j hi hj =
      up-down s _ c d (from Up word copy a a).rule (from Down word copy a (s - 1 - a)).rule a (s - 1 - a) i j ∙ line-copied s a _ ha i hi
      ∙ left-right s σ c d (from Left word copy b b).rule (from Right word copy b (s - 1 - b)).rule b (s - 1 - b) a j ∙ line-copied s b _ hb j hj

  group_sum-all : (w : ℕ → ℕ → ℕ) → ((i j : ℕ) → i < s → j < s → σ c d i j ≡ w i j % (2 ^ 32))
      → (i j : ℕ) → i < s → j < s → made s (group_sum s) σ c d i j ≡ sum s (λ a. sum s (λ b. w a b)) % (2 ^ 32)
  group_sum-all w h i j hi hj =
      down-up s _ c d (from Down word plus 0 (s - 1)).rule (from Up word copy (s - 1) (s - 1)).rule (s - 1) (s - 1) i j
      ∙ line-summed s _ (λ a. sum s (w a))
      (λ a ha. right-left s σ c d (from Right word plus 0 (s - 1)).rule (from Left word copy (s - 1) (s - 1)).rule (s - 1) (s - 1) a j ∙ line-summed s _ (w a) (λ b hb. h a b ha hb) j hj) i hi

-- every word becomes that of the source
pub broadcast-all : (s : ℕ) (l : List ℕ) (i : ℕ) → 1 ≤ s → i < cells s → unload s (made s (broadcast s i) (load s l)) ≡ broadcast_words s i l
broadcast-all s l i pos h = unload-same s (made s (broadcast s i) (load s l)) _ pos (λ c d a b hc hd ha hb.
    spread-all s _ c d (row s (group s i)) (column s (group s i)) (c_in s i pos h) (d_in s i pos h) a b ha hb
    ∙ spread-all s (load s l) (row s (group s i)) (column s (group s i)) _ _ (a_in s i pos h) (b_in s i pos h) c d hc hd
    ∙ ap (λ z. get_or l z 0) (at_is s i pos h))

-- every word becomes the sum of all words
pub data_sum-all : (s : ℕ) (l : List ℕ) → 1 ≤ s → ((i : ℕ) → get_or l i 0 < 2 ^ 32) → unload s (made s (data_sum s) (load s l)) ≡ data_sum_words s l
data_sum-all s l pos small = unload-same s (made s (data_sum s) (load s l)) _ pos (λ c d a b hc hd ha hb.
    group_sum-all s _ c d (λ c d. sum s (λ a. sum s (λ b. load s l c d a b)))
    (λ g k hg hk. group_sum-all s (load s l) g k (load s l g k) (λ i j hi hj. sym (mod-eq_of_lt (small (at s g k i j)))) c d hc hd) a b ha hb
    ∙ ap (λ n. n % (2 ^ 32)) (sym (sum-cells s (λ i. get_or l i 0))))

-- the moves that the programs make are those of the lists
pub broadcast-moves : (s i : ℕ) → stage_runs (broadcast s i) ≡ broadcast_list s i
broadcast-moves s i = refl

pub data_sum-moves : (s : ℕ) → stage_runs (data_sum s) ≡ data_sum_runs s
data_sum-moves s = refl
