-- How the parts of the code make up the nine steps.
use Prim.Native.Nat.{ℕ, ◌-◌, ◌^◌, ◌<◌}
use mathlib.Core.Path.{◌≡◌, refl, sym, ◌∙◌}
use mathlib.Core.Bool.{Bool, true, false, cond, ◌&&◌}
use mathlib.Core.List.{List}
use native.Mathlib.Omega.{arith}
use borrow.Author.Tests.{leb-false}
use lib.Dec.{leb}
use lib.ListN.{length, get_or}
use Rattle.array.specs.declared.moves.Way.{Way}
use Rattle.array.specs.declared.moves.Way.TheVariants.{Right, Left, Up, Down}
use Rattle.array.specs.Cells.{is_board, cells}
use Rattle.light.specs.Lane.{swapped_lane}
use Rattle.lanes.specs.declared.Joining.TheVariants.{Add, Copy}
use Rattle.lanes.specs.Machine.{State}
use Rattle.sums.specs.Sums.{plus, minus, combined_words}
use Rattle.sums.proofs.Taking.{taken}
use Rattle.lanes.specs.Runs.{ran_words}
use Rattle.lanes.specs.Inside.{Lane, Moves, swapped_state}
use Rattle.lanes.proofs.Held.{board_known, sizes, lane_load, lane-words, ran-lane, swapped-lane, combined_lane}
use Rattle.prefix.specs.Programs.{prefixed}
use Rattle.prefix.specs.Results.{prefix_sum_words, prefix_sum_lane}
use Rattle.prefix.specs.Inside.{summed, copied, RowsAndColumns, GroupSums, Modified, Finished}
use Rattle.prefix.proofs.Adding.{parts_are, prefix_sum_lanes, prefix_sum-all}

-- runs over whole lines
sums : (s : ℕ) (w : Way) {l l' : List ℕ} {σ : State ℕ} → l' ≡ ran_words s w Add 0 (s - 1) l → Lane s l σ → Lane s l' (summed s w σ)
sums s w e h = ran-lane s w Add 0 (s - 1) (omega arith) (omega arith) e h

copies : (s : ℕ) (w : Way) {l l' : List ℕ} {σ : State ℕ} → l' ≡ ran_words s w Copy (s - 1) (s - 1) l → Lane s l σ → Lane s l' (copied s w σ)
copies s w e h = ran-lane s w Copy (s - 1) (s - 1) (omega arith) (omega arith) e h

-- a lane of a board that took another's words
took : (s : ℕ) (l : List ℕ) {m l' : List ℕ} {σ : State ℕ} → l' ≡ combined_words (λ own x. x) l m → length l ≡ cells s → Lane s m σ → Lane s l' σ
took s l {m} e n h = rw (e ∙ taken l m (n ∙ sym h.board.whole)) h

pub rows_columns : (s : ℕ) (c : List ℕ) {r r' c₁ c' : List ℕ} → length c ≡ length r → r' ≡ ran_words s Right Add 0 (s - 1) r → c₁ ≡ combined_words (λ own x. x) c r'
    → c' ≡ ran_words s Down Add 0 (s - 1) c₁ → RowsAndColumns s r r' c'
rows_columns s c n x e y = record { rows = λ R hr. sums s Right x hr; columns = λ R hr. sums s Down y (took s c e (n ∙ hr.board.whole) (sums s Right x hr)) }

pub group_sums : (s : ℕ) (y z : List ℕ) {c y₁ y₂ y' z₁ z' : List ℕ} → length y ≡ length c → length z ≡ length c → y₁ ≡ combined_words (λ own x. x) y c
    → y₂ ≡ swapped_lane s y₁ → y' ≡ ran_words s Right Add 0 (s - 1) y₂ → z₁ ≡ combined_words (λ own x. x) z y' → z' ≡ ran_words s Down Add 0 (s - 1) z₁
    → GroupSums s c y' z'
group_sums s y z {c} {y' = y'} ny nz ty sw ry tz rz = record { rows = along; columns = λ C hc. sums s Down rz (took s z tz (nz ∙ hc.board.whole) (along C hc)) }
  where
    along : (C : State ℕ) → Lane s c C → Lane s y' (summed s Right (swapped_state C))
    along C hc = sums s Right ry (swapped-lane s sw (took s y ty (ny ∙ hc.board.whole) hc))

-- one lane added and another taken off
balanced : (s : ℕ) {l m k l' : List ℕ} {σ τ υ : State ℕ} → l' ≡ combined_words minus (combined_words plus l m) k → Lane s l σ → Lane s m τ → Lane s k υ
    → Lane s l' (λ c d a b. minus (plus (σ c d a b) (τ c d a b)) (υ c d a b))
balanced s e hl hm hk = combined_lane s minus e (combined_lane s plus refl hl hm) hk

-- what came to a cell is what its partner has, so it may be taken off behind the light
pub modify_moves : (s : ℕ) {c y z z₁ z₂ z₃ z₄ z₅ : List ℕ} → z₁ ≡ combined_words minus z y → z₂ ≡ ran_words s Left Copy (s - 1) (s - 1) z₁
    → z₃ ≡ combined_words plus z₂ y → z₄ ≡ swapped_lane s z₃ → z₅ ≡ combined_words minus z₄ c → Modified s c y z z₅
modify_moves s e₁ x e₃ e₄ e₅ = record {
  so = λ C Y Z hc hy hz. combined_lane s minus e₅ (swapped-lane s e₄ (combined_lane s plus e₃ (copies s Left x (combined_lane s minus e₁ hz hy)) hy)) hc;
}

pub finish_moves : (s : ℕ) {r c z z₁ z₂ z₃ r' : List ℕ} → z₁ ≡ ran_words s Up Copy (s - 1) (s - 1) z → z₂ ≡ combined_words minus (combined_words plus z₁ c) r
    → z₃ ≡ ran_words s Left Copy (s - 1) (s - 1) z₂ → r' ≡ combined_words plus r z₃ → Finished s r c z r'
finish_moves s x e₂ y e₃ = record {
  so = λ R C M hr hc hm. combined_lane s plus e₃ hr (copies s Left y (balanced s e₂ (copies s Up x hm) hc hr));
}

pub prefix_lanes_moves : (s : ℕ) {r₀ r₁ r₂ c y z₁ z₂ : List ℕ} → RowsAndColumns s r₀ r₁ c → GroupSums s c y z₁
    → Modified s c y z₁ z₂ → Finished s r₁ c z₂ r₂ → Moves s (prefixed s) r₀ r₂
prefix_lanes_moves s x y z w = record {
  so = λ R hr.
      let k = x.columns R hr in
      rw (prefix_sum_lanes s R, ← parts_are s R) (w.so _ _ _ (x.rows R hr) k (z.so _ _ _ k (y.rows _ k) (y.columns _ k)));
}

pub prefix_done : (s : ℕ) (l l' : List ℕ) → is_board s (length l) ≡ true → ((i : ℕ) → get_or l i 0 < 2 ^ 32) → Moves s (prefixed s) l l' → l' ≡ prefix_sum_lane s l
prefix_done s l l' b small x =
    let k = board_known s (length l) b in
    rw b (lane-words (x.so _ (lane_load k)) ∙ prefix_sum-all s l k.least small)

-- room for 4,096 words is room for every board
pub all_within : (s : ℕ) (l : List ℕ) {l' : List ℕ}
    → l' ≡ cond (leb (length l) 4096 && leb 4096 4096) (prefix_sum_lane s l) l → l' ≡ prefix_sum_lane s l
all_within s l e = e ∙ go (leb (length l) 4096) (is_board s (length l)) refl refl
  where
    go : (t u : Bool) → leb (length l) 4096 ≡ t → is_board s (length l) ≡ u
        → cond (t && true) (cond u (prefix_sum_words s l) l) l ≡ cond u (prefix_sum_words s l) l
    go true u h k = refl
    go false false h k = refl
    go false true h k = absurd (omega (arith, (sizes (board_known s (length l) k)).few, leb-false (length l) 4096 h))
