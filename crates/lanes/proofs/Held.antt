-- Lanes that hold states: what a run, a swap and a combining make of them.
use Prim.Native.Nat.{ℕ, ◌+◌, ◌*◌, ◌≤◌, ◌<◌}
use mathlib.Core.Path.{◌≡◌, sym, ap, ◌∙◌}
use mathlib.Core.Bool.{true, ◌&&◌}
use mathlib.Core.List.{List}
use native.Mathlib.Nat.{mul-pos}
use lib.Arith.{digits_div, digits_mod}
use lib.Dec.{eqb, leb}
use lib.ListN.{length, get_or}
use borrow.Author.Tests.{le-leb, leb-true, eq-eqb, eqb-true}
use Rattle.laws.proofs.Bools.{both_left, both_right}
use Rattle.laws.proofs.Numbers.{square_grows, fourth_grows}
use Rattle.laws.proofs.Tables.{entry_at, length-entries}
use Rattle.array.specs.declared.moves.Way.{Way}
use Rattle.array.specs.Cells.{is_side, groups, cells, partner, is_board}
use Rattle.array.proofs.Board.{group_of, place_of, side_known}
use Rattle.light.specs.Lane.{swapped_lane}
use Rattle.lanes.specs.declared.Joining.{Joining}
use Rattle.lanes.specs.Machine.{State, all, at, load, unload, value_at}
use Rattle.sums.specs.Sums.{cellwise, combined_words}
use Rattle.lanes.specs.Runs.{running, is_run, ran_words}
use Rattle.lanes.specs.Inside.{FitsBoard, HoldsWords, Lane, Moved, swapped_state}
use Rattle.lanes.proofs.Agreeing.{all_same}
use Rattle.lanes.proofs.Coordinates.{place<, at<, partner-at, holds_load, unloaded}

-- what is known of a board
pub record Sizes (s n : ℕ) : Type 0 where
  pub few : n ≤ 4096
  pub groups_few : groups s ≤ 64
  pub groups-pos : 0 < groups s

pub sizes : {s n : ℕ} → FitsBoard s n → Sizes s n
sizes b = record { few = rw b.whole (fourth_grows b.most); groups_few = square_grows b.most; groups-pos = mul-pos b.least b.least }

pub board_known : (s n : ℕ) → is_board s n ≡ true → FitsBoard s n
board_known s n h =
    let side = side_known s (both_left (is_side s) (eqb n (cells s)) h) in
    record { least = side.least; most = side.most; whole = eqb-true n (cells s) (both_right (is_side s) (eqb n (cells s)) h) }

pub board_is : (s n : ℕ) → FitsBoard s n → is_board s n ≡ true
board_is s n b = rw (le-leb 1 s b.least, le-leb s 8 b.most) (eq-eqb n (cells s) b.whole)

-- a run on a board
pub record OnBoard (s e n m : ℕ) : Type 0 where
  pub board : FitsBoard s m
  pub start : e ≤ s
  pub most : n ≤ s

pub run_known : (s e n m : ℕ) → (is_board s m && is_run s e n) ≡ true → OnBoard s e n m
run_known s e n m h =
    let r = both_right (is_board s m) (is_run s e n) h in
    record {
      board = board_known s m (both_left (is_board s m) (is_run s e n) h);
      start = leb-true e s (both_left (leb e s) (leb n s) r);
      most = leb-true n s (both_right (leb e s) (leb n s) r);
    }

run_is : (s e n m : ℕ) → FitsBoard s m → e ≤ s → n ≤ s → (is_board s m && is_run s e n) ≡ true
run_is s e n m b h h' = rw (board_is s m b, le-leb e s h, le-leb n s h')

-- a list's own state, and the list of a state
pub lane_load : {s : ℕ} {l : List ℕ} → FitsBoard s (length l) → Lane s l (load s l)
lane_load {s} {l} b = record { board = b; holds = holds_load s l }

pub lane-words : {s : ℕ} {l : List ℕ} {σ : State ℕ} → Lane s l σ → l ≡ unload s σ
lane-words {s} {l} {σ} z = unloaded s l σ z.board.least z.board.whole z.holds

-- a lane of a board as a list
pub moved_words : (s : ℕ) (f : State ℕ → State ℕ) (l l' : List ℕ) → FitsBoard s (length l) → length l' ≡ length l → Moved s f l l' → l' ≡ unload s (f (load s l))
moved_words s f l l' b e x = unloaded s l' (f (load s l)) b.least (e ∙ b.whole) (x.so (load s l) (holds_load s l))

pub ran_moved : (s : ℕ) (w : Way) (j : Joining) (e n : ℕ) (l l' : List ℕ) → (is_board s (length l) && is_run s e n) ≡ true → length l' ≡ length l
    → Moved s (all s (running w j e n)) l l' → l' ≡ ran_words s w j e n l
ran_moved s w j e n l l' h size x = rw h (moved_words s (all s (running w j e n)) l l' (run_known s e n (length l) h).board size x)

value_at_lem : (s : ℕ) (σ : State ℕ) (c d a b : ℕ) → d < s → a < s → b < s → value_at s σ (at s c d a b) ≡ σ c d a b
value_at_lem s σ c d a b hd ha hb =
    rw (group_of s (c * s + d) (a * s + b) (place< ha hb), place_of s (c * s + d) (a * s + b) (place< ha hb), digits_div c hd, digits_mod c hd, digits_div a hb, digits_mod a hb)

pub unload_holds : (s : ℕ) (σ : State ℕ) → HoldsWords s (unload s σ) σ
unload_holds s σ = record {
  is = λ c d a b hc hd ha hb. entry_at (value_at s σ) (cells s) (at s c d a b) 0 (at< s c d a b hc hd ha hb) ∙ value_at_lem s σ c d a b hd ha hb;
}

-- a run
pub ran-lane : (s : ℕ) (w : Way) (j : Joining) (e n : ℕ) {l l' : List ℕ} {σ : State ℕ} → e ≤ s → n ≤ s → l' ≡ ran_words s w j e n l → Lane s l σ
    → Lane s l' (all s (running w j e n) σ)
ran-lane s w j e n {l} {l'} {σ} h h' q z =
    let t = running w j e n in
    let is : l' ≡ unload s (all s t (load s l)) = rw (run_is s e n (length l) z.board h h') at q in
    let same = all_same s t {σ = load s l} {τ = σ} (record { are = z.holds.is }) in
    rw is (record {
      board = record { least = z.board.least; most = z.board.most; whole = length-entries (value_at s (all s t (load s l))) 0 (cells s) };
      holds = record { is = λ c d a b hc hd ha hb. (unload_holds s (all s t (load s l))).is c d a b hc hd ha hb ∙ same.are c d a b hc hd ha hb };
    })

-- a swap
pub swapped-lane : (s : ℕ) {l l' : List ℕ} {σ : State ℕ} → l' ≡ swapped_lane s l → Lane s l σ → Lane s l' (swapped_state σ)
swapped-lane s {l} {l'} {σ} q z =
    let is : l' ≡ _ = rw (board_is s (length l) z.board) at q in
    rw is (record {
      board = record { least = z.board.least; most = z.board.most; whole = length-entries (λ i. get_or l (partner s i) 0) 0 (cells s) };
      holds = record {
        is = λ c d a b hc hd ha hb.
            entry_at (λ i. get_or l (partner s i) 0) (cells s) (at s c d a b) 0 (at< s c d a b hc hd ha hb)
            ∙ ap (λ i. get_or l i 0) (partner-at s c d a b ha hb) ∙ z.holds.is a b c d ha hb hc hd;
      };
    })

-- a lane made anew cell by cell
pub cellwise-lane : (s : ℕ) (f : ℕ → ℕ → ℕ) (F : State (ℕ → ℕ)) {l : List ℕ} {σ : State ℕ}
    → ((c d a b x : ℕ) → c < s → d < s → a < s → b < s → f (at s c d a b) x ≡ F c d a b x) → Lane s l σ → Lane s (cellwise f l) (λ c d a b. F c d a b (σ c d a b))
cellwise-lane s f F {l} e z = record {
  board = record { least = z.board.least; most = z.board.most; whole = length-entries (λ i. f i (get_or l i 0)) 0 (length l) ∙ z.board.whole };
  holds = record {
    is = λ c d a b hc hd ha hb.
        entry_at (λ i. f i (get_or l i 0)) (length l) (at s c d a b) 0 (rw z.board.whole (at< s c d a b hc hd ha hb))
        ∙ e c d a b _ hc hd ha hb ∙ ap (F c d a b) (z.holds.is c d a b hc hd ha hb);
  };
}

pub combined_lane : (s : ℕ) (op : ℕ → ℕ → ℕ) {l m l' : List ℕ} {σ τ : State ℕ} → l' ≡ combined_words op l m → Lane s l σ → Lane s m τ
    → Lane s l' (λ c d a b. op (σ c d a b) (τ c d a b))
combined_lane s op {l} {m} {l'} {σ} {τ} q x y =
    let is : l' ≡ cellwise (λ i own. op own (get_or m i 0)) l = rw (eq-eqb (length l) (length m) (x.board.whole ∙ sym y.board.whole)) at q in
    rw is (cellwise-lane s (λ i own. op own (get_or m i 0)) (λ c d a b own. op own (τ c d a b))
    (λ c d a b own hc hd ha hb. ap (op own) (y.holds.is c d a b hc hd ha hb)) x)
