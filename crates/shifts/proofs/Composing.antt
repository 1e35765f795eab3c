-- How the parts of the code make up a shift.
use Prim.Native.Nat.{ℕ, ◌+◌, ◌*◌, ◌<◌, ◌≤◌}
use mathlib.Core.Path.{◌≡◌, refl, sym, ap, ap₂, ◌∙◌}
use mathlib.Core.Bool.{Bool, true, cond}
use mathlib.Core.List.{List}
use native.Mathlib.Omega.{arith}
use lib.Arith.{digits_div, digits_mod}
use lib.IntN.{ℤ}
use lib.ListN.{length, get_or}
use Rattle.runs.specs.declared.Run.{Run}
use Rattle.array.specs.declared.moves.Way.{Way}
use Rattle.shiftlists.specs.declared.Axis.{Axis}
use Rattle.shiftlists.specs.declared.Distance.{Distance}
use Rattle.shiftlists.specs.declared.Edge.{Edge}
use Rattle.shiftlists.specs.declared.Edge.TheVariants.{ZeroFill, Circular}
use borrow.Author.Tests.{lt-ltb, le-ltb}
use Rattle.laws.proofs.Tables.{entries-all}
use Rattle.array.specs.Cells.{place, row, column, is_board}
use Rattle.array.specs.Moves.{opposite}
use Rattle.shiftlists.specs.Shifts.{distance_of, within, forth_moves, back_moves, shift_runs}
use Rattle.array.proofs.Board.{place_of}
use Rattle.light.specs.Lane.{swapped_lane}
use Rattle.lanes.specs.declared.Joining.TheVariants.{Fill}
use Rattle.lanes.specs.Machine.{State, at, load, unload}
use Rattle.lanes.specs.Stages.{position}
use Rattle.lanes.specs.Runs.{ran_words}
use Rattle.lanes.specs.Inside.{Lane, Moves, swapped_state}
use Rattle.lanes.proofs.Coordinates.{place<}
use Rattle.lanes.proofs.Held.{board_known, lane_load, lane-words, ran-lane, swapped-lane, cellwise-lane}
use Rattle.shifts.specs.declared.Shift.{Shift}
use Rattle.shifts.specs.Results.{shift_lane}
use Rattle.shifts.specs.Inside.{takes, mesh_shift, shift_on, chosen, taken_below}
use Rattle.shifts.proofs.Shifting.{shift_of, shift-lane, shift-all}

position_at : (s c d a b : ℕ) (w : Way) → a < s → b < s → position w (row s (place s (at s c d a b))) (column s (place s (at s c d a b))) ≡ position w a b
position_at s c d a b w ha hb = rw (place_of s (c * s + d) (a * s + b) (place< ha hb), digits_div a hb, digits_mod a hb)

chosen-lane : (s : ℕ) (w : Way) (x : Shift) {l m : List ℕ} {σ τ : State ℕ} → Lane s l σ → Lane s m τ
    → Lane s (chosen s w x l m) (λ c d a b. cond (takes x (position w a b)) (τ c d a b) (σ c d a b))
chosen-lane s w x {l} {m} {σ} {τ} h k =
    cellwise-lane s (λ i own. cond (takes x (position w (row s (place s i)) (column s (place s i)))) (get_or m i 0) own)
    (λ c d a b y. cond (takes x (position w a b)) (τ c d a b) y)
    (λ c d a b y hc hd ha hb. ap₂ (λ p z. cond (takes x p) z y) (position_at s c d a b w ha hb) (k.holds.is c d a b hc hd ha hb)) h

pub shift_lanes : (s : ℕ) (w : Way) (x : Shift) {l l₁ l₂ b₁ b₂ : List ℕ} (v : Way) → x.forth ≤ s → x.around ≤ s → v ≡ opposite w
    → b₁ ≡ l → l₁ ≡ ran_words s w Fill 0 x.forth l → b₂ ≡ ran_words s v Fill 0 x.around b₁
    → l₂ ≡ chosen s w x l₁ b₂ → Moves s (mesh_shift s w x) l l₂
shift_lanes s w x {b₁ = b₁} v m n o e forth around f = record {
  so = λ σ h.
      rw f (chosen-lane s w x (ran-lane s w Fill 0 x.forth (omega arith) m forth h)
      (ran-lane s (opposite w) Fill 0 x.around (omega arith) n (around ∙ ap (λ (u : Way). ran_words s u Fill 0 x.around b₁) o) (rw e h)));
}

-- where nothing goes around each cell keeps its word, and with zero fill each takes the one that came around
pub chosen_none : (s : ℕ) (w : Way) (x : Shift) (l m : List ℕ) → x.around ≡ 0 → l ≡ chosen s w x l m
chosen_none s w x l m e = rw (le-ltb 0 x.around (omega arith)) (entries-all (λ i. get_or l i 0) _ 0 l refl (λ k u. refl))

pub chosen_all : (s : ℕ) (w : Way) (x : Shift) (l m : List ℕ) → 0 < x.around → x.edge ≡ ZeroFill → length m ≡ length l → m ≡ chosen s w x l m
chosen_all s w x l m h e long = rw (lt-ltb 0 x.around h, e) (entries-all (λ i. get_or m i 0) _ 0 m long (λ k u. refl))

pub chosen_below : (s : ℕ) (w : Way) (x : Shift) (l m : List ℕ) → 0 < x.around → x.edge ≡ Circular → taken_below s w x.forth l m ≡ chosen s w x l m
chosen_below s w x l m h e = rw (lt-ltb 0 x.around h, e)

pub shift-groups : (s : ℕ) (f : State ℕ → State ℕ) {l l₁ l₂ l₃ : List ℕ} → l₁ ≡ swapped_lane s l → Moves s f l₁ l₂ → l₃ ≡ swapped_lane s l₂
    → Moves s (λ σ. swapped_state (f (swapped_state σ))) l l₃
shift-groups s f e x e₃ = record { so = λ σ h. swapped-lane s e₃ (x.so _ (swapped-lane s e h)) }

-- the test of the distance, as the machine reads it
pub within_is : (s : ℕ) (t : Bool) (d : Distance) (z k : ℤ) → z ≡ k → d ≡ distance_of z → t ≡ within s d → within s (distance_of k) ≡ t
within_is s t d z k e f g = ap (λ y. within s (distance_of y)) (sym e) ∙ ap (within s) (sym f) ∙ sym g

-- a shift's moves are those of its list
module _ (s : ℕ) (axis : Axis) (edge : Edge) (k : ℤ) (runs : List Run) (d : Run) (near : within s (distance_of k) ≡ true) (e : runs ≡ shift_runs s axis edge k) where
  pub forth_times : (get_or runs 1 d).times ≡ forth_moves edge s (distance_of k)
  forth_times = rw (e, near)

  pub home_times : (get_or runs 2 d).times ≡ back_moves edge s (distance_of k)
  home_times = rw (e, near)

pub shift_done : (s : ℕ) (axis : Axis) (edge : Edge) (k : ℤ) (l l' : List ℕ) → is_board s (length l) ≡ true → within s (distance_of k) ≡ true
    → Moves s (shift_on s axis (shift_of edge s (distance_of k))) l l' → l' ≡ shift_lane s axis edge k l
shift_done s axis edge k l l' b h x =
    let z = board_known s (length l) b in
    rw (b, h)
    (lane-words (x.so _ (lane_load z))
    ∙ ap (λ f. unload s f) (sym (shift-lane s axis edge (distance_of k) (load s l)))
    ∙ shift-all s axis edge k l z.least h)
