-- A shift by nothing: with either edge nothing moves along the line, and the words stay.
use Prim.Native.Nat.{ℕ, ◌+◌, ◌-◌, ◌≤◌, ◌<◌}
use mathlib.Core.Path.{◌≡◌, refl, sym, ap, ◌∙◌}
use mathlib.Core.Bool.{Bool, true, false, ◌&&◌}
use mathlib.Core.Option.{some}
use mathlib.Core.List.{List}
use native.Mathlib.Omega.{arith}
use native.Mathlib.Nat.{add-mod_right, mod-eq_of_lt}
use lib.IntN.{pos}
use lib.ListN.{length}
use borrow.Author.Tests.{lt-ltb, le-ltb}
use Rattle.laws.proofs.Bools.{both_left}
use Rattle.shiftlists.specs.declared.Axis.{Axis}
use Rattle.shiftlists.specs.declared.Axis.TheVariants.{MeshRow, MeshColumn, GroupRow, GroupColumn}
use Rattle.shiftlists.specs.declared.Edge.{Edge}
use Rattle.shiftlists.specs.declared.Edge.TheVariants.{ZeroFill, Circular}
use Rattle.array.specs.Cells.{is_board}
use Rattle.shiftlists.specs.Shifts.{distance_of, within, shift_list, shift_runs}
use Rattle.lanes.specs.Machine.{State, load}
use Rattle.shifts.specs.Results.{came_from, word_from, shifted, shift_lane}
use Rattle.lanes.proofs.Coordinates.{unload_cong, unloaded, holds_load}
use Rattle.lanes.proofs.Held.{board_known}

-- its list: a swap before and a swap behind where it moves groups, and else no move
pub by_nothing_listed : (s : ℕ) (axis : Axis) (edge : Edge) → 1 ≤ s → shift_runs s axis edge (pos 0) ≡ shift_list axis 0 0
by_nothing_listed s axis ZeroFill h = rw (lt-ltb 0 s h)
by_nothing_listed s axis Circular h = rw (lt-ltb 0 s h)

came-from_itself : (edge : Edge) (s p : ℕ) → p < s → came_from edge s (distance_of (pos 0)) p ≡ some p
came-from_itself ZeroFill s p h =
    let q : p + 0 - 0 ≡ p = omega arith in
    rw (q, le-ltb (p + 0) 0 (omega arith), lt-ltb p s h)
came-from_itself Circular s p h =
    let q : s - 0 ≡ s = omega arith in
    rw (q, add-mod_right p s, mod-eq_of_lt h)

module _ (s : ℕ) (edge : Edge) (σ : State ℕ) (c d a b : ℕ) where
  stays : (axis : Axis) → c < s → d < s → a < s → b < s → shifted axis (came_from edge s (distance_of (pos 0))) σ c d a b ≡ σ c d a b
  stays MeshRow hc hd ha hb = ap (word_from (λ j. σ c d a j)) (came-from_itself edge s b hb)
  stays MeshColumn hc hd ha hb = ap (word_from (λ i. σ c d i b)) (came-from_itself edge s a ha)
  stays GroupRow hc hd ha hb = ap (word_from (λ j. σ c j a b)) (came-from_itself edge s d hd)
  stays GroupColumn hc hd ha hb = ap (word_from (λ i. σ i d a b)) (came-from_itself edge s c hc)

-- and every lane is left as it was
pub by_nothing_stays : (s : ℕ) (axis : Axis) (edge : Edge) (l : List ℕ) → shift_lane s axis edge (pos 0) l ≡ l
by_nothing_stays s axis edge l = go (is_board s (length l) && within s (distance_of (pos 0))) refl
  where
    go : (t : Bool) → (is_board s (length l) && within s (distance_of (pos 0))) ≡ t → shift_lane s axis edge (pos 0) l ≡ l
    go true e =
        let z = board_known s (length l) (both_left (is_board s (length l)) (within s (distance_of (pos 0))) e) in
        rw e
        (unload_cong s _ _ z.least (λ c d a b. stays s edge (load s l) c d a b axis)
        ∙ sym (unloaded s l (load s l) z.least z.whole (holds_load s l)))
    go false e = rw e
