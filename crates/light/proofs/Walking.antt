-- The swap of a slot's lanes as it is made: in each group the cells past its own place trade with their partners, and the records of both are counted.
use Prim.Native.Nat.{ℕ, zero, suc, ◌+◌, ◌*◌, ◌≤◌, ◌<◌}
use mathlib.Core.Path.{◌≡◌, refl, sym, ap, ap₂, ◌∙◌}
use mathlib.Core.Logic.{⊎_elim}
use mathlib.Core.Bool.{Bool, true, false, cond}
use mathlib.Core.List.{List}
use native.Mathlib.Numerals.{add-one}
use native.Mathlib.Omega.{arith}
use borrow.Author.Tests.{eq-eqb, ne_eqb, lt-ltb, le-ltb}
use lib.Dec.{eqb}
use lib.ListN.{length, get_or}
use Rattle.laws.specs.Sums.{sum}
use Rattle.laws.proofs.Deciding.{apart}
use Rattle.laws.proofs.Sums.{sum_cong, sum-blocks}
use Rattle.laws.proofs.Totals.{sum_zero, sum_few}
use Rattle.laws.proofs.Tables.{entry_at, length-entries}
use Rattle.laws.proofs.Pairing.{sum_away, sum_both}
use Rattle.array.specs.Cells.{is_side, groups, cells, cell, partner, is_board}
use Rattle.array.proofs.Board.{Side, side_known}
use Rattle.light.specs.Lane.{swapped_lane}
use Rattle.light.specs.Counts.{mark_count, leaves_of, leaving_of}
use Rattle.light.specs.Lanes.{Slots, slots, on_board, each, swapped_by}
use Rattle.light.specs.Inside.{Turned, Traded, pair_at, pairs_in, SlotsTurned, Once, Times}
use Rattle.light.proofs.Boards.{boards_known}
use Rattle.light.proofs.Turning.{board_known, board_side, paired}
use Rattle.light.proofs.Groups.{partner-at, comes_later, Trades, trades_start, trades_turn, trades_waiting, trades_end, Rounds, rounds_start, rounds_turn, rounds_end}

-- two slots' lanes are equal by each
pub slots_ext : {w m a w' m' a' : List ℕ} → w ≡ w' → m ≡ m' → a ≡ a' → slots w m a ≡ slots w' m' a'
slots_ext p q r = λ d. slots (p d) (q d) (r d)

-- a slot's lanes on a board have its side
pub slots_side : (s : ℕ) (t : Slots) → on_board s t ≡ true → is_side s ≡ true
slots_side s t b = board_side s (length t.words) (boards_known s (length t.words) (length t.marks) (length t.aims) b).words

-- in group g the cells before place p had their turn in three lanes, and their records and their partners' were counted
pub record Sweeping (s g p : ℕ) (t u : Slots) (moved : ℕ) : Type 0 where
  pub words : Trades s g p t.words u.words
  pub marks : Trades s g p t.marks u.marks
  pub aims : Trades s g p t.aims u.aims
  pub few : moved ≤ 2 * p
  pub so_far : (old : List ℕ) → Turned s (cell s g 0) old t.marks → moved ≡ sum p (pair_at s g old)

pub sweeping_start : {s g : ℕ} (t : Slots) → on_board s t ≡ true → g < groups s → Sweeping s g (g + 1) t t 0
sweeping_start {s} {g} t b h =
    let z = boards_known s (length t.words) (length t.marks) (length t.aims) b in
    record {
      words = trades_start z.words h;
      marks = trades_start z.marks h;
      aims = trades_start z.aims h;
      few = omega arith;
      so_far = λ old o. sym (sum_zero (pair_at s g old) (g + 1) (λ k u. rw (le-ltb g k (omega arith))));
    }

module _ {s g p moved : ℕ} {t u : Slots} (z : Sweeping s g p t u moved) (h : p < groups s) where
  pub sweeping_step : {v : Slots} {q r : ℕ} → q ≡ partner s (cell s g p) → Traded (cell s g p) q u v r → Sweeping s g (p + 1) t v (moved + r)
  sweeping_step {v} {q} {r} e y =
      rw y.lanes
      (record {
        words = trades_turn z.words h e;
        marks = trades_turn z.marks h e;
        aims = trades_turn z.aims h e;
        few = omega (arith, z.few, y.few);
        so_far = λ old o. let w = trades_waiting z.marks h e old o in
            rw add-one (omega (arith, z.so_far old o, y.count, ap mark_count w.0, ap mark_count w.1, counted old));
      })
    where
      counted : (old : List ℕ) → pair_at s g old p ≡ mark_count (get_or old (cell s g p) 0) + mark_count (get_or old (cell s p g) 0)
      counted old = rw (lt-ltb g p z.marks.after)

pub sweeping_end : {s g p moved : ℕ} {t u : Slots} → groups s ≤ p → is_side s ≡ true → Sweeping s g p t u moved → SlotsTurned s g t u moved
sweeping_end {s} {g} {p} {moved} h side z =
    let e : p ≡ groups s = omega (arith, z.marks.upto) in
    record {
      words = trades_end z.words h;
      marks = trades_end z.marks h;
      aims = trades_end z.aims h;
      count = λ old o. z.so_far old o ∙ ap (λ (n : ℕ). sum n (pair_at s g old)) e;
      few = omega (arith, z.few, e, (side_known s side).groups_few);
    }

-- the groups before g had their turn in three lanes
pub record Walking (s g : ℕ) (t u : Slots) (moved : ℕ) : Type 0 where
  pub words : Rounds s g t.words u.words
  pub marks : Rounds s g t.marks u.marks
  pub aims : Rounds s g t.aims u.aims
  pub few : moved ≤ g * 128
  pub so_far : moved ≡ sum g (λ k. pairs_in s k t.marks)

pub walking_start : (s : ℕ) (t : Slots) → on_board s t ≡ true → Walking s 0 t t 0
walking_start s t b =
    let z = boards_known s (length t.words) (length t.marks) (length t.aims) b in
    record {
      words = rounds_start s t.words z.words;
      marks = rounds_start s t.marks z.marks;
      aims = rounds_start s t.aims z.aims;
      few = omega arith;
      so_far = refl;
    }

pub walking_step : {s g moved r : ℕ} {t u v : Slots} → g < groups s → Walking s g t u moved → SlotsTurned s g u v r → Walking s (g + 1) t v (moved + r)
walking_step {s} {g} {moved} {r} {t} h z y = record {
  words = rounds_turn z.words h y.words;
  marks = rounds_turn z.marks h y.marks;
  aims = rounds_turn z.aims h y.aims;
  few = omega (arith, z.few, y.few);
  so_far = rw add-one (ap₂ ◌+◌ z.so_far (y.count t.marks z.marks.turns));
}

-- the records of all pairs are those that leave their cells
module _ {s : ℕ} (k : Side s) (m : List ℕ) where
  abbrev marked : ℕ → ℕ → ℕ
  marked g p = mark_count (get_or m (cell s g p) 0)

  own_place : (g p : ℕ) → g < groups s → p < groups s → eqb (partner s (cell s g p)) (cell s g p) ≡ eqb p g
  own_place g p h u =
      rw (partner-at s g p u)
      (⊎_elim
      (λ l. rw (ne_eqb (cell s p g) (cell s g p) (λ e. omega (arith, comes_later (groups s) p g l h)), ne_eqb p g (λ e. omega arith)))
      (λ l. ⊎_elim
      (λ n. rw (ne_eqb (cell s p g) (cell s g p) (λ e. omega (arith, comes_later (groups s) g p n u)), ne_eqb p g (λ e. omega arith)))
      (λ n. let e : p ≡ g = omega arith in rw (e, eq-eqb (cell s g g) (cell s g g) refl, eq-eqb g g refl))
      (apart g p))
      (apart p g))

  pairs_leaving : sum (groups s) (λ g. pairs_in s g m) ≡ leaving_of s m
  pairs_leaving =
      sum_both (groups s) marked
      ∙ sum_cong (groups s) (λ g h. sum_cong (groups s) (λ p u. ap (λ (b : Bool). cond b 0 (marked g p)) (sym (own_place g p h u))))
      ∙ sym (sum-blocks (groups s) (groups s) (λ i. leaves_of (partner s i) i (get_or m i 0)))

leaving_few : (s : ℕ) → Side s → (m : List ℕ) → leaving_of s m ≤ 4096
leaving_few s k m = omega (arith, k.cells_few, sum_few (λ i. leaves_of (partner s i) i (get_or m i 0)) 1 (λ i. few (eqb (partner s i) i) (eqb (get_or m i 0) 0)) (cells s))
  where
    few : (a b : Bool) → cond a 0 (cond b 0 1) ≤ 1
    few true b = omega arith
    few false true = omega arith
    few false false = omega arith

-- all groups had their turn: each lane is swapped, and all records that leave are counted
pub walking_end : {s g moved : ℕ} {t u : Slots} → groups s ≤ g → Walking s g t u moved → Once s t u moved
walking_end {s} {g} {moved} {t} h z =
    let k = board_known s (length t.marks) z.marks.board in
    let full : g ≡ groups s = omega (arith, z.marks.upto) in
    let e : moved ≡ leaving_of s t.marks = z.so_far ∙ ap (λ (n : ℕ). sum n (λ g. pairs_in s g t.marks)) full ∙ pairs_leaving k t.marks in
    record {
      lanes = slots_ext (rounds_end z.words h) (rounds_end z.marks h) (rounds_end z.aims h);
      count = e;
      few = omega (arith, e, leaving_few s k t.marks);
    }

-- a swap takes as many records from their cells as the one before it did
leaving-swapped : (s : ℕ) (m : List ℕ) → is_board s (length m) ≡ true → leaving_of s (swapped_lane s m) ≡ leaving_of s m
leaving-swapped s m b = sum_cong (cells s) there ∙ sum_away (paired s (board_known s (length m) b)) (λ i. mark_count (get_or m i 0))
  where
    there : (i : ℕ) → i < cells s → leaves_of (partner s i) i (get_or (swapped_lane s m) i 0) ≡ leaves_of (partner s i) i (get_or m (partner s i) 0)
    there i h =
        ap (λ (n : ℕ). leaves_of (partner s i) i n) {x = get_or (swapped_lane s m) i 0} {y = get_or m (partner s i) 0}
        (rw b (entry_at (λ j. get_or m (partner s j) 0) (cells s) i 0 h))

own_board : (s : ℕ) → is_side s ≡ true → is_board s (cells s) ≡ true
own_board s e = rw (e, eq-eqb (cells s) (cells s) refl)

-- many swaps, one after the other
pub times_start : (s : ℕ) (t : Slots) → Times s 0 t t 0
unfolding swapped_by
times_start s t = record { lanes = refl; count = refl; few = omega arith }

lane_board : (s n : ℕ) (l : List ℕ) → is_board s (length l) ≡ true → is_board s (length (swapped_by s n l)) ≡ true
unfolding swapped_by
lane_board s zero l b = b
lane_board s (suc n) l b = let c = lane_board s n l b in rw (c, length-entries (λ i. get_or (swapped_by s n l) (partner s i) 0) 0 (cells s)) (own_board s (board_side s (length l) b))

leaving_times : (s n : ℕ) (m : List ℕ) → is_board s (length m) ≡ true → leaving_of s (swapped_by s n m) ≡ leaving_of s m
unfolding swapped_by
leaving_times s zero m b = refl
leaving_times s (suc n) m b = leaving-swapped s (swapped_by s n m) (lane_board s n m b) ∙ leaving_times s n m b

pub times_next : {s j : ℕ} {t u v : Slots} {r r' : ℕ} → on_board s t ≡ true → Times s j t u r → Once s u v r' → Times s (j + 1) t v r'
unfolding swapped_by
times_next {s} {j} {t} {u} {v} {r} {r'} b z y = rw add-one (record {
  lanes = y.lanes ∙ ap (each (swapped_lane s)) z.lanes;
  count = rw (ne_eqb (suc j) 0 (λ e. omega arith)) (y.count ∙ ap (λ (x : Slots). leaving_of s x.marks) z.lanes ∙ leaving_times s j t.marks (boards_known s (length t.words) (length t.marks) (length t.aims) b).marks);
  few = y.few;
})
