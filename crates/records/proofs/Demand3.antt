-- The records of concentrate, for every side and every choice of marks, as they are in the lanes. After each single move the records present are exactly those
-- that were marked at the start, each once with its word and rank, each in the cell that the move rule gives; no cell holds more than two; at the end the record of
-- rank r stands by itself in cell r; and the list has exactly 7(s − 1) electronic moves and two by light.
-- A cell's slots are its front lanes and its spare lanes. What concentrate promises of its lanes after n moves is `Stood Concentrate s n` (specs/Entries.antt), so each
-- theorem here begins from that promise, and from marks and aims that were not refused, `Good` (what that is for concentrate says `RankedAims`).
-- The last two, `cut_records` and `full_records`, begin from what an entry was lent alone: they say that it is accepted too.
use Prim.Native.Nat.{ℕ, ◌-◌, ◌*◌, ◌≤◌, ◌<◌}
use mathlib.Core.Path.{◌≡◌, refl, sym, ap, ◌∙◌}
use mathlib.Core.Bool.{true}
use mathlib.Core.Logic.{◌⊎◌, inl, inr, ⊎_elim}
use mathlib.Core.List.{List}
use native.Mathlib.Nat.{sub_self}
use native.Mathlib.Omega.{arith}
use lib.ListN.{length, get_or}
use Rattle.laws.proofs.Deciding.{apart}
use Rattle.array.specs.declared.moves.Way.{Way}
use Rattle.answers.specs.declared.Answer.{Answer}
use Rattle.laws.specs.Lent.{Lent, old}
use Rattle.array.proofs.Board.{side_known}
use Rattle.array.specs.Cells.{is_side, cells, group}
use Rattle.runs.specs.Runs.{moves, electronic, swaps}
use Rattle.answers.specs.Answers.{accepted_by}
use Rattle.lists.specs.declared.Trip.{Trip}
use Rattle.lists.specs.declared.Trip.TheVariants.{Concentrate, Distribute}
use Rattle.lists.specs.Lists.{total_moves, concentrate_runs, runs_of}
use Rattle.lists.proofs.Counts.{concentrate_electronic, concentrate_swaps, concentrate_length}
use Rattle.travel.specs.Travel.{toward, heading}
use Rattle.travel.proofs.Collide.{at_the_end}
use Rattle.travel.proofs.Range.{same-group, heading<}
use Rattle.slots.specs.declared.Rec.{Rec}
use Rattle.slots.specs.declared.Cell.{Cell}
use Rattle.slots.specs.Cells.{nothing, empty, alone, Sized}
use Rattle.slots.specs.Lanes.{cells_after}
use Rattle.course.specs.Showing.{content_of, Shows}
use Rattle.course.proofs.Holds.{Holds, hold0, hold1, hold2, holds_one}
use Rattle.course.proofs.Content.{Rising, Fits, At, content_holds}
use Rattle.course.proofs.Course.{shows_same}
use Rattle.course.proofs.Standing.{below, fits}
use Rattle.marks.specs.Marks.{rank_in}
use Rattle.refusals.specs.declared.Sizes.{Sizes}
use Rattle.refusals.specs.Cases.{Good}
use Rattle.refusals.specs.Cuts.{first_runs}
use Rattle.records.specs.Records.{marked_cell, count_in, record_of, cell_of}
use Rattle.records.specs.Entries.{Stood, sizes_of, FullRun, CutRun}
use Rattle.refusals.proofs.Verdicting.{Fitting}
use Rattle.refusals.proofs.Accepting.{Asked, asked_good, full_accepted, cut_accepted}
use Rattle.refusals.proofs.Aims.{RankedAims, Aimed, good_ranked, good_aimed, few_marked}
use Rattle.records.proofs.Marked.{start_rises, start_inside, start_aims, start_rising, marked_cell-rank_in, rank_past, Found, found, first_rising, aims_rise, fits_alone}

-- the slots of a cell: the front lanes, or the spare ones
pub data Slot : Type 0 where
  Front : Slot
  Spare : Slot

abbrev pub slot : Slot → Cell → Rec
slot Front c = c.front
slot Spare c = c.spare

-- b records R that stand at pos, in the slots of the cells T of a board
pub record Present (s b : ℕ) (R : ℕ → Rec) (pos : ℕ → ℕ) (T : ℕ → Cell) : Type 0 where
  -- every record is in a slot of its cell, and in no other slot of any cell
  pub somewhere : (r : ℕ) → r < b → (f : Slot) × (slot f (T (pos r)) ≡ R r)
  pub once : (r : ℕ) → r < b → (f g : Slot) (i j : ℕ) → i < cells s → j < cells s → slot f (T i) ≡ R r → slot g (T j) ≡ R r → (i ≡ j) × (f ≡ g)
  -- a slot that is marked holds a record that stands there, and no other slot holds anything
  pub nothing_else : (f : Slot) (j : ℕ) → j < cells s → ((r : ℕ) × (r < b) × (pos r ≡ j) × (slot f (T j) ≡ R r)) ⊎ (slot f (T j) ≡ nothing)
  -- of two records in a cell the one with the smaller aim is in front, and a single one is in front
  pub in_order : (r r' : ℕ) (j : ℕ) → j < cells s → r < b → r' < b → (T j).front ≡ R r → (T j).spare ≡ R r' → r < r'
  pub single_in_front : (j : ℕ) → j < cells s → (T j).front ≡ nothing → (T j).spare ≡ nothing
  -- and each is in a cell of the board
  pub in_range : (r : ℕ) → r < b → pos r < cells s

-- b records R, each alone in its cell pos, and every other cell empty
pub record EachAlone (s b : ℕ) (R : ℕ → Rec) (pos : ℕ → ℕ) (T : ℕ → Cell) : Type 0 where
  pub own_cell : (r : ℕ) → r < b → T (pos r) ≡ alone (R r)
  pub else_empty : (j : ℕ) → j < cells s → ((r : ℕ) → r < b → pos r ≡ j → ⊥) → T j ≡ empty

-- the cell in which record r ends: in concentrate cell r, in distribute the cell that its aim names
abbrev pub last_cell : Trip → List ℕ → ℕ → ℕ
last_cell Concentrate aims r = r
last_cell Distribute aims r = get_or aims r 0

-- records of rising aims are told apart by them
same_record : {b : ℕ} {R : ℕ → Rec} → Rising b R → (r r' : ℕ) → r < b → r' < b → R r ≡ R r' → r ≡ r'
same_record z r r' h h' e =
    ⊎_elim
    (λ l. absurd (omega (arith, z.rising r r' l h', ap (λ (x : Rec). x.aim) e)))
    (λ l. ⊎_elim (λ m. absurd (omega (arith, z.rising r' r m h, ap (λ (x : Rec). x.aim) e))) (λ m. omega arith) (apart r' r))
    (apart r r')

module _ {s b : ℕ} {R : ℕ → Rec} {pos : ℕ → ℕ} {T : ℕ → Cell} (z : Rising b R) (f : Fits b pos) (inside : (r : ℕ) → r < b → pos r < cells s) (o : Shows s b R pos T) where
  pub holds : (j : ℕ) → j < cells s → Holds R (At b pos j) (T j)
  holds j u = go (content_holds z pos f j)
    where
      go : Holds R (At b pos j) (content_of b R pos j) → Holds R (At b pos j) (T j)
      go (hold0 e n) = hold0 (o.shown j u ∙ e) n
      go (hold1 i e p n) = hold1 i (o.shown j u ∙ e) p n
      go (hold2 i k e l p q n) = hold2 i k (o.shown j u ∙ e) l p q n

  marked_not : (r : ℕ) → r < b → nothing ≡ R r → ⊥
  marked_not r h e = omega (arith, z.marked r h, ap (λ (x : Rec). x.mark) e)

  find : (j r : ℕ) → r < b → pos r ≡ j → Holds R (At b pos j) (T j) → (f : Slot) × (slot f (T j) ≡ R r)
  find j r h e (hold0 c n) = absurd (n r (h, e))
  find j r h e (hold1 i c p n) = (Front, ap (λ (x : Cell). x.front) c ∙ ap R (sym (n r (h, e))))
  find j r h e (hold2 i k c l p q n) =
      ⊎_elim (λ x. (Front, ap (λ (x : Cell). x.front) c ∙ ap R (sym x))) (λ x. (Spare, ap (λ (x : Cell). x.spare) c ∙ ap R (sym x))) (n r (h, e))

  held : (g : Slot) (j : ℕ) → Holds R (At b pos j) (T j) → ((r : ℕ) × (r < b) × (pos r ≡ j) × (slot g (T j) ≡ R r)) ⊎ (slot g (T j) ≡ nothing)
  held Front j (hold0 c n) = inr (ap (λ (x : Cell). x.front) c)
  held Spare j (hold0 c n) = inr (ap (λ (x : Cell). x.spare) c)
  held Front j (hold1 i c p n) = inl (i, p.0, p.1, ap (λ (x : Cell). x.front) c)
  held Spare j (hold1 i c p n) = inr (ap (λ (x : Cell). x.spare) c)
  held Front j (hold2 i k c l p q n) = inl (i, p.0, p.1, ap (λ (x : Cell). x.front) c)
  held Spare j (hold2 i k c l p q n) = inl (k, q.0, q.1, ap (λ (x : Cell). x.spare) c)

  order : (r r' j : ℕ) → r < b → r' < b → (T j).front ≡ R r → (T j).spare ≡ R r' → Holds R (At b pos j) (T j) → r < r'
  order r r' j h h' e e' (hold0 c n) = absurd (marked_not r h (sym (ap (λ (x : Cell). x.front) c) ∙ e))
  order r r' j h h' e e' (hold1 i c p n) = absurd (marked_not r' h' (sym (ap (λ (x : Cell). x.spare) c) ∙ e'))
  order r r' j h h' e e' (hold2 i k c l p q n) =
      omega (arith, same_record z r i h p.0 (sym e ∙ ap (λ (x : Cell). x.front) c), same_record z r' k h' q.0 (sym e' ∙ ap (λ (x : Cell). x.spare) c))

  lone : (j : ℕ) → (T j).front ≡ nothing → Holds R (At b pos j) (T j) → (T j).spare ≡ nothing
  lone j e (hold0 c n) = ap (λ (x : Cell). x.spare) c
  lone j e (hold1 i c p n) = ap (λ (x : Cell). x.spare) c
  lone j e (hold2 i k c l p q n) = absurd (marked_not i p.0 (sym e ∙ ap (λ (x : Cell). x.front) c))

  -- a slot that holds a record is one of the record's cell
  stands_at : (r : ℕ) → r < b → (g : Slot) (j : ℕ) → j < cells s → slot g (T j) ≡ R r → pos r ≡ j
  stands_at r h g j u e =
      ⊎_elim
      (λ x. ap pos (same_record z r x.0 h x.1 (sym e ∙ x.3)) ∙ x.2)
      (λ x. absurd (marked_not r h (sym x ∙ e)))
      (held g j (holds j u))

  one_slot : (r : ℕ) → r < b → (f g : Slot) (j : ℕ) → j < cells s → slot f (T j) ≡ R r → slot g (T j) ≡ R r → f ≡ g
  one_slot r h Front Front j u e e' = refl
  one_slot r h Front Spare j u e e' = absurd (omega (arith, order r r j h h e e' (holds j u)))
  one_slot r h Spare Front j u e e' = absurd (omega (arith, order r r j h h e' e (holds j u)))
  one_slot r h Spare Spare j u e e' = refl

  one_place : (r : ℕ) → r < b → (f g : Slot) (i j : ℕ) → i < cells s → j < cells s → slot f (T i) ≡ R r → slot g (T j) ≡ R r → (i ≡ j) × (f ≡ g)
  one_place r h f g i j u v e e' =
      let p : i ≡ j = sym (stands_at r h f i u e) ∙ stands_at r h g j v e' in
      (p, one_slot r h f g j v (ap (λ (k : ℕ). slot f (T k)) (sym p) ∙ e) e')

  present : Present s b R pos T
  present = record {
    somewhere = λ r h. find (pos r) r h refl (holds (pos r) (inside r h));
    once = one_place;
    nothing_else = λ g j u. held g j (holds j u);
    in_order = λ r r' j u h h' e e'. order r r' j h h' e e' (holds j u);
    single_in_front = λ j u e. lone j e (holds j u);
    in_range = inside;
  }

-- a record alone in its cell, and a cell with none
module _ {s b : ℕ} {R : ℕ → Rec} {pos : ℕ → ℕ} {T : ℕ → Cell} (z : Rising b R) (up : (i j : ℕ) → i < j → j < b → pos i < pos j) (o : Shows s b R pos T) where
  apart_fits : Fits b pos
  apart_fits = fits_alone (λ i j u l e. omega (arith, up i j l u))

  only : (r k : ℕ) → r < b → k < b → pos k ≡ pos r → k ≡ r
  only r k h u e = ⊎_elim (λ l. absurd (omega (arith, up k r l h))) (λ l. ⊎_elim (λ m. absurd (omega (arith, up r k m u))) (λ m. omega arith) (apart r k)) (apart k r)

  alone_at : (r : ℕ) → r < b → pos r < cells s → T (pos r) ≡ alone (R r)
  alone_at r h u = o.shown (pos r) u ∙ holds_one (content_holds z pos apart_fits (pos r)) (hold1 r refl (h, refl) (λ k q. only r k h q.0 q.1))

  none-at : (j : ℕ) → j < cells s → ((r : ℕ) → r < b → pos r ≡ j → ⊥) → T j ≡ empty
  none-at j u n = o.shown j u ∙ holds_one (content_holds z pos apart_fits j) (hold0 refl (λ k q. n k q.0 q.1))

-- the records of concentrate
module _ {s : ℕ} (pos : 0 < s) {marks aims : List ℕ} (long : length marks ≡ cells s) (good : Good Concentrate s marks aims) (words : List ℕ) where
  ranked : RankedAims s marks aims
  ranked = good_ranked s marks aims long good

  -- they are those of the marked cells, each once: record r is that of the marked cell of rank r, with its word, and its aim is r
  pub records_marked : (r : ℕ) → r < count_in s marks → Found marks (cells s) r (marked_cell marks (cells s) r)
  records_marked r h = found marks (cells s) r ranked.mark h

  pub records_all : (i : ℕ) → i < cells s → get_or marks i 0 ≡ 1 → (rank_in marks i < count_in s marks) × (marked_cell marks (cells s) (rank_in marks i) ≡ i)
  records_all i h e = (rank_past marks i (cells s) h e, marked_cell-rank_in marks (cells s) i h e)

  pub records_ranked : (r : ℕ) → r < count_in s marks → (record_of Concentrate s words marks aims r).aim ≡ r
  records_ranked = start_aims s words marks aims ranked

  -- after n moves: exactly these records, each once, each where the move rule takes it, in range, two in a cell at most
  pub present_after : (n : ℕ) {T : ℕ → Cell} → Stood Concentrate s n words marks aims T
      → Present s (count_in s marks) (record_of Concentrate s words marks aims) (cell_of Concentrate s marks aims n) T
  present_after n o =
      let rises = start_rises s words marks aims ranked in
      let inside = start_inside s words marks aims ranked in
      present (start_rising s words marks aims ranked) (fits s (count_in s marks) pos (marked_cell marks (cells s)) rises inside n)
      (below s (count_in s marks) pos (marked_cell marks (cells s)) rises inside n) o

  -- never three in a cell
  pub two-at_most : (n i j k : ℕ) → i < j → j < k → k < count_in s marks → cell_of Concentrate s marks aims n i ≡ cell_of Concentrate s marks aims n j
      → cell_of Concentrate s marks aims n j ≡ cell_of Concentrate s marks aims n k → ⊥
  two-at_most n = fits s (count_in s marks) pos (marked_cell marks (cells s)) (start_rises s words marks aims ranked) (start_inside s words marks aims ranked) n

  -- at the end the record of rank r stands by itself in cell r, and all else is empty
  ended : {T : ℕ → Cell} → Stood Concentrate s (total_moves s) words marks aims T → Shows s (count_in s marks) (record_of Concentrate s words marks aims) (λ r. r) T
  ended o = shows_same (λ r h. at_the_end s (count_in s marks) pos (marked_cell marks (cells s)) (start_rises s words marks aims ranked) (start_inside s words marks aims ranked) r h) o

  pub end-alone : {T : ℕ → Cell} → Stood Concentrate s (total_moves s) words marks aims T
      → (r : ℕ) → r < count_in s marks → r < cells s → T r ≡ alone (record_of Concentrate s words marks aims r)
  end-alone o r h u = alone_at (start_rising s words marks aims ranked) (λ i j l _. l) (ended o) r h u

  pub end_empty : {T : ℕ → Cell} → Stood Concentrate s (total_moves s) words marks aims T → (j : ℕ) → j < cells s → count_in s marks ≤ j → T j ≡ empty
  end_empty o j u l = none-at (start_rising s words marks aims ranked) (λ i j l _. l) (ended o) j u (λ r h e. omega arith)

-- an electronic move leaves a record in its group
pub stays_in_group : (s : ℕ) → 0 < s → (w : Way) (swaps r i : ℕ) → r < cells s → group s (toward s w (heading s swaps r) i) ≡ group s i
stays_in_group s pos w swaps r i h = same-group s pos w (heading s swaps r) i (heading< s pos swaps r h)

-- the list has exactly 7(s − 1) electronic moves and two by light
pub list_electronic : (s : ℕ) → electronic (concentrate_runs s) ≡ 7 * (s - 1)
list_electronic = concentrate_electronic

pub list_swaps : (s : ℕ) → swaps (concentrate_runs s) ≡ 2
list_swaps = concentrate_swaps

pub list_length : (s : ℕ) → length (moves (concentrate_runs s)) ≡ total_moves s
list_length = concentrate_length

-- the records of distribute, which goes the same ways back
module _ {s : ℕ} (pos : 0 < s) {marks aims : List ℕ} (long : length marks ≡ cells s) (good : Good Distribute s marks aims) (words : List ℕ) where
  aimed : Aimed s (count_in s marks) marks aims
  aimed = good_aimed s marks aims long good

  pub distribute_present : (n : ℕ) {T : ℕ → Cell} → Stood Distribute s n words marks aims T
      → Present s (count_in s marks) (record_of Distribute s words marks aims) (cell_of Distribute s marks aims n) T
  distribute_present n o =
      present (first_rising s words marks aims aimed) (fits s (count_in s marks) pos (λ r. get_or aims r 0) aimed.rising aimed.below (total_moves s - n))
      (below s (count_in s marks) pos (λ r. get_or aims r 0) aimed.rising aimed.below (total_moves s - n)) o

  arrived : {T : ℕ → Cell} → Stood Distribute s (total_moves s) words marks aims T → Shows s (count_in s marks) (record_of Distribute s words marks aims) (λ r. get_or aims r 0) T
  arrived o = shows_same (λ r h. rw (sub_self (total_moves s))) o

  -- at the end each is alone in the cell that its aim names, and every cell that no aim names is empty
  pub distribute_alone : {T : ℕ → Cell} → Stood Distribute s (total_moves s) words marks aims T
      → (r : ℕ) → r < count_in s marks → T (get_or aims r 0) ≡ alone (record_of Distribute s words marks aims r)
  distribute_alone o r h = alone_at (first_rising s words marks aims aimed) (aims_rise s words marks aims aimed) (arrived o) r h (aimed.below r h)

  pub distribute_empty : {T : ℕ → Cell} → Stood Distribute s (total_moves s) words marks aims T
      → (j : ℕ) → j < cells s → ((r : ℕ) → r < count_in s marks → get_or aims r 0 ≡ j → ⊥) → T j ≡ empty
  distribute_empty o j u n = none-at (first_rising s words marks aims aimed) (aims_rise s words marks aims aimed) (arrived o) j u n

-- either trip, of lanes that show its records: they are present after n moves, and at the end each is alone in its cell
module _ {s : ℕ} (pos : 0 < s) {marks aims : List ℕ} (long : length marks ≡ cells s) (words : List ℕ) where
  trip_present : (trip : Trip) → Good trip s marks aims → (n : ℕ) {T : ℕ → Cell} → Stood trip s n words marks aims T
      → Present s (count_in s marks) (record_of trip s words marks aims) (cell_of trip s marks aims n) T
  trip_present Concentrate good = present_after pos long good words
  trip_present Distribute good = distribute_present pos long good words

  trip_ends : (trip : Trip) → Good trip s marks aims → {T : ℕ → Cell} → Stood trip s (total_moves s) words marks aims T
      → EachAlone s (count_in s marks) (record_of trip s words marks aims) (last_cell trip aims) T
  trip_ends Concentrate good o = record {
    own_cell = λ r h. end-alone pos long good words o r h (omega (arith, few_marked marks (cells s) (λ i l. good.marks_good i (omega arith))));
    else_empty = λ j u n. end_empty pos long good words o j u (⊎_elim (λ l. absurd (n j l refl)) (λ l. l) (apart j (count_in s marks)));
  }
  trip_ends Distribute good o = record { own_cell = distribute_alone pos long good words o; else_empty = distribute_empty pos long good words o }

-- the same of what the entries promise: lent lanes of a board with the marks and aims that the trip asks for, a run is accepted, whole or up to a cut,
-- and its records are there
module _ (trip : Trip) (s : ℕ) (side : is_side s ≡ true) (w m a w₂ m₂ a₂ : Lent) (long : Sized (cells s) (old w) (old m) (old a) (old w₂) (old m₂) (old a₂))
    (asked : Asked trip s (old m) (old a)) where
  abbrev sizes : Sizes
  sizes = sizes_of (old w) (old w₂) (old m₂) (old a₂)

  good : Good trip s (old m) (old a)
  good = asked_good trip s (old m) (old a) side long.marks asked

  fitting : Fitting s (length (old m)) (length (old a)) sizes
  fitting = record {
    side = side;
    words = long.words;
    marks = long.marks;
    aims = long.aims;
    words2 = long.words2;
    marks2 = long.marks2;
    aims2 = long.aims2;
  }

  pub cut_records : (cut : ℕ) {r : Answer} → cut ≤ total_moves s → CutRun trip s cut w m a w₂ m₂ a₂ r
      → (r.number ≡ 0) × Present s (count_in s (old m)) (record_of trip s (old w) (old m) (old a)) (cell_of trip s (old m) (old a) cut) (cells_after w m a w₂ m₂ a₂)
  cut_records cut {r} h z =
      let accepts = cut_accepted trip s sizes (old m) (old a) fitting good (accepted_by (first_runs cut (runs_of trip s))) cut h in
      let n : r.number ≡ 0 = ap (λ (x : Answer). x.number) (z.answer ∙ accepts) in
      (n, trip_present (side_known s side).least long.marks (old w) trip good cut (z.lanes n))

  pub full_records : (codes moved : Lent) {r : Answer} → total_moves s ≤ length (old codes) → total_moves s ≤ length (old moved)
      → FullRun trip s w m a w₂ m₂ a₂ codes moved r
      → (r.number ≡ 0) × EachAlone s (count_in s (old m)) (record_of trip s (old w) (old m) (old a)) (last_cell trip (old a)) (cells_after w m a w₂ m₂ a₂)
  full_records codes moved {r} c d z =
      let accepts = full_accepted trip s sizes (old m) (old a) fitting good (accepted_by (runs_of trip s)) (length (old codes)) (length (old moved)) c d in
      let n : r.number ≡ 0 = ap (λ (x : Answer). x.number) (z.answer ∙ accepts) in
      (n, trip_ends (side_known s side).least long.marks (old w) trip good (z.lanes n))
