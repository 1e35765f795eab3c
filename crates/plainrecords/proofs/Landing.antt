-- Distribute: lanes that are ready for it, and where its records land.
use Prim.Native.Nat.{ℕ, ◌%◌, ◌^◌, ◌≤◌, ◌<◌}
use mathlib.Core.Path.{◌≡◌, refl, sym, ap, subst, ◌∙◌}
use mathlib.Core.Bool.{Bool, true, false, cond}
use mathlib.Core.Logic.{⊎_elim}
use mathlib.Core.List.{List}
use native.Mathlib.Omega.{arith}
use borrow.Author.Tests.{lt-ltb, le-ltb, ltb-true, eqb-true, eqb-false}
use lib.Dec.{ltb, eqb}
use lib.ListN.{length, get_or, get_or-eq_default}
use Rattle.laws.proofs.Deciding.{apart}
use Rattle.laws.proofs.Searching.{none_found, found_passes}
use Rattle.laws.proofs.Tables.{length-entries}
use Rattle.array.specs.Cells.{cells}
use Rattle.array.proofs.Board.{side_known}
use Rattle.lists.specs.declared.Trip.{Trip}
use Rattle.lists.specs.declared.Trip.TheVariants.{Distribute}
use Rattle.marks.specs.Marks.{rank_in}
use Rattle.refusals.proofs.Aims.{Aimed, good_aimed}
use Rattle.refusals.proofs.Joined.{count_is}
use Rattle.records.proofs.Marked.{aims_rise}
use Rattle.plainrecords.specs.Tables.{aiming_at}
use Rattle.plainrecords.specs.Inside.{BoardMarks, TripLanes, up_to, Holding, ArrangedBy, Ready, Landed}
use Rattle.plainrecords.proofs.Arranging.{first_held}

-- the first cells keep what they held, and behind them there is nothing
kept_at : (count n : ℕ) (f : ℕ → ℕ) {lane : List ℕ} → lane ≡ up_to count f n → count ≤ n → (j : ℕ) → j < count → get_or lane j 0 ≡ f j
kept_at count n f e h j l = first_held count n f e j (omega arith) ∙ rw (lt-ltb j count l)

nothing-behind : (count n : ℕ) (f : ℕ → ℕ) {lane : List ℕ} → lane ≡ up_to count f n → (j : ℕ) → count ≤ j → get_or lane j 0 ≡ 0
nothing-behind count n f {lane} e j l = ⊎_elim (λ h. first_held count n f e j h ∙ rw (le-ltb j count l)) (λ h. get_or-eq_default lane 0 (past h)) (apart j n)
  where
    past : n ≤ j → length lane ≤ j
    past h = omega (arith, ap length e, length-entries (λ i. cond (ltb i count) (f i) 0) 0 n)

pub board_marks : {trip : Trip} {marks aims : List ℕ} → TripLanes trip marks aims → BoardMarks marks
board_marks t = record { few = omega (arith, t.size, (side_known t.side t.built).cells_few); good = t.good.marks_good }

module _ {marks aims : List ℕ} (t : TripLanes Distribute marks aims) where
  pub all_counted : {count : ℕ} → count ≡ rank_in marks (length marks) % 2 ^ 16 → count ≡ rank_in marks (length marks)
  all_counted e = count_is marks (board_marks t).few (board_marks t).good e

  aimed : Aimed t.side (rank_in marks (length marks)) marks aims
  aimed = subst (λ (n : ℕ). Aimed t.side (rank_in marks n) marks aims) (sym t.size) (good_aimed t.side marks aims t.size t.good)

  pub count_few : {count : ℕ} → count ≡ rank_in marks (length marks) → count ≤ length marks
  count_few e = omega (arith, e, aimed.few, t.size)

  module _ (words : List ℕ) {count : ℕ} (c : count ≡ rank_in marks (length marks)) (n : length words ≡ length marks) (m : length aims ≡ length marks)
      {words' aims' : List ℕ} (w : words' ≡ up_to count (λ i. get_or words i 0) (length words)) (a : aims' ≡ up_to count (λ i. get_or aims i 0) (length aims)) where
    word_kept : (r : ℕ) → r < count → get_or words' r 0 ≡ get_or words r 0
    word_kept r h = kept_at count (length words) (λ i. get_or words i 0) w (omega (arith, count_few c)) r h

    aim_kept : (r : ℕ) → r < count → get_or aims' r 0 ≡ get_or aims r 0
    aim_kept r h = kept_at count (length aims) (λ i. get_or aims i 0) a (omega (arith, count_few c)) r h

    no_mark : (j : ℕ) → count ≤ j → get_or marks j 0 ≡ 0
    no_mark j l =
        ⊎_elim
        (λ h. aimed.first j h ∙ rw (le-ltb j (rank_in marks (length marks)) (omega (arith, c))))
        (λ h. get_or-eq_default marks 0 (omega (arith, t.size)))
        (apart j (cells t.side))

    pub ready : Ready count words' marks aims'
    ready = record {
      words_long = ap length w ∙ length-entries _ 0 (length words) ∙ n;
      aims_long = ap length a ∙ length-entries _ 0 (length aims) ∙ m;
      few = count_few c;
      rising = λ i j l h.
          let rise = aims_rise t.side words marks aims aimed i j l (omega (arith, c)) in
          omega (arith, rise, aim_kept i (omega arith), aim_kept j h);
      below = λ r h. omega (arith, aim_kept r h, aimed.below r (omega (arith, c)), t.size);
      marked = λ r h. aimed.first r (omega (arith, count_few c, t.size)) ∙ rw (lt-ltb r (rank_in marks (length marks)) (omega (arith, c)));
      no_words = nothing-behind count (length words) (λ i. get_or words i 0) w;
      no_marks = no_mark;
      no_aims = nothing-behind count (length aims) (λ i. get_or aims i 0) a;
    }

    -- by the aims before the clearing, cell by cell
    held_at : (v v' : ℕ → ℕ) {lane : List ℕ} → ((r : ℕ) → r < count → v' r ≡ v r) → Landed count aims' v' lane
        → (j : ℕ) → get_or lane j 0 ≡ cond (ltb (aiming_at aims count j) count) (v (aiming_at aims count j)) 0
    held_at v v' {lane} same z j = go (ltb (aiming_at aims count j) count) refl
      where
        go : (b : Bool) → ltb (aiming_at aims count j) count ≡ b → get_or lane j 0 ≡ cond b (v (aiming_at aims count j)) 0
        go true e =
            let h = ltb-true (aiming_at aims count j) count e in
            let hit = eqb-true (get_or aims (aiming_at aims count j) 0) j (found_passes (λ r. eqb (get_or aims r 0) j) count h) in
            ap (λ (k : ℕ). get_or lane k 0) (sym (aim_kept (aiming_at aims count j) h ∙ hit)) ∙ z.there (aiming_at aims count j) h ∙ same (aiming_at aims count j) h
        go false e =
            z.rest j (λ r h x. eqb-false (get_or aims r 0) j (none_found (λ q. eqb (get_or aims q 0) j) count e r h) (sym (aim_kept r h) ∙ x))

    -- a record that aims at cell j has the aim j
    own_aim : (j : ℕ) → cond (ltb (aiming_at aims count j) count) (get_or aims (aiming_at aims count j) 0) 0 ≡ cond (ltb (aiming_at aims count j) count) j 0
    own_aim j = go (ltb (aiming_at aims count j) count) refl
      where
        go : (b : Bool) → ltb (aiming_at aims count j) count ≡ b → cond b (get_or aims (aiming_at aims count j) 0) 0 ≡ cond b j 0
        go true e = eqb-true (get_or aims (aiming_at aims count j) 0) j (found_passes (λ r. eqb (get_or aims r 0) j) count (ltb-true (aiming_at aims count j) count e))
        go false e = refl

    holding : (v : ℕ → ℕ → ℕ) {lane : List ℕ} → ((j : ℕ) → get_or lane j 0 ≡ cond (ltb (aiming_at aims count j) count) (v j (aiming_at aims count j)) 0)
        → Holding (length marks) (λ j. ltb (aiming_at aims (rank_in marks (length marks)) j) (rank_in marks (length marks))) (λ j. v j (aiming_at aims (rank_in marks (length marks)) j)) lane
    holding v f = record { each = λ j h. f j ∙ ap (λ (k : ℕ). cond (ltb (aiming_at aims k j) k) (v j (aiming_at aims k j)) 0) c }

    pub landed : {w'' m'' a'' : List ℕ} → Landed count aims' (λ r. get_or words' r 0) w'' → Landed count aims' (λ r. 1) m'' → Landed count aims' (λ r. get_or aims' r 0) a''
        → ArrangedBy Distribute (length marks) words marks aims w'' m'' a''
    landed x y z = record {
      words = holding (λ j r. get_or words r 0) (held_at (λ r. get_or words r 0) (λ r. get_or words' r 0) word_kept x);
      marks = holding (λ j r. 1) (held_at (λ r. 1) (λ r. 1) (λ r h. refl) y);
      aims = holding (λ j r. j) (λ j. held_at (λ r. get_or aims r 0) (λ r. get_or aims' r 0) aim_kept z j ∙ own_aim j);
    }
