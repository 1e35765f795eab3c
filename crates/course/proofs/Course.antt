-- A list of moves, made on cells that show records: after each move they show them where it takes them, and its count is of those in another cell.
use Prim.Native.Nat.{ℕ, zero, suc, ◌+◌, ◌-◌, ◌≤◌, ◌<◌}
use mathlib.Core.Path.{◌≡◌, refl, sym, ap, ap₂, ◌∙◌, subst}
use mathlib.Core.Logic.{⊎_elim}
use mathlib.Core.Bool.{cond}
use mathlib.Core.List.{List, [], ◌∷◌, ◌++◌}
use native.Mathlib.Nat.{add-zero, add-suc, min-le_left, min-le_right, min-eq_left, min-eq_right}
use native.Mathlib.Omega.{arith}
use borrow.Author.Tests.{eq-eqb, ne_eqb}
use lib.Dec.{eqb}
use Rattle.laws.specs.Tables.{entries}
use Rattle.laws.proofs.Sums.{sum_cong}
use Rattle.laws.proofs.Tables.{entries_cong, entries_parts}
use Rattle.laws.proofs.Deciding.{apart, same?}
use Rattle.array.specs.declared.moves.Way.{Way}
use Rattle.array.specs.declared.moves.Move.{Move}
use Rattle.array.specs.declared.moves.Move.TheVariants.{Swap, Electronic}
use Rattle.array.specs.Cells.{cells, partner}
use Rattle.array.proofs.Board.{partner_in, partner_twice}
use Rattle.runs.specs.declared.Run.{Run}
use Rattle.runs.specs.Runs.{swaps_in}
use Rattle.lists.specs.declared.Trip.{Trip}
use Rattle.travel.specs.declared.turns.Turn.{Turn}
use Rattle.travel.specs.Turns.{turn_in}
use Rattle.travel.proofs.Walk.{going}
use Rattle.travel.proofs.Listed.{in_run, times_of, turn_here, turn_past}
use Rattle.slots.specs.declared.Rec.{Rec}
use Rattle.slots.specs.declared.Cell.{Cell}
use Rattle.slots.specs.Cells.{marks_in}
use Rattle.mesh.specs.declared.Leg.{Leg}
use Rattle.mesh.specs.Lines.{head_of, goes_at}
use Rattle.mesh.specs.Mesh.{line_rule_of}
use Rattle.mover.specs.Runs.{low_after, leg_of, swapped, ran_by, gone_by, made_of, after, moved_log}
use Rattle.course.specs.Showing.{content_of, changed, Shows}
use Rattle.mesh.proofs.Legs.{ran-same}
use Rattle.course.proofs.Content.{Rising, Fits, Runs, ran_content}
use Rattle.course.proofs.Counting.{swap_count, run_count}
use Rattle.course.proofs.Lines.{spot, at_cell}
use Rattle.course.proofs.Bridge.{headed, wait_for, walked}

content_same : (b : ℕ) (R : ℕ → Rec) {pos post : ℕ → ℕ} → ((r : ℕ) → r < b → pos r ≡ post r) → (j : ℕ) → content_of b R pos j ≡ content_of b R post j
unfolding content_of
content_same zero R h j = refl
content_same (suc b) R h j = rw (h b (omega arith), content_same b R (λ r u. h r (omega arith)) j)

pub shows_same : {s b : ℕ} {R : ℕ → Rec} {pos post : ℕ → ℕ} {T : ℕ → Cell} → ((r : ℕ) → r < b → pos r ≡ post r) → Shows s b R pos T → Shows s b R post T
shows_same {s} {b} {R} h z = record { shown = λ j u. z.shown j u ∙ content_same b R h j }

changed-same : (b : ℕ) {pos pos' post post' : ℕ → ℕ} → ((r : ℕ) → r < b → pos r ≡ pos' r) → ((r : ℕ) → r < b → post r ≡ post' r) → changed b pos post ≡ changed b pos' post'
changed-same b h g = sum_cong b (λ r u. ap₂ (λ (i j : ℕ). cond (eqb i j) 0 1) (h r u) (g r u))

-- a swap takes every record to its partner's cell
content_swapped : {s : ℕ} → 0 < s → (b : ℕ) (R : ℕ → Rec) (pos : ℕ → ℕ) → ((r : ℕ) → r < b → pos r < cells s) → (j : ℕ) → j < cells s
    → content_of b R pos (partner s j) ≡ content_of b R (λ r. partner s (pos r)) j
unfolding content_of
content_swapped some zero R pos h j l = refl
content_swapped {s} some (suc b) R pos h j l = rw (turn, content_swapped some b R pos (λ r u. h r (omega arith)) j l)
  where
    turn : eqb (pos b) (partner s j) ≡ eqb (partner s (pos b)) j
    turn =
        ⊎_elim
        (λ e. eq-eqb (pos b) (partner s j) e ∙ sym (eq-eqb (partner s (pos b)) j (ap (partner s) e ∙ partner_twice some j l)))
        (λ d. ne_eqb (pos b) (partner s j) d ∙ sym (ne_eqb (partner s (pos b)) j (λ e. d (sym (partner_twice some (pos b) (h b (omega arith))) ∙ ap (partner s) e))))
        (same? (pos b) (partner s j))

-- the cell of a record of that aim after a move of a list
abbrev pub went_to : Trip → ℕ → Turn → Move → ℕ → ℕ → ℕ
went_to trip s x Swap aim i = partner s i
went_to trip s x (Electronic w) aim i = going s w (wait_for trip x.remaining) (headed s (low_after trip x.swaps) aim) i

-- a move of a list takes the records from pos to post
pub record Step (trip : Trip) (s : ℕ) (x : Turn) (b : ℕ) (R : ℕ → Rec) (pos post : ℕ → ℕ) : Type 0 where
  pub next : (r : ℕ) → r < b → post r ≡ went_to trip s x x.step (R r).aim (pos r)

-- records that are at pos k after k moves of n
pub record Course (trip : Trip) (s : ℕ) (rs : List Run) (swaps n b : ℕ) (R : ℕ → Rec) (pos : ℕ → ℕ → ℕ) : Type 0 where
  pub rising : Rising b R
  pub fits : (k : ℕ) → k ≤ n → Fits b (pos k)
  pub inside : (k : ℕ) → k ≤ n → (r : ℕ) → r < b → pos k r < cells s
  pub step : (k : ℕ) → k < n → Step trip s (turn_in rs swaps k) b R (pos k) (pos (suc k))

-- the same for the first m moves of a run
record Part (trip : Trip) (s : ℕ) (x : Move) (swaps times m b : ℕ) (R : ℕ → Rec) (pos : ℕ → ℕ → ℕ) : Type 0 where
  few : m ≤ times
  rising : Rising b R
  fits : (k : ℕ) → k ≤ m → Fits b (pos k)
  inside : (k : ℕ) → k ≤ m → (r : ℕ) → r < b → pos k r < cells s
  next : (k : ℕ) → k < m → (r : ℕ) → r < b → pos (suc k) r ≡ went_to trip s (in_run (record { step = x; times = times }) swaps k) x (R r).aim (pos k r)

module _ {trip : Trip} {s b swaps times m : ℕ} {R : ℕ → Rec} {pos : ℕ → ℕ → ℕ} {T : ℕ → Cell} (some : 0 < s) (o : Shows s b R (pos 0) T) where
  swaps_show : Part trip s Swap swaps times m b R pos → (k : ℕ) → k ≤ m → Shows s b R (pos k) (swapped s k T)
  unfolding swapped
  swaps_show c zero l = o
  swaps_show c (suc k) l = record {
    shown = λ j u.
        (swaps_show c k (omega arith)).shown (partner s j) (partner_in some j u)
        ∙ content_swapped some b R (pos k) (c.inside k (omega arith)) j u
        ∙ content_same b R (λ r v. sym (c.next k l r v)) j;
  }

  -- where the records are after k moves one way
  came : {w : Way} (made k : ℕ) → Part trip s (Electronic w) swaps times m b R pos → k ≤ m → (r : ℕ) → r < b
      → pos k r ≡ at_cell (leg_of trip s swaps w times made) (head_of (line_rule_of (leg_of trip s swaps w times made)) (R r)) (pos 0 r) k
  came {w} made k c l r u =
      walked trip s swaps times made some w (R r) (λ k. pos k r) k
      (λ j v. c.next j (omega arith) r u ∙ ap (λ (n : ℕ). going s w (wait_for trip (times - j)) (headed s (low_after trip n) (R r).aim) (pos j r)) (add-zero swaps))

  run_shows : (x : Move) → Part trip s x swaps times m b R pos → Shows s b R (pos m) (ran_by trip s swaps x times m T)
  run_shows Swap c = swaps_show c m (omega arith)
  run_shows (Electronic w) c = record {
    shown = λ j u. ran-same leg some _ (content_of b R (pos 0)) o.shown j u ∙ ran_content runs j;
  }
    where
      leg : Leg
      leg = leg_of trip s swaps w times m

      runs : Runs (leg_of trip s swaps w times m) b R (pos 0) (pos m)
      runs = record {
        some = some;
        rising = c.rising;
        before = c.fits 0 (omega arith);
        after = c.fits m (omega arith);
        next = λ r v. came m m c (omega arith) r v
            ∙ ap (at_cell (leg_of trip s swaps w times m) (head_of (line_rule_of (leg_of trip s swaps w times m)) (R r)) (pos 0 r)) (sym (min-eq_left c.few));
      }

  run_counts : (x : Move) → Part trip s x swaps times m b R pos → (k : ℕ) → k < m → gone_by trip s swaps x times k T ≡ changed b (pos k) (pos (suc k))
  run_counts Swap c k l =
      sum_cong (cells s) (λ i u. ap (λ (c : Cell). cond (eqb (partner s i) i) 0 (marks_in c)) ((swaps_show c k (omega arith)).shown i u))
      ∙ swap_count s c.rising (c.fits k (omega arith)) (c.inside k (omega arith))
      ∙ changed-same b (λ r u. refl) (λ r u. sym (c.next k l r u))
  run_counts (Electronic w) c k l =
      sum_cong (cells s) (λ i u. ap (gone i) (o.shown i u))
      ∙ run_count (leg_of trip s swaps w times times) some c.rising (c.fits 0 (omega arith)) (c.inside 0 (omega arith)) k
      ∙ changed-same b (λ r u. sym (came times k c (omega arith) r u)) (λ r u. sym (came times (suc k) c l r u))
    where
      gone : ℕ → Cell → ℕ
      gone i c = goes_at (line_rule_of (leg_of trip s swaps w times times)) k (spot (leg_of trip s swaps w times times) i) c.front
          + goes_at (line_rule_of (leg_of trip s swaps w times times)) k (spot (leg_of trip s swaps w times times) i) c.spare

module _ {trip : Trip} {s b : ℕ} {R : ℕ → Rec} (some : 0 < s) where
  -- the course of a list is that of its first run, and that of the others
  module _ {r : Run} {rs : List Run} {swaps n : ℕ} {pos : ℕ → ℕ → ℕ} (c : Course trip s (r ∷ rs) swaps n b R pos) where
    abbrev m : ℕ
    m = made_of r n

    m≤ : m ≤ n
    m≤ = min-le_right r.times n

    first : (k : ℕ) → k < m → (q : ℕ) → q < b → pos (suc k) q ≡ went_to trip s (in_run r swaps k) r.step (R q).aim (pos k q)
    first k u q v =
        subst (λ (x : Turn). pos (suc k) q ≡ went_to trip s x x.step (R q).aim (pos k q))
        (turn_here r rs swaps k (omega (arith, min-le_left r.times n)))
        ((c.step k (omega (arith, m≤))).next q v)

    -- where moves remain the run is made
    over : {k : ℕ} → k < n - m → m ≡ r.times
    over {k} u = ⊎_elim (λ l. min-eq_left (omega arith)) (λ l. absurd (omega (arith, min-eq_right {n = n} {m = r.times} l))) (apart r.times n)

    later : (k : ℕ) → k < n - m → turn_in (r ∷ rs) swaps (m + k) ≡ turn_in rs (swaps + swaps_in r.step m) k
    later k u =
        let e = over u in
        turn_past r rs swaps (m + k) (omega arith)
        ∙ ap₂ (λ (t j : ℕ). turn_in rs (swaps + swaps_in r.step t) j) (sym e) (omega arith)

    others : Course trip s rs (swaps + swaps_in r.step m) (n - m) b R (λ k. pos (m + k))
    others = record {
      rising = c.rising;
      fits = λ k u. c.fits (m + k) (omega (arith, m≤));
      inside = λ k u. c.inside (m + k) (omega (arith, m≤));
      step = λ k u. record {
        next = λ q v. ap (λ (j : ℕ). pos j q) (add-suc m k)
            ∙ subst (λ (x : Turn). pos (suc (m + k)) q ≡ went_to trip s x x.step (R q).aim (pos (m + k) q)) (later k u) ((c.step (m + k) (omega (arith, m≤))).next q v);
      };
    }

    part : Part trip s r.step swaps r.times m b R pos
    part = record {
      few = min-le_left r.times n;
      rising = c.rising;
      fits = λ k u. c.fits k (omega (arith, m≤));
      inside = λ k u. c.inside k (omega (arith, m≤));
      next = first;
    }

    begun : {T : ℕ → Cell} → Shows s b R (pos 0) T → Shows s b R (pos (m + 0)) (ran_by trip s swaps r.step r.times m T)
    begun o = shows_same (λ q u. ap (λ (j : ℕ). pos j q) (sym (add-zero m))) (run_shows some o r.step part)

    whole : m + (n - m) ≡ n
    whole = omega (arith, m≤)

  pub course_shows : {rs : List Run} {swaps n : ℕ} {pos : ℕ → ℕ → ℕ} {T : ℕ → Cell} → Course trip s rs swaps n b R pos → n ≤ times_of rs → Shows s b R (pos 0) T → Shows s b R (pos n) (after trip s rs swaps n T)
  unfolding after
  course_shows {rs = []} {pos = pos} c h o = shows_same (λ q u. ap (λ (k : ℕ). pos k q) (omega arith)) o
  course_shows {rs = r ∷ rs} {n = n} {pos = pos} c h o =
      shows_same (λ q u. ap (λ (k : ℕ). pos k q) (whole c)) (course_shows {rs = rs} (others c) (omega arith) (begun c o))

  pub course_counts : {rs : List Run} {swaps n : ℕ} {pos : ℕ → ℕ → ℕ} {T : ℕ → Cell} → Course trip s rs swaps n b R pos → n ≤ times_of rs → Shows s b R (pos 0) T
      → moved_log trip s rs swaps n T ≡ entries (λ k. changed b (pos k) (pos (suc k))) 0 n
  unfolding moved_log
  course_counts {rs = []} {n = n} {pos = pos} c h o =
      let e : 0 ≡ n = omega arith in
      ap {B = List ℕ} (λ (n : ℕ). entries (λ k. changed b (pos k) (pos (suc k))) 0 n) e
  course_counts {rs = r ∷ rs} {n = n} {pos = pos} c h o =
      ap₂ {C = List ℕ} (λ x y. x ++ y) (entries_cong (m c) (run_counts some o r.step (part c))) (course_counts {rs = rs} (others c) (omega arith) (begun c o))
      ∙ entries_parts (λ k. changed b (pos k) (pos (suc k))) (λ k. changed b (pos (m c + k)) (pos (m c + suc k))) 0 (m c) (n - m c)
      (λ k u.
      let e : m c + k ≡ 0 + m c + k = omega arith in
      let f : m c + suc k ≡ suc (0 + m c + k) = omega arith in
      ap₂ (λ (i j : ℕ). changed b (pos i) (pos j)) e f)
      ∙ ap {B = List ℕ} (λ (n : ℕ). entries (λ k. changed b (pos k) (pos (suc k))) 0 n) (whole c)
