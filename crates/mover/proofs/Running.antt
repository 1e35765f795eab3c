-- A list of runs as it is made: what is left of the list leads from the cells and the log as they are to those of the whole.
use Prim.Native.Nat.{ℕ, zero, suc, ◌+◌, ◌-◌, ◌*◌, ◌≤◌, ◌<◌, min}
use mathlib.Core.Path.{◌≡◌, refl, sym, ap, ap₂, ◌∙◌}
use mathlib.Core.Bool.{Bool, true, false, cond}
use mathlib.Core.List.{List, [], ◌∷◌, ◌++◌}
use native.Mathlib.Numerals.{add-one}
use native.Mathlib.Omega.{arith}
use borrow.Author.Tests.{ne_eqb}
use lib.Dec.{eqb}
use lib.ListN.{length, get_or, set, drop, replicate, drop_of_length-le}
use lib.Seq.{sets, drop-cons}
use Rattle.laws.specs.Sums.{sum}
use Rattle.laws.specs.Tables.{entries}
use Rattle.laws.proofs.Sums.{sum_cong}
use Rattle.laws.proofs.Totals.{sum_zero}
use Rattle.laws.proofs.Tables.{length-entries, entry_at, entries_cong}
use Rattle.laws.proofs.Stores.{Storing, storing_next, storing_all, sets-append}
use Rattle.array.specs.declared.moves.Move.{Move}
use Rattle.array.specs.declared.moves.Move.TheVariants.{Swap, Electronic}
use Rattle.array.specs.Cells.{is_side, cells}
use Rattle.array.proofs.Board.{side_known}
use Rattle.runs.specs.declared.Run.{Run}
use Rattle.runs.specs.Runs.{swaps_in}
use Rattle.lists.specs.declared.Trip.{Trip}
use Rattle.slots.specs.declared.Cell.{Cell}
use Rattle.mesh.specs.declared.Leg.{Leg}
use Rattle.mesh.specs.Lines.{goes_at, goes_in}
use Rattle.mesh.specs.Mesh.{line_rule_of, spot_of, gone_in}
use Rattle.mesh.proofs.Legs.{ran-same}
use Rattle.mesh.proofs.Counting.{gone_by_went, gone-made, gone_few, went_few}
use Rattle.mover.specs.declared.Tally.{Tally}
use Rattle.mover.specs.Runs.{is_late, leg_of, swapped, ran_by, gone_by, made_of, after, moved_log, Ran}
use Rattle.mover.specs.Inside.{movers, tallied, FewWent, leaving, Made, MadeRun, RanRun}
use Rattle.mover.proofs.Swapping.{leaving_few, leaving-same, leaving-swaps, swaps-same}

-- counts put into the log, from a place on
pub record Logging (f : ℕ → ℕ) (n from j : ℕ) (old log : List ℕ) : Type 0 where
  pub upto : j ≤ n
  pub stored : Storing old (entries f 0 n) from (from + j) log

pub logging_next : (f : ℕ → ℕ) {n from j count : ℕ} {old log : List ℕ} → j < n → count ≡ f j → Logging f n from j old log → Logging f n from (j + 1) old (set log (from + j) count)
logging_next f {n} {from} {j} {count} {old} {log} h e z =
    let at : from + j - from ≡ j = omega arith in
    let on : from + (j + 1) ≡ from + j + 1 = omega arith in
    record {
      upto = omega arith;
      stored = rw on (storing_next old (entries f 0 n) from count 0 (rw (at, length-entries f 0 n) h) (rw at (entry_at f n j 0 h ∙ sym e)) z.stored);
    }

pub logging_end : (f : ℕ → ℕ) {n from j : ℕ} {old log : List ℕ} → n ≤ j → Logging f n from j old log → log ≡ sets old from (entries f 0 n)
logging_end f {n} {from} {j} {old} h z = let at : from + j - from ≡ j = omega arith in storing_all old (entries f 0 n) from (rw (at, length-entries f 0 n) h) z.stored

-- the sum over distances as it is made
pub record Adding (late : Bool) (times : ℕ) (went : List ℕ) (j d count : ℕ) : Type 0 where
  pub upto : d ≤ 8
  pub sum_is : count ≡ sum d (λ e. cond (goes_in late times j e) (get_or went e 0) 0)
  pub few : count ≤ d * 8192

pub adding_start : (late : Bool) (times : ℕ) (went : List ℕ) (j : ℕ) → Adding late times went j 0 0
adding_start late times went j = record { upto = omega arith; sum_is = refl; few = omega arith }

few_cond : (b : Bool) (n : ℕ) → cond b n 0 ≤ n
few_cond true n = omega arith
few_cond false n = omega arith

pub adding_next : {late : Bool} {times : ℕ} (went : List ℕ) {j d count x : ℕ} {b : Bool} → d < 8 → FewWent went → b ≡ goes_in late times j d → x ≡ cond b (get_or went d 0) 0
    → Adding late times went j d count → Adding late times went j (d + 1) (count + x)
adding_next went {j} {d} {count} {x} {b} h f e g z =
    rw add-one
    (record {
      upto = omega arith;
      sum_is = ap₂ ◌+◌ z.sum_is (g ∙ ap (λ (c : Bool). cond c (get_or went d 0) 0) e);
      few = omega (arith, z.few, g, few_cond b (get_or went d 0), f.few d h);
    })

-- a run of swaps by what the light says of it
pub made_swaps : (trip : Trip) (s swaps : ℕ) (r : Run) {k m : ℕ} {T T' : ℕ → Cell} {went : List ℕ} {count : ℕ}
    → r.step ≡ Swap → m ≡ made_of r k → went ≡ replicate 8 0
    → ((i : ℕ) → i < cells s → T' i ≡ swapped s m T i) → count ≡ cond (eqb m 0) 0 (leaving s T)
    → MadeRun trip s swaps r k (record { made = m; swaps = m; went = went; swapped = count }) T T'
made_swaps trip s swaps r x e w q c = record {
  upto = e;
  swaps-made = rw x refl;
  moved = rw x (record { made = q; went = λ d h. ap (λ (l : List ℕ). get_or l d 0) w ∙ all_none 8 d; leaves = c });
}
  where
    all_none : (n d : ℕ) → ◌≡◌ {A = ℕ} (get_or (replicate n 0) d 0) 0
    all_none zero d = refl
    all_none (suc n) zero = refl
    all_none (suc n) (suc d) = all_none n d

-- a run of so many moves, of whatever kind
module _ (trip : Trip) (s : ℕ) (side : is_side s ≡ true) (swaps times m : ℕ) (within : m ≤ times) (T : ℕ → Cell) where
  pub counts_are : (x : Move) (t : Tally) (T' : ℕ → Cell) → Made trip s swaps x times m t T T'
      → (j : ℕ) → j < m → tallied (is_late trip) times t j ≡ gone_by trip s swaps x times j T
  counts_are (Electronic w) t T' z j h =
      let l = leg_of trip s swaps w times m in
      let e : movers (is_late trip) times t.went j ≡ gone_in (line_rule_of l) j T =
      sum_cong 8 (λ d u. ap (λ (n : ℕ). cond (goes_in (is_late trip) times j d) n 0) (z.went d u)) ∙ sym (gone_by_went l j T side h within) in
      omega (arith, e, z.leaves, gone-made l times j T)
  counts_are Swap t T' z j h =
      let e : movers (is_late trip) times t.went j ≡ 0 =
      sum_zero (λ d. cond (goes_in (is_late trip) times j d) (get_or t.went d 0) 0) 8
      (λ d u. few_zero (goes_in (is_late trip) times j d) (z.went d u)) in
      let f : t.swapped ≡ leaving s T = z.leaves ∙ rw (ne_eqb m 0 (λ u. omega arith)) refl in
      omega (arith, e, f, leaving-swaps s side j T)
    where
      few_zero : (b : Bool) {n : ℕ} → n ≡ 0 → cond b n 0 ≡ 0
      few_zero true e = e
      few_zero false e = refl

  gone_most : (x : Move) (j : ℕ) → gone_by trip s swaps x times j T ≤ 8192
  gone_most Swap j = leaving_few s side (swapped s j T)
  gone_most (Electronic w) j = omega (arith, gone_few (leg_of trip s swaps w times times) j T, (side_known s side).cells_few)

  pub counts_few : (x : Move) (t : Tally) (T' : ℕ → Cell) → Made trip s swaps x times m t T T'
      → (j : ℕ) → j < m → tallied (is_late trip) times t j ≤ 65535
  counts_few x t T' z j h = omega (arith, counts_are x t T' z j h, gone_most x j)

  made_are : (x : Move) (t : Tally) (T' : ℕ → Cell) → Made trip s swaps x times m t T T'
      → (i : ℕ) → i < cells s → T' i ≡ ran_by trip s swaps x times m T i
  made_are (Electronic w) t T' z = z.made
  made_are Swap t T' z = z.made

  pub went_few_in : (x : Move) (t : Tally) (T' : ℕ → Cell) → Made trip s swaps x times m t T T' → FewWent t.went
  went_few_in (Electronic w) t T' z = record {
    few = λ d h. omega (arith, z.went d h, went_few (leg_of trip s swaps w times m) d T, (side_known s side).cells_few);
  }
  went_few_in Swap t T' z = record { few = λ d h. omega (arith, z.went d h) }

  pub run_made : (x : Move) (t : Tally) (T' : ℕ → Cell) {from : ℕ} {moved moved' : List ℕ} → Made trip s swaps x times m t T T'
      → moved' ≡ sets moved from (entries (tallied (is_late trip) times t) 0 m) → RanRun trip s swaps x times m from T T' moved moved'
  run_made x t T' {from} {moved} z e = record { made = made_are x t T' z; log = e ∙ ap (sets moved from) (entries_cong m (counts_are x t T' z)) }

gone_cong : (l : Leg) (j : ℕ) {T U : ℕ → Cell} → ((i : ℕ) → i < cells l.side → T i ≡ U i) → gone_in (line_rule_of l) j T ≡ gone_in (line_rule_of l) j U
gone_cong l j e =
    sum_cong (cells l.side) (λ i h. ap (λ (c : Cell). goes_at (line_rule_of l) j (spot_of (line_rule_of l) i) c.front + goes_at (line_rule_of l) j (spot_of (line_rule_of l) i) c.spare) (e i h))

-- a run looks at the cells of the board only
module _ (trip : Trip) {s : ℕ} (pos : 0 < s) {T U : ℕ → Cell} (same : (i : ℕ) → i < cells s → T i ≡ U i) where
  by_same : (swaps : ℕ) (x : Move) (times m i : ℕ) → i < cells s → ran_by trip s swaps x times m T i ≡ ran_by trip s swaps x times m U i
  by_same swaps Swap times m i h = swaps-same s pos m same i h
  by_same swaps (Electronic w) times m i h = ran-same (leg_of trip s swaps w times m) pos T U same i h

  gone_same : (swaps : ℕ) (x : Move) (times j : ℕ) → gone_by trip s swaps x times j T ≡ gone_by trip s swaps x times j U
  gone_same swaps Swap times j = leaving-same s (swaps-same s pos j same)
  gone_same swaps (Electronic w) times j = gone_cong (leg_of trip s swaps w times times) j same

pub after_same : (trip : Trip) {s : ℕ} → 0 < s → (rs : List Run) (swaps k : ℕ) (T U : ℕ → Cell) → ((i : ℕ) → i < cells s → T i ≡ U i)
    → ((i : ℕ) → i < cells s → after trip s rs swaps k T i ≡ after trip s rs swaps k U i) × (moved_log trip s rs swaps k T ≡ moved_log trip s rs swaps k U)
unfolding after moved_log
after_same trip _ [] swaps k T U e = (e, refl)
after_same trip {s} pos (r ∷ rs) swaps k T U e =
    let m = made_of r k in
    let z = after_same trip pos rs (swaps + swaps_in r.step m) (k - m) (ran_by trip s swaps r.step r.times m T) (ran_by trip s swaps r.step r.times m U) (by_same trip pos e swaps r.step r.times m) in
    (z.0, ap₂ ◌++◌ (entries_cong m (λ j h. gone_same trip pos e swaps r.step r.times j)) z.1)

-- q runs were made, with so many moves and swaps: the others lead to the end
pub record Running (trip : Trip) (s : ℕ) (rs : List Run) (n q done swaps : ℕ) (T C : ℕ → Cell) (moved moved' : List ℕ) : Type 0 where
  pub upto : done ≤ n
  pub few : swaps ≤ done
  pub cells_left : (i : ℕ) → i < cells s → after trip s (drop q rs) swaps (n - done) C i ≡ after trip s rs 0 n T i
  pub log_left : sets moved' done (moved_log trip s (drop q rs) swaps (n - done) C) ≡ sets moved 0 (moved_log trip s rs 0 n T)

pub few_swaps : (x : Move) (n : ℕ) → swaps_in x n ≤ n
few_swaps Swap n = omega arith
few_swaps (Electronic w) n = omega arith

running_on : {trip : Trip} {s : ℕ} (rs : List Run) {n q done swaps m : ℕ} {T C C' : ℕ → Cell} {moved now₁ now₂ : List ℕ} (d : Run) → 0 < s → q < length rs
    → m ≡ min (get_or rs q d).times (n - done)
    → RanRun trip s swaps (get_or rs q d).step (get_or rs q d).times m done C C' now₁ now₂ → Running trip s rs n q done swaps T C moved now₁
    → Running trip s rs n (q + 1) (done + m) (swaps + swaps_in (get_or rs q d).step m) T C' moved now₂
unfolding after moved_log
running_on {trip} {s} rs {n} {q} {done} {swaps} {m} {T} {C} {C'} {moved} {now₁} {now₂} d pos h e y z =
    let r = get_or rs q d in
    let rest = drop (suc q) rs in
    let left : n - (done + m) ≡ n - done - m = omega arith in
    let vs = entries (λ j. gone_by trip s swaps r.step r.times j C) 0 m in
    let tail = moved_log trip s (drop (suc q) rs) (swaps + swaps_in r.step m) (n - done - m) (ran_by trip s swaps r.step r.times m C) in
    let a = after_same trip pos (drop (suc q) rs) (swaps + swaps_in r.step m) (n - done - m) C' (ran_by trip s swaps r.step r.times m C) y.made in
    rw add-one
    (record {
      upto = omega (arith, e, z.upto);
      few = omega (arith, z.few, few_swaps r.step m);
      cells_left = λ i u. rw left (a.0 i u ∙ ap (λ (k : ℕ). after trip s rest (swaps + swaps_in r.step k) (n - done - k) (ran_by trip s swaps r.step r.times k C) i) e
          ∙ sym (ap (λ (l : List Run). after trip s l swaps (n - done) C i) (drop-cons rs q d h)) ∙ z.cells_left i u);
      log_left = rw left
          (ap (sets now₂ (done + m)) a.1 ∙ ap (λ (l : List ℕ). sets l (done + m) tail) y.log
          ∙ ap (λ (k : ℕ). sets (sets now₁ done vs) (done + k) tail) (sym (length-entries (λ j. gone_by trip s swaps r.step r.times j C) 0 m))
          ∙ sym (sets-append now₁ done vs tail)
          ∙ ap (λ (k : ℕ). sets now₁ done (entries (λ j. gone_by trip s swaps r.step r.times j C) 0 k ++ moved_log trip s rest (swaps + swaps_in r.step k) (n - done - k) (ran_by trip s swaps r.step r.times k C))) e
          ∙ sym (ap (λ (l : List Run). sets now₁ done (moved_log trip s l swaps (n - done) C)) (drop-cons rs q d h)) ∙ z.log_left);
    })

-- a run that was made, and logged
module _ {trip : Trip} {s swaps k : ℕ} {r : Run} {t : Tally} {C C' : ℕ → Cell} (side : is_side s ≡ true) (y : MadeRun trip s swaps r k t C C') where
  made_few : t.made ≤ r.times
  made_few = omega (arith, y.upto)

  pub run_few : (t.made ≤ k) × (t.swaps ≤ t.made)
  run_few = (omega (arith, y.upto), omega (arith, y.swaps-made, few_swaps r.step t.made))

  pub run_went : FewWent t.went
  run_went = went_few_in trip s side swaps r.times t.made made_few C r.step t C' y.moved

  pub run_counts : (j : ℕ) → j < t.made → tallied (is_late trip) r.times t j ≤ 65535
  run_counts j h = counts_few trip s side swaps r.times t.made made_few C r.step t C' y.moved j h

  pub run_logged : {from : ℕ} {moved moved' : List ℕ} → moved' ≡ sets moved from (entries (tallied (is_late trip) r.times t) 0 t.made)
      → RanRun trip s swaps r.step r.times t.made from C C' moved moved'
  run_logged e = run_made trip s side swaps r.times t.made made_few C r.step t C' y.moved e

pub running_next : {trip : Trip} {s : ℕ} (rs : List Run) {n q done swaps : ℕ} {T C C' : ℕ → Cell} {moved now₁ now₂ : List ℕ} {t : Tally} (d : Run) → is_side s ≡ true → q < length rs
    → MadeRun trip s swaps (get_or rs q d) (n - done) t C C' → now₂ ≡ sets now₁ done (entries (tallied (is_late trip) (get_or rs q d).times t) 0 t.made)
    → Running trip s rs n q done swaps T C moved now₁ → Running trip s rs n (q + 1) (done + t.made) (swaps + t.swaps) T C' moved now₂
running_next rs d side h y e z = rw y.swaps-made (running_on rs d (side_known _ side).least h y.upto (run_logged side y e) z)

pub running-end : {lanes : Bool} {trip : Trip} {s : ℕ} (rs : List Run) {n q done swaps : ℕ} {T C : ℕ → Cell} {moved moved' : List ℕ} → lanes ≡ true → length rs ≤ q
    → Running trip s rs n q done swaps T C moved moved' → Ran lanes trip s rs n T C moved moved'
unfolding after moved_log
running-end {lanes} {trip} {s} rs {n} {q} {done} {swaps} {T} {C} {moved} {moved'} l h z = record {
  made = λ _ i u. rw (drop_of_length-le rs h) at (z.cells_left i u);
  kept = λ f. absurd (let y : ◌≡◌ {A = Bool} true false = sym l ∙ f in let o : ◌≡◌ {A = ℕ} 0 1 = cc in omega arith);
  log = rw l (rw (drop_of_length-le rs h) at z.log_left);
}

pub ran-nothing : {lanes : Bool} {trip : Trip} {s : ℕ} {rs : List Run} {n : ℕ} {T : ℕ → Cell} {moved : List ℕ} → lanes ≡ false → Ran lanes trip s rs n T T moved moved
ran-nothing l = record {
  made = λ f. absurd (let y : ◌≡◌ {A = Bool} true false = sym f ∙ l in let o : ◌≡◌ {A = ℕ} 0 1 = cc in omega arith);
  kept = λ _ i. refl;
  log = rw l;
}
