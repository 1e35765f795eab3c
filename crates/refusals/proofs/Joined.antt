-- Aims judged all together: what is wrong is joined over the cells, and where nothing is, no aim is wrong.
use Prim.Native.Nat.{ℕ, zero, suc, ◌+◌, ◌-◌, ◌%◌, ◌^◌, ◌≤◌, ◌<◌}
use mathlib.Core.Path.{◌≡◌, refl, sym, ap, ◌∙◌}
use mathlib.Core.Bool.{Bool, true, false, ◌&&◌}
use mathlib.Core.List.{List, [], ◌∷◌}
use mathlib.Core.Logic.{⊎_elim}
use native.Mathlib.Nat.{add-zero, add-suc, mod-eq_of_lt}
use native.Mathlib.Omega.{arith}
use borrow.Author.Tests.{eqb-true, lt-ltb, le-ltb, ltb-true, lt-leb}
use lib.Dec.{ltb, leb, eqb}
use lib.ListN.{length, get_or, take, drop}
use lib.Seq.{length-take-le}
use Rattle.std.proofs.lemmas.List.{get_or-take}
use denote.Ref.{Bor}
use Rattle.std.specs.Prelude.{Option, Some, MatchOption}
use Rattle.std.proofs.lemmas.Iterator.{window_more}
use Rattle.std.specs.Slice.Iter.{windows_rest, windows_size}
use Rattle.std.specs.declared.slice.Windows.{Windows}
use Rattle.laws.proofs.Deciding.{apart}
use Rattle.laws.proofs.Searching.{all_passed}
use Rattle.laws.proofs.Bools.{both_left, both_right}
use Rattle.array.specs.Cells.{is_side, is_cell, cells}
use Rattle.lists.specs.declared.Trip.{Trip}
use Rattle.lists.specs.declared.Trip.TheVariants.{Concentrate, Distribute}
use Rattle.marks.specs.Marks.{rank_in}
use Rattle.answers.specs.Judged.{Judged}
use Rattle.std.specs.Prelude.{Ok}
use Rattle.refusals.specs.Cases.{bad_aim, first_aim, aims_case}
use Rattle.refusals.specs.Inside.{AllMarked, AllRising, LastInside, NoneBad}
use Rattle.refusals.proofs.Aims.{few_marked}

-- no aim is wrong, so none is found
pub none_case : {trip : Trip} {s : ℕ} {marks aims : List ℕ} {passed : Bool} → NoneBad trip s marks aims passed → passed ≡ true
    → Judged (aims_case trip s marks aims ∷ []) (Ok tt)
none_case {trip} {s} {marks} {aims} z h =
    let x : first_aim trip s marks aims ≡ length marks = all_passed (bad_aim trip s marks aims) (length marks) (z.none h) in
    record { so = λ a. rw (x, le-ltb (length marks) (length marks) (omega arith)) }

-- a test of the cells below i, and of cell i
also : (test : ℕ → Bool) (i : ℕ) → ((k : ℕ) → k < i → test k ≡ false) → test i ≡ false → (k : ℕ) → k < i + 1 → test k ≡ false
also test i below h k l =
    ⊎_elim
    (λ u. below k u)
    (λ u.
    let e : k ≡ i = omega arith in
    rw e h)
    (apart k i)

-- what is below a cell is one
cell_below : (s i j : ℕ) → i ≤ j → is_cell s j ≡ true → is_cell s i ≡ true
cell_below s i j l h =
    let b = both_left (is_side s) (ltb j (cells s)) h in
    rw (b, lt-ltb i (cells s) (omega (arith, ltb-true j (cells s) (both_right (is_side s) (ltb j (cells s)) h))))

-- in concentrate: the cells below i, with the rank of cell i
pub record RankedBelow (marks aims : List ℕ) (all : Bool) (rank i : ℕ) : Type 0 where
  pub rank_is : rank ≡ rank_in marks i
  pub few : rank ≤ i
  pub none : all ≡ true → (k : ℕ) → k < i → bad_aim Concentrate 0 marks aims k ≡ false

-- the aims before the window that comes next rise
pub record Rising (aims : List ℕ) (w : Windows ℕ) (all : Bool) : Type 0 where
  pub size : windows_size w ≡ 2
  pub short : length (windows_rest w) ≤ length aims
  pub rest : windows_rest w ≡ drop (length aims - length (windows_rest w)) aims
  pub rises : AllRising (suc (length aims - length (windows_rest w))) aims all

-- one window more
pub rising_next : {aims : List ℕ} {w v : Windows ℕ} {all : Bool} {r : Option (Bor (List ℕ))} {pair : Bor (List ℕ)}
    → r ≡ Some pair
    → (windows_size v ≡ windows_size w)
    × MatchOption r ((length (windows_rest w) < windows_size w) × (v ≡ w))
    (λ x. (windows_size w ≤ length (windows_rest w)) × (x.now ≡ take (windows_size w) (windows_rest w))
    × (windows_rest v ≡ drop 1 (windows_rest w)) × (length x.now ≡ windows_size w))
    → Rising aims w all → Rising aims v (all && ltb (get_or pair.now 0 0) (get_or pair.now 1 0))
rising_next {aims} {w} {v} {all} {r} {pair} e p z =
    let i = length aims - length (windows_rest w) in
    let m = window_more aims w v r pair e p (omega (arith, z.size)) z.short z.rest in
    let at : (j : ℕ) → j < 2 → get_or pair.now j 0 ≡ get_or aims (i + j) 0 = λ j h. m.3 j 0 (omega (arith, z.size)) in
    let next : suc (length aims - length (windows_rest v)) ≡ i + 1 + 1 = omega (arith, m.0, z.short) in
    record {
      size = p.0 ∙ z.size;
      short = omega (arith, m.0, z.short);
      rest = m.1;
      rises = rw next (record {
        each = λ h j l u. ⊎_elim (λ b. z.rises.each (both_left all _ h) j l (omega arith)) (λ b. here _ at h j (omega arith)) (apart j (i + 1));
      });
    }
  where
    here : (i : ℕ) → ((j : ℕ) → j < 2 → get_or pair.now j 0 ≡ get_or aims (i + j) 0)
        → (all && ltb (get_or pair.now 0 0) (get_or pair.now 1 0)) ≡ true → (j : ℕ) → j ≡ i + 1
        → get_or aims (j - 1) 0 < get_or aims j 0
    here i at h j e =
        let first : i + 0 ≡ j - 1 = omega arith in
        let second : i + 1 ≡ j = omega arith in
        let a : get_or pair.now 0 0 ≡ get_or aims (j - 1) 0 = at 0 (omega arith) ∙ ap (λ (k : ℕ). get_or aims k 0) first in
        let b : get_or pair.now 1 0 ≡ get_or aims j 0 = at 1 (omega arith) ∙ ap (λ (k : ℕ). get_or aims k 0) second in
        omega (arith, ltb-true (get_or pair.now 0 0) (get_or pair.now 1 0) (both_right all _ h))

abbrev pub falling : List ℕ → ℕ → Bool
falling aims i = ltb 0 i && leb (get_or aims i 0) (get_or aims (i - 1) 0)

-- the rank of a later cell is no lower
rank_grows : (marks : List ℕ) (i m : ℕ) → rank_in marks i ≤ rank_in marks (i + m)
rank_grows marks i zero = omega (arith, ap (rank_in marks) (add-zero i))
rank_grows marks i (suc m) = omega (arith, rank_grows marks i m, ap (rank_in marks) (add-suc i m))

-- as many first cells are marked as there are marks, so the others are not
module _ (s : ℕ) (marks aims : List ℕ) (count : ℕ) (all : count ≡ rank_in marks (length marks)) (marked : (i : ℕ) → i < count → get_or marks i 0 ≡ 1)
    (rises : (i : ℕ) → 0 < i → i < count → get_or aims (i - 1) 0 < get_or aims i 0) (ends : 0 < count → is_cell s (get_or aims (count - 1) 0) ≡ true) where
  rank_own : (i : ℕ) → i ≤ count → rank_in marks i ≡ i
  rank_own zero h = refl
  rank_own (suc i) h = omega (arith, rank_own i (omega arith), marked i (omega arith))

  -- a marked cell is one of them
  one_of : (i : ℕ) → i < length marks → get_or marks i 0 ≡ 1 → i < count
  one_of i h e =
      ⊎_elim
      (λ l. l)
      (λ l.
      let b : count + (i - count) ≡ i = omega arith in
      let c : suc i + (length marks - suc i) ≡ length marks = omega arith in
      absurd (omega (arith, rank_own count (omega arith), rank_grows marks count (i - count), ap (rank_in marks) b, rank_grows marks (suc i) (length marks - suc i), ap (rank_in marks) c, e, all)))
      (apart i count)

  -- no aim is above the last
  no_higher : (i m : ℕ) → i + m < count → get_or aims i 0 ≤ get_or aims (i + m) 0
  no_higher i zero h = omega (arith, ap (λ (k : ℕ). get_or aims k 0) (add-zero i))
  no_higher i (suc m) h =
      let b : i + suc m - 1 ≡ i + m = omega arith in
      omega (arith, no_higher i m (omega arith), rises (i + suc m) (omega arith) h, ap (λ (k : ℕ). get_or aims k 0) b)

  inside : (i : ℕ) → i < count → is_cell s (get_or aims i 0) ≡ true
  inside i h =
      let b : i + (count - 1 - i) ≡ count - 1 = omega arith in
      cell_below s (get_or aims i 0) (get_or aims (count - 1) 0) (omega (arith, no_higher i (count - 1 - i) (omega arith), ap (λ (k : ℕ). get_or aims k 0) b)) (ends (omega arith))

  none_falls : (i : ℕ) → i < count → falling aims i ≡ false
  none_falls i h =
      ⊎_elim (λ u. rw (lt-leb (get_or aims i 0) (get_or aims (i - 1) 0) (rises i u h)) (and_nothing (ltb 0 i))) (λ u. rw (le-ltb 0 i u)) (apart 0 i)
    where
      and_nothing : (b : Bool) → (b && false) ≡ false
      and_nothing true = refl
      and_nothing false = refl

  pub none_wrong : (i : ℕ) → i < length marks → bad_aim Distribute s marks aims i ≡ false
  none_wrong i h = go (eqb (get_or marks i 0) 1) refl
    where
      go : (b : Bool) → eqb (get_or marks i 0) 1 ≡ b → bad_aim Distribute s marks aims i ≡ false
      go false e = rw e
      go true e =
          let l = one_of i h (eqb-true (get_or marks i 0) 1 e) in
          rw (e, rank_own i (omega arith), le-ltb i i (omega arith), inside i l) (none_falls i l)

-- how many cells of a board are marked
pub count_is : (marks : List ℕ) {count : ℕ} → length marks ≤ 4096 → ((i : ℕ) → i < length marks → get_or marks i 0 < 2)
    → count ≡ rank_in marks (length marks) % 2 ^ 16 → count ≡ rank_in marks (length marks)
count_is marks few good e = e ∙ mod-eq_of_lt (omega (arith, few_marked marks (length marks) good))

pub count_few : (marks : List ℕ) {count : ℕ} → length marks ≤ 4096 → ((i : ℕ) → i < length marks → get_or marks i 0 < 2)
    → count ≡ rank_in marks (length marks) % 2 ^ 16 → count ≤ length marks
count_few marks few good e = omega (arith, count_is marks few good e, few_marked marks (length marks) good)

-- the three tests together, of the first cells, as many as there are marks
pub aimed_all : (s : ℕ) (marks aims : List ℕ) {count : ℕ} {marked rising ends : Bool} → count ≡ rank_in marks (length marks)
    → count ≤ length marks → count ≤ length aims
    → AllMarked (length (take count marks)) (take count marks) marked → AllRising (length (take count aims)) (take count aims) rising
    → LastInside s (length (take count aims)) (take count aims) ends → marked ≡ true → rising ≡ true → NoneBad Distribute s marks aims ends
aimed_all s marks aims {count} c k n m r l p q =
    let m' = rw (length-take-le count marks k) at m in
    let r' = rw (length-take-le count aims n) at r in
    let l' = rw (length-take-le count aims n) at l in
    let first : (xs : List ℕ) (i : ℕ) → i < count → get_or (take count xs) i 0 ≡ get_or xs i 0 = λ xs i h. get_or-take count xs i 0 h in
    record {
      none = λ h. none_wrong s marks aims count c
          (λ i u. sym (first marks i u) ∙ m'.each p i u)
          (λ i o u. omega (arith, r'.each q i o u, first aims (i - 1) (omega arith), first aims i u))
          (λ o. rw (first aims (count - 1) (omega arith)) at (l'.cell h o));
    }
