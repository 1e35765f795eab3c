-- Enough moves: where no record has farther to go than k cells, the first k moves of a run do what more would, and of a run that goes late only the last k do anything.
use Prim.Native.Nat.{ℕ, zero, suc, ◌+◌, ◌-◌, ◌*◌, ◌≤◌, ◌<◌, min, max}
use mathlib.Core.Path.{◌≡◌, refl, sym, ap, ap₂, ◌∙◌, subst}
use mathlib.Core.Logic.{◌⊎◌, inl, inr, ⊎_elim}
use mathlib.Core.Bool.{Bool, true, false, cond, not, ◌&&◌}
use native.Mathlib.Omega.{arith}
use borrow.Author.Tests.{eq-eqb}
use lib.Dec.{eqb}
use Rattle.laws.proofs.Deciding.{apart}
use Rattle.array.specs.declared.moves.Way.{Way}
use Rattle.array.specs.declared.moves.Way.TheVariants.{Right, Left, Up, Down}
use Rattle.array.specs.Cells.{groups, cells, group, place}
use Rattle.array.proofs.Board.{cell-group-place, place_in, group_in}
use Rattle.slots.specs.declared.Rec.{Rec}
use Rattle.slots.specs.declared.Cell.{Cell}
use Rattle.slots.specs.Cells.{joined}
use Rattle.mesh.specs.declared.Leg.{Leg}
use Rattle.mesh.specs.Lines.{head_of, reach, end_of, leaves, none_leaves, landed, gathered, ran_line, cells_to_go}
use Rattle.array.specs.Moves.{stride_of}
use Rattle.mesh.specs.Mesh.{line_rule_of, spot_of, line_cell, ran_on}
use Rattle.mesh.specs.Inside.{Strided, line_step, gone_of}
use Rattle.mesh.proofs.Walking.{ends_up, ends_down}
use Rattle.mesh.proofs.Spots.{Split, split, spotted, line_in, spot-shifted, line_of}
use Rattle.mesh.proofs.Groups.{part_fits}
use Rattle.mesh.proofs.Counting.{up_to}
use Rattle.distances.specs.Distances.{greatest, far_of, far_in, farthest_on, farthest}

-- each is at most the greatest, and the greatest at most what none exceeds
pub each_most : (n : ℕ) (f : ℕ → ℕ) (i : ℕ) → i < n → f i ≤ greatest n f
unfolding greatest
each_most zero f i h = absurd (omega arith)
each_most (suc n) f i h =
    ⊎_elim
    (λ u. let z = each_most n f i u in omega arith)
    (λ u. let e : i ≡ n = omega arith in let z : f i ≡ f n = ap f e in omega arith)
    (apart i n)

pub most_under : (n : ℕ) (f : ℕ → ℕ) (k : ℕ) → ((i : ℕ) → i < n → f i ≤ k) → greatest n f ≤ k
unfolding greatest
most_under zero f k h = omega arith
most_under (suc n) f k h =
    let y = most_under n f k (λ i u. h i (omega arith)) in
    let z = h n (omega arith) in
    omega (arith, y, z)

-- each record's distance is at most the greatest of its line, and of the board
pub far_on : (l : Leg) (U : ℕ → Cell) (p : ℕ) → p < l.side → far_in l p (U p) ≤ farthest_on l U
far_on l U p h = each_most l.side (λ p. far_in l p (U p)) p h

pub far_of_lem : (l : Leg) (T : ℕ → Cell) (i : ℕ) → i < cells l.side → far_in l (spot_of (line_rule_of l) i) (T i) ≤ farthest l T
far_of_lem l T i h = each_most (cells l.side) (λ i. far_in l (spot_of (line_rule_of l) i) (T i)) i h

pub far-front : (l : Leg) (p : ℕ) (c : Cell) {d : ℕ} → far_in l p c ≤ d → far_of l p c.front ≤ d
far-front l p c h = most_left (far_of l p c.front) (far_of l p c.spare) h
  where
    most_left : (a b : ℕ) {d : ℕ} → max a b ≤ d → a ≤ d
    most_left a b h = omega arith

pub far_spare : (l : Leg) (p : ℕ) (c : Cell) {d : ℕ} → far_in l p c ≤ d → far_of l p c.spare ≤ d
far_spare l p c h = most_right (far_of l p c.front) (far_of l p c.spare) h
  where
    most_right : (a b : ℕ) {d : ℕ} → max a b ≤ d → b ≤ d
    most_right a b h = omega arith

-- a choice between two that are the same
either : {A : Type 0} (m : Bool) (c : A) → cond m c c ≡ c
either true c = refl
either false c = refl

-- runs of a moves and of b that take a record equally far which has at most d cells to go
module _ (l : Leg) (a b d : ℕ) (same : (n : ℕ) → n ≤ d → gone_of (line_rule_of (up_to l a)) n ≡ gone_of (line_rule_of (up_to l b)) n) where
  abbrev A : Leg
  A = up_to l a

  abbrev B : Leg
  B = up_to l b

  ends_same : (q h : ℕ) → cells_to_go (line_rule_of l) q h ≤ d → reach (line_rule_of A) h q (line_rule_of A).made ≡ reach (line_rule_of B) h q (line_rule_of B).made
  ends_same q h u =
      ⊎_elim
      (λ v. ends_up (line_rule_of A) h q (omega arith) v ∙ ap (λ (n : ℕ). q + n) (same (cells_to_go (line_rule_of l) q h) u) ∙ sym (ends_up (line_rule_of B) h q (omega arith) v))
      (λ v. ends_down (line_rule_of A) h q (omega arith) v ∙ ap (λ (n : ℕ). q - n) (same (cells_to_go (line_rule_of l) q h) u) ∙ sym (ends_down (line_rule_of B) h q (omega arith) v))
      (apart q h)

  leaves-same : (q : ℕ) (x : Rec) → far_of l q x ≤ d → leaves (line_rule_of A) q x ≡ leaves (line_rule_of B) q x
  unfolding leaves
  leaves-same q x u = go (eqb x.mark 0) u
    where
      go : (m : Bool) → cond m 0 (cells_to_go (line_rule_of l) q (head_of (line_rule_of l) x)) ≤ d → cond m false (not (eqb (end_of (line_rule_of A) q x) q)) ≡ cond m false (not (eqb (end_of (line_rule_of B) q x) q))
      go true u = refl
      go false u = ap (λ (e : ℕ). not (eqb e q)) (ends_same q (head_of (line_rule_of l) x) u)

  landed-same : (p q : ℕ) (x : Rec) (c : Cell) → far_of l q x ≤ d → landed (line_rule_of A) p q x c ≡ landed (line_rule_of B) p q x c
  unfolding landed joined
  landed-same p q x c u = go (eqb x.mark 0) u _
    where
      go : (m : Bool) → cond m 0 (cells_to_go (line_rule_of l) q (head_of (line_rule_of l) x)) ≤ d → (r : Cell)
          → cond (eqb (end_of (line_rule_of A) q x) p) (cond m c r) c ≡ cond (eqb (end_of (line_rule_of B) q x) p) (cond m c r) c
      go true u r = either (eqb (end_of (line_rule_of A) q x) p) c ∙ sym (either (eqb (end_of (line_rule_of B) q x) p) c)
      go false u r = ap (λ (e : ℕ). cond (eqb e p) r c) (ends_same q (head_of (line_rule_of l) x) u)

  module _ (U : ℕ → Cell) (far : (q : ℕ) → q < l.side → far_in l q (U q) ≤ d) where
    gathered-same : (p n : ℕ) → n ≤ l.side → gathered (line_rule_of A) U p n ≡ gathered (line_rule_of B) U p n
    unfolding gathered
    gathered-same p zero k = refl
    gathered-same p (suc n) k =
        let u = far n (omega arith) in
        let below = gathered (line_rule_of B) U p n in
        ap (λ (c : Cell). landed (line_rule_of A) p n (U n).spare (landed (line_rule_of A) p n (U n).front c)) (gathered-same p n (omega arith))
        ∙ landed-same p n (U n).spare (landed (line_rule_of A) p n (U n).front below) (far_spare l n (U n) u)
        ∙ ap (landed (line_rule_of B) p n (U n).spare) (landed-same p n (U n).front below (far-front l n (U n) u))

    none-same : (S : ℕ → Rec) → ((q : ℕ) → q < l.side → far_of l q (S q) ≤ d) → (n : ℕ) → n ≤ l.side → none_leaves (line_rule_of A) S n ≡ none_leaves (line_rule_of B) S n
    unfolding none_leaves
    none-same S f zero k = refl
    none-same S f (suc n) k = ap₂ (λ (x y : Bool). x && not y) (none-same S f n (omega arith)) (leaves-same n (S n) (f n (omega arith)))

    pub line_same : (p : ℕ) → p < l.side → ran_line (line_rule_of A) U p ≡ ran_line (line_rule_of B) U p
    line_same p h =
        let f = none-same (λ q. (U q).front) (λ q u. far-front l q (U q) (far q u)) l.side (omega arith) in
        let g = none-same (λ q. (U q).spare) (λ q u. far_spare l q (U q) (far q u)) l.side (omega arith) in
        ap₂ (λ (b : Bool) (c : Cell). cond b (U p) c) (ap₂ ◌&&◌ f g) (gathered-same p l.side (omega arith))

-- a run of which no move is made leaves a line as it is
module _ (l : Leg) where
  abbrev none : Leg
  none = up_to l 0

  none_ends : (q h : ℕ) → reach (line_rule_of none) h q (line_rule_of none).made ≡ q
  unfolding reach
  none_ends q h = let e : min 0 l.times ≡ 0 = omega arith in ap (reach (line_rule_of none) h q) e

  none-leaves : (q : ℕ) (x : Rec) → leaves (line_rule_of none) q x ≡ false
  unfolding leaves
  none-leaves q x = rw (eq-eqb (end_of (line_rule_of none) q x) q (none_ends q (head_of (line_rule_of none) x))) (either (eqb x.mark 0) false)

  none-all : (S : ℕ → Rec) (n : ℕ) → none_leaves (line_rule_of none) S n ≡ true
  unfolding none_leaves
  none-all S zero = refl
  none-all S (suc n) = rw (none-all S n, none-leaves n (S n))

  none-ran : (U : ℕ → Cell) (p : ℕ) → ran_line (line_rule_of none) U p ≡ U p
  none-ran U p = rw (none-all (λ q. (U q).front) l.side, none-all (λ q. (U q).spare) l.side)

-- a record that has at most d cells to go is there after d moves, and going late it has not set off while d are left
first-gone : (l : Leg) (k m : ℕ) → l.late ≡ false → k ≤ m → (n : ℕ) → n ≤ k → gone_of (line_rule_of (up_to l k)) n ≡ gone_of (line_rule_of (up_to l m)) n
first-gone l k m e h n u = rw e (omega arith)

last_gone : (l : Leg) (k d : ℕ) → l.late ≡ true → k ≤ l.times - d → (n : ℕ) → n ≤ d → gone_of (line_rule_of (up_to l k)) n ≡ gone_of (line_rule_of (up_to l 0)) n
last_gone l k d e h n u = rw e (omega arith)

-- a run of as many moves as the greatest distance on a line does to it what a longer one does
pub line_enough : (l : Leg) (U : ℕ → Cell) (k m : ℕ) → l.late ≡ false → farthest_on l U ≤ k → k ≤ m → (p : ℕ) → p < l.side
    → ran_line (line_rule_of (up_to l k)) U p ≡ ran_line (line_rule_of (up_to l m)) U p
line_enough l U k m e f h p i = line_same l k m k (first-gone l k m e h) U (λ q u. let z = far_on l U q u in omega (arith, z, f)) p i

-- of a run that goes late only as many last moves do anything to it
pub line-idle : (l : Leg) (U : ℕ → Cell) (k d : ℕ) → l.late ≡ true → farthest_on l U ≤ d → k ≤ l.times - d → (p : ℕ) → p < l.side → ran_line (line_rule_of (up_to l k)) U p ≡ U p
line-idle l U k d e f h p i =
    line_same l k 0 d (last_gone l k d e h) U (λ q u. let z = far_on l U q u in omega (arith, z, f)) p i
    ∙ none-ran l U p

-- a board that has a cell has a side
some_side : (s i : ℕ) → i < cells s → 0 < s
some_side zero i h = absurd (omega arith)
some_side (suc s) i h = omega arith

-- the line of a cell of the board lies on it, each cell of it in its place
module _ (l : Leg) (i : ℕ) (i< : i < cells l.side) where
  some : 0 < l.side
  some = some_side l.side i i<

  strided : Strided (line_rule_of l)
  strided = go l.way
    where
      go : (w : Way) → (stride_of l.side w ≡ 1) ⊎ (stride_of l.side w ≡ l.side)
      go Right = inl refl
      go Left = inl refl
      go Up = inr refl
      go Down = inr refl

  abbrev N : ℕ
  N = groups l.side

  abbrev g : ℕ
  g = group l.side i

  abbrev at : ℕ
  at = place l.side i

  -- cell q of the same line, by its group
  abbrev in_group : ℕ → ℕ
  in_group q = line_of (line_rule_of l) at * line_step (line_rule_of l) + q * (line_rule_of l).stride

  parts : Split (line_rule_of l) at
  parts = split (line_rule_of l) some strided at (place_in some i)

  own_spot : spot_of (line_rule_of l) i ≡ spot_of (line_rule_of l) at
  own_spot = ap (spot_of (line_rule_of l)) (sym (cell-group-place l.side i)) ∙ spot-shifted (line_rule_of l) some strided g at

  by_group : (q : ℕ) → line_cell (line_rule_of l) i q ≡ g * N + in_group q
  by_group q =
      let is : g * N + at ≡ i = cell-group-place l.side i in
      ap (λ (n : ℕ). i - n * (line_rule_of l).stride + q * (line_rule_of l).stride) own_spot ∙ omega (arith, is, parts.is)

  line_on : (q : ℕ) → q < l.side → line_cell (line_rule_of l) i q < cells l.side
  line_on q h =
      let fits : g * N + N ≤ N * N = part_fits N g (g * N) (group_in some i i<) refl in
      omega (arith, by_group q, fits, line_in (line_rule_of l) some strided (line_of (line_rule_of l) at) q parts.line< h)

  line-spot : (q : ℕ) → q < l.side → spot_of (line_rule_of l) (line_cell (line_rule_of l) i q) ≡ q
  line-spot q h =
      ap (spot_of (line_rule_of l)) (by_group q)
      ∙ spot-shifted (line_rule_of l) some strided g (in_group q)
      ∙ (spotted (line_rule_of l) some strided (line_of (line_rule_of l) at) q parts.line< h).spot

  own_cell : line_cell (line_rule_of l) i (spot_of (line_rule_of l) i) ≡ i
  own_cell =
      let is : g * N + at ≡ i = cell-group-place l.side i in
      by_group (spot_of (line_rule_of l) i) ∙ ap (λ (q : ℕ). g * N + in_group q) own_spot ∙ omega (arith, is, parts.is)

  spot_in : spot_of (line_rule_of l) i < l.side
  spot_in = omega (arith, own_spot, parts.spot<)

  -- so no distance on it is greater than the greatest of the board
  pub line_most : (T : ℕ → Cell) → farthest_on l (λ q. T (line_cell (line_rule_of l) i q)) ≤ farthest l T
  line_most T = most_under l.side (λ q. far_in l q (T (line_cell (line_rule_of l) i q))) (farthest l T) one
    where
      one : (q : ℕ) → q < l.side → far_in l q (T (line_cell (line_rule_of l) i q)) ≤ farthest l T
      one q h = subst (λ (p : ℕ). far_in l p (T (line_cell (line_rule_of l) i q)) ≤ farthest l T) (line-spot q h) (far_of_lem l T (line_cell (line_rule_of l) i q) (line_on q h))

-- a run of as many moves as the greatest distance on the board does what a longer one does
pub enough : (l : Leg) (T : ℕ → Cell) (k m : ℕ) → l.late ≡ false → farthest l T ≤ k → k ≤ m → (i : ℕ) → i < cells l.side
    → ran_on (line_rule_of (up_to l k)) T i ≡ ran_on (line_rule_of (up_to l m)) T i
unfolding ran_on
enough l T k m e f h i u =
    let z = line_most l i u T in
    line_enough l (λ q. T (line_cell (line_rule_of l) i q)) k m e (omega (arith, z, f)) h (spot_of (line_rule_of l) i) (spot_in l i u)

-- of a run that goes late only as many last moves do anything
pub idle : (l : Leg) (T : ℕ → Cell) (k d : ℕ) → l.late ≡ true → farthest l T ≤ d → k ≤ l.times - d → (i : ℕ) → i < cells l.side → ran_on (line_rule_of (up_to l k)) T i ≡ T i
unfolding ran_on
idle l T k d e f h i u =
    let z = line_most l i u T in
    line-idle l (λ q. T (line_cell (line_rule_of l) i q)) k d e (omega (arith, z, f)) h (spot_of (line_rule_of l) i) (spot_in l i u)
    ∙ ap T (own_cell l i u)
