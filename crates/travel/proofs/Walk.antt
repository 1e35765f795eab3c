-- Where a record of a group stands, by the moves made; and one move more, made and undone.
use Prim.Native.Nat.{ℕ, suc, ◌+◌, ◌-◌, ◌*◌, ◌/◌, ◌%◌, ◌≤◌, ◌<◌}
use mathlib.Core.Path.{◌≡◌, refl, ap}
use mathlib.Core.Bool.{cond}
use mathlib.Core.List.{List, [], ◌∷◌}
use lib.Dec.{ltb}
use borrow.Author.Tests.{lt-ltb, le-ltb}
use mathlib.Core.Logic.{⊎_elim}
use lib.Arith.{digits_div, digits_mod, digits_lt}
use native.Mathlib.Nat.{div-add-mod', mod-lt, suc-mul, div-lt_iff_lt-mul}
use native.Mathlib.Omega.{arith}
use Rattle.array.specs.declared.moves.Way.{Way}
use Rattle.array.specs.declared.moves.Way.TheVariants.{Right, Left, Up, Down}
use Rattle.array.specs.declared.moves.Move.{Move}
use Rattle.array.specs.declared.moves.Move.TheVariants.{Swap, Electronic}
use Rattle.array.specs.Cells.{cell, place, row, column, onward}
use Rattle.array.specs.Moves.{opposite}
use Rattle.laws.proofs.Deciding.{apart}
use Rattle.travel.specs.Travel.{distance, toward}
use Rattle.travel.proofs.Line.{near, near_lt, near_none, undo_up, undo_down}

-- how many moves went right, left, up and down
pub record Steps : Type 0 where
  pub rights : ℕ
  pub lefts : ℕ
  pub ups : ℕ
  pub downs : ℕ

abbrev pub no_steps : Steps
no_steps = record { rights = 0; lefts = 0; ups = 0; downs = 0 }

-- of some moves those one way
abbrev pub steps_to : Way → Steps → ℕ
steps_to Right c = c.rights
steps_to Left c = c.lefts
steps_to Up c = c.ups
steps_to Down c = c.downs

-- with one move more: a swap begins a new half
abbrev pub onto : Move → Steps → Steps
onto Swap c = no_steps
onto (Electronic Right) c = record { rights = suc c.rights; lefts = c.lefts; ups = c.ups; downs = c.downs }
onto (Electronic Left) c = record { rights = c.rights; lefts = suc c.lefts; ups = c.ups; downs = c.downs }
onto (Electronic Up) c = record { rights = c.rights; lefts = c.lefts; ups = suc c.ups; downs = c.downs }
onto (Electronic Down) c = record { rights = c.rights; lefts = c.lefts; ups = c.ups; downs = suc c.downs }

-- the moves of the half that some moves end in
abbrev pub tally : List Move → Steps → Steps
tally [] c = c
tally (m ∷ ms) c = tally ms (onto m c)

-- the row, the column and the place in its group of a record that started in place p with the key q, after these moves
abbrev pub row_of : ℕ → ℕ → ℕ → Steps → ℕ
row_of s p q c = near c.downs c.ups (p / s) (q / s % s)

abbrev pub column_of : ℕ → ℕ → ℕ → Steps → ℕ
column_of s p q c = near c.rights c.lefts (p % s) (q % s)

abbrev pub seat : ℕ → ℕ → ℕ → Steps → ℕ
seat s p q c = row_of s p q c * s + column_of s p q c

-- the cell after one electronic move of a record in cell i that goes if place h lies further than it waits
abbrev pub going : ℕ → Way → ℕ → ℕ → ℕ → ℕ
going s w wait h i = cond (ltb wait (distance s w h (place s i))) (onward s w i) i

choose : (a b : ℕ) {u v w : ℕ} → (a < b → u ≡ w) → (b ≤ a → v ≡ w) → cond (ltb a b) u v ≡ w
choose a b f g = ⊎_elim (λ l. rw (lt-ltb a b l) (f l)) (λ l. rw (le-ltb a b l) (g l)) (apart a b)

-- a record in row y and column x of group g, and a place h in row u and column v
module _ {s x y u v : ℕ} (g h wait : ℕ) (x< : x < s) (y< : y < s) (in_column : column s h ≡ v) (in_row : row s h ≡ u) where
  rightward : {x' : ℕ} → (wait < v - x → suc x ≡ x') × (v - x ≤ wait → x ≡ x') → going s Right wait h (cell s g (y * s + x)) ≡ cell s g (y * s + x')
  rightward f = rw (digits_mod g (digits_lt y< x<), digits_mod y x<, in_column) (choose wait (v - x) (λ l. omega (arith, f.0 l)) (λ l. omega (arith, f.1 l)))

  leftward : {x' : ℕ} → (wait < x - v → x ≡ suc x') × (x - v ≤ wait → x ≡ x') → going s Left wait h (cell s g (y * s + x)) ≡ cell s g (y * s + x')
  leftward f = rw (digits_mod g (digits_lt y< x<), digits_mod y x<, in_column) (choose wait (x - v) (λ l. omega (arith, f.0 l)) (λ l. omega (arith, f.1 l)))

  upward : {y' : ℕ} → (wait < y - u → y ≡ suc y') × (y - u ≤ wait → y ≡ y') → going s Up wait h (cell s g (y * s + x)) ≡ cell s g (y' * s + x)
  upward {y'} f =
      rw (digits_mod g (digits_lt y< x<), digits_div y x<, in_row)
      (choose wait (y - u) (λ l. omega (arith, ap (λ (z : ℕ). z * s) (f.0 l), suc-mul y' s)) (λ l. rw (f.1 l)))

  downward : {y' : ℕ} → (wait < u - y → suc y ≡ y') × (u - y ≤ wait → y ≡ y') → going s Down wait h (cell s g (y * s + x)) ≡ cell s g (y' * s + x)
  downward {y'} f =
      rw (digits_mod g (digits_lt y< x<), digits_div y x<, in_row)
      (choose wait (u - y) (λ l. omega (arith, ap (λ (z : ℕ). z * s) (f.0 l), suc-mul y s)) (λ l. rw (f.1 l)))

-- a record that started in place p with the key q heads for place h, which has the last two digits of q
pub record Heads (s p q h : ℕ) : Type 0 where
  pub pos : 0 < s
  pub inside : p < s * s
  pub in_column : column s h ≡ q % s
  pub in_row : row s h ≡ q / s % s

module _ {s p q h : ℕ} (t : Heads s p q h) where
  x< : (c : Steps) → column_of s p q c < s
  x< c = near_lt c.rights c.lefts (mod-lt p t.pos) (mod-lt q t.pos)

  y< : (c : Steps) → row_of s p q c < s
  y< c = near_lt c.downs c.ups ((div-lt_iff_lt-mul t.pos).1 t.inside) (mod-lt (q / s) t.pos)

  pub seat< : (c : Steps) → seat s p q c < s * s
  seat< c = digits_lt (y< c) (x< c)

  module _ (g : ℕ) (c : Steps) where
    -- one move more
    pub step_on : (w : Way) → toward s w h (cell s g (seat s p q c)) ≡ cell s g (seat s p q (onto (Electronic w) c))
    step_on Right = rightward g h 0 (x< c) (y< c) t.in_column t.in_row (omega arith)
    step_on Left = leftward g h 0 (x< c) (y< c) t.in_column t.in_row (omega arith)
    step_on Up = upward g h 0 (x< c) (y< c) t.in_column t.in_row (omega arith)
    step_on Down = downward g h 0 (x< c) (y< c) t.in_column t.in_row (omega arith)

    -- the last move of a way is undone by a record that made them all: it is further from its start than the others took it
    pub undone : (w : Way) → going s (opposite w) (steps_to w c) p (cell s g (seat s p q (onto (Electronic w) c))) ≡ cell s g (seat s p q c)
    undone Right = let e = onto (Electronic Right) c in leftward g p c.rights (x< e) (y< e) refl refl (undo_up c.rights c.lefts (p % s) (q % s))
    undone Left = let e = onto (Electronic Left) c in rightward g p c.lefts (x< e) (y< e) refl refl (undo_down c.rights c.lefts (p % s) (q % s))
    undone Up = let e = onto (Electronic Up) c in downward g p c.ups (x< e) (y< e) refl refl (undo_down c.downs c.ups (p / s) (q / s % s))
    undone Down = let e = onto (Electronic Down) c in upward g p c.downs (x< e) (y< e) refl refl (undo_up c.downs c.ups (p / s) (q / s % s))

pub start : (s g p q : ℕ) → cell s g p ≡ cell s g (seat s p q no_steps)
start s g p q = simp near_none (omega (arith, div-add-mod' p s))
