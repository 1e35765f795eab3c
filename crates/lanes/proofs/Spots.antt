-- The places of a group by lines: line k of a way and position p on it.
use Prim.Native.Nat.{ℕ, zero, suc, ◌+◌, ◌-◌, ◌*◌, ◌≤◌, ◌<◌}
use mathlib.Core.Path.{◌≡◌, refl, sym, ap, ◌∙◌}
use mathlib.Core.Bool.{Bool, true, false, cond}
use native.Mathlib.Omega.{arith}
use native.Mathlib.Nat.{suc-mul, mul-one, one-mul, add-mul}
use native.Mathlib.Numerals.{add-one}
use lib.Arith.{digits_div, digits_mod, digits_lt}
use lib.Dec.{ltb}
use borrow.Author.Tests.{ltb-true, ltb-false}
use Rattle.laws.proofs.Numbers.{square_grows}
use Rattle.array.specs.declared.moves.Way.{Way}
use Rattle.array.specs.declared.moves.Way.TheVariants.{Right, Left, Up, Down}
use Rattle.array.specs.Cells.{groups, row, column}
use Rattle.array.specs.Moves.{is_forth, stride_of, line_gap}
use Rattle.array.proofs.Board.{place_is, row_in, column_in}
use Rattle.std.specs.Prelude.{Some, None}
use Rattle.lanes.specs.Stages.{position}
use Rattle.lanes.specs.Inside.{Group, Source, source_of, behind_of, beginning_of, Places, Apart, line_from, line_at, LinesIn}

-- the place at position p of line k, and the line of a place
abbrev pub spot : ℕ → Way → ℕ → ℕ → ℕ
spot s w k p = p * stride_of s w + k * line_gap s w

abbrev pub line_number : Way → ℕ → ℕ → ℕ
line_number Right a b = a
line_number Left a b = a
line_number Up a b = b
line_number Down a b = b

-- by row and column
abbrev row_of : Way → ℕ → ℕ → ℕ
row_of Right k p = k
row_of Left k p = k
row_of Up k p = p
row_of Down k p = p

abbrev column_of : Way → ℕ → ℕ → ℕ
column_of Right k p = p
column_of Left k p = p
column_of Up k p = k
column_of Down k p = k

spot-at : (s : ℕ) (w : Way) (k p : ℕ) → spot s w k p ≡ row_of w k p * s + column_of w k p
spot-at s Right k p = omega (arith, mul-one p)
spot-at s Left k p = omega (arith, mul-one p)
spot-at s Up k p = omega (arith, mul-one k)
spot-at s Down k p = omega (arith, mul-one k)

module _ {s k p : ℕ} (hk : k < s) (hp : p < s) where
  row< : (w : Way) → row_of w k p < s
  row< Right = hk
  row< Left = hk
  row< Up = hp
  row< Down = hp

  column< : (w : Way) → column_of w k p < s
  column< Right = hp
  column< Left = hp
  column< Up = hk
  column< Down = hk

  pub spot_in : (w : Way) → spot s w k p < groups s
  spot_in w = rw (spot-at s w k p) (digits_lt (row< w) (column< w))

  row_is : (w : Way) → row s (spot s w k p) ≡ row_of w k p
  row_is w = rw (spot-at s w k p) (digits_div (row_of w k p) (column< w))

  column_is : (w : Way) → column s (spot s w k p) ≡ column_of w k p
  column_is w = rw (spot-at s w k p) (digits_mod (row_of w k p) (column< w))

  pub spot-position : (w : Way) → position w (row s (spot s w k p)) (column s (spot s w k p)) ≡ p
  spot-position Right = column_is Right
  spot-position Left = column_is Left
  spot-position Up = row_is Up
  spot-position Down = row_is Down

  pub spot-line : (w : Way) → line_number w (row s (spot s w k p)) (column s (spot s w k p)) ≡ k
  spot-line Right = row_is Right
  spot-line Left = row_is Left
  spot-line Up = column_is Up
  spot-line Down = column_is Down

-- a place is on its line at its position
pub spot_is : (s i : ℕ) (w : Way) → spot s w (line_number w (row s i) (column s i)) (position w (row s i) (column s i)) ≡ i
spot_is s i w = spot-at s w _ _ ∙ back w ∙ place_is s i
  where
    back : (w : Way) → row_of w (line_number w (row s i) (column s i)) (position w (row s i) (column s i)) * s
        + column_of w (line_number w (row s i) (column s i)) (position w (row s i) (column s i)) ≡ row s i * s + column s i
    back Right = refl
    back Left = refl
    back Up = refl
    back Down = refl

pub line_in : {s : ℕ} (i : ℕ) (w : Way) → 1 ≤ s → i < groups s → line_number w (row s i) (column s i) < s
line_in i Right h l = row_in h i l
line_in i Left h l = row_in h i l
line_in i Up h l = column_in h i
line_in i Down h l = column_in h i

pub position_in : {s : ℕ} (i : ℕ) (w : Way) → 1 ≤ s → i < groups s → position w (row s i) (column s i) < s
position_in i Right h l = column_in h i
position_in i Left h l = column_in h i
position_in i Up h l = row_in h i l
position_in i Down h l = row_in h i l

-- position or place j is so far behind i where the words go forth, or back
abbrev pub Along : Bool → ℕ → ℕ → ℕ → Type 0
Along true gap i j = j + gap ≡ i
Along false gap i j = i + gap ≡ j

-- a position behind another one, and one that has none
pub record Behind (s : ℕ) (forth : Bool) (p q : ℕ) : Type 0 where
  pub inside : q < s
  pub other : q ≡ p → ⊥
  pub next : Along forth 1 p q
  pub later : p ≡ cond forth 0 (s - 1) → ⊥

abbrev pub Known : ℕ → Bool → ℕ → Source → Type 0
Known s forth p (Some q) = Behind s forth p q
Known s forth p None = p ≡ cond forth 0 (s - 1)

known : (s p : ℕ) (forth : Bool) → p < s → Known s forth p (cond forth (cond (ltb 0 p) (Some (p - 1)) None) (cond (ltb (p + 1) s) (Some (p + 1)) None))
known s p true h = go (ltb 0 p) refl
  where
    go : (t : Bool) → ltb 0 p ≡ t → Known s true p (cond t (Some (p - 1)) None)
    go true e = let u = ltb-true 0 p e in record { inside = omega arith; other = λ x. omega arith; next = omega arith; later = λ x. omega arith }
    go false e = let u = ltb-false 0 p e in omega arith
known s p false h = go (ltb (p + 1) s) refl
  where
    go : (t : Bool) → ltb (p + 1) s ≡ t → Known s false p (cond t (Some (p + 1)) None)
    go true e = let u = ltb-true (p + 1) s e in record { inside = omega arith; other = λ x. omega arith; next = refl; later = λ x. omega arith }
    go false e = let u = ltb-false (p + 1) s e in omega arith

pub behind_known : (s : ℕ) (w : Way) (p : ℕ) → p < s → Known s (is_forth w) p (behind_of s w p)
behind_known s w p h = known s p (is_forth w) h

pub beginning_in : {s : ℕ} (w : Way) → 1 ≤ s → beginning_of s w < s
beginning_in {s} w h = go (is_forth w)
  where
    go : (forth : Bool) → cond forth 0 (s - 1) < s
    go true = h
    go false = omega arith

-- a position on is a place of the line on
spot_next : (s : ℕ) (w : Way) (k p : ℕ) → spot s w k (p + 1) ≡ spot s w k p + stride_of s w
spot_next s w k p = omega (arith, add-mul p 1 (stride_of s w), one-mul (stride_of s w))

pub spots_along : (s : ℕ) (w : Way) (k p q : ℕ) (forth : Bool) → Along forth 1 p q → Along forth (stride_of s w) (spot s w k p) (spot s w k q)
spots_along s w k p q true e = sym (spot_next s w k q) ∙ ap (spot s w k) e
spots_along s w k p q false e = sym (spot_next s w k p) ∙ ap (spot s w k) e

-- what comes to a place comes along its line
abbrev pub placed : (ℕ → ℕ) → Source → Source
placed f (Some q) = Some (f q)
placed f None = None

pub source_is : (s i : ℕ) (w : Way) → source_of s w i ≡ placed (spot s w (line_number w (row s i) (column s i))) (behind_of s w (position w (row s i) (column s i)))
source_is s i Right = go (ltb 0 (column s i)) refl
  where
    go : (t : Bool) → ltb 0 (column s i) ≡ t → cond t (Some (i - 1)) None ≡ placed (spot s Right (row s i)) (cond t (Some (column s i - 1)) None)
    go true e = ap {B = Source} (λ z. Some z) (omega (arith, place_is s i, mul-one (column s i - 1), ltb-true 0 (column s i) e))
    go false e = refl
source_is s i Left = go (ltb (column s i + 1) s)
  where
    go : (t : Bool) → cond t (Some (i + 1)) None ≡ placed (spot s Left (row s i)) (cond t (Some (column s i + 1)) None)
    go true = ap {B = Source} (λ z. Some z) (omega (arith, place_is s i, mul-one (column s i + 1)))
    go false = refl
source_is s i Up = go (ltb (row s i + 1) s)
  where
    again : (row s i + 1) * s ≡ suc (row s i) * s
    again = rw add-one

    go : (t : Bool) → cond t (Some (i + s)) None ≡ placed (spot s Up (column s i)) (cond t (Some (row s i + 1)) None)
    go true = ap {B = Source} (λ z. Some z) (omega (arith, place_is s i, mul-one (column s i), suc-mul (row s i) s, again))
    go false = refl
source_is s i Down = go (ltb 0 (row s i)) refl (row s i) refl
  where
    go : (t : Bool) → ltb 0 (row s i) ≡ t → (a : ℕ) → row s i ≡ a → cond t (Some (i - s)) None ≡ placed (spot s Down (column s i)) (cond t (Some (row s i - 1)) None)
    go false e a f = refl
    go true e zero f = absurd (omega (arith, f, ltb-true 0 (row s i) e))
    go true e (suc a) f =
        let g : row s i - 1 ≡ a = omega (arith, f) in
        ap {B = Source} (λ z. Some z) (omega (arith, place_is s i, mul-one (column s i), ap (λ (n : ℕ). n * s) f, ap (λ (n : ℕ). n * s) g, suc-mul a s))

-- the places at a position, and those behind them
module _ {s n : ℕ} (g : Group s n) where
  line_gap_pos : (w : Way) → 0 < line_gap s w
  line_gap_pos Right = g.least
  line_gap_pos Left = g.least
  line_gap_pos Up = omega arith
  line_gap_pos Down = omega arith

  pub places : (w : Way) (p : ℕ) → p < s → Places (p * stride_of s w) (line_gap s w) s n
  places w p h = record {
    few = rw g.whole (square_grows g.most);
    on = line_gap_pos w;
    inside = λ k u. rw g.whole (spot_in u h w);
  }

  pub places_apart : (w : Way) (p q : ℕ) → p < s → q < s → (q ≡ p → ⊥) → Apart (p * stride_of s w) (q * stride_of s w) (line_gap s w) s
  places_apart w p q h h' e = record {
    are = λ j k u u' x. e (sym (spot-position u h' w) ∙ ap (λ i. position w (row s i) (column s i)) x ∙ spot-position u' h w);
  }

  -- as the code works them out
  pub places_ready : (w : Way) (p q next apart : ℕ) → p < s → behind_of s w p ≡ Some q → next ≡ stride_of s w → apart ≡ line_gap s w
      → Places (p * next) apart s n × (Places (q * next) apart s n × Apart (p * next) (q * next) apart s)
  places_ready w p q next apart h e x y =
      let b : Behind s (is_forth w) p q = rw e at (behind_known s w p h) in
      rw (x, y) (places w p h, (places w q b.inside, places_apart w p q h b.inside b.other))

  pub line_in_group : (w : Way) (p : ℕ) → LinesIn (line_at s w p) n
  line_in_group w p = go (ltb p s) refl
    where
      from : (b : Source) → p < s → behind_of s w p ≡ b → LinesIn (line_from s w p b) n
      from (Some q) h e = let z = places_ready w p q _ _ h e refl refl in record { written = z.0; heard = z.1.0; apart = z.1.1 }
      from None h e = tt

      go : (t : Bool) → ltb p s ≡ t → LinesIn (cond t (line_from s w p (behind_of s w p)) None) n
      go true e = from (behind_of s w p) (ltb-true p s e) refl
      go false e = tt
