-- The rule of a line is the move rule: a move by the distance of a record from its place is one step on its line.
use Prim.Native.Nat.{ℕ, zero, suc, ◌+◌, ◌-◌, ◌*◌, ◌/◌, ◌%◌, ◌<◌}
use mathlib.Core.Path.{◌≡◌, refl, sym, ap, ◌∙◌}
use mathlib.Core.Logic.{⊎_elim}
use mathlib.Core.Bool.{Bool, true, false, cond}
use native.Mathlib.Nat.{mod-lt, div-one, mul_comm, add-mul, suc-mul, div-div-eq-div-mul}
use native.Mathlib.Omega.{arith}
use borrow.Author.Tests.{lt-ltb, le-ltb, ltb-true}
use lib.Dec.{ltb}
use lib.Arith.{digits_div, digits_mod, mod-mul}
use Rattle.laws.proofs.Deciding.{apart}
use Rattle.array.specs.declared.moves.Way.{Way}
use Rattle.array.specs.declared.moves.Way.TheVariants.{Right, Left, Up, Down}
use Rattle.array.specs.Cells.{groups, row, column}
use Rattle.travel.proofs.Walk.{going}
use Rattle.lists.specs.declared.Trip.{Trip}
use Rattle.slots.specs.declared.Rec.{Rec}
use Rattle.mesh.specs.declared.Leg.{Leg}
use Rattle.mesh.specs.Lines.{digit_of, wait_of, step_of, reach, head_of}
use Rattle.array.specs.Moves.{stride_of}
use Rattle.mesh.specs.Mesh.{line_rule_of}
use Rattle.mover.specs.Runs.{low_after, is_late, leg_of}
use Rattle.course.proofs.Lines.{spot, on_line, at_cell, own_spot, spot<, spot-line, line-line, reach<, head<}

-- the place that an aim names, by its low digits or by its high ones
abbrev pub headed : ℕ → Bool → ℕ → ℕ
headed s low aim = cond low (aim % groups s) (aim / groups s % groups s)

-- how far off its place a record waits, where so many moves of the run remain
abbrev pub wait_for : Trip → ℕ → ℕ
wait_for trip remaining = cond (is_late trip) (remaining - 1) 0

-- of a place what tells how far along a way it is
abbrev far_along : ℕ → Way → ℕ → ℕ
far_along s Right p = column s p
far_along s Left p = column s p
far_along s Up p = row s p
far_along s Down p = row s p

module _ (s : ℕ) (some : 0 < s) where
  in_column : (i : ℕ) → column s (i % groups s) ≡ digit_of s 1 i
  in_column i = rw (mod-mul i some some, div-one i) (digits_mod (i / s % s) (mod-lt i some))

  in_row : (i : ℕ) → row s (i % groups s) ≡ digit_of s s i
  in_row i = rw (mod-mul i some some) (digits_div (i / s % s) (mod-lt i some))

  place-digit : (w : Way) (i : ℕ) → far_along s w (i % groups s) ≡ digit_of s (stride_of s w) i
  place-digit Right i = in_column i
  place-digit Left i = in_column i
  place-digit Up i = in_row i
  place-digit Down i = in_row i

  head_digit : (w : Way) (low : Bool) (aim : ℕ) → far_along s w (headed s low aim) ≡ digit_of s (cond low (stride_of s w) (stride_of s w * groups s)) aim
  head_digit w true aim = place-digit w aim
  head_digit w false aim =
      place-digit w (aim / groups s)
      ∙ ap (λ (n : ℕ). n % s) (div-div-eq-div-mul aim (groups s) (stride_of s w))
      ∙ ap (λ (n : ℕ). aim / n % s) (mul_comm (groups s) (stride_of s w))

further : (w h p : ℕ) → ltb w (h - p) ≡ ltb (p + w) h
further w h p =
    ⊎_elim
    (λ l. lt-ltb w (h - p) (omega arith) ∙ sym (lt-ltb (p + w) h l))
    (λ l. le-ltb w (h - p) (omega arith) ∙ sym (le-ltb (p + w) h l))
    (apart (p + w) h)

-- one cell on, up the line and down it
module _ (l : Leg) (some : 0 < l.side) (i h wait : ℕ) where
  abbrev stride : ℕ
  stride = stride_of l.side l.way

  one_up : cond (ltb wait (h - spot l i)) (i + stride) i ≡ on_line l i (cond (ltb (spot l i + wait) h) (spot l i + 1) (spot l i))
  one_up = rw (further wait h (spot l i)) (go (ltb (spot l i + wait) h))
    where
      go : (a : Bool) → cond a (i + stride) i ≡ on_line l i (cond a (spot l i + 1) (spot l i))
      go true = omega (arith, own_spot l some i, add-mul (spot l i) 1 stride)
      go false = sym (own_spot l some i)

  one_down : cond (ltb wait (spot l i - h)) (i - stride) i ≡ on_line l i (cond (ltb (h + wait) (spot l i)) (spot l i - 1) (spot l i))
  one_down = rw (further wait (spot l i) h) (go (ltb (h + wait) (spot l i)) refl)
    where
      go : (a : Bool) → ltb (h + wait) (spot l i) ≡ a → cond a (i - stride) i ≡ on_line l i (cond a (spot l i - 1) (spot l i))
      go true e =
          let u : suc (spot l i - 1) ≡ spot l i = omega (arith, ltb-true (h + wait) (spot l i) e) in
          omega (arith, own_spot l some i, ap (λ (n : ℕ). n * stride) u, suc-mul (spot l i - 1) stride)
      go false e = sym (own_spot l some i)

-- a run of a list
module _ (trip : Trip) (s swaps times made : ℕ) (some : 0 < s) where
  abbrev leg : Way → Leg
  leg w = leg_of trip s swaps w times made

  on_line_lem : (w : Way) (x : Rec) (j i : ℕ)
      → going s w (wait_of (line_rule_of (leg w)) j) (headed s (low_after trip swaps) x.aim) i ≡ on_line (leg w) i (step_of (line_rule_of (leg w)) (head_of (line_rule_of (leg w)) x) j (spot (leg w) i))
  on_line_lem Right x j i =
      rw (head_digit s some Right (low_after trip swaps) x.aim, place-digit s some Right i) (one_up (leg Right) some i _ (wait_of (line_rule_of (leg Right)) j))
  on_line_lem Left x j i =
      rw (head_digit s some Left (low_after trip swaps) x.aim, place-digit s some Left i) (one_down (leg Left) some i _ (wait_of (line_rule_of (leg Left)) j))
  on_line_lem Up x j i =
      rw (head_digit s some Up (low_after trip swaps) x.aim, place-digit s some Up i) (one_down (leg Up) some i _ (wait_of (line_rule_of (leg Up)) j))
  on_line_lem Down x j i =
      rw (head_digit s some Down (low_after trip swaps) x.aim, place-digit s some Down i) (one_up (leg Down) some i _ (wait_of (line_rule_of (leg Down)) j))

  -- move after move
  pub walked : (w : Way) (x : Rec) (at : ℕ → ℕ) (m : ℕ)
      → ((j : ℕ) → j < m → at (suc j) ≡ going s w (wait_for trip (times - j)) (headed s (low_after trip swaps) x.aim) (at j))
      → at m ≡ at_cell (leg_of trip s swaps w times made) (head_of (line_rule_of (leg_of trip s swaps w times made)) x) (at 0) m
  unfolding reach
  walked w x at zero h = sym (own_spot (leg w) some (at 0))
  walked w x at (suc m) h =
      let q< = reach< (leg w) some (head_of (line_rule_of (leg w)) x) (spot (leg w) (at 0)) m (head< (leg w) some x) (spot< (leg w) some (at 0)) in
      h m (omega arith)
      ∙ ap (λ (n : ℕ). going s w (cond (is_late trip) n 0) (headed s (low_after trip swaps) x.aim) (at m)) (omega arith)
      ∙ on_line_lem w x m (at m)
      ∙ ap (λ (i : ℕ). on_line (leg w) i (step_of (line_rule_of (leg w)) (head_of (line_rule_of (leg w)) x) m (spot (leg w) i))) (walked w x at m (λ j u. h j (omega arith)))
      ∙ ap (λ (p : ℕ). on_line (leg w) (at_cell (leg w) (head_of (line_rule_of (leg w)) x) (at 0) m) (step_of (line_rule_of (leg w)) (head_of (line_rule_of (leg w)) x) m p))
      (spot-line (leg w) some (at 0) _ q<)
      ∙ line-line (leg w) some (at 0) _ _ q<
