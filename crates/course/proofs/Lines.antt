-- Cells by their lines: each cell is one of its line, and a run takes no record off its line.
use Prim.Native.Nat.{ℕ, zero, suc, ◌+◌, ◌-◌, ◌*◌, ◌/◌, ◌%◌, ◌<◌}
use mathlib.Core.Path.{◌≡◌, refl, sym, ap, ◌∙◌}
use mathlib.Core.Bool.{Bool, true, false, cond, ◌&&◌}
use native.Mathlib.Nat.{mod-lt, div-add-mod', add-mul, mul_assoc, mul-one, div-lt_iff_lt-mul}
use native.Mathlib.Omega.{arith}
use lib.Arith.{digits_div, digits_mod, digits_lt}
use lib.Dec.{ltb}
use borrow.Author.Tests.{ltb-true}
use Rattle.laws.proofs.Bools.{both_right}
use Rattle.array.specs.declared.moves.Way.{Way}
use Rattle.array.specs.declared.moves.Way.TheVariants.{Right, Left, Up, Down}
use Rattle.array.specs.Cells.{groups, cells}
use Rattle.slots.specs.declared.Rec.{Rec}
use Rattle.mesh.specs.declared.Leg.{Leg}
use Rattle.mesh.specs.Lines.{wait_of, step_of, reach, head_of, end_of}
use Rattle.array.specs.Moves.{stride_of}
use Rattle.mesh.specs.Mesh.{goes_up, goes_down, line_rule_of, spot_of, line_cell}

-- lines lie side by side in blocks, a stride of them in each: so many blocks are the board
abbrev blocks : ℕ → Way → ℕ
blocks s Right = groups s * s
blocks s Left = groups s * s
blocks s Up = groups s
blocks s Down = groups s

-- which cell of its line cell i is, and cell q of that line
abbrev pub spot : Leg → ℕ → ℕ
spot l i = spot_of (line_rule_of l) i

abbrev pub on_line : Leg → ℕ → ℕ → ℕ
on_line l i q = line_cell (line_rule_of l) i q

-- where a record that heads for cell h of the line of cell i is after the first k moves
abbrev pub at_cell : Leg → ℕ → ℕ → ℕ → ℕ
at_cell l h i k = on_line l i (reach (line_rule_of l) h (spot l i) k)

module _ (l : Leg) (some : 0 < l.side) where
  abbrev stride : ℕ
  stride = stride_of l.side l.way

  stride_some : 0 < stride
  stride_some = go l.way
    where
      go : (w : Way) → 0 < stride_of l.side w
      go Right = omega arith
      go Left = omega arith
      go Up = some
      go Down = some

  whole : cells l.side ≡ blocks l.side l.way * l.side * stride
  whole = go l.way
    where
      rows : cells l.side ≡ groups l.side * l.side * l.side
      rows = sym (mul_assoc (groups l.side) l.side l.side)

      go : (w : Way) → cells l.side ≡ blocks l.side w * l.side * stride_of l.side w
      go Right = rw mul-one rows
      go Left = rw mul-one rows
      go Up = rows
      go Down = rows

  -- a cell is one of block a, at spot q, and r of its stride
  abbrev block : ℕ → ℕ
  block i = i / stride / l.side

  abbrev off : ℕ → ℕ
  off i = i % stride

  abbrev at : ℕ → ℕ → ℕ → ℕ
  at a q r = (a * l.side + q) * stride + r

  off< : (i : ℕ) → off i < stride
  off< i = mod-lt i stride_some

  pub spot< : (i : ℕ) → spot l i < l.side
  spot< i = mod-lt (i / stride) some

  line_at : (i q : ℕ) → on_line l i q ≡ at (block i) q (off i)
  line_at i q =
      omega (
        arith,
        div-add-mod' i stride,
        ap (λ (n : ℕ). n * stride) (div-add-mod' (i / stride) l.side),
        add-mul (block i * l.side) (spot l i) stride,
        add-mul (block i * l.side) q stride,
      )

  pub own_spot : (i : ℕ) → on_line l i (spot l i) ≡ i
  own_spot i = line_at i (spot l i) ∙ ap (λ (n : ℕ). n * stride + off i) (div-add-mod' (i / stride) l.side) ∙ div-add-mod' i stride

  pub spot-line : (i q : ℕ) → q < l.side → spot l (on_line l i q) ≡ q
  spot-line i q h = ap (spot l) (line_at i q) ∙ rw (digits_div (block i * l.side + q) (off< i)) (digits_mod (block i) h)

  pub line-line : (i q p : ℕ) → q < l.side → on_line l (on_line l i q) p ≡ on_line l i p
  line-line i q p h =
      line_at (on_line l i q) p
      ∙ rw (line_at i q, digits_div (block i * l.side + q) (off< i), digits_div (block i) h, digits_mod (block i * l.side + q) (off< i)) (sym (line_at i p))

  pub line_one : (i p q : ℕ) → p < l.side → q < l.side → on_line l i p ≡ on_line l i q → p ≡ q
  line_one i p q h u e = sym (spot-line i p h) ∙ ap (spot l) e ∙ spot-line i q u

  -- the line of a cell of the board is of the board
  pub line< : (i q : ℕ) → i < cells l.side → q < l.side → on_line l i q < cells l.side
  line< i q h u =
      let v : i < blocks l.side l.way * l.side * stride = rw whole at h in
      rw (line_at i q, whole) (digits_lt (digits_lt ((div-lt_iff_lt-mul some).1 ((div-lt_iff_lt-mul stride_some).1 v)) u) (off< i))

  -- a record stays on its line
  step< : (h j p : ℕ) → h < l.side → p < l.side → step_of (line_rule_of l) h j p < l.side
  step< h j p u v = go (goes_up l.way && ltb (p + wait_of (line_rule_of l) j) h) refl (goes_down l.way && ltb (h + wait_of (line_rule_of l) j) p)
    where
      go : (a : Bool) → goes_up l.way && ltb (p + wait_of (line_rule_of l) j) h ≡ a → (b : Bool) → cond a (p + 1) (cond b (p - 1) p) < l.side
      go true e b = omega (arith, ltb-true (p + wait_of (line_rule_of l) j) h (both_right (goes_up l.way) (ltb (p + wait_of (line_rule_of l) j) h) e))
      go false e true = omega arith
      go false e false = v

  pub reach< : (h p k : ℕ) → h < l.side → p < l.side → reach (line_rule_of l) h p k < l.side
  unfolding reach
  reach< h p zero u v = v
  reach< h p (suc k) u v = step< h k (reach (line_rule_of l) h p k) u (reach< h p k u v)

  pub head< : (x : Rec) → head_of (line_rule_of l) x < l.side
  head< x = mod-lt (x.aim / (line_rule_of l).unit) some

  pub end< : (p : ℕ) (x : Rec) → p < l.side → end_of (line_rule_of l) p x < l.side
  end< p x h = reach< (head_of (line_rule_of l) x) p (line_rule_of l).made (head< x) h
