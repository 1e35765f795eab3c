-- A run of electronic moves on the whole board: every line of every group makes it.
use Rattle.std.specs.Prelude.{ℕ, ◌+◌, ◌-◌, ◌*◌, ◌<◌, min, ◌≡◌, Bool, true, false, cond, not, List, get_or}
use Rattle.laws.specs.Sums.{sum}
use Rattle.array.specs.declared.moves.Way.{Way}
use Rattle.array.specs.Cells.{groups, cells}
use Rattle.array.specs.Moves.{is_forth, stride_of}
use Rattle.array.specs.Lent.{PassedLanes, of_lanes}
use Rattle.laws.specs.Lent.{Lent}
use Rattle.light.specs.Lanes.{have_board}
use Rattle.slots.specs.declared.Cell.{Cell}
use Rattle.slots.specs.Lanes.{FromTo}
use Rattle.mesh.specs.declared.lines.LineRule.{LineRule}
use Rattle.mesh.specs.declared.Leg.{Leg}
use Rattle.mesh.specs.Lines.{digit_of, ran_line, goes_at, went_from}

-- the weight of the digit of an aim that names a cell of a line. A record heads for its aim mod N, whose digits weigh as those of a place, or for its aim div N
abbrev pub unit_of : ℕ → Bool → ℕ → ℕ
unit_of s low stride = cond low stride (stride * groups s)

-- whether a way goes up its line, to greater columns or rows, or down it
abbrev pub goes_up : Way → Bool
goes_up w = is_forth w

abbrev pub goes_down : Way → Bool
goes_down w = not (is_forth w)

-- the rule of a leg
abbrev pub line_rule_of : Leg → LineRule
line_rule_of l = record {
  side = l.side;
  stride = stride_of l.side l.way;
  unit = unit_of l.side l.low (stride_of l.side l.way);
  up = goes_up l.way;
  down = goes_down l.way;
  late = l.late;
  times = l.times;
  made = min l.made l.times;
}

-- which cell of its line cell i is, and cell q of the same line
abbrev pub spot_of : LineRule → ℕ → ℕ
spot_of t i = digit_of t.side t.stride i

abbrev pub line_cell : LineRule → ℕ → ℕ → ℕ
line_cell t i q = i - spot_of t i * t.stride + q * t.stride

-- cell i after the moves
unfoldable pub ran_on : LineRule → (ℕ → Cell) → ℕ → Cell
ran_on t T i = ran_line t (λ q. T (line_cell t i q)) (spot_of t i)

-- how many records go in move j
abbrev pub gone_in : LineRule → ℕ → (ℕ → Cell) → ℕ
gone_in t j T = sum (cells t.side) (λ i. goes_at t j (spot_of t i) (T i).front + goes_at t j (spot_of t i) (T i).spare)

-- how many records are in another cell that had d cells to go
abbrev pub went_in : LineRule → ℕ → (ℕ → Cell) → ℕ
went_in t d T = sum (cells t.side) (λ i. went_from t d (spot_of t i) (T i))

-- the lanes of a board after a run, and how many records went that had so far to go; on any others nothing was done
pub record RanLanes (lanes : Bool) (t : LineRule) (r : List ℕ) (T T' : ℕ → Cell) : Type 0 where
  pub made : lanes ≡ true → (i : ℕ) → i < cells t.side → T' i ≡ ran_on t T i
  pub went : lanes ≡ true → (d : ℕ) → d < 8 → get_or r d 0 ≡ went_in t d T
  pub kept : lanes ≡ false → (i : ℕ) → T' i ≡ T i
  pub none : lanes ≡ false → (d : ℕ) → d < 8 → get_or r d 0 ≡ 0

abbrev pub RanAll : Leg → Lent → Lent → Lent → Lent → Lent → Lent → List ℕ → Type 0
RanAll l w m a w₂ m₂ a₂ r = FromTo (RanLanes (have_board l.side w m a w₂ m₂ a₂) (line_rule_of l) r) w m a w₂ m₂ a₂

abbrev pub RanAllLent : Leg → PassedLanes → List ℕ → Type 0
RanAllLent l lanes r = of_lanes (λ w m a w₂ m₂ a₂. RanAll l w m a w₂ m₂ a₂ r) lanes
