-- What the parts of a plain shift do to a lane. A reader of the public contracts does not need it.
-- A line along an axis is s cells, each a stride behind the one before; the stride's lines from a block's start on lie side by side.
use Rattle.std.specs.Prelude.{◌≡◌, ℕ, ◌+◌, ◌*◌, ◌%◌, ◌^◌, ◌<◌, ◌≤◌, cond, List, length, ◌≢◌, nat_lt, slice_index}
use Rattle.std.specs.Prelude.{Option as Source, Some, None}
use Rattle.std.proofs.Math.Option.{Option, none, some}
use Rattle.shiftlists.specs.declared.Axis.{Axis}
use Rattle.shiftlists.specs.declared.Axis.TheVariants.{MeshRow, MeshColumn, GroupRow, GroupColumn}
use Rattle.shiftlists.specs.declared.Edge.{Edge}
use Rattle.shiftlists.specs.declared.Edge.TheVariants.{ZeroFill, Circular}
use Rattle.shiftlists.specs.declared.Distance.{Distance}
use Rattle.plainwords.specs.declared.tables.Lines.{Lines}
use Rattle.array.specs.Cells.{groups}
use Rattle.shiftlists.specs.Shifts.{circular_moves}
use Rattle.shifts.specs.Results.{word_from}

-- how many electronic moves a shift makes; a count takes 64 bits
abbrev pub shift_moves : Edge → ℕ → Distance → ℕ
shift_moves ZeroFill s k = (k.forth + k.back) % 2 ^ 64
shift_moves Circular s k = circular_moves s k

-- a distance within a side that is built
pub record Near (s : ℕ) (k : Distance) : Type 0 where
  pub least : 1 ≤ s
  pub most : s ≤ 8
  pub forth : k.forth < s
  pub back : k.back < s

-- the stride of the lines along an axis, and how many blocks of them a board has
abbrev pub stride_along : ℕ → Axis → ℕ
stride_along s MeshRow = 1
stride_along s MeshColumn = s
stride_along s GroupRow = groups s
stride_along s GroupColumn = s * groups s

abbrev pub blocks_along : ℕ → Axis → ℕ
blocks_along s MeshRow = s * groups s
blocks_along s MeshColumn = groups s
blocks_along s GroupRow = s
blocks_along s GroupColumn = 1

-- a position of a line as the code has it
abbrev pub source_of : Option ℕ → Source ℕ
source_of none = None
source_of (some p) = Some p

-- as a number, 8 for none, and back
abbrev pub entry_for : Option ℕ → ℕ
entry_for none = 8
entry_for (some p) = p

abbrev pub position_on : ℕ → ℕ → Option ℕ
position_on s q = cond (nat_lt q s) (some q) none

-- the position that a table of such numbers names for position p
abbrev pub named : ℕ → List ℕ → ℕ → Option ℕ
named s from p = position_on s (slice_index from p)

-- a line, a block and blocks of lines within a lane of n words
pub record WholeLine (lines : Lines) (first n : ℕ) : Type 0 where
  pub on : 0 < lines.stride
  pub inside : (p : ℕ) → p < lines.side → first + p * lines.stride < n

-- eight lines side by side, as rows of eight words
pub record WholeRows (lines : Lines) (first n : ℕ) : Type 0 where
  pub on : 8 ≤ lines.stride
  pub inside : (p : ℕ) → p < lines.side → first + p * lines.stride + 8 ≤ n

pub record WholeBlock (lines : Lines) (start n : ℕ) : Type 0 where
  pub inside : start + lines.side * lines.stride ≤ n

pub record WholeBlocks (lines : Lines) (blocks n : ℕ) : Type 0 where
  pub few : lines.side * lines.stride ≤ 4096
  pub whole : n ≡ blocks * (lines.side * lines.stride)

-- a line's words, and 0 behind them
pub record LineTaken (s stride first : ℕ) (words line : List ℕ) : Type 0 where
  pub is : (q : ℕ) → slice_index line q ≡ word_from (λ p. slice_index words (first + p * stride)) (position_on s q)

-- the words from b on are the n words from a on of another list, and all else is as it was
pub record Copied (a b n : ℕ) (source old l : List ℕ) : Type 0 where
  pub size : length l ≡ length old
  pub done : (j : ℕ) → j < n → slice_index l (b + j) ≡ slice_index source (a + j)
  pub kept : (i : ℕ) → ((j : ℕ) → j < n → i ≢ b + j) → slice_index l i ≡ slice_index old i

-- word j of row p is f p j in so many rows of eight words, each a stride behind the one before, and all else is as it was
pub record RowsLaid (first stride count : ℕ) (f : ℕ → ℕ → ℕ) (old l : List ℕ) : Type 0 where
  pub size : length l ≡ length old
  pub done : (p j : ℕ) → p < count → j < 8 → slice_index l (first + p * stride + j) ≡ f p j
  pub kept : (i : ℕ) → ((p j : ℕ) → p < count → j < 8 → i ≢ first + p * stride + j) → slice_index l i ≡ slice_index old i

-- the lines from one up to another of a block were shifted, and all else is as it was
pub record LinesShifted (s stride : ℕ) (came : ℕ → Option ℕ) (start from to : ℕ) (old l : List ℕ) : Type 0 where
  pub size : length l ≡ length old
  pub done : (p o : ℕ) → p < s → from ≤ o → o < to
      → slice_index l (start + o + p * stride) ≡ word_from (λ q. slice_index old (start + o + q * stride)) (came p)
  pub kept : (i : ℕ) → ((p o : ℕ) → p < s → from ≤ o → o < to → i ≢ start + o + p * stride) → slice_index l i ≡ slice_index old i

-- the first blocks were
pub record BlocksShifted (s stride : ℕ) (came : ℕ → Option ℕ) (blocks : ℕ) (old l : List ℕ) : Type 0 where
  pub size : length l ≡ length old
  pub done : (j p o : ℕ) → j < blocks → p < s → o < stride
      → slice_index l (j * (s * stride) + o + p * stride) ≡ word_from (λ q. slice_index old (j * (s * stride) + o + q * stride)) (came p)
  pub kept : (i : ℕ) → blocks * (s * stride) ≤ i → slice_index l i ≡ slice_index old i

-- the same of lines as the code has them
abbrev pub ShiftedBy : Lines → ℕ → ℕ → ℕ → List ℕ → List ℕ → Type 0
ShiftedBy lines = LinesShifted lines.side lines.stride (named lines.side lines.from.now)

abbrev pub BoardShiftedBy : Lines → ℕ → List ℕ → List ℕ → Type 0
BoardShiftedBy lines = BlocksShifted lines.side lines.stride (named lines.side lines.from.now)
