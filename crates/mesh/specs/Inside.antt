-- What private functions' contracts cite; the public contracts are read without it.
use Rattle.std.specs.Prelude.{ℕ, ◌+◌, ◌-◌, ◌*◌, ◌/◌, ◌≤◌, ◌<◌, min, ◌≡◌, Bool, cond, ◌⊎◌, ◌||◌, List, eqb, length, get_or}
use Rattle.laws.specs.Lent.{Slice, Lent, old, new}
use Rattle.laws.specs.Sums.{sum}
use Rattle.array.specs.declared.lent.LentSlots.{LentSlots}
use Rattle.array.specs.declared.lent.LentLanes.{LentLanes}
use Rattle.array.specs.Cells.{groups}
use Rattle.slots.specs.declared.Rec.{Rec}
use Rattle.slots.specs.declared.Cell.{Cell}
use Rattle.slots.specs.Cells.{nothing, empty, joined}
use Rattle.mesh.specs.declared.lines.LineRule.{LineRule}
use Rattle.mesh.specs.declared.lines.Arrival.{Arrival}
use Rattle.mesh.specs.Lines.{reach, landed, gathered, ran_line, cells_to_go, went_of, went_from}
use Rattle.mesh.specs.Mesh.{spot_of, ran_on}

-- 2^32 over a period, and one: a 16-bit number times it tells, below 2^32, how far along its period the number is
abbrev pub share_of : ℕ → ℕ
share_of d = 4294967296 / d + 1

-- how many cells a record goes in the moves that are made, of d that it has to go
abbrev pub gone_of : LineRule → ℕ → ℕ
gone_of t d = cond t.late (t.made - (t.times - d)) (min d t.made)

-- the line from a cell on lies within n cells
pub record Lies (t : LineRule) (n start : ℕ) : Type 0 where
  pub inside : (p : ℕ) → p < t.side → start + p * t.stride < n
  pub short : n ≤ 64

-- a line is a row or a column of a group
abbrev pub Strided : LineRule → Type 0
Strided t = (t.stride ≡ 1) ⊎ (t.stride ≡ t.side)

-- the same as a test, which has one proof at most
abbrev pub is_strided : LineRule → Bool
is_strided t = eqb t.stride 1 || eqb t.stride t.side

-- from one line of a group to the next
abbrev pub line_step : LineRule → ℕ
line_step t = cond (eqb t.stride 1) t.side 1

-- how many groups have something to do
abbrev pub moving_groups : LineRule → ℕ
moving_groups t = cond (eqb t.made 0) 0 (groups t.side)

-- counts that leave room
pub record Roomy (most : ℕ) (counts : Slice) : Type 0 where
  pub room : (d : ℕ) → d < 8 → get_or counts.now d 0 ≤ most

-- the line from a cell on lies within the three lanes of a slot, and of both
pub record LineIn (t : LineRule) (start : ℕ) (slots : LentSlots) : Type 0 where
  pub lies : Lies t (length slots.words.now) start
  pub marks : length slots.marks.now ≡ length slots.words.now
  pub aims : length slots.aims.now ≡ length slots.words.now

pub record LinesIn (t : LineRule) (start : ℕ) (lanes : LentLanes) : Type 0 where
  pub front : LineIn t start lanes.front.now
  pub spare : LineIn t start lanes.spare.now

-- what the cells of the line from a cell on hold, or one of their slots
abbrev pub line_at : {A : Type 0} → LineRule → ℕ → (ℕ → A) → ℕ → A
line_at t start T p = T (start + p * t.stride)

-- the slots of a line were taken
pub record Taken (t : LineRule) (start : ℕ) (S : ℕ → Rec) (r : List Rec) : Type 0 where
  pub is : (p : ℕ) → p < t.side → get_or r p nothing ≡ S (start + p * t.stride)

-- they were laid, and nothing else changed
pub record Laid (t : LineRule) (start n : ℕ) (x : ℕ → Rec) (S S' : ℕ → Rec) : Type 0 where
  pub made : (p : ℕ) → p < n → S' (start + p * t.stride) ≡ x p
  pub kept : (j : ℕ) → ((p : ℕ) → p < n → j ≡ start + p * t.stride → ⊥) → S' j ≡ S j

abbrev pub LaidSlots : LineRule → ℕ → List Rec → (ℕ → Rec) → (ℕ → Rec) → Type 0
LaidSlots t start line S S' = Laid t start t.side (λ p. get_or line p nothing) S S'

-- the cells of a line by its slots
abbrev pub cells_of : List Rec → List Rec → ℕ → Cell
cells_of fronts spares p = record { front = get_or fronts p nothing; spare = get_or spares p nothing }

-- record x of cell p was put down, and counted if it went
pub record PutDown (t : LineRule) (p : ℕ) (x : Rec) (counts counts' : List ℕ) (line line' : List Cell) : Type 0 where
  pub made : (j : ℕ) → j < 8 → get_or line' j empty ≡ landed t j p x (get_or line j empty)
  pub count : (d : ℕ) → d < 8 → get_or counts' d 0 ≡ get_or counts d 0 + went_of t d p x

-- the records of the first n cells of a line were
pub record LinePutDown (t : LineRule) (U : ℕ → Cell) (n : ℕ) (counts counts' : List ℕ) (line : List Cell) : Type 0 where
  pub made : (j : ℕ) → j < 8 → get_or line j empty ≡ gathered t U j n
  pub count : (d : ℕ) → d < 8 → get_or counts' d 0 ≡ get_or counts d 0 + sum n (λ q. went_from t d q (U q))

-- where a record of cell p goes that heads for cell h
pub record Lands (t : LineRule) (p h : ℕ) (r : Arrival) : Type 0 where
  pub far : r.far ≡ cells_to_go t p h
  pub few : r.far < 8
  pub at : r.at ≡ reach t h p t.made
  pub on : r.at < t.side
  pub went : r.went ≡ cond (eqb r.at p) 0 1

-- where what slot x of cell p holds is put down, and what is counted
pub record Arrives (t : LineRule) (p : ℕ) (x : Rec) (r : Arrival) : Type 0 where
  pub few : r.far < 8
  pub on : r.at < t.side
  pub one : r.went ≤ 1
  pub lands : (j : ℕ) (c : Cell) → cond (eqb j r.at) (joined c x) c ≡ landed t j p x c
  pub went : (d : ℕ) → cond (eqb d r.far) r.went 0 ≡ went_of t d p x

-- a line made its moves, and nothing else changed
pub record RanLine (t : LineRule) (start : ℕ) (counts : Lent) (T T' : ℕ → Cell) : Type 0 where
  pub made : (p : ℕ) → p < t.side → T' (start + p * t.stride) ≡ ran_line t (λ q. T (start + q * t.stride)) p
  pub kept : (j : ℕ) → ((p : ℕ) → p < t.side → j ≡ start + p * t.stride → ⊥) → T' j ≡ T j
  pub count : (d : ℕ) → d < 8 → get_or (new counts) d 0 ≡ get_or (old counts) d 0 + sum t.side (λ p. went_from t d p (T (start + p * t.stride)))

-- a group did
pub record RanGroup (t : LineRule) (counts : Lent) (T T' : ℕ → Cell) : Type 0 where
  pub made : (i : ℕ) → i < groups t.side → T' i ≡ ran_on t T i
  pub count : (d : ℕ) → d < 8 → get_or (new counts) d 0 ≡ get_or (old counts) d 0 + sum (groups t.side) (λ i. went_from t d (spot_of t i) (T i))

-- the group of the cells from base on did, and no other
pub record RanPart (t : LineRule) (base : ℕ) (counts : Lent) (T T' : ℕ → Cell) : Type 0 where
  pub made : (i : ℕ) → i < groups t.side → T' (base + i) ≡ ran_on t T (base + i)
  pub before : (j : ℕ) → j < base → T' j ≡ T j
  pub after : (j : ℕ) → base + groups t.side ≤ j → T' j ≡ T j
  pub count : (d : ℕ) → d < 8 → get_or (new counts) d 0 ≡ get_or (old counts) d 0 + sum (groups t.side) (λ i. went_from t d (spot_of t (base + i)) (T (base + i)))
