-- What private functions' contracts cite; the public contracts are read without it.
use Rattle.std.specs.Prelude.{ℕ, ◌≤◌, ◌<◌, ◌≡◌, Bool, true, cond, List, ltb, length, get_or}
use Rattle.laws.specs.Lent.{Lent, old, new}
use Rattle.laws.specs.Tables.{entries}
use Rattle.array.specs.declared.lent.LentSlots.{LentSlots}
use Rattle.array.specs.Cells.{is_side, cells}
use Rattle.lists.specs.declared.Trip.{Trip}
use Rattle.lists.specs.declared.Trip.TheVariants.{Concentrate, Distribute}
use Rattle.marks.specs.Marks.{rank_in}
use Rattle.refusals.specs.Cases.{Good}
use Rattle.records.specs.Records.{marked_cell}
use Rattle.plainrecords.specs.Tables.{aiming_at}

-- marks of a board: not many, and each 0 or 1
pub record BoardMarks (marks : List ℕ) : Type 0 where
  pub few : length marks ≤ 4096
  pub good : (i : ℕ) → i < length marks → get_or marks i 0 < 2

-- the words of the marked cells stand at their ranks, so many
pub record Gathered (marks words words' : List ℕ) (count : ℕ) : Type 0 where
  pub count_is : count ≡ rank_in marks (length marks)
  pub few : count ≤ length marks
  pub word : (i : ℕ) → i < length marks → get_or marks i 0 ≡ 1 → get_or words' (rank_in marks i) 0 ≡ get_or words i 0

-- a lane of n cells: the first, so many, by a rule, and 0 in all others
abbrev pub up_to : ℕ → (ℕ → ℕ) → ℕ → List ℕ
up_to count f n = entries (λ i. cond (ltb i count) (f i) 0) 0 n

-- marks and aims of some board, such as a trip takes
pub record TripLanes (trip : Trip) (marks aims : List ℕ) : Type 0 where
  pub side : ℕ
  pub built : is_side side ≡ true
  pub size : length marks ≡ cells side
  pub good : Good trip side marks aims

-- three lanes of some board, such as a trip takes
pub record TripSlots (trip : Trip) (t : LentSlots) : Type 0 where
  pub lanes : TripLanes trip t.marks.now t.aims.now
  pub words_long : length t.words.now ≡ length t.marks.now
  pub aims_long : length t.aims.now ≡ length t.marks.now

-- a lane of n cells: cell j holds v j where it is held, and else 0
pub record Holding (n : ℕ) (held : ℕ → Bool) (v : ℕ → ℕ) (lane : List ℕ) : Type 0 where
  pub each : (j : ℕ) → j < n → get_or lane j 0 ≡ cond (held j) (v j) 0

-- of n cells, with these marks and aims before: whether cell j holds a record at the end of a trip, and which cell had it
abbrev pub is_held : Trip → ℕ → List ℕ → List ℕ → ℕ → Bool
is_held Concentrate n marks aims j = ltb j (rank_in marks n)
is_held Distribute n marks aims j = ltb (aiming_at aims (rank_in marks n) j) (rank_in marks n)

abbrev pub cell_before : Trip → ℕ → List ℕ → List ℕ → ℕ → ℕ
cell_before Concentrate n marks aims j = marked_cell marks n j
cell_before Distribute n marks aims j = aiming_at aims (rank_in marks n) j

-- three lanes of n cells at the end of a trip
pub record ArrangedBy (trip : Trip) (n : ℕ) (w m a w' m' a' : List ℕ) : Type 0 where
  pub words : Holding n (is_held trip n m a) (λ j. get_or w (cell_before trip n m a j) 0) w'
  pub marks : Holding n (is_held trip n m a) (λ j. 1) m'
  pub aims : Holding n (is_held trip n m a) (λ j. j) a'

abbrev pub Arranged : Trip → LentSlots → LentSlots → Type 0
Arranged trip t t' = ArrangedBy trip (length t.marks.now) t.words.now t.marks.now t.aims.now t'.words.now t'.marks.now t'.aims.now

-- the records of the first cells, so many, with rising aims, and nothing behind them
pub record Ready (count : ℕ) (words marks aims : List ℕ) : Type 0 where
  pub words_long : length words ≡ length marks
  pub aims_long : length aims ≡ length marks
  pub few : count ≤ length marks
  pub rising : (i j : ℕ) → i < j → j < count → get_or aims i 0 < get_or aims j 0
  pub below : (r : ℕ) → r < count → get_or aims r 0 < length marks
  pub marked : (r : ℕ) → r < count → get_or marks r 0 ≡ 1
  pub no_words : (j : ℕ) → count ≤ j → get_or words j 0 ≡ 0
  pub no_marks : (j : ℕ) → count ≤ j → get_or marks j 0 ≡ 0
  pub no_aims : (j : ℕ) → count ≤ j → get_or aims j 0 ≡ 0

-- a lane in which the values of so many records stand where their aims say, and 0 in all other cells
pub record Landed (count : ℕ) (aims : List ℕ) (v : ℕ → ℕ) (lane : List ℕ) : Type 0 where
  pub there : (r : ℕ) → r < count → get_or lane (get_or aims r 0) 0 ≡ v r
  pub rest : (j : ℕ) → ((r : ℕ) → r < count → get_or aims r 0 ≡ j → ⊥) → get_or lane j 0 ≡ 0

-- so have three lanes the words, marks and aims
pub record Scattered (count : ℕ) (w m a : Lent) : Type 0 where
  pub words : Landed count (old a) (λ r. get_or (old w) r 0) (new w)
  pub marks : Landed count (old a) (λ r. 1) (new m)
  pub aims : Landed count (old a) (λ r. get_or (old a) r 0) (new a)
