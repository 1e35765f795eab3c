-- What the functions inside this crate do to a lane: a move of a group's own stretch, a move of all groups, a run; and what the crates above
-- say of lanes inside themselves. A reader of the public contracts does not need it.
use Rattle.std.specs.Prelude.{ℕ, ◌+◌, ◌-◌, ◌*◌, ◌≤◌, ◌<◌, ◌≡◌, cond, List, length, get_or, ltb, eqb, Option, Some, None, MatchOption, IfSome}
use Rattle.std.proofs.Math.Option.{Option as Received, none, some}
use Rattle.laws.specs.Tables.{entries}
use Rattle.array.specs.declared.moves.Way.{Way}
use Rattle.array.specs.declared.moves.Way.TheVariants.{Right, Left, Up, Down}
use Rattle.array.specs.declared.moves.Move.TheVariants.{Electronic}
use Rattle.array.specs.Cells.{groups, cells, row, column}
use Rattle.array.specs.Moves.{is_forth, stride_of, line_gap}
use Rattle.lanes.specs.declared.Joining.{Joining}
use Rattle.lanes.specs.declared.Joining.TheVariants.{Add, Copy, Fill}
use Rattle.lanes.specs.declared.steps.LinePlaces.{LinePlaces}
use Rattle.lanes.specs.declared.steps.JoinRule.{JoinRule}
use Rattle.lanes.specs.Machine.{State, make, at}
use Rattle.sums.specs.Sums.{plus}
use Rattle.lanes.specs.Stages.{position, word}
use Rattle.lanes.specs.Runs.{rule_of}

-- a lane of n words is one of a board of side s
pub record FitsBoard (s n : ℕ) : Type 0 where
  pub least : 1 ≤ s
  pub most : s ≤ 8
  pub whole : n ≡ cells s

-- a stretch of n words is a group's on such a board
pub record Group (s n : ℕ) : Type 0 where
  pub least : 1 ≤ s
  pub most : s ≤ 8
  pub whole : n ≡ groups s

-- the words of l are those of the state σ
pub record HoldsWords (s : ℕ) (l : List ℕ) (σ : State ℕ) : Type 0 where
  pub is : (c d a b : ℕ) → c < s → d < s → a < s → b < s → get_or l (at s c d a b) 0 ≡ σ c d a b

-- a lane of words of a board of side s, which are those of the state σ
pub record Lane (s : ℕ) (l : List ℕ) (σ : State ℕ) : Type 0 where
  pub board : FitsBoard s (length l)
  pub holds : HoldsWords s l σ

-- whatever state a lane held, now it holds what f makes of it
pub record Moves (s : ℕ) (f : State ℕ → State ℕ) (l l' : List ℕ) : Type 0 where
  pub so : (σ : State ℕ) → Lane s l σ → Lane s l' (f σ)

-- a state after a swap
abbrev pub swapped_state : State ℕ → State ℕ
swapped_state σ c d a b = σ a b c d

-- inside this crate the board is known
pub record Moved (s : ℕ) (f : State ℕ → State ℕ) (l l' : List ℕ) : Type 0 where
  pub so : (σ : State ℕ) → HoldsWords s l σ → HoldsWords s l' (f σ)

-- the position, or the place, from which a word comes, where there is one
abbrev pub Source : Type 0
Source = Option ℕ

-- the place of a group whose word comes to place i
abbrev pub source_of : ℕ → Way → ℕ → Source
source_of s Right i = cond (ltb 0 (column s i)) (Some (i - 1)) None
source_of s Left i = cond (ltb (column s i + 1) s) (Some (i + 1)) None
source_of s Up i = cond (ltb (row s i + 1) s) (Some (i + s)) None
source_of s Down i = cond (ltb 0 (row s i)) (Some (i - s)) None

abbrev pub word_at : List ℕ → Source → Received ℕ
word_at l (Some i) = some (get_or l i 0)
word_at l None = none

-- the word of place i after a move of its group
abbrev pub next_of : ℕ → Way → JoinRule → List ℕ → ℕ → ℕ
next_of s w r l i = rule_of r.joining r.front (position w (row s i) (column s i)) (get_or l i 0) (word_at l (source_of s w i))

-- a group after a move
abbrev pub stepped : ℕ → Way → JoinRule → List ℕ → List ℕ
stepped s w r l = entries (next_of s w r l) 0 (groups s)

-- the rule of a move in which every place takes what comes
abbrev pub filling : JoinRule
filling = record { joining = Fill; front = 0 }

-- a group after the turn of the places at position p
abbrev pub after_turn : ℕ → Way → Joining → ℕ → List ℕ → List ℕ
after_turn s w j p l =
    entries (λ i. cond (eqb (position w (row s i) (column s i)) p) (next_of s w (record { joining = j; front = p }) l i) (get_or l i 0)) 0 (groups s)

-- the position whose word comes to position p of a line
abbrev pub behind_of : ℕ → Way → ℕ → Source
behind_of s w p = cond (is_forth w) (cond (ltb 0 p) (Some (p - 1)) None) (cond (ltb (p + 1) s) (Some (p + 1)) None)

-- the position to which no word comes
abbrev pub beginning_of : ℕ → Way → ℕ
beginning_of s w = cond (is_forth w) 0 (s - 1)

-- count places of a stretch of n, from `first` on
pub record Places (first apart count n : ℕ) : Type 0 where
  pub few : n ≤ 64
  pub on : 0 < apart
  pub inside : (k : ℕ) → k < count → first + k * apart < n

-- no place is both to be written and to be read
pub record Apart (to from apart count : ℕ) : Type 0 where
  pub are : (j k : ℕ) → j < count → k < count → from + j * apart ≡ to + k * apart → ⊥

-- the places at position p and those behind them; none where no word comes
abbrev pub line_from : ℕ → Way → ℕ → Source → Option LinePlaces
line_from s w p (Some q) = Some (record { to = p * stride_of s w; from = q * stride_of s w; apart = line_gap s w; count = s })
line_from s w p None = None

abbrev pub line_at : ℕ → Way → ℕ → Option LinePlaces
line_at s w p = cond (ltb p s) (line_from s w p (behind_of s w p)) None

pub record LineIn (x : LinePlaces) (n : ℕ) : Type 0 where
  pub written : Places x.to x.apart x.count n
  pub heard : Places x.from x.apart x.count n
  pub apart : Apart x.to x.from x.apart x.count

abbrev pub LinesIn : Option LinePlaces → ℕ → Type 0
LinesIn line n = IfSome line (λ x. LineIn x n)

-- count places hold words of which P 0, P 1, .. hold, and the others what they held
pub record PlacesMade (first apart count : ℕ) (P : ℕ → ℕ → Type 0) (l l' : List ℕ) : Type 0 where
  pub size : length l' ≡ length l
  pub done : (k : ℕ) → k < count → P k (get_or l' (first + k * apart) 0)
  pub kept : (i : ℕ) → ((k : ℕ) → k < count → i ≡ first + k * apart → ⊥) → get_or l' i 0 ≡ get_or l i 0

-- they hold f 0, f 1, ..
abbrev pub PlacesLaid : ℕ → ℕ → ℕ → (ℕ → ℕ) → List ℕ → List ℕ → Type 0
PlacesLaid first apart count f l l' = PlacesMade first apart count (λ k v. v ≡ f k) l l'

-- the places of a line hold what a step makes of their words and of those that came to them
abbrev pub LineMade : (ℕ → ℕ → ℕ → Type 0) → LinePlaces → List ℕ → List ℕ → Type 0
LineMade R x l l' = PlacesMade x.to x.apart x.count (λ k v. R (get_or l (x.to + k * x.apart) 0) (get_or l (x.from + k * x.apart) 0) v) l l'

pub record LinesMade (R : ℕ → ℕ → ℕ → Type 0) (line : Option LinePlaces) (l l' : List ℕ) : Type 0 where
  pub so : MatchOption line (l' ≡ l) (λ x. LineMade R x l l')

-- what a cell makes of its word and the one that it received, when it is its turn
abbrev pub join_of : Joining → ℕ → ℕ → ℕ
join_of Add own x = plus own x
join_of Copy own x = x
join_of Fill own x = x

abbrev pub join_from : Joining → ℕ → ℕ → ℕ → List ℕ → ℕ → ℕ
join_from j to from apart l k = join_of j (get_or l (to + k * apart) 0) (get_or l (from + k * apart) 0)

-- the places of a line joined what came to them
abbrev pub LineJoined : Joining → LinePlaces → List ℕ → List ℕ → Type 0
LineJoined j x l l' = PlacesLaid x.to x.apart x.count (join_from j x.to x.from x.apart l) l l'

abbrev pub LinesJoined : Joining → Option LinePlaces → List ℕ → List ℕ → Type 0
LinesJoined j line l l' = MatchOption line (l' ≡ l) (λ x. LineJoined j x l l')

-- a move of all groups
abbrev pub stepped_all : ℕ → Way → JoinRule → State ℕ → State ℕ
stepped_all s w r = make s (Electronic w) word (λ c d a b. rule_of r.joining r.front (position w a b))
