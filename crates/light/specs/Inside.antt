-- What private functions' contracts cite; the public contracts are read without it.
use Rattle.std.specs.Prelude.{ℕ, suc, min, ◌+◌, ◌≤◌, ◌<◌, ◌≡◌, cond, List, eqb, ltb, length, get_or}
use Rattle.std.specs.List.{swap}
use Rattle.laws.specs.Sums.{sum}
use Rattle.array.specs.Cells.{groups, cells, cell, partner}
use Rattle.light.specs.Lane.{swapped_lane}
use Rattle.light.specs.Counts.{mark_count, leaving_of}
use Rattle.light.specs.Lanes.{Slots, each, swapped_by}

-- a list of the partners of group g's cells, as far as it goes
pub record Listed (s g : ℕ) (list : List ℕ) : Type 0 where
  pub entry : (p : ℕ) → p < length list → get_or list p 0 ≡ partner s (cell s g p)

-- a lane in which the cells before cell j had their turn: where a cell or its partner is one of them, it holds what its partner held
pub record Turned (s j : ℕ) (old l : List ℕ) : Type 0 where
  pub size : length l ≡ cells s
  pub holds : (i : ℕ) → i < cells s → get_or l i 0 ≡ cond (ltb (min i (partner s i)) j) (get_or old (partner s i) 0) (get_or old i 0)

-- the turn of group g, whatever the lane held at the first turn
pub record GroupTurned (s g : ℕ) (l l' : List ℕ) : Type 0 where
  pub so : (old : List ℕ) → Turned s (cell s g 0) old l → Turned s (cell s (suc g) 0) old l'

-- three lanes have a cell p
pub record HasCell (p : ℕ) (t : Slots) : Type 0 where
  pub words : p < length t.words
  pub marks : p < length t.marks
  pub aims : p < length t.aims

-- cells j and p of a slot's lanes traded, and their records were counted
pub record Traded (j p : ℕ) (t u : Slots) (r : ℕ) : Type 0 where
  pub lanes : u ≡ each (λ l. swap l j p) t
  pub count : r ≡ mark_count (get_or t.marks j 0) + mark_count (get_or t.marks p 0)
  pub few : r ≤ 2

-- how many records there are in cell p of group g and in its partner, where p is past g
abbrev pub pair_at : ℕ → ℕ → List ℕ → ℕ → ℕ
pair_at s g marks p = cond (ltb g p) (mark_count (get_or marks (cell s g p) 0) + mark_count (get_or marks (cell s p g) 0)) 0

abbrev pub pairs_in : ℕ → ℕ → List ℕ → ℕ
pairs_in s g marks = sum (groups s) (pair_at s g marks)

-- the turn of group g in a slot's lanes, whatever they held at the first turn
pub record SlotsTurned (s g : ℕ) (t u : Slots) (r : ℕ) : Type 0 where
  pub words : GroupTurned s g t.words u.words
  pub marks : GroupTurned s g t.marks u.marks
  pub aims : GroupTurned s g t.aims u.aims
  pub count : (old : List ℕ) → Turned s (cell s g 0) old t.marks → r ≡ pairs_in s g old
  pub few : r ≤ 128

-- one swap of a slot's lanes
pub record Once (s : ℕ) (t u : Slots) (r : ℕ) : Type 0 where
  pub lanes : u ≡ each (swapped_lane s) t
  pub count : r ≡ leaving_of s t.marks
  pub few : r ≤ 4096

-- n of them
pub record Times (s n : ℕ) (t u : Slots) (r : ℕ) : Type 0 where
  pub lanes : u ≡ each (swapped_by s n) t
  pub count : r ≡ cond (eqb n 0) 0 (leaving_of s t.marks)
  pub few : r ≤ 4096
