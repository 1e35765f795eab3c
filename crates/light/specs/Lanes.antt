-- Swaps of all six lanes of a board: the words, marks and aims of its front slots, and those of its spare slots.
use Rattle.std.specs.Prelude.{ℕ, zero, suc, ◌+◌, ◌≡◌, Bool, cond, List, eqb, length}
use Rattle.laws.specs.Lent.{Lent, old, new}
use Rattle.array.specs.declared.lent.LentSlots.{LentSlots}
use Rattle.array.specs.Lent.{are_slots, are_lanes, PassedLanes, of_lanes}
use Rattle.light.specs.Lane.{swapped_lane}
use Rattle.light.specs.Counts.{leaving_of}

-- six lanes are those of a board
abbrev pub have_board : ℕ → Lent → Lent → Lent → Lent → Lent → Lent → Bool
have_board s w m a w₂ m₂ a₂ =
    are_lanes s (length (old w)) (length (old m)) (length (old a)) (length (old w₂)) (length (old m₂)) (length (old a₂))

-- the lanes of the front slots, or of the spare ones, at one moment
pub record Slots : Type 0 where
  pub words : List ℕ
  pub marks : List ℕ
  pub aims : List ℕ

abbrev pub slots : List ℕ → List ℕ → List ℕ → Slots
slots w m a = record { words = w; marks = m; aims = a }

abbrev pub held : LentSlots → Slots
held t = slots t.words.now t.marks.now t.aims.now

-- they are lanes of a board
abbrev pub on_board : ℕ → Slots → Bool
on_board s t = are_slots s (length t.words) (length t.marks) (length t.aims)

-- one thing done to every lane
abbrev pub each : (List ℕ → List ℕ) → Slots → Slots
each f t = slots (f t.words) (f t.marks) (f t.aims)

-- a lane after n swaps
unfoldable pub swapped_by : ℕ → ℕ → List ℕ → List ℕ
swapped_by s zero l = l
swapped_by s (suc n) l = swapped_lane s (swapped_by s n l)

-- all six lanes at one moment
pub record Table : Type 0 where
  pub front : Slots
  pub spare : Slots

-- six lent lanes as they were, and as they are
abbrev pub table_before : Lent → Lent → Lent → Lent → Lent → Lent → Table
table_before w m a w₂ m₂ a₂ = record { front = slots (old w) (old m) (old a); spare = slots (old w₂) (old m₂) (old a₂) }

abbrev pub table_after : Lent → Lent → Lent → Lent → Lent → Lent → Table
table_after w m a w₂ m₂ a₂ = record { front = slots (new w) (new m) (new a); spare = slots (new w₂) (new m₂) (new a₂) }

-- how many swaps are made of n on a slot's lanes: none, where they are not a board's
abbrev pub swaps_on : ℕ → ℕ → Slots → ℕ
swaps_on s n t = cond (on_board s t) n 0

-- the lanes after them, and how many of their records each takes to another cell
abbrev pub after_swaps : ℕ → ℕ → Slots → Slots
after_swaps s n t = each (swapped_by s (swaps_on s n t)) t

abbrev pub leaving_slots : ℕ → ℕ → Slots → ℕ
leaving_slots s n t = cond (eqb (swaps_on s n t) 0) 0 (leaving_of s t.marks)

-- table t after n swaps, of which each takes r records to another cell
pub record Swapped (s n : ℕ) (t u : Table) (r : ℕ) : Type 0 where
  pub front : u.front ≡ after_swaps s n t.front
  pub spare : u.spare ≡ after_swaps s n t.spare
  pub count : r ≡ leaving_slots s n t.front + leaving_slots s n t.spare

-- n swaps of lent lanes
abbrev pub SwappedLanes : ℕ → ℕ → Lent → Lent → Lent → Lent → Lent → Lent → ℕ → Type 0
SwappedLanes s n w m a w₂ m₂ a₂ r = Swapped s n (table_before w m a w₂ m₂ a₂) (table_after w m a w₂ m₂ a₂) r

abbrev pub SwappedLent : ℕ → ℕ → PassedLanes → ℕ → Type 0
SwappedLent s n lanes r = of_lanes (λ w m a w₂ m₂ a₂. SwappedLanes s n w m a w₂ m₂ a₂ r) lanes
