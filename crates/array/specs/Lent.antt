-- The lanes of records that a function is lent, as one parameter: in its contract the six lanes one by one, and what is known of all of them.
use Rattle.std.specs.Prelude.{ℕ, ◌≡◌, Bool, ◌&&◌, List, length}
use denote.Triple.Both.{Both}
use Rattle.std.specs.Borrow.{MutBor}
use Rattle.laws.specs.Lent.{Lent}
use Rattle.array.specs.Cells.{is_board}
use Rattle.array.specs.declared.lent.LentSlots.{LentSlots}
use Rattle.array.specs.declared.lent.LentLanes.{LentLanes}

-- such a parameter, in an ensures
abbrev pub PassedLanes : Type 0
PassedLanes = Both (MutBor LentLanes) (MutBor LentLanes)

-- three lanes of these lengths, and six, are those of a board
abbrev pub are_slots : ℕ → ℕ → ℕ → ℕ → Bool
are_slots s a b c = is_board s a && (is_board s b && is_board s c)

abbrev pub are_lanes : ℕ → ℕ → ℕ → ℕ → ℕ → ℕ → ℕ → Bool
are_lanes s a b c d e f = are_slots s a b c && are_slots s d e f

abbrev pub slots_fit : ℕ → LentSlots → Bool
slots_fit s t = are_slots s (length t.words.now) (length t.marks.now) (length t.aims.now)

abbrev pub lanes_fit : ℕ → LentLanes → Bool
lanes_fit s l = slots_fit s l.front.now && slots_fit s l.spare.now

-- after a call these are the lanes that were lent, as long as they were, whatever they hold now
pub record SameLane (a b : MutBor (List ℕ)) : Type 0 where
  pub is : b.ghost_name ≡ a.ghost_name
  pub long : length b.now ≡ length a.now

pub record SameSlots (a b : LentSlots) : Type 0 where
  pub words : SameLane a.words b.words
  pub marks : SameLane a.marks b.marks
  pub aims : SameLane a.aims b.aims

pub record SameLanes (a b : LentLanes) : Type 0 where
  pub front-is : b.front.ghost_name ≡ a.front.ghost_name
  pub spare-is : b.spare.ghost_name ≡ a.spare.ghost_name
  pub front : SameSlots a.front.now b.front.now
  pub spare : SameSlots a.spare.now b.spare.now

-- each lane as a slice that is lent alone
abbrev pub front_words : PassedLanes → Lent
front_words l = record { entry = l.entry.now.front.now.words; exit = l.exit.now.front.now.words }

abbrev pub front_marks : PassedLanes → Lent
front_marks l = record { entry = l.entry.now.front.now.marks; exit = l.exit.now.front.now.marks }

abbrev pub front_aims : PassedLanes → Lent
front_aims l = record { entry = l.entry.now.front.now.aims; exit = l.exit.now.front.now.aims }

abbrev pub spare_words : PassedLanes → Lent
spare_words l = record { entry = l.entry.now.spare.now.words; exit = l.exit.now.spare.now.words }

abbrev pub spare_marks : PassedLanes → Lent
spare_marks l = record { entry = l.entry.now.spare.now.marks; exit = l.exit.now.spare.now.marks }

abbrev pub spare_aims : PassedLanes → Lent
spare_aims l = record { entry = l.entry.now.spare.now.aims; exit = l.exit.now.spare.now.aims }

-- what is said of six lanes that are lent one by one, said of lanes that are lent as one
abbrev pub of_lanes : (Lent → Lent → Lent → Lent → Lent → Lent → Type 0) → PassedLanes → Type 0
of_lanes P l = P (front_words l) (front_marks l) (front_aims l) (spare_words l) (spare_marks l) (spare_aims l)
