-- What private functions' contracts cite; the public contracts are read without it.
use Rattle.std.specs.Prelude.{ℕ, ◌≡◌}
use Rattle.std.proofs.lemmas.List.Edits.{sets}
use Rattle.laws.specs.Lent.{Lent, old, new}
use Rattle.array.specs.Lent.{PassedLanes, of_lanes}
use Rattle.lists.specs.declared.Trip.{Trip}
use Rattle.slots.specs.Lanes.{cells_after}
use Rattle.records.specs.Records.{moved_counts}
use Rattle.records.specs.Entries.{Stood}

-- the first n moves were made, with their counts in a log, as far as it goes
abbrev pub Performed : Trip → ℕ → ℕ → PassedLanes → Lent → Type 0
Performed trip s n lanes moved =
    of_lanes
    (λ w m a w₂ m₂ a₂. Stood trip s n (old w) (old m) (old a) (cells_after w m a w₂ m₂ a₂) × (new moved ≡ sets (old moved) 0 (moved_counts trip s n (old m) (old a))))
    lanes
