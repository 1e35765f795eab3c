-- The moves of a list of runs, made one run after the other on all cells of a board, up to a cut.
use Rattle.std.specs.Prelude.{ℕ, zero, suc, ◌+◌, ◌-◌, ◌<◌, min, ◌≡◌, Bool, true, false, cond, List, [], ◌∷◌, ◌++◌, eqb}
use Rattle.std.proofs.lemmas.List.Edits.{sets}
use Rattle.laws.specs.Lent.{Lent, old, new}
use Rattle.laws.specs.Sums.{sum}
use Rattle.laws.specs.Tables.{entries}
use Rattle.array.specs.declared.moves.Way.{Way}
use Rattle.array.specs.declared.moves.Move.{Move}
use Rattle.array.specs.declared.moves.Move.TheVariants.{Swap, Electronic}
use Rattle.array.specs.Cells.{cells, partner}
use Rattle.array.specs.Lent.{PassedLanes, of_lanes}
use Rattle.runs.specs.declared.Run.{Run}
use Rattle.runs.specs.Runs.{swaps_in}
use Rattle.lists.specs.declared.Trip.{Trip}
use Rattle.lists.specs.declared.Trip.TheVariants.{Concentrate, Distribute}
use Rattle.slots.specs.declared.Cell.{Cell}
use Rattle.light.specs.Lanes.{have_board}
use Rattle.slots.specs.Cells.{marks_in}
use Rattle.slots.specs.Lanes.{cells_before, cells_after}
use Rattle.mesh.specs.declared.Leg.{Leg}
use Rattle.mesh.specs.Mesh.{line_rule_of, ran_on, gone_in}

-- a record heads for its aim mod N before concentrate's first swap, and after distribute's last
abbrev pub low_after : Trip → ℕ → Bool
low_after Concentrate swaps = eqb swaps 0
low_after Distribute swaps = eqb swaps 2

-- in distribute records go as late as they can
abbrev pub is_late : Trip → Bool
is_late Concentrate = false
is_late Distribute = true

-- the first m moves of a run one way, where so many swaps were made before
abbrev pub leg_of : Trip → ℕ → ℕ → Way → ℕ → ℕ → Leg
leg_of trip s swaps w times m = record { side = s; way = w; low = low_after trip swaps; late = is_late trip; times = times; made = m }

-- the cells after m swaps: each holds what its partner held
unfoldable pub swapped : ℕ → ℕ → (ℕ → Cell) → ℕ → Cell
swapped s zero T i = T i
swapped s (suc m) T i = swapped s m T (partner s i)

-- the cells after the first m moves of a run of so many
abbrev pub ran_by : Trip → ℕ → ℕ → Move → ℕ → ℕ → (ℕ → Cell) → ℕ → Cell
ran_by trip s swaps Swap times m T = swapped s m T
ran_by trip s swaps (Electronic w) times m T = ran_on (line_rule_of (leg_of trip s swaps w times m)) T

-- how many records move j of the run takes to another cell
abbrev pub gone_by : Trip → ℕ → ℕ → Move → ℕ → ℕ → (ℕ → Cell) → ℕ
gone_by trip s swaps Swap times j T = sum (cells s) (λ i. cond (eqb (partner s i) i) 0 (marks_in (swapped s j T i)))
gone_by trip s swaps (Electronic w) times j T = gone_in (line_rule_of (leg_of trip s swaps w times times)) j T

-- how many of a run's moves are made, of k that are left
abbrev pub made_of : Run → ℕ → ℕ
made_of r k = min r.times k

-- the cells after the first k moves of a list, where so many swaps were made before
unfoldable pub after : Trip → ℕ → List Run → ℕ → ℕ → (ℕ → Cell) → ℕ → Cell
after trip s [] swaps k T = T
after trip s (r ∷ rs) swaps k T =
    after trip s rs (swaps + swaps_in r.step (made_of r k)) (k - made_of r k) (ran_by trip s swaps r.step r.times (made_of r k) T)

-- how many records each of them takes to another cell
unfoldable pub moved_log : Trip → ℕ → List Run → ℕ → ℕ → (ℕ → Cell) → List ℕ
moved_log trip s [] swaps k T = []
moved_log trip s (r ∷ rs) swaps k T =
    entries (λ j. gone_by trip s swaps r.step r.times j T) 0 (made_of r k)
    ++ moved_log trip s rs (swaps + swaps_in r.step (made_of r k)) (k - made_of r k) (ran_by trip s swaps r.step r.times (made_of r k) T)

-- the first n moves of a list were made, where the lanes are those of a board, and nothing was done else
pub record Ran (lanes : Bool) (trip : Trip) (s : ℕ) (rs : List Run) (n : ℕ) (T T' : ℕ → Cell) (moved moved' : List ℕ) : Type 0 where
  pub made : lanes ≡ true → (i : ℕ) → i < cells s → T' i ≡ after trip s rs 0 n T i
  pub kept : lanes ≡ false → (i : ℕ) → T' i ≡ T i
  pub log : moved' ≡ cond lanes (sets moved 0 (moved_log trip s rs 0 n T)) moved

abbrev pub RanList : Trip → ℕ → List Run → ℕ → Lent → Lent → Lent → Lent → Lent → Lent → Lent → Type 0
RanList trip s rs n w m a w₂ m₂ a₂ moved =
    Ran (have_board s w m a w₂ m₂ a₂) trip s rs n (cells_before w m a w₂ m₂ a₂) (cells_after w m a w₂ m₂ a₂) (old moved) (new moved)

abbrev pub RanListLent : Trip → ℕ → List Run → ℕ → PassedLanes → Lent → Type 0
RanListLent trip s rs n lanes moved = of_lanes (λ w m a w₂ m₂ a₂. RanList trip s rs n w m a w₂ m₂ a₂ moved) lanes
