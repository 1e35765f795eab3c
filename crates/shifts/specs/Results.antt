-- What a shift leaves in the words, as a list.
use Rattle.std.specs.Prelude.{ℕ, ◌+◌, ◌-◌, ◌%◌, cond, ◌&&◌, List, ℤ, length, ltb}
use Rattle.std.proofs.Math.Option.{Option, none, some}
use Rattle.shiftlists.specs.declared.Axis.{Axis}
use Rattle.shiftlists.specs.declared.Axis.TheVariants.{MeshRow, MeshColumn, GroupRow, GroupColumn}
use Rattle.shiftlists.specs.declared.Edge.{Edge}
use Rattle.shiftlists.specs.declared.Edge.TheVariants.{ZeroFill, Circular}
use Rattle.shiftlists.specs.declared.Distance.{Distance}
use Rattle.shiftlists.specs.Shifts.{distance_of, within, modulo}
use Rattle.array.specs.Cells.{is_board}
use Rattle.lanes.specs.Machine.{State, load, unload}

-- the position whose word a shift by k takes to position p: p - k, if it is 0 or more and below s; in a circular shift p - k modulo s
abbrev pub came_from : Edge → ℕ → Distance → ℕ → Option ℕ
came_from ZeroFill s k p =
    cond (ltb (p + k.back) k.forth) none (cond (ltb (p + k.back - k.forth) s) (some (p + k.back - k.forth)) none)
came_from Circular s k p = some ((p + (s - modulo s k)) % s)

-- a word of a line, and 0 where none came
abbrev pub word_from : (ℕ → ℕ) → Option ℕ → ℕ
word_from line none = 0
word_from line (some p) = line p

-- a shift moves each word along the row or the column of its place, or of its group
abbrev pub shifted : Axis → (ℕ → Option ℕ) → State ℕ → State ℕ
shifted MeshRow came σ c d a b = word_from (λ j. σ c d a j) (came b)
shifted MeshColumn came σ c d a b = word_from (λ i. σ c d i b) (came a)
shifted GroupRow came σ c d a b = word_from (λ j. σ c j a b) (came d)
shifted GroupColumn came σ c d a b = word_from (λ i. σ i d a b) (came c)

abbrev pub shift_words : ℕ → Axis → Edge → ℤ → List ℕ → List ℕ
shift_words s axis edge k words = unload s (shifted axis (came_from edge s (distance_of k)) (load s words))

-- the same for every side, distance and lane: what is no lane of a board stays, and so does a lane where the distance is not within the side
abbrev pub shift_lane : ℕ → Axis → Edge → ℤ → List ℕ → List ℕ
shift_lane s axis edge k l = cond (is_board s (length l) && within s (distance_of k)) (shift_words s axis edge k l) l
