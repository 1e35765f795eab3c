-- The eight shifts as programs of the machine.
use Rattle.std.specs.Prelude.{ℕ, Bool, true, cond, List, [], ◌∷◌, ltb}
use Rattle.std.proofs.Math.Option.{Option}
use Rattle.shiftlists.specs.declared.Axis.{Axis}
use Rattle.shiftlists.specs.declared.Edge.{Edge}
use Rattle.shiftlists.specs.declared.Edge.TheVariants.{ZeroFill, Circular}
use Rattle.shiftlists.specs.declared.Distance.{Distance}
use Rattle.array.specs.Moves.{opposite}
use Rattle.runs.specs.Runs.{along}
use Rattle.shiftlists.specs.Shifts.{forth_moves, back_moves, forth_way, swaps_of}
use Rattle.lanes.specs.Machine.{State, Stage, made}
use Rattle.lanes.specs.Stages.{position, light, filled}
use Rattle.lanes.specs.Registers.{IsWord}

-- Shifts: x goes forth and y goes back, and 0 comes in at the edge.
pub record Shifting : Type 0 where
  pub x : ℕ
  pub y : ℕ

-- both are words
pub record TwoWords (o : Shifting) : Type 0 where
  pub x : IsWord o.x
  pub y : IsWord o.y

abbrev pub load_shift : ℕ → Shifting
load_shift w = record { x = w; y = w }

abbrev pub forth : Shifting → Option ℕ → Shifting
forth o got = record { x = filled got; y = o.y }

-- where the word that came back is taken: everywhere with zero fill; in a circular shift below m, where none came forth in m moves
abbrev pub takes_back : Edge → ℕ → ℕ → Bool
takes_back ZeroFill m p = true
takes_back Circular m p = ltb p m

abbrev pub back : Bool → Shifting → Option ℕ → Shifting
back takes o got = record { x = cond takes (filled got) o.x; y = filled got }

abbrev pub swap_shift : Shifting → ℕ → Shifting
swap_shift o x = load_shift x

abbrev pub shift : ℕ → Axis → Edge → Distance → List (Stage Shifting ℕ)
shift s axis edge k =
    light (swaps_of axis) (λ o. o.x) swap_shift ∷
    record { run = along (forth_way axis) (forth_moves edge s k); send = λ o. o.x; rule = λ n c d a b. forth } ∷
    record {
      run = along (opposite (forth_way axis)) (back_moves edge s k);
      send = λ o. o.y;
      rule = λ n c d a b. back (takes_back edge (forth_moves edge s k) (position (forth_way axis) a b));
    } ∷
    light (swaps_of axis) (λ o. o.x) swap_shift ∷ []

-- what it makes of a state of words
abbrev pub shifted_by : ℕ → Axis → Edge → Distance → State ℕ → State ℕ
shifted_by s axis edge k σ c d a b = (made s (shift s axis edge k) (λ c d a b. load_shift (σ c d a b)) c d a b).x
