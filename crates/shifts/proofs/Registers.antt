-- The registers of a shift: two words, after every single move, and a word is handed on in each.
use Prim.Native.Nat.{ℕ}
use mathlib.Core.Bool.{Bool, true, false, cond}
use mathlib.Core.Option.{Option, none, some}
use mathlib.Core.List.{List}
use native.Mathlib.Omega.{arith}
use lib.ListN.{get_or}
use Rattle.shiftlists.specs.declared.Axis.{Axis}
use Rattle.shiftlists.specs.declared.Edge.{Edge}
use Rattle.shiftlists.specs.declared.Distance.{Distance}
use Rattle.shiftlists.specs.Shifts.{forth_moves, forth_way, swaps_of}
use Rattle.lanes.specs.Machine.{at, load}
use Rattle.lanes.specs.Stages.{position, filled}
use Rattle.lanes.specs.Registers.{IsWord, IfAny, Registers}
use Rattle.lanes.proofs.Registers.{KeepAll, no_more, ◌and◌, Joins, light_keeping, registers_kept}
use Rattle.shifts.specs.Programs.{TwoWords, load_shift, takes_back, swap_shift, shift}

-- 0 is a word, where nothing came
filled-word : (got : Option ℕ) → IfAny IsWord got → IsWord (filled got)
filled-word none h = omega arith
filled-word (some x) h = h

either_word : (t : Bool) {x y : ℕ} → IsWord x → IsWord y → IsWord (cond t x y)
either_word true h h' = h
either_word false h h' = h'

swap_taken : Joins TwoWords IsWord (λ o. o.x) swap_shift
swap_taken = record { sends = λ o g. g.x; joins = λ o x g h. record { x = h; y = h } }

shift_keeping : (s : ℕ) (axis : Axis) (edge : Edge) (k : Distance) → KeepAll TwoWords IsWord (shift s axis edge k)
shift_keeping s axis edge k =
    light_keeping swap_taken (swaps_of axis)
    and record { sends = λ o g. g.x; turns = λ n c d a b o got g h. record { x = filled-word got h; y = g.y } }
    and record {
      sends = λ o g. g.y;
      turns = λ n c d a b o got g h. record {
        x = either_word (takes_back edge (forth_moves edge s k) (position (forth_way axis) a b)) (filled-word got h) g.x;
        y = filled-word got h;
      };
    }
    and light_keeping swap_taken (swaps_of axis) and no_more

pub shift_registers : (s : ℕ) (axis : Axis) (edge : Edge) (k : Distance) (l : List ℕ) → ((j : ℕ) → IsWord (get_or l j 0))
    → Registers TwoWords IsWord s (shift s axis edge k) (λ c d a b. load_shift (load s l c d a b))
shift_registers s axis edge k l small =
    registers_kept s (shift s axis edge k) (shift_keeping s axis edge k) (λ c d a b. record { x = small (at s c d a b); y = small (at s c d a b) })
