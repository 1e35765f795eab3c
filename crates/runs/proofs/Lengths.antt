-- A list has as many moves as it has electronic moves and swaps.
use Prim.Native.Nat.{ℕ, ◌+◌}
use mathlib.Core.Path.{◌≡◌, refl}
use mathlib.Core.List.{List, [], ◌∷◌}
use native.Mathlib.Omega.{arith}
use lib.ListN.{length, length-append, length-replicate}
use Rattle.array.specs.declared.moves.Move.{Move}
use Rattle.array.specs.declared.moves.Move.TheVariants.{Swap, Electronic}
use Rattle.runs.specs.declared.Run.{Run}
use Rattle.runs.specs.Runs.{moves, electronic_in, swaps_in, electronic, swaps}

-- every move is electronic or a swap
kinds : (m : Move) (n : ℕ) → n ≡ electronic_in m n + swaps_in m n
kinds Swap n = omega arith
kinds (Electronic w) n = omega arith

pub length-moves : (rs : List Run) → length (moves rs) ≡ electronic rs + swaps rs
length-moves [] = refl
length-moves (r ∷ rs) = simp (length-append, length-replicate) (omega (arith, kinds r.step r.times, length-moves rs))
