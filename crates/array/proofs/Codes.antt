-- A move turned round twice is the move, and a code reads back as its move.
use Prim.Native.Nat.{ℕ}
use mathlib.Core.Path.{◌≡◌, refl}
use Rattle.array.specs.declared.moves.Way.TheVariants.{Right, Left, Up, Down}
use Rattle.array.specs.declared.moves.Move.{Move}
use Rattle.array.specs.declared.moves.Move.TheVariants.{Swap, Electronic}
use Rattle.std.specs.Prelude.{Some}
use Rattle.array.specs.Moves.{code_of, logged_of, turned}

pub turned_twice : (m : Move) → turned (turned m) ≡ m
turned_twice Swap = refl
turned_twice (Electronic Right) = refl
turned_twice (Electronic Left) = refl
turned_twice (Electronic Up) = refl
turned_twice (Electronic Down) = refl

-- a code reads back as its move
pub code_reads : (m : Move) (n : ℕ) → logged_of (code_of m) n ≡ Some (record { step = m; moved = n })
code_reads Swap n = refl
code_reads (Electronic Right) n = refl
code_reads (Electronic Left) n = refl
code_reads (Electronic Up) n = refl
code_reads (Electronic Down) n = refl
