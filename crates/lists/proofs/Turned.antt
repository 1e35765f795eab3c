-- Distribute's list is concentrate's backwards, each way turned round.
use Prim.Native.Nat.{ℕ}
use mathlib.Core.Path.{◌≡◌, refl, sym, ap, ap₂, ◌∙◌}
use mathlib.Core.List.{List, [], ◌∷◌, ◌++◌, map, map-append, reverse, reverse-cons, reverse-append, append_assoc, append-nil}
use lib.ListN.{replicate}
use Rattle.laws.proofs.Reversed.{map-replicate, reverse-replicate}
use Rattle.array.specs.declared.moves.Move.{Move}
use Rattle.runs.specs.declared.Run.{Run}
use Rattle.array.specs.Moves.{turned}
use Rattle.runs.specs.Runs.{moves}
use Rattle.lists.specs.Lists.{concentrate_runs, distribute_runs}

abbrev turned_run : Run → Run
turned_run r = record { step = turned r.step; times = r.times }

moves-append : (xs ys : List Run) → moves (xs ++ ys) ≡ moves xs ++ moves ys
moves-append [] ys = refl
moves-append (r ∷ xs) ys =
    ap (λ (ms : List Move). replicate r.times r.step ++ ms) (moves-append xs ys)
    ∙ sym (append_assoc (replicate r.times r.step) (moves xs) (moves ys))

-- the moves of runs that are reversed and turned round
moves_turned : (rs : List Run) → moves (map turned_run (reverse rs)) ≡ map turned (reverse (moves rs))
moves_turned [] = refl
moves_turned (r ∷ rs) =
    let run = replicate r.times r.step in
    ap (λ (l : List Run). moves (map turned_run l)) (reverse-cons r rs)
    ∙ ap moves (map-append turned_run (reverse rs) (r ∷ []))
    ∙ moves-append (map turned_run (reverse rs)) (turned_run r ∷ [])
    ∙ ap₂ (λ (a b : List Move). a ++ b) (moves_turned rs) (append-nil (replicate r.times (turned r.step)) ∙ sym (map-replicate turned r.times r.step))
    ∙ sym (map-append turned (reverse (moves rs)) run)
    ∙ ap (λ (l : List Move). map turned (reverse (moves rs) ++ l)) (sym (reverse-replicate r.times r.step))
    ∙ ap (map turned) (sym (reverse-append run (moves rs)))

pub distribute_is_concentrate_turned : (s : ℕ) → moves (distribute_runs s) ≡ map turned (reverse (moves (concentrate_runs s)))
distribute_is_concentrate_turned s = moves_turned (concentrate_runs s)
