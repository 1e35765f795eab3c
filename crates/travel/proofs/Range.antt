-- What holds of every move list: a record stays among the cells, and an electronic move leaves it in its group.
use Prim.Native.Nat.{ℕ, zero, suc, ◌+◌, ◌-◌, ◌*◌, ◌≤◌, ◌<◌}
use mathlib.Core.Path.{◌≡◌, refl, sym, ap, ap₂, ◌∙◌}
use mathlib.Core.List.{List, [], ◌∷◌, ◌++◌}
use lib.ListN.{take, get_or, length}
use lib.Seq.{take-suc}
use lib.Arith.{digits_div, digits_lt}
use native.Mathlib.Nat.{div-add-mod', mod-lt, mod-eq_of_lt, div-lt_iff_lt-mul, mul-pos}
use Rattle.array.specs.declared.moves.Way.{Way}
use Rattle.array.specs.declared.moves.Move.{Move}
use Rattle.array.specs.declared.moves.Move.TheVariants.{Swap, Electronic}
use Rattle.array.specs.Cells.{cells, cell, place, group, partner}
use Rattle.travel.proofs.Listed.{swaps_after, turn_step, turn_swaps}
use Rattle.runs.specs.declared.Run.{Run}
use Rattle.runs.specs.Runs.{moves}
use Rattle.lists.specs.Lists.{concentrate_runs}
use Rattle.lists.proofs.Counts.{concentrate_length}
use Rattle.travel.specs.Travel.{concentrate_moves, toward, heading, travel, stands}
use Rattle.travel.specs.Turns.{turn_in}
use Rattle.travel.proofs.Walk.{no_steps, onto, Heads, seat<, start, step_on}

module _ (s : ℕ) (pos : 1 ≤ s) where
  pos² : 0 < s * s
  pos² = mul-pos pos pos

  -- where a record goes by one electronic move: a place of its group
  within : (w : Way) (h i : ℕ) → h < s * s → (p : ℕ) × (p < s * s) × (toward s w h i ≡ cell s (group s i) p)
  within w h i l =
      (_, seat< t (onto (Electronic w) no_steps), ap (toward s w h) (sym (div-add-mod' i (s * s)) ∙ start s (group s i) (place s i) h) ∙ step_on t (group s i) no_steps w)
    where
      t : Heads s (place s i) h h
      t = record { pos = pos; inside = mod-lt i pos²; in_column = refl; in_row = sym (mod-eq_of_lt ((div-lt_iff_lt-mul pos).1 l)) }

  pub same-group : (w : Way) (h i : ℕ) → h < s * s → group s (toward s w h i) ≡ group s i
  same-group w h i l = let (p, p<, e) = within w h i l in rw e (digits_div (group s i) p<)

  pub heading< : (swaps r : ℕ) → r < cells s → heading s swaps r < s * s
  heading< zero r l = mod-lt r pos²
  heading< (suc swaps) r l = (div-lt_iff_lt-mul pos²).1 l

  pub in_range : (swaps r : ℕ) (ms : List Move) (i : ℕ) → r < cells s → i < cells s → travel s swaps r ms i < cells s
  in_range swaps r [] i l h = h
  in_range swaps r (Swap ∷ ms) i l h = in_range (suc swaps) r ms (partner s i) l (digits_lt (mod-lt i pos²) ((div-lt_iff_lt-mul pos²).1 h))
  in_range swaps r (Electronic w ∷ ms) i l h =
      in_range swaps r ms (toward s w (heading s swaps r) i) l
      (let (p, p<, e) = within w (heading s swaps r) i (heading< swaps r l) in rw e (digits_lt ((div-lt_iff_lt-mul pos²).1 h) p<))

  pub stands_in_range : (k r i : ℕ) → r < cells s → i < cells s → stands s k r i < cells s
  stands_in_range k r i l h = in_range 0 r (take k (concentrate_moves s)) i l h

-- one move more
travel-append : (s swaps r : ℕ) (xs ys : List Move) (i : ℕ) → travel s swaps r (xs ++ ys) i ≡ travel s (swaps_after xs swaps) r ys (travel s swaps r xs i)
travel-append s swaps r [] ys i = refl
travel-append s swaps r (Swap ∷ xs) ys i = travel-append s (suc swaps) r xs ys (partner s i)
travel-append s swaps r (Electronic w ∷ xs) ys i = travel-append s swaps r xs ys (toward s w (heading s swaps r) i)

pub travel-suc : (s : ℕ) (rs : List Run) (k r i : ℕ) → k < length (moves rs) →
    travel s 0 r (take (suc k) (moves rs)) i ≡ travel s (turn_in rs 0 k).swaps r ((turn_in rs 0 k).step ∷ []) (travel s 0 r (take k (moves rs)) i)
travel-suc s rs k r i h =
    ap (λ (ms : List Move). travel s 0 r ms i) (take-suc (moves rs) k Swap h)
    ∙ travel-append s 0 r (take k (moves rs)) (get_or (moves rs) k Swap ∷ []) i
    ∙ ap₂ (λ (m : Move) (swaps : ℕ). travel s swaps r (m ∷ []) (travel s 0 r (take k (moves rs)) i)) (turn_step rs 0 k) (turn_swaps rs 0 k)

pub stands-suc : (s k r i : ℕ) → k < 7 * (s - 1) + 2 →
    stands s (suc k) r i ≡ travel s (turn_in (concentrate_runs s) 0 k).swaps r ((turn_in (concentrate_runs s) 0 k).step ∷ []) (stands s k r i)
stands-suc s k r i h = travel-suc s (concentrate_runs s) k r i (rw (concentrate_length s) h)
