-- Each move of a list of the shape, and the move of the list backwards that undoes it: where it takes a record, and that it takes it back.
use Prim.Native.Nat.{ℕ, zero, suc, ◌+◌, ◌-◌, ◌*◌, ◌≤◌, ◌<◌}
use mathlib.Core.Path.{◌≡◌, refl, sym, ap, ap₂, ◌∙◌, subst}
use mathlib.Core.List.{List, [], ◌∷◌, ◌++◌}
use lib.ListN.{take, drop, length, replicate}
use lib.Seq.{drop-cons}
use native.Mathlib.Decide.{dec_lt}
use native.Mathlib.Omega.{arith}
use borrow.Author.Tests.{lt-ltb, le-ltb}
use Rattle.array.specs.declared.moves.Way.{Way}
use Rattle.array.specs.declared.moves.Way.TheVariants.{Right, Left, Up, Down}
use Rattle.array.specs.declared.moves.Move.{Move}
use Rattle.array.specs.declared.moves.Move.TheVariants.{Swap, Electronic}
use Rattle.array.specs.Cells.{partner}
use Rattle.array.specs.Moves.{opposite, turned}
use Rattle.runs.specs.declared.Run.{Run}
use Rattle.runs.specs.Runs.{moves, swaps_in, swaps}
use Rattle.lists.specs.Lists.{concentrate_runs, distribute_runs}
use Rattle.travel.specs.Turns.{turn_in, turn_at}
use Rattle.travel.specs.Travel.{toward, heading, travel}
use Rattle.travel.proofs.Listed.{swaps_after, times_of, times_moves, done_in, turn_step, turn_swaps, take_in_run, take_past_run, back_onto, Undoes, turn_back}
use Rattle.travel.proofs.Walk.{Steps, no_steps, steps_to, onto, tally, going}
use Rattle.travel.proofs.Shape.{Concentrates, Like, Fresh, concentrates, fresh}
use Rattle.travel.proofs.Collide.{Starts, spot, spot_on, spot_back, from_start, stood_at}
use Rattle.travel.proofs.Range.{travel-suc}

tally-append : (xs ys : List Move) (c : Steps) → tally (xs ++ ys) c ≡ tally ys (tally xs c)
tally-append [] ys c = refl
tally-append (m ∷ xs) ys c = tally-append xs ys (onto m c)

one_more : (m : Move) (c : Steps) (d : ℕ) → Like m c d → Like m (onto m c) (suc d)
one_more Swap c d z = tt
one_more (Electronic Right) c d z = ap suc z
one_more (Electronic Left) c d z = ap suc z
one_more (Electronic Up) c d z = ap suc z
one_more (Electronic Down) c d z = ap suc z

some_more : (m : Move) (t : ℕ) (c : Steps) (d e : ℕ) → Like m c d → e ≡ d + t → Like m (tally (replicate t m ++ []) c) e
some_more m zero c d e z f = let g : e ≡ d = omega arith in rw g z
some_more m (suc t) c d e z f = some_more m t (onto m c) (suc d) e (one_more m c d z) (omega arith)

-- before each move as many like it are made in its half as in its run
like : (rs : List Run) (c : Steps) (a k : ℕ) → k < times_of rs → Fresh c rs → Like (turn_in rs a k).step (tally (take k (moves rs)) c) (done_in rs k)
like [] c a k h f = absurd (omega arith)
like (r ∷ rs) c a k h f =
    let run = replicate r.times r.step in
    elim (dec_lt k r.times) [
      | yes l ↦ rw (lt-ltb k r.times l, take_in_run r.step (moves rs) r.times k (omega arith)) (some_more r.step k c 0 k f.0 (omega arith))
      | no l ↦
          rw (le-ltb k r.times (omega arith), take_past_run r.step (moves rs) r.times k (omega arith), tally-append run (take (k - r.times) (moves rs)) c)
          (like rs (tally run c) _ (k - r.times) (omega arith) f.1)
    ]

-- the cell, after k moves of a list, of the record of rank r that started in cell i
abbrev pub stands_by : ℕ → List Run → ℕ → ℕ → ℕ → ℕ
stands_by s rs k r i = travel s 0 r (take k (moves rs)) i

-- move k of a list goes a way, and move k' of another goes back
pub record Leg (s : ℕ) (forth back : List Run) (k k' : ℕ) (w : Way) (swaps : ℕ) : Type 0 where
  pub few : swaps ≤ 1
  pub step : (turn_at forth k).step ≡ Electronic w
  pub turn : (turn_at forth k).swaps ≡ swaps
  pub back_step : (turn_at back k').step ≡ Electronic (opposite w)
  pub back_turn : (turn_at back k').swaps ≡ 2 - swaps
  pub goes_on : (r i : ℕ) → stands_by s forth (suc k) r i ≡ toward s w (heading s swaps r) (stands_by s forth k r i)
  pub goes_back : (r i : ℕ) → Starts s i r
      → stands_by s forth k r i ≡ going s (opposite w) ((turn_at back k').remaining - 1) (heading s swaps i) (stands_by s forth (suc k) r i)

-- both are swaps, or both are electronic
pub data StageBy (s : ℕ) (forth back : List Run) (k k' : ℕ) : Type 0 where
  light : (turn_at forth k).step ≡ Swap → (turn_at back k').step ≡ Swap
      → ((r i : ℕ) → stands_by s forth (suc k) r i ≡ partner s (stands_by s forth k r i)) → StageBy s forth back k k'
  leg : (w : Way) (swaps : ℕ) → Leg s forth back k k' w swaps → StageBy s forth back k k'

-- a list of the shape, and the list backwards: move k is undone by the move that has as many before it as move k has behind
module _ (s : ℕ) (pos : 1 ≤ s) (rs : List Run) (shape : Concentrates s 0 no_steps (moves rs)) (begun : Fresh no_steps rs) (two : swaps rs ≡ 2)
    (k k' : ℕ) (e : k + suc k' ≡ times_of rs) where
  -- the swaps and the moves of the half that are made before move k
  abbrev n : ℕ
  n = swaps_after (take k (moves rs)) 0

  abbrev c : Steps
  c = tally (take k (moves rs)) no_steps

  inside : k < length (moves rs)
  inside = rw (times_moves rs) (omega arith)

  undo : Undoes (turn_in rs 0 k) (done_in rs k) 2 (turn_in (back_onto rs []) 0 k')
  undo = turn_back rs [] 0 0 k k' 2 e (omega arith)

  turn_is : (turn_in rs 0 k).swaps ≡ n
  turn_is = sym (turn_swaps rs 0 k)

  module _ (w : Way) (f : (turn_in rs 0 k).step ≡ Electronic w) where
    few : n ≤ 1
    few =
        let here : drop k (moves rs) ≡ Electronic w ∷ drop (suc k) (moves rs) =
        drop-cons (moves rs) k Swap inside ∙ ap (λ (m : Move). m ∷ drop (suc k) (moves rs)) (turn_step rs 0 k ∙ f) in
        (subst (Concentrates s n c) here (from_start s pos (moves rs) shape k).rest).0

    wait : (turn_in (back_onto rs []) 0 k').remaining - 1 ≡ steps_to w c
    wait =
        let l : steps_to w c ≡ done_in rs k = subst (λ (m : Move). Like m c (done_in rs k)) f (like rs no_steps 0 k (omega arith) begun) in
        omega (arith, undo.remaining)

    on : (r i : ℕ) → stands_by s rs (suc k) r i ≡ toward s w (heading s n r) (stands_by s rs k r i)
    on r i = travel-suc s rs k r i inside ∙ rw (f, turn_is)

    back : (r i : ℕ) → Starts s i r → stands_by s rs k r i ≡ going s (opposite w) ((turn_in (back_onto rs []) 0 k').remaining - 1) (heading s n i) (stands_by s rs (suc k) r i)
    back r i o =
        let at = stood_at s pos (moves rs) shape k o in
        let next : stands_by s rs (suc k) r i ≡ spot s n (onto (Electronic w) c) i r = on r i ∙ ap (toward s w (heading s n r)) at ∙ spot_on s pos o n c w few in
        at ∙ sym (spot_back s pos o n c w few) ∙ sym (ap₂ (λ (d j : ℕ). going s (opposite w) d (heading s n i) j) wait next)

    electronic : Leg s rs (back_onto rs []) k k' w n
    electronic =
        record {
          few = few;
          step = f;
          turn = turn_is;
          back_step = undo.step ∙ ap turned f;
          back_turn = omega (arith, undo.swaps, turn_is, ap (λ (m : Move). swaps_in m 1) f);
          goes_on = on;
          goes_back = back;
        }

  pub stage_by : StageBy s rs (back_onto rs []) k k'
  stage_by = go (turn_in rs 0 k).step refl
    where
      go : (m : Move) → (turn_in rs 0 k).step ≡ m → StageBy s rs (back_onto rs []) k k'
      go Swap f = light f (undo.step ∙ ap turned f) (λ r i. travel-suc s rs k r i inside ∙ rw f)
      go (Electronic w) f = leg w n (electronic w f)

-- so of concentrate and distribute
abbrev pub StageBack : ℕ → ℕ → ℕ → Type 0
StageBack s k k' = StageBy s (concentrate_runs s) (distribute_runs s) k k'

pub stage_back : (s : ℕ) → 1 ≤ s → (k k' : ℕ) → k + k' ≡ 7 * (s - 1) + 1 → StageBack s k k'
stage_back s pos k k' e = stage_by s pos (concentrate_runs s) (concentrates s) (fresh s) refl k k' (omega arith)
