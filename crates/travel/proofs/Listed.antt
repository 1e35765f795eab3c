-- Move k of a list of runs: found by going through the runs, and at a known run; and it is the move that the list, one by one, has there.
use Prim.Native.Nat.{ℕ, zero, suc, ◌+◌, ◌-◌, ◌≤◌, ◌<◌}
use mathlib.Core.Path.{◌≡◌, refl, sym, ap, ap₂, ◌∙◌}
use mathlib.Core.Bool.{cond}
use mathlib.Core.List.{List, [], ◌∷◌, ◌++◌}
use native.Mathlib.Nat.{sub-zero, suc-sub-suc}
use native.Mathlib.Decide.{dec_lt}
use native.Mathlib.Omega.{arith}
use borrow.Author.Tests.{lt-ltb, le-ltb}
use lib.Dec.{ltb}
use lib.ListN.{length, take, get_or, replicate, length-append, length-replicate}
use Rattle.array.specs.declared.moves.Move.{Move}
use Rattle.array.specs.declared.moves.Move.TheVariants.{Swap, Electronic}
use Rattle.runs.specs.declared.Run.{Run}
use Rattle.travel.specs.declared.turns.Turn.{Turn}
use Rattle.array.specs.Moves.{turned}
use Rattle.runs.specs.Runs.{swaps_in, swaps, moves}
use Rattle.travel.specs.Turns.{turn_in}

-- how many swaps are made once some moves are made, where so many were made before them
abbrev pub swaps_after : List Move → ℕ → ℕ
swaps_after [] swaps = swaps
swaps_after (Swap ∷ ms) swaps = swaps_after ms (suc swaps)
swaps_after (Electronic w ∷ ms) swaps = swaps_after ms swaps

-- the move of run r of which t were made
abbrev pub in_run : Run → ℕ → ℕ → Turn
in_run r swaps t = record { step = r.step; remaining = r.times - t; swaps = swaps + swaps_in r.step t }

pub turn_here : (r : Run) (rs : List Run) (swaps k : ℕ) → k < r.times → turn_in (r ∷ rs) swaps k ≡ in_run r swaps k
turn_here r rs swaps k h = rw (lt-ltb k r.times h)

pub turn_past : (r : Run) (rs : List Run) (swaps k : ℕ) → r.times ≤ k → turn_in (r ∷ rs) swaps k ≡ turn_in rs (swaps + swaps_in r.step r.times) (k - r.times)
turn_past r rs swaps k h = rw (le-ltb k r.times h)

pub few_swaps : (m : Move) (n : ℕ) → swaps_in m n ≤ n
few_swaps Swap n = omega arith
few_swaps (Electronic w) n = omega arith

-- t times a move and then others: the k-th of these
module _ (m : Move) (ms : List Move) where
  in_run_lem : (t k : ℕ) → k < t → get_or (replicate t m ++ ms) k Swap ≡ m
  in_run_lem zero k h = absurd (omega arith)
  in_run_lem (suc t) zero h = refl
  in_run_lem (suc t) (suc k) h = in_run_lem t k (omega arith)

  past_run : (t k : ℕ) → t ≤ k → get_or (replicate t m ++ ms) k Swap ≡ get_or ms (k - t) Swap
  past_run zero k h = rw sub-zero
  past_run (suc t) zero h = absurd (omega arith)
  past_run (suc t) (suc k) h = rw suc-sub-suc (past_run t k (omega arith))

  -- and the first k
  pub take_in_run : (t k : ℕ) → k ≤ t → take k (replicate t m ++ ms) ≡ replicate k m ++ []
  take_in_run t zero h = refl
  take_in_run zero (suc k) h = absurd (omega arith)
  take_in_run (suc t) (suc k) h = ap (λ (l : List Move). m ∷ l) (take_in_run t k (omega arith))

  pub take_past_run : (t k : ℕ) → t ≤ k → take k (replicate t m ++ ms) ≡ replicate t m ++ take (k - t) ms
  take_past_run zero k h = rw sub-zero
  take_past_run (suc t) zero h = absurd (omega arith)
  take_past_run (suc t) (suc k) h = rw suc-sub-suc (ap (λ (l : List Move). m ∷ l) (take_past_run t k (omega arith)))

swaps_run : (m : Move) (t : ℕ) (ms : List Move) (swaps : ℕ) → swaps_after (replicate t m ++ ms) swaps ≡ swaps_after ms (swaps + swaps_in m t)
swaps_run m zero ms swaps = ap (swaps_after ms) (omega (arith, few_swaps m 0))
swaps_run Swap (suc t) ms swaps = swaps_run Swap t ms (suc swaps) ∙ ap (swaps_after ms) (omega arith)
swaps_run (Electronic w) (suc t) ms swaps = swaps_run (Electronic w) t ms swaps

pub turn_step : (rs : List Run) (swaps k : ℕ) → get_or (moves rs) k Swap ≡ (turn_in rs swaps k).step
turn_step [] swaps k = refl
turn_step (r ∷ rs) swaps k =
    elim (dec_lt k r.times) [
      | yes h ↦ in_run_lem r.step (moves rs) r.times k h ∙ sym (ap (λ (x : Turn). x.step) (turn_here r rs swaps k h))
      | no h ↦
          past_run r.step (moves rs) r.times k (omega arith)
          ∙ turn_step rs (swaps + swaps_in r.step r.times) (k - r.times)
          ∙ sym (ap (λ (x : Turn). x.step) (turn_past r rs swaps k (omega arith)))
    ]

pub turn_swaps : (rs : List Run) (swaps k : ℕ) → swaps_after (take k (moves rs)) swaps ≡ (turn_in rs swaps k).swaps
turn_swaps [] swaps zero = refl
turn_swaps [] swaps (suc k) = refl
turn_swaps (r ∷ rs) swaps k =
    elim (dec_lt k r.times) [
      | yes h ↦
          ap (λ (ms : List Move). swaps_after ms swaps) (take_in_run r.step (moves rs) r.times k (omega arith))
          ∙ swaps_run r.step k [] swaps
          ∙ sym (ap (λ (x : Turn). x.swaps) (turn_here r rs swaps k h))
      | no h ↦
          ap (λ (ms : List Move). swaps_after ms swaps) (take_past_run r.step (moves rs) r.times k (omega arith))
          ∙ swaps_run r.step r.times (take (k - r.times) (moves rs)) swaps
          ∙ turn_swaps rs (swaps + swaps_in r.step r.times) (k - r.times)
          ∙ sym (ap (λ (x : Turn). x.swaps) (turn_past r rs swaps k (omega arith)))
    ]

-- how many moves of runs there are
abbrev pub times_of : List Run → ℕ
times_of [] = 0
times_of (r ∷ rs) = r.times + times_of rs

pub times_moves : (rs : List Run) → length (moves rs) ≡ times_of rs
times_moves [] = refl
times_moves (r ∷ rs) = length-append (replicate r.times r.step) (moves rs) ∙ ap₂ (λ (a b : ℕ). a + b) (length-replicate r.times r.step) (times_moves rs)

-- how many moves of its run were made before move k
abbrev pub done_in : List Run → ℕ → ℕ
done_in [] k = 0
done_in (r ∷ rs) k = cond (ltb k r.times) k (done_in rs (k - r.times))

-- runs backwards, each turned round, before others
abbrev turned_run : Run → Run
turned_run r = record { step = turned r.step; times = r.times }

abbrev pub back_onto : List Run → List Run → List Run
back_onto [] ys = ys
back_onto (r ∷ rs) ys = back_onto rs (turned_run r ∷ ys)

swaps-turned : (m : Move) (t : ℕ) → swaps_in (turned m) t ≡ swaps_in m t
swaps-turned Swap t = refl
swaps-turned (Electronic w) t = refl

swaps_around : (m : Move) (t k : ℕ) → k < t → swaps_in m k + swaps_in (turned m) (t - suc k) + swaps_in m 1 ≡ swaps_in m t
swaps_around Swap t k h = omega arith
swaps_around (Electronic w) t k h = refl

-- past all of them
turn_behind : (rs ys : List Run) (a j : ℕ) → turn_in (back_onto rs ys) a (times_of rs + j) ≡ turn_in ys (a + swaps rs) j
turn_behind [] ys a j = ap₂ (turn_in ys) (omega arith) (omega arith)
turn_behind (r ∷ rs) ys a j =
    ap (turn_in (back_onto rs (turned_run r ∷ ys)) a) (omega arith)
    ∙ turn_behind rs (turned_run r ∷ ys) a (r.times + j)
    ∙ turn_past (turned_run r) ys (a + swaps rs) (r.times + j) (omega arith)
    ∙ ap₂ (turn_in ys) (omega (arith, swaps-turned r.step r.times)) (omega arith)

-- a move that undoes a move of which so many of the run were made: it is turned round, and as many of its run remain, with itself
pub record Undoes (x : Turn) (done total : ℕ) (y : Turn) : Type 0 where
  pub step : y.step ≡ turned x.step
  pub remaining : y.remaining ≡ suc done
  pub swaps : x.swaps + y.swaps + swaps_in x.step 1 ≡ total

-- move k of runs is undone by the move of the runs backwards that has as many moves before it as move k has behind
pub turn_back : (rs ys : List Run) (a b k k' total : ℕ) → k + suc k' ≡ times_of rs → total ≡ a + b + swaps rs
    → Undoes (turn_in rs a k) (done_in rs k) total (turn_in (back_onto rs ys) b k')
turn_back [] ys a b k k' total e f = absurd (omega arith)
turn_back (r ∷ rs) ys a b k k' total e f =
    let back = turned_run r in
    let j = r.times - suc k in
    elim (dec_lt k r.times) [
      | yes h ↦
          let g : turn_in (back_onto rs (back ∷ ys)) b k' ≡ in_run back (b + swaps rs) j =
          ap (turn_in (back_onto rs (back ∷ ys)) b) (omega arith) ∙ turn_behind rs (back ∷ ys) b j ∙ turn_here back ys (b + swaps rs) j (omega arith) in
          rw (lt-ltb k r.times h, g)
          (record { step = refl; remaining = omega arith; swaps = omega (arith, swaps_around r.step r.times k h) })
      | no h ↦
          rw (le-ltb k r.times (omega arith))
          (turn_back rs (back ∷ ys) (a + swaps_in r.step r.times) b (k - r.times) k' total (omega arith) (omega arith))
    ]
