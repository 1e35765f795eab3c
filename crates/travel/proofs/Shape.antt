-- The shape of a list that concentrates: two halves of electronic moves, each along rows and then along columns, and a swap behind each.
-- It can be undone if no half has two runs of one way.
use Prim.Native.Nat.{ℕ, zero, suc, ◌+◌, ◌-◌, ◌≤◌}
use mathlib.Core.Path.{◌≡◌, refl, sym, ◌∙◌}
use mathlib.Core.List.{List, [], ◌∷◌, ◌++◌}
use lib.ListN.{drop, replicate}
use native.Mathlib.Nat.{add-suc, zero-add, suc-add}
use native.Mathlib.Omega.{arith}
use Rattle.array.specs.declared.moves.Way.{Way}
use Rattle.array.specs.declared.moves.Way.TheVariants.{Right, Left, Up, Down}
use Rattle.array.specs.declared.moves.Move.{Move}
use Rattle.array.specs.declared.moves.Move.TheVariants.{Swap, Electronic}
use Rattle.runs.specs.declared.Run.{Run}
use Rattle.runs.specs.Runs.{moves, along}
use Rattle.lists.specs.Lists.{concentrate_runs}
use Rattle.travel.proofs.Walk.{Steps, no_steps, steps_to, onto, tally}

-- of the moves of a half none is up or down yet, or all are made right and left
pub data Straight (s : ℕ) (c : Steps) : Type 0 where
  in_rows : c.ups ≡ 0 → c.downs ≡ 0 → Straight s c
  in_columns : s ≤ suc c.rights → s ≤ suc c.lefts → Straight s c

-- the moves of a half take every record to its heading; in the second half none has to go down
pub record Full (s swaps : ℕ) (c : Steps) : Type 0 where
  pub rights : s ≤ suc c.rights
  pub lefts : s ≤ suc c.lefts
  pub ups : s ≤ suc c.ups
  pub downs : swaps ≡ 0 → s ≤ suc c.downs

-- a list that concentrates, where so many swaps and these moves of the half were made before it
abbrev pub Concentrates : ℕ → ℕ → Steps → List Move → Type 0
Concentrates s swaps c [] = swaps ≡ 2
Concentrates s swaps c (Swap ∷ ms) = (swaps ≤ 1) × Full s swaps c × Concentrates s (suc swaps) no_steps ms
Concentrates s swaps c (Electronic w ∷ ms) = (swaps ≤ 1) × Straight s (onto (Electronic w) c) × Concentrates s swaps (onto (Electronic w) c) ms

-- of the moves of a half so many are like this one
abbrev pub Like : Move → Steps → ℕ → Type 0
Like Swap c t = Unit {0}
Like (Electronic w) c t = steps_to w c ≡ t

-- runs of which each begins with no move like its own made in its half
abbrev pub Fresh : Steps → List Run → Type 0
Fresh c [] = Unit {0}
Fresh c (r ∷ rs) = Like r.step c 0 × Fresh (tally (replicate r.times r.step) c) rs

-- with n moves more one way
abbrev with_more : Way → ℕ → Steps → Steps
with_more Right n c = record { rights = n + c.rights; lefts = c.lefts; ups = c.ups; downs = c.downs }
with_more Left n c = record { rights = c.rights; lefts = n + c.lefts; ups = c.ups; downs = c.downs }
with_more Up n c = record { rights = c.rights; lefts = c.lefts; ups = n + c.ups; downs = c.downs }
with_more Down n c = record { rights = c.rights; lefts = c.lefts; ups = c.ups; downs = n + c.downs }

with_none_more : (w : Way) (c : Steps) → with_more w 0 c ≡ c
with_none_more Right c = rw zero-add
with_none_more Left c = rw zero-add
with_none_more Up c = rw zero-add
with_none_more Down c = rw zero-add

with_one_more : (w : Way) (n : ℕ) (c : Steps) → with_more w n (onto (Electronic w) c) ≡ with_more w (suc n) c
with_one_more Right n c = rw (add-suc n c.rights, suc-add n c.rights)
with_one_more Left n c = rw (add-suc n c.lefts, suc-add n c.lefts)
with_one_more Up n c = rw (add-suc n c.ups, suc-add n c.ups)
with_one_more Down n c = rw (add-suc n c.downs, suc-add n c.downs)

tally_run : (w : Way) (n : ℕ) (c : Steps) → tally (replicate n (Electronic w)) c ≡ with_more w n c
tally_run w zero c = sym (with_none_more w c)
tally_run w (suc n) c = tally_run w n (onto (Electronic w) c) ∙ with_one_more w n c

-- a run one way, and a list that concentrates once it is made
module _ {s swaps : ℕ} (few : swaps ≤ 1) (w : Way) (ms : List Move) where
  each : (n : ℕ) (c : Steps) → ((t : ℕ) → Straight s (tally (replicate t (Electronic w)) c)) → Concentrates s swaps (tally (replicate n (Electronic w)) c) ms
      → Concentrates s swaps c (replicate n (Electronic w) ++ ms)
  each zero c z rest = rest
  each (suc n) c z rest = (few, z 1, each n (onto (Electronic w) c) (λ t. z (suc t)) rest)

  a_run : (n : ℕ) (c : Steps) → ((t : ℕ) → Straight s (with_more w t c)) → Concentrates s swaps (with_more w n c) ms → Concentrates s swaps c (replicate n (Electronic w) ++ ms)
  a_run n c z rest = each n c (λ t. rw (tally_run w t c) (z t)) (rw (tally_run w n c) rest)

-- so concentrate's list has the shape
pub concentrates : (s : ℕ) → Concentrates s 0 no_steps (moves (concentrate_runs s))
concentrates s =
    let n = s - 1 in
    let one : 0 ≤ 1 = omega arith in
    let two : 1 ≤ 1 = omega arith in
    a_run one Right _ n _ (λ t. in_rows refl refl)
    (a_run one Left _ n _ (λ t. in_rows refl refl)
    (a_run one Up _ n _ (λ t. in_columns (omega arith) (omega arith))
    (a_run one Down _ n _ (λ t. in_columns (omega arith) (omega arith)) (
      one,
      omega arith,
      a_run two Right _ n _ (λ t. in_rows refl refl)
          (a_run two Left _ n _ (λ t. in_rows refl refl)
          (a_run two Up _ n _ (λ t. in_columns (omega arith) (omega arith))
          (two, omega arith, refl))),
    ))))

pub fresh : (s : ℕ) → Fresh no_steps (concentrate_runs s)
fresh s =
    let n = s - 1 in
    let a = with_more Right n no_steps in
    let b = with_more Left n a in
    let c = with_more Up n b in
    let half : (rs : List Run) → Fresh c rs → Fresh no_steps (along Right n ∷ along Left n ∷ along Up n ∷ rs) =
    λ rs f. (refl, rw (tally_run Right n no_steps) (refl, rw (tally_run Left n a) (refl, rw (tally_run Up n b) f))) in
    half (drop 3 (concentrate_runs s)) (refl, (tt, half (drop 8 (concentrate_runs s)) (tt, tt)))
