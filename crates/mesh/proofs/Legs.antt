-- The rule of a leg is one of a board, and a run of all groups is a run of the board.
use Prim.Native.Nat.{ℕ, zero, suc, ◌+◌, ◌*◌, ◌≤◌, ◌<◌}
use mathlib.Core.Path.{◌≡◌, refl, sym, ap, ◌∙◌}
use mathlib.Core.Logic.{◌⊎◌, inl, inr}
use mathlib.Core.Bool.{Bool, true, false, ◌||◌}
use native.Mathlib.Nat.{mul-pos, mul-le-mul}
use native.Mathlib.Omega.{arith}
use borrow.Author.Tests.{eq-eqb}
use Rattle.std.proofs.Math.Bool.{or-true}
use lib.Dec.{eqb}
use lib.ListN.{get_or, replicate}
use Rattle.array.specs.declared.moves.Way.{Way}
use Rattle.array.specs.declared.moves.Way.TheVariants.{Right, Left, Up, Down}
use Rattle.array.specs.Cells.{groups, cells, group, place}
use Rattle.array.proofs.Board.{Side, cell-group-place, place_in, group_in}
use Rattle.slots.specs.declared.Cell.{Cell}
use Rattle.mesh.specs.declared.Leg.{Leg}
use Rattle.array.specs.Moves.{stride_of}
use Rattle.mesh.specs.Mesh.{unit_of, line_rule_of, ran_on}
use Rattle.mesh.specs.Inside.{is_strided}
use Rattle.mesh.proofs.Spots.{ran-part}
use Rattle.mesh.proofs.Groups.{part_fits}

-- the digits of an aim are those of a number below 4,096
module _ {s : ℕ} (k : Side s) where
  pub stride-pos : (w : Way) → 0 < stride_of s w
  stride-pos Right = omega arith
  stride-pos Left = omega arith
  stride-pos Up = k.least
  stride-pos Down = k.least

  stride_few : (w : Way) → stride_of s w ≤ 8
  stride_few Right = omega arith
  stride_few Left = omega arith
  stride_few Up = k.most
  stride_few Down = k.most

  pub unit_pos : (low : Bool) (w : Way) → 0 < unit_of s low (stride_of s w)
  unit_pos true w = stride-pos w
  unit_pos false w = mul-pos (stride-pos w) k.groups-pos

  unit_few : (low : Bool) (w : Way) → unit_of s low (stride_of s w) ≤ 512
  unit_few true w = omega (arith, stride_few w)
  unit_few false w = mul-le-mul (stride_few w) k.groups_few

  pub period_few : (low : Bool) (w : Way) → (1 ≤ s * unit_of s low (stride_of s w)) × (s * unit_of s low (stride_of s w) ≤ 4096)
  period_few low w = (mul-pos k.least (unit_pos low w), mul-le-mul k.most (unit_few low w))

strided : (s : ℕ) (w : Way) → (stride_of s w ≡ 1) ⊎ (stride_of s w ≡ s)
strided s Right = inl refl
strided s Left = inl refl
strided s Up = inr refl
strided s Down = inr refl

-- the facts of the board's rule
pub strided_leg : (l : Leg) → is_strided (line_rule_of l) ≡ true
strided_leg l = go l.side l.way
  where
    go : (s : ℕ) (w : Way) → (eqb (stride_of s w) 1 || eqb (stride_of s w) s) ≡ true
    go s Right = refl
    go s Left = refl
    go s Up = rw (eq-eqb s s refl) (or-true (eqb s 1))
    go s Down = rw (eq-eqb s s refl) (or-true (eqb s 1))

-- a run looks at the cells of the board only
pub ran-same : (l : Leg) → 0 < l.side → (T U : ℕ → Cell) → ((i : ℕ) → i < cells l.side → T i ≡ U i) → (i : ℕ) → i < cells l.side → ran_on (line_rule_of l) T i ≡ ran_on (line_rule_of l) U i
ran-same l pos T U e i h =
    let N = groups l.side in
    let g = group l.side i in
    let p = place l.side i in
    let z = strided l.side l.way in
    let p< : p < N = place_in pos i in
    let fits : g * N + N ≤ N * N = part_fits N g (g * N) (group_in pos i h) refl in
    let is : g * N + p ≡ i = cell-group-place l.side i in
    ap (ran_on (line_rule_of l) T) (sym is)
    ∙ sym (ran-part (line_rule_of l) pos z g (λ k. T (g * N + k)) T (λ k u. refl) p p<)
    ∙ ran-part (line_rule_of l) pos z g (λ k. T (g * N + k)) U (λ k u. e (g * N + k) (omega (arith, fits))) p p<
    ∙ ap (ran_on (line_rule_of l) U) is

-- counts of nothing
pub no_counts : (n d : ℕ) → ◌≡◌ {A = ℕ} (get_or (replicate n 0) d 0) 0
no_counts zero d = refl
no_counts (suc n) zero = refl
no_counts (suc n) (suc d) = no_counts n d
