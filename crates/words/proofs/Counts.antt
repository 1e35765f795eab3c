-- The counts that the entries answer where they accept, as the scope has them.
use Prim.Native.Nat.{ℕ, ◌+◌, ◌-◌, ◌*◌, ◌^◌, ◌≤◌, ◌<◌}
use mathlib.Core.Path.{◌≡◌, refl, ap, ◌∙◌}
use mathlib.Core.Bool.{true}
use native.Mathlib.Omega.{arith}
use lib.IntN.{ℤ}
use Rattle.shiftlists.specs.declared.Axis.{Axis}
use Rattle.shiftlists.specs.declared.Axis.TheVariants.{MeshRow, MeshColumn, GroupRow, GroupColumn}
use Rattle.shiftlists.specs.declared.Edge.{Edge}
use Rattle.shiftlists.specs.declared.Edge.TheVariants.{ZeroFill, Circular}
use Rattle.shiftlists.specs.declared.Distance.{Distance}
use Rattle.array.specs.Cells.{is_side, is_cell}
use Rattle.runs.specs.Runs.{electronic}
use Rattle.lists.specs.Lists.{broadcast_list, broadcast_runs, data_sum_runs, prefix_sum_runs}
use Rattle.shiftlists.specs.Shifts.{distance_of, within, circular_moves, forth_moves, back_moves, swaps_of, shift_list, shift_runs}
use Rattle.answers.specs.Answers.{accepted, accepted_by}
use Rattle.array.proofs.Board.{side_known, cell_known}
use Rattle.lists.proofs.Counts.{data_sum-electronic, prefix_sum-electronic, broadcast-electronic}
use Rattle.shiftlists.proofs.Counts.{zero_fill_electronic, circular_few, circular_electronic, shift-swaps}
use Rattle.shiftlists.proofs.Within.{within_known}
use Rattle.answers.proofs.Verdicts.{counted}

pub broadcast_counts : (s i : ℕ) → is_cell s i ≡ true → accepted_by (broadcast_runs s i) ≡ accepted (4 * (s - 1)) 1
broadcast_counts s i h =
    let b = cell_known s i h in
    let listed : broadcast_runs s i ≡ broadcast_list s i = rw h in
    ap accepted_by listed
    ∙ counted (broadcast_list s i) (4 * (s - 1)) 1 (broadcast-electronic b.side.least i b.inside) refl (omega (arith, b.side.most)) (omega arith)

pub data_sum_counts : (s : ℕ) → is_side s ≡ true → accepted_by (data_sum_runs s) ≡ accepted (8 * (s - 1)) 1
data_sum_counts s h = counted (data_sum_runs s) (8 * (s - 1)) 1 (data_sum-electronic s) refl (omega (arith, (side_known s h).most)) (omega arith)

-- of prefix sum, and of rank
pub prefix_sum_counts : (s : ℕ) → is_side s ≡ true → accepted_by (prefix_sum_runs s) ≡ accepted (7 * (s - 1)) 2
prefix_sum_counts s h = counted (prefix_sum_runs s) (7 * (s - 1)) 2 (prefix_sum-electronic s) refl (omega (arith, (side_known s h).most)) (omega arith)

-- how many electronic moves a shift makes
abbrev pub shift_electronic : Edge → ℕ → Distance → ℕ
shift_electronic ZeroFill s k = k.forth + k.back
shift_electronic Circular s k = circular_moves s k

shift-electronic : (s : ℕ) (axis : Axis) (edge : Edge) (k : Distance) → within s k ≡ true
    → electronic (shift_list axis (forth_moves edge s k) (back_moves edge s k)) ≡ shift_electronic edge s k
shift-electronic s axis ZeroFill k h = zero_fill_electronic s axis k
shift-electronic s axis Circular k h = circular_electronic s axis k h

shift_few : (s : ℕ) (edge : Edge) (k : Distance) → s ≤ 8 → within s k ≡ true → shift_electronic edge s k < 2 ^ 64
shift_few s ZeroFill k m h = omega (arith, within_known s k h)
shift_few s Circular k m h = omega (arith, circular_few s k)

swaps_few : (axis : Axis) → 2 * swaps_of axis < 2 ^ 64
swaps_few MeshRow = omega arith
swaps_few MeshColumn = omega arith
swaps_few GroupRow = omega arith
swaps_few GroupColumn = omega arith

pub shift_counts : (s : ℕ) (axis : Axis) (edge : Edge) (k : ℤ) → is_side s ≡ true → within s (distance_of k) ≡ true
    → accepted_by (shift_runs s axis edge k) ≡ accepted (shift_electronic edge s (distance_of k)) (2 * swaps_of axis)
shift_counts s axis edge k side h =
    let forth = forth_moves edge s (distance_of k) in
    let back = back_moves edge s (distance_of k) in
    let listed : shift_runs s axis edge k ≡ shift_list axis forth back = rw h in
    ap accepted_by listed
    ∙ counted (shift_list axis forth back) _ _ (shift-electronic s axis edge (distance_of k) h) (shift-swaps s axis (distance_of k) forth back)
    (shift_few s edge (distance_of k) (side_known s side).most h) (swaps_few axis)
