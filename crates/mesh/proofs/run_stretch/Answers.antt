-- `mesh::run_stretch` meets its contract: the lines of a group are those of its stretch.
use Prim.Native.Nat.{◌+◌, ◌-◌, ◌≤◌}
use mathlib.Core.Path.{◌≡◌, refl}
use native.Mathlib.Omega.{arith}
use Rattle.array.specs.Cells.{groups, cells}
use Rattle.slots.specs.Cells.{Sized}
use Rattle.mesh.proofs.Ruling.{known, strided}
use Rattle.mesh.proofs.Parts.{part_sized, part-ran}
use Rattle.mesh.proofs.run_stretch.Goals as goal

pub returns : goal.returns
returns c =
    let n = groups c.args.by.rule.side in
    let b = c.args.base in
    let g = c.run_group in
    let k : b + n - b ≡ n = omega arith in
    let f : b + (b + n - b) ≤ cells c.args.by.rule.side = omega (arith, c.requires.within) in
    let z = part_sized b (b + n - b) c.requires.long f in
    let y : Sized (b + n - b) g.new.words g.new.marks g.new.aims g.new.spare_words g.new.spare_marks g.new.spare_aims = omega (arith, z, g.auto) in
    part-ran c.args.by.rule (known c.args.by).least (strided c.args.by) c.requires.by_index.0 b (b + n - b) c.requires.long f k c.requires.by_index.1 y
    refl refl g.ensures
