-- The starred bench cases, shown for the definitions together: by the results and by the moves the rows are those expected.
use mathlib.Core.Path.{◌≡◌, refl}
use mathlib.Core.List.{[], ◌∷◌, map}
use Rattle.stars.specs.Cases.{cases}
use Rattle.stars.specs.Rows.{standing, moving, result_row, moved_row}
use Rattle.stars.specs.Expected.{expected}

pub stars : map result_row cases ∷ map moved_row cases ∷ [] ≡ expected ∷ expected ∷ []
unfolding standing moving moved_row
stars = refl
