-- Records and cells of lanes: equal by their numbers, and after a store.
use Prim.Native.Nat.{ℕ, ◌<◌}
use mathlib.Core.Path.{◌≡◌, refl, sym, ◌∙◌}
use mathlib.Core.Bool.{Bool, true, false, cond}
use mathlib.Core.List.{List}
use lib.ListN.{length, set}
use lib.Dec.{eqb}
use Rattle.laws.proofs.Setting.{get_or_stored}
use Rattle.slots.specs.declared.Rec.{Rec}
use Rattle.slots.specs.declared.Cell.{Cell}
use Rattle.slots.specs.Cells.{record_in}

-- a choice of records is a record of choices
cond_rec : (b : Bool) (x y : Rec) → cond b x y ≡ record { word = cond b x.word y.word; mark = cond b x.mark y.mark; aim = cond b x.aim y.aim }
cond_rec true x y = refl
cond_rec false x y = refl

-- two records are equal by their three numbers
pub rec_ext : {x y : Rec} → x.word ≡ y.word → x.mark ≡ y.mark → x.aim ≡ y.aim → x ≡ y
rec_ext p q r = λ d. record { word = p d; mark = q d; aim = r d }

-- two cells are equal by their six numbers
pub cell_ext : {x y : Cell} → x.front.word ≡ y.front.word → x.front.mark ≡ y.front.mark → x.front.aim ≡ y.front.aim
    → x.spare.word ≡ y.spare.word → x.spare.mark ≡ y.spare.mark → x.spare.aim ≡ y.spare.aim → x ≡ y
cell_ext p q r p₂ q₂ r₂ =
    λ d. record { front = record { word = p d; mark = q d; aim = r d }; spare = record { word = p₂ d; mark = q₂ d; aim = r₂ d } }

-- a slot after a store
pub rec_stored : (w m a : List ℕ) (i : ℕ) (x : Rec) (j : ℕ) → i < length w → i < length m → i < length a
    → record_in (set w i x.word) (set m i x.mark) (set a i x.aim) j ≡ cond (eqb j i) x (record_in w m a j)
rec_stored w m a i x j h k l =
    rec_ext (get_or_stored w i j x.word 0 h) (get_or_stored m i j x.mark 0 k) (get_or_stored a i j x.aim 0 l)
    ∙ sym (cond_rec (eqb j i) x (record_in w m a j))
