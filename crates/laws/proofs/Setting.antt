-- What a list holds after a store.
use Prim.Native.Nat.{ℕ, ◌<◌}
use mathlib.Core.Path.{◌≡◌, refl}
use mathlib.Core.Bool.{Bool, true, false, cond}
use mathlib.Core.List.{List}
use borrow.Author.Tests.{eqb-true, eqb-false}
use lib.ListN.{length, get_or, set}
use lib.Seq.{get_or-set_same, get_or-set_other}
use lib.Dec.{eqb}

pub get_or_stored : {A : Type 0} (l : List A) (i j : ℕ) (v d : A) → i < length l → get_or (set l i v) j d ≡ cond (eqb j i) v (get_or l j d)
get_or_stored l i j v d h = go (eqb j i) refl
  where
    go : (b : Bool) → eqb j i ≡ b → get_or (set l i v) j d ≡ cond b v (get_or l j d)
    go true e = rw (eqb-true j i e) (get_or-set_same l i v d h)
    go false e = get_or-set_other l i j v d (eqb-false j i e)
