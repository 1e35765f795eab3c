-- Places of a stretch written one after the other, as far apart each time.
use Prim.Native.Nat.{ℕ, ◌+◌, ◌*◌, ◌<◌}
use mathlib.Core.Path.{◌≡◌, ◌∙◌}
use mathlib.Core.List.{List}
use native.Mathlib.Omega.{arith}
use native.Mathlib.Decide.{ℕ_discrete}
use native.Mathlib.Nat.{suc-mul, mul-le-mul_right}
use lib.ListN.{length, get_or, set, length-set}
use lib.Seq.{get_or-set_same, get_or-set_other}
use Rattle.lanes.specs.Inside.{Places, Apart, PlacesMade}

-- a later place is another one
further : (apart j k : ℕ) → 0 < apart → j < k → j * apart < k * apart
further apart j k h l = omega (arith, suc-mul j apart, mul-le-mul_right apart l)

module _ {first apart : ℕ} {P : ℕ → ℕ → Type 0} {old : List ℕ} where
  pub laid_next : {count k n : ℕ} {l : List ℕ} (v : ℕ) → Places first apart count n → length old ≡ n → k < count → P k v → PlacesMade first apart k P old l
      → PlacesMade first apart (k + 1) P old (set l (first + k * apart) v)
  laid_next {count} {k} {n} {l} v p e h q z = record {
    size = simp length-set z.size;
    done = λ j u. go j u (ℕ_discrete j k);
    kept = λ i u. get_or-set_other l (first + k * apart) i v 0 (u k (omega arith)) ∙ z.kept i (λ j t. u j (omega arith));
  }
    where
      go : (j : ℕ) → j < k + 1 → Dec (j ≡ k) → P j (get_or (set l (first + k * apart) v) (first + j * apart) 0)
      go j u (yes x) = rw (x, get_or-set_same l (first + k * apart) v 0 (omega (arith, z.size, e, p.inside k h))) q
      go j u (no x) =
          rw (get_or-set_other l (first + k * apart) (first + j * apart) v 0 (λ y. omega (arith, further apart j k p.on (omega arith), y))) (z.done j (omega arith))

  -- a place whose turn is still to come is as it was
  pub laid_ahead : {count k n : ℕ} {l : List ℕ} → Places first apart count n → PlacesMade first apart k P old l → get_or l (first + k * apart) 0 ≡ get_or old (first + k * apart) 0
  laid_ahead {count} {k} p z = z.kept (first + k * apart) (λ j u y. omega (arith, further apart j k p.on u, y))

  -- and so is one that is only read
  pub laid_behind : {from count k : ℕ} {l : List ℕ} → Apart first from apart count → k < count → PlacesMade first apart k P old l
      → get_or l (from + k * apart) 0 ≡ get_or old (from + k * apart) 0
  laid_behind {from} {count} {k} a h z = z.kept (from + k * apart) (λ i u. a.are k i h (omega arith))
