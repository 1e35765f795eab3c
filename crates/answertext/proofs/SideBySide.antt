-- A loop over two slices side by side, its turns numbered: where a turn's pair is in the slices, and how many turns there were.
use Rattle.std.proofs.Common.{◌≡◌, ℕ, ◌+◌, min, List, [], ◌∷◌, Option, Some, None, Iter, Bor, length, get_or, map, refl, ap, subst, arith}
use Rattle.std.specs.Iterator.{Yields}
use Rattle.std.specs.Iterator.Adapters.{zip_first, zip_second, enumerate_source, enumerate_count, enumerate_steps}
use Rattle.std.specs.Slice.Iter.{iter_rest}
use Rattle.std.specs.declared.iter.Enumerate.{Enumerate}
use Rattle.std.specs.declared.iter.Zip.{Zip}
use Rattle.std.proofs.iter.Yields.{fronts}
use Rattle.std.proofs.lemmas.Iterator.{zips}
use Rattle.std.proofs.lemmas.List.{length-map}
use Rattle.std.proofs.lemmas.Slice.Zip.{zip_turn, zip_end}

abbrev pub Walk : Type 0 → Type 0 → Type 0
Walk A B = Enumerate (Zip (Iter A) (Iter B))

abbrev pub Turn : Type 0 → Type 0 → Type 0
Turn A B = ℕ × (Bor A × Bor B)

module _ {A B : Type 0} where
  abbrev pub numbers : Walk A B → Option (Turn A B) → Walk A B → Type 0
  numbers = enumerate_steps (zips fronts fronts)

  -- the turns without their numbers
  unnumbered : (xs : List (Turn A B)) (s t : Walk A B) → Yields numbers s xs t
      → Yields (zips fronts fronts) (enumerate_source s) (map (λ p. p.1) xs) (enumerate_source t)
      × (enumerate_count t ≡ enumerate_count s + length xs)
  unnumbered [] s t y = (ap enumerate_source y, omega (arith, ap enumerate_count y))
  unnumbered (x ∷ xs) s t y = let k = unnumbered xs y.0 t y.2 in ((y.0.iter, y.1.0, k.0), omega (arith, y.1.2, k.1))

  module _ (ks : List A) (vs : List B) (xs : List (Turn A B)) (s t u : Walk A B) (r : Option (Turn A B))
      (start : enumerate_count s ≡ 0)
      (first : iter_rest (zip_first (enumerate_source s)) ≡ ks) (second : iter_rest (zip_second (enumerate_source s)) ≡ vs)
      (y : Yields numbers s xs t) where
    pub numbered_turn : (p : Turn A B) → r ≡ Some p → numbers t r u
        → (p.0 ≡ length xs) × ((d : A) → p.1.0.now ≡ get_or ks (length xs) d) × ((d : B) → p.1.1.now ≡ get_or vs (length xs) d)
    numbered_turn p e h =
        let k = unnumbered xs s t y in
        let g : numbers t (Some p) u = subst (λ o. numbers t o u) e h in
        let z = zip_turn ks vs _ (enumerate_source s) (enumerate_source t) (enumerate_source u) (Some p.1) first second k.0 p.1 refl g.0 in
        (omega (arith, g.1, k.1), rw length-map at z.2, rw length-map at z.3)

    pub numbered_end : r ≡ None → numbers t r u → length xs ≡ min (length ks) (length vs)
    numbered_end e h =
        let k = unnumbered xs s t y in
        let g : numbers t None u = subst (λ o. numbers t o u) e h in
        rw length-map at (zip_end ks vs _ (enumerate_source s) (enumerate_source t) (enumerate_source u) None first second k.0 refl g.0)
