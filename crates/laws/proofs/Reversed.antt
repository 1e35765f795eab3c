-- A list of equal elements, mapped and reversed.
use Prim.Native.Nat.{ℕ, zero, suc}
use mathlib.Core.Path.{◌≡◌, refl, ap, ◌∙◌}
use mathlib.Core.List.{[], ◌∷◌, ◌++◌, map, reverse, reverse-cons}
use native.Mathlib.Numerals.{add-one}
use lib.ListN.{replicate, replicate-append-replicate}

pub map-replicate : {A B : Type 0} (f : A → B) (n : ℕ) (x : A) → map f (replicate n x) ≡ replicate n (f x)
map-replicate f zero x = refl
map-replicate f (suc n) x = ap (λ l. f x ∷ l) (map-replicate f n x)

pub reverse-replicate : {A : Type 0} (n : ℕ) (x : A) → reverse (replicate n x) ≡ replicate n x
reverse-replicate zero x = refl
reverse-replicate (suc n) x =
    reverse-cons x (replicate n x) ∙ ap (λ l. l ++ (x ∷ [])) (reverse-replicate n x)
    ∙ replicate-append-replicate n 1 x ∙ ap (λ (k : ℕ). replicate k x) (add-one n)
