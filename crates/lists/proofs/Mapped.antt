-- An array mapped by a closure that changes nothing it captured: entry by entry what the closure computes.
use Prim.Native.Nat.{ℕ, zero, suc, ◌+◌, ◌<◌, ◌≤◌}
use mathlib.Core.Path.{◌≡◌, sym, ap, subst, ◌∙◌}
use mathlib.Core.Logic.{◌⊎◌, inl, inr, ⊎_elim}
use mathlib.Core.List.{List, map}
use native.Mathlib.Omega.{arith}
use denote.Param.Members.{Mut}
use lib.ListN.{length, get_or, length-map, get_or-map}
use lib.Seq.{ext_get_or}
use Rattle.laws.proofs.Deciding.{apart}
use Rattle.std.specs.Array.{MapsFrom, IsMapOf}
use Rattle.std.specs.Fn.{Called}

module _ {F A B : Type 0} (g : Mut F (A × Unit {0}) B) (f : F) (h : A → B)
    (computes : (x : A) (y : B) (q : F) → Called g f (x, tt) y q → (q ≡ f) × (y ≡ h x)) (d : A) (xs : List A) (ys : List B) where
  each_is : (n i : ℕ) → MapsFrom g f xs ys i n → (k : ℕ) → i ≤ k → k < i + n → get_or ys k (h d) ≡ h (get_or xs k d)
  each_is zero i m k l u = absurd (omega arith)
  each_is (suc n) i (q, x, y, at, to, called, rest) k l u =
      let same = computes x y q called in
      ⊎_elim
      (λ b. each_is n (i + 1) (subst (λ (r : F). MapsFrom g r xs ys (i + 1) n) same.0 rest) k b (omega arith))
      (λ b.
      let e : k ≡ i = omega arith in
      rw e (to.1 (h d) ∙ same.1 ∙ ap h (sym (at.1 d))))
      (below k)
    where
      below : (j : ℕ) → (i + 1 ≤ j) ⊎ (j ≤ i)
      below j = ⊎_elim (λ a. inr (omega arith)) (λ a. inl a) (apart j (i + 1))

pub mapped : {F A B : Type 0} {g : Mut F (A × Unit {0}) B} {f : F} {xs : List A} {ys : List B} {n : ℕ} (m : IsMapOf g f xs ys n) (h : A → B) (d : A)
    → length xs ≡ n → ((x : A) (y : B) (q : F) → Called g f (x, tt) y q → (q ≡ f) × (y ≡ h x)) → ys ≡ map h xs
mapped {g = g} {f} {xs} {ys} {n} m h d e computes =
    ext_get_or (h d) ys (map h xs) (m.long ∙ sym e ∙ sym (length-map xs h))
    (λ k l. each_is g f h computes d xs ys n 0 m.each k (omega arith) (omega (arith, m.long)) ∙ sym (get_or-map h xs k d))
