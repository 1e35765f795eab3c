-- A cell holds exactly the records k with P k, of which there are at most two, in the order of k. A cell of which some records are taken, and a cell that others come into.
use Prim.Native.Nat.{ℕ, ◌<◌}
use mathlib.Core.Path.{◌≡◌, refl, sym, ap, ap₂, ◌∙◌}
use mathlib.Core.Logic.{◌⊎◌, inl, inr, ⊎_elim}
use mathlib.Core.Bool.{Bool, true, false}
use native.Mathlib.Omega.{arith}
use borrow.Author.Tests.{lt-ltb, le-ltb}
use Rattle.laws.proofs.Bools.{never}
use Rattle.laws.proofs.Deciding.{apart}
use Rattle.slots.specs.declared.Rec.{Rec}
use Rattle.slots.specs.declared.Cell.{Cell}
use Rattle.slots.specs.Cells.{nothing, empty, alone, joined}

abbrev cell_with : Rec → Rec → Cell
cell_with x y = record { front = x; spare = y }

pub data Holds (R : ℕ → Rec) (P : ℕ → Type 0) (c : Cell) : Type 0 where
  hold0 : c ≡ empty → ((k : ℕ) → P k → ⊥) → Holds R P c
  hold1 : (i : ℕ) → c ≡ cell_with (R i) nothing → P i → ((k : ℕ) → P k → k ≡ i) → Holds R P c
  hold2 : (i j : ℕ) → c ≡ cell_with (R i) (R j) → i < j → P i → P j → ((k : ℕ) → P k → (k ≡ i) ⊎ (k ≡ j)) → Holds R P c

-- the same records under another name
pub same_holds : {R : ℕ → Rec} {P Q : ℕ → Type 0} {c : Cell} → ((k : ℕ) → P k → Q k) → ((k : ℕ) → Q k → P k) → Holds R P c → Holds R Q c
same_holds f g (hold0 e n) = hold0 e (λ k q. n k (g k q))
same_holds f g (hold1 i e p n) = hold1 i e (f i p) (λ k q. n k (g k q))
same_holds f g (hold2 i j e l p q n) = hold2 i j e l (f i p) (f j q) (λ k r. n k (g k r))

-- a cell is known by its records
pub holds_one : {R : ℕ → Rec} {P : ℕ → Type 0} {c d : Cell} → Holds R P c → Holds R P d → c ≡ d
holds_one (hold0 e n) (hold0 e' n') = e ∙ sym e'
holds_one (hold0 e n) (hold1 i e' p n') = absurd (n i p)
holds_one (hold0 e n) (hold2 i j e' l p q n') = absurd (n i p)
holds_one (hold1 i e p n) (hold0 e' n') = absurd (n' i p)
holds_one {R} (hold1 i e p n) (hold1 i' e' p' n') = e ∙ ap (λ (k : ℕ). cell_with (R k) nothing) (n' i p) ∙ sym e'
holds_one (hold1 i e p n) (hold2 i' j' e' l p' q' n') = absurd (omega (arith, n i' p', n j' q'))
holds_one (hold2 i j e l p q n) (hold0 e' n') = absurd (n' i p)
holds_one (hold2 i j e l p q n) (hold1 i' e' p' n') = absurd (omega (arith, n' i p, n' j q))
holds_one {R} (hold2 i j e l p q n) (hold2 i' j' e' l' p' q' n') = e ∙ ap₂ (λ (a b : ℕ). cell_with (R a) (R b)) ii jj ∙ sym e'
  where
    ii : i ≡ i'
    ii = ⊎_elim (λ a. a) (λ a. ⊎_elim (λ b. omega arith) (λ b. omega arith) (n' j q)) (n' i p)

    jj : j ≡ j'
    jj = ⊎_elim (λ a. ⊎_elim (λ b. omega arith) (λ b. omega arith) (n' i p)) (λ a. a) (n' j q)

-- a cell with only some of its records, those in front where there is one
abbrev pub only : Bool → Bool → Cell → Cell
only true true c = c
only true false c = alone c.front
only false true c = alone c.spare
only false false c = empty

-- those of a cell's records that pass a test
only_none : (a b : Bool) → only a b empty ≡ empty
only_none true true = refl
only_none true false = refl
only_none false true = refl
only_none false false = refl

module _ (g : Rec → Bool) where
  passing : {c : Cell} {x y : Rec} {a b : Bool} → c ≡ cell_with x y → g x ≡ a → g y ≡ b → only (g c.front) (g c.spare) c ≡ only a b (cell_with x y)
  passing e u v = rw (e, u, v)

  pub passes : {R : ℕ → Rec} {P : ℕ → Type 0} {c : Cell} → Holds R P c → Holds R (λ k. P k × (g (R k) ≡ true)) (only (g c.front) (g c.spare) c)
  passes (hold0 e n) = hold0 (passing e refl refl ∙ only_none (g nothing) (g nothing)) (λ k q. n k q.0)
  passes {R} {P} {c} (hold1 i e p n) = go (g (R i)) refl (g nothing) refl
    where
      go : (a : Bool) → g (R i) ≡ a → (b : Bool) → g nothing ≡ b → Holds R (λ k. P k × (g (R k) ≡ true)) (only (g c.front) (g c.spare) c)
      go true u true v = hold1 i (passing e u v) (p, u) (λ k q. n k q.0)
      go true u false v = hold1 i (passing e u v) (p, u) (λ k q. n k q.0)
      go false u true v = hold0 (passing e u v) (λ k q. never (rw (n k q.0) at q.1) u)
      go false u false v = hold0 (passing e u v) (λ k q. never (rw (n k q.0) at q.1) u)
  passes {R} {P} {c} (hold2 i j e l p q n) = go (g (R i)) refl (g (R j)) refl
    where
      go : (a : Bool) → g (R i) ≡ a → (b : Bool) → g (R j) ≡ b → Holds R (λ k. P k × (g (R k) ≡ true)) (only (g c.front) (g c.spare) c)
      go true u true v = hold2 i j (passing e u v) l (p, u) (q, v) (λ k r. n k r.0)
      go true u false v = hold1 i (passing e u v) (p, u) (λ k r. ⊎_elim (λ d. d) (λ d. absurd (never (rw d at r.1) v)) (n k r.0))
      go false u true v = hold1 j (passing e u v) (q, v) (λ k r. ⊎_elim (λ d. absurd (never (rw d at r.1) u)) (λ d. d) (n k r.0))
      go false u false v = hold0 (passing e u v) (λ k r. ⊎_elim (λ d. never (rw d at r.1) u) (λ d. never (rw d at r.1) v) (n k r.0))

pub join_none : (c : Cell) → joined c nothing ≡ c
unfolding joined
join_none c = refl

-- records put into a cell, where at most two have room: those with S k
module _ (R : ℕ → Rec) (b : ℕ) (marked : (k : ℕ) → k < b → (R k).mark ≡ 1) (rising : (i j : ℕ) → i < j → j < b → (R i).aim < (R j).aim)
    (S : ℕ → Type 0) (below : (k : ℕ) → S k → k < b) (few : (i j k : ℕ) → i < j → j < k → S i → S j → S k → ⊥) where
  join_empty : {c : Cell} (k : ℕ) → S k → c ≡ empty → joined c (R k) ≡ cell_with (R k) nothing
  unfolding joined
  join_empty k s e = rw e (rw (marked k (below k s)))

  join_after : {c : Cell} (i k : ℕ) → i < k → S i → S k → c ≡ cell_with (R i) nothing → joined c (R k) ≡ cell_with (R i) (R k)
  unfolding joined
  join_after i k l r s e = rw e (rw (marked k (below k s), marked i (below i r), le-ltb (R k).aim (R i).aim (omega (arith, rising i k l (below k s)))))

  join_before : {c : Cell} (i k : ℕ) → k < i → S i → S k → c ≡ cell_with (R i) nothing → joined c (R k) ≡ cell_with (R k) (R i)
  unfolding joined
  join_before i k l r s e = rw e (rw (marked k (below k s), marked i (below i r), lt-ltb (R k).aim (R i).aim (rising k i l (below i r))))

  -- one record
  pub joins : {P : ℕ → Type 0} {c : Cell} (k : ℕ) → S k → (P k → ⊥) → ((i : ℕ) → P i → S i) → Holds R P c → Holds R (λ i. P i ⊎ (i ≡ k)) (joined c (R k))
  joins k s d in_p (hold0 e n) = hold1 k (join_empty k s e) (inr refl) (λ i. ⊎_elim (λ p. absurd (n i p)) (λ q. q))
  joins {P} {c} k s d in_p (hold1 i e p n) = ⊎_elim later (λ l. ⊎_elim sooner (λ l'. absurd (meet (omega arith))) (apart k i)) (apart i k)
    where
      meet : k ≡ i → ⊥
      meet f = d (rw f p)

      later : i < k → Holds R (λ i. P i ⊎ (i ≡ k)) (joined c (R k))
      later l = hold2 i k (join_after i k l (in_p i p) s e) l (inl p) (inr refl) (λ j. ⊎_elim (λ r. inl (n j r)) (λ r. inr r))

      sooner : k < i → Holds R (λ i. P i ⊎ (i ≡ k)) (joined c (R k))
      sooner l = hold2 k i (join_before i k l (in_p i p) s e) l (inr refl) (inl p) (λ j. ⊎_elim (λ r. inr (n j r)) (λ r. inl r))
  joins {P} k s d in_p (hold2 i j e l p q n) =
      absurd
      (⊎_elim
      (λ u. few k i j u l s (in_p i p) (in_p j q))
      (λ u.
      ⊎_elim
      (λ v. few i k j (omega (arith, other i p)) v (in_p i p) s (in_p j q))
      (λ v. few i j k l (omega (arith, other j q)) (in_p i p) (in_p j q) s)
      (apart k j))
      (apart k i))
    where
      other : (h : ℕ) → P h → k ≡ h → ⊥
      other h p f = d (rw f p)

  -- both records of another cell
  pub joins_both : {P Q : ℕ → Type 0} {c x : Cell} → ((k : ℕ) → P k → Q k → ⊥) → ((k : ℕ) → P k → S k) → ((k : ℕ) → Q k → S k)
      → Holds R P c → Holds R Q x → Holds R (λ k. P k ⊎ Q k) (joined (joined c x.front) x.spare)
  joins_both {c = c} d in_p in_q z (hold0 e n) = rw (e, join_none c, join_none c) (same_holds (λ k p. inl p) (λ k. ⊎_elim (λ p. p) (λ q. absurd (n k q))) z)
  joins_both {c = c} d in_p in_q z (hold1 i e q n) =
      rw (e, join_none (joined c (R i)))
      (same_holds (λ k. ⊎_elim (λ p. inl p) (λ f. inr (rw f q))) (λ k. ⊎_elim (λ p. inl p) (λ q. inr (n k q))) (joins i (in_q i q) (λ p. d i p q) in_p z))
  joins_both {P} {Q} d in_p in_q z (hold2 i j e l q r n) =
      rw e
      (same_holds
      (λ k. ⊎_elim (λ u. ⊎_elim (λ p. inl p) (λ f. inr (rw f q)) u) (λ f. inr (rw f r)))
      (λ k. ⊎_elim (λ p. inl (inl p)) (λ u. ⊎_elim (λ f. inl (inr f)) (λ f. inr f) (n k u)))
      (joins {P = λ k. P k ⊎ (k ≡ i)} j (in_q j r) (⊎_elim (λ p. d j p r) (λ f. omega arith)) (λ k. ⊎_elim (in_p k) (λ f. rw f (in_q i q)))
      (joins i (in_q i q) (λ p. d i p q) in_p z)))
