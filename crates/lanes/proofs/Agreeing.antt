-- States that agree on the board agree after a stage: what lies outside the board is never heard.
use Prim.Native.Nat.{ℕ, zero, suc, ◌<◌}
use mathlib.Core.Path.{◌≡◌, refl, ap, ap₂}
use mathlib.Core.Bool.{Bool, true, false, cond}
use mathlib.Core.Option.{Option, none, some}
use native.Mathlib.Omega.{arith}
use lib.Dec.{ltb}
use borrow.Author.Tests.{ltb-true}
use Rattle.array.specs.declared.moves.Way.TheVariants.{Right, Left, Up, Down}
use Rattle.array.specs.declared.moves.Move.{Move}
use Rattle.array.specs.declared.moves.Move.TheVariants.{Swap, Electronic}
use Rattle.lanes.specs.Machine.{State, Stage, from_before, from_after, receive, ran, all}

pub record Agree (s : ℕ) (σ τ : State ℕ) : Type 0 where
  pub are : (c d a b : ℕ) → c < s → d < s → a < s → b < s → σ c d a b ≡ τ c d a b

-- what comes along a line
before_same : (s : ℕ) (f g : ℕ → ℕ) → ((p : ℕ) → p < s → f p ≡ g p) → (p : ℕ) → p < s → from_before f p ≡ from_before g p
before_same s f g h zero u = refl
before_same s f g h (suc p) u = ap {B = Option ℕ} (λ x. some x) (h p (omega arith))

after_same : (s : ℕ) (f g : ℕ → ℕ) → ((p : ℕ) → p < s → f p ≡ g p) → (p : ℕ) → from_after s f p ≡ from_after s g p
after_same s f g h p = go (ltb (suc p) s) refl
  where
    go : (t : Bool) → ltb (suc p) s ≡ t → cond t (some (f (suc p))) none ≡ cond t (some (g (suc p))) none
    go true e = ap {B = Option ℕ} (λ x. some x) (h (suc p) (ltb-true (suc p) s e))
    go false e = refl

received_same : (s : ℕ) (m : Move) (σ τ : State ℕ) → Agree s σ τ → (c d a b : ℕ) → c < s → d < s → a < s → b < s → receive s m σ c d a b ≡ receive s m τ c d a b
received_same s Swap σ τ z c d a b hc hd ha hb = ap {B = Option ℕ} (λ x. some x) (z.are a b c d ha hb hc hd)
received_same s (Electronic Right) σ τ z c d a b hc hd ha hb = before_same s (σ c d a) (τ c d a) (λ p u. z.are c d a p hc hd ha u) b hb
received_same s (Electronic Left) σ τ z c d a b hc hd ha hb = after_same s (σ c d a) (τ c d a) (λ p u. z.are c d a p hc hd ha u) b
received_same s (Electronic Down) σ τ z c d a b hc hd ha hb = before_same s (λ i. σ c d i b) (λ i. τ c d i b) (λ p u. z.are c d p b hc hd u hb) a ha
received_same s (Electronic Up) σ τ z c d a b hc hd ha hb = after_same s (λ i. σ c d i b) (λ i. τ c d i b) (λ p u. z.are c d p b hc hd u hb) a

-- k moves of a stage, and all of them
ran-same : (s : ℕ) (t : Stage ℕ ℕ) (k : ℕ) {σ τ : State ℕ} → Agree s σ τ → Agree s (ran s t k σ) (ran s t k τ)
ran-same s t zero z = z
ran-same s t (suc k) {σ} {τ} z = record {
  are = λ c d a b hc hd ha hb.
      ap₂ (t.rule k c d a b) ((ran-same s t k z).are c d a b hc hd ha hb)
      (received_same s t.run.step _ _ (record { are = λ c d a b hc hd ha hb. ap t.send ((ran-same s t k z).are c d a b hc hd ha hb) }) c d a b hc hd ha hb);
}

pub all_same : (s : ℕ) (t : Stage ℕ ℕ) {σ τ : State ℕ} → Agree s σ τ → Agree s (all s t σ) (all s t τ)
all_same s t z = ran-same s t t.run.times z
