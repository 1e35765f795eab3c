-- One view of a state by itself: a number that is worked out of each cell's registers.
use Prim.Native.Nat.{ℕ, zero, suc}
use mathlib.Core.Path.{◌≡◌, refl, ap, ◌∙◌, fun_ext}
use mathlib.Core.Bool.{Bool, true, false, cond}
use mathlib.Core.Option.{Option, none, some, map}
use lib.Dec.{ltb, eqb}
use Rattle.array.specs.declared.moves.Way.{Way}
use Rattle.array.specs.declared.moves.Way.TheVariants.{Right, Left, Up, Down}
use Rattle.array.specs.declared.moves.Move.{Move}
use Rattle.array.specs.declared.moves.Move.TheVariants.{Swap, Electronic}
use Rattle.runs.specs.declared.Run.{Run}
use Rattle.runs.specs.Runs.{along}
use Rattle.lanes.specs.Machine.{State, Rule, Stage, from_before, receive, make, ran, all}
use Rattle.lanes.specs.Stages.{front, from, word, steps_on, position}

abbrev pub lane : {R : Type 0} → (R → ℕ) → State R → State ℕ
lane φ σ c d a b = φ (σ c d a b)

module _ {R : Type 0} (φ : R → ℕ) where
  got_if : (t : Bool) (x : R) → map φ (cond t (some x) none) ≡ cond t (some (φ x)) none
  got_if true x = refl
  got_if false x = refl

  got_before : (f : ℕ → R) (p : ℕ) → map φ (from_before f p) ≡ from_before (λ j. φ (f j)) p
  got_before f zero = refl
  got_before f (suc p) = refl

  -- what is received of a view is a view of what is received
  got_receive : (s : ℕ) (m : Move) (σ : State R) (c d a b : ℕ) → map φ (receive s m σ c d a b) ≡ receive s m (lane φ σ) c d a b
  got_receive s Swap σ c d a b = refl
  got_receive s (Electronic Right) σ c d a b = got_before (σ c d a) b
  got_receive s (Electronic Left) σ c d a b = got_if (ltb (suc b) s) (σ c d a (suc b))
  got_receive s (Electronic Up) σ c d a b = got_if (ltb (suc a) s) (σ c d (suc a) b)
  got_receive s (Electronic Down) σ c d a b = got_before (λ i. σ c d i b) a

-- the word that is handed on runs as if it were alone, where what a cell hands on next needs only what it handed on and what it received
module _ {R : Type 0} (φ : R → ℕ) (m : Run) (ρ : ℕ → Rule R ℕ) (ρ' : ℕ → Rule ℕ ℕ)
    (alone : (k c d a b : ℕ) (o : R) (x : Option R) → φ (ρ k c d a b o (map φ x)) ≡ ρ' k c d a b (φ o) (map φ x)) where
  pub ran_view : (s k : ℕ) (σ : State R)
      → lane φ (ran s (record { run = m; send = φ; rule = ρ }) k σ) ≡ ran s (record { run = m; send = word; rule = ρ' }) k (lane φ σ)
  ran_view s zero σ = refl
  ran_view s (suc k) σ =
      fun_ext (λ c. fun_ext (λ d. fun_ext (λ a. fun_ext (λ b. one c d a b))))
      ∙ ap (make s m.step word (ρ' k)) (ran_view s k σ)
    where
      τ : State R
      τ = ran s (record { run = m; send = φ; rule = ρ }) k σ

      one : (c d a b : ℕ) → φ (ρ k c d a b (τ c d a b) (receive s m.step (lane φ τ) c d a b)) ≡ ρ' k c d a b (φ (τ c d a b)) (receive s m.step (lane φ τ) c d a b)
      one c d a b = rw (← got_receive φ s m.step τ c d a b) (alone k c d a b (τ c d a b) (receive s m.step τ c d a b))

-- a run of fronts, seen by what it hands on
module _ {R : Type 0} (φ : R → ℕ) (op : R → ℕ → R) (op' : ℕ → ℕ → ℕ) (alone : (o g : R) → φ (op o (φ g)) ≡ op' (φ o) (φ g)) where
  front_view : (q p : ℕ) (o : R) (x : Option R) → φ (front op q p o (map φ x)) ≡ front op' q p (φ o) (map φ x)
  unfolding front
  front_view q p o none = refl
  front_view q p o (some g) = go (eqb p q)
    where
      go : (t : Bool) → φ (cond t (op o (φ g)) o) ≡ cond t (op' (φ o) (φ g)) (φ o)
      go true = alone o g
      go false = refl

  pub from_view : (s : ℕ) (w : Way) (e n : ℕ) {σ : State R} {τ : State ℕ} → lane φ σ ≡ τ
      → lane φ (all s (from w φ op e n) σ) ≡ all s (from w word op' e n) τ
  from_view s w e n {σ} h =
      ran_view φ (along w n) (from {R = R} {A = ℕ} w φ op e n).rule (from w word op' e n).rule (λ k c d a b. front_view (steps_on w e (suc k)) (position w a b)) s n σ ∙ ap (all s (from w word op' e n)) h

-- what every turn of a cell keeps, a run keeps
pub ran_keeps : {R A : Type 0} (P : R → Type 0) (s : ℕ) (t : Stage R A) (σ : State R) (c d a b : ℕ)
    → ((k : ℕ) (o : R) (x : Option A) → P o → P (t.rule k c d a b o x)) → P (σ c d a b) → (k : ℕ) → P (ran s t k σ c d a b)
ran_keeps P s t σ c d a b h p zero = p
ran_keeps P s t σ c d a b h p (suc k) = h k _ _ (ran_keeps P s t σ c d a b h p k)

-- so does a run of fronts what every joining keeps
module _ {R A : Type 0} (P : R → Type 0) (op : R → A → R) (keeps : (o : R) (x : A) → P o → P (op o x)) where
  front_keeps : (q p : ℕ) (o : R) (x : Option A) → P o → P (front op q p o x)
  unfolding front
  front_keeps q p o none l = l
  front_keeps q p o (some x) l = go (eqb p q)
    where
      go : (t : Bool) → P (cond t (op o x) o)
      go true = keeps o x l
      go false = l

  pub from_keeps : (send : R → A) (s : ℕ) (w : Way) (e n : ℕ) (σ : State R) (c d a b : ℕ) → P (σ c d a b) → P (all s (from w send op e n) σ c d a b)
  from_keeps send s w e n σ c d a b p =
      ran_keeps P s (from w send op e n) σ c d a b (λ k. front_keeps (steps_on w e (suc k)) (position w a b)) p n

-- and a view that no joining changes stays
pub from_stays : {R : Type 0} (φ : R → ℕ) (send : R → ℕ) (op : R → ℕ → R) → ((o : R) (x : ℕ) → φ (op o x) ≡ φ o)
    → (s : ℕ) (w : Way) (e n : ℕ) {σ : State R} {τ : State ℕ} → lane φ σ ≡ τ → lane φ (all s (from w send op e n) σ) ≡ τ
from_stays φ send op h s w e n {σ} l =
    fun_ext (λ c. fun_ext (λ d. fun_ext (λ a. fun_ext (λ b.
    from_keeps (λ o. φ o ≡ φ (σ c d a b)) op (λ o x p. h o x ∙ p) send s w e n σ c d a b refl)))) ∙ l
