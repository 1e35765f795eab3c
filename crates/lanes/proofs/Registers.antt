-- A program whose stages keep the registers as they have to be keeps them so after every single move.
use Prim.Native.Nat.{ℕ, zero, suc, ◌-◌}
use mathlib.Core.Bool.{Bool, true, false, cond}
use mathlib.Core.Option.{Option, none, some}
use mathlib.Core.List.{List, [], ◌∷◌, ◌++◌}
use native.Mathlib.Omega.{arith}
use lib.Dec.{ltb, eqb}
use Rattle.array.specs.declared.moves.Way.{Way}
use Rattle.array.specs.declared.moves.Way.TheVariants.{Right, Left, Up, Down}
use Rattle.array.specs.declared.moves.Move.{Move}
use Rattle.array.specs.declared.moves.Move.TheVariants.{Swap, Electronic}
use Rattle.sums.specs.Sums.{plus, minus}
use Rattle.lanes.specs.Machine.{State, Stage, from_before, receive, ran, all}
use Rattle.lanes.specs.Stages.{position, steps_on, front, from, taking, light, word, copy}
use Rattle.lanes.specs.Registers.{IsWord, after_moves, handed_on, IfAny, Registers}

-- a stage hands on what is Fit of registers that are Good, and makes Good registers of them
pub record Keeps {R A : Type 0} (Good : R → Type 0) (Fit : A → Type 0) (t : Stage R A) : Type 0 where
  pub sends : (o : R) → Good o → Fit (t.send o)
  pub turns : (k c d a b : ℕ) (o : R) (got : Option A) → Good o → IfAny Fit got → Good (t.rule k c d a b o got)

-- all stages of a program do
abbrev EachKeeps : {R A : Type 0} → (R → Type 0) → (A → Type 0) → List (Stage R A) → Type 0
EachKeeps Good Fit [] = Unit {0}
EachKeeps Good Fit (t ∷ ts) = Keeps Good Fit t × EachKeeps Good Fit ts

pub record KeepAll {R A : Type 0} (Good : R → Type 0) (Fit : A → Type 0) (ts : List (Stage R A)) : Type 0 where
  each : EachKeeps Good Fit ts

module _ {R A : Type 0} {Good : R → Type 0} {Fit : A → Type 0} where
  pub no_more : KeepAll Good Fit []
  no_more = record { each = tt }

  infixr 67 ◌and◌
  pub ◌and◌ : {t : Stage R A} {ts : List (Stage R A)} → Keeps Good Fit t → KeepAll Good Fit ts → KeepAll Good Fit (t ∷ ts)
  z and w = record { each = (z, w.each) }

  pub first_keeps : {t : Stage R A} {ts : List (Stage R A)} → KeepAll Good Fit (t ∷ ts) → Keeps Good Fit t
  first_keeps z = z.each.0

  pub rest_keep : {t : Stage R A} {ts : List (Stage R A)} → KeepAll Good Fit (t ∷ ts) → KeepAll Good Fit ts
  rest_keep z = record { each = z.each.1 }

  pub both_keep : {ts us : List (Stage R A)} → KeepAll Good Fit ts → KeepAll Good Fit us → KeepAll Good Fit (ts ++ us)
  both_keep {ts = []} z w = w
  both_keep {ts = t ∷ ts} z w = first_keeps z and both_keep {ts = ts} (rest_keep z) w

-- what is received was handed on
module _ {A : Type 0} (Fit : A → Type 0) where
  fit_before : (f : ℕ → A) → ((j : ℕ) → Fit (f j)) → (p : ℕ) → IfAny Fit (from_before f p)
  fit_before f h zero = tt
  fit_before f h (suc p) = h p

  fit_if : (t : Bool) (x : A) → Fit x → IfAny Fit (cond t (some x) none)
  fit_if true x h = h
  fit_if false x h = tt

  fit_received : (s : ℕ) (m : Move) (σ : State A) → ((c d a b : ℕ) → Fit (σ c d a b)) → (c d a b : ℕ) → IfAny Fit (receive s m σ c d a b)
  fit_received s Swap σ h c d a b = h a b c d
  fit_received s (Electronic Right) σ h c d a b = fit_before (σ c d a) (h c d a) b
  fit_received s (Electronic Left) σ h c d a b = fit_if (ltb (suc b) s) _ (h c d a (suc b))
  fit_received s (Electronic Down) σ h c d a b = fit_before (λ i. σ c d i b) (λ i. h c d i b) a
  fit_received s (Electronic Up) σ h c d a b = fit_if (ltb (suc a) s) _ (h c d (suc a) b)

module _ {R A : Type 0} {Good : R → Type 0} {Fit : A → Type 0} where
  ran_good : (s : ℕ) (t : Stage R A) {σ : State R} → Keeps Good Fit t → ((c d a b : ℕ) → Good (σ c d a b))
      → (k c d a b : ℕ) → Good (ran s t k σ c d a b)
  ran_good s t z h zero c d a b = h c d a b
  ran_good s t {σ} z h (suc k) c d a b =
      let now = ran_good s t z h k in
      let sent : State A = λ c d a b. t.send (ran s t k σ c d a b) in
      z.turns k c d a b _ _ (now c d a b) (fit_received Fit s t.run.step sent (λ c d a b. z.sends _ (now c d a b)) c d a b)

  -- a stage before others
  kept_on : (s : ℕ) (t : Stage R A) (ts : List (Stage R A)) {σ : State R} → Keeps Good Fit t → ((k c d a b : ℕ) → Good (ran s t k σ c d a b))
      → Registers Good Fit s ts (all s t σ) → Registers Good Fit s (t ∷ ts) σ
  kept_on s t ts {σ} z here later = record {
    after = λ k c d a b. good k c d a b (ltb k t.run.times);
    handed = λ k c d a b. fit k c d a b (ltb k t.run.times);
  }
    where
      good : (k c d a b : ℕ) (x : Bool) → Good (cond x (ran s t k σ) (after_moves s ts (k - t.run.times) (all s t σ)) c d a b)
      good k c d a b true = here k c d a b
      good k c d a b false = later.after (k - t.run.times) c d a b

      fit : (k c d a b : ℕ) (x : Bool)
          → IfAny Fit (cond x (some (t.send (ran s t k σ c d a b))) (handed_on s ts (k - t.run.times) (all s t σ) c d a b))
      fit k c d a b true = z.sends _ (here k c d a b)
      fit k c d a b false = later.handed (k - t.run.times) c d a b

  pub registers_kept : (s : ℕ) (ts : List (Stage R A)) {σ : State R} → KeepAll Good Fit ts → ((c d a b : ℕ) → Good (σ c d a b))
      → Registers Good Fit s ts σ
  registers_kept s [] z h = record { after = λ k c d a b. h c d a b; handed = λ k c d a b. tt }
  registers_kept s (t ∷ ts) z h =
      let here = ran_good s t (first_keeps z) h in
      kept_on s t ts (first_keeps z) here (registers_kept s ts (rest_keep z) (here t.run.times))

-- the same of what a cell hands on and of how it joins what it receives
pub record Joins {R A : Type 0} (Good : R → Type 0) (Fit : A → Type 0) (send : R → A) (op : R → A → R) : Type 0 where
  pub sends : (o : R) → Good o → Fit (send o)
  pub joins : (o : R) (x : A) → Good o → Fit x → Good (op o x)

-- then a run of fronts keeps the registers so, and so do swaps
module _ {R A : Type 0} {Good : R → Type 0} {Fit : A → Type 0} {send : R → A} {op : R → A → R} (z : Joins Good Fit send op) where
  front_good : (q p : ℕ) (o : R) (got : Option A) → Good o → IfAny Fit got → Good (front op q p o got)
  unfolding front
  front_good q p o none g h = g
  front_good q p o (some x) g h = go (eqb p q)
    where
      go : (t : Bool) → Good (cond t (op o x) o)
      go true = z.joins o x g h
      go false = g

  taking_good : (o : R) (got : Option A) → Good o → IfAny Fit got → Good (taking op o got)
  taking_good o none g h = g
  taking_good o (some x) g h = z.joins o x g h

  pub from_keeping : (w : Way) (e n : ℕ) → Keeps Good Fit (from w send op e n)
  from_keeping w e n = record { sends = z.sends; turns = λ k c d a b. front_good (steps_on w e (suc k)) (position w a b) }

  pub light_keeping : (n : ℕ) → Keeps Good Fit (light n send op)
  light_keeping n = record { sends = z.sends; turns = λ k c d a b. taking_good }

-- sums and differences are words, and so are words handed on, taken as they come or added
pub plus-word : (x y : ℕ) → IsWord (plus x y)
plus-word x y = omega arith

pub minus-word : (x y : ℕ) → IsWord (minus x y)
minus-word x y = omega arith

pub word_copied : Joins IsWord IsWord word copy
word_copied = record { sends = λ o g. g; joins = λ o x g h. h }

pub word_added : Joins IsWord IsWord word plus
word_added = record { sends = λ o g. g; joins = λ o x g h. plus-word o x }
