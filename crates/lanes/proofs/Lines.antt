-- A stage along rows or columns is a run along each line, and what a run of fronts leaves on a line.
use Prim.Native.Nat.{ℕ, zero, suc, ◌+◌, ◌-◌, ◌%◌, ◌^◌, ◌≤◌, ◌<◌}
use mathlib.Core.Path.{◌≡◌, refl, ap, ap₂, ◌∙◌}
use mathlib.Core.Option.{Option, none, some}
use native.Mathlib.Omega.{arith}
use native.Mathlib.Decide.{dec_le}
use native.Mathlib.Nat.{zero-add, add-suc, add_comm, add-mod}
use lib.Arith.{le-zero}
use borrow.Author.Tests.{eq-eqb, ne_eqb, lt-ltb}
use Rattle.laws.specs.Sums.{sum}
use Rattle.array.specs.declared.moves.Way.{Way}
use Rattle.array.specs.declared.moves.Way.TheVariants.{Right, Left, Up, Down}
use Rattle.runs.specs.Runs.{along}
use Rattle.lanes.specs.Machine.{State, Rule, Stage, from_before, from_after, ran, all}
use Rattle.sums.specs.Sums.{plus}
use Rattle.lanes.specs.Stages.{front, from, word, copy}

-- k moves along a line by itself
abbrev pub line : ((ℕ → ℕ) → ℕ → Option ℕ) → (ℕ → ℕ → ℕ → Option ℕ → ℕ) → ℕ → (ℕ → ℕ) → ℕ → ℕ
line get ρ zero f = f
line get ρ (suc k) f = λ p. ρ k p (line get ρ k f p) (get (line get ρ k f) p)

-- a stage of one register, which is handed on as it is
abbrev pub plain : Way → ℕ → (ℕ → Rule ℕ ℕ) → Stage ℕ ℕ
plain w n ρ = record { run = along w n; send = word; rule = ρ }

-- a stage of the array is a run along each of its lines
module _ (s n : ℕ) (ρ : ℕ → Rule ℕ ℕ) (σ : State ℕ) (c d : ℕ) where
  pub right : (k a : ℕ) → ran s (plain Right n ρ) k σ c d a ≡ line from_before (λ k. ρ k c d a) k (σ c d a)
  right zero a = refl
  right (suc k) a = ap {B = ℕ → ℕ} (λ (g : ℕ → ℕ) b. ρ k c d a b (g b) (from_before g b)) (right k a)

  pub left : (k a : ℕ) → ran s (plain Left n ρ) k σ c d a ≡ line (from_after s) (λ k. ρ k c d a) k (σ c d a)
  left zero a = refl
  left (suc k) a = ap {B = ℕ → ℕ} (λ (g : ℕ → ℕ) b. ρ k c d a b (g b) (from_after s g b)) (left k a)

  pub down : (k b : ℕ) → ◌≡◌ {A = ℕ → ℕ} (λ a. ran s (plain Down n ρ) k σ c d a b) (line from_before (λ k a. ρ k c d a b) k (λ a. σ c d a b))
  down zero b = refl
  down (suc k) b = ap {B = ℕ → ℕ} (λ (g : ℕ → ℕ) a. ρ k c d a b (g a) (from_before g a)) (down k b)

  pub up : (k b : ℕ) → ◌≡◌ {A = ℕ → ℕ} (λ a. ran s (plain Up n ρ) k σ c d a b) (line (from_after s) (λ k a. ρ k c d a b) k (λ a. σ c d a b))
  up zero b = refl
  up (suc k) b = ap {B = ℕ → ℕ} (λ (g : ℕ → ℕ) a. ρ k c d a b (g a) (from_after s g a)) (up k b)

-- what the fronts gather up to position j
abbrev pub acc : (ℕ → ℕ → ℕ) → (ℕ → ℕ) → ℕ → ℕ
acc op f zero = f zero
acc op f (suc j) = op (f (suc j)) (acc op f j)

pub front_not : {R : Type 0} (op : R → ℕ → R) (q p : ℕ) (own : R) (got : Option ℕ) → (p ≡ q → ⊥) → front op q p own got ≡ own
unfolding front
front_not op q p own none h = refl
front_not op q p own (some x) h = rw (ne_eqb p q h)

pub front_now : {R : Type 0} (op : R → ℕ → R) (q : ℕ) (own : R) (x : ℕ) → front op q q own (some x) ≡ op own x
unfolding front
front_now op q own x = rw (eq-eqb q q refl)

-- positions way 0 .. way n of a line, each of which receives from the one before
module _ (op : ℕ → ℕ → ℕ) (get : (ℕ → ℕ) → ℕ → Option ℕ) (way : ℕ → ℕ) (n : ℕ)
    (near : (g : ℕ → ℕ) (j : ℕ) → j < n → get g (way (suc j)) ≡ some (g (way j)))
    (apart : (j k : ℕ) → j ≤ n → k ≤ n → way j ≡ way k → j ≡ k)
    (f : ℕ → ℕ) where
  off : (k p : ℕ) → ((j : ℕ) → j < k → p ≡ way (suc j) → ⊥) → line get (λ k. front op (way (suc k))) k f p ≡ f p
  off zero p h = refl
  off (suc k) p h = front_not op (way (suc k)) p _ _ (h k (omega arith)) ∙ off k p (λ j l. h j (omega arith))

  tip : (k : ℕ) → k ≤ n → line get (λ k. front op (way (suc k))) k f (way k) ≡ acc op (λ i. f (way i)) k
  tip zero h = refl
  tip (suc k) h =
      rw (near (line get (λ k. front op (way (suc k))) k f) k h)
      (front_now op (way (suc k)) _ _
      ∙ ap₂ op (off k (way (suc k)) (λ j l e. absurd (omega (arith, apart (suc k) (suc j) h (omega arith) e)))) (tip k (omega arith)))

  on : (k j : ℕ) → j ≤ k → k ≤ n → line get (λ k. front op (way (suc k))) k f (way j) ≡ acc op (λ i. f (way i)) j
  on zero j h h' = rw (le-zero h)
  on (suc k) j h h' = go (dec_le j k) (λ l. on k j l (omega arith))
    where
      go : Dec (j ≤ k) → (j ≤ k → line get (λ k. front op (way (suc k))) k f (way j) ≡ acc op (λ i. f (way i)) j)
          → line get (λ k. front op (way (suc k))) (suc k) f (way j) ≡ acc op (λ i. f (way i)) j
      go (yes l) ih =
          front_not op (way (suc k)) (way j) _ _ (λ e. absurd (omega (arith, apart j (suc k) (omega arith) h' e))) ∙ ih l
      go (no l) ih = let e : j ≡ suc k = omega arith in rw e (tip (suc k) h')

before_next : (g : ℕ → ℕ) (e j : ℕ) → from_before g (e + suc j) ≡ some (g (e + j))
before_next g e j = rw add-suc

after_next : (s : ℕ) (g : ℕ → ℕ) (e j : ℕ) → e < s → j < e → from_after s g (e - suc j) ≡ some (g (e - j))
after_next s g e j h h' =
    let q : suc (e - suc j) ≡ e - j = omega arith in
    rw (q, lt-ltb (e - j) s (omega arith))

module _ (op : ℕ → ℕ → ℕ) (e n : ℕ) (f : ℕ → ℕ) where
  pub before_on : (j : ℕ) → j ≤ n → line from_before (λ k. front op (e + suc k)) n f (e + j) ≡ acc op (λ i. f (e + i)) j
  before_on j h = on op from_before (λ j. e + j) n (λ g j h. before_next g e j) (λ j k h h' p. omega arith) f n j h (omega arith)

  pub before_off : (p : ℕ) → p ≤ e → line from_before (λ k. front op (e + suc k)) n f p ≡ f p
  before_off p h = off op from_before (λ j. e + j) n (λ g j h. before_next g e j) (λ j k h h' p. omega arith) f n p (λ j l q. omega arith)

module _ (op : ℕ → ℕ → ℕ) (s e n : ℕ) (in_s : e < s) (in_e : n ≤ e) (f : ℕ → ℕ) where
  pub after_on : (j : ℕ) → j ≤ n → line (from_after s) (λ k. front op (e - suc k)) n f (e - j) ≡ acc op (λ i. f (e - i)) j
  after_on j h = on op (from_after s) (λ j. e - j) n (λ g j h. after_next s g e j in_s (omega arith)) (λ j k h h' p. omega arith) f n j h (omega arith)

-- whole lines: from the first position to the last, and from the last to the first
module _ (op : ℕ → ℕ → ℕ) (s : ℕ) (f : ℕ → ℕ) (p : ℕ) (p_in : p < s) where
  before_all : line from_before (λ k. front op (0 + suc k)) (s - 1) f p ≡ acc op f p
  before_all = simp zero-add (simp zero-add at (before_on op 0 (s - 1) f p (omega arith)))

  after-all : line (from_after s) (λ k. front op (s - 1 - suc k)) (s - 1) f p ≡ acc op (λ i. f (s - 1 - i)) (s - 1 - p)
  after-all =
      let q : s - 1 - (s - 1 - p) ≡ p = omega arith in
      rw q at (after_on op s (s - 1) (s - 1) (omega arith) (omega arith) f (s - 1 - p) (omega arith))

module _ (op : ℕ → ℕ → ℕ) (s : ℕ) (σ : State ℕ) (c d a b : ℕ) where
  pub right-all : b < s → all s (from Right word op 0 (s - 1)) σ c d a b ≡ acc op (σ c d a) b
  right-all h = ap (λ (g : ℕ → ℕ). g b) (right s (s - 1) (from Right word op 0 (s - 1)).rule σ c d (s - 1) a) ∙ before_all op s (σ c d a) b h

  pub down-all : a < s → all s (from Down word op 0 (s - 1)) σ c d a b ≡ acc op (λ i. σ c d i b) a
  down-all h = ap (λ (g : ℕ → ℕ). g a) (down s (s - 1) (from Down word op 0 (s - 1)).rule σ c d (s - 1) b) ∙ before_all op s (λ i. σ c d i b) a h

  pub left-all : b < s → all s (from Left word op (s - 1) (s - 1)) σ c d a b ≡ acc op (λ j. σ c d a (s - 1 - j)) (s - 1 - b)
  left-all h = ap (λ (g : ℕ → ℕ). g b) (left s (s - 1) (from Left word op (s - 1) (s - 1)).rule σ c d (s - 1) a) ∙ after-all op s (σ c d a) b h

  pub up-all : a < s → all s (from Up word op (s - 1) (s - 1)) σ c d a b ≡ acc op (λ i. σ c d (s - 1 - i) b) (s - 1 - a)
  up-all h = ap (λ (g : ℕ → ℕ). g a) (up s (s - 1) (from Up word op (s - 1) (s - 1)).rule σ c d (s - 1) b) ∙ after-all op s (λ i. σ c d i b) a h

-- copies and sums gathered
pub acc-copy : (f : ℕ → ℕ) (j : ℕ) → acc copy f j ≡ f 0
acc-copy f zero = refl
acc-copy f (suc j) = acc-copy f j

pub acc-plus : (f g : ℕ → ℕ) (j : ℕ) → ((i : ℕ) → i ≤ j → f i ≡ g i % (2 ^ 32)) → acc plus f j ≡ sum (suc j) g % (2 ^ 32)
acc-plus f g zero h = h 0 (omega arith) ∙ rw zero-add
acc-plus f g (suc j) h =
    rw (h (suc j) (omega arith), acc-plus f g j (λ i l. h i (omega arith)), ← add-mod, add_comm (g (suc j)))
