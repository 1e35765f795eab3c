-- Prefix sum: the nine steps give the prefix sums. Each lane of the steps by itself, the machine's registers as these lanes, and the sums
-- that the lanes hold.
use Prim.Native.Nat.{ℕ, suc, ◌+◌, ◌-◌, ◌%◌, ◌^◌, ◌≤◌, ◌<◌}
use mathlib.Core.Path.{◌≡◌, refl, sym, ap, ap₂, ◌∙◌, fun_ext}
use mathlib.Core.List.{List}
use native.Mathlib.Omega.{arith}
use native.Mathlib.Nat.{add-mod, mod-eq_of_lt}
use lib.ListN.{get_or}
use Rattle.laws.specs.Sums.{sum}
use Rattle.array.specs.declared.moves.Way.TheVariants.{Right, Left, Up, Down}
use Rattle.lists.specs.Lists.{prefix_sum_runs}
use Rattle.lanes.specs.Machine.{State, all, stage_runs, at, load, unload}
use Rattle.sums.specs.Sums.{plus, minus}
use Rattle.lanes.specs.Stages.{from, light, copy}
use Rattle.prefix.specs.Programs.{Sums, load_sums, add_row, add_column, take_group, add_groups, add_group_rows, rows_above, take_above, groups_before, take_before, row_before, take_row, prefix_sum, prefixed}
use Rattle.prefix.specs.Results.{prefix_sum_words}
use Rattle.lanes.specs.Inside.{swapped_state}
use Rattle.prefix.specs.Inside.{summed, copied, modified, finished}
use Rattle.lanes.proofs.Coordinates.{unload_by, sum_to}
use Rattle.lanes.proofs.Lines.{right-all, down-all, left-all, up-all, acc-copy, acc-plus}
use Rattle.lanes.proofs.Registers.{minus-word}
use Rattle.lanes.proofs.Views.{lane, from_view, from_keeps, from_stays}

-- the lanes of the nine steps
module _ (s : ℕ) where
  unfoldable pub R₁ : State ℕ → State ℕ
  R₁ w = summed s Right w

  unfoldable pub C₂ : State ℕ → State ℕ
  C₂ w = summed s Down (R₁ w)

  unfoldable pub A₃ : State ℕ → State ℕ
  A₃ w = swapped_state (C₂ w)

  unfoldable pub Y₄ : State ℕ → State ℕ
  Y₄ w = summed s Right (A₃ w)

  unfoldable pub Z₅ : State ℕ → State ℕ
  Z₅ w = summed s Down (Y₄ w)

  unfoldable pub U₆ : State ℕ → State ℕ
  U₆ w = copied s Left (λ c d a b. minus (Z₅ w c d a b) (Y₄ w c d a b))

  unfoldable pub M₇ : State ℕ → State ℕ
  M₇ w c d a b = minus (plus (U₆ w a b c d) (Y₄ w a b c d)) (A₃ w a b c d)

  unfoldable pub M₈ : State ℕ → State ℕ
  M₈ w = copied s Up (M₇ w)

  unfoldable pub V₉ : State ℕ → State ℕ
  V₉ w = copied s Left (λ c d a b. minus (plus (M₈ w c d a b) (C₂ w c d a b)) (R₁ w c d a b))

  unfoldable pub P₉ : State ℕ → State ℕ
  P₉ w c d a b = plus (R₁ w c d a b) (V₉ w c d a b)

-- the last lane from those that the code's parts leave
pub parts_are : (s : ℕ) (w : State ℕ)
    → finished s (summed s Right w) (summed s Down (summed s Right w)) (modified s (swapped_state (summed s Down (summed s Right w)))
    (summed s Right (swapped_state (summed s Down (summed s Right w)))) (summed s Down (summed s Right (swapped_state (summed s Down (summed s Right w))))))
    ≡ P₉ s w
unfolding R₁ C₂ A₃ Y₄ Z₅ U₆ M₇ M₈ V₉ P₉
parts_are s w = refl

-- what is taken off again was added
off_again : (x y : ℕ) → x < 2 ^ 32 → minus (plus x y) y ≡ x
off_again x y h = omega arith

on_again : (z y a : ℕ) → minus z a ≡ minus (plus (minus z y) y) a
on_again z y a = omega arith

-- the machine's states, step by step, and its registers
module _ (s : ℕ) (w : State ℕ) where
  unfoldable σ₁ : State Sums
  σ₁ = all s (from Right (λ o. o.r) add_row 0 (s - 1)) (λ c d a b. load_sums (w c d a b))

  unfoldable σ₂ : State Sums
  σ₂ = all s (from Down (λ o. o.c) add_column 0 (s - 1)) σ₁

  unfoldable σ₃ : State Sums
  σ₃ = all s (light 1 (λ o. o.c) take_group) σ₂

  unfoldable σ₄ : State Sums
  σ₄ = all s (from Right (λ o. o.y) add_groups 0 (s - 1)) σ₃

  unfoldable σ₅ : State Sums
  σ₅ = all s (from Down (λ o. o.z) add_group_rows 0 (s - 1)) σ₄

  unfoldable σ₆ : State Sums
  σ₆ = all s (from Left rows_above take_above (s - 1) (s - 1)) σ₅

  unfoldable σ₇ : State Sums
  σ₇ = all s (light 1 groups_before take_before) σ₆

  unfoldable σ₈ : State Sums
  σ₈ = all s (from Up (λ o. o.z) take_before (s - 1) (s - 1)) σ₇

  unfoldable σ₉ : State Sums
  σ₉ = all s (from Left row_before take_row (s - 1) (s - 1)) σ₈

  r₁ : lane (λ o. o.r) σ₁ ≡ R₁ s w
  unfolding σ₁ R₁
  r₁ = from_view (λ o. o.r) add_row plus (λ o g. refl) s Right 0 (s - 1) refl

  c₁ : lane (λ o. o.c) σ₁ ≡ R₁ s w
  unfolding σ₁
  c₁ = fun_ext (λ c. fun_ext (λ d. fun_ext (λ a. fun_ext (λ b.
      from_keeps (λ (o : Sums). o.c ≡ o.r) add_row (λ o x p. refl) (λ o. o.r) s Right 0 (s - 1) (λ c d a b. load_sums (w c d a b)) c d a b refl)))) ∙ r₁

  r₂ : lane (λ o. o.r) σ₂ ≡ R₁ s w
  unfolding σ₂
  r₂ = from_stays (λ o. o.r) (λ o. o.c) add_column (λ o x. refl) s Down 0 (s - 1) r₁

  c₂ : lane (λ o. o.c) σ₂ ≡ C₂ s w
  unfolding σ₂ C₂
  c₂ = from_view (λ o. o.c) add_column plus (λ o g. refl) s Down 0 (s - 1) c₁

  a₃ : lane (λ o. o.a) σ₃ ≡ A₃ s w
  unfolding σ₃ A₃
  a₃ = ap {B = State ℕ} (λ (τ : State ℕ) c d a b. τ a b c d) c₂

  y₃ : lane (λ o. o.y) σ₃ ≡ A₃ s w
  unfolding σ₃ A₃
  y₃ = ap {B = State ℕ} (λ (τ : State ℕ) c d a b. τ a b c d) c₂

  y₄ : lane (λ o. o.y) σ₄ ≡ Y₄ s w
  unfolding σ₄ Y₄
  y₄ = from_view (λ o. o.y) add_groups plus (λ o g. refl) s Right 0 (s - 1) y₃

  z₄ : lane (λ o. o.z) σ₄ ≡ Y₄ s w
  unfolding σ₃ σ₄
  z₄ = fun_ext (λ c. fun_ext (λ d. fun_ext (λ a. fun_ext (λ b.
      from_keeps (λ (o : Sums). o.z ≡ o.y) add_groups (λ o x p. refl) (λ o. o.y) s Right 0 (s - 1) σ₃ c d a b refl)))) ∙ y₄

  z₅ : lane (λ o. o.z) σ₅ ≡ Z₅ s w
  unfolding σ₅ Z₅
  z₅ = from_view (λ o. o.z) add_group_rows plus (λ o g. refl) s Down 0 (s - 1) z₄

  y₅ : lane (λ o. o.y) σ₅ ≡ Y₄ s w
  unfolding σ₅
  y₅ = from_stays (λ o. o.y) (λ o. o.z) add_group_rows (λ o x. refl) s Down 0 (s - 1) y₄

  u₆ : lane rows_above σ₆ ≡ U₆ s w
  unfolding σ₆ U₆
  u₆ = from_view rows_above take_above copy (λ o g. off_again (rows_above g) o.y (minus-word g.z g.y)) s Left (s - 1) (s - 1)
      (ap₂ {C = State ℕ} (λ (τ υ : State ℕ) c d a b. minus (τ c d a b) (υ c d a b)) z₅ y₅)

  y₆ : lane (λ o. o.y) σ₆ ≡ Y₄ s w
  unfolding σ₆
  y₆ = from_stays (λ o. o.y) rows_above take_above (λ o x. refl) s Left (s - 1) (s - 1) y₅

  a₆ : lane (λ o. o.a) σ₆ ≡ A₃ s w
  unfolding σ₄ σ₅ σ₆
  a₆ =
      from_stays (λ o. o.a) rows_above take_above (λ o x. refl) s Left (s - 1) (s - 1)
      (from_stays (λ o. o.a) (λ o. o.z) add_group_rows (λ o x. refl) s Down 0 (s - 1)
      (from_stays (λ o. o.a) (λ o. o.y) add_groups (λ o x. refl) s Right 0 (s - 1) a₃))

  z₇ : lane (λ o. o.z) σ₇ ≡ M₇ s w
  unfolding σ₇ M₇
  z₇ =
      fun_ext (λ c. fun_ext (λ d. fun_ext (λ a. fun_ext (λ b. on_again (σ₆ a b c d).z (σ₆ a b c d).y (σ₆ a b c d).a))))
      ∙ ap₂ {C = State ℕ} (λ (τ υ : State ℕ) c d a b. minus (plus (τ a b c d) (υ a b c d)) (σ₆ a b c d).a) u₆ y₆
      ∙ ap {B = State ℕ} (λ (τ : State ℕ) c d a b. minus (plus (U₆ s w a b c d) (Y₄ s w a b c d)) (τ a b c d)) a₆

  z₈ : lane (λ o. o.z) σ₈ ≡ M₈ s w
  unfolding σ₈ M₈
  z₈ = from_view (λ o. o.z) take_before copy (λ o g. refl) s Up (s - 1) (s - 1) z₇

  -- what steps three to eight leave alone
  left_alone : (φ : Sums → ℕ) → ((o : Sums) (x : ℕ) → φ (take_group o x) ≡ φ o) → ((o : Sums) (x : ℕ) → φ (add_groups o x) ≡ φ o)
      → ((o : Sums) (x : ℕ) → φ (add_group_rows o x) ≡ φ o) → ((o : Sums) (x : ℕ) → φ (take_above o x) ≡ φ o)
      → ((o : Sums) (x : ℕ) → φ (take_before o x) ≡ φ o) → {τ : State ℕ} → lane φ σ₂ ≡ τ → lane φ σ₈ ≡ τ
  unfolding σ₃ σ₄ σ₅ σ₆ σ₇ σ₈
  left_alone φ k₃ k₄ k₅ k₆ k₇ h =
      from_stays φ (λ o. o.z) take_before k₇ s Up (s - 1) (s - 1)
      (fun_ext (λ c. fun_ext (λ d. fun_ext (λ a. fun_ext (λ b. k₇ (σ₆ c d a b) _))))
      ∙ from_stays φ rows_above take_above k₆ s Left (s - 1) (s - 1)
      (from_stays φ (λ o. o.z) add_group_rows k₅ s Down 0 (s - 1)
      (from_stays φ (λ o. o.y) add_groups k₄ s Right 0 (s - 1)
      (fun_ext (λ c. fun_ext (λ d. fun_ext (λ a. fun_ext (λ b. k₃ (σ₂ c d a b) _)))) ∙ h))))

  r₈ : lane (λ o. o.r) σ₈ ≡ R₁ s w
  r₈ = left_alone (λ o. o.r) (λ o x. refl) (λ o x. refl) (λ o x. refl) (λ o x. refl) (λ o x. refl) r₂

  c₈ : lane (λ o. o.c) σ₈ ≡ C₂ s w
  c₈ = left_alone (λ o. o.c) (λ o x. refl) (λ o x. refl) (λ o x. refl) (λ o x. refl) (λ o x. refl) c₂

  v₈ : lane row_before σ₈ ≡ (λ c d a b. minus (plus (M₈ s w c d a b) (C₂ s w c d a b)) (R₁ s w c d a b))
  v₈ =
      ap₂ {C = State ℕ} (λ (τ υ : State ℕ) c d a b. minus (plus (τ c d a b) (υ c d a b)) (σ₈ c d a b).r) z₈ c₈
      ∙ ap {B = State ℕ} (λ (τ : State ℕ) c d a b. minus (plus (M₈ s w c d a b) (C₂ s w c d a b)) (τ c d a b)) r₈

  v₉ : lane row_before σ₉ ≡ V₉ s w
  unfolding σ₉ V₉
  v₉ = from_view row_before take_row copy (λ o g. off_again (row_before g) o.r (minus-word (plus g.z g.c) g.r)) s Left (s - 1) (s - 1) v₈

  r₉ : lane (λ o. o.r) σ₉ ≡ R₁ s w
  unfolding σ₉
  r₉ = from_stays (λ o. o.r) row_before take_row (λ o x. refl) s Left (s - 1) (s - 1) r₈

  -- the program's words are those of the last lane
  pub prefix_sum_lanes : prefixed s w ≡ P₉ s w
  unfolding σ₁ σ₂ σ₃ σ₄ σ₅ σ₆ σ₇ σ₈ σ₉ P₉
  prefix_sum_lanes = ap₂ {C = State ℕ} (λ (τ υ : State ℕ) c d a b. plus (τ c d a b) (υ c d a b)) r₉ v₉

-- plus and minus of reduced numbers
plus-mod : (p q : ℕ) → plus (p % (2 ^ 32)) (q % (2 ^ 32)) ≡ (p + q) % (2 ^ 32)
plus-mod p q = sym (add-mod p q (2 ^ 32))

minus-mod : (p q : ℕ) → minus ((p + q) % (2 ^ 32)) (q % (2 ^ 32)) ≡ p % (2 ^ 32)
minus-mod p q = omega arith

-- on the board, σ is the numbers w, reduced
record Reduced (s : ℕ) (σ w : State ℕ) : Type 0 where
  is : (c d a b : ℕ) → c < s → d < s → a < s → b < s → σ c d a b ≡ w c d a b % (2 ^ 32)

-- whole lines of sums, and of copies
module _ (s : ℕ) {σ w : State ℕ} (h : Reduced s σ w) where
  sum-right : Reduced s (summed s Right σ) (λ c d a b. sum (suc b) (w c d a))
  sum-right = record {
    is = λ c d a b hc hd ha hb.
        right-all plus s σ c d a b hb ∙ acc-plus _ (w c d a) b (λ i l. h.is c d a i hc hd ha (omega arith));
  }

  sum-down : Reduced s (summed s Down σ) (λ c d a b. sum (suc a) (λ i. w c d i b))
  sum-down = record {
    is = λ c d a b hc hd ha hb.
        down-all plus s σ c d a b ha ∙ acc-plus _ (λ i. w c d i b) a (λ i l. h.is c d i b hc hd (omega arith) hb);
  }

  copy-left : Reduced s (copied s Left σ) (λ c d a b. w c d a (s - 1))
  copy-left = record {
    is = λ c d a b hc hd ha hb.
        left-all copy s σ c d a b hb ∙ acc-copy (λ j. σ c d a (s - 1 - j)) (s - 1 - b) ∙ ap (σ c d a) {x = s - 1 - 0} (omega arith) ∙ h.is c d a (s - 1) hc hd ha (omega arith);
  }

  copy-up : Reduced s (copied s Up σ) (λ c d a b. w c d (s - 1) b)
  copy-up = record {
    is = λ c d a b hc hd ha hb.
        up-all copy s σ c d a b ha ∙ acc-copy (λ i. σ c d (s - 1 - i) b) (s - 1 - a) ∙ ap (λ i. σ c d i b) {x = s - 1 - 0} (omega arith) ∙ h.is c d (s - 1) b hc hd (omega arith) hb;
  }

-- the numbers that the lanes hold: the sums of a group's rows up to a cell, as they come by light; the groups before
abbrev came : State ℕ → State ℕ
came w c d a b = sum (suc c) (λ i. sum (suc d) (w a b i))

abbrev sum_before : ℕ → State ℕ → State ℕ
sum_before s w c d a b = sum d (came w a b c) + sum c (λ i. sum (suc (s - 1)) (came w a b i))

module _ (s : ℕ) {σ w : State ℕ} (h : Reduced s σ w) where
  R₁_is : Reduced s (R₁ s σ) (λ c d a b. sum (suc b) (w c d a))
  unfolding R₁
  R₁_is = sum-right s h

  C₂_is : Reduced s (C₂ s σ) (λ c d a b. sum (suc a) (λ i. sum (suc b) (w c d i)))
  unfolding C₂
  C₂_is = sum-down s R₁_is

  A₃_is : Reduced s (A₃ s σ) (came w)
  unfolding A₃
  A₃_is = record { is = λ c d a b hc hd ha hb. C₂_is.is a b c d ha hb hc hd }

  Y₄_is : Reduced s (Y₄ s σ) (λ c d a b. sum (suc b) (came w c d a))
  unfolding Y₄
  Y₄_is = sum-right s A₃_is

  Z₅_is : Reduced s (Z₅ s σ) (λ c d a b. sum (suc a) (λ i. sum (suc b) (came w c d i)))
  unfolding Z₅
  Z₅_is = sum-down s Y₄_is

  U₆_is : Reduced s (U₆ s σ) (λ c d a b. sum a (λ i. sum (suc (s - 1)) (came w c d i)))
  unfolding U₆
  U₆_is = copy-left s {w = λ c d a b. sum a (λ i. sum (suc b) (came w c d i))} (record {
    is = λ c d a b hc hd ha hb.
        ap₂ minus (Z₅_is.is c d a b hc hd ha hb) (Y₄_is.is c d a b hc hd ha hb) ∙ minus-mod (sum a (λ i. sum (suc b) (came w c d i))) _;
  })

  M₇_is : Reduced s (M₇ s σ) (sum_before s w)
  unfolding M₇
  M₇_is = record {
    is = λ c d a b hc hd ha hb.
        let u = U₆_is.is a b c d ha hb hc hd in
        let y = Y₄_is.is a b c d ha hb hc hd in
        let t = A₃_is.is a b c d ha hb hc hd in
        ap₂ minus (ap₂ plus u y ∙ plus-mod _ _ ∙ ap (λ n. n % (2 ^ 32)) (omega arith)) t ∙ minus-mod (sum_before s w c d a b) (came w a b c d);
  }

  M₈_is : Reduced s (M₈ s σ) (λ c d a b. sum_before s w c d (s - 1) b)
  unfolding M₈
  M₈_is = copy-up s M₇_is

  V₉_is : Reduced s (V₉ s σ) (λ c d a b. sum_before s w c d (s - 1) (s - 1) + sum a (λ i. sum (suc (s - 1)) (w c d i)))
  unfolding V₉
  V₉_is = copy-left s {w = λ c d a b. sum_before s w c d (s - 1) b + sum a (λ i. sum (suc b) (w c d i))} (record {
    is = λ c d a b hc hd ha hb.
        ap₂ minus (ap₂ plus (M₈_is.is c d a b hc hd ha hb) (C₂_is.is c d a b hc hd ha hb) ∙ plus-mod _ _ ∙ ap (λ n. n % (2 ^ 32)) (omega arith))
        (R₁_is.is c d a b hc hd ha hb)
        ∙ minus-mod (sum_before s w c d (s - 1) b + sum a (λ i. sum (suc b) (w c d i))) (sum (suc b) (w c d a));
  })

  P₉_is : Reduced s (P₉ s σ) (λ c d a b. sum (suc b) (w c d a) + (sum_before s w c d (s - 1) (s - 1) + sum a (λ i. sum (suc (s - 1)) (w c d i))))
  unfolding P₉
  P₉_is = record { is = λ c d a b hc hd ha hb. ap₂ plus (R₁_is.is c d a b hc hd ha hb) (V₉_is.is c d a b hc hd ha hb) ∙ plus-mod _ _ }

-- the last lane, of words below 2 ^ 32
pub P₉_sums : (s : ℕ) (l : List ℕ) → 1 ≤ s → ((i : ℕ) → get_or l i 0 < 2 ^ 32) → unload s (P₉ s (load s l)) ≡ prefix_sum_words s l
P₉_sums s l pos small = unload_by s (P₉ s (load s l)) _ pos (λ c d a b hc hd ha hb.
    let q : suc (s - 1) ≡ s = omega arith in
    (P₉_is s {w = load s l} (record { is = λ c d a b _ _ _ _. sym (mod-eq_of_lt (small (at s c d a b))) })).is c d a b hc hd ha hb
    ∙ ap (λ n. (sum (suc b) (load s l c d a) + (sum d (λ j. sum n (λ k. sum n (load s l c j k))) + sum c (λ i. sum n (λ j. sum n (λ k. sum n (load s l i j k)))) + sum a (λ i. sum n (load s l c d i)))) % (2 ^ 32)) q
    ∙ ap (λ n. n % (2 ^ 32)) (sym (sum_to s (λ i. get_or l i 0) c d a b)))

-- the word at i becomes the sum of words 0 to i
pub prefix_sum-all : (s : ℕ) (l : List ℕ) → 1 ≤ s → ((i : ℕ) → get_or l i 0 < 2 ^ 32)
    → unload s (prefixed s (load s l)) ≡ prefix_sum_words s l
prefix_sum-all s l pos small = ap (unload s) (prefix_sum_lanes s (load s l)) ∙ P₉_sums s l pos small

-- the moves that the program makes are those of the list
pub prefix_sum-moves : (s : ℕ) → stage_runs (prefix_sum s) ≡ prefix_sum_runs s
prefix_sum-moves s = refl
