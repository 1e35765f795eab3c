-- How far a record goes in the first moves of a run: the move rule, made move after move, comes to a number of cells that is told at once.
use Prim.Native.Nat.{ℕ, zero, suc, ◌+◌, ◌-◌, ◌≤◌, ◌<◌, min}
use mathlib.Core.Path.{◌≡◌, refl, sym, ap, ◌∙◌}
use mathlib.Core.Logic.{⊎_elim}
use mathlib.Core.Bool.{Bool, true, false, cond, not, ◌&&◌}
use native.Mathlib.Omega.{arith}
use borrow.Author.Tests.{lt-ltb, le-ltb, ltb-true, eq-eqb, ne_eqb}
use lib.Dec.{ltb, eqb}
use Rattle.laws.proofs.Deciding.{apart}
use Rattle.mesh.specs.declared.lines.LineRule.{LineRule}
use Rattle.mesh.specs.Lines.{reach, cells_to_go, goes_in}
use Rattle.mesh.specs.Inside.{gone_of}

-- one move of a record in cell x that heads for h and waits w off its place
abbrev step : Bool → Bool → ℕ → ℕ → ℕ → ℕ
step u v w h x = cond (u && ltb (x + w) h) (x + 1) (cond (v && ltb (h + w) x) (x - 1) x)

rises : {u : Bool} (v : Bool) (w h x : ℕ) → u ≡ true → x + w < h → step u v w h x ≡ x + 1
rises v w h x e l = rw (e, lt-ltb (x + w) h l)

falls : (u : Bool) {v : Bool} (w h x : ℕ) → v ≡ true → h + w < x → step u v w h x ≡ x - 1
falls true w h x e l = rw (e, le-ltb (x + w) h (omega arith), lt-ltb (h + w) x l)
falls false w h x e l = rw (e, lt-ltb (h + w) x l)

-- a record stays that has not far enough to go, of the ways that there are
stays : (u v : Bool) (w h x : ℕ) → (u ≡ true → h ≤ x + w) → (v ≡ true → x ≤ h + w) → step u v w h x ≡ x
stays true true w h x f g = rw (le-ltb (x + w) h (f refl), le-ltb (h + w) x (g refl))
stays true false w h x f g = rw (le-ltb (x + w) h (f refl))
stays false true w h x f g = rw (le-ltb (h + w) x (g refl))
stays false false w h x f g = refl

-- the cells gone in k moves of n, of d, and how far off the record waits in move k
abbrev gone : Bool → ℕ → ℕ → ℕ → ℕ
gone late n k d = cond late (k - (n - d)) (min d k)

abbrev wait : Bool → ℕ → ℕ → ℕ
wait late n k = cond late (n - 1 - k) 0

gone_most : (late : Bool) (n k d : ℕ) → k ≤ n → gone late n k d ≤ d
gone_most true n k d h = omega arith
gone_most false n k d h = omega arith

gone-none : (late : Bool) (n k : ℕ) → k ≤ n → gone late n k 0 ≡ 0
gone-none true n k h = omega arith
gone-none false n k h = omega arith

-- it goes in move k just where that leaves it less to go
goes_on : (late : Bool) (n k d : ℕ) → k < n → gone late n k d + wait late n k < d → gone late n (suc k) d ≡ gone late n k d + 1
goes_on true n k d h l = omega arith
goes_on false n k d h l = omega arith

rests : (late : Bool) (n k d : ℕ) → k < n → d ≤ gone late n k d + wait late n k → gone late n (suc k) d ≡ gone late n k d
rests true n k d h l = omega arith
rests false n k d h l = omega arith

on_goes : (late : Bool) (n k d : ℕ) → k < n → gone late n k d + wait late n k < d → goes_in late n k d ≡ true
on_goes true n k d h l = lt-ltb (n - 1 - k) d (omega arith)
on_goes false n k d h l = lt-ltb k d (omega arith)

rest_stays : (late : Bool) (n k d : ℕ) → k < n → d ≤ gone late n k d + wait late n k → goes_in late n k d ≡ false
rest_stays true n k d h l = le-ltb (n - 1 - k) d (omega arith)
rest_stays false n k d h l = le-ltb k d (omega arith)

-- what goes in one of the moves that are made is gone then
pub gone_some : (t : LineRule) (k d : ℕ) → k < t.made → t.made ≤ t.times → goes_in t.late t.times k d ≡ true → 0 < gone_of t d
gone_some t k d h within = go t.late
  where
    go : (b : Bool) → goes_in b t.times k d ≡ true → 0 < gone b t.times t.made d
    go true e = omega (arith, ltb-true (t.times - 1 - k) d e)
    go false e = omega (arith, ltb-true k d e)

module _ (t : LineRule) (h p : ℕ) where
  abbrev far : ℕ
  far = cells_to_go t p h

  abbrev made : ℕ → ℕ
  made k = gone t.late t.times k far

  -- up the line
  up-far : p < h → far ≡ cond t.up (h - p) 0
  up-far l = rw (lt-ltb p h l)

  down-far : h ≤ p → far ≡ cond t.down (p - h) 0
  down-far l = rw (le-ltb p h l)

  abbrev w : ℕ → ℕ
  w k = wait t.late t.times k

  upward : p < h → (k : ℕ) → k < t.times → step t.up t.down (w k) h (p + made k) ≡ p + made (suc k)
  upward l k u = go t.up refl
    where
      go : (a : Bool) → t.up ≡ a → step t.up t.down (w k) h (p + made k) ≡ p + made (suc k)
      go false e =
          let z : far ≡ 0 = up-far l ∙ rw e in
          let g : made k ≡ 0 = ap (gone t.late t.times k) z ∙ gone-none t.late t.times k (omega arith) in
          let g' : made (suc k) ≡ 0 = ap (gone t.late t.times (suc k)) z ∙ gone-none t.late t.times (suc k) (omega arith) in
          stays t.up t.down (w k) h (p + made k) (λ f. absurd (let y : ◌≡◌ {A = ℕ} 0 1 = cc in omega arith)) (λ f. omega (arith, g, l)) ∙ omega (arith, g, g')
      go true e =
          let z : far ≡ h - p = up-far l ∙ rw e in
          let m = gone_most t.late t.times k far (omega arith) in
          ⊎_elim
          (λ i. rises t.down (w k) h (p + made k) e (omega (arith, z, i, l)) ∙ omega (arith, goes_on t.late t.times k far u i))
          (λ i. stays t.up t.down (w k) h (p + made k) (λ f. omega (arith, z, i, l)) (λ f. omega (arith, z, m, l)) ∙ omega (arith, rests t.late t.times k far u i))
          (apart (made k + w k) far)

  downward : h ≤ p → (k : ℕ) → k < t.times → step t.up t.down (w k) h (p - made k) ≡ p - made (suc k)
  downward l k u = go t.down refl
    where
      go : (a : Bool) → t.down ≡ a → step t.up t.down (w k) h (p - made k) ≡ p - made (suc k)
      go false e =
          let z : far ≡ 0 = down-far l ∙ rw e in
          let g : made k ≡ 0 = ap (gone t.late t.times k) z ∙ gone-none t.late t.times k (omega arith) in
          let g' : made (suc k) ≡ 0 = ap (gone t.late t.times (suc k)) z ∙ gone-none t.late t.times (suc k) (omega arith) in
          stays t.up t.down (w k) h (p - made k) (λ f. omega (arith, g, l)) (λ f. absurd (let y : ◌≡◌ {A = ℕ} 0 1 = cc in omega arith)) ∙ omega (arith, g, g')
      go true e =
          let z : far ≡ p - h = down-far l ∙ rw e in
          let m = gone_most t.late t.times k far (omega arith) in
          ⊎_elim
          (λ i. falls t.up (w k) h (p - made k) e (omega (arith, z, i, l)) ∙ omega (arith, goes_on t.late t.times k far u i))
          (λ i. stays t.up t.down (w k) h (p - made k) (λ f. omega (arith, z, m, l)) (λ f. omega (arith, z, i, l)) ∙ omega (arith, rests t.late t.times k far u i))
          (apart (made k + w k) far)

  first-none : made 0 ≡ 0
  first-none = none t.late
    where
      none : (b : Bool) → gone b t.times 0 far ≡ 0
      none true = omega arith
      none false = omega arith

  -- the cell after k moves
  reach-up : p < h → (k : ℕ) → k ≤ t.times → reach t h p k ≡ p + made k
  unfolding reach
  reach-up l zero u = omega (arith, first-none)
  reach-up l (suc k) u = ap (λ (x : ℕ). step t.up t.down (w k) h x) (reach-up l k (omega arith)) ∙ upward l k (omega arith)

  reach-down : h ≤ p → (k : ℕ) → k ≤ t.times → reach t h p k ≡ p - made k
  unfolding reach
  reach-down l zero u = omega (arith, first-none)
  reach-down l (suc k) u = ap (λ (x : ℕ). step t.up t.down (w k) h x) (reach-down l k (omega arith)) ∙ downward l k (omega arith)

  -- in which moves it goes
  pub goes_in_lem : (k : ℕ) → k < t.times → eqb (reach t h p (suc k)) (reach t h p k) ≡ not (goes_in t.late t.times k (cells_to_go t p h))
  goes_in_lem k u =
      ⊎_elim
      (λ i. ne_eqb (reach t h p (suc k)) (reach t h p k) (moved i) ∙ sym (ap not (on_goes t.late t.times k far u i)))
      (λ i. eq-eqb (reach t h p (suc k)) (reach t h p k) (stayed i) ∙ sym (ap not (rest_stays t.late t.times k far u i)))
      (apart (made k + w k) far)
    where
      far_below : h ≤ p → far ≤ p
      far_below l = rw (down-far l) (go t.down)
        where
          go : (b : Bool) → cond b (p - h) 0 ≤ p
          go true = omega arith
          go false = omega arith

      moved : made k + w k < far → reach t h p (suc k) ≡ reach t h p k → ⊥
      moved i e =
          let g = goes_on t.late t.times k far u i in
          ⊎_elim
          (λ l. omega (arith, reach-up l (suc k) (omega arith), reach-up l k (omega arith), g, e))
          (λ l. omega (arith, reach-down l (suc k) (omega arith), reach-down l k (omega arith), g, e, gone_most t.late t.times (suc k) far (omega arith), far_below l))
          (apart p h)

      stayed : far ≤ made k + w k → reach t h p (suc k) ≡ reach t h p k
      stayed i =
          let g = rests t.late t.times k far u i in
          ⊎_elim
          (λ l. omega (arith, reach-up l (suc k) (omega arith), reach-up l k (omega arith), g))
          (λ l. omega (arith, reach-down l (suc k) (omega arith), reach-down l k (omega arith), g))
          (apart p h)

  module _ (within : t.made ≤ t.times) where
    pub gone-far : gone_of t (cells_to_go t p h) ≤ cells_to_go t p h
    gone-far = gone_most t.late t.times t.made far within

    -- where a record ends, and whether it leaves
    pub ends_up : p < h → reach t h p t.made ≡ p + gone_of t (cells_to_go t p h)
    ends_up l = reach-up l t.made within

    pub ends_down : h ≤ p → reach t h p t.made ≡ p - gone_of t (cells_to_go t p h)
    ends_down l = reach-down l t.made within

    far_few : h ≤ p → far ≤ p
    far_few l = rw (down-far l) (go t.down)
      where
        go : (b : Bool) → cond b (p - h) 0 ≤ p
        go true = omega arith
        go false = omega arith

    pub leaves-gone : not (eqb (reach t h p t.made) p) ≡ ltb 0 (gone_of t (cells_to_go t p h))
    leaves-gone =
        ⊎_elim
        (λ i. rw (lt-ltb 0 (gone_of t far) i, ne_eqb (reach t h p t.made) p (moved i)))
        (λ i. rw (le-ltb 0 (gone_of t far) i, eq-eqb (reach t h p t.made) p (stayed i)))
        (apart 0 (gone_of t far))
      where
        moved : 0 < gone_of t far → reach t h p t.made ≡ p → ⊥
        moved i e =
            ⊎_elim
            (λ l. omega (arith, ends_up l, i, e))
            (λ l. omega (arith, ends_down l, i, e, gone-far, far_few l))
            (apart p h)

        stayed : gone_of t far ≤ 0 → reach t h p t.made ≡ p
        stayed i = ⊎_elim (λ l. omega (arith, ends_up l, i)) (λ l. omega (arith, ends_down l, i)) (apart p h)

    -- a record goes no further than it heads
    pub ends_in : (n : ℕ) → p < n → h < n → reach t h p t.made < n
    ends_in n i j =
        ⊎_elim
        (λ l. omega (arith, ends_up l, gone-far, up_few l, j))
        (λ l. omega (arith, ends_down l, i))
        (apart p h)
      where
        up_few : p < h → far ≤ h - p
        up_few l = rw (up-far l) (go t.up)
          where
            go : (b : Bool) → cond b (h - p) 0 ≤ h - p
            go true = omega arith
            go false = omega arith

-- the same of numbers that the code has
module _ (t : LineRule) (h p : ℕ) {d on : ℕ} (within : t.made ≤ t.times) (e : d ≡ cells_to_go t p h) (f : on ≡ gone_of t d) where
  ending_up : p < t.side → h < t.side → p < h → (p + on ≡ reach t h p t.made) × (p + on < t.side)
  ending_up i j l =
      let z : p + on ≡ reach t h p t.made = ap (λ (n : ℕ). p + n) (f ∙ ap (gone_of t) e) ∙ sym (ends_up t h p within l) in
      (z, omega (arith, z, ends_in t h p within t.side i j))

  ending_down : {r : ℕ} → p < t.side → h < t.side → h ≤ p → r ≡ p - on → (r ≡ reach t h p t.made) × (r < t.side)
  ending_down {r} i j l g =
      let z : r ≡ reach t h p t.made = g ∙ ap (λ (n : ℕ). p - n) (f ∙ ap (gone_of t) e) ∙ sym (ends_down t h p within l) in
      (z, omega (arith, z, ends_in t h p within t.side i j))

  pub ending_at : {up r : ℕ} → p < t.side → h < t.side → up ≡ cond (ltb p h) on 0 → r ≡ p + up - (on - up) → (r ≡ reach t h p t.made) × (r < t.side)
  ending_at {up} {r} i j k g =
      ⊎_elim
      (λ l. let a : up ≡ on = k ∙ rw (lt-ltb p h l) in let b : r ≡ p + on = omega (arith, g, a) in rw b (ending_up i j l))
      (λ l. let a : up ≡ 0 = k ∙ rw (le-ltb p h l) in ending_down i j l (omega (arith, g, a)))
      (apart p h)
