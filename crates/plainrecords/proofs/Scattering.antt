-- Records that go to the cells that their aims name, the last one first. One law for words, marks and aims.
use Prim.Native.Nat.{ℕ, zero, suc, ◌-◌, ◌≤◌, ◌<◌}
use mathlib.Core.Path.{◌≡◌, refl, sym, ap, ◌∙◌}
use mathlib.Core.Logic.{⊎_elim}
use mathlib.Core.List.{List}
use native.Mathlib.Omega.{arith}
use lib.ListN.{length, get_or, set, length-set}
use lib.Seq.{get_or-set_same, get_or-set_other}
use Rattle.laws.proofs.Deciding.{apart, same?}
use Rattle.plainrecords.specs.Inside.{Ready, Landed}

-- the records from r on are where their aims say, those below r where they were, and no other cell from r on holds anything
pub record Scattering (aims : List ℕ) (v : ℕ → ℕ) (count : ℕ) (old lane : List ℕ) (r : ℕ) : Type 0 where
  pub long : length lane ≡ length old
  pub below : (k : ℕ) → k < r → get_or lane k 0 ≡ get_or old k 0
  pub there : (q : ℕ) → r ≤ q → q < count → get_or lane (get_or aims q 0) 0 ≡ v q
  pub rest : (j : ℕ) → r ≤ j → ((q : ℕ) → r ≤ q → q < count → get_or aims q 0 ≡ j → ⊥) → get_or lane j 0 ≡ 0

module _ {count : ℕ} {words marks aims : List ℕ} (ready : Ready count words marks aims) where
  -- an aim is no cell before its own
  pub aims_behind : (r : ℕ) → r < count → r ≤ get_or aims r 0
  aims_behind zero h = omega arith
  aims_behind (suc r) h = omega (arith, aims_behind r (omega arith), ready.rising r (suc r) (omega arith) h)

  -- where a record stays, so do all before it
  pub stay_before : (r q : ℕ) → r < count → get_or aims r 0 ≡ r → q ≤ r → get_or aims q 0 ≡ q
  stay_before zero q h e l =
      let d : q ≡ 0 = omega arith in
      rw d e
  stay_before (suc r) q h e l =
      ⊎_elim
      (λ u. stay_before r q (omega arith) (omega (arith, e, aims_behind r (omega arith), ready.rising r (suc r) (omega arith) h)) (omega arith))
      (λ u.
      let d : q ≡ suc r = omega arith in
      rw d e)
      (apart q (suc r))

  module _ (v : ℕ → ℕ) (old : List ℕ) where
    module _ {lane : List ℕ} {r : ℕ} (to w : ℕ) (h : 0 < r) (h' : r ≤ count) (n : length old ≡ length marks) (e : to ≡ get_or aims (r - 1) 0) (g : w ≡ v (r - 1))
        (z : Scattering aims v count old lane r) where
      abbrev cleared : List ℕ
      cleared = set lane (r - 1) 0

      abbrev lane' : List ℕ
      lane' = set cleared to w

      behind : r - 1 ≤ to
      behind = omega (arith, aims_behind (r - 1) (omega arith))

      room : to < length cleared
      room = rw (length-set lane (r - 1) 0) (omega (arith, ready.below (r - 1) (omega arith), z.long))

      aside : (k : ℕ) → (k ≡ r - 1 → ⊥) → (k ≡ to → ⊥) → get_or lane' k 0 ≡ get_or lane k 0
      aside k d d' = get_or-set_other cleared to k w 0 d' ∙ get_or-set_other lane (r - 1) k 0 0 d

      there' : (q : ℕ) → r - 1 ≤ q → q < count → get_or lane' (get_or aims q 0) 0 ≡ v q
      there' q l u = ⊎_elim here later (same? q (r - 1))
        where
          here : q ≡ r - 1 → get_or lane' (get_or aims q 0) 0 ≡ v q
          here d = rw (d, ← e) (get_or-set_same cleared to w 0 room ∙ g)

          later : (q ≡ r - 1 → ⊥) → get_or lane' (get_or aims q 0) 0 ≡ v q
          later d =
              let past : r - 1 < q = omega (arith, d) in
              let above = ready.rising (r - 1) q past u in
              aside (get_or aims q 0) (λ x. omega (arith, x, above, behind, e)) (λ x. omega (arith, x, above, e)) ∙ z.there q (omega arith) u

      rest' : (j : ℕ) → r - 1 ≤ j → ((q : ℕ) → r - 1 ≤ q → q < count → get_or aims q 0 ≡ j → ⊥) → get_or lane' j 0 ≡ 0
      rest' j l f = ⊎_elim here later (same? j (r - 1))
        where
          missed : j ≡ to → ⊥
          missed d = f (r - 1) (omega arith) (omega arith) (sym e ∙ sym d)

          here : j ≡ r - 1 → get_or lane' j 0 ≡ 0
          here d = get_or-set_other cleared to j w 0 missed ∙ rw d (get_or-set_same lane (r - 1) 0 0 (omega (arith, z.long, ready.few)))

          later : (j ≡ r - 1 → ⊥) → get_or lane' j 0 ≡ 0
          later d = aside j d missed ∙ z.rest j (omega (arith, d)) (λ q p u x. f q (omega arith) u x)

      -- one record more
      pub scattering_next : Scattering aims v count old lane' (r - 1)
      scattering_next = record {
        long = length-set cleared to w ∙ length-set lane (r - 1) 0 ∙ z.long;
        below = λ k l. aside k (λ d. omega (arith, d)) (λ d. omega (arith, d, behind)) ∙ z.below k (omega arith);
        there = there';
        rest = rest';
      }

    -- the records below r stay where they are
    pub scattering_end : {lane : List ℕ} {r : ℕ} → r ≤ count → ((q : ℕ) → q < r → get_or aims q 0 ≡ q) → ((q : ℕ) → q < r → get_or old q 0 ≡ v q)
        → Scattering aims v count old lane r → Landed count aims v lane
    scattering_end {lane} {r} h stay same z = record {
      there = λ q u. ⊎_elim (λ l. ap (λ (k : ℕ). get_or lane k 0) (stay q l) ∙ z.below q l ∙ same q l) (λ l. z.there q l u) (apart q r);
      rest = λ j f. ⊎_elim (λ l. absurd (f j (omega arith) (stay j l))) (λ l. z.rest j l (λ q p u x. f q u x)) (apart j r);
    }

-- three lanes at once
pub record Spreading (count : ℕ) (w m a w' m' a' : List ℕ) (r : ℕ) : Type 0 where
  pub inside : r ≤ count
  pub words : Scattering a (λ q. get_or w q 0) count w w' r
  pub marks : Scattering a (λ q. 1) count m m' r
  pub aims : Scattering a (λ q. get_or a q 0) count a a' r

module _ {count : ℕ} {words₀ marks₀ aims₀ : List ℕ} (ready : Ready count words₀ marks₀ aims₀) where
  pub in_range : {words marks aims : List ℕ} {r : ℕ} → Spreading count words₀ marks₀ aims₀ words marks aims r → r ≤ length aims
  in_range z = omega (arith, z.inside, ready.few, z.aims.long, ready.aims_long)

  module _ {words marks aims : List ℕ} {r : ℕ} (h : 0 < r) (z : Spreading count words₀ marks₀ aims₀ words marks aims r) where
    taken : get_or aims (r - 1) 0 ≡ get_or aims₀ (r - 1) 0
    taken = z.aims.below (r - 1) (omega arith)

    pub spreading_next : {to : ℕ} → to ≡ get_or aims (r - 1) 0
        → Spreading count words₀ marks₀ aims₀ (set (set words (r - 1) 0) to (get_or words (r - 1) 0)) (set (set marks (r - 1) 0) to 1) (set (set aims (r - 1) 0) to (get_or aims (r - 1) 0)) (r - 1)
    spreading_next {to} e = record {
      inside = omega (arith, z.inside);
      words = scattering_next ready _ words₀ to _ h z.inside ready.words_long (e ∙ taken) (z.words.below (r - 1) (omega arith)) z.words;
      marks = scattering_next ready _ marks₀ to 1 h z.inside refl (e ∙ taken) refl z.marks;
      aims = scattering_next ready _ aims₀ to _ h z.inside ready.aims_long (e ∙ taken) taken z.aims;
    }

    -- where the last of r records stays, they all stay
    pub spreading_end : get_or aims (r - 1) 0 ≡ r - 1
        → Landed count aims₀ (λ q. get_or words₀ q 0) words × (Landed count aims₀ (λ q. 1) marks × Landed count aims₀ (λ q. get_or aims₀ q 0) aims)
    spreading_end e = (
      scattering_end ready _ words₀ z.inside stay (λ q l. refl) z.words,
      (
        scattering_end ready _ marks₀ z.inside stay (λ q l. ready.marked q (omega (arith, z.inside))) z.marks,
        scattering_end ready _ aims₀ z.inside stay (λ q l. refl) z.aims,
      ),
    )
      where
        stay : (q : ℕ) → q < r → get_or aims₀ q 0 ≡ q
        stay q l = stay_before ready (r - 1) q (omega (arith, z.inside)) (sym taken ∙ e) (omega arith)
