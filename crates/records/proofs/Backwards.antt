-- Distribute is concentrate run backwards, state by state: after k moves it has the same records in the same cells and slots as concentrate of them, started from
-- the cells that the aims name, has with k moves to go. And concentrate, then distribute with the old cells as aims, gives every marked cell its word back.
use Prim.Native.Nat.{ℕ, ◌-◌, ◌<◌}
use mathlib.Core.Path.{◌≡◌, sym, ap, ◌∙◌}
use mathlib.Core.Logic.{◌⊎◌, inl, inr, ⊎_elim}
use mathlib.Core.List.{List}
use native.Mathlib.Omega.{arith}
use lib.ListN.{length, get_or}
use Rattle.array.specs.Cells.{cells}
use Rattle.lists.specs.declared.Trip.TheVariants.{Concentrate, Distribute}
use Rattle.travel.specs.Travel.{stands}
use Rattle.slots.specs.declared.Rec.{Rec}
use Rattle.slots.specs.declared.Cell.{Cell}
use Rattle.slots.specs.Cells.{nothing, empty, alone}
use Rattle.course.proofs.Holds.{Holds, hold0, hold1, hold2, same_holds}
use Rattle.course.proofs.Content.{At}
use Rattle.course.proofs.Standing.{below, fits}
use Rattle.marks.specs.Marks.{rank_in}
use Rattle.lists.specs.Lists.{total_moves}
use Rattle.refusals.specs.Cases.{Good}
use Rattle.records.specs.Records.{marked_cell, count_in, record_of, cell_of}
use Rattle.records.specs.Entries.{Stood}
use Rattle.refusals.proofs.Aims.{RankedAims, Aimed, good_ranked, good_aimed}
use Rattle.records.proofs.Marked.{start_rises, start_inside, start_rising, first_rising, rank_past, marked_cell-rank_in, found}
use Rattle.records.proofs.Demand3.{Slot, Front, Spare, slot, holds, end-alone, distribute_alone, distribute_empty}

-- two slots hold the same record, as one list shows it and as the other does, or neither holds anything
abbrev pub Alike : ℕ → (ℕ → Rec) → (ℕ → Rec) → Rec → Rec → Type 0
Alike b R Q x y = ((r : ℕ) × (r < b) × (x ≡ R r) × (y ≡ Q r)) ⊎ ((x ≡ nothing) × (y ≡ nothing))

alike : {b : ℕ} {R Q : ℕ → Rec} {P : ℕ → Type 0} {c d : Cell} → ((k : ℕ) → P k → k < b) → Holds R P c → Holds Q P d → (f : Slot) → Alike b R Q (slot f c) (slot f d)
alike u (hold0 e n) (hold0 e' n') Front = inr (ap (λ (x : Cell). x.front) e, ap (λ (x : Cell). x.front) e')
alike u (hold0 e n) (hold0 e' n') Spare = inr (ap (λ (x : Cell). x.spare) e, ap (λ (x : Cell). x.spare) e')
alike u (hold0 e n) (hold1 i e' p n') f = absurd (n i p)
alike u (hold0 e n) (hold2 i j e' l p q n') f = absurd (n i p)
alike u (hold1 i e p n) (hold0 e' n') f = absurd (n' i p)
alike {Q = Q} u (hold1 i e p n) (hold1 i' e' p' n') Front = inl (i, u i p, ap (λ (x : Cell). x.front) e, ap (λ (x : Cell). x.front) e' ∙ ap Q (n i' p'))
alike u (hold1 i e p n) (hold1 i' e' p' n') Spare = inr (ap (λ (x : Cell). x.spare) e, ap (λ (x : Cell). x.spare) e')
alike u (hold1 i e p n) (hold2 i' j' e' l p' q' n') f = absurd (omega (arith, n i' p', n j' q'))
alike u (hold2 i j e l p q n) (hold0 e' n') f = absurd (n' i p)
alike u (hold2 i j e l p q n) (hold1 i' e' p' n') f = absurd (omega (arith, n' i p, n' j q))
alike {Q = Q} u (hold2 i j e l p q n) (hold2 i' j' e' l' p' q' n') Front =
    let ii : i' ≡ i = ⊎_elim (λ a. a) (λ a. ⊎_elim (λ b. omega arith) (λ b. omega arith) (n j' q')) (n i' p') in
    inl (i, u i p, ap (λ (x : Cell). x.front) e, ap (λ (x : Cell). x.front) e' ∙ ap Q ii)
alike {Q = Q} u (hold2 i j e l p q n) (hold2 i' j' e' l' p' q' n') Spare =
    let jj : j' ≡ j = ⊎_elim (λ a. ⊎_elim (λ b. omega arith) (λ b. omega arith) (n i' p')) (λ a. a) (n j' q') in
    inl (j, u j q, ap (λ (x : Cell). x.spare) e, ap (λ (x : Cell). x.spare) e' ∙ ap Q jj)

-- concentrate of marks and aims, and distribute of as many records whose aims name the marked cells
module _ {s : ℕ} (pos : 0 < s) {marks aims marks₂ aims₂ : List ℕ} (long : length marks ≡ cells s) (long₂ : length marks₂ ≡ cells s)
    (good : Good Concentrate s marks aims) (good₂ : Good Distribute s marks₂ aims₂) (as_many : count_in s marks₂ ≡ count_in s marks)
    (back : (r : ℕ) → r < count_in s marks → get_or aims₂ r 0 ≡ marked_cell marks (cells s) r) (words words₂ : List ℕ) where
  ranked : RankedAims s marks aims
  ranked = good_ranked s marks aims long good

  aimed : Aimed s (count_in s marks₂) marks₂ aims₂
  aimed = good_aimed s marks₂ aims₂ long₂ good₂

  pub state_by_state : (k : ℕ) {T U : ℕ → Cell} → Stood Distribute s k words₂ marks₂ aims₂ T → Stood Concentrate s (total_moves s - k) words marks aims U
      → (j : ℕ) → j < cells s → (f : Slot) → Alike (count_in s marks) (record_of Distribute s words₂ marks₂ aims₂) (record_of Concentrate s words marks aims) (slot f (T j)) (slot f (U j))
  state_by_state k {T} {U} o o' j u = alike (λ r p. p.0) (same_holds to from theirs) ours
    where
      theirs : Holds (record_of Distribute s words₂ marks₂ aims₂) (At (count_in s marks₂) (cell_of Distribute s marks₂ aims₂ k) j) (T j)
      theirs =
          holds (first_rising s words₂ marks₂ aims₂ aimed) (fits s (count_in s marks₂) pos (λ r. get_or aims₂ r 0) aimed.rising aimed.below (total_moves s - k))
          (below s (count_in s marks₂) pos (λ r. get_or aims₂ r 0) aimed.rising aimed.below (total_moves s - k)) o j u

      ours : Holds (record_of Concentrate s words marks aims) (At (count_in s marks) (cell_of Concentrate s marks aims (total_moves s - k)) j) (U j)
      ours =
          holds (start_rising s words marks aims ranked)
          (fits s (count_in s marks) pos (marked_cell marks (cells s)) (start_rises s words marks aims ranked) (start_inside s words marks aims ranked) (total_moves s - k))
          (below s (count_in s marks) pos (marked_cell marks (cells s)) (start_rises s words marks aims ranked) (start_inside s words marks aims ranked) (total_moves s - k)) o' j u

      same : (r : ℕ) → r < count_in s marks → cell_of Distribute s marks₂ aims₂ k r ≡ cell_of Concentrate s marks aims (total_moves s - k) r
      same r h = ap (stands s (total_moves s - k) r) (back r h)

      to : (r : ℕ) → At (count_in s marks₂) (cell_of Distribute s marks₂ aims₂ k) j r → At (count_in s marks) (cell_of Concentrate s marks aims (total_moves s - k)) j r
      to r p = let h : r < count_in s marks = omega (arith, p.0, as_many) in (h, sym (same r h) ∙ p.1)

      from : (r : ℕ) → At (count_in s marks) (cell_of Concentrate s marks aims (total_moves s - k)) j r → At (count_in s marks₂) (cell_of Distribute s marks₂ aims₂ k) j r
      from r p = (omega (arith, p.0, as_many), same r p.0 ∙ p.1)

  -- there and back: the words that concentrate left in front, distributed to the cells that were marked
  module _ {T U : ℕ → Cell} (there : Stood Concentrate s (total_moves s) words marks aims T) (again : Stood Distribute s (total_moves s) words₂ marks₂ aims₂ U)
      (same_words : (r : ℕ) → r < count_in s marks → get_or words₂ r 0 ≡ (T r).front.word) where
    pub word_back : (i : ℕ) → i < cells s → get_or marks i 0 ≡ 1 → U i ≡ alone (record { word = get_or words i 0; mark = 1; aim = i })
    word_back i h e =
        let r = rank_in marks i in
        let l : r < count_in s marks = rank_past marks i (cells s) h e in
        let l₂ : r < count_in s marks₂ = omega (arith, l, as_many) in
        let c : marked_cell marks (cells s) r ≡ i = marked_cell-rank_in marks (cells s) i h e in
        let a : get_or aims₂ r 0 ≡ i = back r l ∙ c in
        let moved = ap (λ (x : Cell). x.front.word) (end-alone pos long good words there r l (omega (arith, l₂, aimed.few))) in
        let w : get_or words₂ r 0 ≡ get_or words i 0 = same_words r l ∙ moved ∙ ap (λ (k : ℕ). get_or words k 0) c in
        let mark = (first_rising s words₂ marks₂ aims₂ aimed).marked r l₂ in
        ap U (sym a) ∙ distribute_alone pos long₂ good₂ words₂ again r l₂ ∙ ap alone (shown (get_or words₂ r 0) (get_or marks₂ r 0) (get_or aims₂ r 0) w mark a)
      where
        shown : (x m y : ℕ) → x ≡ get_or words i 0 → m ≡ 1 → y ≡ i → ◌≡◌ {A = Rec} (record { word = x; mark = m; aim = y }) (record { word = get_or words i 0; mark = 1; aim = i })
        shown x m y p q t = rw (p, q, t)

    pub rest_empty : (i : ℕ) → i < cells s → (get_or marks i 0 ≡ 1 → ⊥) → U i ≡ empty
    rest_empty i h d =
        distribute_empty pos long₂ good₂ words₂ again i h
        (λ r u e. let l : r < count_in s marks = omega (arith, u, as_many) in d (ap (λ (k : ℕ). get_or marks k 0) (sym (sym (back r l) ∙ e)) ∙ (found marks (cells s) r ranked.mark l).marked))
