-- The table at the end of a trip, of its lanes.
use Prim.Native.Nat.{ℕ}
use mathlib.Core.Path.{◌≡◌, refl, ap, subst, ◌∙◌}
use mathlib.Core.Bool.{Bool, true, false, cond}
use mathlib.Core.Logic.{⊎_elim}
use mathlib.Core.List.{List}
use native.Mathlib.Omega.{arith}
use lib.ListN.{length, get_or, get_or-eq_default}
use Rattle.laws.proofs.Deciding.{apart}
use Rattle.laws.proofs.Tables.{length-entries, entry_at}
use Rattle.array.specs.Cells.{cells}
use Rattle.clearing.specs.Cleared.{zeros}
use Rattle.lists.specs.declared.Trip.{Trip}
use Rattle.lists.specs.declared.Trip.TheVariants.{Concentrate, Distribute}
use Rattle.slots.specs.declared.Cell.{Cell}
use Rattle.slots.specs.Cells.{empty, cell_at}
use Rattle.plainrecords.specs.Tables.{alone_at, end_table}
use Rattle.plainrecords.specs.Entries.{TableIs}
use Rattle.plainrecords.specs.Inside.{is_held, cell_before, ArrangedBy}

zero_at : (l : List ℕ) {z : List ℕ} → z ≡ zeros l → (j : ℕ) → get_or z j 0 ≡ 0
zero_at l {z} e j =
    ⊎_elim
    (λ h. ap (λ (x : List ℕ). get_or x j 0) e ∙ entry_at (λ i. 0) (length l) j 0 h)
    (λ h. get_or-eq_default z 0 (omega (arith, ap length e, length-entries {A = ℕ} (λ i. 0) 0 (length l))))
    (apart j (length l))

-- the table by the cells that hold a record
end_held : (trip : Trip) (s : ℕ) (w m a : List ℕ) (j : ℕ)
    → cond (is_held trip (cells s) m a j) (alone_at (get_or w (cell_before trip (cells s) m a j) 0) j) empty ≡ end_table trip s w m a j
end_held Concentrate s w m a j = refl
end_held Distribute s w m a j = refl

-- a cell of six lanes is the record's alone, or empty
held_alone : (held : Bool) (v j : ℕ) {w m a w₂ m₂ a₂ : ℕ} → w ≡ cond held v 0 → m ≡ cond held 1 0 → a ≡ cond held j 0 → w₂ ≡ 0 → m₂ ≡ 0 → a₂ ≡ 0
    → ◌≡◌ {A = Cell} (record { front = record { word = w; mark = m; aim = a }; spare = record { word = w₂; mark = m₂; aim = a₂ } }) (cond held (alone_at v j) empty)
held_alone held v j ew em ea ew₂ em₂ ea₂ =
    (λ i. record { front = record { word = ew i; mark = em i; aim = ea i }; spare = record { word = ew₂ i; mark = em₂ i; aim = ea₂ i } }) ∙ either held
  where
    either : (t : Bool) → ◌≡◌ {A = Cell} (record { front = record { word = cond t v 0; mark = cond t 1 0; aim = cond t j 0 }; spare = record { word = 0; mark = 0; aim = 0 } }) (cond t (alone_at v j) empty)
    either true = refl
    either false = refl

pub ended : {trip : Trip} (s : ℕ) {w m a w' m' a' : List ℕ} (w₂ m₂ a₂ : List ℕ) {w₂' m₂' a₂' : List ℕ} → length m ≡ cells s
    → ArrangedBy trip (length m) w m a w' m' a' → w₂' ≡ zeros w₂ → m₂' ≡ zeros m₂ → a₂' ≡ zeros a₂
    → TableIs s (end_table trip s w m a) (cell_at w' m' a' w₂' m₂' a₂')
ended {trip} s {w} {m} {a} {w'} {m'} {a'} w₂ m₂ a₂ n z ew em ea =
    let o : ArrangedBy trip (cells s) w m a w' m' a' = subst (λ (k : ℕ). ArrangedBy trip k w m a w' m' a') n z in
    record {
      each = λ j h.
          held_alone (is_held trip (cells s) m a j) (get_or w (cell_before trip (cells s) m a j) 0) j
          (o.words.each j h) (o.marks.each j h) (o.aims.each j h) (zero_at w₂ ew j) (zero_at m₂ em j) (zero_at a₂ ea j)
          ∙ end_held trip s w m a j;
    }
