-- The table that a trip ends with, cell by cell: where the records of the stepping engine end is where the plain one puts them.
use Prim.Native.Nat.{ℕ, ◌<◌}
use mathlib.Core.Path.{◌≡◌, refl, sym, ap, ap₂, ◌∙◌}
use mathlib.Core.Bool.{Bool, true, false, cond}
use mathlib.Core.List.{List}
use lib.Dec.{ltb, eqb}
use lib.ListN.{length, get_or}
use borrow.Author.Tests.{eqb-true, eqb-false, ltb-true, ltb-false}
use Rattle.laws.proofs.Searching.{none_found, found_passes}
use Rattle.array.specs.Cells.{cells}
use Rattle.lists.specs.declared.Trip.{Trip}
use Rattle.lists.specs.declared.Trip.TheVariants.{Concentrate, Distribute}
use Rattle.lists.specs.Lists.{total_moves}
use Rattle.slots.specs.declared.Rec.{Rec}
use Rattle.slots.specs.declared.Cell.{Cell}
use Rattle.slots.specs.Cells.{empty, alone}
use Rattle.refusals.specs.Cases.{Good}
use Rattle.refusals.proofs.Aims.{good_aimed, first-marked}
use Rattle.records.specs.Records.{marked_cell, count_in, record_of}
use Rattle.records.specs.Entries.{Stood}
use Rattle.records.proofs.Demand3.{records_marked, records_ranked, end-alone, end_empty, distribute_alone, distribute_empty}
use Rattle.plainrecords.specs.Entries.{TableIs}
use Rattle.plainrecords.specs.Tables.{alone_at, aiming_at, end_table}

-- a record that is marked and aims at cell j
aimed_alone : (x : Rec) (j : ℕ) → x.mark ≡ 1 → x.aim ≡ j → alone x ≡ alone_at x.word j
aimed_alone x j e f = ap₂ (λ (m a : ℕ). alone (record { word = x.word; mark = m; aim = a })) e f

module _ (s : ℕ) (pos : 0 < s) (words marks aims : List ℕ) (long : length marks ≡ cells s) where
  abbrev b : ℕ
  b = count_in s marks

  concentrate_ends : Good Concentrate s marks aims → {T : ℕ → Cell} → Stood Concentrate s (total_moves s) words marks aims T
      → (j : ℕ) → j < cells s → T j ≡ end_table Concentrate s words marks aims j
  concentrate_ends good {T} o j u = go (ltb j b) refl
    where
      go : (t : Bool) → ltb j b ≡ t → T j ≡ cond t (alone_at (get_or words (marked_cell marks (cells s) j) 0) j) empty
      go true e =
          let h = ltb-true j b e in
          end-alone pos long good words o j h u
          ∙ aimed_alone (record_of Concentrate s words marks aims j) j (records_marked pos long good words j h).marked (records_ranked pos long good words j h)
      go false e = end_empty pos long good words o j u (ltb-false j b e)

  distribute_ends : Good Distribute s marks aims → {T : ℕ → Cell} → Stood Distribute s (total_moves s) words marks aims T
      → (j : ℕ) → j < cells s → T j ≡ end_table Distribute s words marks aims j
  distribute_ends good {T} o j u = go (ltb (aiming_at aims b j) b) refl
    where
      go : (t : Bool) → ltb (aiming_at aims b j) b ≡ t → T j ≡ cond t (alone_at (get_or words (aiming_at aims b j) 0) j) empty
      go true e =
          let r = aiming_at aims b j in
          let h = ltb-true (aiming_at aims b j) b e in
          let f = eqb-true (get_or aims r 0) j (found_passes (λ r. eqb (get_or aims r 0) j) b h) in
          ap T (sym f) ∙ distribute_alone pos long good words o r h
          ∙ aimed_alone (record_of Distribute s words marks aims r) j (first-marked (good_aimed s marks aims long good) r h) f
      go false e =
          distribute_empty pos long good words o j u (λ r h f. eqb-false (get_or aims r 0) j (none_found (λ r. eqb (get_or aims r 0) j) b e r h) f)

  ends : (trip : Trip) → Good trip s marks aims → {T : ℕ → Cell} → Stood trip s (total_moves s) words marks aims T
      → (j : ℕ) → j < cells s → T j ≡ end_table trip s words marks aims j
  ends Concentrate = concentrate_ends
  ends Distribute = distribute_ends

  -- so the end's table is where the records stand in the end
  pub stood_by : (trip : Trip) → Good trip s marks aims → {T : ℕ → Cell} → TableIs s (end_table trip s words marks aims) T
      → Stood trip s (total_moves s) words marks aims T
  stood_by trip good o = record { shown = λ j u. o.each j u ∙ sym (ends trip good (record { shown = λ j u. refl }) j u) }
