-- What private functions' contracts cite; the public contracts are read without it.
use Rattle.std.specs.Prelude.{ℕ, ◌+◌, ◌≤◌, ◌<◌, ◌≡◌, Bool, cond, List, eqb, get_or}
use Rattle.std.proofs.lemmas.List.Edits.{sets}
use Rattle.laws.specs.Sums.{sum}
use Rattle.laws.specs.Tables.{entries}
use Rattle.array.specs.declared.moves.Move.{Move}
use Rattle.array.specs.declared.moves.Move.TheVariants.{Swap, Electronic}
use Rattle.array.specs.Cells.{cells, partner}
use Rattle.runs.specs.declared.Run.{Run}
use Rattle.runs.specs.Runs.{swaps_in}
use Rattle.lists.specs.declared.Trip.{Trip}
use Rattle.slots.specs.declared.Cell.{Cell}
use Rattle.slots.specs.Cells.{marks_in}
use Rattle.mesh.specs.declared.Leg.{Leg}
use Rattle.mesh.specs.Lines.{goes_in}
use Rattle.mesh.specs.Mesh.{line_rule_of, ran_on, went_in}
use Rattle.mover.specs.declared.Tally.{Tally}
use Rattle.mover.specs.Runs.{leg_of, swapped, ran_by, gone_by, made_of}

-- how many records go in move j, by how far those had to go that went
abbrev pub movers : Bool → ℕ → List ℕ → ℕ → ℕ
movers late times went j = sum 8 (λ d. cond (goes_in late times j d) (get_or went d 0) 0)

-- how many records move j took to another cell
abbrev pub tallied : Bool → ℕ → Tally → ℕ → ℕ
tallied late times t j = movers late times t.went j + t.swapped

-- no more than there are slots
pub record FewWent (went : List ℕ) : Type 0 where
  pub few : (d : ℕ) → d < 8 → get_or went d 0 ≤ 8192

-- how many records a swap takes to another cell
abbrev pub leaving : ℕ → (ℕ → Cell) → ℕ
leaving s T = sum (cells s) (λ i. cond (eqb (partner s i) i) 0 (marks_in (T i)))

-- m swaps were made, and tallied
pub record MadeSwaps (s m : ℕ) (t : Tally) (T T' : ℕ → Cell) : Type 0 where
  pub made : (i : ℕ) → i < cells s → T' i ≡ swapped s m T i
  pub went : (d : ℕ) → d < 8 → get_or t.went d 0 ≡ 0
  pub leaves : t.swapped ≡ cond (eqb m 0) 0 (leaving s T)

-- the moves of a leg were
pub record MadeLeg (l : Leg) (t : Tally) (T T' : ℕ → Cell) : Type 0 where
  pub made : (i : ℕ) → i < cells l.side → T' i ≡ ran_on (line_rule_of l) T i
  pub went : (d : ℕ) → d < 8 → get_or t.went d 0 ≡ went_in (line_rule_of l) d T
  pub leaves : t.swapped ≡ 0

-- the first m moves of a run of so many were
abbrev pub Made : Trip → (s swaps : ℕ) → Move → (times m : ℕ) → Tally → (T T' : ℕ → Cell) → Type 0
Made trip s swaps Swap times m t T T' = MadeSwaps s m t T T'
Made trip s swaps (Electronic w) times m t T T' = MadeLeg (leg_of trip s swaps w times m) t T T'

-- those of run r were, as far as the k moves go that are left of the list
pub record MadeRun (trip : Trip) (s swaps : ℕ) (r : Run) (k : ℕ) (t : Tally) (T T' : ℕ → Cell) : Type 0 where
  pub upto : t.made ≡ made_of r k
  pub swaps-made : t.swaps ≡ swaps_in r.step t.made
  pub moved : Made trip s swaps r.step r.times t.made t T T'

-- the first m moves of a run were made, and logged from a place on
pub record RanRun (trip : Trip) (s swaps : ℕ) (x : Move) (times m from : ℕ) (T T' : ℕ → Cell) (moved moved' : List ℕ) : Type 0 where
  pub made : (i : ℕ) → i < cells s → T' i ≡ ran_by trip s swaps x times m T i
  pub log : moved' ≡ sets moved from (entries (λ j. gone_by trip s swaps x times j T) 0 m)
