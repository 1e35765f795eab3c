-- A starting table in arrays, and the states that the runs up to a cut make of it.
use Prim.Native.Nat.{ℕ, zero, suc, ◌≤◌, ◌<◌}
use mathlib.Core.Path.{◌≡◌, refl, ap, ap₂, ◌∙◌}
use mathlib.Core.List.{List, ◌++◌}
use native.Mathlib.Omega.{arith}
use lib.ListN.{length, take}
use lib.Seq.{length-take-le}
use Rattle.laws.proofs.Numbers.{fourth_grows}
use Rattle.array.specs.Cells.{cells}
use Rattle.std.specs.Prelude.{Result, Ok, Err}
use Rattle.std.specs.Result.{IsOk}
use Rattle.answers.specs.declared.Answer.{Answer}
use Rattle.answers.specs.declared.Moves.{Moves}
use Rattle.answers.specs.declared.Refusal.{Refusal}
use Rattle.answers.specs.Answers.{verdict, accepted_by, answer_of}
use Rattle.answers.proofs.Judging.{refuses}
use Rattle.answers.specs.Entry.{Unlogged}
use Rattle.lists.specs.declared.Trip.TheVariants.{Concentrate}
use Rattle.lists.specs.Lists.{total_moves, runs_of}
use Rattle.slots.specs.declared.Cell.{Cell}
use Rattle.slots.specs.Cells.{Sized}
use Rattle.refusals.specs.Cases.{cut_cases}
use Rattle.refusals.specs.Cuts.{first_runs}
use Rattle.refusals.proofs.Accepting.{cut_accepted}
use Rattle.refusals.proofs.Verdicting.{Fitting}
use Rattle.records.specs.Entries.{sizes_of, Stood}
use Rattle.captures.specs.declared.Held.{Held}
use Rattle.captures.specs.declared.start.Start.{Start}
use Rattle.captures.specs.Startable.{Startable}
use Rattle.captures.specs.Replays.{held_in, held_below, state_after, records_after}

-- a board of side 3 has 81 cells
pub few_cells : (s : ℕ) → s ≤ 3 → cells s ≤ 81
few_cells s h = fourth_grows h

pub small_board : (b : Start) → b.n ≤ 81
small_board b = omega (arith, b.size, few_cells b.side b.startable.small)

-- the first n entries of an array that has as many
-- a starting table in its arrays, and the fronts of three more of at least as many entries
pub board_sized : (b : Start) (x y v : List ℕ) → b.n ≤ length x → b.n ≤ length y → b.n ≤ length v
    → Sized (cells b.side) (take b.n b.words) (take b.n b.marks) (take b.n b.aims) (take b.n x) (take b.n y) (take b.n v)
board_sized b x y v i j k =
    let z = b.startable in
    record {
      words = z.words_long;
      marks = z.marks_long;
      aims = z.aims_long;
      words2 = length-take-le b.n x i ∙ b.size;
      marks2 = length-take-le b.n y j ∙ b.size;
      aims2 = length-take-le b.n v k ∙ b.size;
    }

-- the state after so many moves is that of the run up to that cut
pub state_stood : (s made : ℕ) (words marks aims : List ℕ) → Stood Concentrate s made words marks aims (state_after s words marks aims made)
state_stood s made words marks aims = record { shown = λ j h. refl }

-- tables that hold the same in their first n cells hold the same records there
held_cong : (T U : ℕ → Cell) (n : ℕ) → ((j : ℕ) → j < n → T j ≡ U j) → held_below T n ≡ held_below U n
unfolding held_below
held_cong T U zero same = refl
held_cong T U (suc n) same =
    ap₂ (λ (l : List Held) (c : Cell). l ++ (held_in n 0 c.front ++ held_in n 1 c.spare)) (held_cong T U n (λ j h. same j (omega arith))) (same n (omega arith))

-- an entry whose answer has the number 0 took its lanes
pub is_taken : (r : Result Moves Refusal) → (answer_of r).number ≡ 0 → IsOk r
is_taken (Ok m) e = refl
is_taken (Err x) e = absurd (refuses x e)

-- a run up to a cut of a starting table is not refused, and leaves its records
module _ {s made : ℕ} {w m a w₂ m₂ a₂ : List ℕ} (z : Startable s w m a) (n : Sized (cells s) w m a w₂ m₂ a₂) (inside : made ≤ total_moves s) where
  fitting : Fitting s (length m) (length a) (sizes_of w w₂ m₂ a₂)
  fitting = record {
    side = z.side;
    words = n.words;
    marks = n.marks;
    aims = n.aims;
    words2 = n.words2;
    marks2 = n.marks2;
    aims2 = n.aims2;
  }

  pub taken : {r : Answer} → r ≡ verdict (cut_cases Concentrate s made (sizes_of w w₂ m₂ a₂) m a) (accepted_by (first_runs made (runs_of Concentrate s)))
      → r.number ≡ 0
  taken e =
      let answer = accepted_by (first_runs made (runs_of Concentrate s)) in
      ap (λ (x : Answer). x.number) (e ∙ cut_accepted Concentrate s (sizes_of w w₂ m₂ a₂) m a fitting z.good answer made inside)

  pub state_listed : {r : Answer} {T : ℕ → Cell} {K : Type 0} {t : List Held} {k : ℕ}
      → Unlogged (cut_cases Concentrate s made (sizes_of w w₂ m₂ a₂) m a) (first_runs made (runs_of Concentrate s)) (Stood Concentrate s made w m a T) K r
      → k ≡ cells s → t ≡ held_below T k → t ≡ records_after s w m a made
  state_listed {T = T} c e l =
      let same : held_below T (cells s) ≡ records_after s w m a made = held_cong T _ (cells s) (c.lanes (taken c.answer)).shown in
      rw (e, same) at l
