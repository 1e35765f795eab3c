-- What the small functions of a replay tell of a line, in the terms of the code.
use Prim.Native.Nat.{ℕ, zero, suc, ◌+◌, ◌-◌, ◌*◌, ◌≤◌, ◌<◌}
use mathlib.Core.Path.{◌≡◌, refl, sym, ap, ap₂, ◌∙◌}
use mathlib.Core.List.{List, [], ◌∷◌}
use mathlib.Core.Bool.{Bool, true, false, cond, ◌&&◌}
use mathlib.Core.List.{[]}
use native.Mathlib.Omega.{arith}
use mathlib.Core.Logic.{⊎_elim}
use Rattle.laws.proofs.Deciding.{apart}
use borrow.Author.Tests.{eq-eqb, ne_eqb, le-leb, lt-leb, lt-ltb, le-ltb, eqb-true, eqb-false, leb-true, ltb-true}
use lib.Dec.{eqb, leb, ltb}
use lib.ListN.{length-map, drop}
use Rattle.laws.proofs.Bools.{both_left, both_right}
use Rattle.array.specs.Cells.{cells}
use Rattle.runs.specs.Runs.{codes}
use Rattle.lists.specs.Lists.{total_moves, concentrate_runs}
use Rattle.lists.proofs.Counts.{concentrate_length}
use Rattle.std.proofs.lemmas.Option.{slice_get-get_or}
use Rattle.captures.specs.declared.Held.{Held}
use Rattle.captures.specs.declared.walk.Tally.{Tally}
use Rattle.std.specs.Prelude.{Option, Some, None, not, slice_get}
use Rattle.std.specs.Option.{option_or, option_eq}
use Rattle.std.specs.Bool.{then_some}
use Rattle.captures.specs.Captures.{in_turn, in_place}
use Rattle.captures.specs.Replays.{code_at, same_held}
use Rattle.captures.specs.Inside.{code_in, unless, behind_move, is_first}

-- what a number in its turn is
pub turn_known : (s made number : ℕ) → in_turn s made number ≡ true → (number ≡ suc made) × (number ≤ total_moves s)
turn_known s made number h =
    let next = eqb number (suc made) in
    let few = leb number (total_moves s) in
    (eqb-true number (suc made) (both_left next few h), leb-true number (total_moves s) (both_right next few h))

-- what a record in its place is
pub place_known : (s made next : ℕ) (h : Held) → in_place s made next h ≡ true
    → (0 < made) × ((h.cell < cells s) × ((h.slot ≤ 1) × (next ≤ h.cell * 2 + h.slot)))
place_known s made next h e =
    let c = leb next (h.cell * 2 + h.slot) in
    let b = leb h.slot 1 && c in
    let a = ltb h.cell (cells s) && b in
    let i = both_right (ltb 0 made) a e in
    let j = both_right (ltb h.cell (cells s)) b i in (
      ltb-true 0 made (both_left (ltb 0 made) a e),
      (
        ltb-true h.cell (cells s) (both_left (ltb h.cell (cells s)) b i),
        (leb-true h.slot 1 (both_left (leb h.slot 1) c j), leb-true next (h.cell * 2 + h.slot) (both_right (leb h.slot 1) c j)),
      ),
    )

-- `is_first`
pub first_is : (h : Held) (r : List Held) (seen : ℕ) (x : Option Held) → x ≡ slice_get r seen → option_eq same_held (Some h) x ≡ is_first h (drop seen r)
first_is h r seen x e = ap (option_eq same_held (Some h)) e ∙ go r seen
  where
    go : (r : List Held) (seen : ℕ) → option_eq same_held (Some h) (slice_get r seen) ≡ is_first h (drop seen r)
    go [] zero = refl
    go [] (suc k) = refl
    go (x ∷ r) zero = refl
    go (x ∷ r) (suc k) = go r k

-- a move in its turn is one of the list, which has its code
code_there : (s made number : ℕ) → in_turn s made number ≡ true → code_in s number ≡ Some (code_at s number)
code_there s made number h =
    let turn = turn_known s made number h in
    slice_get-get_or (codes (concentrate_runs s)) (number - 1) 0 (rw length-map (omega (arith, turn, concentrate_length s)))

-- a move that is named where something does not hold
then_unless : (holds : Bool) (number : ℕ) → then_some (not holds) number ≡ unless holds number
then_unless true number = refl
then_unless false number = refl

missing_unless : (count seen number : ℕ) → then_some (ltb seen count) number ≡ unless (leb count seen) number
missing_unless count seen number =
    ⊎_elim (λ h. rw (lt-ltb seen count h, lt-leb count seen h)) (λ h. rw (le-ltb seen count h, le-leb count seen h)) (apart seen count)

-- a code is the list's, or that of the list is another
same_code : (x y : ℕ) → eqb x y ≡ eqb y x
same_code x y = go (eqb x y) refl
  where
    go : (t : Bool) → eqb x y ≡ t → eqb x y ≡ eqb y x
    go true e = e ∙ sym (eq-eqb y x (sym (eqb-true x y e)))
    go false e = e ∙ sym (ne_eqb y x (λ h. eqb-false x y e (sym h)))

-- a code that is not the list's is named
other_unless : (s made number code : ℕ) → in_turn s made number ≡ true
    → then_some (not (option_eq eqb (code_in s number) (Some code))) number ≡ unless (eqb code (code_at s number)) number
other_unless s made number code h =
    rw (code_there s made number h, same_code code (code_at s number)) (then_unless (eqb (code_at s number) code) number)

pub turned : (s count number code : ℕ) (c missing other first d : Option ℕ) (ne : Bool) (t : Tally) (good : Bool) → good ≡ in_turn s t.made number
    → good ≡ true → c ≡ code_in s number → missing ≡ then_some (ltb t.seen count) t.made
    → ne ≡ not (option_eq eqb c (Some code)) → other ≡ then_some ne number
    → first ≡ option_or t.differs missing → d ≡ option_or first other
    → Some (record { made = number; next = 0; seen = 0; differs = d }) ≡ cond (in_turn s t.made number) (Some (behind_move s t count number code)) None
turned s count number code c missing other first d ne t good g h e f v o p q =
    rw (sym g ∙ h) (ap (λ (x : Option ℕ). Some (record { made = number; next = 0; seen = 0; differs = x })) all)
  where
    named : other ≡ unless (eqb code (code_at s number)) number
    named = o ∙ ap (λ (x : Bool). then_some x number) (rw e at v) ∙ other_unless s t.made number code (sym g ∙ h)

    all : d ≡ option_or (option_or t.differs (unless (leb count t.seen) t.made)) (unless (eqb code (code_at s number)) number)
    all = q ∙ ap₂ option_or (p ∙ ap (option_or t.differs) (f ∙ missing_unless count t.seen t.made)) named
