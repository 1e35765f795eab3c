-- The first line and a later one, by their two fields.
use Rattle.std.proofs.Common.{◌≡◌, ℕ, suc, ◌≤◌, ◌<◌, Bool, true, false, cond, not, ◌&&◌, List, [], Option, Some, None, length, refl, sym, ◌∙◌, leb, ltb, arith, drop_of_length-le}
use Rattle.std.specs.Bool.{then_some}
use Rattle.std.specs.Ordering.{is_le, is_lt, nat_cmp}
use Rattle.std.specs.Str.{bytes_eq}
use Rattle.std.proofs.lemmas.Bool.Decides.{nat_tests}
use borrow.Author.Tests.{leb-true, ltb-true}
use Rattle.texts.specs.Bytes.{bytes, tab}
use Rattle.texts.specs.Lines.{bytes_before, Parted, first_field, second_field}
use Rattle.texts.specs.Numbers.{number_of}
use Rattle.jobtext.specs.declared.CellWord.{CellWord}
use Rattle.jobtext.specs.Verdicts.{side_if, side_of, pair, in_order, mark_line}

in_range : (next i end : ℕ) → (is_le (nat_cmp next i) && is_lt (nat_cmp i end)) ≡ (leb next i && ltb i end)
in_range next i end = grind (arith, nat_tests)

-- a line without a tab has an empty second field, which writes no number
module _ (line : List ℕ) (e : bytes_before tab line ≡ length line) where
  no_second : second_field line ≡ []
  unfolding second_field
  no_second = drop_of_length-le line {i = suc (bytes_before tab line)} (omega arith)

  pub side_no_tab : None ≡ side_of line
  unfolding side_of number_of
  side_no_tab = rw no_second (bad (bytes_eq (first_field line) (bytes "side")))
    where
      bad : (t : Bool) → None ≡ side_if t None
      bad true = refl
      bad false = refl

  pub mark_no_tab : (next end : ℕ) → None ≡ mark_line next end line
  unfolding mark_line number_of
  mark_no_tab next end = rw no_second (bad (number_of (first_field line)))
    where
      bad : (n : Option ℕ) → None ≡ in_order next end (pair n None)
      bad (Some i) = refl
      bad None = refl

module _ {line first second : List ℕ} (p : Parted tab line first second) where
  first_is : first_field line ≡ first
  unfolding first_field
  first_is = sym p.front_is

  second_is : second_field line ≡ second
  unfolding second_field
  second_is = sym p.back_is

  module _ {name : List ℕ} (is : name ≡ bytes "side") {other : Bool} (e : other ≡ not (bytes_eq first name)) where
    named : side_if (not other) (number_of second) ≡ side_of line
    unfolding side_of
    named = rw (first_is, second_is, e, is) (twice (bytes_eq first (bytes "side")))
      where
        twice : (t : Bool) → side_if (not (not t)) (number_of second) ≡ side_if t (number_of second)
        twice true = refl
        twice false = refl

    pub side_unnamed : other ≡ true → None ≡ side_of line
    side_unnamed t = rw t at named

    pub side_named : other ≡ false → number_of second ≡ side_of line
    side_named t = rw t at named

  module _ (next end : ℕ) where
    marked : in_order next end (pair (number_of first) (number_of second)) ≡ mark_line next end line
    unfolding mark_line
    marked = rw (first_is, second_is)

    pub mark_no_index : None ≡ number_of first → None ≡ mark_line next end line
    mark_no_index e = rw (← e) at marked

    module _ (i : ℕ) (e : Some i ≡ number_of first) where
      pub mark_no_word : None ≡ number_of second → None ≡ mark_line next end line
      mark_no_word f = rw (← e, ← f) at marked

      module _ (w : ℕ) (f : Some w ≡ number_of second) where
        ordered : cond (leb next i && ltb i end) (Some (record { index = i; word = w })) None ≡ mark_line next end line
        ordered = rw (← e, ← f) at marked

        pub mark_ordered : {inside : Bool} → inside ≡ (is_le (nat_cmp next i) && is_lt (nat_cmp i end))
            → then_some inside (record { index = i; word = w }) ≡ mark_line next end line
        mark_ordered {inside} g = either _ inside ∙ rw (g, in_range next i end) ordered
          where
            either : {T : Type 0} (x : T) (t : Bool) → then_some t x ≡ cond t (Some x) None
            either x true = refl
            either x false = refl

-- the cell of a line is in order
pub mark_in_order : (next end : ℕ) (line : List ℕ) (c : CellWord) → mark_line next end line ≡ Some c → (next ≤ c.index) × (c.index < end)
unfolding mark_line
mark_in_order next end line c e = go (pair (number_of (first_field line)) (number_of (second_field line))) e
  where
    go : (p : Option CellWord) → in_order next end p ≡ Some c → (next ≤ c.index) × (c.index < end)
    go None q = cc
    go (Some d) q = by (leb next d.index) (ltb d.index end) refl refl q
      where
        by : (s t : Bool) → leb next d.index ≡ s → ltb d.index end ≡ t → cond (s && t) (Some d) None ≡ Some c → (next ≤ c.index) × (c.index < end)
        by true true a b r = let x : d ≡ c = cc in rw (← x) (leb-true next d.index a, ltb-true d.index end b)
        by true false a b r = cc
        by false t a b r = cc
