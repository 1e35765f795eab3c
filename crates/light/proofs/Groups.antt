-- The swap of a lane, group after group: in group g the cells past place g trade with their partners, which come later, and the others
-- had their turn before, or are their own partners.
use Prim.Native.Nat.{ℕ, zero, suc, min, ◌+◌, ◌*◌, ◌≤◌, ◌<◌}
use mathlib.Core.Path.{◌≡◌, refl, ap, ◌∙◌}
use mathlib.Core.Bool.{true}
use mathlib.Core.Logic.{inl, inr, ⊎_elim}
use mathlib.Core.List.{List}
use native.Mathlib.Nat.{suc-mul, mul-le-mul_right}
use native.Mathlib.Numerals.{add-one}
use native.Mathlib.Omega.{arith}
use borrow.Author.Tests.{le-ltb}
use lib.ListN.{length, get_or, length-set}
use lib.Arith.{digits_lt}
use Rattle.std.specs.List.{swap}
use Rattle.std.proofs.lemmas.List.Edits.{swap_is}
use Rattle.laws.proofs.Deciding.{same?}
use Rattle.laws.proofs.Trading.{Paired, Trading, Traded, traded_start, traded_turn, traded_end}
use Rattle.array.specs.Cells.{is_side, groups, cells, cell, partner, is_board}
use Rattle.array.proofs.Board.{side_known, group_of, place_of}
use Rattle.light.specs.Lane.{swapped_lane}
use Rattle.light.specs.Inside.{Turned, GroupTurned}
use Rattle.light.proofs.Turning.{paired, board_side, board_known, board_cells}

-- cell p of group g is joined to cell g of group p
pub partner-at : (s g p : ℕ) → p < groups s → partner s (cell s g p) ≡ cell s p g
partner-at s g p h = rw (place_of s g p h, group_of s g p h)

-- which comes later where p is more than g
pub comes_later : (n g p : ℕ) → g < p → p < n → g * n + p < p * n + g
comes_later n g p h l = omega (arith, suc-mul g n, mul-le-mul_right n h)

-- both are cells of the board, which are few
pub record Ends (s g p : ℕ) : Type 0 where
  pub groups_few : groups s ≤ 64
  pub cells_few : cells s ≤ 4096
  pub one : cell s g p < cells s
  pub other : cell s p g < cells s

pub ends : (s g p : ℕ) → is_side s ≡ true → (g < groups s) × (p < groups s) → Ends s g p
ends s g p k h = record {
  groups_few = (side_known s k).groups_few;
  cells_few = (side_known s k).cells_few;
  one = digits_lt h.0 h.1;
  other = digits_lt h.1 h.0;
}

-- turns in which nothing is traded
skips : {n j : ℕ} {p : ℕ → ℕ} (pairs : Paired n p) (old l : List ℕ) (k : ℕ) → ((i : ℕ) → i < k → p (j + i) ≤ j + i) → j + k ≤ n → Traded n p j old l
    → Traded n p (j + k) old l
skips {j = j} pairs old l zero f h z = let e : j + 0 ≡ j = omega arith in rw e z
skips {n} {j} {p} pairs old l (suc k) f h z =
    let e : j + suc k ≡ j + k + 1 = omega arith in
    rw e (traded_turn pairs (omega arith) old l l (skips pairs old l k (λ i u. f i (omega arith)) (omega arith) z) {q = p (j + k)} refl (inr (f k (omega arith), refl)))

-- in group g the cells before place p had their turn, those up to place g among them
pub record Trades (s g p : ℕ) (l₀ l : List ℕ) : Type 0 where
  pub board : is_board s (length l₀) ≡ true
  pub after : g < p
  pub upto : p ≤ groups s
  pub long : length l ≡ cells s
  pub so : (old : List ℕ) → Traded (cells s) (partner s) (cell s g 0) old l₀ → Traded (cells s) (partner s) (cell s g p) old l

-- the cells up to place g do not come before their partners
not_before : (s g p : ℕ) → p ≤ g → g < groups s → partner s (cell s g p) ≤ cell s g p
not_before s g p h l =
    rw (partner-at s g p (omega arith))
    (⊎_elim (λ e. rw e (omega arith)) (λ d. omega (arith, comes_later (groups s) p g (omega (arith, d)) l)) (same? p g))

module _ {s : ℕ} {l₀ : List ℕ} (b : is_board s (length l₀) ≡ true) {g : ℕ} (h : g < groups s) where
  pub trades_start : Trades s g (g + 1) l₀ l₀
  trades_start = record {
    board = b;
    after = omega arith;
    upto = omega arith;
    long = board_cells s (length l₀) b;
    so = λ old z.
        let e : cell s g 0 + (g + 1) ≡ cell s g (g + 1) = omega arith in
        let u : cell s g 0 + (g + 1) ≤ cells s = omega (arith, digits_lt h h) in
        rw e at (skips (paired s (board_known s _ b)) old l₀ (g + 1) (λ i u. place i (not_before s g i (omega arith) h)) u z);
  }
    where
      place : (i : ℕ) → partner s (cell s g i) ≤ cell s g i → partner s (cell s g 0 + i) ≤ cell s g 0 + i
      place i v = let e : cell s g 0 + i ≡ cell s g i = omega arith in rw e v

-- turns, as the contracts have them, are those of the law
to_traded : {s j : ℕ} {old l : List ℕ} → j ≤ cells s → Turned s j old l → Traded (cells s) (partner s) j old l
to_traded h t = record { upto = h; long = t.size; trades = record { turned = t.holds } }

from_traded : {s j : ℕ} {old l : List ℕ} → Traded (cells s) (partner s) j old l → Turned s j old l
from_traded z = record { size = z.long; holds = z.trades.turned }

module _ {s g p : ℕ} {l₀ l : List ℕ} (z : Trades s g p l₀ l) where
  -- a cell whose turn comes, and its partner
  pub trades_ends : p < groups s → Ends s g p
  trades_ends h = ends s g p (board_side s (length l₀) z.board) (omega (arith, z.after), h)

  pub trades_other : (q : ℕ) → p < groups s → q ≡ partner s (cell s g p) → q < cells s
  trades_other q h e = rw (e, partner-at s g p h) (trades_ends h).other

  pub trades_end : groups s ≤ p → GroupTurned s g l₀ l
  trades_end h = record {
    so = λ old t.
        let e : cell s g p ≡ cell s (suc g) 0 = omega (arith, ap (λ (n : ℕ). cell s g n) full, suc-mul g (groups s)) in
        from_traded (rw e at (z.so old (to_traded (omega (arith, digits_lt inside inside)) t)));
  }
    where
      full : p ≡ groups s
      full = omega (arith, z.upto)

      inside : g < groups s
      inside = omega (arith, z.after, z.upto)

  module _ {q : ℕ} (h : p < groups s) (e : q ≡ partner s (cell s g p)) where
    pub trades_later : cell s g p < q
    trades_later = rw (e, partner-at s g p h) (comes_later (groups s) g p z.after h)

    -- a cell whose turn comes, and its partner, hold what they held at the first turn
    pub trades_waiting : (old : List ℕ) → Turned s (cell s g 0) old l₀ → (get_or l (cell s g p) 0 ≡ get_or old (cell s g p) 0) × (get_or l q 0 ≡ get_or old (cell s p g) 0)
    trades_waiting old t =
        let inside : g < groups s = omega (arith, z.after) in
        let c = (z.so old (to_traded (omega (arith, digits_lt inside inside)) t)).trades in
        let back : partner s (cell s p g) ≡ cell s g p = partner-at s p g inside in
        let q_is : q ≡ cell s p g = e ∙ partner-at s g p h in
        let late : cell s g p < cell s p g = comes_later (groups s) g p z.after h in (
          waits c (cell s g p) (digits_lt inside h) (omega arith) (rw (partner-at s g p h) (omega (arith, late))),
          ap (λ (n : ℕ). get_or l n 0) q_is ∙ waits c (cell s p g) (digits_lt h inside) (omega (arith, late)) (rw back (omega arith)),
        )
      where
        waits : Trading (cells s) (partner s) (cell s g p) (λ i. get_or old i 0) (λ i. get_or l i 0) → (i : ℕ) → i < cells s → cell s g p ≤ i → cell s g p ≤ partner s i
            → get_or l i 0 ≡ get_or old i 0
        waits c i u v w = rw (le-ltb (min i (partner s i)) (cell s g p) (omega arith)) at (c.turned i u)

    pub trades_turn : Trades s g (p + 1) l₀ (swap l (cell s g p) q)
    trades_turn =
        let k = trades_ends h in
        let other : q < length l = rw z.long (trades_other q h e) in
        rw (← swap_is l (cell s g p) q 0 (omega (arith, k, z.long)) other)
        (record {
          board = z.board;
          after = omega (arith, z.after);
          upto = omega arith;
          long = simp length-set z.long;
          so = λ old t.
              let w : cell s g (p + 1) ≡ cell s g p + 1 = omega arith in
              rw w (traded_turn (paired s (board_known s _ z.board)) k.one old l _ (z.so old t) e (inl (trades_later, refl)));
        })

-- the groups before g had their turn
pub record Rounds (s g : ℕ) (old l : List ℕ) : Type 0 where
  pub board : is_board s (length old) ≡ true
  pub upto : g ≤ groups s
  pub turns : Turned s (cell s g 0) old l

pub rounds_start : (s : ℕ) (l : List ℕ) → is_board s (length l) ≡ true → Rounds s 0 l l
rounds_start s l b =
    let e : cell s 0 0 ≡ 0 = omega arith in
    record { board = b; upto = omega arith; turns = rw e (from_traded (traded_start (cells s) (partner s) l (board_cells s (length l) b))) }

module _ {s g : ℕ} {old l : List ℕ} (z : Rounds s g old l) where
  pub rounds_turn : {l' : List ℕ} → g < groups s → GroupTurned s g l l' → Rounds s (g + 1) old l'
  rounds_turn h t = record { board = z.board; upto = omega arith; turns = rw (add-one g) (t.so old z.turns) }

  pub rounds_end : groups s ≤ g → l ≡ swapped_lane s old
  rounds_end h =
      let e : g ≡ groups s = omega (arith, z.upto) in
      rw z.board (traded_end old l (omega (arith, ap (λ (n : ℕ). cell s n 0) e)) (to_traded (omega (arith, ap (λ (n : ℕ). cell s n 0) e)) z.turns))
