-- A group's part of the link list gives the partners of its cells, as far as it goes.
use Prim.Native.Nat.{ℕ, min, ◌+◌, ◌*◌, ◌<◌}
use mathlib.Core.Path.{◌≡◌, ap, ◌∙◌}
use mathlib.Core.List.{List}
use native.Mathlib.Omega.{arith}
use lib.ListN.{length}
use Rattle.laws.specs.Tables.{entries}
use Rattle.laws.proofs.Tables.{entry}
use Rattle.links.specs.Links.{entry_of}
use Rattle.array.specs.Cells.{groups, cell}
use denote.Bor.{Bor}
use Rattle.std.specs.Prelude.{Option, Some, None, IfSome}
use Rattle.std.specs.Option.{option_copied}
use Rattle.light.specs.Inside.{Listed}

-- the part of a group of the side 8 board
pub listed_links : (s g : ℕ) (l : List ℕ) → s ≡ 8 → g < groups s → l ≡ entries entry_of (64 * min g 63) 64 → Listed s g l
listed_links s g l e h f = record {
  entry = λ p u. rw (f, e) (entry entry_of (64 * min g 63) 64 p 0 (omega (arith, ap length f)) ∙ ap entry_of (there p));
}
  where
    there : (p : ℕ) → 64 * min g 63 + p ≡ cell 8 g p
    there p = let k : g < groups 8 = rw e at h in omega (arith, k)

-- a list that is read through a reference
pub listed_ref : (s g : ℕ) (a : Option (Bor (List ℕ))) (b : Option (List ℕ)) → option_copied a ≡ b → IfSome b (λ l. Listed s g l)
    → IfSome a (λ l. Listed s g l.now)
listed_ref s g (Some x) (Some y) e h = let f : x.now ≡ y = cc in rw f h
listed_ref s g (Some x) None e h = absurd (let z : ◌≡◌ {A = ℕ} 0 1 = cc in omega arith)
listed_ref s g None b e h = tt
