-- Texts that fill the program's buffer.
use Prim.Native.Nat.{ℕ, ◌≤◌}
use mathlib.Core.Path.{◌≡◌}
use mathlib.Core.List.{List}
use native.Mathlib.Omega.{arith}
use lib.ListN.{length, take}
use lib.Seq.{length-take-le}
use Rattle.lists.specs.Lists.{total_moves}
use Rattle.printing.specs.Buffers.{Written, OutFilled}
use Rattle.printing.proofs.Filling.{filled}
use Rattle.answertext.specs.Answers.{answer_text, refused_text}
use Rattle.answertext.proofs.Room.{answer_fits, refusal_short}
use Rattle.jobs.specs.Filled.{printed_of}

pub refused_filled : (n p : ℕ) → {a : List ℕ} {r : ℕ} {b : List ℕ} → length a ≡ 196608 → Written a 0 (refused_text n p) r b → OutFilled a (refused_text n p) r b
refused_filled n p l w = filled (omega (arith, refusal_short n p)) w

pub printed : (s marked n : ℕ) (codes moved words : List ℕ) → n ≡ total_moves s → s ≤ 8 → marked ≤ 4096 → {a : List ℕ} {r : ℕ} {b : List ℕ}
    → length a ≡ 196608 → length codes ≡ 51
    → marked ≤ length words → Written a 0 (answer_text (take n codes) (take n moved) (take marked words)) r b
    → OutFilled a (printed_of s marked codes moved words) r b
printed s marked n codes moved words e h k l c m w =
    let all : total_moves s ≤ 51 = omega arith in
    let p : length (take (total_moves s) codes) ≤ 51 = rw (length-take-le (total_moves s) codes (omega arith)) all in
    let q : length (take marked words) ≤ 4096 = rw (length-take-le marked words m) k in
    filled (omega (arith, answer_fits (take (total_moves s) codes) (take (total_moves s) moved) (take marked words) p q)) (rw e at w)
