-- The line of a replay: it fits the program's buffer, and is put whole.
use Rattle.std.proofs.Common.{◌≡◌, ℕ, ◌≤◌, List, [], ◌∷◌, ◌++◌, Result, Ok, Err, append_assoc, length, length-append, arith}
use Rattle.texts.specs.Bytes.{bytes, tab, lf}
use Rattle.answers.specs.declared.Refusal.{Refusal}
use Rattle.answers.specs.Answers.{number_of, place_of}
use Rattle.printing.specs.declared.Printer.{Printer}
use Rattle.printing.specs.Printed.{decimal, line, field}
use Rattle.printing.specs.Buffers.{Written, OutFilled}
use Rattle.printing.specs.Printers.{Put}
use Rattle.printing.proofs.Digits.{decimal_short}
use Rattle.printing.proofs.Putting.{put_then}
use Rattle.printing.proofs.Filling.{filled}
use Rattle.answertext.specs.Answers.{refused_text}
use Rattle.answertext.proofs.Room.{refusal_short}
use Rattle.captures.specs.declared.Replayed.{Replayed}
use Rattle.captures.specs.declared.Replayed.TheVariants.{Agrees, Differs, Early}
use Rattle.replays.specs.Outputs.{replayed_line, replay_line}

line_short : (x : Replayed) → length (replayed_line x) ≤ 50
unfolding replayed_line line
line_short Agrees = omega arith
line_short (Differs m) = simp length-append (omega (arith, decimal_short m))
line_short (Early m) = simp length-append (omega (arith, decimal_short m))

-- a word, a tab and a number
pub numbered_put : (word : List ℕ) (n : ℕ) {a b c d : Printer} → Put word a b → Put (tab ∷ []) b c → Put (field n lf) c d
    → Put (line (word ∷ decimal n ∷ [])) a d
numbered_put word n p q s = rw spelt (put_then (put_then p q) s)
  where
    spelt : line (word ∷ decimal n ∷ []) ≡ (word ++ (tab ∷ [])) ++ field n lf
    spelt = unfold line field in simp append_assoc

-- what is put is the line of what came of the replay
module _ (x : Replayed) {a b : Printer} where
  pub agrees_put : x ≡ Agrees → Put (bytes "agrees\n") a b → Put (replayed_line x) a b
  unfolding replayed_line line
  agrees_put e p = rw e p

  pub differs_put : (n : ℕ) → x ≡ Differs n → Put (line (bytes "differs" ∷ decimal n ∷ [])) a b → Put (replayed_line x) a b
  unfolding replayed_line
  differs_put n e p = rw e p

  pub early_put : (n : ℕ) → x ≡ Early n → Put (line (bytes "early" ∷ decimal n ∷ [])) a b → Put (replayed_line x) a b
  unfolding replayed_line
  early_put n e p = rw e p

-- it fills the program's buffer
module _ (r : Result Replayed Refusal) {a : List ℕ} {n : ℕ} {b : List ℕ} (room : length a ≡ 64) where
  pub replayed_filled : (x : Replayed) → r ≡ Ok x → Written a 0 (replayed_line x) n b → OutFilled a (replay_line r) n b
  unfolding replay_line
  replayed_filled x e w = rw e (filled (omega (arith, line_short x)) w)

  pub refused_filled : (e : Refusal) → r ≡ Err e → {number place : ℕ} → number ≡ number_of e → place ≡ place_of e
      → Written a 0 (refused_text number place) n b → OutFilled a (replay_line r) n b
  unfolding replay_line
  refused_filled e q {number} {place} f g w = rw (q, ← f, ← g) (filled (omega (arith, refusal_short number place)) w)
