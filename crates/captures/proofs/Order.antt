-- The numbers of the cases of a replay do not fall, so the first case that applies is the lowest number (`answers` proofs/Lowest.antt `lowest_given`).
use Prim.Native.Nat.{ℕ}
use mathlib.Core.Path.{◌≡◌, refl}
use mathlib.Core.Bool.{true}
use mathlib.Core.List.{List}
use Rattle.answers.proofs.Lowest.{ascending}
use Rattle.captures.specs.Captures.{CaptureVerdict, is_capture, no_capture}
use Rattle.captures.specs.Replays.{replay_cases}

pub replay_ascends : (s : ℕ) (words marks aims : List ℕ) (v : CaptureVerdict) → ascending (replay_cases s words marks aims v) ≡ true
replay_ascends s words marks aims (is_capture hs ms) = refl
replay_ascends s words marks aims (no_capture k) = refl
