-- A whole text at the start of a buffer.
use Prim.Native.Nat.{ℕ, ◌+◌, ◌≤◌}
use mathlib.Core.Path.{◌≡◌, sym, ◌∙◌}
use mathlib.Core.List.{List}
use native.Mathlib.Omega.{arith}
use lib.ListN.{length, take, length-append}
use lib.Seq.{sets-eq, length-take-le}
use Rattle.printing.specs.Buffers.{Written, OutFilled}

-- a text for which there is room stands whole
pub filled : {out text : List ℕ} {r : ℕ} {out' : List ℕ} → length text ≤ length out → Written out 0 text r out' → OutFilled out text r out'
filled {out} {text} h w =
    let z : 0 + length text ≡ length text = omega arith in
    record { count = omega (arith, w.end); is = w.is ∙ sets-eq text out 0 (omega arith) ∙ rw z }

-- the bytes to write are a part of the buffer
pub filled_fits : {out text : List ℕ} {r : ℕ} {out' : List ℕ} → OutFilled out text r out' → r ≤ length out'
filled_fits {out} {text} {r} {out'} f = rw (f.is, length-append, f.count) (omega arith)

pub filled-part : {out text : List ℕ} {r : ℕ} {out' : List ℕ} → OutFilled out text r out' → r ≡ length (take r out')
filled-part {out} {text} {r} {out'} f = sym (length-take-le r out' (filled_fits f))
