-- What a printer put.
use Rattle.std.specs.Prelude.{ℕ, ◌≡◌, List}
use Rattle.printing.specs.declared.Printer.{Printer}
use Rattle.printing.specs.Buffers.{Written}

-- a text was put behind what a printer had put, into the same buffer
pub record Put (text : List ℕ) (before after : Printer) : Type 0 where
  pub same_buffer : after.out.ghost_name ≡ before.out.ghost_name
  pub written : Written before.out.now before.at text after.at after.out.now
