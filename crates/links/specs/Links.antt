-- The rule of the link list: entry I is (I mod 64) × 64 + I div 64.
use Rattle.std.specs.Prelude.{ℕ, ◌+◌, ◌*◌, ◌/◌, ◌%◌}

abbrev pub entry_of : ℕ → ℕ
entry_of i = i % 64 * 64 + i / 64
