-- Bytes.
-- Assumes nothing.
use Rattle.std.specs.Prelude.{ℕ, Bool, ltb}

-- a number that a byte holds: a film's greys as bytes are 0 to 255
abbrev pub is_byte : ℕ → Bool
is_byte v = ltb v 256
