-- Inside the profile every byte is a grey of the range: 0 to 255.
-- Assumes nothing.
use Prim.Native.Nat.{ℕ, zero, suc, ◌<◌}
use mathlib.Core.Bool.{true}
use mathlib.Core.List.{List, [], ◌∷◌}
use mathlib.Core.Path.{◌≡◌}
use native.Mathlib.Omega.{arith}
use lib.ListN.{length, get_or}
use borrow.Author.Tests.{ltb-true, lt-ltb}
use Rattle.base_lists.specs.Lists.{all}
use Rattle.base_lists.proofs.Tabs.{and_left, and_right}
use Rattle.base_lists.proofs.Alls.{all_at, all_from}
use Rattle.base_range.specs.Scan.{within}
use Rattle.base_range.proofs.Spans.{within_both}
use Rattle.film_settings.specs.declared.Settings.{Settings}
use Rattle.byte_narrow.specs.Narrow.{is_byte}
use Rattle.byte_profile.specs.Profile.{Profile}

pub bytes_within : (xs : List ℕ) {s : Settings} → Profile s → ((i : ℕ) → i < length xs → get_or xs i 0 < 256) → all (within s.min s.max) xs ≡ true
bytes_within xs {s} known small =
    all_from (within s.min s.max) xs 0
    (λ i l. within_both s.min s.max (get_or xs i 0) (omega (arith, known.min)) (omega (arith, known.max, small i l)))

-- numbers that are below 256 wherever they are read are bytes
pub bytes_told : (xs : List ℕ) → ((i : ℕ) → get_or xs i 0 < 256) → all is_byte xs ≡ true
bytes_told xs small = all_from is_byte xs 0 (λ i l. lt-ltb (get_or xs i 0) 256 (small i))

-- the same of a list of bytes
pub bytes_all_within : (xs : List ℕ) {s : Settings} → Profile s → all is_byte xs ≡ true → all (within s.min s.max) xs ≡ true
bytes_all_within xs known bytes = bytes_within xs known (λ i l. ltb-true (get_or xs i 0) 256 (all_at is_byte xs bytes i 0 l))

-- an entry of a list of bytes is below 256, wherever it is read
pub byte_at : (xs : List ℕ) → all is_byte xs ≡ true → (i : ℕ) → get_or xs i 0 < 256
unfolding all
byte_at [] bytes i = omega arith
byte_at (x ∷ xs) bytes zero = ltb-true x 256 (and_left (is_byte x) (all is_byte xs) bytes)
byte_at (x ∷ xs) bytes (suc i) = byte_at xs (and_right (is_byte x) (all is_byte xs) bytes) i
