-- Law of the refusals of prepare that the listing prints: their numbers are short.
-- Assumes nothing.
use Prim.Native.Nat.{ℕ, ◌<◌}
use mathlib.Core.List.{List}
use mathlib.Core.Path.{refl}
use lib.Dec.{ltb}
use lib.ListN.{length}
use borrow.Author.Tests.{ltb-true}
use Rattle.base_lists.specs.Lists.{all}
use Rattle.base_rows.specs.Refuse.{first}
use Rattle.base_rows.proofs.Walk.{each_first}
use Rattle.film_settings.specs.declared.Settings.{Settings}
use Rattle.film_settings.proofs.Ready.{shared_numbers}
use Rattle.film_prepare.specs.Prepare.{prepare_rows}
use Rattle.film_prepare.proofs.Table.{table_numbers}

-- a refusal of prepare
pub prepare_below : (w h : ℕ) (pic : List ℕ) (s : Settings) (room scratch list : ℕ) → first (prepare_rows w h pic s room scratch list) < 100
unfolding all
prepare_below w h pic s room scratch list =
    ltb-true _ 100
    (each_first (λ n. ltb n 100) (prepare_rows w h pic s room scratch list) refl (rw (table_numbers w h pic s room scratch list, shared_numbers w h (length pic) s room) refl))
