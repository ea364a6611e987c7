-- A refusal table with one number in another's place.
-- Assumes nothing.
use Prim.Native.Nat.{ℕ}
use mathlib.Core.Bool.{Bool, true, false, cond}
use mathlib.Core.List.{List, [], ◌∷◌}
use mathlib.Core.Path.{◌≡◌, refl, sym, ap, ◌∙◌}
use lib.Dec.{eqb}
use borrow.Author.Tests.{eqb-false}
use Rattle.base_rows.specs.Refuse.{Row, row, first}
use Rattle.film_room.specs.Room.{instead}

-- the table gives its own number, with b in a's place
pub first_instead : (a b : ℕ) (rows : List Row) → eqb 0 a ≡ false → first (instead a b rows) ≡ cond (eqb (first rows) a) b (first rows)
unfolding instead first
first_instead a b [] h = rw h refl
first_instead a b (row n true ∷ rows) h = refl
first_instead a b (row n false ∷ rows) h = first_instead a b rows h

-- where none of its rows applies with b in a's place, none does
pub none_instead : (a b : ℕ) (rows : List Row) → eqb 0 a ≡ false → eqb b 0 ≡ false → first (instead a b rows) ≡ 0 → first rows ≡ 0
none_instead a b rows h k e = go (eqb (first rows) a) refl
  where
    go : (c : Bool) → eqb (first rows) a ≡ c → first rows ≡ 0
    go true q = absurd (eqb-false b 0 k (sym (ap (λ c. cond c b (first rows)) q) ∙ (sym (first_instead a b rows h) ∙ e)))
    go false q = sym (ap (λ c. cond c b (first rows)) q) ∙ (sym (first_instead a b rows h) ∙ e)
