-- Document 02, order 11: the films that are stored in a room and not dropped.
-- Assumes nothing.
use Rattle.film_settings.specs.declared.Footer.{Footer}
use Rattle.base_rows.specs.Refuse.{accepted, refused, Says}
use Rattle.std.specs.Prelude.{ℕ, cond, List, [], ◌∷◌, ◌++◌, eqb}
use Rattle.film_settings.specs.declared.Settings.{Settings}
use Rattle.film_settings.specs.Settings.{entries_of}
use Rattle.film_sets.specs.declared.Set.{Set}
use Rattle.film_sets.specs.Sets.{set_for_of}

-- a film as it was handed to store
pub record StoredFilm : Type 0 where
  pub number : ℕ
  pub width : ℕ
  pub height : ℕ
  pub pixels : List ℕ
  pub settings : Settings

abbrev pub film_set : StoredFilm → Set
film_set f = set_for_of f.number f.width f.height f.settings

abbrev pub film_size : StoredFilm → ℕ
film_size f = entries_of f.settings

-- the films without the one of this number
unfoldable pub without : ℕ → List StoredFilm → List StoredFilm
without n [] = []
without n (f ∷ fs) = cond (eqb f.number n) fs (f ∷ without n fs)

-- the films that are stored and not dropped, behind a store
abbrev pub films_after_store : Says Footer → StoredFilm → List StoredFilm → List StoredFilm
films_after_store (accepted foot) f fs = fs ++ (f ∷ [])
films_after_store (refused n) f fs = fs

-- and behind a drop
abbrev pub films_after_drop : Says (Unit {0}) → ℕ → List StoredFilm → List StoredFilm
films_after_drop (accepted v) n fs = without n fs
films_after_drop (refused k) n fs = fs
