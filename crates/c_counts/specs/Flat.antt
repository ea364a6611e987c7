-- What tz_count is asked and leaves: 0 or the refusal's number, and the counts, as counting gives them. tz_map leaves what tz_prepare does.
-- The quoted sentences are those of order 5, and of document 01, "What each call hands back".
-- Assumes nothing.
use Rattle.std.specs.Prelude.{ℕ, List}
use Rattle.tile_limit.specs.declared.Clip.TheVariants.{Off}
use Rattle.tile_limit.specs.declared.Edition.TheVariants.{Ours}
use Rattle.film_settings.specs.declared.Settings.{Settings}
use Rattle.film_count.specs.Counting.{CountOut}
use Rattle.c_flat.specs.Flat.{returned}

-- counting never looks at the clip: the settings of five arguments, with clip off and our edition
abbrev pub unclipped : (across down bins min max : ℕ) → Settings
unclipped across down bins min max = record { across = across; down = down; bins = bins; min = min; max = max; clip = Off; edition = Ours }

-- "A refusal returns its number alone": the number returned, and the counts that were lent
pub record FlatCounted : Type 0 where
  pub number : ℕ
  pub counts : List ℕ

-- a number and counts as one
abbrev pub counted_as : ℕ → List ℕ → FlatCounted
counted_as n cs = record { number = n; counts = cs }

-- from what counting leaves
unfoldable pub flat_counted : CountOut → FlatCounted
flat_counted t = counted_as (returned t.answer) t.counts
