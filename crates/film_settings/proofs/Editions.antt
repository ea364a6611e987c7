-- Two editions that are the same are one, and each is the same as itself.
-- Assumes nothing.
use mathlib.Core.Bool.{true, true≢false}
use mathlib.Core.Path.{◌≡◌, refl, sym}
use Rattle.tile_limit.specs.declared.Edition.{Edition}
use Rattle.tile_limit.specs.declared.Edition.TheVariants.{Ours, Of1986}
use Rattle.film_settings.specs.Settings.{same_edition_of}

pub same_edition_is : (a b : Edition) → same_edition_of a b ≡ true → a ≡ b
unfolding same_edition_of
same_edition_is Ours Ours e = refl
same_edition_is Ours Of1986 e = absurd (true≢false (sym e))
same_edition_is Of1986 Ours e = absurd (true≢false (sym e))
same_edition_is Of1986 Of1986 e = refl

pub same_edition_self : (a : Edition) → same_edition_of a a ≡ true
unfolding same_edition_of
same_edition_self Ours = refl
same_edition_self Of1986 = refl
