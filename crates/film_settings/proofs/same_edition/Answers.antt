-- `same_edition` compares by the derived equality, which is the table of the specification.
use mathlib.Core.Path.{◌≡◌, refl, ◌∙◌}
use denote.Enum.Bare.{sameb}
use Rattle.tile_limit.specs.contracts.Edition.{the_type}
use Rattle.tile_limit.specs.declared.Edition.{Edition}
use Rattle.tile_limit.specs.declared.Edition.TheVariants.{Ours, Of1986}
use Rattle.film_settings.specs.Settings.{same_edition_of}
use Rattle.film_settings.proofs.same_edition.Goals as goal

derived : (a b : Edition) → sameb the_type a b ≡ same_edition_of a b
unfolding same_edition_of
derived Ours Ours = refl
derived Ours Of1986 = refl
derived Of1986 Ours = refl
derived Of1986 Of1986 = refl

pub returns : goal.returns
returns c = c.eq.ensures ∙ derived c.args.one c.args.other
