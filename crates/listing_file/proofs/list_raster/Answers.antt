-- By what the greys answer. Assumes nothing.
use mathlib.Core.Path.{refl, ap, ◌∙◌}
use native.Mathlib.Omega.{arith}
use Rattle.base_rows.specs.Given.{said}
use Rattle.listing_line.specs.Lines.{refused_text}
use Rattle.listing_film.proofs.Calls.{told_as}
use Rattle.listing_file.proofs.Calls.{greys_told, greys_refused, film_count, film_front, picture_listed, picture_above}
use Rattle.listing_file.proofs.list_raster.Goals as goal

pub slice_bounds-list_film-end : goal.slice_bounds-list_film-end
slice_bounds-list_film-end c = film_count _ _ _ _ _ c.requires _ c.read_greys.auto.target

pub refused_line-requires : goal.refused_line-requires
refused_line-requires c =
    let told = greys_refused _ _ _ _ _ c.requires _ refl (ap said c.in-Err.is) c.read_greys.ensures in
    (omega (arith, told.0, c.number.ensures), c.requires.fitting)

pub returns-in-Ok : goal.returns-in-Ok
returns-in-Ok c =
    let told = greys_told _ _ _ _ _ c.requires _ refl (ap said c.in-Ok.is) c.read_greys.ensures in
    picture_listed _ _ _ (film_front _ _ _ _ _ c.requires _ told.1 refl) told.0 c.list_film.ensures

pub returns-in-Err : goal.returns-in-Err
returns-in-Err c =
    let told = greys_refused _ _ _ _ _ c.requires _ refl (ap said c.in-Err.is) c.read_greys.ensures in
    told_as c.refused_line.ensures (ap refused_text (c.number.ensures ∙ told.0) ∙ picture_above _ _ _ _ told.1)
