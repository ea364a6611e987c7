-- By what prepare answers. Assumes nothing.
use mathlib.Core.Path.{refl, ap, ◌∙◌}
use Rattle.film_prepare.specs.Prepare.{prepared_says}
use Rattle.listing_line.specs.Lines.{refused_text}
use Rattle.listing_film.proofs.Calls.{told_as, lines_asks, accepted_told, prepared_done, prepared_refused}
use Rattle.listing_film.proofs.list_film.Goals as goal

pub film_lines-requires : goal.film_lines-requires
film_lines-requires c =
    let made = prepared_done _ _ _ _ _ _ _ refl refl refl c.settings_for-settings.ensures c.prepare.ensures (ap prepared_says c.in-Ok.is) in
    let asks = c.requires in
    lines_asks _ _ _ _ made asks.0 _ asks.1

pub refused_line-requires : goal.refused_line-requires
refused_line-requires c =
    let refused = prepared_refused _ _ _ _ _ _ _ refl refl refl c.settings_for-settings.ensures c.prepare.ensures (ap prepared_says c.in-Err.is) in
    (rw c.number.ensures refused.0, c.requires.1)

pub returns-in-Ok : goal.returns-in-Ok
returns-in-Ok c =
    let made = prepared_done _ _ _ _ _ _ _ refl refl refl c.settings_for-settings.ensures c.prepare.ensures (ap prepared_says c.in-Ok.is) in
    accepted_told _ _ _ _ made c.film_lines.ensures

pub returns-in-Err : goal.returns-in-Err
returns-in-Err c =
    let refused = prepared_refused _ _ _ _ _ _ _ refl refl refl c.settings_for-settings.ensures c.prepare.ensures (ap prepared_says c.in-Err.is) in
    told_as c.refused_line.ensures (ap refused_text c.number.ensures ∙ refused.1 _)
