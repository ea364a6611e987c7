-- `work` leaves the drawn pixels: copied at factor 1.0, else rendered where they were copied to.
use mathlib.Core.Path.{sym, ap, ◌∙◌}
use Rattle.pixel_render.specs.Render.{render_of}
use Rattle.film_draw.specs.Draw.{drawn_pixels}
use Rattle.film_draw.proofs.Works.{copy_asks, render_asks}
use Rattle.film_draw.proofs.work.Goals as goal

pub copy_window-requires : goal.copy_window-requires
copy_window-requires c = copy_asks _ c.requires

pub returns-then-clip_one : goal.returns-then-clip_one
unfolding drawn_pixels
returns-then-clip_one c = rw (← c.clip_one.ensures, c.if-clip_one.true) c.copy_window.ensures

pub render-requires : goal.render-requires
render-requires c = render_asks c.requires c.copy_window.ensures (sym c.clip_one.ensures ∙ c.if-clip_one.false)

pub returns : goal.returns
unfolding drawn_pixels
returns c = rw (← c.clip_one.ensures, c.if-clip_one.false) (c.render.ensures.0 ∙ ap (render_of _ _ _ _ _) c.copy_window.ensures)
