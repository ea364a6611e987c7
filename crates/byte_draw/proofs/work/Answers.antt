-- `byte_draw::work` leaves the drawn pixels: copied at factor 1.0, else rendered where they were copied to.
use mathlib.Core.Path.{sym, ◌∙◌}
use Rattle.film_draw.proofs.Works.{copy_asks}
use Rattle.byte_draw.proofs.Works.{from_asks, work_copied, work_rendered}
use Rattle.byte_draw.proofs.work.Goals as goal

pub copy_window-requires : goal.copy_window-requires
copy_window-requires c = copy_asks _ c.requires.shown

pub returns-then-clip_one : goal.returns-then-clip_one
returns-then-clip_one c = work_copied _ _ _ _ _ _ c.clip_one.ensures c.if-clip_one.true c.copy_window.ensures

pub render_from-requires : goal.render_from-requires
render_from-requires c = from_asks c.requires c.copy_window.ensures (sym c.clip_one.ensures ∙ c.if-clip_one.false)

pub returns : goal.returns
returns c = work_rendered _ _ _ _ _ _ c.clip_one.ensures c.if-clip_one.false c.copy_window.ensures c.render_from.ensures
