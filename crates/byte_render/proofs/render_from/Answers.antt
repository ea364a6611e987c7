-- `byte_render::render_from` leaves what rendering from the bytes' mappings leaves: the wide ones are the same numbers.
use mathlib.Core.Path.{refl}
use native.Mathlib.Nat.{mul-le-mul, lt_of_le_of_lt}
use lib.Dec.{lit<}
use Rattle.film_settings.proofs.Ready.{entries_small}
use Rattle.byte_render.proofs.Widened.{part_size, part_fits, wide_bytes, wide_back}
use Rattle.byte_render.proofs.render_from.Goals as goal

pub overflow_mul-entries : goal.overflow_mul-entries
overflow_mul-entries c = record { fits = lt_of_le_of_lt (mul-le-mul c.requires.mapped.maps.across c.requires.mapped.maps.down) (lit< tt) }

pub overflow_mul-entries-2 : goal.overflow_mul-entries-2
overflow_mul-entries-2 c = record { fits = lt_of_le_of_lt (entries_small _ _ _ c.requires.mapped.maps.across c.requires.mapped.maps.down (rw c.bins.ensures c.requires.mapped.maps.scale.few)) (lit< tt) }

pub slice_bounds-widen-end : goal.slice_bounds-widen-end
slice_bounds-widen-end c = part_size c.requires c.bins.ensures

pub widen-requires : goal.widen-requires
widen-requires c = part_fits c.requires c.bins.ensures

pub render-requires : goal.render-requires
render-requires c = wide_bytes c.requires c.bins.ensures _ refl c.widen.ensures

pub returns : goal.returns
returns c = wide_back c.requires c.bins.ensures _ refl c.widen.ensures c.render.ensures
