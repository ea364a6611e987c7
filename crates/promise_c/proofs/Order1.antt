-- Order 1 through C, demand 2 of the calls on films of bytes: what tz_prepare_bytes left is what tz_draw_bytes reads. 0 is returned where nothing is refused.
-- Promises alone: of every run of the calls by their contracts (Runs), each listed in docs/PROMISES.md. A name with ' is lent memory at the end.
-- Assumes nothing.
use Prim.Native.Nat.{ℕ, ◌+◌, ◌*◌, ◌<◌}
use mathlib.Core.Bool.{true, false}
use mathlib.Core.Logic.{◌≢◌}
use mathlib.Core.Path.{◌≡◌, ap, ◌∙◌}
use lib.ListN.{get_or}
use Rattle.film_settings.specs.Settings.{clip_one_of}
use Rattle.film_tiles.specs.Tiles.{foot_of}
use Rattle.pixel_rule.specs.Rule.{rule_grey}
use Rattle.promise_films.proofs.Made.{Made, made_film}
use Rattle.c_flat.specs.Flat.{record_from_of}
use Rattle.c_films.proofs.Runs.{TzPrepareCall, TzDrawCall}
use Rattle.promise_c.proofs.Runs.{TzPreparesBytes, TzDrawsBytes}
use Rattle.promise_c.proofs.Demand1.{tz_draw_bytes_refusal_keeps}
use Rattle.promise_c.proofs.Ways.{tz_grey, flat_drawn_lem, flat_by_rule, flat_as_film, bytes_prepared, TzHandedToDrawBytes, bytes_made, bytes_ends, bytes_handed, bytes_number, above_or}
use Rattle.promise_films.specs.Worked.{numbers}

-- ---- prepared, then drawn, on bytes

module _ {p : TzPrepareCall} (ran : TzPreparesBytes p) (prepared : p.number ≡ 0) where
  -- what tz_prepare_bytes hands out is what tz_draw_bytes reads: the cells and the map buffer are what prepare's outcome gives for the film
  pub tz_bytes_made : Made p.film p.width p.height p.pixels p.settings (record_from_of p.cells'.numbers p.cells'.factor p.cells'.axes)
      (foot_of p.width p.height p.settings) p.map'
  tz_bytes_made = bytes_prepared ran prepared

module _ {p : TzPrepareCall} {d : TzDrawCall} (handed : TzHandedToDrawBytes p d) where
  -- tz_draw_bytes refuses nothing
  pub tz_bytes_drawn_done : d.number ≡ 0
  tz_bytes_drawn_done = flat_drawn_lem d (bytes_made handed) (bytes_ends handed) (bytes_handed handed)

  -- "through a window from the record and mappings prepared for those pixels and unchanged since": each drawn pixel is the one of the integer rule
  pub tz_bytes_drawn_by_rule : clip_one_of p.settings.clip ≡ false → (j i : ℕ) → j < d.window.height → i < d.window.width
      → tz_grey d i j ≡ rule_grey p.width p.height p.pixels p.settings (d.window.left + i) (d.window.top + j)
  tz_bytes_drawn_by_rule = flat_by_rule d (bytes_made handed) (bytes_ends handed) (bytes_handed handed)

  -- at the factor 1.0 the film's own pixels
  pub tz_bytes_drawn_as_film : clip_one_of p.settings.clip ≡ true → (j i : ℕ) → j < d.window.height → i < d.window.width
      → tz_grey d i j ≡ get_or p.pixels ((d.window.top + j) * p.width + (d.window.left + i)) 0
  tz_bytes_drawn_as_film = flat_as_film d (bytes_made handed) (bytes_ends handed) (bytes_handed handed)

-- "A window drawn with the record of a film of another number is refused.": handed the numbers that tz_prepare_bytes left and another film's number, whatever else
pub tz_bytes_other_film_refused : {p : TzPrepareCall} {d : TzDrawCall} → TzPreparesBytes p → p.number ≡ 0 → TzDrawsBytes d → d.numbers ≡ p.cells'.numbers → d.film ≢ p.film
    → (0 < d.number) × (d.out' ≡ d.out)
tz_bytes_other_film_refused {p} {d} ran prepared drew numbers other =
    let some = above_or d.number (λ z. other (bytes_number drew z ∙ ap (λ ns. get_or ns 0 0) numbers ∙ made_film (bytes_prepared ran prepared))) in
    (some, tz_draw_bytes_refusal_keeps drew some)
