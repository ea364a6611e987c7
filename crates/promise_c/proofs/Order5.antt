-- Order 5 through C, demand 2 of the calls on counts: what tz_count and then tz_map left is what tz_draw reads. 0 is returned where nothing is refused.
-- Promises alone: of every run of the calls by their contracts (Runs), each listed in docs/PROMISES.md. A name with ' is lent memory at the end.
-- Assumes nothing.
use Prim.Native.Nat.{ℕ, ◌+◌, ◌*◌, ◌<◌}
use mathlib.Core.Bool.{true, false}
use mathlib.Core.Logic.{◌≢◌}
use mathlib.Core.Path.{◌≡◌, ap, ◌∙◌}
use lib.ListN.{get_or}
use Rattle.film_settings.specs.declared.MapRecord.{MapRecord}
use Rattle.film_settings.specs.Settings.{clip_one_of}
use Rattle.film_settings.proofs.Records.{record_film}
use Rattle.film_tiles.specs.Tiles.{foot_of}
use Rattle.pixel_rule.specs.Rule.{rule_grey}
use Rattle.promise_films.proofs.Made.{Made}
use Rattle.c_flat.specs.Flat.{record_from_of}
use Rattle.c_films.proofs.Runs.{TzDrawCall, TzDraws, tz_draw_ends}
use Rattle.c_films.proofs.Outcomes.{tz_draw_refusal_keeps}
use Rattle.promise_c.proofs.Runs.{TzCountCall, TzMapCall, TzMaps}
use Rattle.promise_c.proofs.Ways.{tz_grey, flat_drawn_lem, flat_by_rule, flat_as_film, above_or, TzMappedFrom, counts_prepared, TzMappedToDraw, mapped_made, mapped_handed, wide_number, map_record}
use Rattle.promise_films.specs.Worked.{numbers}

-- ---- counted, mapped, drawn

module _ {c : TzCountCall} {m : TzMapCall} (from : TzMappedFrom c m) where
  -- what tz_count and then tz_map hand out is what tz_draw reads: the cells and the map buffer are what prepare's outcome gives for the film that was counted
  pub tz_mapped_made : Made m.film m.width m.height c.pixels m.settings (record_from_of m.cells'.numbers m.cells'.factor m.cells'.axes)
      (foot_of m.width m.height m.settings) m.map'
  tz_mapped_made = counts_prepared from

module _ {c : TzCountCall} {m : TzMapCall} {d : TzDrawCall} (handed : TzMappedToDraw c m d) where
  -- tz_draw refuses nothing
  pub tz_mapped_drawn_done : d.number ≡ 0
  tz_mapped_drawn_done = flat_drawn_lem d (mapped_made handed) (tz_draw_ends handed.draws) (mapped_handed handed)

  -- each drawn pixel is the one of the integer rule
  pub tz_mapped_drawn_by_rule : clip_one_of m.settings.clip ≡ false → (j i : ℕ) → j < d.window.height → i < d.window.width
      → tz_grey d i j ≡ rule_grey m.width m.height c.pixels m.settings (d.window.left + i) (d.window.top + j)
  tz_mapped_drawn_by_rule = flat_by_rule d (mapped_made handed) (tz_draw_ends handed.draws) (mapped_handed handed)

  -- at the factor 1.0 the film's own pixels
  pub tz_mapped_drawn_as_film : clip_one_of m.settings.clip ≡ true → (j i : ℕ) → j < d.window.height → i < d.window.width
      → tz_grey d i j ≡ get_or c.pixels ((d.window.top + j) * m.width + (d.window.left + i)) 0
  tz_mapped_drawn_as_film = flat_as_film d (mapped_made handed) (tz_draw_ends handed.draws) (mapped_handed handed)

-- handed the numbers that tz_map left, of whatever counts, and another film's number, whatever else: refused
pub tz_mapped_other_film_refused : {m : TzMapCall} {d : TzDrawCall} → TzMaps m → m.number ≡ 0 → TzDraws d → d.numbers ≡ m.cells'.numbers → d.film ≢ m.film
    → (0 < d.number) × (d.out' ≡ d.out)
tz_mapped_other_film_refused {m} {d} ran mapped drew numbers other =
    let some =
    above_or d.number
    (λ z. other (wide_number drew z ∙ ap (λ ns. get_or ns 0 0) numbers ∙ ap (λ (r : MapRecord). r.film) (map_record ran mapped) ∙ record_film m.film m.width m.height m.settings)) in
    (some, tz_draw_refusal_keeps drew some)
