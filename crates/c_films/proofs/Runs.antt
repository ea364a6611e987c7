-- The calls on films of the C interface by the names of their arguments. A name with ' is lent memory at the end; `number` is what is returned.
-- The only file that counts these calls' parameters, in their order in the source. That each name is the contract's own is checked by the laws `..-ends`.
-- Assumes nothing.
use Prim.Native.Nat.{ℕ}
use mathlib.Core.List.{List}
use mathlib.Core.Path.{◌≡◌}
use lib.Ieee.{Float}
use Rattle.base_rows.specs.Run.{Run, Ran}
use Rattle.film_settings.specs.declared.Settings.{Settings}
use Rattle.film_settings.specs.declared.Window.{Window}
use Rattle.film_prepare.specs.Prepare.{prepare_of, enhance_of}
use Rattle.film_draw.specs.Draw.{draw_of}
use Rattle.c_flat.specs.Flat.{settings_from_of, Axes, axes_from, record_from_of, window_from}
use Rattle.c_flat.specs.Films.{Foot, foot_from, Cells, cells_from, prepared_as, flat_prepared, enhanced_as, flat_enhanced, drawn_as, flat_drawn}
use Rattle.c_films.proofs.films.tz_prepare.Kinds as prepare
use Rattle.c_films.proofs.films.tz_prepare.Reads as prepare-reads
use Rattle.c_films.proofs.films.tz_enhance.Kinds as enhance
use Rattle.c_films.proofs.films.tz_enhance.Reads as enhance-reads
use Rattle.c_films.proofs.films.tz_draw.Kinds as draw
use Rattle.c_films.proofs.films.tz_draw.Reads as draw-reads

-- ---- tz_prepare

-- `cells` are those of the map record and of the footer
pub record TzPrepareCall : Type 0 where
  pub film : ℕ
  pub width : ℕ
  pub height : ℕ
  pub pixels : List ℕ
  pub settings : Settings
  pub map : List ℕ
  pub scratch : List ℕ
  pub list : List ℕ
  pub cells : Cells
  pub number : ℕ
  pub map' : List ℕ
  pub scratch' : List ℕ
  pub list' : List ℕ
  pub cells' : Cells

abbrev pub tz_prepare_values : Run prepare.ps prepare.r prepare-reads.Post → TzPrepareCall
tz_prepare_values run =
    let (film, (width, (height, (pixels, (across, (down, (bins, (min, (max, (clip, (asked-factor, (map, (scratch, (numbers, (factor, (limit, (asked, (used, (column-edges, (column-centres, (row-edges, (row-centres, (list, (edition, end)))))))))))))))))))))))) = run.handed in
    let (_, (_, (_, (_, (_, (_, (_, (_, (_, (_, (_, (map', (scratch', (numbers', (factor', (limit', (asked', (used', (column-edges', (column-centres', (row-edges', (row-centres', (list', (_, end')))))))))))))))))))))))) = run.left in
    record { film = film; width = width; height = height; pixels = pixels.now; settings = settings_from_of across down bins min max clip asked-factor edition; map = map.now; scratch = scratch.now; list = list.now; cells = cells_from numbers.now factor.now (axes_from column-edges.now column-centres.now row-edges.now row-centres.now) (foot_from limit.now asked.now used.now); number = run.answer; map' = map'.now; scratch' = scratch'.now; list' = list'.now; cells' = cells_from numbers'.now factor'.now (axes_from column-edges'.now column-centres'.now row-edges'.now row-centres'.now) (foot_from limit'.now asked'.now used'.now) }

-- what it is handed
abbrev pub tz_prepare_arguments : TzPrepareCall → ℕ × ℕ × ℕ × List ℕ × Settings × List ℕ × List ℕ × List ℕ × Cells
tz_prepare_arguments c = (c.film, c.width, c.height, c.pixels, c.settings, c.map, c.scratch, c.list, c.cells)

-- tz_prepare ran with these values
abbrev pub TzPrepares : TzPrepareCall → Type 0
TzPrepares = Ran tz_prepare_values

pub tz_prepare_ends : {c : TzPrepareCall} → TzPrepares c → prepared_as c.number c.map' c.scratch' c.list' c.cells' ≡ flat_prepared (prepare_of c.film c.width c.height c.pixels c.settings c.map c.scratch c.list) c.cells
tz_prepare_ends ran = rw ran.named ran.run.allowed

-- ---- tz_enhance

pub record TzEnhanceCall : Type 0 where
  pub width : ℕ
  pub height : ℕ
  pub pixels : List ℕ
  pub settings : Settings
  pub map : List ℕ
  pub scratch : List ℕ
  pub foot : Foot
  pub number : ℕ
  pub pixels' : List ℕ
  pub map' : List ℕ
  pub scratch' : List ℕ
  pub foot' : Foot

abbrev pub tz_enhance_values : Run enhance.ps enhance.r enhance-reads.Post → TzEnhanceCall
tz_enhance_values run =
    let (width, (height, (pixels, (across, (down, (bins, (min, (max, (clip, (factor, (map, (scratch, (limit, (asked, (used, (edition, end)))))))))))))))) = run.handed in
    let (_, (_, (pixels', (_, (_, (_, (_, (_, (_, (_, (map', (scratch', (limit', (asked', (used', (_, end')))))))))))))))) = run.left in
    record { width = width; height = height; pixels = pixels.now; settings = settings_from_of across down bins min max clip factor edition; map = map.now; scratch = scratch.now; foot = foot_from limit.now asked.now used.now; number = run.answer; pixels' = pixels'.now; map' = map'.now; scratch' = scratch'.now; foot' = foot_from limit'.now asked'.now used'.now }

-- what it is handed
abbrev pub tz_enhance_arguments : TzEnhanceCall → ℕ × ℕ × List ℕ × Settings × List ℕ × List ℕ × Foot
tz_enhance_arguments c = (c.width, c.height, c.pixels, c.settings, c.map, c.scratch, c.foot)

-- tz_enhance ran with these values
abbrev pub TzEnhances : TzEnhanceCall → Type 0
TzEnhances = Ran tz_enhance_values

pub tz_enhance_ends : {c : TzEnhanceCall} → TzEnhances c → enhanced_as c.number c.pixels' c.map' c.scratch' c.foot' ≡ flat_enhanced (enhance_of c.width c.height c.pixels c.settings c.map c.scratch) c.foot
tz_enhance_ends ran = rw ran.named ran.run.allowed

-- ---- tz_draw

-- `numbers`, `factor` and `axes` are the map record that is handed in
pub record TzDrawCall : Type 0 where
  pub film : ℕ
  pub width : ℕ
  pub height : ℕ
  pub pixels : List ℕ
  pub settings : Settings
  pub numbers : List ℕ
  pub factor : Float
  pub axes : Axes
  pub window : Window
  pub map : List ℕ
  pub out : List ℕ
  pub number : ℕ
  pub out' : List ℕ

abbrev pub tz_draw_values : Run draw.ps draw.r draw-reads.Post → TzDrawCall
tz_draw_values run =
    let (film, (width, (height, (pixels, (across, (down, (bins, (min, (max, (clip, (asked-factor, (numbers, (factor, (left, (top, (window-width, (window-height, (map, (out, (column-edges, (column-centres, (row-edges, (row-centres, (edition, end)))))))))))))))))))))))) = run.handed in
    let (_, (_, (_, (_, (_, (_, (_, (_, (_, (_, (_, (_, (_, (_, (_, (_, (_, (_, (out', end'))))))))))))))))))) = run.left in
    record { film = film; width = width; height = height; pixels = pixels.now; settings = settings_from_of across down bins min max clip asked-factor edition; numbers = numbers.now; factor = factor; axes = axes_from column-edges.now column-centres.now row-edges.now row-centres.now; window = window_from left top window-width window-height; map = map.now; out = out.now; number = run.answer; out' = out'.now }

-- what it is handed
abbrev pub tz_draw_arguments : TzDrawCall → ℕ × ℕ × ℕ × List ℕ × Settings × List ℕ × Float × Axes × Window × List ℕ × List ℕ
tz_draw_arguments c = (c.film, c.width, c.height, c.pixels, c.settings, c.numbers, c.factor, c.axes, c.window, c.map, c.out)

-- tz_draw ran with these values
abbrev pub TzDraws : TzDrawCall → Type 0
TzDraws = Ran tz_draw_values

pub tz_draw_ends : {c : TzDrawCall} → TzDraws c → drawn_as c.number c.out' ≡ flat_drawn (draw_of c.film c.width c.height c.pixels c.settings (record_from_of c.numbers c.factor c.axes) c.window c.map c.out)
tz_draw_ends ran = rw ran.named ran.run.allowed
