-- Document 00, demand 3: "With clipping on (a factor above one), in every tile of a film that prepare or enhance accepts", with "each tile's own N and L" (order 6), in our edition; and order 2: those limits, and
-- that no clip refusal is given.
-- Promises alone: of every run of the calls by their contracts (Runs), each listed in docs/PROMISES.md. A name with ' is lent memory at the end.
-- Assumes nothing.
use Prim.Native.Nat.{ℕ}
use mathlib.Core.List.{[], ◌∷◌}
use mathlib.Core.Logic.{◌≢◌}
use mathlib.Core.Path.{◌≡◌, sym, ◌∙◌}
use lib.Ieee.{Float}
use lib.ListN.{length}
use Rattle.base_rows.specs.Refuse.{row, first, accepted, refused}
use Rattle.tile_limit.specs.declared.Edition.TheVariants.{Ours}
use Rattle.tile_limit.specs.Limit.{judged_number, JudgedSays}
use Rattle.tile_limit.proofs.Laws.{judged_exactly}
use Rattle.film_settings.specs.declared.MapRecord.{MapRecord}
use Rattle.film_settings.specs.declared.Footer.{Footer}
use Rattle.film_settings.specs.Settings.{bins_of, clip_bad_of}
use Rattle.film_tiles.specs.Tiles.{pixels_in}
use Rattle.film_prepare.proofs.Table.{table_never_14, over_never_14}
use Rattle.promise_films.specs.Films.{ClippingOn, limit_in, FilmSound, LimitFits}
use Rattle.promise_films.proofs.Accepted.{says_refused}
use Rattle.promise_films.proofs.Demand1.{prepare_says, enhance_says}
use Rattle.promise_films.proofs.Sound.{judged_row}
use Rattle.promise_films.proofs.Runs.{PrepareCall, Prepares, EnhanceCall, Enhances, enhance_ends, JudgeCall, Judges, judge_ends}
use Rattle.promise_films.proofs.Made.{prepare_made, made_tiles_sound, made_limit_fits}
use Rattle.promise_films.proofs.Whole.{whole_tiles_sound, whole_limit_fits}

-- ---- every tile

-- a film that prepare accepted, answering this footer
module _ {p : PrepareCall} {r : MapRecord} {foot : Footer} (ran : Prepares p) (done : p.answer ≡ accepted (r, foot)) where
  -- "With clipping on (a factor above one), in every tile of a film that prepare .. accepts": with the tile's own limit, and the map entries that prepare left, in our edition
  pub prepared_tiles_sound : {f : Float} → ClippingOn p.settings.clip f → p.settings.edition ≡ Ours → FilmSound p.width p.height p.pixels p.settings f p.map'
  prepared_tiles_sound on ours = made_tiles_sound (prepare_made ran done) on ours

  -- L x B is never below N, and L is the least that can hold the tile where the factor would give less: of each tile and its own limit
  pub prepared_limit_fits : {f : Float} → ClippingOn p.settings.clip f → (k : ℕ)
      → LimitFits f (pixels_in p.width p.height p.settings k) (bins_of p.settings) (limit_in p.width p.height p.settings f k)
  prepared_limit_fits {f} on k = made_limit_fits (prepare_made ran done) f k

-- a film that enhance accepted, answering this footer
module _ {e : EnhanceCall} {foot : Footer} (ran : Enhances e) (done : e.answer ≡ accepted foot) where
  -- "With clipping on (a factor above one), in every tile of a film that .. enhance accepts", in our edition
  pub enhanced_tiles_sound : {f : Float} → ClippingOn e.settings.clip f → e.settings.edition ≡ Ours → FilmSound e.width e.height e.pixels e.settings f e.map'
  enhanced_tiles_sound on ours = whole_tiles_sound e (enhance_ends ran) done on ours

  -- L x B is never below N, and L is the least that can hold the tile where the factor would give less
  pub enhanced_limit_fits : {f : Float} → ClippingOn e.settings.clip f → (k : ℕ)
      → LimitFits f (pixels_in e.width e.height e.settings k) (bins_of e.settings) (limit_in e.width e.height e.settings f k)
  enhanced_limit_fits {f} on k = whole_limit_fits e (enhance_ends ran) done f k

-- ---- the clip refusal

-- "a clip refusal never occurs": of prepare
pub prepare_never_14 : {p : PrepareCall} → Prepares p → p.answer ≢ refused 14
prepare_never_14 {p} ran q =
    table_never_14 p.width p.height p.pixels p.settings (length p.map) (length p.scratch) (length p.list) (says_refused _ _ (sym (prepare_says ran) ∙ q))

-- and of enhance
pub enhance_never_14 : {e : EnhanceCall} → Enhances e → e.answer ≢ refused 14
enhance_never_14 {e} ran q =
    over_never_14 e.width e.height e.pixels e.settings (length e.map) (length e.scratch) (says_refused _ _ (sym (enhance_says ran) ∙ q))

-- ---- the judgement of a clip setting

-- what limit's judgement says of a clip setting is so: off, or a factor that is "NaN, infinite, below 1.0 or above 1024.0", "exactly 1.0", or above 1.0
pub judge_says : {c : JudgeCall} → Judges c → JudgedSays c.answer c.clip
judge_says {c} ran = (judged_exactly c.clip c.answer).0 (sym (judge_ends ran))

-- and its number is that of the row of 10
pub judge_number : {c : JudgeCall} → Judges c → judged_number c.answer ≡ first (row 10 (clip_bad_of c.clip) ∷ [])
judge_number {c} ran = judged_row c.clip c.answer (judge_says ran)
