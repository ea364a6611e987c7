-- Order 7, "how long the leftover walk is": what prepare leaves in its list; and 32, which prepare alone gives.
-- Promises alone: of every run of the calls by their contracts (Runs), each listed in docs/PROMISES.md. A name with ' is lent memory at the end.
-- Assumes nothing.
use Prim.Native.Nat.{◌≤◌}
use mathlib.Core.Bool.{true}
use mathlib.Core.Logic.{◌≢◌}
use mathlib.Core.Path.{◌≡◌, sym, ◌∙◌}
use lib.Ieee.{Float}
use lib.ListN.{length, drop}
use Rattle.base_rows.specs.Refuse.{accepted, refused}
use Rattle.tile_limit.specs.declared.Clip.TheVariants.{Off}
use Rattle.tile_limit.specs.declared.Edition.TheVariants.{Ours}
use Rattle.film_settings.specs.declared.MapRecord.{MapRecord}
use Rattle.film_settings.specs.declared.Footer.{Footer}
use Rattle.film_settings.specs.Settings.{clip_one_of}
use Rattle.film_tiles.specs.Tiles.{spent_entries}
use Rattle.promise_films.specs.Films.{ClippingOn}
use Rattle.promise_films.specs.Looks.{FilmLooks, NoLooks, ListShort}
use Rattle.promise_films.proofs.Accepted.{says_refused, refused_says}
use Rattle.promise_films.proofs.Demand1.{prepare_says, enhance_says}
use Rattle.promise_films.proofs.Runs.{PrepareCall, Prepares, prepare_ends, EnhanceCall, Enhances}
use Rattle.promise_films.proofs.Looks.{ended_looks, ended_looks_off, ended_list_long, ended_list_kept, ended_list_behind, table_32, table_short, over_never_32}

-- ---- the list

-- a film that prepare accepted
module _ {p : PrepareCall} {r : MapRecord} {foot : Footer} (ran : Prepares p) (prepared : p.answer ≡ accepted (r, foot)) where
  -- "each tile in row order has two entries: E, and the number of looks .. it is 0 when r is 0 and never more than r x B x (B + 1) / 2": of every tile, with a factor above one, in our edition
  pub prepared_looks : {f : Float} → ClippingOn p.settings.clip f → p.settings.edition ≡ Ours → FilmLooks p.width p.height p.pixels p.settings f p.list'
  prepared_looks on ours = ended_looks p (prepare_ends ran) prepared on ours

  -- "With clip off both are 0"
  pub prepared_looks_off : p.settings.clip ≡ Off → NoLooks p.settings p.list'
  prepared_looks_off = ended_looks_off p (prepare_ends ran) prepared

  -- these entries lie in the list
  pub prepared_list_long : spent_entries p.settings ≤ length p.list'
  prepared_list_long = ended_list_long p (prepare_ends ran) prepared

  -- "at factor 1.0 the list keeps its contents"
  pub prepared_list_kept : clip_one_of p.settings.clip ≡ true → p.list' ≡ p.list
  prepared_list_kept = ended_list_kept p (prepare_ends ran) prepared

  -- "as do entries behind the last tile"
  pub prepared_list_behind : drop (spent_entries p.settings) p.list' ≡ drop (spent_entries p.settings) p.list
  prepared_list_behind = ended_list_behind p (prepare_ends ran) prepared

-- ---- 32

-- prepare gives 32 exactly where no row before it applies and the list is shorter than twice the tiles, whatever the clip setting is
pub prepare_32_exactly : {p : PrepareCall} → Prepares p
    → (p.answer ≡ refused 32 → ListShort p.width p.height p.pixels p.settings (length p.map) (length p.scratch) (length p.list))
    × (ListShort p.width p.height p.pixels p.settings (length p.map) (length p.scratch) (length p.list) → p.answer ≡ refused 32)
prepare_32_exactly {p} ran = (
  λ q. table_32 p.width p.height p.pixels p.settings _ _ _ (says_refused _ _ (sym (prepare_says ran) ∙ q)),
  λ short. prepare_says ran ∙ refused_says _ _ (table_short p.width p.height p.pixels p.settings _ _ _ short),
)

-- enhance, which is lent no list, never does
pub enhance_never_32 : {e : EnhanceCall} → Enhances e → e.answer ≢ refused 32
enhance_never_32 {e} ran q =
    over_never_32 e.width e.height e.pixels e.settings (length e.map) (length e.scratch) (says_refused _ _ (sym (enhance_says ran) ∙ q))
