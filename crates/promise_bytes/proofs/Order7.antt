-- Order 7, "how long the leftover walk is", on bytes: what prepare leaves in its list; and 32, which enhance never gives.
-- Promises alone: of every run of the calls by their contracts (Runs), each listed in docs/PROMISES.md. A name with ' is lent memory at the end.
-- Assumes nothing.
use Prim.Native.Nat.{◌≤◌}
use mathlib.Core.Bool.{true}
use mathlib.Core.Path.{◌≡◌, ◌∙◌, sym}
use lib.Ieee.{Float}
use lib.ListN.{length, drop}
use mathlib.Core.Logic.{◌≢◌}
use Rattle.base_rows.specs.Refuse.{accepted, refused}
use Rattle.tile_limit.specs.declared.Clip.TheVariants.{Off}
use Rattle.film_settings.specs.declared.MapRecord.{MapRecord}
use Rattle.film_settings.specs.declared.Footer.{Footer}
use Rattle.film_settings.specs.Settings.{clip_one_of}
use Rattle.film_tiles.specs.Tiles.{spent_entries}
use Rattle.promise_films.specs.Films.{ClippingOn}
use Rattle.promise_films.specs.Looks.{FilmLooks, NoLooks}
use Rattle.promise_films.proofs.Runs.{PrepareCall, EnhanceCall}
use Rattle.promise_bytes.proofs.Runs.{PreparesBytes, EnhancesBytes}
use Rattle.promise_bytes.proofs.Ended.{prepare_bytes_as_wide, prepare_bytes_held}
use Rattle.byte_prepare.proofs.Parts.{enhance_never_32}
use Rattle.promise_films.proofs.Accepted.{says_refused}
use Rattle.promise_bytes.proofs.Demand1.{enhance_bytes_says}
use Rattle.promise_films.proofs.Looks.{ended_list_behind, ended_list_kept, ended_list_long, ended_looks, ended_looks_off}

-- ---- the list

module _ {p : PrepareCall} {r : MapRecord} {foot : Footer} (ran : PreparesBytes p) (prepared : p.answer ≡ accepted (r, foot)) where
  -- each tile's E and looks, and their bound, with a factor above one
  pub prepared_bytes_looks : {f : Float} → ClippingOn p.settings.clip f → FilmLooks p.width p.height p.pixels p.settings f p.list'
  prepared_bytes_looks on = ended_looks p (prepare_bytes_as_wide ran prepared) prepared on (prepare_bytes_held ran prepared).edition

  -- "With clip off both are 0"
  pub prepared_bytes_looks_off : p.settings.clip ≡ Off → NoLooks p.settings p.list'
  prepared_bytes_looks_off = ended_looks_off p (prepare_bytes_as_wide ran prepared) prepared

  -- these entries lie in the list
  pub prepared_bytes_list_long : spent_entries p.settings ≤ length p.list'
  prepared_bytes_list_long = ended_list_long p (prepare_bytes_as_wide ran prepared) prepared

  -- "at factor 1.0 the list keeps its contents"
  pub prepared_bytes_list_kept : clip_one_of p.settings.clip ≡ true → p.list' ≡ p.list
  prepared_bytes_list_kept = ended_list_kept p (prepare_bytes_as_wide ran prepared) prepared

  -- "as do entries behind the last tile"
  pub prepared_bytes_list_behind : drop (spent_entries p.settings) p.list' ≡ drop (spent_entries p.settings) p.list
  prepared_bytes_list_behind = ended_list_behind p (prepare_bytes_as_wide ran prepared) prepared

-- ---- 32

-- nor is 32 by enhance, which is lent no list
pub enhance_bytes_never_32 : {e : EnhanceCall} → EnhancesBytes e → e.answer ≢ refused 32
enhance_bytes_never_32 {e} ran q =
    enhance_never_32 e.width e.height e.pixels e.settings (length e.map) (length e.scratch) (says_refused _ _ (sym (enhance_bytes_says ran) ∙ q))
