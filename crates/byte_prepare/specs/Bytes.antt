-- Order 1, byte films: what prepare and enhance on bytes answer and leave. A byte is its number, so these are the wide calls' own outcomes behind the byte
-- calls' table. w and h are the film's width and height, pic its bytes, m the map buffer, t the scratch and n the list as lent.
-- Assumes nothing.
use Rattle.std.specs.Prelude.{ℕ, ◌*◌, ◌≤◌, ◌<◌, false, List, ◌++◌, ◌≡◌, length}
use Rattle.base_rows.specs.Refuse.{Row, first, unless, refused}
use Rattle.film_settings.specs.declared.Settings.{Settings}
use Rattle.film_settings.specs.Settings.{clip_one_of}
use Rattle.film_tiles.specs.Tiles.{spent_entries, Work}
use Rattle.film_prepare.specs.Prepare.{work_rows, listed_rows, PrepareOut, prepare_leaves, prepared_of, EnhanceOut, enhance_leaves, enhanced_of}
use Rattle.byte_profile.specs.Profile.{byte_rows, Profile}

-- 1 to 10 with 31 after 9, "30 for a setting outside the profile, after 10", then 11 and on as in the wide call
unfoldable pub byte_enhance_rows : (w h : ℕ) (pic : List ℕ) (s : Settings) (room scratch : ℕ) → List Row
byte_enhance_rows w h pic s room scratch = byte_rows w h (length pic) s room ++ work_rows pic s scratch

-- and prepare, with 32 behind 12
unfoldable pub byte_prepare_rows : (w h : ℕ) (pic : List ℕ) (s : Settings) (room scratch list : ℕ) → List Row
byte_prepare_rows w h pic s room scratch list = byte_rows w h (length pic) s room ++ listed_rows pic s scratch list

-- prepare on bytes: a refusal keeps all memory; else what prepare does
unfoldable pub byte_prepare_of : (film w h : ℕ) (pic : List ℕ) (s : Settings) (m t n : List ℕ) → PrepareOut
byte_prepare_of film w h pic s m t n =
    unless (first (byte_prepare_rows w h pic s (length m) (length t) (length n))) (λ k. prepare_leaves (refused k) m t n) (prepared_of film w h pic s m t n)

-- enhance on bytes, "in place": a refusal keeps all memory; else what enhance does
unfoldable pub byte_enhance_of : (w h : ℕ) (pic : List ℕ) (s : Settings) (m t : List ℕ) → EnhanceOut
byte_enhance_of w h pic s m t =
    unless (first (byte_enhance_rows w h pic s (length m) (length t))) (λ n. enhance_leaves (refused n) pic m t) (enhanced_of w h pic s m t)

-- ---- what the functions below ask

-- what a byte call knows once none of its rows applies
pub record ByteWork (w h : ℕ) (pic : List ℕ) (s : Settings) (room scratch : ℕ) : Type 0 where
  pub work : Work w h pic s room scratch
  pub profile : Profile s

-- what `map_tile` knows of the film: that, and a factor that is not 1.0
pub record ByteTilesReady (w h : ℕ) (pic : List ℕ) (s : Settings) (room scratch : ℕ) : Type 0 where
  pub film : ByteWork w h pic s room scratch
  pub changes : clip_one_of s.clip ≡ false

-- what `map_tiles` asks: that, and a list with two entries for each tile
pub record ByteMapTilesAsks (w h : ℕ) (pic : List ℕ) (s : Settings) (room scratch list : ℕ) : Type 0 where
  pub film : ByteTilesReady w h pic s room scratch
  pub pairs : spent_entries s ≤ list

-- what `map_tile` asks: that of the film, of one of its tiles
pub record ByteMapTileAsks (w h : ℕ) (pic : List ℕ) (s : Settings) (k room scratch : ℕ) : Type 0 where
  pub tiles : ByteTilesReady w h pic s room scratch
  pub tile : k < s.across * s.down
