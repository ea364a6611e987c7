-- What the tiles of a film of bytes and its rendering ask: what the wide ones ask, and that the bytes and the functions' own room suffice.
-- Assumes nothing.
use Prim.Native.Nat.{ℕ, ◌+◌, ◌-◌, ◌*◌, ◌<◌}
use mathlib.Core.List.{List}
use mathlib.Core.Path.{◌≡◌}
use native.Mathlib.Nat.{mul-le-mul, le_of_eq}
use native.Mathlib.Omega.{arith}
use lib.ListN.{length, take, drop}
use Rattle.tile_count.specs.declared.Rect.{Rect}
use Rattle.film_settings.specs.declared.Settings.{Settings}
use Rattle.film_settings.specs.Settings.{bins_of, Ready}
use Rattle.pixel_render.specs.Render.{whole}
use Rattle.film_tiles.specs.Tiles.{tile_of, TilesReady, MapTileAsks, TilesDone}
use Rattle.film_tiles.proofs.Tiles.{tile_inside}
use Rattle.film_tiles.proofs.Films.{tile_asks}
use Rattle.film_tiles.proofs.Turns.{Laid, laid_length}
use Rattle.film_prepare.proofs.Renders.{asks_render}
use Rattle.byte_tile.specs.ByteTile.{ByteMappingAsks}
use Rattle.byte_render.specs.Bytes.{RenderFromAsks}
use Rattle.byte_prepare.specs.Bytes.{ByteTilesReady, ByteMapTileAsks}

-- what the wide tiles ask
pub wide_tiles : {w h : ℕ} {pic : List ℕ} {s : Settings} {room scratch : ℕ} → ByteTilesReady w h pic s room scratch → TilesReady w h pic s room scratch
wide_tiles asks = record { work = asks.film.work; changes = asks.changes }

-- and one of them
pub wide_tile : {w h : ℕ} {pic : List ℕ} {s : Settings} {k room scratch : ℕ} → ByteMapTileAsks w h pic s k room scratch → MapTileAsks w h pic s k room scratch
wide_tile asks = record { film = wide_tiles asks.tiles; tile = asks.tile }

-- what the mapping of tile k asks, its rectangle and the bins as they were worked out
pub byte_tile_asks : (m : List ℕ) {w h : ℕ} {pic : List ℕ} {s : Settings} {k scratch : ℕ} → ByteMapTileAsks w h pic s k (length m) scratch
    → {r : Rect} {b : ℕ} → r ≡ tile_of w h s k → b ≡ bins_of s
    → ByteMappingAsks pic w r s.min s.max b s.clip scratch (length (take (k * b + b - k * b) (drop (k * b) m)))
byte_tile_asks m {w} {h} {pic} {s} {k} {scratch} asks {r} {b} p q =
    let ready : Ready w h (length pic) s (length m) = asks.tiles.film.work.ready in
    record {
      tile = tile_asks m (wide_tile asks) p q;
      few = omega (arith, asks.tiles.film.profile.few);
      bytes = omega (arith, asks.tiles.film.profile.max);
      wide = rw p (omega (arith, (tile_inside ready.tiled asks.tile ready.whole).across, ready.tiled.widest));
    }

-- what tile k asks, before it in `map_tiles`
pub laid_bytes : {w h : ℕ} {pic : List ℕ} {s : Settings} {m₀ t₀ : List ℕ} → ByteTilesReady w h pic s (length m₀) (length t₀)
    → {m t : List ℕ} {k : ℕ} → Laid w h pic s m₀ m t₀ t k → k < s.across * s.down
    → ByteMapTileAsks w h pic s k (length m) (length t)
laid_bytes asks {m} {t} {k} laid l =
    rw (laid_length (wide_tiles asks) laid (omega arith), laid.size) record { tiles = asks; tile = l }

-- what rendering from the mappings asks
pub asks_from : {w h : ℕ} {pic : List ℕ} {s : Settings} {m m' t t' n n' : List ℕ} → ByteTilesReady w h pic s (length m) (length t)
    → TilesDone w h pic s m m' t t' n n' → RenderFromAsks w h s m' (whole w h) pic
asks_from asks done =
    let (mapped, shown) = asks_render (wide_tiles asks) done in
    record {
      mapped = mapped;
      shown = shown;
      bytes = omega (arith, asks.film.profile.max);
      entries = mul-le-mul (mul-le-mul (le_of_eq asks.film.profile.across) (le_of_eq asks.film.profile.down)) asks.film.profile.few;
      wide = asks.film.work.ready.tiled.widest;
    }
