-- What the functions of this crate ask of their callers.
-- Assumes nothing.
use Rattle.std.specs.Prelude.{ℕ, ◌*◌, ◌≤◌, List}
use Rattle.pgm_raster.specs.Raster.{RasterAsks}

-- what `list_raster` asks: a raster that read handed back, of at most 8,192 samples
pub record ListRasterAsks (raster : List ℕ) (w h m room : ℕ) : Type 0 where
  pub asks : RasterAsks raster 0 w h m
  pub few : w * h ≤ 8192
  pub fitting : 512 ≤ room
