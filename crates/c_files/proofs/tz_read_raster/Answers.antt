-- `c_files::tz_read_raster` meets its contract: the raster's length is within the file's, so where it starts is a difference.
use Rattle.pgm_read.specs.Pgm.{read_of}
use mathlib.Core.Path.{refl}
use Rattle.c_flat.proofs.Handed.{raster_size, raster_found, raster_refused}
use Rattle.c_files.proofs.tz_read_raster.Goals as goal

pub overflow_sub-part : goal.overflow_sub-part
overflow_sub-part c =
    let s = c.args.bytes.now in
    raster_size (read_of s) s c.read_sizes.ensures c.in-Ok.is c.read_raster-size.ensures.0

pub returns-in-Ok : goal.returns-in-Ok
returns-in-Ok c = raster_found _ _ _ refl c.read_sizes.ensures c.in-Ok.is c.read_raster-size.ensures.0

pub returns-in-Err : goal.returns-in-Err
returns-in-Err c = raster_refused _ _ _ c.read_sizes.ensures c.in-Err.is c.number.ensures
