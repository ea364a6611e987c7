-- What the writer lays down is a plain file of the grammar, and so is read back: the same sizes, maxval and greys.
-- Assumes nothing.
use Prim.Native.Nat.{ℕ, ◌*◌, ◌≤◌}
use mathlib.Core.List.{List, []}
use mathlib.Core.Path.{◌≡◌, refl, sym}
use native.Mathlib.Omega.{arith}
use lib.ListN.{length}
use Rattle.base_lists.specs.Lists.{onto, all}
use Rattle.base_rows.specs.Refuse.{accepted}
use Rattle.base_rows.proofs.Walk.{none_first}
use Rattle.pgm_samples.specs.Samples.{none_above_of}
use Rattle.pgm_raster.specs.Raster.{head_rows}
use Rattle.pgm_raster.proofs.Tables.{within_none}
use Rattle.pgm_write.specs.Write.{WriteReady}
use Rattle.pgm_plain.specs.Plain.{plain_head_of, lines_of}
use Rattle.pgm_plain.specs.Grammar.{PlainFile}
use Rattle.pgm_plain.proofs.Heads.{head_complete, plain_header_written}
use Rattle.pgm_plain.proofs.Trips.{lines_samples}
use Rattle.pgm_plain_read.specs.PlainRead.{plain_read_as, plain_of, limited_of}
use Rattle.pgm_plain_read.proofs.Tables.{sizes_found}
use Rattle.pgm_plain_read.proofs.Accepted.{read_complete}
use Rattle.pgm_plain_write.specs.PlainWrite.{plain_file_of}

module _ (pic : List ℕ) (w h m : ℕ) (film : WriteReady pic w h m) where
  -- the file of a film is of the grammar, with the film's greys
  pub file_written : PlainFile (plain_file_of pic w h m) w h m pic
  unfolding plain_file_of none_above_of all
  file_written =
      let t = film.within in
      record {
        rest = lines_of pic;
        header = plain_header_written w h m (lines_of pic) (omega (arith, t.widest)) (omega (arith, t.highest)) (omega (arith, t.maxval_most));
        samples = lines_samples m (omega (arith, t.maxval_most)) pic [] refl film.bounded;
        count = film.whole;
      }

  -- its sizes are read back
  pub plain_sizes_back : limited_of (plain_head_of (plain_file_of pic w h m)) ≡ accepted (w, h, m)
  plain_sizes_back = sym (sizes_found (sym (head_complete file_written.header)) refl (none_first (head_rows w h m) (within_none w h m film.within)))

  -- "a film written and read back is the same film": its width, height and maxval are answered, and its greys stand at the front of a target with room
  pub plain_read_back : (target : List ℕ) → w * h ≤ length target → plain_read_as (accepted (w, h, m)) (onto target pic) ≡ plain_of (plain_file_of pic w h m) target
  plain_read_back target l =
      read_complete (plain_file_of pic w h m) target w h m
      (record { pic = pic; file = file_written; within = film.within; fitting = l; laid = refl })
