-- What write laid down is read back.
-- Assumes nothing.
use Prim.Native.Nat.{ℕ, ◌+◌, ◌-◌, ◌*◌, ◌≤◌}
use mathlib.Core.List.{List}
use mathlib.Core.Path.{◌≡◌, refl, sym, ap, ◌∙◌}
use native.Mathlib.Omega.{arith}
use lib.ListN.{length, drop}
use lib.Seq.{drop-append_seam}
use Rattle.base_lists.specs.Lists.{onto}
use Rattle.base_rows.specs.Refuse.{first, accepted}
use Rattle.base_rows.proofs.Walk.{none_first}
use Rattle.pgm_header.specs.Header.{Head, header_of, header_bytes}
use Rattle.pgm_header.proofs.Laws.{round_trip}
use Rattle.pgm_samples.specs.Samples.{is_wide, packed, unpacked, none_above_of}
use Rattle.pgm_samples.proofs.Trips.{unpacked_packed}
use Rattle.pgm_raster.specs.Raster.{raster_size_of, head_rows, raster_rows, RasterLimits}
use Rattle.pgm_raster.proofs.Tables.{within_none, exact_none}
use Rattle.pgm_read.specs.Pgm.{read_of, sizes_of}
use Rattle.pgm_read.proofs.Tables.{judged_found_lem, read_judged}
use Rattle.pgm_greys.specs.Greys.{turn_rows, greys_leave, turned_of}
use Rattle.pgm_greys.proofs.Tables.{grey_none}
use Rattle.pgm_greys.proofs.Parts.{greys_done}
use Rattle.pgm_write.specs.Write.{write_rows, WriteReady, file_of}
use Rattle.pgm_write.proofs.Tables.{write_asks, length_file}

module _ (pic : List ℕ) (w h m room : ℕ) (ok : first (write_rows pic w h m room) ≡ 0) where
  film : WriteReady pic w h m
  film = (write_asks pic w h m (file_of pic w h m) room ok).film

  -- its header is found as it was written
  pub written_header : header_of (file_of pic w h m) ≡ Head.Found w h m (length (header_bytes w h m))
  unfolding file_of
  written_header =
      let t : RasterLimits w h m = film.within in
      round_trip w h m (packed (is_wide m) pic) (omega (arith, t.widest)) (omega (arith, t.highest)) (omega (arith, t.maxval_most))

  -- the header is followed by a raster of the picture's size
  pub written_exact : length (header_bytes w h m) + raster_size_of w h m ≡ length (file_of pic w h m)
  written_exact = sym (length_file pic w h m film.whole)

  -- what stands behind the header is the raster
  pub written_behind : drop (length (header_bytes w h m)) (file_of pic w h m) ≡ packed (is_wide m) pic
  unfolding file_of
  written_behind = drop-append_seam (header_bytes w h m) (packed (is_wide m) pic)

  -- read accepts it: its width, height and maxval, and the raster's place
  pub written_read : read_of (file_of pic w h m) ≡ Head.Found w h m (length (header_bytes w h m))
  written_read =
      sym
      (read_judged (file_of pic w h m) written_header
      (judged_found_lem w h m (length (header_bytes w h m)) (length (file_of pic w h m)) refl
      (none_first (head_rows w h m) (within_none w h m film.within))
      refl
      (none_first (raster_rows w h m (length (file_of pic w h m) - length (header_bytes w h m))) (exact_none w h m (length (file_of pic w h m) - length (header_bytes w h m)) (omega (arith, written_exact))))))

  -- the sizes that read gives are those written
  pub written_sizes : sizes_of (read_of (file_of pic w h m)) ≡ accepted (w, h, m)
  written_sizes = rw written_read refl

  -- the greys of its raster are the picture
  pub written_picture : unpacked (is_wide m) (drop (length (header_bytes w h m)) (file_of pic w h m)) (w * h) ≡ pic
  written_picture = rw (written_behind, ← film.whole) (unpacked_packed (is_wide m) pic)

  -- a target with room takes them: no row of greys applies, and the picture stands at its front
  pub written_greys : (target : List ℕ) → w * h ≤ length target
      → turned_of (file_of pic w h m) (length (header_bytes w h m)) w h m target ≡ greys_leave (accepted tt) (onto target pic)
  written_greys target l =
      sym (greys_done (file_of pic w h m) (length (header_bytes w h m)) w h m target refl none (ap (onto target) (sym written_picture)))
    where
      none : first (turn_rows (file_of pic w h m) (length (header_bytes w h m)) w h m (length target)) ≡ 0
      none =
          grey_none (file_of pic w h m) (length (header_bytes w h m)) w h m (length target)
          (record {
            raster = record { within = film.within; exact = written_exact };
            fitting = l;
            bounded = ap (none_above_of m) written_picture ∙ film.bounded;
          })
