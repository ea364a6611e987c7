-- Laws of mappings that go through a line of 16-bit entries.
-- Assumes nothing.
use Prim.Native.Nat.{ℕ, ◌*◌, ◌≤◌}
use mathlib.Core.Bool.{true}
use mathlib.Core.List.{List, ◌++◌}
use mathlib.Core.Path.{◌≡◌, sym, ap, ◌∙◌}
use lib.ListN.{length, take, drop, get_or, length-append}
use lib.Seq.{take_at, length-take-le}
use native.Mathlib.Omega.{arith}
use borrow.Author.Tests.{lt-ltb}
use Rattle.base_lists.specs.Lists.{onto, all}
use Rattle.base_lists.proofs.Maps.{onto_whole}
use Rattle.base_lists.proofs.Alls.{all_at, all_from}
use Rattle.tile_limit.specs.declared.Clip.{Clip}
use Rattle.tile_limit.specs.declared.Edition.{Edition}
use Rattle.base_range.specs.Scan.{within}
use Rattle.base_range.proofs.Spans.{within_high}
use Rattle.tile_count.specs.declared.Rect.{Rect}
use Rattle.tile_count.specs.Tally.{greys_of, counts_of}
use Rattle.tile_clip.specs.declared.Spent.{Spent}
use Rattle.tile_map.specs.Tile.{clipped_by, counts_mapping, spent_by, FromCountsAsks, TileMapped}
use Rattle.tile_map.proofs.Tiles.{length_counts_mapping, counts_mapping_within, tile_part, tile_asks, tile_mapped}
use Rattle.byte_narrow.specs.Narrow.{is_byte}
use Rattle.byte_tile.specs.ByteTile.{ByteMappingAsks}

-- ---- the mapping

-- greys of at most 255 are bytes
pub within_bytes : (lo hi : ℕ) (vs : List ℕ) → hi ≤ 255 → all (within lo hi) vs ≡ true → all is_byte vs ≡ true
within_bytes lo hi vs h e = all_from is_byte vs 0 (λ i l. lt-ltb (get_or vs i 0) 256 (omega (arith, within_high lo hi (get_or vs i 0) (all_at (within lo hi) vs e i 0 l))))

module _ {pic : List ℕ} {stride : ℕ} {r : Rect} {lo hi b : ℕ} {clip : Clip} {scratch out : ℕ} (asks : ByteMappingAsks pic stride r lo hi b clip scratch out)
    (d : List ℕ) {s : List ℕ} (e : s ≡ onto d (counts_of lo hi b (greys_of pic stride r))) (l : List ℕ) (k : length l ≡ 256) where
  -- the front of the line has room for the mapping
  pub line_room : b ≡ length (take b l)
  line_room = sym (length-take-le b l (omega (arith, asks.few)))

  -- what clipping and mapping the counts into it asks
  pub byte_asks : FromCountsAsks clip (r.width * r.height) lo hi (take b s) (length (take b l))
  byte_asks = tile_asks record { counts = asks.tile.counts; holds = asks.tile.holds; room = omega (arith, line_room) } d e

  module _ (ed : Edition) {o : List ℕ} (h : o ≡ onto (take b l) (counts_mapping lo hi ed clip (r.width * r.height) (take b s))) where
    mapping_size : length (counts_mapping lo hi ed clip (r.width * r.height) (take b s)) ≡ b
    mapping_size = length_counts_mapping lo hi ed clip (r.width * r.height) (take b s) ∙ sym (tile_part asks.tile d e)

    -- then it holds the mapping
    mapped : o ≡ counts_mapping lo hi ed clip (r.width * r.height) (take b s)
    mapped = h ∙ onto_whole (take b l) _ (omega (arith, mapping_size, line_room))

    line_mapping : take b (o ++ drop b l) ≡ counts_mapping lo hi ed clip (r.width * r.height) (take b s)
    line_mapping = take_at o (drop b l) b (ap length mapped ∙ mapping_size) ∙ mapped

    -- in its front
    pub mapping_front : b ≤ length (o ++ drop b l)
    mapping_front = omega (arith, length-append o (drop b l), ap length mapped, mapping_size)

    pub mapping_part : b ≡ length (take b (o ++ drop b l))
    mapping_part = sym (ap length line_mapping ∙ mapping_size)

    -- which fits the output and is made of bytes
    pub mapping_narrow : (length (take b (o ++ drop b l)) ≤ out) × (all is_byte (take b (o ++ drop b l)) ≡ true)
    mapping_narrow = (
      omega (arith, mapping_part, asks.tile.room),
      ap (all is_byte) line_mapping ∙ within_bytes lo hi _ asks.bytes (counts_mapping_within ed byte_asks),
    )

    -- at the end
    pub mapping_end : (p : List ℕ) {p' q : List ℕ} {took : Spent} → q ≡ clipped_by ed clip (r.width * r.height) (take b s) → p' ≡ onto p (take b (o ++ drop b l))
        → took ≡ spent_by ed clip (r.width * r.height) (take b s)
        → TileMapped lo hi b ed clip (greys_of pic stride r) d (q ++ drop b s) p p' took
    mapping_end p f g k = tile_mapped asks.tile d e ed p f (g ∙ ap (onto p) line_mapping) k
