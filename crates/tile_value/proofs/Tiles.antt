-- The value of one bin by the counts of a tile, or of any rectangle of a picture: what it asks where they stand in the front of a scratch, and what it leaves there.
-- lo and hi are Min and Max, b the bins B.
-- Assumes nothing.
use Prim.Native.Nat.{ℕ, ◌*◌, ◌<◌}
use mathlib.Core.List.{List, ◌++◌}
use mathlib.Core.Path.{◌≡◌, sym, ap, ap₂, ◌∙◌}
use native.Mathlib.Omega.{arith}
use lib.ListN.{length, take, drop}
use Rattle.base_lists.specs.Lists.{onto}
use Rattle.base_lists.proofs.Fills.{take_onto, drop_onto}
use Rattle.tile_limit.specs.declared.Clip.{Clip}
use Rattle.tile_limit.specs.declared.Edition.{Edition}
use Rattle.tile_count.specs.declared.Rect.{Rect}
use Rattle.tile_count.specs.Tally.{greys_of, counts_of}
use Rattle.tile_count.proofs.Greys.{length_greys}
use Rattle.tile_count.proofs.Counts.{length_counts}
use Rattle.tile_map.specs.Tile.{clipped_by, divided_by, mapped_of, tile_counts, tile_divides, FromCountsAsks, MappingAsks}
use Rattle.tile_map.proofs.Tiles.{length_tile_counts, tile_counts_by, tile_divides_by, tile_part, tile_asks}
use Rattle.tile_value.specs.Value.{ValueAsks, ValueGiven}

module _ {pic : List ℕ} {stride : ℕ} {r : Rect} {lo hi b : ℕ} {clip : Clip} {scratch out : ℕ} (asks : MappingAsks pic stride r lo hi b clip scratch out)
    (d : List ℕ) {s : List ℕ} (e : s ≡ onto d (counts_of lo hi b (greys_of pic stride r))) where
  -- what it asks
  pub tile_value_asks : {k : ℕ} → k < b → ValueAsks clip (r.width * r.height) lo hi k (take b s)
  tile_value_asks l =
      let from : FromCountsAsks clip (r.width * r.height) lo hi (take b s) out = tile_asks asks d e in
      record { counted = from.counted; some = from.some; order = from.order; most = from.most; bin = omega (arith, tile_part asks d e) }

  -- the front of the scratch holds the counts
  counted : take b s ≡ counts_of lo hi b (greys_of pic stride r)
  counted = ap (take b) e ∙ take_onto d (counts_of lo hi b (greys_of pic stride r)) b (length_counts lo hi b (greys_of pic stride r))

  module _ (ed : Edition) {k : ℕ} {p : List ℕ} {v : ℕ} (given : ValueGiven ed clip (r.width * r.height) lo hi k (take b s) p v) where
    -- it is the value of the tile's own clipped counts
    pub tile_value_lem : v ≡ mapped_of lo hi (tile_divides lo hi b ed clip (greys_of pic stride r)) (tile_counts lo hi b ed clip (greys_of pic stride r)) k
    tile_value_lem =
        given.value
        ∙ ap₂ (λ n cs. mapped_of lo hi (divided_by ed clip n cs) (clipped_by ed clip n cs) k) (sym (length_greys pic stride r)) counted
        ∙ ap₂ (λ n cs. mapped_of lo hi n cs k) (sym (tile_divides_by lo hi b ed clip (greys_of pic stride r))) (sym (tile_counts_by lo hi b ed clip (greys_of pic stride r)))

    -- which stand in the front of the scratch
    pub tile_leaves : p ++ drop b s ≡ onto d (tile_counts lo hi b ed clip (greys_of pic stride r))
    unfolding onto
    tile_leaves =
        ap₂ (λ x y. x ++ y)
        (given.counts ∙ ap₂ (clipped_by ed clip) (sym (length_greys pic stride r)) counted ∙ sym (tile_counts_by lo hi b ed clip (greys_of pic stride r)))
        behind
      where
        behind : drop b s ≡ drop (length (tile_counts lo hi b ed clip (greys_of pic stride r))) d
        behind =
            ap (drop b) e
            ∙ drop_onto d (counts_of lo hi b (greys_of pic stride r)) b (length_counts lo hi b (greys_of pic stride r))
            ∙ ap (λ n. drop n d) (sym (length_tile_counts lo hi b ed clip (greys_of pic stride r)))
