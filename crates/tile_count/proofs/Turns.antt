-- The turns of `count_plain`: what each row of a rectangle does to the counts, and what `count` makes of it.
-- Assumes nothing.
use Prim.Native.Nat.{ℕ, ◌+◌, ◌-◌, ◌*◌, ◌≤◌, ◌<◌}
use mathlib.Core.List.{List}
use mathlib.Core.Path.{◌≡◌, sym, ap, ap₂, ◌∙◌}
use lib.ListN.{length, take, drop, get_or}
use native.Mathlib.Omega.{arith}
use Rattle.base_lists.specs.Lists.{joined, onto, filled}
use Rattle.base_lists.proofs.Fills.{joined_suc, length_filled}
use Rattle.base_lists.proofs.Tallies.{get_or_filled}
use Rattle.tile_count.specs.declared.Rect.{Rect}
use Rattle.base_range.specs.Scan.{within}
use Rattle.tile_bin.specs.Binning.{factor_of}
use Rattle.tile_count.specs.Tally.{greys_of, counts_of, added_of, CountRowAsks, CountRectAsks, AddAsks}
use Rattle.tile_count.proofs.Counts.{added_none, added_added, added_clear, added_le, length_added}
use Rattle.tile_count.proofs.Greys.{row_of, rows_whole, rows_room, inside_part, row_all}

-- before the first row
pub rows_first : (lo hi b : ℕ) (cs : List ℕ) (f : ℕ → List ℕ) → b ≤ length cs → cs ≡ added_of lo hi b cs (joined 0 f)
unfolding joined
rows_first lo hi b cs f h = added_none lo hi b cs h

-- one row more
pub rows_next : (lo hi b : ℕ) (f : ℕ → List ℕ) (cs₀ : List ℕ) {cs cs' row : List ℕ} (y : ℕ)
    → cs ≡ added_of lo hi b cs₀ (joined y f) → row ≡ f y → cs' ≡ added_of lo hi b cs row → cs' ≡ added_of lo hi b cs₀ (joined (y + 1) f)
rows_next lo hi b f cs₀ {cs} {cs'} {row} y e q h =
    h
    ∙ ap₂ (added_of lo hi b) e q
    ∙ added_added lo hi b cs₀ (joined y f) (f y)
    ∙ ap (added_of lo hi b cs₀) (sym (joined_suc y f))

-- all rows
pub rows_end : (lo hi b : ℕ) (pic : List ℕ) (stride : ℕ) (r : Rect) (cs₀ : List ℕ) {cs : List ℕ} (y : ℕ) → cs ≡ added_of lo hi b cs₀ (joined y (row_of pic stride r))
    → y ≤ r.height → r.height ≤ y → cs ≡ added_of lo hi b cs₀ (greys_of pic stride r)
rows_end lo hi b pic stride r cs₀ y e h l = e ∙ ap (added_of lo hi b cs₀) (rows_whole pic stride r y h l)

-- what a row's counting asks
pub row_asked : {pic : List ℕ} {stride : ℕ} {r : Rect} {lo hi b factor : ℕ} {cs₀ cs : List ℕ} → AddAsks pic stride r lo hi b factor cs₀ → (y : ℕ)
    → cs ≡ added_of lo hi b cs₀ (joined y (row_of pic stride r)) → y < r.height → {row : List ℕ} → row ≡ row_of pic stride r y → CountRowAsks row lo hi b factor cs
row_asked {pic} {stride} {r} {lo} {hi} {b} {factor} {cs₀} {cs} adds y e h q =
    rw q
    record {
      by = adds.by;
      most = adds.asks.scale.most;
      some = omega (arith, adds.asks.scale.some);
      room = omega (arith, ap length e ∙ length_added lo hi b cs₀ (joined y (row_of pic stride r)) adds.asks.enough, adds.asks.enough);
      greys = row_all (within lo hi) pic stride r adds.asks.greys y h;
      fits = λ k l. omega (
        arith,
        ap (λ s. get_or s k 0) e,
        added_le lo hi b cs₀ (joined y (row_of pic stride r)) k l,
        rows_room pic stride r y h,
        adds.fits k l,
      );
    }

-- of a part of the picture
pub row_asks : {pic : List ℕ} {stride : ℕ} {r : Rect} {lo hi b factor : ℕ} {cs₀ cs : List ℕ} → AddAsks pic stride r lo hi b factor cs₀ → (y : ℕ)
    → cs ≡ added_of lo hi b cs₀ (joined y (row_of pic stride r)) → y < r.height
    → CountRowAsks (take ((r.top + y) * stride + r.left + r.width - ((r.top + y) * stride + r.left)) (drop ((r.top + y) * stride + r.left) pic)) lo hi b factor cs
row_asks {pic} {stride} {r} adds y e h = row_asked adds y e h (inside_part pic stride r adds.asks.inside y h)

-- ---- the whole rectangle, from cleared counts

-- what adding its greys to them asks
pub clear_asks : {pic : List ℕ} {stride : ℕ} {r : Rect} {lo hi b factor : ℕ} {cs : List ℕ} (d : List ℕ) → CountRectAsks pic stride r lo hi b (length d) → factor ≡ factor_of lo hi b
    → cs ≡ filled (λ k. 0) d b → AddAsks pic stride r lo hi b factor cs
clear_asks {pic} {stride} {r} {lo} {hi} {b} {factor} {cs} d asks by z =
    record {
      asks = record {
        inside = asks.inside;
        scale = asks.scale;
        enough = omega (arith, ap length z ∙ length_filled (λ k. 0) d b asks.enough, asks.enough);
        greys = asks.greys;
      };
      by = by;
      fits = λ k l. omega (arith, ap (λ s. get_or s k 0) z, get_or_filled (λ k. 0) d b k l, asks.inside.few);
    }

-- and what it comes to
pub clear_counts : (lo hi b : ℕ) (d vs : List ℕ) {cs cs' : List ℕ} → cs ≡ filled (λ k. 0) d b → cs' ≡ added_of lo hi b cs vs → cs' ≡ onto d (counts_of lo hi b vs)
clear_counts lo hi b d vs z e = e ∙ ap (λ s. added_of lo hi b s vs) z ∙ added_clear lo hi b d vs
