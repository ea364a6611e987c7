-- The value of one bin by counts: what clipping them leaves, and what their sum up to the bin comes to.
-- Assumes nothing.
use Prim.Native.Nat.{ℕ, ◌+◌, ◌-◌, ◌*◌, ◌/◌, ◌≤◌, ◌<◌}
use mathlib.Core.List.{List}
use mathlib.Core.Path.{◌≡◌, refl, sym, ap, ap₂, ◌∙◌}
use native.Mathlib.Nat.{mul-le-mul}
use Rattle.std.proofs.Common.{Option, Some}
use Rattle.std.proofs.lemmas.Option.{IfSome_then}
use native.Mathlib.Omega.{arith}
use lib.ListN.{length, take}
use lib.Ieee.{Float}
use lib.Seq.{take_all}
use Rattle.base_lists.specs.Lists.{total}
use Rattle.base_lists.proofs.Tallies.{total_take_le}
use Rattle.tile_limit.specs.declared.Clip.{Clip}
use Rattle.tile_limit.specs.declared.Edition.{Edition}
use Rattle.tile_limit.specs.declared.Edition.TheVariants.{Ours, Of1986}
use Rattle.tile_limit.specs.declared.Clip.TheVariants.{Factor}
use Rattle.tile_limit.specs.Limit.{limit_of, LimitAsks}
use Rattle.tile_clip.specs.Clip.{clipped}
use Rattle.tile_clip.specs.Spans.{framed, SpanAsks, SpanLeft}
use Rattle.tile_clip.proofs.Laws.{total_clipped}
use Rattle.tile_clip.proofs.Framed.{length_framed, total_framed}
use Rattle.tile_clip1986.specs.Older.{older}
use Rattle.tile_map.specs.Tile.{clipped_in, clipped_by, divided_in, divided_by, mapped_of}
use Rattle.tile_map.proofs.Mapped.{part_le, mapped_through}
use Rattle.tile_map.proofs.Tiles.{length_clipped_by, divided_total, divided_between, limit_asks, in_asks, clipped_factor}
use Rattle.tile_value.specs.Value.{ValueAsks, ValueGiven, LimitedAsks, LimitedGiven, SpanValueAsks, SpanValueGiven}

-- ---- what `clip_in` leaves

-- our edition: N divides
pub in_ours : {ed : Edition} (n l : ℕ) (cs : List ℕ) {ds : List ℕ} → ed ≡ Ours → ds ≡ clipped l cs → (ds ≡ clipped_in ed l cs) × (n ≡ divided_in ed n (clipped_in ed l cs))
in_ours n l cs e h = rw e (h, refl)

-- that of 1986: the new total does
pub in_older : {ed : Edition} (n l : ℕ) (cs : List ℕ) {ds : List ℕ} {t : ℕ} → ed ≡ Of1986 → (ds ≡ older l cs) × (t ≡ total (older l cs))
    → (ds ≡ clipped_in ed l cs) × (t ≡ divided_in ed n (clipped_in ed l cs))
in_older n l cs e h = rw e h

-- ---- the steps of `value`: clipped, added up to the bin

module _ (ed : Edition) {clip : Clip} {n lo hi k : ℕ} {cs : List ℕ} (asks : ValueAsks clip n lo hi k cs) {ds : List ℕ} {t : ℕ} (e : (ds ≡ clipped_by ed clip n cs) × (t ≡ divided_by ed clip n cs)) where
  -- the clipped counts add up to what the mapping divides by
  total_value : total ds ≡ t
  total_value = ap total e.0 ∙ (divided_total ed clip n cs asks.counted.holds asks.counted.all_pixels (omega (arith, asks.counted.some)) ∙ sym e.1)

  value_between : (n ≤ divided_by ed clip n cs) × (divided_by ed clip n cs < n + length cs)
  value_between = divided_between ed clip n cs asks.counted.holds asks.counted.all_pixels (omega (arith, asks.counted.some))

  -- which is above 0
  pub value_some : 0 < t
  value_some = omega (arith, e.1, value_between.0, asks.some)

  -- and small
  value_few : t ≤ 4198400
  value_few = omega (arith, e.1, value_between.1, asks.counted.few_pixels, asks.counted.few)

  -- what adding them up to the bin asks
  pub value_sum_asks : (k < length ds) × (total ds ≤ 4198400)
  value_sum_asks = (omega (arith, asks.bin, ap length e.0 ∙ length_clipped_by ed clip n cs), omega (arith, total_value, value_few))

  module _ {m : ℕ} (q : m ≡ total (take (k + 1) ds)) where
    -- S is at most what is divided by
    value_part : m ≤ t
    value_part = omega (arith, total_take_le (k + 1) ds, total_value)

    -- S x R fits 64 bits
    pub value_product : m * (hi - lo) ≤ 4198400 * 4095
    value_product = mul-le-mul {n₂ = 4198400} {m₂ = 4095} (omega (arith, value_part, value_few)) (omega (arith, asks.most))

    -- S x R over what is divided by is at most R
    pub value_quotient : m * (hi - lo) / t ≤ hi - lo
    value_quotient = part_le m t (hi - lo) value_part

    -- what it comes to
    pub value_given : ValueGiven ed clip n lo hi k cs ds (lo + m * (hi - lo) / t)
    value_given =
        record {
          counts = e.0;
          value = mapped_through lo hi (clipped_by ed clip n cs) k (q ∙ ap (λ x. total (take (k + 1) x)) e.0) e.1;
        }

-- ---- where only some bins in a row hold anything

-- all bins are b
module _ {most n lo hi k b at : ℕ} {cs : List ℕ} (asks : LimitedAsks most n lo hi k b at cs) where
  long : length (framed 0 b at cs) ≡ b
  long = length_framed 0 b at cs asks.within

  -- what clipping them asks
  pub limited_span : SpanAsks most b at cs
  limited_span =
      let few : total (framed 0 b at cs) ≡ total cs + (b - length cs) * 0 = total_framed 0 b at cs asks.within in
      let room : n ≤ most * b = rw long at asks.counted.room in
      record {
        some_bin = omega (arith, asks.within, asks.first, asks.last);
        few_bins = omega (arith, long, asks.counted.few);
        within = asks.within;
        few_pixels = omega (arith, few, asks.counted.all_pixels, asks.counted.few_pixels);
        holds = omega (arith, few, asks.counted.all_pixels, room);
      }

  module _ {ds : List ℕ} {below : ℕ} (left : SpanLeft most b at cs ds (Some below)) where
    abbrev all : List ℕ
    all = clipped most (framed 0 b at cs)

    all_total : total all ≡ n
    all_total = total_clipped most (framed 0 b at cs) asks.counted.some (omega (arith, asks.counted.all_pixels, asks.counted.room)) ∙ asks.counted.all_pixels

    -- what is added up is a part of N
    part_total : below + total ds ≡ total (take (at + length cs) all)
    part_total = sym (left.sums (length cs) (omega arith) ∙ ap (λ x. below + total x) (ap (λ m. take m ds) (sym left.size) ∙ take_all (length ds) ds (omega arith)))

    pub limited_through : (k - at < length ds) × (total ds ≤ 4198400)
    limited_through = (omega (arith, left.size, asks.first, asks.last), omega (arith, part_total, total_take_le (at + length cs) all, all_total, asks.counted.few_pixels))

    module _ {m : ℕ} (q : m ≡ total (take (k - at + 1) ds)) where
      sum_is : below + m ≡ total (take (k + 1) all)
      sum_is =
          let e : at + (k - at + 1) ≡ k + 1 = omega (arith, asks.first) in
          ap (λ x. below + x) q ∙ sym (left.sums (k - at + 1) (omega (arith, asks.first, asks.last))) ∙ ap (λ x. total (take x all)) e

      pub limited_most : below + m ≤ n
      limited_most = omega (arith, sum_is, total_take_le (k + 1) all, all_total)

      pub limited_product : (below + m) * (hi - lo) ≤ 4198400 * 4095
      limited_product = mul-le-mul {n₂ = 4198400} {m₂ = 4095} (omega (arith, limited_most, asks.counted.few_pixels)) (omega (arith, asks.top))

      pub limited_quotient : (below + m) * (hi - lo) / n ≤ hi - lo
      limited_quotient = part_le (below + m) n (hi - lo) limited_most

      pub limited_given : LimitedGiven most n lo hi k b at cs ds (Some (lo + (below + m) * (hi - lo) / n))
      limited_given = record { size = left.size; value = mapped_through lo hi all k sum_is refl }

-- by the clip setting
module _ {clip : Clip} {f : Float} {n lo hi k b at : ℕ} {cs : List ℕ} (asks : SpanValueAsks clip n lo hi k b at cs) (e : clip ≡ Factor f) where
  span_long : length (framed 0 b at cs) ≡ b
  span_long = length_framed 0 b at cs asks.within

  pub span_bins : b ≤ 4096
  span_bins = omega (arith, span_long, asks.whole.counted.few)

  pub span_limit : LimitAsks f n b
  span_limit = rw span_long at (limit_asks asks.whole.counted e)

  module _ {most : ℕ} (q : most ≡ limit_of f n b) where
    same_limit : most ≡ limit_of f n (length (framed 0 b at cs))
    same_limit = q ∙ ap (limit_of f n) (sym span_long)

    pub span_limited : LimitedAsks most n lo hi k b at cs
    span_limited =
        record {
          counted = in_asks asks.whole.counted e same_limit;
          some = asks.whole.some;
          order = asks.whole.order;
          top = asks.whole.most;
          within = asks.within;
          first = asks.first;
          last = asks.last;
        }

    pub span_ours : {ds : List ℕ} {g : Option ℕ} → LimitedGiven most n lo hi k b at cs ds g → SpanValueGiven Ours clip n lo hi k b at cs ds g
    span_ours {g = g} given =
        let x = clipped_factor Ours n (framed 0 b at cs) e same_limit (refl, refl) in
        record { size = given.size; value = IfSome_then g given.value (λ v q. q ∙ ap₂ (λ m z. mapped_of lo hi m z k) x.1 x.0) }
