-- The four tiles of a run: where their mappings lie in the map buffer, and that a run from these is the run from the mappings.
-- Assumes nothing.
use Prim.Native.Nat.{ℕ, ◌+◌, ◌-◌, ◌*◌, ◌≤◌, ◌<◌}
use mathlib.Core.List.{List}
use mathlib.Core.Path.{◌≡◌, refl, sym, ap, ◌∙◌}
use lib.ListN.{length, take, drop, get_or}
use native.Mathlib.Nat.{mul-le-mul}
use native.Mathlib.Omega.{arith}
use Rattle.base_lists.specs.Lists.{tab}
use Rattle.base_lists.proofs.Tabs.{tab_cong}
use Rattle.base_lists.proofs.Windows.{get_d_part, length_part}
use Rattle.pixel_place.specs.declared.Place.{Place}
use Rattle.pixel_place.specs.Blend.{moved}
use Rattle.pixel_place.proofs.Laws.{sound_wider}
use Rattle.pixel_table.specs.Table.{blended_at, blended_run, RunAsks}
use Rattle.film_settings.specs.declared.Settings.{Settings}
use Rattle.film_settings.specs.Settings.{bins_of, entries_of}
use Rattle.pixel_weigh.specs.Weigh.{mapped_at, corners_of, weighed_run, Maps, WeighAsks}
use Rattle.pixel_weigh.proofs.Pixels.{entry_index, entry_most, tile_small, corners_are}

-- the mapping of a tile
abbrev pub mapping_part : Settings → List ℕ → ℕ → ℕ → List ℕ
mapping_part s m j i = take (bins_of s) (drop ((j * s.across + i) * bins_of s) m)

-- where it begins is small
pub tile_room : {across down b j i : ℕ} → j < down → i < across → across ≤ 16 → down ≤ 16 → b ≤ 4096 → (j * across + i) * b ≤ 1048576
tile_room {across} {down} {b} {j} {i} h l p q r =
    let few : j * across + i ≤ 256 = omega (arith, tile_small {across = across} {down = down} h l p q) in
    omega (arith, mul-le-mul few r)

module _ {s : Settings} {m : List ℕ} (maps : Maps s m) {j i : ℕ} (h : j < s.down) (l : i < s.across) where
  -- it lies among the mappings' entries
  pub tile_ends : (j * s.across + i) * bins_of s + bins_of s ≤ entries_of s
  tile_ends =
      let last : (j * s.across + i) * bins_of s + (bins_of s - 1) < entries_of s = entry_index {across = s.across} {down = s.down} {b = bins_of s} {k = bins_of s - 1} h l (omega (arith, maps.scale.some)) in
      omega (arith, last, maps.scale.some)

  -- and so in the map buffer
  pub tile_inside : (j * s.across + i) * bins_of s + bins_of s ≤ length m
  tile_inside = omega (arith, tile_ends, maps.room)

  -- it has a value for each bin
  tile_length : length (mapping_part s m j i) ≡ bins_of s
  tile_length = length_part m (bins_of s) ((j * s.across + i) * bins_of s) tile_inside

  module _ {k : ℕ} (b : k < bins_of s) where
    tile_entry : get_or (mapping_part s m j i) k 0 ≡ get_or m ((j * s.across + i) * bins_of s + k) 0
    tile_entry = get_d_part m (bins_of s) ((j * s.across + i) * bins_of s) {i = k} b

    -- the mapped one
    tile_value_lem : get_or (mapping_part s m j i) k 0 ≡ mapped_at s m j i k
    unfolding mapped_at
    tile_value_lem = tile_entry

    tile_most : get_or (mapping_part s m j i) k 0 ≤ 4095
    tile_most = rw tile_entry (entry_most maps {n = (j * s.across + i) * bins_of s + k} (omega (arith, tile_ends)))

module _ {s : Settings} {m : List ℕ} {column row : Place} {ks : List ℕ} (asks : WeighAsks s m column row ks) {a b c d : List ℕ}
    (ea : a ≡ mapping_part s m row.lower column.lower) (eb : b ≡ mapping_part s m row.lower column.upper)
    (ec : c ≡ mapping_part s m row.upper column.lower) (ed : d ≡ mapping_part s m row.upper column.upper) where
  long_a : length a ≡ bins_of s
  long_a = ap length ea ∙ tile_length asks.maps asks.row.lower asks.column.lower

  long_b : length b ≡ bins_of s
  long_b = ap length eb ∙ tile_length asks.maps asks.row.lower asks.column.upper

  long_c : length c ≡ bins_of s
  long_c = ap length ec ∙ tile_length asks.maps asks.row.upper asks.column.lower

  long_d : length d ≡ bins_of s
  long_d = ap length ed ∙ tile_length asks.maps asks.row.upper asks.column.upper

  -- what a run from them asks
  pub run_tiles : RunAsks column row a b c d (length a) ks
  run_tiles =
      record {
        tiles = record {
          along = (refl, long_b ∙ sym long_a, long_c ∙ sym long_a, long_d ∙ sym long_a);
          most = λ k l. let o : k < bins_of s = omega (arith, long_a) in rw (ea, eb, ec, ed) (
            tile_most asks.maps asks.row.lower asks.column.lower o,
            tile_most asks.maps asks.row.lower asks.column.upper o,
            tile_most asks.maps asks.row.upper asks.column.lower o,
            tile_most asks.maps asks.row.upper asks.column.upper o,
          );
        };
        column = sound_wider asks.column asks.maps.across (omega arith);
        row = sound_wider asks.row asks.maps.down (omega arith);
        some = omega (arith, long_a, asks.maps.scale.some);
        few = omega (arith, long_a, asks.maps.scale.few);
        room = asks.room;
        bins = λ i l. omega (arith, long_a, asks.bins i l);
      }

  -- and what it comes to
  pub run_summed : {px : List ℕ} → px ≡ blended_run column row a b c d ks → px ≡ weighed_run s m column row ks
  unfolding blended_run weighed_run
  run_summed e = e ∙ tab_cong (length ks) (λ i l. same i (asks.bins i l))
    where
      same : (i : ℕ) → get_or ks i 0 < bins_of s → blended_at column row a b c d i (get_or ks i 0) ≡ corners_of s m (moved column i) row (get_or ks i 0)
      same i o =
          corners_are s m (moved column i) row (get_or ks i 0)
          (ap (λ t. get_or t (get_or ks i 0) 0) ea ∙ tile_value_lem asks.maps asks.row.lower asks.column.lower o)
          (ap (λ t. get_or t (get_or ks i 0) 0) eb ∙ tile_value_lem asks.maps asks.row.lower asks.column.upper o)
          (ap (λ t. get_or t (get_or ks i 0) 0) ec ∙ tile_value_lem asks.maps asks.row.upper asks.column.lower o)
          (ap (λ t. get_or t (get_or ks i 0) 0) ed ∙ tile_value_lem asks.maps asks.row.upper asks.column.upper o)
          refl

-- a run is its pixels
pub weighed_is : (s : Settings) (m : List ℕ) (column row : Place) (ks : List ℕ) → weighed_run s m column row ks ≡ tab (length ks) (λ i. corners_of s m (moved column i) row (get_or ks i 0))
unfolding weighed_run
weighed_is s m column row ks = refl
