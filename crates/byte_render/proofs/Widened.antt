-- Mappings of bytes, widened: their room, and that rendering from the wide ones is rendering from the bytes.
-- Assumes nothing.
use Prim.Native.Nat.{ℕ, ◌*◌, ◌≤◌}
use mathlib.Core.List.{List}
use mathlib.Core.Path.{◌≡◌, sym, ap, ◌∙◌}
use lib.ListN.{length, take}
use lib.Seq.{length-take-le}
use native.Mathlib.Omega.{arith}
use Rattle.base_lists.specs.Lists.{all, onto}
use Rattle.base_lists.proofs.Fills.{length_onto, take_onto}
use Rattle.base_range.specs.Scan.{within}
use Rattle.film_settings.specs.declared.Settings.{Settings}
use Rattle.film_settings.specs.declared.Window.{Window}
use Rattle.film_settings.specs.Settings.{bins_of, entries_of}
use Rattle.pixel_render.specs.Render.{render_of, Mapped}
use Rattle.pixel_render.proofs.Laws.{render_front}
use Rattle.byte_render.specs.Bytes.{ByteAsks, RenderFromAsks}

-- b is the bins as `film_settings::bins` gives them
module _ {w h : ℕ} {s : Settings} {m : List ℕ} {win : Window} {vs : List ℕ} {b : ℕ} (asks : RenderFromAsks w h s m win vs) (bins : b ≡ bins_of s) where
  -- the mappings' entries by them
  counted : s.across * s.down * b ≡ entries_of s
  counted = ap (λ n. s.across * s.down * n) bins

  -- the buffer has that many
  pub part_size : s.across * s.down * b ≡ length (take (s.across * s.down * b) m)
  part_size = sym (length-take-le (s.across * s.down * b) m (omega (arith, counted, asks.mapped.maps.room)))

  -- and the wide one has room for them
  pub part_fits : length (take (s.across * s.down * b) m) ≤ 16384
  part_fits = omega (arith, part_size, counted, asks.entries)

  module _ (d : List ℕ) {wide : List ℕ} (room : length d ≡ 16384) (widened : wide ≡ onto d (take (s.across * s.down * b) m)) where
    -- the mappings' entries are the same in both
    alike : take (entries_of s) m ≡ take (entries_of s) wide
    alike =
        ap (λ n. take n m) (sym counted)
        ∙ sym (ap (take (entries_of s)) widened ∙ take_onto d (take (s.across * s.down * b) m) (entries_of s) (sym part_size ∙ counted))

    -- so a film's pixels can be rendered from the wide ones
    wide_mapped : Mapped w h s wide
    wide_mapped =
        record {
          maps =
              record {
                across = asks.mapped.maps.across;
                down = asks.mapped.maps.down;
                scale = asks.mapped.maps.scale;
                room = omega (arith, ap length widened, length_onto d (take (s.across * s.down * b) m) (omega (arith, part_fits, room)), room, asks.entries);
                greys = ap (all (within s.min s.max)) (sym alike) ∙ asks.mapped.maps.greys;
              };
          columns = asks.mapped.columns;
          rows = asks.mapped.rows;
        }

    -- what rendering from them asks
    pub wide_bytes : ByteAsks w h s wide win vs 4096
    wide_bytes = record { mapped = wide_mapped; shown = asks.shown; bytes = asks.bytes; fitting = asks.wide }

    -- and what it leaves
    pub wide_back : {px : List ℕ} → px ≡ render_of w h s wide win vs → px ≡ render_of w h s m win vs
    wide_back e = e ∙ sym (render_front asks.mapped asks.shown wide alike)
