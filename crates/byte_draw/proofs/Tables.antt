-- The byte draw's table: none of its rows gives 13 or 18, since a byte lies in 0 to 255; and what its parts tell where none applies.
-- Assumes nothing.
use Prim.Native.Nat.{ℕ, zero, suc, ◌<◌}
use mathlib.Core.List.{List, ◌++◌}
use mathlib.Core.Path.{◌≡◌, refl, sym, ◌∙◌}
use lib.ListN.{length, get_or}
use native.Mathlib.Omega.{arith}
use Rattle.base_lists.proofs.Alls.{all_take}
use Rattle.base_rows.specs.Refuse.{first}
use Rattle.base_rows.proofs.Walk.{first_both, front, behind}
use Rattle.base_range.specs.Scan.{within}
use Rattle.tile_count.proofs.Greys.{greys_all}
use Rattle.film_settings.specs.declared.Settings.{Settings}
use Rattle.film_settings.specs.declared.MapRecord.{MapRecord}
use Rattle.film_settings.specs.declared.Window.{Window}
use Rattle.film_settings.specs.Settings.{entries_of}
use Rattle.pixel_render.specs.Render.{rect_of}
use Rattle.film_record.specs.Held.{record_rows, window_rows}
use Rattle.film_draw.specs.Draw.{pixel_rows}
use Rattle.film_record.proofs.Tables.{record_numbered, window_numbered, window_inside}
use Rattle.film_window.proofs.Frames.{framed}
use Rattle.film_draw.proofs.Tables.{pixels_within}
use Rattle.film_draw.proofs.Like.{pixel_free}
use Rattle.byte_profile.specs.Profile.{byte_rows}
use Rattle.byte_profile.proofs.Greys.{bytes_within}
use Rattle.byte_profile.proofs.Profile.{byte_numbered, byte_ready}
use Rattle.byte_draw.specs.Bytes.{byte_draw_rows, ByteWindowReady}

-- ---- 13 and 18

-- bytes lie in Min to Max: where none of the rows before them applies, neither 13 nor 18 does
pub byte_pixels : (w h : ℕ) (pic : List ℕ) (s : Settings) (win : Window) (m : List ℕ) (room : ℕ) → ((i : ℕ) → get_or pic i 0 < 256) → ((i : ℕ) → get_or m i 0 < 256)
    → first (byte_rows w h (length pic) s (length m)) ≡ 0 → first (window_rows w h win room) ≡ 0 → first (pixel_rows w pic s win m) ≡ 0
byte_pixels w h pic s win m room small smalls e f =
    let known = byte_ready w h (length pic) s (length m) e in
    let (some, high, across, down, area) = window_inside w h win room f in
    let frame = framed {h = h} some across down known.ready.whole in
    pixel_free w pic s win m
    (greys_all (within s.min s.max) pic w (rect_of win) frame.across frame.down (bytes_within pic known.profile (λ i l. small i)))
    (λ one. all_take (within s.min s.max) (entries_of s) m (bytes_within m known.profile (λ i l. smalls i)))

-- ---- the parts of the table one behind the other, as `refusal` asks them

module _ (film w h : ℕ) (pic : List ℕ) (s : Settings) (r : MapRecord) (win : Window) (m : List ℕ) (room : ℕ) where
  pub rows_shared : {x : ℕ} → x ≡ first (byte_rows w h (length pic) s (length m)) → (x ≡ 0 → ⊥) → x ≡ first (byte_draw_rows film w h pic s r win m room)
  unfolding byte_draw_rows
  rows_shared e z = front (byte_rows w h (length pic) s (length m)) _ e z

  module _ {a : ℕ} (e : a ≡ first (byte_rows w h (length pic) s (length m))) (z : a ≡ 0) where
    pub rows_record : {x : ℕ} → x ≡ first (record_rows film w h s r) → (x ≡ 0 → ⊥) → x ≡ first (byte_draw_rows film w h pic s r win m room)
    unfolding byte_draw_rows
    rows_record f y =
        behind (byte_rows w h (length pic) s (length m)) _ (byte_numbered w h (length pic) s (length m)) e z (front (record_rows film w h s r) _ f y)

    -- what the window's rows give is given, 0 too: 13 and 18 behind them never are
    pub rows_window : {b x : ℕ} → b ≡ first (record_rows film w h s r) → b ≡ 0 → x ≡ first (window_rows w h win room)
        → ((i : ℕ) → get_or pic i 0 < 256) → ((i : ℕ) → get_or m i 0 < 256) → x ≡ first (byte_draw_rows film w h pic s r win m room)
    unfolding byte_draw_rows
    rows_window {b} {x} f y g small smalls =
        behind (byte_rows w h (length pic) s (length m)) _ (byte_numbered w h (length pic) s (length m)) e z
        (behind (record_rows film w h s r) _ (record_numbered film w h s r) f y (go x g))
      where
        go : (n : ℕ) → n ≡ first (window_rows w h win room) → n ≡ first (window_rows w h win room ++ pixel_rows w pic s win m)
        go zero q =
            behind (window_rows w h win room) _ (window_numbered w h win room) q refl
            (sym (byte_pixels w h pic s win m room small smalls (sym e ∙ z) (sym q)))
        go (suc n) q = front (window_rows w h win room) _ q (λ t. omega arith)

-- ---- none of the rows applies

-- none of each part
byte_parts : (film w h : ℕ) (pic : List ℕ) (s : Settings) (r : MapRecord) (win : Window) (m : List ℕ) (room : ℕ) → first (byte_draw_rows film w h pic s r win m room) ≡ 0
    → (first (byte_rows w h (length pic) s (length m)) ≡ 0) × (first (window_rows w h win room) ≡ 0) × (first (pixel_rows w pic s win m) ≡ 0)
unfolding byte_draw_rows
byte_parts film w h pic s r win m room e =
    let a = first_both (byte_rows w h (length pic) s (length m)) _ (byte_numbered w h (length pic) s (length m)) e in
    let b = first_both (record_rows film w h s r) _ (record_numbered film w h s r) a.1 in
    let c = first_both (window_rows w h win room) (pixel_rows w pic s win m) (window_numbered w h win room) b.1 in
    (a.0, c.0, c.1)

-- what the work relies on
pub byte_window_ready : (film w h : ℕ) (pic : List ℕ) (s : Settings) (r : MapRecord) (win : Window) (m : List ℕ) (room : ℕ) → first (byte_draw_rows film w h pic s r win m room) ≡ 0
    → ByteWindowReady w h pic s win m room
byte_window_ready film w h pic s r win m room e =
    let (shared, inside, fair) = byte_parts film w h pic s r win m room e in
    let known = byte_ready w h (length pic) s (length m) shared in
    let (wide, high, across, down, area) = window_inside w h win room inside in
    let (greys, mappings) = pixels_within w pic s win m fair in
    record {
      shown =
          record {
            ready = known.ready;
            wide = wide;
            high = high;
            across = across;
            down = down;
            area = area;
            greys = greys;
            mappings = mappings;
          };
      profile = known.profile;
    }
