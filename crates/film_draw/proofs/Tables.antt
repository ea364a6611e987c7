-- The parts of draw's table, one behind the other: their numbers, and what they tell where none of their rows applies.
-- Assumes nothing.
use Prim.Native.Nat.{ℕ, ◌+◌, ◌-◌, ◌<◌}
use mathlib.Core.Bool.{Bool, true, false, not, ◌&&◌}
use mathlib.Core.List.{List, [], ◌∷◌, ◌++◌}
use mathlib.Core.Path.{◌≡◌, refl}
use lib.ListN.{length, take}
use native.Mathlib.Omega.{arith}
use borrow.Author.Tests.{not-false}
use Rattle.base_lists.specs.Lists.{all}
use Rattle.base_rows.specs.Refuse.{first, numbers_of, Numbered}
use Rattle.base_rows.proofs.Walk.{numbers_append, first_none, first_both, front, behind, only_front}
use Rattle.base_range.specs.Scan.{within}
use Rattle.tile_count.specs.Tally.{greys_of}
use Rattle.film_settings.specs.declared.Settings.{Settings}
use Rattle.film_settings.specs.declared.MapRecord.{MapRecord}
use Rattle.film_settings.specs.declared.Window.{Window}
use Rattle.film_settings.specs.Settings.{bins_of, entries_of, clip_one_of, shared_rows}
use Rattle.film_settings.proofs.Ready.{shared_numbers, shared_numbered, ready}
use Rattle.film_settings.proofs.Reach.{shared_31}
use Rattle.pixel_render.specs.Render.{rect_of}
use Rattle.film_record.specs.Held.{record_rows, window_rows}
use Rattle.film_record.proofs.Tables.{record_numbers_lem, window_numbers, record_numbered, window_numbered, record_held, window_inside}
use Rattle.film_window.proofs.Frames.{framed}
use Rattle.film_draw.specs.Draw.{pixel_rows, draw_rows, LookAsks, DrawReady}

-- ---- the numbers, in the order of document 01

-- of 13 and 18
pub pixel_numbers : (w : ℕ) (pic : List ℕ) (s : Settings) (win : Window) (m : List ℕ) → numbers_of (pixel_rows w pic s win m) ≡ 13 ∷ 18 ∷ []
unfolding numbers_of pixel_rows
pixel_numbers w pic s win m = refl

-- of all that stands behind the shared rows
behind_numbers : (film w h : ℕ) (pic : List ℕ) (s : Settings) (r : MapRecord) (win : Window) (m : List ℕ) (room : ℕ)
    → numbers_of (record_rows film w h s r ++ (window_rows w h win room ++ pixel_rows w pic s win m))
    ≡ 15 ∷ 15 ∷ 15 ∷ 15 ∷ 15 ∷ 15 ∷ 15 ∷ 15 ∷ 15 ∷ 15 ∷ 15 ∷ 15 ∷ 16 ∷ 16 ∷ 16 ∷ 16 ∷ 17 ∷ 13 ∷ 18 ∷ []
behind_numbers film w h pic s r win m room =
    rw (
      numbers_append (record_rows film w h s r) (window_rows w h win room ++ pixel_rows w pic s win m),
      numbers_append (window_rows w h win room) (pixel_rows w pic s win m),
      record_numbers_lem film w h s r,
      window_numbers w h win room,
      pixel_numbers w pic s win m,
    )
    refl

-- of draw
pub draw_numbers : (film w h : ℕ) (pic : List ℕ) (s : Settings) (r : MapRecord) (win : Window) (m : List ℕ) (room : ℕ)
    → numbers_of (draw_rows film w h pic s r win m room)
    ≡ 1 ∷ 1 ∷ 1 ∷ 1 ∷ 2 ∷ 3 ∷ 3 ∷ 4 ∷ 4 ∷ 5 ∷ 6 ∷ 7 ∷ 8 ∷ 9 ∷ 9 ∷ 31 ∷ 10 ∷ 11 ∷ 15 ∷ 15 ∷ 15 ∷ 15 ∷ 15 ∷ 15 ∷ 15 ∷ 15 ∷ 15 ∷ 15 ∷ 15 ∷ 15 ∷ 16 ∷ 16 ∷ 16 ∷ 16 ∷ 17 ∷ 13 ∷ 18 ∷ []
unfolding draw_rows
draw_numbers film w h pic s r win m room =
    rw (
      numbers_append (shared_rows w h (length pic) s (length m)) (record_rows film w h s r ++ (window_rows w h win room ++ pixel_rows w pic s win m)),
      shared_numbers w h (length pic) s (length m),
      behind_numbers film w h pic s r win m room,
    )
    refl

-- all are above 0

pub pixel_numbered : (w : ℕ) (pic : List ℕ) (s : Settings) (win : Window) (m : List ℕ) → Numbered (pixel_rows w pic s win m)
unfolding all
pixel_numbered w pic s win m = rw (pixel_numbers w pic s win m) refl

-- ---- what the parts tell

-- 18 does not apply: the mappings are as asked, but at factor 1.0
unlooked : (a b : Bool) → (not a && not b) ≡ false → a ≡ false → b ≡ true
unlooked true b e h = let z : ◌≡◌ {A = ℕ} 0 1 = cc in absurd (omega arith)
unlooked false b e h = not-false b e

-- neither 13 nor 18: the window's pixels lie in Min to Max, and so do the mappings, but at factor 1.0
pub pixels_within : (w : ℕ) (pic : List ℕ) (s : Settings) (win : Window) (m : List ℕ) → first (pixel_rows w pic s win m) ≡ 0
    → (all (within s.min s.max) (greys_of pic w (rect_of win)) ≡ true) × (clip_one_of s.clip ≡ false → all (within s.min s.max) (take (entries_of s) m) ≡ true)
unfolding pixel_rows
pixels_within w pic s win m e =
    let n = first_none (pixel_rows w pic s win m) (pixel_numbered w pic s win m) e in
    (not-false _ n.0, unlooked _ _ n.1.0)

-- what the search for 13 and 18 asks, where none of the rows before it applies
pub look_asks : (w h : ℕ) (pic : List ℕ) (s : Settings) (win : Window) (m : List ℕ) (room : ℕ) → first (shared_rows w h (length pic) s (length m)) ≡ 0 → first (window_rows w h win room) ≡ 0
    → LookAsks (length pic) w s win (length m)
look_asks w h pic s win m room e f =
    let g = ready w h (length pic) s (length m) e in
    let (some, high, across, down, area) = window_inside w h win room f in
    record {
      framed = framed {h = h} some across down g.whole;
      acrossmost = g.tiled.acrossmost;
      downmost = g.tiled.downmost;
      binsmost = g.tiled.binsmost;
      fitting = g.fitting;
    }

-- none of the rows of draw applies: none of each part
pub draw_parts : (film w h : ℕ) (pic : List ℕ) (s : Settings) (r : MapRecord) (win : Window) (m : List ℕ) (room : ℕ) → first (draw_rows film w h pic s r win m room) ≡ 0
    → (first (shared_rows w h (length pic) s (length m)) ≡ 0) × (first (record_rows film w h s r) ≡ 0) × (first (window_rows w h win room) ≡ 0) × (first (pixel_rows w pic s win m) ≡ 0)
unfolding draw_rows
draw_parts film w h pic s r win m room e =
    let a = first_both (shared_rows w h (length pic) s (length m)) _ (shared_numbered w h (length pic) s (length m)) e in
    let b = first_both (record_rows film w h s r) _ (record_numbered film w h s r) a.1 in
    let c = first_both (window_rows w h win room) (pixel_rows w pic s win m) (window_numbered w h win room) b.1 in
    (a.0, b.0, c.0, c.1)

-- what the work relies on
pub draw_ready : (film w h : ℕ) (pic : List ℕ) (s : Settings) (r : MapRecord) (win : Window) (m : List ℕ) (room : ℕ) → first (draw_rows film w h pic s r win m room) ≡ 0
    → DrawReady film w h pic s r win m room
draw_ready film w h pic s r win m room e =
    let (shared, kept, inside, fair) = draw_parts film w h pic s r win m room e in
    let (wide, high, across, down, area) = window_inside w h win room inside in
    let (greys, mappings) = pixels_within w pic s win m fair in
    record {
      held = record_held film w h s r kept;
      shown =
          record {
            ready = ready w h (length pic) s (length m) shared;
            wide = wide;
            high = high;
            across = across;
            down = down;
            area = area;
            greys = greys;
            mappings = mappings;
          };
    }

-- ---- the parts of the table one behind the other, as `refusal` asks them

module _ (film w h : ℕ) (pic : List ℕ) (s : Settings) (r : MapRecord) (win : Window) (m : List ℕ) (room : ℕ) where
  pub draw_shared : {x : ℕ} → x ≡ first (shared_rows w h (length pic) s (length m)) → (x ≡ 0 → ⊥) → x ≡ first (draw_rows film w h pic s r win m room)
  unfolding draw_rows
  draw_shared e z = front (shared_rows w h (length pic) s (length m)) _ e z

  pub draw_record : {a x : ℕ} → a ≡ first (shared_rows w h (length pic) s (length m)) → a ≡ 0 → x ≡ first (record_rows film w h s r) → (x ≡ 0 → ⊥)
      → x ≡ first (draw_rows film w h pic s r win m room)
  unfolding draw_rows
  draw_record e z f y =
      behind (shared_rows w h (length pic) s (length m)) _ (shared_numbered w h (length pic) s (length m)) e z (front (record_rows film w h s r) _ f y)

  pub draw_window : {a b x : ℕ} → a ≡ first (shared_rows w h (length pic) s (length m)) → a ≡ 0 → b ≡ first (record_rows film w h s r) → b ≡ 0
      → x ≡ first (window_rows w h win room) → (x ≡ 0 → ⊥) → x ≡ first (draw_rows film w h pic s r win m room)
  unfolding draw_rows
  draw_window e z f y g t =
      behind (shared_rows w h (length pic) s (length m)) _ (shared_numbered w h (length pic) s (length m)) e z
      (behind (record_rows film w h s r) _ (record_numbered film w h s r) f y (front (window_rows w h win room) _ g t))

  pub draw_pixel : {a b c x : ℕ} → a ≡ first (shared_rows w h (length pic) s (length m)) → a ≡ 0 → b ≡ first (record_rows film w h s r) → b ≡ 0
      → c ≡ first (window_rows w h win room) → c ≡ 0 → x ≡ first (pixel_rows w pic s win m) → x ≡ first (draw_rows film w h pic s r win m room)
  unfolding draw_rows
  draw_pixel e z f y g t q =
      behind (shared_rows w h (length pic) s (length m)) _ (shared_numbered w h (length pic) s (length m)) e z
      (behind (record_rows film w h s r) _ (record_numbered film w h s r) f y
      (behind (window_rows w h win room) _ (window_numbered w h win room) g t q))

-- the parts of draw's table
pub draw_rows_lem : (film w h : ℕ) (pic : List ℕ) (s : Settings) (r : MapRecord) (win : Window) (m : List ℕ) (room : ℕ)
    → draw_rows film w h pic s r win m room ≡ shared_rows w h (length pic) s (length m) ++ (record_rows film w h s r ++ (window_rows w h win room ++ pixel_rows w pic s win m))
unfolding draw_rows
draw_rows_lem film w h pic s r win m room = refl

-- 31 is given only where the bins are more than the greys of the range
pub draw_31 : (film w h : ℕ) (pic : List ℕ) (s : Settings) (r : MapRecord) (win : Window) (m : List ℕ) (room : ℕ)
    → first (draw_rows film w h pic s r win m room) ≡ 31 → s.max - s.min + 1 < bins_of s
unfolding all draw_rows
draw_31 film w h pic s r win m room q =
    shared_31 w h (length pic) s (length m)
    (only_front 31 (shared_rows w h (length pic) s (length m)) _ refl
    (rw (behind_numbers film w h pic s r win m room) refl) q)
