-- What draw looks at of what it is handed: bins 0 are 128, and of the map buffer the mappings' entries alone.
-- Assumes nothing.
use Prim.Native.Nat.{ℕ, zero, suc, ◌≤◌, ◌<◌}
use mathlib.Core.Bool.{Bool, true, false, not, cond, ◌&&◌}
use mathlib.Core.List.{List, [], ◌∷◌, ◌++◌}
use mathlib.Core.Path.{◌≡◌, refl, sym, ap, ap₂, ◌∙◌}
use native.Mathlib.Omega.{arith}
use lib.Dec.{ltb}
use lib.ListN.{length, take, length-take}
use lib.Seq.{take_all, length-take-le}
use borrow.Author.Tests.{le-ltb, ltb-true, ltb-false}
use Rattle.base_lists.specs.Lists.{all}
use Rattle.base_rows.specs.Refuse.{row, first, unless, accepted, refused}
use Rattle.base_range.specs.Scan.{within}
use Rattle.tile_count.specs.Tally.{greys_of}
use Rattle.tile_limit.specs.declared.Clip.{Clip}
use Rattle.film_settings.specs.declared.Settings.{Settings}
use Rattle.film_settings.specs.declared.MapRecord.{MapRecord}
use Rattle.film_settings.specs.declared.Window.{Window}
use Rattle.film_settings.specs.Settings.{entries_of, kept_of, kept_record, clip_bad_of, clip_one_of, same_clip_of}
use Rattle.film_settings.proofs.Ready.{shared_room_alike}
use Rattle.film_settings.proofs.Like.{bins_kept, shared_kept}
use Rattle.film_settings.proofs.Parts.{bins_alike, shared_alike}
use Rattle.pixel_render.specs.Render.{render_of, rect_of}
use Rattle.pixel_render.proofs.Laws.{render_front, render_kept}
use Rattle.film_record.specs.Held.{record_rows, window_rows}
use Rattle.film_record.proofs.Laws.{record_kept, record_kept_record, reclipped, reclipped_record, record_alike}
use Rattle.film_draw.specs.Draw.{pixel_rows, draw_rows, draw_leaves, drawn_pixels, draw_of, DrawReady}
use Rattle.film_draw.proofs.Tables.{draw_ready}
use Rattle.film_draw.proofs.Works.{render_asks, draw_ends_refused, draw_ends_well}

-- what an accepted draw leaves, by the factor: the window's pixels as they are, or rendered
pub drawn_pixels_lem : (w h : ℕ) (pic : List ℕ) (s : Settings) (win : Window) (m : List ℕ)
    → drawn_pixels w h pic s win m ≡ cond (clip_one_of s.clip) (greys_of pic w (rect_of win)) (render_of w h s m win (greys_of pic w (rect_of win)))
unfolding drawn_pixels
drawn_pixels_lem w h pic s win m = refl

-- ---- the settings, with bins 0 kept as 128

-- 18 counts the mappings' entries by them
pub pixel_kept : (w : ℕ) (pic : List ℕ) (s : Settings) (win : Window) (m : List ℕ) → pixel_rows w pic (kept_of s) win m ≡ pixel_rows w pic s win m
unfolding pixel_rows
pixel_kept w pic s win m = rw (bins_kept s) refl

-- so the rows are the same
pub rows_kept : (film w h : ℕ) (pic : List ℕ) (s : Settings) (r : MapRecord) (win : Window) (m : List ℕ) (room : ℕ)
    → draw_rows film w h pic (kept_of s) r win m room ≡ draw_rows film w h pic s r win m room
unfolding draw_rows
rows_kept film w h pic s r win m room =
    rw (shared_kept w h (length pic) s (length m), record_kept film w h s r, pixel_kept w pic s win m) refl

-- and the pixels
pub pixels_kept : (w h : ℕ) (pic : List ℕ) (s : Settings) (win : Window) (m : List ℕ) → drawn_pixels w h pic (kept_of s) win m ≡ drawn_pixels w h pic s win m
unfolding drawn_pixels
pixels_kept w h pic s win m = ap (cond (clip_one_of s.clip) (greys_of pic w (rect_of win))) (render_kept w h s m win (greys_of pic w (rect_of win)))

-- "Bins B: 2 to 4096. 0 means 128.", for every input: draw answers and leaves the same
pub draw_kept : (film w h : ℕ) (pic : List ℕ) (s : Settings) (r : MapRecord) (win : Window) (m out : List ℕ)
    → draw_of film w h pic (kept_of s) r win m out ≡ draw_of film w h pic s r win m out
unfolding draw_of
draw_kept film w h pic s r win m out =
    ap₂ (λ rows ys. unless (first rows) (λ n. draw_leaves (refused n) out) (draw_leaves (accepted tt) ys)) (rows_kept film w h pic s r win m (length out)) (pixels_kept w h pic s win m)

-- which reads the record's bins so too: "bins 0 read as 128 on both sides"
pub draw_kept_record : (film w h : ℕ) (pic : List ℕ) (s : Settings) (r : MapRecord) (win : Window) (m out : List ℕ)
    → draw_of film w h pic s (kept_record r) win m out ≡ draw_of film w h pic s r win m out
unfolding draw_of draw_rows
draw_kept_record film w h pic s r win m out = rw (record_kept_record film w h s r) refl

-- ---- the map buffer

module _ (film w h : ℕ) (pic : List ℕ) (s : Settings) (r : MapRecord) (win : Window) (m m' out : List ℕ)
    (room : ltb (length m) (entries_of s) ≡ ltb (length m') (entries_of s)) (front : clip_one_of s.clip ≡ false → take (entries_of s) m ≡ take (entries_of s) m') where
  -- 18 speaks of the mappings' entries, and not at the factor 1.0
  pixels_map : pixel_rows w pic s win m ≡ pixel_rows w pic s win m'
  unfolding pixel_rows
  pixels_map = ap (λ b. row 13 (not (all (within s.min s.max) (greys_of pic w (rect_of win)))) ∷ row 18 b ∷ []) (go (clip_one_of s.clip) refl)
    where
      go : (b : Bool) → clip_one_of s.clip ≡ b
          → (not b && not (all (within s.min s.max) (take (entries_of s) m))) ≡ (not b && not (all (within s.min s.max) (take (entries_of s) m')))
      go true e = refl
      go false e = ap (λ ys. not (all (within s.min s.max) ys)) (front e)

  -- 11 of the buffer's length alone: so the rows are met alike
  rows_map : draw_rows film w h pic s r win m (length out) ≡ draw_rows film w h pic s r win m' (length out)
  unfolding draw_rows
  rows_map =
      ap₂ (λ a b. a ++ (record_rows film w h s r ++ (window_rows w h win (length out) ++ b)))
      (shared_room_alike w h (length pic) s (length m) (length m') room) pixels_map

  -- draw answers and leaves the same with both
  pub draw_map : draw_of film w h pic s r win m out ≡ draw_of film w h pic s r win m' out
  draw_map = go (first (draw_rows film w h pic s r win m (length out))) refl
    where
      same : DrawReady film w h pic s r win m (length out) → (b : Bool) → clip_one_of s.clip ≡ b
          → cond b (greys_of pic w (rect_of win)) (render_of w h s m win (greys_of pic w (rect_of win)))
          ≡ cond b (greys_of pic w (rect_of win)) (render_of w h s m' win (greys_of pic w (rect_of win)))
      same known true e = refl
      same known false e =
          let asks = render_asks known.shown refl e in
          render_front asks.0 asks.1 m' (front e)

      pixels : DrawReady film w h pic s r win m (length out) → drawn_pixels w h pic s win m ≡ drawn_pixels w h pic s win m'
      pixels known = drawn_pixels_lem w h pic s win m ∙ same known (clip_one_of s.clip) refl ∙ sym (drawn_pixels_lem w h pic s win m')

      go : (n : ℕ) → first (draw_rows film w h pic s r win m (length out)) ≡ n → draw_of film w h pic s r win m out ≡ draw_of film w h pic s r win m' out
      go zero e =
          sym (draw_ends_well film w h pic s r win m out (sym e) refl refl)
          ∙ draw_ends_well film w h pic s r win m' out (sym e ∙ ap first rows_map) refl (pixels (draw_ready film w h pic s r win m (length out) e))
      go (suc n) e =
          sym (draw_ends_refused film w h pic s r win m out (sym e) (λ z. omega arith)) ∙ draw_ends_refused film w h pic s r win m' out (sym e ∙ ap first rows_map) (λ z. omega arith)

-- a buffer's first n entries are shorter than n where the buffer is
pub front_room : (n : ℕ) (m : List ℕ) → ltb (length (take n m)) n ≡ ltb (length m) n
front_room n m = go (ltb (length m) n) refl
  where
    go : (b : Bool) → ltb (length m) n ≡ b → ltb (length (take n m)) n ≡ ltb (length m) n
    go true e = let l : length m < n = ltb-true (length m) n e in ap (λ ys. ltb (length ys) n) (take_all n m (omega arith))
    go false e =
        let l : n ≤ length m = ltb-false (length m) n e in
        le-ltb (length (take n m)) n (omega (arith, length-take-le n m l)) ∙ sym e

module _ (film w h : ℕ) (pic : List ℕ) (s : Settings) (r : MapRecord) (win : Window) (m : List ℕ) where
  -- for every input: what lies behind the mappings' entries of the map buffer plays no part
  pub draw_front : (out : List ℕ) → draw_of film w h pic s r win (take (entries_of s) m) out ≡ draw_of film w h pic s r win m out
  draw_front out =
      draw_map film w h pic s r win (take (entries_of s) m) m out (front_room (entries_of s) m)
      (λ one. take_all (entries_of s) (take (entries_of s) m) (rw length-take (omega arith)))

  -- two buffers that are long enough; at the factor 1.0 that is all that is asked of them
  pub draw_room : (m' out : List ℕ) → entries_of s ≤ length m → entries_of s ≤ length m' → (clip_one_of s.clip ≡ false → take (entries_of s) m ≡ take (entries_of s) m')
      → draw_of film w h pic s r win m out ≡ draw_of film w h pic s r win m' out
  draw_room m' out l l' e = draw_map film w h pic s r win m m' out (le-ltb (length m) (entries_of s) l ∙ sym (le-ltb (length m') (entries_of s) l')) e

-- ---- when 13 and 18 are free

-- a window whose pixels lie in Min to Max, with mappings that do too, but at factor 1.0, meets neither 13 nor 18
pub pixel_free : (w : ℕ) (pic : List ℕ) (s : Settings) (win : Window) (m : List ℕ) → all (within s.min s.max) (greys_of pic w (rect_of win)) ≡ true
    → (clip_one_of s.clip ≡ false → all (within s.min s.max) (take (entries_of s) m) ≡ true) → first (pixel_rows w pic s win m) ≡ 0
unfolding pixel_rows first
pixel_free w pic s win m greys mappings = rw greys (go (clip_one_of s.clip) refl)
  where
    go : (b : Bool) → clip_one_of s.clip ≡ b → first (row 18 (not b && not (all (within s.min s.max) (take (entries_of s) m))) ∷ []) ≡ 0
    go true e = refl
    go false e = rw (mappings e) refl

-- ---- what the rows read of the clip settings: whether 10 refuses the call's, whether it is 1.0, and whether the record's is the same

pub rows_alike : (film w h : ℕ) (pic : List ℕ) (s : Settings) (r : MapRecord) (win : Window) (m : List ℕ) (room : ℕ) (c c' : Clip)
    → clip_bad_of c ≡ clip_bad_of s.clip → clip_one_of c ≡ clip_one_of s.clip → same_clip_of c c' ≡ same_clip_of s.clip r.settings.clip
    → draw_rows film w h pic (reclipped s c) (reclipped_record r c') win m room ≡ draw_rows film w h pic s r win m room
unfolding draw_rows pixel_rows
rows_alike film w h pic s r win m room c c' bad one same =
    let bins = bins_alike (reclipped s c) s refl in
    rw (shared_alike (reclipped s c) s refl refl bins refl refl bad w h (length pic) (length m), record_alike film w h s r c c' same, bins, one) refl
