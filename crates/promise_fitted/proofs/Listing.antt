-- The listing's text of a film with even sides is the old one.
-- Assumes nothing.
use Prim.Native.Nat.{ℕ, zero, suc, ◌+◌, ◌*◌, ◌/◌, ◌%◌, ◌<◌}
use mathlib.Core.Bool.{cond}
use mathlib.Core.List.{List, [], ◌∷◌, ◌++◌}
use mathlib.Core.Path.{◌≡◌, refl, sym, ap, ap₂, ◌∙◌}
use native.Mathlib.Omega.{arith}
use lib.ListN.{length, get_or}
use Rattle.base_lists.proofs.Tabs.{eq_tab}
use Rattle.base_lists.proofs.Blocks.{get_or_joined}
use Rattle.base_rows.specs.Refuse.{first, unless}
use Rattle.tile_limit.specs.Limit.{limit_of}
use Rattle.tile_clip.specs.declared.Spent.{Spent}
use Rattle.tile_count.specs.Tally.{greys_of, counts_of}
use Rattle.tile_map.specs.Tile.{spent_by, tile_mapping}
use Rattle.tile_map.proofs.Tiles.{length_tile_mapping}
use Rattle.film_settings.specs.declared.Settings.{Settings}
use Rattle.film_settings.specs.Settings.{bins_of, Tiled}
use Rattle.film_tiles.specs.Tiles.{tile_map_of, spent_in}
use Rattle.film_tiles.proofs.Films.{length_tile_map, get_or_mappings, mappings_by}
use Rattle.film_tiles.proofs.Spents.{spent_in_from}
use Rattle.film_prepare.specs.Prepare.{prepare_rows}
use Rattle.film_prepare.proofs.Table.{work}
use Rattle.pgm_samples.specs.Samples.{none_above_of}
use Rattle.listing_line.specs.Lines.{line, refused_text}
use Rattle.listing_film.specs.FilmText.{two, listing_settings, first_line, tile_line, film_text}
use Rattle.listing_file.specs.Listing.{picture_text}
use Rattle.promise_films.specs.Fitted.{Fitted, fit_rect, FilmAsBefore}
use Rattle.promise_films.proofs.Fitted.{fitted_film}
use Rattle.promise_fitted.specs.Before.{fit_spent, fit_line, fit_text, fit_prepare_rows, fit_picture_text}
use Rattle.promise_fitted.proofs.Tables.{prepare_same}

-- ---- a film

module _ {w h : ℕ} {s : Settings} (tiled : Tiled w h s) (fitted : Fitted w h s) (pic : List ℕ) where
  same : FilmAsBefore w h pic s
  same = fitted_film tiled fitted pic

  -- tile k's E and looks
  spent_same : (k : ℕ) → spent_in w h pic s k ≡ fit_spent w h pic s k
  unfolding fit_spent
  spent_same k =
      spent_in_from w h pic s k
      ∙ ap₂ (λ n r. spent_by s.edition s.clip n (counts_of s.min s.max (bins_of s) (greys_of pic w r))) (same.pixels k) (same.tiles k)

  -- and its mapping
  map_same : (k : ℕ) → k < s.across * s.down → tile_map_of w h pic s k ≡ tile_mapping s.min s.max (bins_of s) s.edition s.clip (greys_of pic w (fit_rect w h s k))
  map_same k l =
      eq_tab (tile_map_of w h pic s k) (bins_of s) (λ i. get_or (before k) i 0) 0 (length_tile_map w h pic s k) entry
      ∙ sym (eq_tab (before k) (bins_of s) (λ i. get_or (before k) i 0) 0 (long k) (λ i q. refl))
    where
      before : ℕ → List ℕ
      before j = tile_mapping s.min s.max (bins_of s) s.edition s.clip (greys_of pic w (fit_rect w h s j))

      long : (j : ℕ) → length (before j) ≡ bins_of s
      long j = length_tile_mapping s.min s.max (bins_of s) s.edition s.clip (greys_of pic w (fit_rect w h s j))

      entry : (i : ℕ) → i < bins_of s → get_or (tile_map_of w h pic s k) i 0 ≡ get_or (before k) i 0
      entry i q =
          sym (get_or_mappings w h pic s k i l q)
          ∙ ap (λ ys. get_or ys (k * bins_of s + i) 0) (mappings_by w h pic s same.tiles)
          ∙ get_or_joined (bins_of s) (s.across * s.down) before (λ j _. long j) k i 0 l q

-- the text of such a film
text_same : (w h m : ℕ) (pic : List ℕ) → Tiled w h (listing_settings m) → Fitted w h (listing_settings m) → film_text w h m pic ≡ fit_text w h m pic
unfolding film_text fit_text first_line tile_line fit_line
text_same w h m pic tiled fitted =
    ap₂ (λ a b. a ++ b) (ap (λ n. line (w ∷ h ∷ 2 ∷ 2 ∷ 4 ∷ 0 ∷ m ∷ limit_of two n 4 ∷ [])) ((same tiled fitted pic).pixels 0))
    (ap₂ (λ a b. a ++ b) (lines 0 (omega arith)) (ap₂ (λ a b. a ++ b) (lines 1 (omega arith)) (ap₂ (λ a b. a ++ b) (lines 2 (omega arith)) (lines 3 (omega arith)))))
  where
    lines : (k : ℕ) → k < 4 → tile_line w h m pic k ≡ fit_line w h m pic k
    lines k l = ap₂ (λ (p : Spent) ys. line (k / 2 ∷ k % 2 ∷ p.excess ∷ p.looks ∷ ys)) (spent_same tiled fitted pic k) (map_same tiled fitted pic k l)

-- refusals included
pub picture_same : (w h m : ℕ) (pic : List ℕ) → Fitted w h (listing_settings m) → picture_text w h m pic ≡ fit_picture_text w h m pic
picture_same w h m pic fitted = ap (λ xs. cond (none_above_of m pic) xs (refused_text 26)) (go (first (prepare_rows w h pic (listing_settings m) 16 4 8)) refl)
  where
    number : first (prepare_rows w h pic (listing_settings m) 16 4 8) ≡ first (fit_prepare_rows w h pic (listing_settings m) 16 4 8)
    number = prepare_same w h (listing_settings m) fitted pic 16 4 8

    go : (n : ℕ) → first (prepare_rows w h pic (listing_settings m) 16 4 8) ≡ n
        → unless (first (prepare_rows w h pic (listing_settings m) 16 4 8)) refused_text (film_text w h m pic) ≡ unless (first (fit_prepare_rows w h pic (listing_settings m) 16 4 8)) refused_text (fit_text w h m pic)
    go zero z =
        ap₂ (λ n text. unless n refused_text text) number (text_same w h m pic (work w h pic (listing_settings m) 16 4 8 z).ready.tiled fitted)
    go (suc n) z = ap (λ k. unless k refused_text (film_text w h m pic)) z ∙ sym (ap (λ k. unless k refused_text (fit_text w h m pic)) (sym number ∙ z))
