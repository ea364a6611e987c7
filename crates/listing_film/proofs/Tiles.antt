-- Laws of what prepare left of a film for the listing: its numbers have at most five digits, and the text from it is the film's own.
-- Assumes nothing.
use Prim.Native.Nat.{ℕ, ◌+◌, ◌*◌, ◌/◌, ◌%◌, ◌≤◌, ◌<◌}
use mathlib.Core.Bool.{false}
use mathlib.Core.List.{List, [], ◌∷◌, ◌++◌, append_assoc}
use mathlib.Core.Path.{◌≡◌, refl, sym, ap, ◌∙◌}
use lib.IntN.{pos}
use lib.ListN.{length, get_or}
use native.Mathlib.Nat.{add-zero}
use native.Mathlib.Omega.{arith}
use Rattle.base_lists.specs.Lists.{joined}
use Rattle.base_lists.proofs.Fills.{joined_cong}
use Rattle.tile_limit.proofs.Laws.{limit_bound}
use Rattle.film_settings.specs.Settings.{bins_of, Tiled}
use Rattle.film_tiles.specs.Tiles.{pixels_in, tile_map_of, mappings, spent_in, spents, TilesReady}
use Rattle.film_tiles.proofs.Tiles.{tile_pixels_film}
use Rattle.film_tiles.proofs.Films.{length_tile_map, get_or_mappings}
use Rattle.film_tiles.proofs.Spents.{get_or_spents}
use Rattle.film_tiles.proofs.Bounds.{excess_few, looks_few}
use Rattle.listing_line.specs.Lines.{line}
use Rattle.listing_film.specs.FilmText.{listing_settings, limit_for, first_line, tile_line, film_text}
use Rattle.listing_film.specs.Asks.{kept_line, kept_text}
use Rattle.listing_film.proofs.Films.{length_text}

-- ---- the limit

-- it is at most the tile's pixels, or 1
pub limit_short : (w h m : ℕ) → Tiled w h (listing_settings m) → w * h ≤ 8192 → limit_for w h m < 100000
limit_short w h m tiled l =
    omega (arith, tile_pixels_film tiled {k = 0} (omega arith), limit_bound false 1 (pos 1) (pixels_in w h (listing_settings m) 0) 4 2 (omega arith) (omega arith))

-- ---- a tile's two entries of the list

module _ (w h m : ℕ) (pic : List ℕ) {k : ℕ} (l : k < 4) where
  -- the first is its excess
  entry_excess : get_or (spents w h pic (listing_settings m)) (k * 2) 0 ≡ (spent_in w h pic (listing_settings m) k).excess
  entry_excess =
      ap (λ i. get_or (spents w h pic (listing_settings m)) i 0) (sym (add-zero (k * 2))) ∙ get_or_spents w h pic (listing_settings m) k 0 l (omega arith)

  -- and the second its looks
  entry_looks : get_or (spents w h pic (listing_settings m)) (k * 2 + 1) 0 ≡ (spent_in w h pic (listing_settings m) k).looks
  entry_looks = get_or_spents w h pic (listing_settings m) k 1 l (omega arith)

module _ {w h m : ℕ} {pic : List ℕ} (asks : TilesReady w h pic (listing_settings m) 16 4) (few : w * h ≤ 8192) {k : ℕ} (l : k < 4) where
  pixels_few : pixels_in w h (listing_settings m) k ≤ 8192
  pixels_few = omega (arith, few, tile_pixels_film asks.work.ready.tiled l)

  -- E is at most the tile's pixels
  pub excess_short : {list : List ℕ} → list ≡ spents w h pic (listing_settings m) → get_or list (k * 2) 0 < 100000
  excess_short {list} e =
      let n : get_or list (k * 2) 0 ≡ (spent_in w h pic (listing_settings m) k).excess = ap (λ x. get_or x (k * 2) 0) e ∙ entry_excess w h m pic l in
      omega (arith, n, pixels_few, excess_few asks l)

  -- and the looks in four bins are at most ten times as many
  pub looks_short : {list : List ℕ} → list ≡ spents w h pic (listing_settings m) → get_or list (k * 2 + 1) 0 < 100000
  unfolding bins_of
  looks_short {list} e =
      let n : get_or list (k * 2 + 1) 0 ≡ (spent_in w h pic (listing_settings m) k).looks = ap (λ x. get_or x (k * 2 + 1) 0) e ∙ entry_looks w h m pic l in
      let most : 2 * (spent_in w h pic (listing_settings m) k).looks ≤ pixels_in w h (listing_settings m) k * 20 = looks_few asks l in
      omega (arith, n, most, pixels_few)

-- ---- the text

-- a list of four entries
four : (xs : List ℕ) → length xs ≡ 4 → xs ≡ get_or xs 0 0 ∷ get_or xs 1 0 ∷ get_or xs 2 0 ∷ get_or xs 3 0 ∷ []
four (a ∷ b ∷ d ∷ e ∷ []) h = refl
four [] h = absurd (omega (arith, h))
four (a ∷ []) h = absurd (omega (arith, h))
four (a ∷ b ∷ []) h = absurd (omega (arith, h))
four (a ∷ b ∷ d ∷ []) h = absurd (omega (arith, h))
four (a ∷ b ∷ d ∷ e ∷ f ∷ xs) h = absurd (omega (arith, h))

module _ (w h m : ℕ) (pic : List ℕ) where
  -- the line of tile k: its entries of the list, and the k-th four entries of the mappings
  line_kept : (k : ℕ) → k < 4 → kept_line (mappings w h pic (listing_settings m)) (spents w h pic (listing_settings m)) k ≡ tile_line w h m pic k
  unfolding kept_line tile_line bins_of
  line_kept k l =
      rw (entry_excess w h m pic l, entry_looks w h m pic l, zeroth, entry 1 (omega arith), entry 2 (omega arith), entry 3 (omega arith))
      (ap (λ t. line (k / 2 ∷ k % 2 ∷ (spent_in w h pic (listing_settings m) k).excess ∷ (spent_in w h pic (listing_settings m) k).looks ∷ t)) (sym (four (tile_map_of w h pic (listing_settings m) k) (length_tile_map w h pic (listing_settings m) k))))
    where
      entry : (b : ℕ) → b < 4 → get_or (mappings w h pic (listing_settings m)) (k * 4 + b) 0 ≡ get_or (tile_map_of w h pic (listing_settings m) k) b 0
      entry b n = get_or_mappings w h pic (listing_settings m) k b l n

      zeroth : get_or (mappings w h pic (listing_settings m)) (k * 4) 0 ≡ get_or (tile_map_of w h pic (listing_settings m) k) 0 0
      zeroth = ap (λ i. get_or (mappings w h pic (listing_settings m)) i 0) (sym (add-zero (k * 4))) ∙ entry 0 (omega arith)

  -- the first line and those of four tiles
  text_joined : first_line w h m ++ joined 4 (tile_line w h m pic) ≡ film_text w h m pic
  unfolding film_text joined
  text_joined = ap (λ t. first_line w h m ++ t) (simp append_assoc)

  -- the text from a film's own limit, mappings and list is the film's
  pub text_kept : {l : ℕ} {map list : List ℕ} → l ≡ limit_for w h m → map ≡ mappings w h pic (listing_settings m) → list ≡ spents w h pic (listing_settings m)
      → kept_text w h m l map list ≡ film_text w h m pic
  unfolding kept_text first_line
  text_kept p q r = rw (p, q, r) (ap (λ t. first_line w h m ++ t) (joined_cong 4 line_kept) ∙ text_joined)

  -- so it is as short
  pub length_film : length (film_text w h m pic) ≤ 240
  length_film =
      omega (arith, ap length (text_kept refl refl refl), length_text w h m (limit_for w h m) (mappings w h pic (listing_settings m)) (spents w h pic (listing_settings m)))
