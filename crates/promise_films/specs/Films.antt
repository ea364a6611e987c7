-- What the promises speak of, beside the rule's grey (crate `pixel_rule`): a tile's clipped counts, the one tile that a pixel lies in, clipping that is on, the footer by the clip setting,
-- what holds of each tile of an accepted film with clipping on, its limit, and that its bins are reached.
-- w and h are the film's width and height, pic its pixels.
-- Assumes nothing.
use Rattle.std.specs.Prelude.{ℕ, ◌+◌, ◌-◌, ◌*◌, ◌/◌, ◌≤◌, ◌<◌, true, false, List, ◌⊎◌, ◌≡◌, Float, length, get_or, take}
use Rattle.base_lists.specs.Lists.{total}
use Rattle.tile_limit.specs.declared.Clip.{Clip}
use Rattle.tile_limit.specs.declared.Clip.TheVariants.{Off, Factor}
use Rattle.tile_limit.specs.Limit.{is_one, AboveOne, floored_of, limit_of, used_of}
use Rattle.tile_clip.specs.Clip.{share}
use Rattle.base_range.specs.Scan.{within}
use Rattle.tile_bin.specs.Binning.{bin_of}
use Rattle.tile_count.specs.Tally.{greys_of}
use Rattle.tile_map.specs.Tile.{mapped_of, tile_counts, tile_divides}
use Rattle.film_settings.specs.declared.Settings.{Settings}
use Rattle.film_settings.specs.declared.Footer.{Footer}
use Rattle.film_settings.specs.declared.Window.{Window}
use Rattle.film_settings.specs.Settings.{bins_of, entries_of, kept_of, clip_one_of}
use Rattle.film_count.specs.Counting.{raw_counts}
use Rattle.film_tiles.specs.Tiles.{tile_of, pixels_in, zero_float, one}
use Rattle.pixel_rule.specs.Reach.{LiesIn}

-- ---- a tile

-- "the clipped counts" of tile k, the raw ones where the clip is off
abbrev pub clipped_counts : (w h : ℕ) (pic : List ℕ) (s : Settings) (k : ℕ) → List ℕ
clipped_counts w h pic s k = tile_counts s.min s.max (bins_of s) s.edition s.clip (greys_of pic w (tile_of w h s k))

-- what its mapping divides by: N, its pixels; in the edition of 1986 with a factor "the new total T instead of N"
abbrev pub divides_in : (w h : ℕ) (pic : List ℕ) (s : Settings) (k : ℕ) → ℕ
divides_in w h pic s k = tile_divides s.min s.max (bins_of s) s.edition s.clip (greys_of pic w (tile_of w h s k))

-- order 6, tiles without gap or overlap: it lies in one tile of the film and in no other
pub record InOneTile (w h : ℕ) (s : Settings) (x y : ℕ) : Type 0 where
  pub tile : ℕ
  pub below : tile < s.across * s.down
  pub lies : LiesIn x y (tile_of w h s tile)
  pub only : (k : ℕ) → k < s.across * s.down → LiesIn x y (tile_of w h s k) → k ≡ tile

-- ---- the clip setting

-- "With clipping on (a factor above one)": the clip setting is the factor f, and f is above 1.0
pub record ClippingOn (clip : Clip) (f : Float) : Type 0 where
  pub factor : clip ≡ Factor f
  pub above : AboveOne f

-- "The clip setting is one of two: off, or a factor", which is "exactly 1.0" or above one
pub data ClipCase (clip : Clip) : Type 0 where
  clip_off : clip ≡ Off → ClipCase clip
  clip_one : (f : Float) → clip ≡ Factor f → is_one f ≡ true → ClipCase clip
  clip_on : (f : Float) → ClippingOn clip f → ClipCase clip

-- ---- the footer

-- a footer of L, the factor asked and the factor used
abbrev pub footer : ℕ → Float → Float → Footer
footer l asked used = record { limit = l; asked = asked; used = used }

-- what a footer shows of a film with this clip setting, n pixels in its first tile and b bins: order 6, "the footer shows those of tile 0, 0"
pub record FooterShows (clip : Clip) (n b : ℕ) (foot : Footer) : Type 0 where
  -- "Clip off: L 0, both factors 0.0."
  pub off : clip ≡ Off → foot ≡ footer 0 zero_float zero_float
  -- "Factor 1.0: L 0, both 1.0"
  pub unchanged : (f : Float) → clip ≡ Factor f → is_one f ≡ true → foot ≡ footer 0 one one
  -- "a footer record with L, the factor asked as f32 and the factor used as f64: L x B and N are each converted exactly and divided once"
  pub above : (f : Float) → ClippingOn clip f → foot ≡ footer (limit_of f n b) f (used_of (limit_of f n b) b n)

-- ---- what a station hands on to draw

-- beside the record and the pixels: settings s' and a map buffer m' that stand for the settings s and the map buffer m of the film, a window, and the output's length
pub record HandedOn (w h : ℕ) (s : Settings) (m : List ℕ) (s' : Settings) (m' : List ℕ) (win : Window) (room : ℕ) : Type 0 where
  -- the same settings, with "bins 0 kept as 128" or as they were asked
  pub like : kept_of s' ≡ kept_of s
  -- a map buffer that is long enough
  pub long : entries_of s ≤ length m'
  -- and holds the same mappings; at the factor 1.0 they are not looked at
  pub front : clip_one_of s.clip ≡ false → take (entries_of s) m' ≡ take (entries_of s) m
  -- a window of a pixel at least, inside the film
  pub wide : 0 < win.width
  pub high : 0 < win.height
  pub across : win.left + win.width ≤ w
  pub down : win.top + win.height ≤ h
  -- and an output of its area
  pub area : room ≡ win.height * win.width

-- ---- demand 3

-- "the limit times the grey range over the tile's pixels, rounded up"
abbrev pub steepest : (lo hi n l : ℕ) → ℕ
steepest lo hi n l = (l * (hi - lo) + n - 1) / n

-- a tile, or any rectangle, of n pixels and b bins with the limit l: its raw counts, its clipped counts, and the map entry of each bin
pub record TileSound (lo hi n b l : ℕ) (raw clipped : List ℕ) (entry : ℕ → ℕ) : Type 0 where
  -- a count for each bin
  pub bins : length clipped ≡ b
  -- "the clipped counts add up to the tile's pixels"
  pub adds : total clipped ≡ n
  -- "no bin stands above the limit"
  pub under : (i : ℕ) → i < b → get_or clipped i 0 ≤ l
  -- "each bin has at least its own count plus the even share of the excess, rounded down, or stands at the limit"
  pub least : (i : ℕ) → i < b → (get_or raw i 0 + share l raw ≤ get_or clipped i 0) ⊎ (get_or clipped i 0 ≡ l)
  -- the tile's mapping is the one of these same clipped counts
  pub mapped : (i : ℕ) → i < b → entry i ≡ mapped_of lo hi n clipped i
  -- "from one bin to the next a tile's mapping never falls"
  pub grows : (i : ℕ) → i + 1 < b → entry i ≤ entry (i + 1)
  -- "and rises by at most the limit times the grey range over the tile's pixels, rounded up"
  pub slow : (i : ℕ) → i + 1 < b → entry (i + 1) ≤ entry i + steepest lo hi n l
  -- and from Min to the first bin by at most as much
  pub begins : entry 0 ≤ lo + steepest lo hi n l

-- order 6, "N and L are each tile's own": the limit of tile k with the factor f
abbrev pub limit_in : (w h : ℕ) (s : Settings) (f : Float) (k : ℕ) → ℕ
limit_in w h s f k = limit_of f (pixels_in w h s k) (bins_of s)

-- "in every tile of a film", and "Demand 3 reads with each tile's own N and L": all of that of each tile, with the factor f and the map buffer m that holds the tiles' mappings
abbrev pub FilmSound : (w h : ℕ) (pic : List ℕ) (s : Settings) (f : Float) (m : List ℕ) → Type 0
FilmSound w h pic s f m =
    (k : ℕ) → k < s.across * s.down
    → TileSound s.min s.max (pixels_in w h s k) (bins_of s) (limit_in w h s f k) (raw_counts w h pic s k) (clipped_counts w h pic s k) (λ b. get_or m (k * bins_of s + b) 0)

-- order 2: a limit l of a tile of n pixels and b bins, with the factor f
pub record LimitFits (f : Float) (n b l : ℕ) : Type 0 where
  -- L x B is never below N
  pub holds : n ≤ l * b
  -- L is the least that can hold the tile where the factor would give less
  pub least : floored_of f n b * b < n → (k : ℕ) → n ≤ k * b → l ≤ k
  -- and elsewhere it is what the factor gives
  pub given : n ≤ floored_of f n b * b → l ≡ floored_of f n b

-- ---- order 3

-- "every bin has at least one grey": a grey of the range
abbrev pub BinsReached : Settings → Type 0
BinsReached s = (k : ℕ) → k < bins_of s → (v : ℕ) × (within s.min s.max v ≡ true) × (bin_of s.min s.max (bins_of s) v ≡ k)

-- some bin has none
abbrev pub BinUnreached : Settings → Type 0
BinUnreached s = (k : ℕ) × (k < bins_of s) × ((v : ℕ) → within s.min s.max v ≡ true → (bin_of s.min s.max (bins_of s) v ≡ k → ⊥))
