-- Laws of `clipped_by`, `divided_by`, `tile_counts` and `tile_mapping`: the counts of a tile by its edition and clip setting, what their mapping divides by, and it.
-- Assumes nothing.
use Prim.Native.Nat.{ℕ, ◌+◌, ◌-◌, ◌*◌, ◌/◌, ◌≤◌, ◌<◌}
use mathlib.Core.Bool.{true}
use mathlib.Core.List.{List, ◌++◌}
use mathlib.Core.Path.{◌≡◌, refl, sym, ap, ap₂, ◌∙◌, subst}
use lib.ListN.{length, take, drop, get_or}
use lib.Ieee.{Float}
use native.Mathlib.Omega.{arith}
use Rattle.base_lists.specs.Lists.{total, all, onto}
use Rattle.base_lists.proofs.Fills.{take_onto, drop_onto}
use Rattle.tile_limit.specs.declared.Clip.{Clip}
use Rattle.tile_limit.specs.declared.Clip.TheVariants.{Off, Factor}
use Rattle.tile_limit.specs.declared.Edition.{Edition}
use Rattle.tile_limit.specs.declared.Edition.TheVariants.{Ours, Of1986}
use Rattle.tile_limit.specs.Limit.{limit_of, allowed, LimitAsks}
use Rattle.tile_clip.specs.declared.Spent.{Spent}
use Rattle.tile_clip.specs.Clip.{excess, clipped}
use Rattle.tile_clip.specs.Looks.{spent_as, spent_of}
use Rattle.tile_clip.specs.Asks.{ClipAsks}
use Rattle.tile_clip.proofs.Laws.{length_clipped, total_clipped, clipped_most}
use Rattle.tile_clip1986.specs.Older.{older, OlderAsks}
use Rattle.tile_clip1986.proofs.Levels.{length_older, older_between, older_most}
use Rattle.base_range.specs.Scan.{within}
use Rattle.tile_count.specs.Tally.{counts_of, greys_of}
use Rattle.tile_map.specs.declared.Clipped.{Clipped}
use Rattle.tile_map.specs.Tile.{clipped_in, clipped_by, divided_in, divided_by, mapped_of, mapping_of, counts_mapping, tile_counts, tile_divides, tile_mapping, took_in, spent_by, tile_spent, Holds, factor, ClipInAsks, ClipByAsks, InClipped, ByClipped, MapBinsAsks, FromCountsAsks, MappingAsks, TileMapped}
use Rattle.tile_count.specs.declared.Rect.{Rect}
use Rattle.tile_count.proofs.Greys.{length_greys}
use Rattle.tile_count.proofs.Counts.{length_counts, total_counts}
use Rattle.tile_map.proofs.Mapped.{length_mapping, get_or_mapping, mapping_within, mapped_mono, mapped_rise, mapped_first, mapped_last}

-- ---- what a clip setting asks and gives

pub holds_allowed : {f : Float} {n b : ℕ} → Holds (Factor f) n b → allowed f ≡ true
holds_allowed (factor good room) = good

pub holds_room : {f : Float} {n b : ℕ} → Holds (Factor f) n b → n ≤ limit_of f n b * b
holds_room (factor good room) = room

pub limit_asks : {clip : Clip} {f : Float} {n : ℕ} {cs : List ℕ} → ClipByAsks clip n cs → clip ≡ Factor f → LimitAsks f n (length cs)
limit_asks {clip} {f} {n} {cs} asks e =
    let h : Holds (Factor f) n (length cs) = subst (λ c. Holds c n (length cs)) e asks.holds in
    record { good = holds_allowed h; pixels = asks.few_pixels; least = asks.some; most = asks.few }

pub in_asks : {clip : Clip} {f : Float} {n : ℕ} {cs : List ℕ} {l : ℕ} → ClipByAsks clip n cs → clip ≡ Factor f → l ≡ limit_of f n (length cs)
    → ClipInAsks n l cs
in_asks {clip} {f} {n} {cs} {l} asks e q =
    let h : Holds (Factor f) n (length cs) = subst (λ c. Holds c n (length cs)) e asks.holds in
    record {
      all_pixels = asks.all_pixels;
      few_pixels = asks.few_pixels;
      some = omega (arith, asks.some);
      few = asks.few;
      room = rw q (holds_room h);
    }

-- what our rule asks
pub clip_asks : {n l : ℕ} {cs : List ℕ} → ClipInAsks n l cs → ClipAsks l cs
clip_asks asks =
    record { some_bin = asks.some; few_bins = asks.few; few_pixels = omega (arith, asks.all_pixels, asks.few_pixels); holds = omega (arith, asks.all_pixels, asks.room) }

-- what looking at what stands above the limit asks
pub few_asks : {n l : ℕ} {cs : List ℕ} → ClipInAsks n l cs → total cs ≤ 4194304
few_asks asks = omega (arith, asks.all_pixels, asks.few_pixels)

-- and that of 1986
pub older_asks : {n l : ℕ} {cs : List ℕ} → ClipInAsks n l cs → OlderAsks l cs
older_asks asks =
    record { some_bin = asks.some; few_bins = asks.few; few_pixels = omega (arith, asks.all_pixels, asks.few_pixels); holds = omega (arith, asks.all_pixels, asks.room) }

-- with clip off the raw counts stay, and N divides
pub clipped_off : {clip : Clip} (ed : Edition) (n : ℕ) (cs : List ℕ) → clip ≡ Off → (cs ≡ clipped_by ed clip n cs) × (n ≡ divided_by ed clip n cs)
unfolding clipped_by divided_by
clipped_off ed n cs e = rw e (refl, refl)

-- else they are clipped at the limit
pub clipped_factor : {clip : Clip} {f : Float} (ed : Edition) (n : ℕ) (cs : List ℕ) {l : ℕ} {ds : List ℕ} {t : ℕ} → clip ≡ Factor f → l ≡ limit_of f n (length cs)
    → (ds ≡ clipped_in ed l cs) × (t ≡ divided_in ed n (clipped_in ed l cs)) → (ds ≡ clipped_by ed clip n cs) × (t ≡ divided_by ed clip n cs)
unfolding clipped_by divided_by
clipped_factor ed n cs e q h = rw (e, ← q) h

-- with clip off clipping takes nothing
pub spent_off : {clip : Clip} (ed : Edition) (n : ℕ) (cs : List ℕ) → clip ≡ Off → spent_as 0 0 ≡ spent_by ed clip n cs
unfolding spent_by
spent_off ed n cs e = rw e refl

-- else what the edition's rule takes at the limit
pub spent_factor : {clip : Clip} {f : Float} (ed : Edition) (n : ℕ) (cs : List ℕ) {l : ℕ} {took : Spent} → clip ≡ Factor f → l ≡ limit_of f n (length cs) → took ≡ took_in ed l cs
    → took ≡ spent_by ed clip n cs
unfolding spent_by
spent_factor ed n cs e q h = rw e (h ∙ ap (λ k. took_in ed k cs) q)

-- of a tile with these greys, by their counts
pub tile_spent_lem : (lo hi b : ℕ) (ed : Edition) (clip : Clip) (vs : List ℕ) → tile_spent lo hi b ed clip vs ≡ spent_by ed clip (length vs) (counts_of lo hi b vs)
unfolding tile_spent
tile_spent_lem lo hi b ed clip vs = refl

-- ---- what `clip_in` and `clip_by` leave

-- the rule of each edition: ours,
pub in_ours : {ed : Edition} (n l : ℕ) (cs : List ℕ) {ds : List ℕ} {took : Spent} → ed ≡ Ours → (ds ≡ clipped l cs) × (took ≡ spent_of l cs)
    → InClipped ed n l cs ds (record { over = n; spent = took })
in_ours n l cs e h = rw e (record { counts = h.0; over = refl; spent = h.1 })

-- and that of 1986
pub in_older : {ed : Edition} (n l : ℕ) (cs : List ℕ) {ds : List ℕ} {t x : ℕ} → ed ≡ Of1986 → x ≡ excess l cs → (ds ≡ older l cs) × (t ≡ total (older l cs))
    → InClipped ed n l cs ds (record { over = t; spent = spent_as x 0 })
in_older n l cs e q h = rw e (record { counts = h.0; over = h.1; spent = ap (λ k. spent_as k 0) q })

-- with clip off
pub by_off : {clip : Clip} (ed : Edition) (n : ℕ) (cs : List ℕ) → clip ≡ Off → ByClipped ed clip n cs cs (record { over = n; spent = spent_as 0 0 })
by_off ed n cs e = let x = clipped_off ed n cs e in record { counts = x.0; over = x.1; spent = spent_off ed n cs e }

-- and with a factor
pub by_factor : {clip : Clip} {f : Float} (ed : Edition) (n : ℕ) (cs : List ℕ) {l : ℕ} {ds : List ℕ} {r : Clipped} → clip ≡ Factor f → l ≡ limit_of f n (length cs)
    → InClipped ed n l cs ds r → ByClipped ed clip n cs ds r
by_factor ed n cs e q h =
    let x = clipped_factor ed n cs e q (h.counts, h.over) in
    record { counts = x.0; over = x.1; spent = spent_factor ed n cs e q h.spent }

-- ---- as many as before, and their total

length_in : (ed : Edition) (l : ℕ) (cs : List ℕ) → length (clipped_in ed l cs) ≡ length cs
length_in Ours l cs = length_clipped l cs
length_in Of1986 l cs = length_older l cs

pub length_clipped_by : (ed : Edition) (clip : Clip) (n : ℕ) (cs : List ℕ) → length (clipped_by ed clip n cs) ≡ length cs
unfolding clipped_by
length_clipped_by ed Off n cs = refl
length_clipped_by ed (Factor f) n cs = length_in ed (limit_of f n (length cs)) cs

-- what the mapping divides by is the total of the clipped counts, in both editions, where the limit has room
total_in : (ed : Edition) (n l : ℕ) (cs : List ℕ) → total cs ≡ n → 0 < length cs → n ≤ l * length cs → total (clipped_in ed l cs) ≡ divided_in ed n (clipped_in ed l cs)
total_in Ours n l cs e p room = total_clipped l cs p (omega arith) ∙ e
total_in Of1986 n l cs e p room = refl

pub divided_total : (ed : Edition) (clip : Clip) (n : ℕ) (cs : List ℕ) → Holds clip n (length cs) → total cs ≡ n → 0 < length cs → total (clipped_by ed clip n cs) ≡ divided_by ed clip n cs
unfolding clipped_by divided_by
divided_total ed Off n cs h e p = e
divided_total ed (Factor f) n cs h e p = total_in ed n (limit_of f n (length cs)) cs e p (holds_room h)

-- it is N in our edition
pub divided_ours : (clip : Clip) (n : ℕ) (cs : List ℕ) → divided_by Ours clip n cs ≡ n
unfolding divided_by
divided_ours Off n cs = refl
divided_ours (Factor f) n cs = refl

-- and from N up to, not with, N + B in both
divided_in_lem : (ed : Edition) (n l : ℕ) (cs : List ℕ) → total cs ≡ n → 0 < length cs → n ≤ l * length cs → (n ≤ divided_in ed n (clipped_in ed l cs)) × (divided_in ed n (clipped_in ed l cs) < n + length cs)
divided_in_lem Ours n l cs e p room = (omega arith, omega arith)
divided_in_lem Of1986 n l cs e p room = let x = older_between l cs p (omega arith) in (omega (arith, x.0), omega (arith, x.1))

pub divided_between : (ed : Edition) (clip : Clip) (n : ℕ) (cs : List ℕ) → Holds clip n (length cs) → total cs ≡ n → 0 < length cs
    → (n ≤ divided_by ed clip n cs) × (divided_by ed clip n cs < n + length cs)
unfolding clipped_by divided_by
divided_between ed Off n cs h e p = (omega arith, omega arith)
divided_between ed (Factor f) n cs h e p = divided_in_lem ed n (limit_of f n (length cs)) cs e p (holds_room h)

-- no clipped count is above the limit
most_in : (ed : Edition) (l : ℕ) (cs : List ℕ) (k : ℕ) → get_or (clipped_in ed l cs) k 0 ≤ l
most_in Ours l cs k = clipped_most l cs k
most_in Of1986 l cs k = older_most l cs k

-- ---- the counts of a tile

-- there is a count for each bin
pub length_tile_counts : (lo hi b : ℕ) (ed : Edition) (clip : Clip) (vs : List ℕ) → length (tile_counts lo hi b ed clip vs) ≡ b
unfolding tile_counts
length_tile_counts lo hi b ed clip vs = length_clipped_by ed clip (length vs) (counts_of lo hi b vs) ∙ length_counts lo hi b vs

module _ (lo hi b : ℕ) (ed : Edition) (clip : Clip) (vs : List ℕ) (h : all (within lo hi) vs ≡ true) (p : 0 < b) (room : Holds clip (length vs) b) where
  holds_own : Holds clip (length vs) (length (counts_of lo hi b vs))
  holds_own = subst (λ k. Holds clip (length vs) k) (sym (length_counts lo hi b vs)) room

  -- they add up to what the mapping divides by
  pub total_tile_counts : total (tile_counts lo hi b ed clip vs) ≡ tile_divides lo hi b ed clip vs
  unfolding tile_counts tile_divides
  total_tile_counts = divided_total ed clip (length vs) (counts_of lo hi b vs) holds_own (total_counts lo hi b vs h p) (omega (arith, length_counts lo hi b vs))

  -- which is from the tile's pixels up to, not with, these and the bins
  pub divides_between : (length vs ≤ tile_divides lo hi b ed clip vs) × (tile_divides lo hi b ed clip vs < length vs + b)
  unfolding tile_divides
  divides_between =
      let x = divided_between ed clip (length vs) (counts_of lo hi b vs) holds_own (total_counts lo hi b vs h p) (omega (arith, length_counts lo hi b vs)) in
      (x.0, omega (arith, x.1, length_counts lo hi b vs))

-- and the tile's pixels in our edition
pub divides_ours : (lo hi b : ℕ) (clip : Clip) (vs : List ℕ) → tile_divides lo hi b Ours clip vs ≡ length vs
unfolding tile_divides
divides_ours lo hi b clip vs = divided_ours clip (length vs) (counts_of lo hi b vs)

-- and with clip off in both, where the raw counts stay
pub divides_off : (lo hi b : ℕ) (ed : Edition) (vs : List ℕ) → tile_divides lo hi b ed Off vs ≡ length vs
unfolding tile_divides divided_by
divides_off lo hi b ed vs = refl

pub tile_counts_off : (lo hi b : ℕ) (ed : Edition) (vs : List ℕ) → tile_counts lo hi b ed Off vs ≡ counts_of lo hi b vs
unfolding tile_counts clipped_by
tile_counts_off lo hi b ed vs = refl

-- they are its raw counts, clipped by the clip setting
pub tile_counts_by : (lo hi b : ℕ) (ed : Edition) (clip : Clip) (vs : List ℕ) → tile_counts lo hi b ed clip vs ≡ clipped_by ed clip (length vs) (counts_of lo hi b vs)
unfolding tile_counts
tile_counts_by lo hi b ed clip vs = refl

-- and divided by what that setting gives for them
pub tile_divides_by : (lo hi b : ℕ) (ed : Edition) (clip : Clip) (vs : List ℕ) → tile_divides lo hi b ed clip vs ≡ divided_by ed clip (length vs) (counts_of lo hi b vs)
unfolding tile_divides
tile_divides_by lo hi b ed clip vs = refl

-- with a factor they are its raw counts, clipped at the limit
pub tile_counts_factor : (lo hi b : ℕ) (ed : Edition) (f : Float) (vs : List ℕ) → tile_counts lo hi b ed (Factor f) vs ≡ clipped_in ed (limit_of f (length vs) b) (counts_of lo hi b vs)
unfolding tile_counts clipped_by
tile_counts_factor lo hi b ed f vs = ap (λ k. clipped_in ed (limit_of f (length vs) k) (counts_of lo hi b vs)) (length_counts lo hi b vs)

-- so none is above the limit
pub tile_counts_most : (lo hi b : ℕ) (ed : Edition) (f : Float) (vs : List ℕ) (k : ℕ) → get_or (tile_counts lo hi b ed (Factor f) vs) k 0 ≤ limit_of f (length vs) b
tile_counts_most lo hi b ed f vs k = rw (tile_counts_factor lo hi b ed f vs) (most_in ed (limit_of f (length vs) b) (counts_of lo hi b vs) k)

-- ---- the mapping of a tile

-- it is the mapping of the tile's clipped counts
tile_mapping_counts : (lo hi b : ℕ) (ed : Edition) (clip : Clip) (vs : List ℕ) → tile_mapping lo hi b ed clip vs ≡ mapping_of lo hi (tile_divides lo hi b ed clip vs) (tile_counts lo hi b ed clip vs)
unfolding tile_mapping counts_mapping tile_counts tile_divides
tile_mapping_counts lo hi b ed clip vs = refl

-- and the mapping of its raw counts by the clip setting
pub tile_mapping_from : (lo hi b : ℕ) (ed : Edition) (clip : Clip) (vs : List ℕ) → tile_mapping lo hi b ed clip vs ≡ counts_mapping lo hi ed clip (length vs) (counts_of lo hi b vs)
unfolding tile_mapping
tile_mapping_from lo hi b ed clip vs = refl

-- a mapped value for each bin
pub length_tile_mapping : (lo hi b : ℕ) (ed : Edition) (clip : Clip) (vs : List ℕ) → length (tile_mapping lo hi b ed clip vs) ≡ b
length_tile_mapping lo hi b ed clip vs = ap length (tile_mapping_counts lo hi b ed clip vs) ∙ length_mapping lo hi (tile_divides lo hi b ed clip vs) (tile_counts lo hi b ed clip vs) ∙ length_tile_counts lo hi b ed clip vs

-- each within Min to Max
pub tile_mapping_within : (lo hi b : ℕ) (ed : Edition) (clip : Clip) (vs : List ℕ) → all (within lo hi) vs ≡ true → 0 < b → lo ≤ hi → Holds clip (length vs) b
    → all (within lo hi) (tile_mapping lo hi b ed clip vs) ≡ true
tile_mapping_within lo hi b ed clip vs h p l room =
    ap (all (within lo hi)) (tile_mapping_counts lo hi b ed clip vs)
    ∙ mapping_within lo hi (tile_divides lo hi b ed clip vs) (tile_counts lo hi b ed clip vs) (omega (arith, total_tile_counts lo hi b ed clip vs h p room)) l

-- the mapped value of bin k
pub get_or_tile_mapping : (lo hi b : ℕ) (ed : Edition) (clip : Clip) (vs : List ℕ) (k : ℕ) → k < b
    → get_or (tile_mapping lo hi b ed clip vs) k 0 ≡ mapped_of lo hi (tile_divides lo hi b ed clip vs) (tile_counts lo hi b ed clip vs) k
get_or_tile_mapping lo hi b ed clip vs k h =
    ap (λ m. get_or m k 0) (tile_mapping_counts lo hi b ed clip vs)
    ∙ get_or_mapping lo hi (tile_divides lo hi b ed clip vs) (tile_counts lo hi b ed clip vs) k (omega (arith, length_tile_counts lo hi b ed clip vs))

-- it never falls
pub tile_mapping_mono : (lo hi b : ℕ) (ed : Edition) (clip : Clip) (vs : List ℕ) → 0 < tile_divides lo hi b ed clip vs → (k j : ℕ) → k ≤ j → j < b
    → get_or (tile_mapping lo hi b ed clip vs) k 0 ≤ get_or (tile_mapping lo hi b ed clip vs) j 0
tile_mapping_mono lo hi b ed clip vs p k j h l =
    omega (
      arith,
      get_or_tile_mapping lo hi b ed clip vs k (omega arith),
      get_or_tile_mapping lo hi b ed clip vs j l,
      mapped_mono lo hi (tile_divides lo hi b ed clip vs) (tile_counts lo hi b ed clip vs) p k j h,
    )

-- with a factor, it rises from a bin to the next by at most L x R over N (or T), rounded up
pub tile_mapping_rise : (lo hi b : ℕ) (ed : Edition) (f : Float) (vs : List ℕ) → 0 < tile_divides lo hi b ed (Factor f) vs → (k : ℕ) → k + 1 < b
    → get_or (tile_mapping lo hi b ed (Factor f) vs) (k + 1) 0
    ≤ get_or (tile_mapping lo hi b ed (Factor f) vs) k 0 + (limit_of f (length vs) b * (hi - lo) + tile_divides lo hi b ed (Factor f) vs - 1) / tile_divides lo hi b ed (Factor f) vs
tile_mapping_rise lo hi b ed f vs p k h =
    omega (
      arith,
      get_or_tile_mapping lo hi b ed (Factor f) vs (k + 1) h,
      get_or_tile_mapping lo hi b ed (Factor f) vs k (omega arith),
      mapped_rise lo hi (tile_divides lo hi b ed (Factor f) vs) (limit_of f (length vs) b) (tile_counts lo hi b ed (Factor f) vs) p k (tile_counts_most lo hi b ed f vs (k + 1)),
    )

-- and from Min to the first bin by at most as much
pub tile_mapping_first : (lo hi b : ℕ) (ed : Edition) (f : Float) (vs : List ℕ) → 0 < tile_divides lo hi b ed (Factor f) vs → 0 < b
    → get_or (tile_mapping lo hi b ed (Factor f) vs) 0 0 ≤ lo + (limit_of f (length vs) b * (hi - lo) + tile_divides lo hi b ed (Factor f) vs - 1) / tile_divides lo hi b ed (Factor f) vs
tile_mapping_first lo hi b ed f vs p h =
    omega (
      arith,
      get_or_tile_mapping lo hi b ed (Factor f) vs 0 h,
      mapped_first lo hi (tile_divides lo hi b ed (Factor f) vs) (limit_of f (length vs) b) (tile_counts lo hi b ed (Factor f) vs) p (tile_counts_most lo hi b ed f vs 0),
    )

-- the last bin maps to Max
pub tile_mapping_last : (lo hi b : ℕ) (ed : Edition) (clip : Clip) (vs : List ℕ) → all (within lo hi) vs ≡ true → 0 < b → lo ≤ hi → 0 < length vs → Holds clip (length vs) b
    → get_or (tile_mapping lo hi b ed clip vs) (b - 1) 0 ≡ hi
tile_mapping_last lo hi b ed clip vs h p l some room =
    let cs : List ℕ = tile_counts lo hi b ed clip vs in
    let n : length cs ≡ b = length_tile_counts lo hi b ed clip vs in
    get_or_tile_mapping lo hi b ed clip vs (b - 1) (omega arith)
    ∙ ap (λ k. mapped_of lo hi (tile_divides lo hi b ed clip vs) cs (k - 1)) (sym n)
    ∙ mapped_last lo hi (tile_divides lo hi b ed clip vs) cs (omega (arith, (divides_between lo hi b ed clip vs h p room).0)) (total_tile_counts lo hi b ed clip vs h p room) l (omega arith)

-- ---- the mapping of counts by the clip setting

-- a mapped value for each count
pub length_counts_mapping : (lo hi : ℕ) (ed : Edition) (clip : Clip) (n : ℕ) (cs : List ℕ) → length (counts_mapping lo hi ed clip n cs) ≡ length cs
unfolding counts_mapping
length_counts_mapping lo hi ed clip n cs = length_mapping lo hi (divided_by ed clip n cs) (clipped_by ed clip n cs) ∙ length_clipped_by ed clip n cs

-- the clipped counts add up to what the mapping divides by
total_from : (ed : Edition) {clip : Clip} {n lo hi : ℕ} {cs : List ℕ} {room : ℕ} → FromCountsAsks clip n lo hi cs room → total (clipped_by ed clip n cs) ≡ divided_by ed clip n cs
total_from ed {clip} {n} {lo} {hi} {cs} asks = divided_total ed clip n cs asks.counted.holds asks.counted.all_pixels (omega (arith, asks.counted.some))

between_from : (ed : Edition) {clip : Clip} {n lo hi : ℕ} {cs : List ℕ} {room : ℕ} → FromCountsAsks clip n lo hi cs room → (n ≤ divided_by ed clip n cs) × (divided_by ed clip n cs < n + length cs)
between_from ed {clip} {n} {lo} {hi} {cs} asks = divided_between ed clip n cs asks.counted.holds asks.counted.all_pixels (omega (arith, asks.counted.some))

-- each within Min to Max
pub counts_mapping_within : (ed : Edition) {clip : Clip} {n lo hi : ℕ} {cs : List ℕ} {room : ℕ} → FromCountsAsks clip n lo hi cs room → all (within lo hi) (counts_mapping lo hi ed clip n cs) ≡ true
unfolding counts_mapping
counts_mapping_within ed {clip} {n} {lo} {hi} {cs} asks = mapping_within lo hi (divided_by ed clip n cs) (clipped_by ed clip n cs) (omega (arith, total_from ed asks)) asks.order

-- ---- the steps of `from_counts`: clipped, mapped

module _ (ed : Edition) {clip : Clip} {n lo hi : ℕ} {cs : List ℕ} {out : ℕ} (asks : FromCountsAsks clip n lo hi cs out) {ds : List ℕ} {t : ℕ} (e : (ds ≡ clipped_by ed clip n cs) × (t ≡ divided_by ed clip n cs)) where
  -- what mapping the clipped counts asks
  pub from_map_asks : MapBinsAsks ds t lo hi out
  from_map_asks =
      let x : total ds ≡ t = ap total e.0 ∙ (total_from ed asks ∙ sym e.1) in
      let l : length ds ≡ length cs = ap length e.0 ∙ length_clipped_by ed clip n cs in
      let y = between_from ed asks in
      record {
        sum = omega arith;
        some = omega (arith, e.1, y.0, asks.some);
        few = omega (arith, e.1, y.1, asks.counted.few_pixels, asks.counted.few);
        order = asks.order;
        most = asks.most;
        enough = omega (arith, asks.enough);
      }

  -- what it comes to
  pub from_mapped : (o : List ℕ) {o' : List ℕ} → o' ≡ onto o (mapping_of lo hi t ds) → o' ≡ onto o (counts_mapping lo hi ed clip n cs)
  unfolding counts_mapping
  from_mapped o h = h ∙ ap₂ (λ x y. onto o (mapping_of lo hi x y)) e.1 e.0

-- ---- the steps of `mapping`: counted, then clipped and mapped

module _ {pic : List ℕ} {stride : ℕ} {r : Rect} {lo hi b : ℕ} {clip : Clip} {scratch out : ℕ} (asks : MappingAsks pic stride r lo hi b clip scratch out) where
  -- the greys are as many as the tile's pixels
  tile_pixels_lem : length (greys_of pic stride r) ≡ r.width * r.height
  tile_pixels_lem = length_greys pic stride r

  module _ (d : List ℕ) {s : List ℕ} (e : s ≡ onto d (counts_of lo hi b (greys_of pic stride r))) where
    -- the front of the scratch holds the counts
    tile_counted : take b s ≡ counts_of lo hi b (greys_of pic stride r)
    tile_counted = ap (take b) e ∙ take_onto d (counts_of lo hi b (greys_of pic stride r)) b (length_counts lo hi b (greys_of pic stride r))

    pub tile_part : b ≡ length (take b s)
    tile_part = sym (ap length tile_counted ∙ length_counts lo hi b (greys_of pic stride r))

    -- what clipping and mapping them asks
    pub tile_asks : FromCountsAsks clip (r.width * r.height) lo hi (take b s) out
    tile_asks =
        record {
          counted = record {
            holds = subst (λ k. Holds clip (r.width * r.height) k) tile_part asks.holds;
            all_pixels = ap total tile_counted ∙ total_counts lo hi b (greys_of pic stride r) asks.counts.greys (omega (arith, asks.counts.scale.some)) ∙ tile_pixels_lem;
            few_pixels = asks.counts.inside.few;
            some = omega (arith, tile_part, asks.counts.scale.some);
            few = omega (arith, tile_part, asks.counts.scale.few);
          };
          some = asks.counts.inside.some;
          order = asks.counts.scale.order;
          most = asks.counts.scale.most;
          enough = omega (arith, tile_part, asks.room);
        }

    -- at the end
    pub tile_mapped : (ed : Edition) (o : List ℕ) {p o' : List ℕ} {took : Spent} → p ≡ clipped_by ed clip (r.width * r.height) (take b s)
        → o' ≡ onto o (counts_mapping lo hi ed clip (r.width * r.height) (take b s)) → took ≡ spent_by ed clip (r.width * r.height) (take b s)
        → TileMapped lo hi b ed clip (greys_of pic stride r) d (p ++ drop b s) o o' took
    unfolding tile_mapping tile_counts tile_spent onto
    tile_mapped ed o {p} {o'} q h k =
        record {
          counts = ap₂ (λ x y. x ++ y) (q ∙ ap₂ (clipped_by ed clip) (sym tile_pixels_lem) tile_counted) behind;
          mapping = h ∙ ap₂ (λ n cs. onto o (counts_mapping lo hi ed clip n cs)) (sym tile_pixels_lem) tile_counted;
          spent = k ∙ ap₂ (spent_by ed clip) (sym tile_pixels_lem) tile_counted;
        }
      where
        behind : drop b s ≡ drop (length (tile_counts lo hi b ed clip (greys_of pic stride r))) d
        behind =
            ap (drop b) e
            ∙ drop_onto d (counts_of lo hi b (greys_of pic stride r)) b (length_counts lo hi b (greys_of pic stride r))
            ∙ ap (λ k. drop k d) (sym (length_tile_counts lo hi b ed clip (greys_of pic stride r)))
