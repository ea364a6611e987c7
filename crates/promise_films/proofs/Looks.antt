-- Order 7, the list of a call that ended as prepare does: of a tile, of prepare's outcome, and of whichever call accepted its film; and the rows of 32.
-- A name with ' is lent memory at the end.
-- Assumes nothing.
use Prim.Native.Nat.{ℕ, zero, suc, ◌+◌, ◌*◌, ◌≤◌, ◌<◌}
use mathlib.Core.Bool.{Bool, true, false, cond}
use mathlib.Core.List.{List}
use mathlib.Core.Logic.{◌≢◌, ◌⊎◌, inl, inr}
use mathlib.Core.Path.{◌≡◌, refl, sym, ap, ap₂, ◌∙◌, subst, subst₂}
use native.Mathlib.Omega.{arith}
use lib.Ieee.{Float}
use lib.ListN.{length, drop}
use Rattle.base_lists.specs.Lists.{onto, all}
use Rattle.base_lists.proofs.Orders.{lt_or_ge}
use Rattle.base_rows.specs.Refuse.{first, accepted}
use Rattle.base_rows.proofs.Walk.{first_never, only_behind}
use Rattle.tile_limit.specs.declared.Clip.{Clip}
use Rattle.tile_limit.specs.declared.Clip.TheVariants.{Off}
use Rattle.tile_limit.specs.declared.Edition.{Edition}
use Rattle.tile_limit.specs.declared.Edition.TheVariants.{Ours, Of1986}
use Rattle.tile_limit.specs.Limit.{limit_of}
use Rattle.tile_clip.specs.declared.Spent.{Spent}
use Rattle.tile_clip.specs.Clip.{excess, left}
use Rattle.tile_clip.specs.Looks.{looks_of, spent_as, spent_of}
use Rattle.tile_clip.proofs.Laws.{looks_none, looks_within}
use Rattle.base_range.specs.Scan.{within}
use Rattle.tile_count.specs.Tally.{greys_of}
use Rattle.tile_count.proofs.Counts.{length_counts}
use Rattle.tile_map.specs.Tile.{took_in, spent_by}
use Rattle.tile_map.proofs.Tiles.{spent_off, spent_factor}
use Rattle.film_settings.specs.declared.Settings.{Settings}
use Rattle.film_settings.specs.declared.MapRecord.{MapRecord}
use Rattle.film_settings.specs.declared.Footer.{Footer}
use Rattle.film_settings.specs.Settings.{bins_of, clip_one_of, shared_rows}
use Rattle.film_settings.proofs.Ready.{shared_numbers}
use Rattle.film_tiles.specs.Tiles.{tile_of, pixels_in, spents, spent_entries}
use Rattle.film_tiles.proofs.Spents.{spent_in_from, listed_excess, listed_looks, listed_behind, listed_size}
use Rattle.film_count.specs.Counting.{raw_counts}
use Rattle.film_prepare.specs.Prepare.{listed_rows, enhance_rows, prepare_rows, PrepareOut, prepare_of, prepared_of}
use Rattle.film_prepare.proofs.Table.{listed_scratch, listed_short, listed_greys, table_parts, table_shared, table_work, table_listed, over_numbers}
use Rattle.promise_films.specs.Films.{ClippingOn, limit_in}
use Rattle.promise_films.specs.Looks.{excess_at, looks_at, TileLooks, TilesLooks, FilmLooks, NoLooks, TilesOlderLooks, FilmOlderLooks, ListShort}
use Rattle.promise_films.proofs.Accepted.{prepare_accepts, prepare_done}
use Rattle.promise_films.proofs.Ended.{Ended, ended_accepted}
use Rattle.promise_films.proofs.Sound.{on_not_one}
use Rattle.promise_films.proofs.Runs.{PrepareCall}

-- ---- a tile

-- the excess and the looks of any counts at any limit
tile_looks : (b l : ℕ) (raw : List ℕ) → length raw ≡ b → TileLooks b l raw (excess l raw) (looks_of l raw)
tile_looks b l raw long =
    record {
      bins = long;
      above = refl;
      looks = refl;
      none = looks_none l raw;
      most = subst (λ k. 2 * looks_of l raw ≤ left l raw * (k * (k + 1))) long (looks_within l raw);
    }

-- with clipping on, what clipping takes of the counts of a tile of n pixels and b bins
spent_with : {clip : Clip} {f : Float} → ClippingOn clip f → {ed : Edition} (x : Edition) → ed ≡ x → (n b : ℕ) (raw : List ℕ) → length raw ≡ b → spent_by ed clip n raw ≡ took_in x (limit_of f n b) raw
spent_with {f = f} on {ed} x same n b raw long = sym (spent_factor ed n raw on.factor refl refl) ∙ ap₂ (λ e k. took_in e (limit_of f n k) raw) same long

-- a list that has what clipping took of these counts of tile k in the entries 2k and 2k + 1, in our edition
pub tiles_looks : (w h : ℕ) (s : Settings) {f : Float} → ClippingOn s.clip f → s.edition ≡ Ours → (counts : ℕ → List ℕ) (n : List ℕ)
    → ((k : ℕ) → k < s.across * s.down → length (counts k) ≡ bins_of s)
    → ((k : ℕ) → k < s.across * s.down
    → (excess_at n k ≡ (spent_by s.edition s.clip (pixels_in w h s k) (counts k)).excess) × (looks_at n k ≡ (spent_by s.edition s.clip (pixels_in w h s k) (counts k)).looks))
    → TilesLooks w h s f counts n
tiles_looks w h s {f} on ours counts n bins entries k l =
    let e : spent_by s.edition s.clip (pixels_in w h s k) (counts k) ≡ spent_of (limit_in w h s f k) (counts k) = spent_with on Ours ours (pixels_in w h s k) (bins_of s) (counts k) (bins k l) in
    let (x, y) = entries k l in
    subst₂ (TileLooks (bins_of s) (limit_in w h s f k) (counts k)) (sym (x ∙ ap (λ (p : Spent). p.excess) e)) (sym (y ∙ ap (λ (p : Spent). p.looks) e))
    (tile_looks (bins_of s) (limit_in w h s f k) (counts k) (bins k l))

-- in that of 1986
pub tiles_older_looks : (w h : ℕ) (s : Settings) {f : Float} → ClippingOn s.clip f → s.edition ≡ Of1986 → (counts : ℕ → List ℕ) (n : List ℕ)
    → ((k : ℕ) → k < s.across * s.down → length (counts k) ≡ bins_of s)
    → ((k : ℕ) → k < s.across * s.down
    → (excess_at n k ≡ (spent_by s.edition s.clip (pixels_in w h s k) (counts k)).excess) × (looks_at n k ≡ (spent_by s.edition s.clip (pixels_in w h s k) (counts k)).looks))
    → TilesOlderLooks w h s f counts n
tiles_older_looks w h s {f} on other counts n bins entries k l =
    let e : spent_by s.edition s.clip (pixels_in w h s k) (counts k) ≡ spent_as (excess (limit_in w h s f k) (counts k)) 0 = spent_with on Of1986 other (pixels_in w h s k) (bins_of s) (counts k) (bins k l) in
    let (x, y) = entries k l in
    (x ∙ ap (λ (p : Spent). p.excess) e, y ∙ ap (λ (p : Spent). p.looks) e)

-- and with clip off
pub tiles_no_looks : (w h : ℕ) (s : Settings) → s.clip ≡ Off → (counts : ℕ → List ℕ) (n : List ℕ)
    → ((k : ℕ) → k < s.across * s.down
    → (excess_at n k ≡ (spent_by s.edition s.clip (pixels_in w h s k) (counts k)).excess) × (looks_at n k ≡ (spent_by s.edition s.clip (pixels_in w h s k) (counts k)).looks))
    → NoLooks s n
tiles_no_looks w h s off counts n entries k l =
    let e : spent_by s.edition s.clip (pixels_in w h s k) (counts k) ≡ spent_as 0 0 = sym (spent_off s.edition (pixels_in w h s k) (counts k) off) in
    let (x, y) = entries k l in
    (x ∙ ap (λ (p : Spent). p.excess) e, y ∙ ap (λ (p : Spent). p.looks) e)

-- ---- the list that prepare leaves

module _ (film w h : ℕ) (pic : List ℕ) (s : Settings) (m t n : List ℕ) {r : MapRecord} {foot : Footer} (done : (prepare_of film w h pic s m t n).answer ≡ accepted (r, foot)) where
  -- at the factor 1.0 it stays; else the tiles' entries lie in its front
  pub left_list : (prepare_of film w h pic s m t n).list ≡ cond (clip_one_of s.clip) n (onto n (spents w h pic s))
  unfolding prepared_of
  left_list = ap (λ (x : PrepareOut). x.list) (prepare_done film w h pic s m t n done)

  -- by what the clip setting is
  list_by : {b : Bool} → clip_one_of s.clip ≡ b → (prepare_of film w h pic s m t n).list ≡ cond b n (onto n (spents w h pic s))
  list_by e = left_list ∙ ap (λ b. cond b n (onto n (spents w h pic s))) e

  -- where the factor is not 1.0, the entries of tile k are those of its raw counts
  entries_by : clip_one_of s.clip ≡ false → (k : ℕ) → k < s.across * s.down
      → (excess_at (prepare_of film w h pic s m t n).list k ≡ (spent_by s.edition s.clip (pixels_in w h s k) (raw_counts w h pic s k)).excess)
      × (looks_at (prepare_of film w h pic s m t n).list k ≡ (spent_by s.edition s.clip (pixels_in w h s k) (raw_counts w h pic s k)).looks)
  entries_by one k l = (
    ap (λ xs. excess_at xs k) (list_by one) ∙ listed_excess w h pic s n l ∙ ap (λ (x : Spent). x.excess) (spent_in_from w h pic s k),
    ap (λ xs. looks_at xs k) (list_by one) ∙ listed_looks w h pic s n l ∙ ap (λ (x : Spent). x.looks) (spent_in_from w h pic s k),
  )

  -- with clipping on: E and the looks of each tile, and what the order says of them
  pub list_looks : {f : Float} → ClippingOn s.clip f → s.edition ≡ Ours → FilmLooks w h pic s f (prepare_of film w h pic s m t n).list
  list_looks on ours =
      tiles_looks w h s on ours (raw_counts w h pic s) (prepare_of film w h pic s m t n).list (λ k l. length_counts s.min s.max (bins_of s) (greys_of pic w (tile_of w h s k)))
      (entries_by (on_not_one on))

  -- in the edition of 1986
  pub list_older_looks : {f : Float} → ClippingOn s.clip f → s.edition ≡ Of1986 → FilmOlderLooks w h pic s f (prepare_of film w h pic s m t n).list
  list_older_looks on other =
      tiles_older_looks w h s on other (raw_counts w h pic s) (prepare_of film w h pic s m t n).list (λ k l. length_counts s.min s.max (bins_of s) (greys_of pic w (tile_of w h s k)))
      (entries_by (on_not_one on))

  -- with clip off: none
  pub list_looks_off : s.clip ≡ Off → NoLooks s (prepare_of film w h pic s m t n).list
  list_looks_off off = tiles_no_looks w h s off (raw_counts w h pic s) (prepare_of film w h pic s m t n).list (entries_by (rw off refl))

  -- at the factor 1.0: as it was
  pub list_kept : clip_one_of s.clip ≡ true → (prepare_of film w h pic s m t n).list ≡ n
  list_kept one = list_by one

  -- whatever the clip setting is: it has two entries for each tile
  pub list_long : spent_entries s ≤ length (prepare_of film w h pic s m t n).list
  list_long = rw left_list (go (clip_one_of s.clip))
    where
      long : spent_entries s ≤ length n
      long = table_listed w h pic s (length m) (length t) (length n) (prepare_accepts film w h pic s m t n done)

      go : (b : Bool) → spent_entries s ≤ length (cond b n (onto n (spents w h pic s)))
      go true = long
      go false = rw (listed_size w h pic s n long) long

  -- and is as it was behind the last tile
  pub list_behind : drop (spent_entries s) (prepare_of film w h pic s m t n).list ≡ drop (spent_entries s) n
  list_behind = ap (drop (spent_entries s)) left_list ∙ go (clip_one_of s.clip)
    where
      go : (b : Bool) → drop (spent_entries s) (cond b n (onto n (spents w h pic s))) ≡ drop (spent_entries s) n
      go true = refl
      go false = listed_behind w h pic s n

-- ---- a call that ended as prepare does

-- and accepted its film
module _ (p : PrepareCall) {r : MapRecord} {foot : Footer} (ends : Ended p) (prepared : p.answer ≡ accepted (r, foot)) where
  done : (prepare_of p.film p.width p.height p.pixels p.settings p.map p.scratch p.list).answer ≡ accepted (r, foot)
  done = ended_accepted p ends prepared

  listed : p.list' ≡ (prepare_of p.film p.width p.height p.pixels p.settings p.map p.scratch p.list).list
  listed = ap (λ (z : PrepareOut). z.list) ends

  pub ended_looks : {f : Float} → ClippingOn p.settings.clip f → p.settings.edition ≡ Ours → FilmLooks p.width p.height p.pixels p.settings f p.list'
  ended_looks on ours = rw listed (list_looks p.film p.width p.height p.pixels p.settings p.map p.scratch p.list done on ours)

  pub ended_looks_older : {f : Float} → ClippingOn p.settings.clip f → p.settings.edition ≡ Of1986 → FilmOlderLooks p.width p.height p.pixels p.settings f p.list'
  ended_looks_older on other = rw listed (list_older_looks p.film p.width p.height p.pixels p.settings p.map p.scratch p.list done on other)

  pub ended_looks_off : p.settings.clip ≡ Off → NoLooks p.settings p.list'
  ended_looks_off off = rw listed (list_looks_off p.film p.width p.height p.pixels p.settings p.map p.scratch p.list done off)

  pub ended_list_long : spent_entries p.settings ≤ length p.list'
  ended_list_long = rw listed (list_long p.film p.width p.height p.pixels p.settings p.map p.scratch p.list done)

  pub ended_list_kept : clip_one_of p.settings.clip ≡ true → p.list' ≡ p.list
  ended_list_kept one = listed ∙ list_kept p.film p.width p.height p.pixels p.settings p.map p.scratch p.list done one

  pub ended_list_behind : drop (spent_entries p.settings) p.list' ≡ drop (spent_entries p.settings) p.list
  ended_list_behind = rw listed (list_behind p.film p.width p.height p.pixels p.settings p.map p.scratch p.list done)

-- ---- 32

module _ (w h : ℕ) (pic : List ℕ) (s : Settings) (room scratch list : ℕ) where
  -- none of 1 to 11 and 31 has that number
  shared_32 : first (shared_rows w h (length pic) s room) ≢ 32
  unfolding all
  shared_32 = first_never 32 (shared_rows w h (length pic) s room) refl (rw (shared_numbers w h (length pic) s room) refl)

  -- where prepare's table gives it, they give none
  shared_none : first (prepare_rows w h pic s room scratch list) ≡ 32 → first (shared_rows w h (length pic) s room) ≡ 0
  shared_none q = go (first (shared_rows w h (length pic) s room)) refl
    where
      go : (k : ℕ) → first (shared_rows w h (length pic) s room) ≡ k → k ≡ 0
      go zero e = refl
      go (suc k) e = absurd (shared_32 (table_shared w h pic s room scratch list refl (λ z. omega (arith, e, z)) ∙ q))

  -- and 12, 32 and 13 do
  listed_32 : first (prepare_rows w h pic s room scratch list) ≡ 32 → first (listed_rows pic s scratch list) ≡ 32
  unfolding all
  listed_32 q =
      only_behind 32 (shared_rows w h (length pic) s room) (listed_rows pic s scratch list) (rw (shared_numbers w h (length pic) s room) refl)
      (sym (ap first (table_parts w h pic s room scratch list)) ∙ q)

  -- so 12 does not apply, and the list is too short
  pub table_32 : first (prepare_rows w h pic s room scratch list) ≡ 32 → ListShort w h pic s room scratch list
  table_32 q = record { before = shared_none q; bins = scratch_enough (lt_or_ge scratch (bins_of s)); short = too_short (lt_or_ge list (spent_entries s)) }
    where
      given : first (listed_rows pic s scratch list) ≡ 32
      given = listed_32 q

      scratch_enough : (scratch < bins_of s) ⊎ (bins_of s ≤ scratch) → bins_of s ≤ scratch
      scratch_enough (inl l) = absurd (let z : ◌≡◌ {A = ℕ} 12 32 = listed_scratch pic s scratch list refl l ∙ given in omega arith)
      scratch_enough (inr g) = g

      greys : (t : Bool) → ◌≡◌ {A = ℕ} (cond t 0 13) 32 → ⊥
      greys true e = let z : ◌≡◌ {A = ℕ} 0 32 = e in omega arith
      greys false e = let z : ◌≡◌ {A = ℕ} 13 32 = e in omega arith

      too_short : (list < spent_entries s) ⊎ (spent_entries s ≤ list) → list < spent_entries s
      too_short (inl l) = l
      too_short (inr g) =
          absurd (greys (all (within s.min s.max) pic) (listed_greys pic s scratch list refl (scratch_enough (lt_or_ge scratch (bins_of s))) g _ refl ∙ given))

  -- and the other way
  pub table_short : ListShort w h pic s room scratch list → first (prepare_rows w h pic s room scratch list) ≡ 32
  table_short x = sym (table_work w h pic s room scratch list (sym x.before) refl (listed_short pic s scratch list refl x.bins x.short))

-- enhance's rows have none of that number
pub over_never_32 : (w h : ℕ) (pic : List ℕ) (s : Settings) (room scratch : ℕ) → first (enhance_rows w h pic s room scratch) ≢ 32
unfolding all
over_never_32 w h pic s room scratch =
    first_never 32 (enhance_rows w h pic s room scratch) refl (rw (over_numbers w h pic s room scratch, shared_numbers w h (length pic) s room) refl)
