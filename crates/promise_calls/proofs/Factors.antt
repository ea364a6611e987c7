-- Two runs that are alike but for their clip settings (and, where it is no row's, the edition), both let pass by 10: the rows of both give one number. Of draw where each record has the clip setting of its call and
-- 18 is looked for in both or in neither.
-- Assumes nothing.
use Prim.Native.Nat.{ℕ, zero, suc}
use mathlib.Core.Bool.{true, false, cond}
use mathlib.Core.List.{◌++◌}
use mathlib.Core.Path.{◌≡◌, refl, sym, ap, ap₂, ◌∙◌}
use native.Mathlib.Omega.{arith}
use lib.Dec.{eqb}
use lib.ListN.{length}
use Rattle.base_rows.specs.Refuse.{first, refused, says}
use Rattle.tile_limit.specs.declared.Clip.{Clip}
use Rattle.film_settings.specs.declared.Settings.{Settings}
use Rattle.film_settings.specs.Settings.{bins_of, clip_bad_of, clip_one_of, same_clip_of}
use Rattle.film_settings.proofs.Parts.{bins_alike, setting_alike}
use Rattle.film_prepare.specs.Prepare.{prepare_rows, enhance_rows}
use Rattle.film_prepare.proofs.Alike.{listed_alike, over_alike, table_alike}
use Rattle.film_count.specs.Counting.{AlikeButClip}
use Rattle.film_map.specs.Counts.{map_rows_of}
use Rattle.film_map.proofs.Tables.{map_alike}
use Rattle.film_record.proofs.Laws.{reclipped, reclipped_record}
use Rattle.film_draw.specs.Draw.{draw_rows}
use Rattle.film_draw.proofs.Like.{rows_alike}
use Rattle.byte_profile.specs.Profile.{profile_rows}
use Rattle.byte_profile.proofs.Profile.{profile_alike, byte_alike}
use Rattle.byte_prepare.specs.Bytes.{byte_prepare_rows, byte_enhance_rows}
use Rattle.byte_prepare.proofs.Tables.{rows_enough}
use Rattle.byte_prepare.proofs.Parts.{byte_rows_lem}
use Rattle.byte_draw.specs.Bytes.{byte_draw_rows}
use Rattle.byte_draw.proofs.Parts.{draw_outside}
use Rattle.promise_films.proofs.Runs.{PrepareCall, EnhanceCall, DrawCall}
use Rattle.promise_bytes.proofs.Inside.{draw_rows_inside}
use Rattle.promise_counts.proofs.Runs.{MapCall}

-- ---- any call

-- two calls whose tables give one number: a refusal of the one is that of the other
pub same_refusal : {A : Type 0} {x y : ℕ} (u v : A) → x ≡ y → (n : ℕ) → says x u ≡ refused n → says y v ≡ refused n
same_refusal {A} {x} {y} u v e n q = go x q e
  where
    go : (k : ℕ) → says k u ≡ refused n → k ≡ y → says y v ≡ refused n
    go zero z same = absurd (let o : ◌≡◌ {A = ℕ} 0 1 = cc in omega arith)
    go (suc k) z same = ap (λ i. says i v) (sym same) ∙ (let o : suc k ≡ n = cc in ap refused o)

-- 10 lets both clip settings pass
pub record BothFair (s s' : Settings) : Type 0 where
  pub this : clip_bad_of s.clip ≡ false
  pub that : clip_bad_of s'.clip ≡ false

-- so they are alike to 10; a promise below says it itself, so that an edit of the record above is refused at that promise
both : {s s' : Settings} → BothFair s s' → clip_bad_of s.clip ≡ clip_bad_of s'.clip
both fair = fair.this ∙ sym fair.that

-- ---- prepare

-- two runs of prepare, on bytes or not, alike but for the factor and its edition: of the buffers their lengths alone
pub record PreparesAlike (p q : PrepareCall) : Type 0 where
  pub width : p.width ≡ q.width
  pub height : p.height ≡ q.height
  pub pixels : p.pixels ≡ q.pixels
  pub settings : AlikeButClip p.settings q.settings
  pub map : length p.map ≡ length q.map
  pub scratch : length p.scratch ≡ length q.scratch
  pub list : length p.list ≡ length q.list
  pub fair : BothFair p.settings q.settings

-- ---- enhance

pub record EnhancesAlike (e f : EnhanceCall) : Type 0 where
  pub width : e.width ≡ f.width
  pub height : e.height ≡ f.height
  pub pixels : e.pixels ≡ f.pixels
  pub settings : AlikeButClip e.settings f.settings
  pub map : length e.map ≡ length f.map
  pub scratch : length e.scratch ≡ length f.scratch
  pub fair : BothFair e.settings f.settings

-- ---- mapping

pub record MapsAlike (d e : MapCall) : Type 0 where
  pub width : d.width ≡ e.width
  pub height : d.height ≡ e.height
  pub settings : AlikeButClip d.settings e.settings
  pub counts : d.counts ≡ e.counts
  pub map : length d.map ≡ length e.map
  pub scratch : length d.scratch ≡ length e.scratch
  pub list : length d.list ≡ length e.list
  pub fair : BothFair d.settings e.settings

-- ---- draw

-- a run of draw f that is alike d but for the clip setting c of the call and c' of the record: each is the same as the other in f as in d, which 15 compares, and 18 is looked for in both or in neither
pub record DrawsAlike (d f : DrawCall) (c c' : Clip) : Type 0 where
  pub film : f.film ≡ d.film
  pub width : f.width ≡ d.width
  pub height : f.height ≡ d.height
  pub pixels : f.pixels ≡ d.pixels
  pub settings : f.settings ≡ reclipped d.settings c
  pub kept : f.kept ≡ reclipped_record d.kept c'
  pub window : f.window ≡ d.window
  pub map : f.map ≡ d.map
  pub out : length f.out ≡ length d.out
  pub fair : clip_bad_of d.settings.clip ≡ false
  pub fair' : clip_bad_of c ≡ false
  pub same : same_clip_of d.settings.clip d.kept.settings.clip ≡ true
  pub same' : same_clip_of c c' ≡ true
  pub one : clip_one_of c ≡ clip_one_of d.settings.clip

-- ---- the rows of two such runs give one number

pub prepare_number : {p q : PrepareCall} → PreparesAlike p q
    → first (prepare_rows p.width p.height p.pixels p.settings (length p.map) (length p.scratch) (length p.list))
    ≡ first (prepare_rows q.width q.height q.pixels q.settings (length q.map) (length q.scratch) (length q.list))
prepare_number {p} {q} a =
    let s = a.settings in
    rw (a.width, a.height, a.pixels, a.map, a.scratch, a.list)
    (ap first (table_alike p.settings q.settings s.across s.down s.bins s.min s.max (a.fair.this ∙ sym a.fair.that) q.width q.height q.pixels (length q.map) (length q.scratch) (length q.list)))

pub prepare_bytes_number : {p q : PrepareCall} → PreparesAlike p q → p.settings.edition ≡ q.settings.edition
    → first (byte_prepare_rows p.width p.height p.pixels p.settings (length p.map) (length p.scratch) (length p.list))
    ≡ first (byte_prepare_rows q.width q.height q.pixels q.settings (length q.map) (length q.scratch) (length q.list))
prepare_bytes_number {p} {q} a edition =
    let s = a.settings in
    rw (a.width, a.height, a.pixels, a.map, a.scratch, a.list)
    (ap first
    (byte_rows_lem q.width q.height q.pixels p.settings (length q.map) (length q.scratch) (length q.list)
    ∙ ap₂ (λ b c. b ++ c)
    (byte_alike p.settings q.settings s.across s.down s.bins s.min s.max edition (a.fair.this ∙ sym a.fair.that) q.width q.height (length q.pixels) (length q.map))
    (listed_alike p.settings q.settings s.across s.down s.bins s.min s.max q.pixels (length q.scratch) (length q.list))
    ∙ sym (byte_rows_lem q.width q.height q.pixels q.settings (length q.map) (length q.scratch) (length q.list))))

pub enhance_number : {e f : EnhanceCall} → EnhancesAlike e f
    → first (enhance_rows e.width e.height e.pixels e.settings (length e.map) (length e.scratch))
    ≡ first (enhance_rows f.width f.height f.pixels f.settings (length f.map) (length f.scratch))
enhance_number {e} {f} a =
    let s = a.settings in
    rw (a.width, a.height, a.pixels, a.map, a.scratch)
    (ap first (over_alike e.settings f.settings s.across s.down s.bins s.min s.max (a.fair.this ∙ sym a.fair.that) f.width f.height f.pixels (length f.map) (length f.scratch)))

pub enhance_bytes_number : {e f : EnhanceCall} → EnhancesAlike e f → e.settings.edition ≡ f.settings.edition
    → first (byte_enhance_rows e.width e.height e.pixels e.settings (length e.map) (length e.scratch))
    ≡ first (byte_enhance_rows f.width f.height f.pixels f.settings (length f.map) (length f.scratch))
enhance_bytes_number {e} {f} a edition =
    let s = a.settings in
    rw (a.width, a.height, a.pixels, a.map, a.scratch)
    (sym (rows_enough f.width f.height f.pixels e.settings (length f.map) (length f.scratch))
    ∙ ap first
    (byte_rows_lem f.width f.height f.pixels e.settings (length f.map) (length f.scratch) 128
    ∙ ap₂ (λ b c. b ++ c)
    (byte_alike e.settings f.settings s.across s.down s.bins s.min s.max edition (a.fair.this ∙ sym a.fair.that) f.width f.height (length f.pixels) (length f.map))
    (listed_alike e.settings f.settings s.across s.down s.bins s.min s.max f.pixels (length f.scratch) 128)
    ∙ sym (byte_rows_lem f.width f.height f.pixels f.settings (length f.map) (length f.scratch) 128))
    ∙ rows_enough f.width f.height f.pixels f.settings (length f.map) (length f.scratch))

pub map_number : {d e : MapCall} → MapsAlike d e
    → first (map_rows_of d.width d.height d.settings d.counts (length d.map) (length d.scratch) (length d.list))
    ≡ first (map_rows_of e.width e.height e.settings e.counts (length e.map) (length e.scratch) (length e.list))
map_number {d} {e} a =
    let s = a.settings in
    rw (a.width, a.height, a.counts, a.map, a.scratch, a.list)
    (ap first (map_alike d.settings e.settings s.across s.down s.bins s.min s.max (a.fair.this ∙ sym a.fair.that) e.width e.height e.counts (length e.map) (length e.scratch) (length e.list)))

pub draw_number : {d f : DrawCall} {c c' : Clip} → DrawsAlike d f c c'
    → first (draw_rows f.film f.width f.height f.pixels f.settings f.kept f.window f.map (length f.out))
    ≡ first (draw_rows d.film d.width d.height d.pixels d.settings d.kept d.window d.map (length d.out))
draw_number {d} {f} {c} {c'} a =
    rw (a.film, a.width, a.height, a.pixels, a.settings, a.kept, a.window, a.map, a.out)
    (ap first
    (rows_alike d.film d.width d.height d.pixels d.settings d.kept d.window d.map (length d.out) c c' (a.fair' ∙ sym a.fair) a.one (a.same' ∙ sym a.same)))

pub draw_bytes_number : {d f : DrawCall} {c c' : Clip} → DrawsAlike d f c c'
    → first (byte_draw_rows f.film f.width f.height f.pixels f.settings f.kept f.window f.map (length f.out))
    ≡ first (byte_draw_rows d.film d.width d.height d.pixels d.settings d.kept d.window d.map (length d.out))
draw_bytes_number {d} {f} {c} {c'} a =
    rw (a.film, a.width, a.height, a.pixels, a.settings, a.kept, a.window, a.map, a.out) (same (first (profile_rows d.settings)) refl)
  where
    bins : bins_of (reclipped d.settings c) ≡ bins_of d.settings
    bins = bins_alike (reclipped d.settings c) d.settings refl

    profile : profile_rows (reclipped d.settings c) ≡ profile_rows d.settings
    profile = profile_alike (reclipped d.settings c) d.settings refl refl bins refl refl refl

    same : (m : ℕ) → first (profile_rows d.settings) ≡ m
        → first (byte_draw_rows d.film d.width d.height d.pixels (reclipped d.settings c) (reclipped_record d.kept c') d.window d.map (length d.out))
        ≡ first (byte_draw_rows d.film d.width d.height d.pixels d.settings d.kept d.window d.map (length d.out))
    same zero z =
        draw_rows_inside d.film d.width d.height d.pixels (reclipped d.settings c) (reclipped_record d.kept c') d.window d.map d.out (ap first profile ∙ z)
        ∙ ap first
        (rows_alike d.film d.width d.height d.pixels d.settings d.kept d.window d.map (length d.out) c c' (a.fair' ∙ sym a.fair) a.one (a.same' ∙ sym a.same))
        ∙ sym (draw_rows_inside d.film d.width d.height d.pixels d.settings d.kept d.window d.map d.out z)
    same (suc m) z =
        draw_outside d.film d.width d.height d.pixels (reclipped d.settings c) (reclipped_record d.kept c') d.window d.map (length d.out)
        (λ q. omega (arith, sym (ap first profile) ∙ q, z))
        ∙ ap (λ rows. cond (eqb (first rows) 0) 30 (first rows))
        (setting_alike (reclipped d.settings c) d.settings refl refl bins refl refl (a.fair' ∙ sym a.fair) d.width d.height (length d.pixels))
        ∙ sym (draw_outside d.film d.width d.height d.pixels d.settings d.kept d.window d.map (length d.out) (λ q. omega (arith, q, z)))
