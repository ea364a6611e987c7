-- What a call beneath gave is handed on: one law for each answer of each call; and a record that was handed out and is handed back is the same.
-- Assumes nothing.
use Prim.Native.Nat.{ℕ, zero, suc, ◌-◌, ◌≤◌}
use mathlib.Core.List.{List, [], ◌∷◌}
use mathlib.Core.Path.{◌≡◌, refl, sym, ap, ap₂, ◌∙◌}
use native.Mathlib.Omega.{arith}
use lib.Ieee.{Float}
use lib.ListN.{length, length-drop}
use Rattle.std.proofs.Common.{Result, Ok, Err}
use Rattle.base_rows.specs.declared.Refusal.{Refusal}
use Rattle.base_rows.specs.Refuse.{Says, accepted, refused}
use Rattle.base_rows.specs.Given.{number_of, said}
use Rattle.tile_limit.specs.declared.Clip.{Clip}
use Rattle.tile_limit.specs.declared.Clip.TheVariants.{Off, Factor}
use Rattle.tile_limit.specs.declared.Edition.{Edition}
use Rattle.tile_limit.specs.declared.Edition.TheVariants.{Ours, Of1986}
use Rattle.film_settings.specs.declared.MapRecord.{MapRecord}
use Rattle.film_settings.specs.declared.Footer.{Footer}
use Rattle.film_prepare.specs.declared.Prepared.{Prepared}
use Rattle.film_prepare.specs.Prepare.{prepared_says, PrepareOut, EnhanceOut, prepare_leaves, enhance_leaves}
use Rattle.film_draw.specs.Draw.{DrawOut, draw_leaves}
use Rattle.pgm_header.specs.Header.{Head}
use Rattle.pgm_read.specs.declared.Sizes.{Sizes}
use Rattle.pgm_read.specs.Pgm.{read_of, sizes_of, raster_of, sizes_says}
use Rattle.pgm_greys.specs.Greys.{GreysOut, greys_leave}
use Rattle.pgm_write.specs.Write.{WriteOut, write_leaves}
use Rattle.pgm_read.proofs.Tables.{read_within}
use Rattle.c_flat.specs.Flat.{returned, clip_from_of, clip_number_of, clip_factor_of, edition_from_of, edition_number_of, record_numbers, Axes, axes_after, record_from_of}
use Rattle.c_flat.specs.Films.{Foot, foot_after, Cells, cells_from, cells_after, prepared_as, flat_prepared, enhanced_as, flat_enhanced, drawn_as, flat_drawn}
use Rattle.c_flat.specs.Files.{answered, flat_sizes, flat_raster, flat_greys, written_as, flat_written}

-- a number that is not 0 carries the factor
pub clip_some : (n : ℕ) (f : Float) → (n ≡ 0 → ⊥) → Factor f ≡ clip_from_of n f
clip_some zero f h = absurd (h refl)
clip_some (suc n) f h = refl

-- and is the edition of 1986
pub edition_some : (n : ℕ) → (n ≡ 0 → ⊥) → Of1986 ≡ edition_from_of n
edition_some zero h = absurd (h refl)
edition_some (suc n) h = refl

-- ---- films

-- what prepare leaves and what was handed out are what the call for C leaves
pub prepared_handed : {p : Says (MapRecord × Footer)} {m t list : List ℕ} (e : PrepareOut) (old : Cells) {n : ℕ} {cells : Cells} → prepare_leaves p m t list ≡ e
    → (n ≡ returned p) × (cells ≡ cells_after p old) → prepared_as n m t list cells ≡ flat_prepared e old
unfolding flat_prepared
prepared_handed e old q h = rw (← q, h.0, h.1) refl

pub enhanced_done : {a : Result Footer Refusal} {pic m t : List ℕ} (o : EnhanceOut) (foot : Foot) {f : Footer} {y : Foot}
    → enhance_leaves (said a) pic m t ≡ o → a ≡ Ok f → y ≡ foot_after f → enhanced_as 0 pic m t y ≡ flat_enhanced o foot
unfolding flat_enhanced
enhanced_done o foot p q y = rw (← p, q, y) refl

pub enhanced_refused : {a : Result Footer Refusal} {pic m t : List ℕ} (o : EnhanceOut) (foot : Foot) {r : Refusal} {n : ℕ}
    → enhance_leaves (said a) pic m t ≡ o → a ≡ Err r → n ≡ number_of r → enhanced_as n pic m t foot ≡ flat_enhanced o foot
unfolding flat_enhanced
enhanced_refused o foot p q n = rw (← p, q, n) refl

pub drawn_handed : {a : Says (Unit {0})} {out : List ℕ} (s : DrawOut) {n : ℕ} → draw_leaves a out ≡ s → n ≡ returned a → drawn_as n out ≡ flat_drawn s
unfolding flat_drawn
drawn_handed s p q = rw (← p, q) refl

-- ---- files

pub sizes_found : {a : Result Sizes Refusal} (z : Says (ℕ × ℕ × ℕ)) (old : List ℕ) {v : Sizes} → sizes_says a ≡ z → a ≡ Ok v
    → answered 0 (v.width ∷ v.height ∷ v.maxval ∷ []) ≡ flat_sizes z old
unfolding flat_sizes sizes_says
sizes_found z old p q = rw (← p, q) refl

pub sizes_refused : {a : Result Sizes Refusal} (z : Says (ℕ × ℕ × ℕ)) (old : List ℕ) {r : Refusal} {n : ℕ} → sizes_says a ≡ z → a ≡ Err r → n ≡ number_of r
    → answered n old ≡ flat_sizes z old
unfolding flat_sizes sizes_says
sizes_refused z old p q n = rw (← p, q, n) refl

-- values are no refusal
accepted_no : {A : Type 0} (v : A) (n : ℕ) → ◌≡◌ {A = Says A} (accepted v) (refused n) → ⊥
accepted_no v n h = let z : ◌≡◌ {A = ℕ} 0 1 = cc in absurd (omega arith)

-- what was found is of a header that was found
sizes_head : {a : Result Sizes Refusal} {v : Sizes} {n : ℕ} → sizes_says a ≡ refused n → a ≡ Ok v → ⊥
unfolding sizes_says
sizes_head {a} {v} {n} p q = accepted_no (v.width, v.height, v.maxval) n (ap sizes_says (sym q) ∙ p)

-- the raster's length is what stands behind its start
pub raster_size : (hd : Head) (s : List ℕ) {a : Result Sizes Refusal} {v : Sizes} {part : List ℕ} → sizes_says a ≡ sizes_of hd → a ≡ Ok v
    → part ≡ raster_of hd s → length part ≤ length s
raster_size (Head.Found x y z at) s p q e = rw (e, length-drop) (omega arith)
raster_size (Head.Refused k) s p q e = absurd (sizes_head p q)

pub raster_found : (hd : Head) (s old : List ℕ) {a : Result Sizes Refusal} {v : Sizes} {part : List ℕ} → hd ≡ read_of s → sizes_says a ≡ sizes_of hd → a ≡ Ok v
    → part ≡ raster_of hd s → answered 0 ((length s - length part) ∷ length part ∷ []) ≡ flat_raster hd (length s) old
unfolding flat_raster
raster_found (Head.Found x y z at) s old d p q e =
    let l : at ≤ length s = read_within s (sym d) in
    let k : length s - (length s - at) ≡ at = omega arith in
    rw (e, length-drop, k) refl
raster_found (Head.Refused k) s old d p q e = absurd (sizes_head p q)

pub raster_refused : (hd : Head) (size : ℕ) (old : List ℕ) {a : Result Sizes Refusal} {r : Refusal} {n : ℕ} → sizes_says a ≡ sizes_of hd → a ≡ Err r → n ≡ number_of r
    → answered n old ≡ flat_raster hd size old
unfolding flat_raster sizes_says
raster_refused (Head.Found x y z at) size old {a} {r} p q n = absurd (accepted_no (x, y, z) (number_of r) (sym p ∙ ap sizes_says q))
raster_refused (Head.Refused k) size old {a} {r} p q n =
    let h : sizes_says (Err r) ≡ refused k = ap sizes_says (sym q) ∙ p in
    let e : number_of r ≡ k = ap returned h in
    rw (n, e) refl

pub greys_handed : {a : Says (Unit {0})} {t : List ℕ} (g : GreysOut) {n : ℕ} → greys_leave a t ≡ g → n ≡ returned a → answered n t ≡ flat_greys g
unfolding flat_greys
greys_handed g p q = rw (← p, q) refl

pub written_bytes : {a : Result ℕ Refusal} {out : List ℕ} (w : WriteOut) (old : ℕ) {n : ℕ} → write_leaves (said a) out ≡ w → a ≡ Ok n → written_as 0 out n ≡ flat_written w old
unfolding flat_written
written_bytes w old p q = rw (← p, q) refl

pub written_refused : {a : Result ℕ Refusal} {out : List ℕ} (w : WriteOut) (old : ℕ) {r : Refusal} {n : ℕ} → write_leaves (said a) out ≡ w → a ≡ Err r → n ≡ number_of r
    → written_as n out old ≡ flat_written w old
unfolding flat_written
written_refused w old p q n = rw (← p, q, n) refl

-- ---- a record handed out and handed back

-- the clip setting's number and factor give it back
clip_back : (clip : Clip) → clip_from_of (clip_number_of clip) (clip_factor_of clip) ≡ clip
clip_back Off = refl
clip_back (Factor f) = refl

-- and so does the edition's number
edition_back : (e : Edition) → edition_from_of (edition_number_of e) ≡ e
edition_back Ours = refl
edition_back Of1986 = refl

-- a record is ten numbers, its factor, and its edges and centres: those that tz_prepare hands out are read by tz_draw as the same record
pub record_back : (r : MapRecord) → record_from_of (record_numbers r) (clip_factor_of r.settings.clip) (axes_after r) ≡ r
record_back r =
    ap₂ (λ c e. record {
      film = r.film;
      width = r.width;
      height = r.height;
      settings =
          record {
            across = r.settings.across;
            down = r.settings.down;
            bins = r.settings.bins;
            min = r.settings.min;
            max = r.settings.max;
            clip = c;
            edition = e;
          };
      columns = r.columns;
      rows = r.rows;
    }) (clip_back r.settings.clip) (edition_back r.settings.edition)
