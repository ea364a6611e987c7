-- Order 1, byte films: 30 outside the profile, 13 and 18 never; "Widening the film, running the present rules and narrowing again must give the same picture and mappings"; and what either prepare left serves
-- either draw.
-- Promises alone: of every run of the calls by their contracts (Runs), each listed in docs/PROMISES.md. A name with ' is lent memory at the end.
-- Assumes nothing.
use Prim.Native.Nat.{ℕ, ◌+◌, ◌*◌, ◌<◌}
use mathlib.Core.Bool.{cond, true, false}
use mathlib.Core.Logic.{◌≢◌, inl, inr}
use mathlib.Core.Path.{◌≡◌, sym, ap, ◌∙◌, refl}
use lib.Dec.{eqb}
use lib.ListN.{length, get_or}
use mathlib.Core.List.{List}
use native.Mathlib.Nat.{le_of_eq}
use Rattle.base_rows.specs.Refuse.{first, refused, accepted}
use Rattle.base_rows.proofs.Told.{told_same}
use Rattle.film_settings.specs.Settings.{setting_rows, clip_one_of}
use Rattle.film_prepare.specs.Prepare.{PrepareOut, EnhanceOut, prepare_leaves, prepare_of, enhance_leaves, enhance_of}
use Rattle.film_draw.specs.Draw.{DrawOut, draw_leaves, draw_of}
use Rattle.byte_profile.specs.Profile.{profile_rows}
use Rattle.byte_profile.proofs.Greys.{byte_at}
use Rattle.byte_prepare.proofs.Tables.{rows_enough}
use Rattle.byte_prepare.proofs.Parts.{bytes_never_13, bytes_outside}
use Rattle.byte_draw.proofs.Parts.{draw_never_13_18, draw_outside}
use Rattle.promise_films.proofs.Accepted.{says_refused, refused_says}
use Rattle.promise_films.proofs.Runs.{PrepareCall, EnhanceCall, DrawCall, Prepares, prepare_ends, Enhances, enhance_ends, Draws, draw_ends}
use Rattle.promise_bytes.proofs.Inside.{draw_inside}
use Rattle.promise_bytes.proofs.Runs.{PreparesBytes, prepare_bytes_ends, prepare_bytes_picture, EnhancesBytes, enhance_bytes_ends, enhance_bytes_picture, DrawsBytes, draw_bytes_ends, draw_bytes_lent}
use Rattle.base_lists.specs.Lists.{all}
use Rattle.byte_narrow.specs.Narrow.{is_byte}
use Rattle.byte_profile.proofs.Profile.{profile}
use Rattle.byte_prepare.proofs.Endings.{prepare_inside, enhance_inside}
use Rattle.promise_bytes.proofs.Left.{prepare_leaves_bytes, enhance_leaves_bytes, draw_leaves_bytes}
use Rattle.film_settings.specs.declared.MapRecord.{MapRecord}
use Rattle.film_settings.specs.declared.Footer.{Footer}
use Rattle.pixel_rule.specs.Rule.{rule_grey}
use Rattle.promise_films.proofs.Ways.{Refuses, drawn_grey}
use Rattle.promise_films.proofs.Demand2.{draw_other_film_refused}
use Rattle.promise_films.proofs.Made.{Made, made_film, handed_done, EnhancesSame, shown_by_rule, shown_as_film, shown_as_enhanced, prepare_made}
use Rattle.promise_bytes.proofs.Demand1.{draw_bytes_says, prepare_bytes_says, enhance_bytes_says}
use Rattle.promise_bytes.proofs.Wide.{Narrowed, widened_same, narrowed_same, PrepareOver, EnhanceOver, DrawOver}
use Rattle.promise_bytes.proofs.Demand2.{draw_bytes_other_film_refused}
use Rattle.promise_bytes.proofs.Either.{PreparesEither, DrawsEither, EnhancesEither, Inside, kept_inside, either_shown, accepted_shown, either_rendered, HandedEither, DrawnFromEither}
use Rattle.promise_bytes.proofs.Ended.{prepare_bytes_made}
use Rattle.promise_films.proofs.Told.{prepared_told}

-- ---- outside the profile: 30, where none of 1 to 10 applies

-- prepare on bytes
pub prepare_bytes_thirty : {p : PrepareCall} → PreparesBytes p → first (profile_rows p.settings) ≢ 0 → first (setting_rows p.width p.height (length p.pixels) p.settings) ≡ 0
    → p.answer ≡ refused 30
prepare_bytes_thirty {p} ran outside fair =
    prepare_bytes_says ran
    ∙ refused_says _ _ {k = 29}
    (bytes_outside p.width p.height p.pixels p.settings (length p.map) (length p.scratch) (length p.list) outside ∙ ap (λ n. cond (eqb n 0) 30 n) fair)

-- enhance on bytes
pub enhance_bytes_thirty : {e : EnhanceCall} → EnhancesBytes e → first (profile_rows e.settings) ≢ 0 → first (setting_rows e.width e.height (length e.pixels) e.settings) ≡ 0
    → e.answer ≡ refused 30
enhance_bytes_thirty {e} ran outside fair =
    enhance_bytes_says ran
    ∙ refused_says _ _ {k = 29}
    (sym (rows_enough e.width e.height e.pixels e.settings (length e.map) (length e.scratch)) ∙ bytes_outside e.width e.height e.pixels e.settings (length e.map) (length e.scratch) 128 outside ∙ ap (λ n. cond (eqb n 0) 30 n) fair)

-- draw on bytes
pub draw_bytes_thirty : {d : DrawCall} → DrawsBytes d → first (profile_rows d.settings) ≢ 0 → first (setting_rows d.width d.height (length d.pixels) d.settings) ≡ 0
    → d.answer ≡ refused 30
draw_bytes_thirty {d} ran outside fair =
    draw_bytes_says ran
    ∙ refused_says _ _ {k = 29}
    (draw_outside d.film d.width d.height d.pixels d.settings d.kept d.window d.map (length d.out) outside ∙ ap (λ n. cond (eqb n 0) 30 n) fair)

-- ---- 13 and 18 are never given: bytes lie in 0 to 255

-- prepare never gives 13
pub prepare_bytes_never_13 : {p : PrepareCall} → PreparesBytes p → p.answer ≢ refused 13
prepare_bytes_never_13 {p} ran q =
    bytes_never_13 p.width p.height p.pixels p.settings (length p.map) (length p.scratch) (length p.list) (prepare_bytes_picture ran) (says_refused _ _ (sym (prepare_bytes_says ran) ∙ q))

-- nor does enhance
pub enhance_bytes_never_13 : {e : EnhanceCall} → EnhancesBytes e → e.answer ≢ refused 13
enhance_bytes_never_13 {e} ran q =
    bytes_never_13 e.width e.height e.pixels e.settings (length e.map) (length e.scratch) 128 (enhance_bytes_picture ran)
    (rows_enough e.width e.height e.pixels e.settings (length e.map) (length e.scratch) ∙ says_refused _ _ (sym (enhance_bytes_says ran) ∙ q))

-- nor draw, which never gives 18 either
pub draw_bytes_never_13_18 : {d : DrawCall} → DrawsBytes d → (d.answer ≢ refused 13) × (d.answer ≢ refused 18)
draw_bytes_never_13_18 {d} ran =
    let (bytes, entries) = draw_bytes_lent ran in
    let never = draw_never_13_18 d.film d.width d.height d.pixels d.settings d.kept d.window d.map (length d.out) (byte_at d.pixels bytes) (byte_at d.map entries) in
    ((λ q. never.0 (says_refused _ _ (sym (draw_bytes_says ran) ∙ q))), (λ q. never.1 (says_refused _ _ (sym (draw_bytes_says ran) ∙ q))))

-- ---- widened, run and narrowed again

-- the same answer, scratch and list, and the map buffer narrowed again is the byte call's. `run.answer` is what the call itself answers, and `answer` what that says
pub widened_prepare : {b p : PrepareCall} {map'' : List ℕ} (ran : PreparesBytes b) (wide : Prepares p) → first (profile_rows b.settings) ≡ 0 → PrepareOver b p → Narrowed p.map' map''
    → (ran.run.answer ≡ wide.run.answer) × (b.answer ≡ p.answer) × (b.map' ≡ map'') × (b.scratch' ≡ p.scratch') × (b.list' ≡ p.list')
widened_prepare {b} {p} ran wide inside way back =
    let x : prepare_leaves p.answer p.map' p.scratch' p.list' ≡ prepare_of p.film p.width p.height p.pixels p.settings p.map p.scratch p.list = prepare_ends wide in
    let e : prepare_leaves b.answer b.map' b.scratch' b.list' ≡ prepare_leaves p.answer p.map' p.scratch' p.list' =
    prepare_bytes_ends ran
    ∙ prepare_inside b.film b.width b.height b.pixels b.settings b.map b.scratch b.list inside
    ∙ sym (x ∙ rw (way.film, way.width, way.height, way.settings, way.scratch, way.list, widened_same way.pixels, widened_same way.map) refl) in
    let a = ap (λ (z : PrepareOut). z.answer) e in
    (prepared_told (ap (λ (z : PrepareCall). z.answer) ran.named) (ap (λ (z : PrepareCall). z.answer) wide.named) a, a, ap (λ (z : PrepareOut). z.map) e ∙ sym (narrowed_same back), ap (λ (z : PrepareOut). z.scratch) e, ap (λ (z : PrepareOut). z.list) e)

-- and what narrow asks of the map buffer is met, where film and map buffer were bytes
pub prepare_narrow_met : {b p : PrepareCall} → Prepares p → first (profile_rows b.settings) ≡ 0 → PrepareOver b p → all is_byte b.pixels ≡ true → all is_byte b.map ≡ true
    → all is_byte p.map' ≡ true
prepare_narrow_met {b} {p} wide inside way bytes entries =
    ap (λ (z : PrepareOut). all is_byte z.map) (prepare_ends wide)
    ∙ rw (way.width, way.height, way.settings, way.scratch, widened_same way.pixels, widened_same way.map)
    (prepare_leaves_bytes b.width b.height b.pixels b.settings b.map b.scratch (le_of_eq (profile b.settings inside).max) bytes entries p.film p.list)

-- the same answer and scratch, and picture and map buffer narrowed again are the byte call's
pub widened_enhance : {b e : EnhanceCall} {pixels'' map'' : List ℕ} (ran : EnhancesBytes b) (wide : Enhances e) → first (profile_rows b.settings) ≡ 0 → EnhanceOver b e
    → Narrowed e.pixels' pixels'' → Narrowed e.map' map''
    → (ran.run.answer ≡ wide.run.answer) × (b.answer ≡ e.answer) × (b.pixels' ≡ pixels'') × (b.map' ≡ map'') × (b.scratch' ≡ e.scratch')
widened_enhance {b} {e} ran wide inside way picture back =
    let x : enhance_leaves e.answer e.pixels' e.map' e.scratch' ≡ enhance_of e.width e.height e.pixels e.settings e.map e.scratch = enhance_ends wide in
    let k : enhance_leaves b.answer b.pixels' b.map' b.scratch' ≡ enhance_leaves e.answer e.pixels' e.map' e.scratch' =
    enhance_bytes_ends ran
    ∙ enhance_inside b.width b.height b.pixels b.settings b.map b.scratch inside
    ∙ sym (x ∙ rw (way.width, way.height, way.settings, way.scratch, widened_same way.pixels, widened_same way.map) refl) in
    let a = ap (λ (z : EnhanceOut). z.answer) k in
    (told_same (ap (λ (z : EnhanceCall). z.answer) ran.named) (ap (λ (z : EnhanceCall). z.answer) wide.named) a, a, ap (λ (z : EnhanceOut). z.picture) k ∙ sym (narrowed_same picture), ap (λ (z : EnhanceOut). z.map) k ∙ sym (narrowed_same back), ap (λ (z : EnhanceOut). z.scratch) k)

-- and what narrow asks of picture and map buffer is met
pub enhance_narrow_met : {b e : EnhanceCall} → Enhances e → first (profile_rows b.settings) ≡ 0 → EnhanceOver b e → all is_byte b.pixels ≡ true → all is_byte b.map ≡ true
    → (all is_byte e.pixels' ≡ true) × (all is_byte e.map' ≡ true)
enhance_narrow_met {b} {e} wide inside way bytes entries =
    let x : enhance_leaves e.answer e.pixels' e.map' e.scratch' ≡ enhance_of b.width b.height b.pixels b.settings b.map b.scratch =
    enhance_ends wide ∙ rw (way.width, way.height, way.settings, way.scratch, widened_same way.pixels, widened_same way.map) refl in
    let left = enhance_leaves_bytes b.width b.height b.pixels b.settings b.map b.scratch (le_of_eq (profile b.settings inside).max) bytes entries in
    (ap (λ (z : EnhanceOut). all is_byte z.picture) x ∙ left.0, ap (λ (z : EnhanceOut). all is_byte z.map) x ∙ left.1)

-- the same answer, and the output narrowed again is the byte call's
pub widened_draw : {b d : DrawCall} {out'' : List ℕ} (ran : DrawsBytes b) (wide : Draws d) → first (profile_rows b.settings) ≡ 0 → DrawOver b d → Narrowed d.out' out''
    → (ran.run.answer ≡ wide.run.answer) × (b.answer ≡ d.answer) × (b.out' ≡ out'')
widened_draw {b} {d} ran wide inside way back =
    let x : draw_leaves d.answer d.out' ≡ draw_of d.film d.width d.height d.pixels d.settings d.kept d.window d.map d.out = draw_ends wide in
    let e : draw_leaves b.answer b.out' ≡ draw_leaves d.answer d.out' =
    draw_bytes_ends ran
    ∙ draw_inside b.film b.width b.height b.pixels b.settings b.kept b.window b.map b.out inside
    ∙ sym (x ∙ rw (way.film, way.width, way.height, way.settings, way.kept, way.window, widened_same way.pixels, widened_same way.map, widened_same way.out) refl) in
    let a = ap (λ (z : DrawOut). z.answer) e in
    (told_same (ap (λ (z : DrawCall). z.answer) ran.named) (ap (λ (z : DrawCall). z.answer) wide.named) a, a, ap (λ (z : DrawOut). z.out) e ∙ sym (narrowed_same back))

-- and what narrow asks of the output is met
pub draw_narrow_met : {b d : DrawCall} → Draws d → first (profile_rows b.settings) ≡ 0 → DrawOver b d → all is_byte b.out ≡ true → all is_byte d.out' ≡ true
draw_narrow_met {b} {d} wide inside way bytes =
    ap (λ (z : DrawOut). all is_byte z.out) (draw_ends wide)
    ∙ rw (way.film, way.width, way.height, way.settings, way.kept, way.window, widened_same way.pixels, widened_same way.map, widened_same way.out)
    (draw_leaves_bytes b.film b.width b.height b.pixels b.settings b.kept b.window b.map b.out (le_of_eq (profile b.settings inside).max) bytes)

-- ---- either prepare, either draw, either enhance

-- what either prepare left of a film that it accepted
pub either_made : {p : PrepareCall} {r : MapRecord} {foot : Footer} → PreparesEither p → p.answer ≡ accepted (r, foot)
    → Made p.film p.width p.height p.pixels p.settings r foot p.map'
either_made (inl ran) done = prepare_made ran done
either_made (inr ran) done = prepare_bytes_made ran done

-- is drawn
pub either_done : {p : PrepareCall} {foot : Footer} {d : DrawCall} → HandedEither p foot d → d.answer ≡ accepted tt
either_done {p} {foot} {d} x =
    handed_done (either_made x.prepares x.prepared) (either_shown x.draws (kept_inside p.settings d.settings x.handed.rest.like x.inside)) x.handed

-- so all that follows is said of what was handed on
pub either_drawn : {p : PrepareCall} {foot : Footer} {d : DrawCall} → HandedEither p foot d → DrawnFromEither p foot d
either_drawn x =
    record { prepares = x.prepares; prepared = x.prepared; draws = x.draws; drawn = either_done x; pixels = x.handed.pixels; mappings = x.handed.rest.front }

module _ {p : PrepareCall} {foot : Footer} {d : DrawCall} (from : DrawnFromEither p foot d) where
  -- demand 2: each drawn pixel is the rule's
  pub either_by_rule : clip_one_of p.settings.clip ≡ false → (j i : ℕ) → j < d.window.height → i < d.window.width
      → drawn_grey d i j ≡ rule_grey p.width p.height p.pixels p.settings (d.window.left + i) (d.window.top + j)
  either_by_rule = shown_by_rule (either_made from.prepares from.prepared) (accepted_shown from.draws from.drawn) from.drawn from.pixels from.mappings

  -- at the factor 1.0 the film's own pixels
  pub either_as_film : clip_one_of p.settings.clip ≡ true → (j i : ℕ) → j < d.window.height → i < d.window.width
      → drawn_grey d i j ≡ get_or p.pixels ((d.window.top + j) * p.width + (d.window.left + i)) 0
  either_as_film = shown_as_film (either_made from.prepares from.prepared) (accepted_shown from.draws from.drawn) from.drawn from.pixels from.mappings

  -- and the one in the picture of either enhance, which renders the same film with the same footer, where the settings are inside the profile
  pub either_as_enhanced : {e : EnhanceCall} → EnhancesEither e → Inside p.settings → EnhancesSame p.width p.height p.pixels p.settings e
      → (e.answer ≡ accepted foot)
      × ((j i : ℕ) → j < d.window.height → i < d.window.width → drawn_grey d i j ≡ get_or e.pixels' ((d.window.top + j) * p.width + (d.window.left + i)) 0)
  either_as_enhanced {e} ran inside too = shown_as_enhanced (either_made from.prepares from.prepared) (accepted_shown from.draws from.drawn) from.drawn from.pixels from.mappings (either_rendered ran (kept_inside p.settings e.settings too.like inside)) too

-- "A window drawn with the record of a film of another number is refused.": either draw, handed what either prepare answered and another film's number, whatever else
pub either_other_film : {p : PrepareCall} {r : MapRecord} {foot : Footer} {d : DrawCall} → PreparesEither p → p.answer ≡ accepted (r, foot) → DrawsEither d
    → d.kept ≡ r → d.film ≢ p.film → Refuses d
either_other_film {p} {r} {foot} {d} prepares prepared draws same other = go draws
  where
    differs : d.film ≢ d.kept.film
    differs e = other (e ∙ ap (λ (z : MapRecord). z.film) same ∙ made_film (either_made prepares prepared))

    go : DrawsEither d → Refuses d
    go (inl ran) = draw_other_film_refused ran differs
    go (inr ran) = draw_bytes_other_film_refused ran differs
