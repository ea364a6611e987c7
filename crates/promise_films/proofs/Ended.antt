-- How a call ended: as prepare, enhance or draw does, whichever call it is (the wide one, the one on bytes inside the profile, mapping of what counting left).
-- What follows from that outcome is said once, of these (Made, Whole, Looks, Fitted); each call supplies its own line (prepare-ends, prepare-bytes-as-wide, mapped-ends).
-- A name with ' is lent memory at the end.
-- Assumes nothing.
use mathlib.Core.Path.{◌≡◌, sym, ap, ◌∙◌}
use Rattle.base_rows.specs.Refuse.{accepted}
use Rattle.film_settings.specs.declared.MapRecord.{MapRecord}
use Rattle.film_settings.specs.declared.Footer.{Footer}
use Rattle.film_prepare.specs.Prepare.{PrepareOut, prepare_leaves, prepare_of, EnhanceOut, enhance_leaves, enhance_of}
use Rattle.film_draw.specs.Draw.{draw_leaves, draw_of}
use Rattle.promise_films.proofs.Runs.{PrepareCall, Prepares, prepare_ends, EnhanceCall, Enhances, enhance_ends, DrawCall, Draws, draw_ends}

-- ---- prepare

-- prepare ended with these values; so does prepare on bytes, where the settings are inside the profile, and mapping of what counting left
abbrev pub Ended : PrepareCall → Type 0
Ended p =
    prepare_leaves p.answer p.map' p.scratch' p.list' ≡ prepare_of p.film p.width p.height p.pixels p.settings p.map p.scratch p.list

-- so that outcome says what the answer does
pub ended_accepted : (p : PrepareCall) {v : MapRecord × Footer} → Ended p → p.answer ≡ accepted v
    → (prepare_of p.film p.width p.height p.pixels p.settings p.map p.scratch p.list).answer ≡ accepted v
ended_accepted p ends e = sym (ap (λ (y : PrepareOut). y.answer) ends) ∙ e

-- of prepare itself
pub prepare_accepted : {p : PrepareCall} {v : MapRecord × Footer} → Prepares p → p.answer ≡ accepted v
    → (prepare_of p.film p.width p.height p.pixels p.settings p.map p.scratch p.list).answer ≡ accepted v
prepare_accepted {p} ran e = ended_accepted p (prepare_ends ran) e

-- ---- enhance

-- enhance ended with these values; so does enhance on bytes, where the settings are inside the profile
abbrev pub Rendered : EnhanceCall → Type 0
Rendered e =
    enhance_leaves e.answer e.pixels' e.map' e.scratch' ≡ enhance_of e.width e.height e.pixels e.settings e.map e.scratch

-- so that outcome says what the answer does
pub rendered_accepted : (e : EnhanceCall) {foot : Footer} → Rendered e → e.answer ≡ accepted foot
    → (enhance_of e.width e.height e.pixels e.settings e.map e.scratch).answer ≡ accepted foot
rendered_accepted e ends q = sym (ap (λ (y : EnhanceOut). y.answer) ends) ∙ q

-- of enhance itself
pub enhance_accepted : {e : EnhanceCall} {foot : Footer} → Enhances e → e.answer ≡ accepted foot
    → (enhance_of e.width e.height e.pixels e.settings e.map e.scratch).answer ≡ accepted foot
enhance_accepted {e} ran q = rendered_accepted e (enhance_ends ran) q

-- ---- draw

-- a call to draw ended with these values; so does one to draw on bytes, where the settings are inside the profile
pub record Shown (d : DrawCall) : Type 0 where
  pub ends : draw_leaves d.answer d.out' ≡ draw_of d.film d.width d.height d.pixels d.settings d.kept d.window d.map d.out

-- every run of draw does
pub draw_shown : {d : DrawCall} → Draws d → Shown d
draw_shown draws = record { ends = draw_ends draws }
