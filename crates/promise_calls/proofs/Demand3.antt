-- Demand 3 and order 2, of all calls that render: whether a call is refused, and with which number, does not hang on the factor, but for 10; and the factor used is never below 1.0, where the factor is above one.
-- Promises alone: of every run of the calls by their contracts (Runs), each listed in docs/PROMISES.md. A name with ' is lent memory at the end.
-- Assumes nothing.
use Prim.Native.Nat.{ℕ}
use mathlib.Core.Path.{◌≡◌, sym, ◌∙◌}
use lib.Ieee.{Float}
use Rattle.base_rows.specs.Refuse.{refused, accepted}
use Rattle.tile_limit.specs.declared.Clip.{Clip}
use Rattle.promise_films.proofs.Demand1.{prepare_says, enhance_says, draw_says}
use Rattle.promise_films.proofs.Runs.{PrepareCall, Prepares, EnhanceCall, Enhances, DrawCall, Draws, enhance_ends}
use Rattle.promise_bytes.proofs.Runs.{PreparesBytes, EnhancesBytes, DrawsBytes}
use Rattle.promise_bytes.proofs.Demand1.{prepare_bytes_says, enhance_bytes_says, draw_bytes_says}
use Rattle.promise_counts.proofs.Runs.{MapCall, Maps}
use Rattle.promise_counts.proofs.Order5.{map_says}
use Rattle.film_settings.specs.declared.MapRecord.{MapRecord}
use Rattle.film_settings.specs.declared.Footer.{Footer}
use Rattle.promise_films.specs.Films.{ClippingOn}
use Rattle.promise_counts.proofs.Tables.{mapped_asks}
use Rattle.promise_counts.proofs.Demand3.{mapped_footer_any}
use Rattle.promise_calls.specs.Calls.{NotBelowOne}
use Rattle.promise_calls.proofs.Factors.{same_refusal, PreparesAlike, EnhancesAlike, MapsAlike, DrawsAlike, prepare_number, prepare_bytes_number, enhance_number, enhance_bytes_number, map_number, draw_number, draw_bytes_number}
use Rattle.promise_calls.proofs.Used.{film_used, made_used, whole_used}
use Rattle.promise_bytes.proofs.Ended.{enhance_bytes_as_wide, prepare_bytes_made}
use Rattle.promise_films.proofs.Made.{prepare_made}

-- ---- any factor

-- "a clip refusal never occurs": two runs of prepare that are alike but for the factor are both refused with one number, or both accepted
pub prepare_any_factor : {p q : PrepareCall} → Prepares p → Prepares q → PreparesAlike p q → (n : ℕ) → p.answer ≡ refused n → q.answer ≡ refused n
prepare_any_factor x y a n e = prepare_says y ∙ same_refusal _ _ (prepare_number a) n (sym (prepare_says x) ∙ e)

-- on bytes, where the edition is a row's: 30
pub prepare_bytes_any_factor : {p q : PrepareCall} → PreparesBytes p → PreparesBytes q → PreparesAlike p q → p.settings.edition ≡ q.settings.edition
    → (n : ℕ) → p.answer ≡ refused n → q.answer ≡ refused n
prepare_bytes_any_factor x y a edition n e = prepare_bytes_says y ∙ same_refusal _ _ (prepare_bytes_number a edition) n (sym (prepare_bytes_says x) ∙ e)

-- so of enhance
pub enhance_any_factor : {e f : EnhanceCall} → Enhances e → Enhances f → EnhancesAlike e f → (n : ℕ) → e.answer ≡ refused n → f.answer ≡ refused n
enhance_any_factor x y a n e = enhance_says y ∙ same_refusal _ _ (enhance_number a) n (sym (enhance_says x) ∙ e)

-- and of enhance on bytes
pub enhance_bytes_any_factor : {e f : EnhanceCall} → EnhancesBytes e → EnhancesBytes f → EnhancesAlike e f → e.settings.edition ≡ f.settings.edition
    → (n : ℕ) → e.answer ≡ refused n → f.answer ≡ refused n
enhance_bytes_any_factor x y a edition n e = enhance_bytes_says y ∙ same_refusal _ _ (enhance_bytes_number a edition) n (sym (enhance_bytes_says x) ∙ e)

-- so of mapping
pub map_any_factor : {d e : MapCall} → Maps d → Maps e → MapsAlike d e → (n : ℕ) → d.answer ≡ refused n → e.answer ≡ refused n
map_any_factor x y a n e = map_says y ∙ same_refusal _ _ (map_number a) n (sym (map_says x) ∙ e)

-- so of draw, where each record has the clip setting of its call
pub draw_any_factor : {d f : DrawCall} {c c' : Clip} → Draws d → Draws f → DrawsAlike d f c c' → (n : ℕ) → d.answer ≡ refused n → f.answer ≡ refused n
draw_any_factor x y a n e = draw_says y ∙ same_refusal _ _ (sym (draw_number a)) n (sym (draw_says x) ∙ e)

-- and on bytes
pub draw_bytes_any_factor : {d f : DrawCall} {c c' : Clip} → DrawsBytes d → DrawsBytes f → DrawsAlike d f c c' → (n : ℕ) → d.answer ≡ refused n → f.answer ≡ refused n
draw_bytes_any_factor x y a n e = draw_bytes_says y ∙ same_refusal _ _ (sym (draw_bytes_number a)) n (sym (draw_bytes_says x) ∙ e)

-- ---- the factor used

-- the factor used is never below 1.0, where the factor is above one: of prepare's footer
pub prepared_used : {p : PrepareCall} {r : MapRecord} {foot : Footer} {f : Float} → Prepares p → p.answer ≡ accepted (r, foot) → ClippingOn p.settings.clip f
    → NotBelowOne foot.used
prepared_used ran done on = made_used (prepare_made ran done) on

-- of enhance's
pub enhanced_used : {e : EnhanceCall} {foot : Footer} {f : Float} → Enhances e → e.answer ≡ accepted foot → ClippingOn e.settings.clip f → NotBelowOne foot.used
enhanced_used {e} ran done on = whole_used e (enhance_ends ran) done on

-- of prepare's on bytes
pub prepared_bytes_used : {p : PrepareCall} {r : MapRecord} {foot : Footer} {f : Float} → PreparesBytes p → p.answer ≡ accepted (r, foot) → ClippingOn p.settings.clip f
    → NotBelowOne foot.used
prepared_bytes_used ran done on = made_used (prepare_bytes_made ran done) on

-- of enhance's on bytes
pub enhanced_bytes_used : {e : EnhanceCall} {foot : Footer} {f : Float} → EnhancesBytes e → e.answer ≡ accepted foot → ClippingOn e.settings.clip f
    → NotBelowOne foot.used
enhanced_bytes_used {e} ran done on = whole_used e (enhance_bytes_as_wide ran done) done on

-- and of mapping's, of any counts
pub mapped_used : {d : MapCall} {r : MapRecord} {foot : Footer} {f : Float} → Maps d → d.answer ≡ accepted (r, foot) → ClippingOn d.settings.clip f → NotBelowOne foot.used
mapped_used ran done on = film_used (mapped_asks ran done) (mapped_footer_any ran done) on
