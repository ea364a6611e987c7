-- An accepted film of bytes is inside the profile, so each byte call that accepts one ended as the wide call does of the same numbers: what was said once of that outcome is so of it.
-- A name with ' is lent memory at the end.
-- Assumes nothing.
use Prim.Native.Nat.{◌+◌, ◌≤◌}
use mathlib.Core.Bool.{false}
use mathlib.Core.Path.{◌≡◌, sym, ap, ◌∙◌}
use lib.ListN.{length, take}
use Rattle.base_rows.specs.Refuse.{accepted}
use Rattle.film_settings.specs.declared.MapRecord.{MapRecord}
use Rattle.film_settings.specs.declared.Footer.{Footer}
use Rattle.film_settings.specs.Settings.{entries_of, clip_one_of}
use Rattle.film_prepare.specs.Prepare.{PrepareOut, prepare_leaves, prepare_of, EnhanceOut, enhance_leaves, enhance_of}
use Rattle.film_draw.specs.Draw.{DrawOut, DrawReady}
use Rattle.film_draw.proofs.Tables.{draw_ready}
use Rattle.byte_profile.specs.Profile.{Profile}
use Rattle.promise_films.proofs.Made.{Made, ended_made, shown_inside}
use Rattle.promise_films.proofs.Ended.{Shown}
use Rattle.promise_films.proofs.Accepted.{ended_none, draw_table}
use Rattle.promise_films.proofs.Runs.{PrepareCall, EnhanceCall, DrawCall}
use Rattle.promise_bytes.proofs.Inside.{prepare_bytes_profile, prepare_bytes_wide, enhance_bytes_profile, enhance_bytes_wide, draw_bytes_wide}
use Rattle.promise_bytes.proofs.Runs.{PreparesBytes, prepare_bytes_ends, EnhancesBytes, enhance_bytes_ends, DrawsBytes, draw_bytes_ends}

-- ---- prepare on bytes

module _ {p : PrepareCall} {r : MapRecord} {foot : Footer} (ran : PreparesBytes p) (prepared : p.answer ≡ accepted (r, foot)) where
  -- it ended as prepare does
  pub prepare_bytes_as_wide : prepare_leaves p.answer p.map' p.scratch' p.list' ≡ prepare_of p.film p.width p.height p.pixels p.settings p.map p.scratch p.list
  prepare_bytes_as_wide =
      prepare_bytes_ends ran
      ∙ prepare_bytes_wide p.film p.width p.height p.pixels p.settings p.map p.scratch p.list
      (sym (ap (λ (z : PrepareOut). z.answer) (prepare_bytes_ends ran)) ∙ prepared)

  pub prepare_bytes_done : (prepare_of p.film p.width p.height p.pixels p.settings p.map p.scratch p.list).answer ≡ accepted (r, foot)
  prepare_bytes_done = sym (ap (λ (z : PrepareOut). z.answer) prepare_bytes_as_wide) ∙ prepared

  -- its settings are inside the profile
  pub prepare_bytes_held : Profile p.settings
  prepare_bytes_held =
      prepare_bytes_profile p.film p.width p.height p.pixels p.settings p.map p.scratch p.list
      (sym (ap (λ (z : PrepareOut). z.answer) (prepare_bytes_ends ran)) ∙ prepared)

  -- so what it left is what prepare's outcome gives
  pub prepare_bytes_made : Made p.film p.width p.height p.pixels p.settings r foot p.map'
  prepare_bytes_made = ended_made p prepare_bytes_as_wide prepared

-- ---- enhance on bytes

module _ {e : EnhanceCall} {foot : Footer} (ran : EnhancesBytes e) (done : e.answer ≡ accepted foot) where
  -- it ended as enhance does
  pub enhance_bytes_as_wide : enhance_leaves e.answer e.pixels' e.map' e.scratch' ≡ enhance_of e.width e.height e.pixels e.settings e.map e.scratch
  enhance_bytes_as_wide =
      enhance_bytes_ends ran
      ∙ enhance_bytes_wide e.width e.height e.pixels e.settings e.map e.scratch
      (sym (ap (λ (z : EnhanceOut). z.answer) (enhance_bytes_ends ran)) ∙ done)

  pub enhance_bytes_done : (enhance_of e.width e.height e.pixels e.settings e.map e.scratch).answer ≡ accepted foot
  enhance_bytes_done = sym (ap (λ (z : EnhanceOut). z.answer) enhance_bytes_as_wide) ∙ done

  -- its settings are inside the profile
  pub enhance_bytes_held : Profile e.settings
  enhance_bytes_held =
      enhance_bytes_profile e.width e.height e.pixels e.settings e.map e.scratch
      (sym (ap (λ (z : EnhanceOut). z.answer) (enhance_bytes_ends ran)) ∙ done)

-- ---- draw on bytes

-- one that is accepted ended as draw does
pub draw_bytes_shown : {d : DrawCall} → DrawsBytes d → d.answer ≡ accepted tt → Shown d
draw_bytes_shown {d} ran done =
    record {
      ends = draw_bytes_ends ran
          ∙ draw_bytes_wide d.film d.width d.height d.pixels d.settings d.kept d.window d.map d.out
          (sym (ap (λ (z : DrawOut). z.answer) (draw_bytes_ends ran)) ∙ done);
    }

-- so what it knows
pub drawn_bytes_ready : {d : DrawCall} → DrawsBytes d → d.answer ≡ accepted tt
    → DrawReady d.film d.width d.height d.pixels d.settings d.kept d.window d.map (length d.out)
drawn_bytes_ready {d} ran done =
    draw_ready d.film d.width d.height d.pixels d.settings d.kept d.window d.map (length d.out)
    (ended_none (draw_table _ _ _ _ _ _ _ _ _) (draw_bytes_shown ran done).ends done)

-- prepare on bytes accepted the film of p with this footer, and draw on bytes accepted d, handed the record that prepare answered, the same pixels and, but at the factor 1.0,
-- the mappings that it left, whatever else
pub record DrawnFromBytes (p : PrepareCall) (foot : Footer) (d : DrawCall) : Type 0 where
  pub prepares : PreparesBytes p
  pub prepared : p.answer ≡ accepted (d.kept, foot)
  pub draws : DrawsBytes d
  pub drawn : d.answer ≡ accepted tt
  pub pixels : d.pixels ≡ p.pixels
  pub mappings : clip_one_of p.settings.clip ≡ false → take (entries_of p.settings) d.map ≡ take (entries_of p.settings) p.map'

module _ {p : PrepareCall} {foot : Footer} {d : DrawCall} (from : DrawnFromBytes p foot d) where
  -- the window lies inside the film
  pub drawn_bytes_inside : (d.window.left + d.window.width ≤ p.width) × (d.window.top + d.window.height ≤ p.height)
  drawn_bytes_inside = shown_inside (prepare_bytes_made from.prepares from.prepared) (draw_bytes_shown from.draws from.drawn) from.drawn from.pixels from.mappings
