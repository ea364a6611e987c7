-- `shared` gives the first of 1 to 9, 31, 10, 30 and 11 that applies.
use mathlib.Core.Path.{sym}
use Rattle.base_rows.proofs.Given.{refused_front, passed_front}
use Rattle.film_settings.proofs.Ready.{setting_numbered, setting_tiled}
use Rattle.byte_profile.specs.Profile.{byte_rows}
use Rattle.byte_profile.proofs.Profile.{profile_numbered}
use Rattle.byte_profile.proofs.shared.Goals as goal

pub returns-in_err-setting_refusal : goal.returns-in_err-setting_refusal
unfolding byte_rows
returns-in_err-setting_refusal c = refused_front _ _ _ _ c.in_err-setting_refusal.ensures c.from_residual.ensures.1

pub returns-in_err-profile_refusal : goal.returns-in_err-profile_refusal
unfolding byte_rows
returns-in_err-profile_refusal c =
    passed_front _ _ (setting_numbered _ _ _ _) c.in_ok-setting_refusal.ensures
    (refused_front _ _ _ _ c.in_err-profile_refusal.ensures c.from_residual-in_err-profile_refusal.ensures.1)

pub room_refusal-requires : goal.room_refusal-requires
room_refusal-requires c =
    let known = (setting_tiled _ _ _ _ (sym c.in_ok-setting_refusal.ensures)).0 in
    (known.acrossmost, known.downmost, known.binsmost)

pub returns : goal.returns
unfolding byte_rows
returns c =
    passed_front _ _ (setting_numbered _ _ _ _) c.in_ok-setting_refusal.ensures
    (passed_front _ _ (profile_numbered _) c.in_ok-profile_refusal.ensures c.room_refusal.ensures)
