-- Order 5 and the byte profile: what mapping left of a film that was counted as its numbers, with settings inside the profile, serves draw on bytes.
-- Promises alone: of every run of the calls by their contracts (Runs), each listed in docs/PROMISES.md. A name with ' is lent memory at the end.
-- Assumes nothing.
use Prim.Native.Nat.{ℕ, ◌+◌, ◌<◌}
use mathlib.Core.Bool.{false}
use mathlib.Core.List.{List}
use mathlib.Core.Logic.{inr}
use mathlib.Core.Path.{◌≡◌}
use lib.ListN.{take}
use Rattle.base_rows.specs.Refuse.{accepted}
use Rattle.film_settings.specs.declared.Footer.{Footer}
use Rattle.film_settings.specs.Settings.{entries_of, clip_one_of}
use Rattle.pixel_rule.specs.Rule.{rule_grey}
use Rattle.promise_films.proofs.Runs.{DrawCall}
use Rattle.promise_films.proofs.Ways.{drawn_grey}
use Rattle.promise_films.proofs.Made.{HandedFilm, handed_done, shown_by_rule}
use Rattle.promise_bytes.proofs.Runs.{DrawsBytes}
use Rattle.promise_bytes.proofs.Either.{Inside, kept_inside, either_shown, accepted_shown}
use Rattle.promise_counts.proofs.Runs.{MapCall}
use Rattle.promise_counts.proofs.Ways.{MappedFrom}
use Rattle.promise_counts.proofs.Order5.{mapped_made}

-- handed to draw on bytes with the same film, the record that mapping answered, the settings, the mappings, a window inside the film and an output of its area, it is drawn
pub mapped_drawn_bytes_done : {pic : List ℕ} {m : MapCall} {foot : Footer} {d : DrawCall} → MappedFrom pic m d.kept foot → Inside m.settings → DrawsBytes d
    → HandedFilm m.film m.width m.height pic m.settings m.map' d → d.answer ≡ accepted tt
mapped_drawn_bytes_done {pic} {m} {foot} {d} from inside draws handed =
    handed_done (mapped_made from) (either_shown (inr draws) (kept_inside m.settings d.settings handed.rest.like inside)) handed

-- and each pixel of a window that draw on bytes accepts, handed the record, the film's pixels and the mappings, is the rule's
pub mapped_drawn_bytes_by_rule : {pic : List ℕ} {m : MapCall} {foot : Footer} {d : DrawCall} → MappedFrom pic m d.kept foot → DrawsBytes d → d.answer ≡ accepted tt
    → d.pixels ≡ pic → (clip_one_of m.settings.clip ≡ false → take (entries_of m.settings) d.map ≡ take (entries_of m.settings) m.map')
    → clip_one_of m.settings.clip ≡ false → (j i : ℕ) → j < d.window.height → i < d.window.width
    → drawn_grey d i j ≡ rule_grey m.width m.height pic m.settings (d.window.left + i) (d.window.top + j)
mapped_drawn_bytes_by_rule from draws drawn pixels mappings = shown_by_rule (mapped_made from) (accepted_shown (inr draws) drawn) drawn pixels mappings
