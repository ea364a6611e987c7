-- Where some bin has no grey of the range, one of 7 to 9 and 31 applies: of the rows of every call that renders.
-- Assumes nothing.
use Prim.Native.Nat.{ℕ, zero, suc, ◌+◌, ◌-◌, ◌<◌}
use mathlib.Core.List.{List, ◌++◌}
use mathlib.Core.Logic.{◌≢◌}
use mathlib.Core.Path.{◌≡◌, refl, sym, ap, ◌∙◌}
use native.Mathlib.Omega.{arith}
use lib.ListN.{length}
use Rattle.base_lists.specs.Lists.{all}
use Rattle.base_rows.specs.Refuse.{Row, first, Says, refused, says}
use Rattle.base_rows.proofs.Walk.{first_front, only_front}
use Rattle.tile_bin.proofs.Bins.{every_bin}
use Rattle.film_settings.specs.declared.Settings.{Settings}
use Rattle.film_settings.specs.Settings.{bins_of, range_rows, setting_rows, room_rows, shared_rows}
use Rattle.film_settings.proofs.Ready.{shared_parts}
use Rattle.film_settings.proofs.Reach.{Early, range_reach, setting_early}
use Rattle.film_prepare.specs.Prepare.{listed_rows}
use Rattle.film_prepare.proofs.Table.{listed_numbers}
use Rattle.film_draw.proofs.Tables.{draw_31}
use Rattle.byte_profile.specs.Profile.{byte_rows}
use Rattle.byte_profile.proofs.Profile.{profile_none, byte_ready, byte_31, byte_early}
use Rattle.byte_prepare.specs.Bytes.{byte_prepare_rows}
use Rattle.byte_prepare.proofs.Parts.{byte_rows_lem}
use Rattle.byte_draw.specs.Bytes.{byte_draw_rows}
use Rattle.byte_draw.proofs.Tables.{rows_shared}
use Rattle.promise_films.specs.Films.{BinUnreached}
use Rattle.promise_films.proofs.Accepted.{says_refused}
use Rattle.promise_films.proofs.Bins.{more_unreached}
use Rattle.promise_films.proofs.Runs.{DrawCall}
use Rattle.promise_bytes.proofs.Inside.{draw_rows_inside}
use Rattle.promise_calls.specs.Calls.{Exactly31}

-- ---- any call

-- where some bin has no grey, one of 7 to 9 and 31 applies
unreached_some : (s : Settings) → BinUnreached s → first (range_rows s) ≢ 0
unreached_some s (k, l, none) z =
    let (order, reach) = range_reach s z in
    let (v, in-range, is) = every_bin s.min s.max (bins_of s) k (omega arith) (omega arith) reach l in
    none v in-range is

-- a call that says what its table gives
pub by_table : {A : Type 0} {said : Says A} {s : Settings} (n : ℕ) (v : A) → said ≡ says n v → (n ≡ 31 → s.max - s.min + 1 < bins_of s) → (first (range_rows s) ≢ 0 → Early n) → Exactly31 said s
by_table {A} {said} {s} n v told more early =
    record {
      given = λ q. more_unreached s (more (says_refused n v (sym told ∙ q)));
      unreached = λ x. let e = early (unreached_some s x) in (n, e, told ∙ some n e.0);
    }
  where
    some : (k : ℕ) → 0 < k → says k v ≡ refused k
    some zero l = absurd (omega arith)
    some (suc k) l = refl

-- a number of the table in front is the whole one's
pub early_front : (a b : List Row) → Early (first a) → Early (first (a ++ b))
early_front a b e = rw (first_front a b (λ z. omega (arith, e.0, z))) e

module _ (w h size : ℕ) (s : Settings) (room : ℕ) (some : first (range_rows s) ≢ 0) where
  -- the rows that all wide calls with a picture share
  pub shared_early : Early (first (shared_rows w h size s room))
  shared_early = rw (shared_parts w h size s room) (early_front (setting_rows w h size s) (room_rows s room) (setting_early w h size s some))

-- ---- on bytes

module _ (w h : ℕ) (pic : List ℕ) (s : Settings) (room scratch list : ℕ) where
  pub bytes_31 : first (byte_prepare_rows w h pic s room scratch list) ≡ 31 → s.max - s.min + 1 < bins_of s
  unfolding all
  bytes_31 q =
      byte_31 w h (length pic) s room
      (only_front 31 (byte_rows w h (length pic) s room) (listed_rows pic s scratch list) refl (rw (listed_numbers pic s scratch list) refl) (sym (ap first (byte_rows_lem w h pic s room scratch list)) ∙ q))

  pub bytes_early : first (range_rows s) ≢ 0 → Early (first (byte_prepare_rows w h pic s room scratch list))
  bytes_early some =
      rw (byte_rows_lem w h pic s room scratch list) (early_front (byte_rows w h (length pic) s room) (listed_rows pic s scratch list) (byte_early w h (length pic) s room some))

-- ---- draw on bytes

module _ (d : DrawCall) where
  abbrev pub rows : List Row
  rows = byte_draw_rows d.film d.width d.height d.pixels d.settings d.kept d.window d.map (length d.out)

  abbrev early : List Row
  early = byte_rows d.width d.height (length d.pixels) d.settings (length d.map)

  pub rows_31 : first rows ≡ 31 → d.settings.max - d.settings.min + 1 < bins_of d.settings
  rows_31 q = go (first early) refl
    where
      go : (n : ℕ) → first early ≡ n → d.settings.max - d.settings.min + 1 < bins_of d.settings
      go zero z =
          draw_31 d.film d.width d.height d.pixels d.settings d.kept d.window d.map (length d.out)
          (sym (draw_rows_inside d.film d.width d.height d.pixels d.settings d.kept d.window d.map d.out
          (profile_none d.settings (byte_ready d.width d.height (length d.pixels) d.settings (length d.map) z).profile))
          ∙ q)
      go (suc n) z =
          byte_31 d.width d.height (length d.pixels) d.settings (length d.map)
          (rows_shared d.film d.width d.height d.pixels d.settings d.kept d.window d.map (length d.out) refl (λ y. omega (arith, z, y)) ∙ q)

  pub rows_early : first (range_rows d.settings) ≢ 0 → Early (first rows)
  rows_early some =
      let e = byte_early d.width d.height (length d.pixels) d.settings (length d.map) some in
      rw (sym (rows_shared d.film d.width d.height d.pixels d.settings d.kept d.window d.map (length d.out) refl (λ z. omega (arith, e.0, z)))) e
