-- The rows 30 and the table that the byte calls share: their numbers, what they tell where none of them applies, and that inside the profile the table is the
-- wide calls' own.
-- Assumes nothing.
use Prim.Native.Nat.{ℕ, ◌+◌, ◌-◌, ◌≤◌, ◌<◌}
use mathlib.Core.Bool.{Bool, true, false, not, ◌||◌}
use mathlib.Core.List.{List, [], ◌∷◌, ◌++◌}
use mathlib.Core.Logic.{◌≢◌}
use mathlib.Core.Path.{◌≡◌, refl, sym, ap, ap₂, ◌∙◌}
use native.Mathlib.Omega.{arith}
use lib.Dec.{eqb}
use borrow.Author.Tests.{eqb-true, not-false}
use Rattle.base_lists.specs.Lists.{all}
use Rattle.base_rows.specs.Refuse.{Row, row, first, numbers_of, Numbered}
use Rattle.base_rows.proofs.Walk.{first_front, first_none, first_both, first_behind, only_front, numbers_append, each_append}
use Rattle.tile_limit.specs.declared.Edition.TheVariants.{Ours}
use Rattle.film_settings.specs.declared.Settings.{Settings}
use Rattle.film_settings.specs.Settings.{bins_of, kept_of, clip_bad_of, range_rows, setting_rows, room_rows, shared_rows}
use Rattle.film_settings.proofs.Ready.{setting_numbers, setting_numbered, room_numbers, setting_tiled, room_fits, shared_parts}
use Rattle.film_settings.proofs.Like.{bins_kept}
use Rattle.film_settings.proofs.Parts.{setting_alike, room_alike}
use Rattle.film_settings.proofs.Reach.{setting_31, Early, setting_early}
use Rattle.film_settings.proofs.Editions.{same_edition_is, same_edition_self}
use Rattle.byte_profile.specs.Profile.{bins_in_of, profile_rows, byte_rows, Profile, ByteReady}

-- ---- the numbers

pub profile_numbers : (s : Settings) → numbers_of (profile_rows s) ≡ 30 ∷ 30 ∷ 30 ∷ 30 ∷ 30 ∷ 30 ∷ []
unfolding numbers_of profile_rows
profile_numbers s = refl

pub profile_numbered : (s : Settings) → Numbered (profile_rows s)
unfolding all
profile_numbered s = rw (profile_numbers s) refl

-- 1 to 10 with 31 after 9, "30 for a setting outside the profile, after 10", then 11
pub byte_numbers : (w h size : ℕ) (s : Settings) (room : ℕ)
    → numbers_of (byte_rows w h size s room)
    ≡ 1 ∷ 1 ∷ 1 ∷ 1 ∷ 2 ∷ 3 ∷ 3 ∷ 4 ∷ 4 ∷ 5 ∷ 6 ∷ 7 ∷ 8 ∷ 9 ∷ 9 ∷ 31 ∷ 10 ∷ 30 ∷ 30 ∷ 30 ∷ 30 ∷ 30 ∷ 30 ∷ 11 ∷ []
unfolding byte_rows
byte_numbers w h size s room =
    numbers_append (setting_rows w h size s) (profile_rows s ++ room_rows s room)
    ∙ rw (numbers_append (profile_rows s) (room_rows s room), setting_numbers w h size s, profile_numbers s, room_numbers s room) refl

pub byte_numbered : (w h size : ℕ) (s : Settings) (room : ℕ) → Numbered (byte_rows w h size s room)
unfolding all
byte_numbered w h size s room = rw (byte_numbers w h size s room) refl

-- ---- what the rows tell where none of them applies

-- 64, 128 and 256 are 256 at most
bins_few : (b : ℕ) → bins_in_of b ≡ true → b ≤ 256
bins_few b = go (eqb b 64) (eqb b 128) refl refl
  where
    go : (x y : Bool) → eqb b 64 ≡ x → eqb b 128 ≡ y → (x || (y || eqb b 256)) ≡ true → b ≤ 256
    go true y p q e = omega (arith, eqb-true b 64 p)
    go false true p q e = omega (arith, eqb-true b 128 q)
    go false false p q e = omega (arith, eqb-true b 256 e)

-- no 30: the settings are inside the profile
pub profile : (s : Settings) → first (profile_rows s) ≡ 0 → Profile s
unfolding profile_rows
profile s e =
    let n = first_none _ (profile_numbered s) e in
    record {
      across = eqb-true _ _ (not-false _ n.0);
      down = eqb-true _ _ (not-false _ n.1.0);
      bins = not-false _ n.1.1.0;
      few = bins_few (bins_of s) (not-false _ n.1.1.0);
      min = eqb-true _ _ (not-false _ n.1.1.1.0);
      max = eqb-true _ _ (not-false _ n.1.1.1.1.0);
      edition = same_edition_is _ _ (not-false _ n.1.1.1.1.1.0);
    }

-- and inside it there is no 30
pub profile_none : (s : Settings) → Profile s → first (profile_rows s) ≡ 0
unfolding first profile_rows
profile_none s p = rw (p.bins, p.across, p.down, p.min, p.max, p.edition, same_edition_self Ours) refl

-- none of the rows 1 to 9, 31, 10, 30 and 11 applies: what the work below relies on
pub byte_ready : (w h size : ℕ) (s : Settings) (room : ℕ) → first (byte_rows w h size s room) ≡ 0 → ByteReady w h size s room
unfolding byte_rows
byte_ready w h size s room e =
    let a = first_both (setting_rows w h size s) _ (setting_numbered w h size s) e in
    let b = first_both (profile_rows s) (room_rows s room) (profile_numbered s) a.1 in
    let (known, whole, fair) = setting_tiled w h size s a.0 in
    record {
      ready = record { tiled = known; whole = whole; clip = fair; fitting = room_fits s room b.1 };
      profile = profile s b.0;
    }

-- ---- inside the profile

-- rows of which none applies, put between two tables, change nothing
inserted : (a x b : List Row) → Numbered x → first x ≡ 0 → first (a ++ (x ++ b)) ≡ first (a ++ b)
unfolding first
inserted [] x b k e = first_behind x b (first_none x k e)
inserted (row n true ∷ a) x b k e = refl
inserted (row n false ∷ a) x b k e = inserted a x b k e

-- the byte calls' table gives what the wide calls' does
pub byte_inside : (w h size : ℕ) (s : Settings) (room : ℕ) → first (profile_rows s) ≡ 0 → first (byte_rows w h size s room) ≡ first (shared_rows w h size s room)
unfolding byte_rows
byte_inside w h size s room e =
    inserted (setting_rows w h size s) (profile_rows s) (room_rows s room) (profile_numbered s) e
    ∙ ap first (sym (shared_parts w h size s room))

-- ---- what the table reads of the settings

-- bins 0 as 128
pub profile_kept : (s : Settings) → profile_rows (kept_of s) ≡ profile_rows s
unfolding profile_rows
profile_kept s = rw (bins_kept s) refl

-- 30: all but the clip setting
pub profile_alike : (s s' : Settings) → s.across ≡ s'.across → s.down ≡ s'.down → bins_of s ≡ bins_of s' → s.min ≡ s'.min → s.max ≡ s'.max → s.edition ≡ s'.edition
    → profile_rows s ≡ profile_rows s'
unfolding profile_rows
profile_alike s s' across down bins min max edition = rw (bins, across, down, min, max, edition) refl

-- of the clip setting the whole table reads whether 10 refuses it
pub byte_alike : (s s' : Settings) → s.across ≡ s'.across → s.down ≡ s'.down → bins_of s ≡ bins_of s' → s.min ≡ s'.min → s.max ≡ s'.max → s.edition ≡ s'.edition
    → clip_bad_of s.clip ≡ clip_bad_of s'.clip → (w h size room : ℕ) → byte_rows w h size s room ≡ byte_rows w h size s' room
unfolding byte_rows
byte_alike s s' across down bins min max edition clip w h size room =
    ap₂ (λ a b. a ++ b) (setting_alike s s' across down bins min max clip w h size)
    (ap₂ (λ a b. a ++ b) (profile_alike s s' across down bins min max edition) (room_alike s s' across down bins min max clip room))

-- ---- 31

-- it is given only where the bins are more than the greys of the range
pub byte_31 : (w h size : ℕ) (s : Settings) (room : ℕ) → first (byte_rows w h size s room) ≡ 31 → s.max - s.min + 1 < bins_of s
unfolding all byte_rows
byte_31 w h size s room q =
    setting_31 w h size s
    (only_front 31 (setting_rows w h size s) (profile_rows s ++ room_rows s room) refl
    (each_append (λ k. not (eqb k 31)) (profile_rows s) (room_rows s room) (rw (profile_numbers s) refl) (rw (room_numbers s room) refl)) q)

-- and where they are, or there is no range, the number is 31 or one of 1 to 9
pub byte_early : (w h size : ℕ) (s : Settings) (room : ℕ) → first (range_rows s) ≢ 0 → Early (first (byte_rows w h size s room))
unfolding byte_rows
byte_early w h size s room some =
    let early = setting_early w h size s some in
    rw (first_front (setting_rows w h size s) (profile_rows s ++ room_rows s room) (λ z. omega (arith, early.0, z))) early
