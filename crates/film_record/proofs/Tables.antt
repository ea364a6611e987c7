-- The tables of 15, 16 and 17: their numbers, and what they tell where none of their rows applies.
-- Assumes nothing.
use Prim.Native.Nat.{ℕ, ◌+◌, ◌*◌, ◌≤◌, ◌<◌}
use mathlib.Core.Bool.{true, false}
use mathlib.Core.List.{[], ◌∷◌, ◌++◌}
use mathlib.Core.Path.{◌≡◌, refl}
use lib.Dec.{eqb}
use native.Mathlib.Omega.{arith}
use borrow.Author.Tests.{le-ltb, ltb-false, eq-eqb, ne_eqb, eqb-true, not-false}
use Rattle.base_lists.specs.Lists.{all}
use Rattle.base_lists.proofs.Orders.{pos}
use Rattle.base_rows.specs.Refuse.{first, numbers_of, Numbered}
use Rattle.base_rows.proofs.Walk.{first_none, first_both}
use Rattle.pixel_grid.proofs.Axes.{same_axis_is}
use Rattle.film_settings.specs.declared.Settings.{Settings}
use Rattle.film_settings.specs.declared.MapRecord.{MapRecord}
use Rattle.film_settings.specs.declared.Window.{Window}
use Rattle.film_settings.specs.Settings.{bins_of, same_clip_of}
use Rattle.film_settings.proofs.Editions.{same_edition_is}
use Rattle.film_record.specs.Held.{film_rows, kept_rows, edition_rows, axis_rows, record_rows, window_rows, Held}

-- ---- the numbers, in the order of document 01

pub film_numbers : (film w h : ℕ) (r : MapRecord) → numbers_of (film_rows film w h r) ≡ 15 ∷ 15 ∷ 15 ∷ []
unfolding numbers_of film_rows
film_numbers film w h r = refl

pub kept_numbers : (s kept : Settings) → numbers_of (kept_rows s kept) ≡ 15 ∷ 15 ∷ 15 ∷ 15 ∷ 15 ∷ 15 ∷ []
unfolding numbers_of kept_rows
kept_numbers s kept = refl

pub edition_numbers : (s kept : Settings) → numbers_of (edition_rows s kept) ≡ 15 ∷ []
unfolding numbers_of edition_rows
edition_numbers s kept = refl

pub axis_numbers : (w h : ℕ) (s : Settings) (r : MapRecord) → numbers_of (axis_rows w h s r) ≡ 15 ∷ 15 ∷ []
unfolding numbers_of axis_rows
axis_numbers w h s r = refl

-- of 15
pub record_numbers_lem : (film w h : ℕ) (s : Settings) (r : MapRecord)
    → numbers_of (record_rows film w h s r) ≡ 15 ∷ 15 ∷ 15 ∷ 15 ∷ 15 ∷ 15 ∷ 15 ∷ 15 ∷ 15 ∷ 15 ∷ 15 ∷ 15 ∷ []
unfolding numbers_of record_rows film_rows kept_rows edition_rows axis_rows
record_numbers_lem film w h s r = refl

-- of 16 and 17
pub window_numbers : (w h : ℕ) (win : Window) (room : ℕ) → numbers_of (window_rows w h win room) ≡ 16 ∷ 16 ∷ 16 ∷ 16 ∷ 17 ∷ []
unfolding numbers_of window_rows
window_numbers w h win room = refl

-- all are above 0

pub film_numbered : (film w h : ℕ) (r : MapRecord) → Numbered (film_rows film w h r)
unfolding all
film_numbered film w h r = rw (film_numbers film w h r) refl

pub kept_numbered : (s kept : Settings) → Numbered (kept_rows s kept)
unfolding all
kept_numbered s kept = rw (kept_numbers s kept) refl

pub edition_numbered : (s kept : Settings) → Numbered (edition_rows s kept)
unfolding all
edition_numbered s kept = rw (edition_numbers s kept) refl

pub axis_numbered : (w h : ℕ) (s : Settings) (r : MapRecord) → Numbered (axis_rows w h s r)
unfolding all
axis_numbered w h s r = rw (axis_numbers w h s r) refl

pub record_numbered : (film w h : ℕ) (s : Settings) (r : MapRecord) → Numbered (record_rows film w h s r)
unfolding all
record_numbered film w h s r = rw (record_numbers_lem film w h s r) refl

pub window_numbered : (w h : ℕ) (win : Window) (room : ℕ) → Numbered (window_rows w h win room)
unfolding all
window_numbered w h win room = rw (window_numbers w h win room) refl

-- ---- what the tables tell

-- none of the settings' rows: they are those that were kept
pub kept_held : (s kept : Settings) → first (kept_rows s kept) ≡ 0
    → (s.across ≡ kept.across) × (s.down ≡ kept.down) × (bins_of s ≡ bins_of kept) × (s.min ≡ kept.min) × (s.max ≡ kept.max) × (same_clip_of s.clip kept.clip ≡ true)
unfolding kept_rows
kept_held s kept e =
    let k = first_none (kept_rows s kept) (kept_numbered s kept) e in (
      eqb-true _ _ (not-false _ k.0),
      eqb-true _ _ (not-false _ k.1.0),
      eqb-true _ _ (not-false _ k.1.1.0),
      eqb-true _ _ (not-false _ k.1.1.1.0),
      eqb-true _ _ (not-false _ k.1.1.1.1.0),
      not-false _ k.1.1.1.1.1.0,
    )

-- nor the edition's: it is the one that was kept
pub edition_held : (s kept : Settings) → first (edition_rows s kept) ≡ 0 → s.edition ≡ kept.edition
unfolding edition_rows
edition_held s kept e = same_edition_is _ _ (not-false _ (first_none (edition_rows s kept) (edition_numbered s kept) e).0)

-- none of the rows of 15: the record is this film's, with its edges and centres
pub record_held : (film w h : ℕ) (s : Settings) (r : MapRecord) → first (record_rows film w h s r) ≡ 0 → Held film w h s r
unfolding record_rows film_rows axis_rows
record_held film w h s r e =
    let both = first_both (film_rows film w h r) (kept_rows s r.settings ++ (edition_rows s r.settings ++ axis_rows w h s r)) (film_numbered film w h r) e in
    let rest = first_both (kept_rows s r.settings) (edition_rows s r.settings ++ axis_rows w h s r) (kept_numbered s r.settings) both.1 in
    let last = first_both (edition_rows s r.settings) (axis_rows w h s r) (edition_numbered s r.settings) rest.1 in
    let n = first_none (film_rows film w h r) (film_numbered film w h r) both.0 in
    let k = kept_held s r.settings rest.0 in
    let a = first_none (axis_rows w h s r) (axis_numbered w h s r) last.1 in
    record {
      number = eqb-true _ _ (not-false _ n.0);
      wide = eqb-true _ _ (not-false _ n.1.0);
      high = eqb-true _ _ (not-false _ n.1.1.0);
      across = k.0;
      down = k.1;
      bins = k.2;
      least = k.3;
      most = k.4;
      clip = k.5;
      edition = edition_held s r.settings last.0;
      columns = same_axis_is _ _ (not-false _ a.0);
      rows = same_axis_is _ _ (not-false _ a.1.0);
    }

-- neither 16 nor 17: the window has a pixel, lies inside the film, and the output has its area
pub window_inside : (w h : ℕ) (win : Window) (room : ℕ) → first (window_rows w h win room) ≡ 0
    → (0 < win.width) × (0 < win.height) × (win.left + win.width ≤ w) × (win.top + win.height ≤ h) × (room ≡ win.height * win.width)
unfolding window_rows
window_inside w h win room e =
    let n = first_none (window_rows w h win room) (window_numbered w h win room) e in
    (pos _ n.0, pos _ n.1.0, ltb-false _ _ n.1.1.0, ltb-false _ _ n.1.1.1.0, eqb-true _ _ (not-false _ n.1.1.1.1.0))

-- and the other way: a window inside the film with an output of its area meets neither 16 nor 17
pub window_free : (w h : ℕ) (win : Window) (room : ℕ) → 0 < win.width → 0 < win.height → win.left + win.width ≤ w → win.top + win.height ≤ h → room ≡ win.height * win.width
    → first (window_rows w h win room) ≡ 0
unfolding window_rows first
window_free w h win room wide high across down area =
    let a : eqb win.width 0 ≡ false = ne_eqb win.width 0 (λ z. omega arith) in
    let b : eqb win.height 0 ≡ false = ne_eqb win.height 0 (λ z. omega arith) in
    rw (a, b, le-ltb w (win.left + win.width) across, le-ltb h (win.top + win.height) down, eq-eqb room (win.height * win.width) area) refl
