-- direct's rows against enhance's, and what the two leave, over plain values: the same but for 11 and 17.
-- w and h are the film's width and height, pic its pixels, o the target, m the map buffer, t direct's scratch and u enhance's.
-- Assumes nothing.
use Prim.Native.Nat.{ℕ, zero, suc, ◌*◌, ◌≤◌, ◌<◌}
use mathlib.Core.Bool.{Bool, true, false, cond}
use mathlib.Core.List.{List, [], ◌∷◌, ◌++◌}
use mathlib.Core.Logic.{◌≢◌}
use mathlib.Core.Path.{◌≡◌, refl, sym, ap, ◌∙◌}
use native.Mathlib.Nat.{mul_comm}
use native.Mathlib.Omega.{arith}
use lib.Dec.{ltb}
use lib.ListN.{length}
use borrow.Author.Tests.{ltb-true, ltb-false}
use Rattle.base_rows.specs.Refuse.{Row, row, first, unless, accepted, refused}
use Rattle.base_rows.proofs.Walk.{front, behind}
use Rattle.film_settings.specs.declared.Settings.{Settings}
use Rattle.film_settings.specs.declared.Footer.{Footer}
use Rattle.film_settings.specs.Settings.{bins_of, entries_of, clip_one_of, setting_rows, room_rows, shared_rows}
use Rattle.film_settings.proofs.Ready.{setting_numbered, shared_numbered, shared_parts, short_room, fits_room}
use Rattle.pixel_render.specs.Render.{render_of, whole}
use Rattle.pixel_render.proofs.Laws.{length_render}
use Rattle.film_tiles.specs.Tiles.{mappings, foot_of}
use Rattle.film_prepare.specs.Prepare.{work_rows, enhance_rows, EnhanceOut, enhance_leaves, enhanced_of, enhance_of, PaintOut, paint_leaves}
use Rattle.film_prepare.proofs.Table.{over_parts}
use Rattle.film_direct.specs.Direct.{direct_rows, shown_film, directed_of, direct_of}
use Rattle.film_direct.proofs.Table.{direct_table_never_11, direct_table_setting, direct_table_work, direct_work_other, direct_work_over}
use Rattle.film_direct.proofs.Endings.{direct_refused, direct_done}
use Rattle.promise_films.proofs.Accepted.{ByTable, table_done, enhance_table, enhance_work}

-- ---- the rows

module _ (w h : ℕ) (pic : List ℕ) (s : Settings) (room scratch target : ℕ) (e : target ≡ w * h) where
  -- enhance's rows: one of 1 to 11 and 31 applies,
  over_shared : {r : ℕ} → r ≡ first (shared_rows w h (length pic) s room) → (r ≡ 0 → ⊥) → r ≡ first (enhance_rows w h pic s room scratch)
  over_shared q z = rw (over_parts w h pic s room scratch) (front (shared_rows w h (length pic) s room) (work_rows pic s scratch) q z)

  -- or 12 and 13 decide
  over_works : {r : ℕ} → 0 ≡ first (shared_rows w h (length pic) s room) → r ≡ first (work_rows pic s scratch) → r ≡ first (enhance_rows w h pic s room scratch)
  over_works q g =
      rw (over_parts w h pic s room scratch)
      (behind (shared_rows w h (length pic) s room) (work_rows pic s scratch) (shared_numbered w h (length pic) s room) q refl g)

  -- where one of 1 to 9, 31 and 10 applies, it is both's
  settings_same : (a : ℕ) → a ≡ first (setting_rows w h (length pic) s) → (a ≡ 0 → ⊥) → first (enhance_rows w h pic s room scratch) ≡ first (direct_rows w h pic s scratch target)
  settings_same a q z =
      let shared : a ≡ first (shared_rows w h (length pic) s room) = rw (shared_parts w h (length pic) s room) (front (setting_rows w h (length pic) s) (room_rows s room) q z) in
      sym (over_shared shared z) ∙ direct_table_setting w h pic s scratch target q z

  -- where none of them does, 11 would be enhance's
  eleven : 0 ≡ first (setting_rows w h (length pic) s) → room < entries_of s → first (enhance_rows w h pic s room scratch) ≡ 11
  eleven q l =
      let shared : 11 ≡ first (shared_rows w h (length pic) s room) = rw (shared_parts w h (length pic) s room) (behind (setting_rows w h (length pic) s) (room_rows s room) (setting_numbered w h (length pic) s) q refl (sym (short_room s room l))) in
      sym (over_shared shared (λ z. omega arith))

  -- and else 12 and 13 decide
  rest_same : 0 ≡ first (setting_rows w h (length pic) s) → entries_of s ≤ room → first (enhance_rows w h pic s room scratch) ≡ first (direct_rows w h pic s scratch target)
  rest_same q l =
      let shared : 0 ≡ first (shared_rows w h (length pic) s room) = rw (shared_parts w h (length pic) s room) (behind (setting_rows w h (length pic) s) (room_rows s room) (setting_numbered w h (length pic) s) q refl (sym (fits_room s room l))) in
      sym (over_works shared refl)
      ∙ direct_table_work w h pic s scratch target q refl (direct_work_over w h pic s scratch target e)

  -- so the first that applies is the same
  pub rows_same : first (enhance_rows w h pic s room scratch) ≢ 11 → first (enhance_rows w h pic s room scratch) ≡ first (direct_rows w h pic s scratch target)
  rows_same not = go (first (setting_rows w h (length pic) s)) refl
    where
      by_room : 0 ≡ first (setting_rows w h (length pic) s) → (b : Bool) → ltb room (entries_of s) ≡ b → first (enhance_rows w h pic s room scratch) ≡ first (direct_rows w h pic s scratch target)
      by_room q true t = absurd (not (eleven q (ltb-true room (entries_of s) t)))
      by_room q false t = rest_same q (ltb-false room (entries_of s) t)

      go : (a : ℕ) → first (setting_rows w h (length pic) s) ≡ a → first (enhance_rows w h pic s room scratch) ≡ first (direct_rows w h pic s scratch target)
      go zero q = by_room (sym q) (ltb room (entries_of s)) refl
      go (suc a) q = settings_same (suc a) (sym q) (λ z. omega arith)

  -- and so it is where the map buffer is long enough
  pub fits_same : entries_of s ≤ room → first (enhance_rows w h pic s room scratch) ≡ first (direct_rows w h pic s scratch target)
  fits_same l = go (first (setting_rows w h (length pic) s)) refl
    where
      go : (a : ℕ) → first (setting_rows w h (length pic) s) ≡ a → first (enhance_rows w h pic s room scratch) ≡ first (direct_rows w h pic s scratch target)
      go zero q = rest_same (sym q) l
      go (suc a) q = settings_same (suc a) (sym q) (λ z. omega arith)

  -- where enhance does not say 11
  pub fits_not_11 : entries_of s ≤ room → first (enhance_rows w h pic s room scratch) ≢ 11
  fits_not_11 l q = direct_table_never_11 w h pic s scratch target (sym (fits_same l) ∙ q)

-- ---- a target of another length

-- 1 to 9, 31, 10 and 12, and 17 else
abbrev pub other_rows : ℕ → ℕ → List ℕ → Settings → ℕ → List Row
other_rows w h pic s scratch = setting_rows w h (length pic) s ++ (row 12 (ltb scratch (bins_of s)) ∷ row 17 true ∷ [])

module _ (w h : ℕ) (pic : List ℕ) (s : Settings) (scratch target : ℕ) (other : target ≡ w * h → ⊥) where
  some_other : first (row 12 (ltb scratch (bins_of s)) ∷ row 17 true ∷ []) ≢ 0
  unfolding first
  some_other = go (ltb scratch (bins_of s))
    where
      go : (b : Bool) → ◌≢◌ {A = ℕ} (cond b 12 17) 0
      go true z = omega arith
      go false z = omega arith

  pub rows_other : (first (direct_rows w h pic s scratch target) ≡ first (other_rows w h pic s scratch)) × (first (other_rows w h pic s scratch) ≢ 0)
  rows_other = go (first (setting_rows w h (length pic) s)) refl
    where
      go : (a : ℕ) → first (setting_rows w h (length pic) s) ≡ a → (first (direct_rows w h pic s scratch target) ≡ first (other_rows w h pic s scratch)) × (first (other_rows w h pic s scratch) ≢ 0)
      go zero q =
          let both = behind (setting_rows w h (length pic) s) (row 12 (ltb scratch (bins_of s)) ∷ row 17 true ∷ []) (setting_numbered w h (length pic) s) (sym q) refl refl in
          (sym (direct_table_work w h pic s scratch target (sym q) refl (sym (direct_work_other w h pic s scratch target other))) ∙ both, λ z. some_other (both ∙ z))
      go (suc a) q =
          let both = front (setting_rows w h (length pic) s) (row 12 (ltb scratch (bins_of s)) ∷ row 17 true ∷ []) (sym q) (λ z. omega arith) in
          (sym (direct_table_setting w h pic s scratch target (sym q) (λ z. omega arith)) ∙ both, λ z. omega (arith, both ∙ z))

-- ---- what the two leave

module _ (w h : ℕ) (pic : List ℕ) (s : Settings) (o m t u : List ℕ) where
  answer_at : (n : ℕ) → (unless n (λ k. paint_leaves (refused k) o t) (directed_of w h pic s t)).answer ≡ (unless n (λ k. enhance_leaves (refused k) pic m u) (enhanced_of w h pic s m u)).answer
  unfolding directed_of enhanced_of
  answer_at zero = refl
  answer_at (suc n) = refl

  scratch_at : (n : ℕ) → (unless n (λ k. paint_leaves (refused k) o u) (directed_of w h pic s u)).scratch ≡ (unless n (λ k. enhance_leaves (refused k) pic m u) (enhanced_of w h pic s m u)).scratch
  unfolding directed_of enhanced_of
  scratch_at zero = refl
  scratch_at (suc n) = refl

  module _ (e : length o ≡ w * h) (l : length t ≡ length u) (not : first (enhance_rows w h pic s (length m) (length u)) ≢ 11) where
    same_rows : first (direct_rows w h pic s (length t) (length o)) ≡ first (enhance_rows w h pic s (length m) (length u))
    same_rows = ap (λ n. first (direct_rows w h pic s n (length o))) l ∙ sym (rows_same w h pic s (length m) (length u) (length o) e not)

    -- the answer
    pub same_answer : (direct_of w h pic s o t).answer ≡ (enhance_of w h pic s m u).answer
    unfolding direct_of enhance_of
    same_answer =
        ap (λ n. (unless n (λ k. paint_leaves (refused k) o t) (directed_of w h pic s t)).answer) same_rows ∙ answer_at (first (enhance_rows w h pic s (length m) (length u)))

    -- the scratch
    pub same_scratch : t ≡ u → (direct_of w h pic s o t).scratch ≡ (enhance_of w h pic s m u).scratch
    unfolding direct_of enhance_of
    same_scratch q =
        ap (λ n. (unless n (λ k. paint_leaves (refused k) o t) (directed_of w h pic s t)).scratch) same_rows
        ∙ ap (λ x. (unless (first (enhance_rows w h pic s (length m) (length u))) (λ k. paint_leaves (refused k) o x) (directed_of w h pic s x)).scratch) q
        ∙ scratch_at (first (enhance_rows w h pic s (length m) (length u)))

    -- and, where enhance is done, the film as it is shown
    pub same_target : first (enhance_rows w h pic s (length m) (length u)) ≡ 0 → (direct_of w h pic s o t).target ≡ shown_film w h pic s
    unfolding directed_of
    same_target z = sym (ap (λ (x : PaintOut). x.target) (direct_done w h pic s o t refl (same_rows ∙ z)))

-- direct goes by its rows
pub direct_table : (w h : ℕ) (pic : List ℕ) (s : Settings) (o t : List ℕ)
    → ByTable (λ (x : PaintOut). x.answer) (first (direct_rows w h pic s (length t) (length o))) (foot_of w h s) (directed_of w h pic s t) (λ k. paint_leaves (refused k) o t) (direct_of w h pic s o t)
unfolding directed_of
direct_table w h pic s o t =
    record {
      when_none = λ z. sym (direct_done w h pic s o t refl z);
      when_some = λ z. sym (direct_refused w h pic s o t refl z);
      says_done = refl;
      says_lent = λ k. refl;
    }

-- enhance's picture is as long as the film
pub picture_length : (w h : ℕ) (pic : List ℕ) (s : Settings) (m u : List ℕ) {foot : Footer} → (enhance_of w h pic s m u).answer ≡ accepted foot → length (enhance_of w h pic s m u).picture ≡ w * h
unfolding enhanced_of
picture_length w h pic s m u done = ap (λ (x : EnhanceOut). length x.picture) (table_done (enhance_table w h pic s m u) done) ∙ go (clip_one_of s.clip)
  where
    go : (b : Bool) → length (cond b pic (render_of w h s (mappings w h pic s) (whole w h) pic)) ≡ w * h
    go true = (enhance_work w h pic s m u done).ready.whole
    go false = length_render w h s (mappings w h pic s) (whole w h) pic ∙ mul_comm h w
