-- How enhance ends: refused, with the factor 1.0, or with the picture rendered.
-- Assumes nothing.
use Prim.Native.Nat.{ℕ}
use mathlib.Core.Bool.{Bool, true, false}
use mathlib.Core.List.{List}
use mathlib.Core.Path.{◌≡◌, refl, sym, ap, ◌∙◌}
use native.Mathlib.Nat.{mul_comm}
use native.Mathlib.Omega.{arith}
use lib.ListN.{length, take}
use lib.Seq.{take_all}
use Rattle.base_rows.specs.Refuse.{first, unless, accepted, refused}
use Rattle.base_rows.proofs.Walk.{unless_refused}
use Rattle.base_lists.specs.Lists.{onto, all}
use Rattle.base_lists.proofs.Fills.{take_onto, length_onto}
use Rattle.base_range.specs.Scan.{within}
use Rattle.film_settings.specs.declared.Settings.{Settings}
use Rattle.film_settings.specs.declared.Footer.{Footer}
use Rattle.film_settings.specs.Settings.{entries_of, clip_one_of, Ready}
use Rattle.pixel_render.specs.Render.{render_of, whole, Mapped, Shown}
use Rattle.pixel_render.proofs.Laws.{render_front, ready_mapped}
use Rattle.film_tiles.specs.Tiles.{mappings, foot_of, Work, TilesReady, TilesDone}
use Rattle.film_tiles.proofs.Films.{length_mappings, mappings_within}
use Rattle.film_prepare.specs.Prepare.{enhance_rows, enhance_leaves, enhanced_of, enhance_of}
use Rattle.film_prepare.proofs.Table.{over_work}

-- ---- what rendering asks, once the mappings are laid down

-- the whole film is a window whose pixels lie in Min to Max
pub whole_shown : {w h : ℕ} {pic : List ℕ} {s : Settings} {room scratch : ℕ} → Work w h pic s room scratch → Shown w h s (whole w h) pic
whole_shown {w} {h} {pic} {s} {room} work =
    let ready : Ready w h (length pic) s room = work.ready in
    record { across = omega arith; down = omega arith; size = ready.whole ∙ mul_comm w h; greys = work.greys }

module _ (m : List ℕ) {w h : ℕ} {pic : List ℕ} {s : Settings} {scratch : ℕ} (asks : TilesReady w h pic s (length m) scratch) where
  -- the front of the map buffer holds the mappings
  pub laid_front : {n : List ℕ} → n ≡ onto m (mappings w h pic s) → take (entries_of s) n ≡ mappings w h pic s
  laid_front e = ap (take (entries_of s)) e ∙ take_onto m (mappings w h pic s) (entries_of s) (length_mappings w h pic s)

  -- so pixels can be rendered from it
  pub laid_mapped : {n : List ℕ} → n ≡ onto m (mappings w h pic s) → Mapped w h s n
  laid_mapped {n} e = ready_mapped asks.work.ready size (ap (all (within s.min s.max)) (laid_front e) ∙ mappings_within asks)
    where
      size : length n ≡ length m
      size = ap length e ∙ length_onto m (mappings w h pic s) (omega (arith, length_mappings w h pic s, asks.work.ready.fitting))

  -- and the picture is the one from the mappings alone
  pub laid_render : {n ys : List ℕ} → n ≡ onto m (mappings w h pic s) → ys ≡ render_of w h s n (whole w h) pic
      → ys ≡ render_of w h s (mappings w h pic s) (whole w h) pic
  laid_render {n} {ys} e q = q ∙ render_front (laid_mapped e) (whole_shown asks.work) (mappings w h pic s) (laid_front e ∙ sym all_taken)
    where
      all_taken : take (entries_of s) (mappings w h pic s) ≡ mappings w h pic s
      all_taken = take_all (entries_of s) (mappings w h pic s) (omega (arith, length_mappings w h pic s))

-- what `render` asks
pub asks_render : {w h : ℕ} {pic : List ℕ} {s : Settings} {m t n u l l' : List ℕ} → TilesReady w h pic s (length m) (length t) → TilesDone w h pic s m n t u l l'
    → Mapped w h s n × Shown w h s (whole w h) pic
asks_render {m = m} asks done = (laid_mapped m asks done.map, whole_shown asks.work)

-- ---- the endings

module _ (w h : ℕ) (pic : List ℕ) (s : Settings) (m t : List ℕ) where
  -- a refusal, as it was worked out
  pub over_refused : {r : ℕ} → r ≡ first (enhance_rows w h pic s (length m) (length t)) → (r ≡ 0 → ⊥)
      → enhance_leaves (refused r) pic m t ≡ enhance_of w h pic s m t
  unfolding enhance_of
  over_refused {r} e z =
      unless_refused r (λ n. enhance_leaves (refused n) pic m t) (enhanced_of w h pic s m t) z
      ∙ ap (λ k. unless k (λ n. enhance_leaves (refused n) pic m t) (enhanced_of w h pic s m t)) e

  -- no refusal
  pub over_done : {r : ℕ} → r ≡ first (enhance_rows w h pic s (length m) (length t)) → r ≡ 0 → enhanced_of w h pic s m t ≡ enhance_of w h pic s m t
  unfolding enhance_of
  over_done {r} e z = ap (λ k. unless k (λ n. enhance_leaves (refused n) pic m t) (enhanced_of w h pic s m t)) (sym z ∙ e)

  -- "Factor 1.0: nothing changes."
  pub over_one : {r : ℕ} {foot : Footer} {o : Bool} → r ≡ first (enhance_rows w h pic s (length m) (length t)) → r ≡ 0
      → foot ≡ foot_of w h s → o ≡ clip_one_of s.clip → o ≡ true
      → enhance_leaves (accepted foot) pic m t ≡ enhance_of w h pic s m t
  unfolding enhanced_of
  over_one e z f c y =
      let one : clip_one_of s.clip ≡ true = sym c ∙ y in
      rw (f, one) refl ∙ over_done e z

  -- else the picture is rendered from the mappings
  pub over_well : {r : ℕ} {foot : Footer} {o : Bool} {ys m' t' n n' : List ℕ} → r ≡ first (enhance_rows w h pic s (length m) (length t)) → r ≡ 0
      → foot ≡ foot_of w h s → o ≡ clip_one_of s.clip → o ≡ false
      → TilesDone w h pic s m m' t t' n n' → ys ≡ render_of w h s m' (whole w h) pic
      → enhance_leaves (accepted foot) ys m' t' ≡ enhance_of w h pic s m t
  unfolding enhanced_of
  over_well e z f c y done g =
      let one : clip_one_of s.clip ≡ false = sym c ∙ y in
      let asks : TilesReady w h pic s (length m) (length t) = record { work = over_work w h pic s (length m) (length t) (sym e ∙ z); changes = one } in
      rw (f, laid_render m asks done.map g, done.map, done.scratch, one) refl ∙ over_done e z
