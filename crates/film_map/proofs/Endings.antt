-- How mapping ends: refused, at the factor 1.0, or with the mappings laid down.
-- Assumes nothing.
use Prim.Native.Nat.{ℕ}
use mathlib.Core.Bool.{Bool, true, false}
use mathlib.Core.List.{List}
use mathlib.Core.Path.{◌≡◌, refl, sym, ap, ◌∙◌}
use lib.ListN.{length}
use Rattle.base_rows.specs.Refuse.{first, unless, accepted, refused}
use Rattle.base_rows.proofs.Walk.{unless_refused}
use Rattle.film_settings.specs.declared.Settings.{Settings}
use Rattle.film_settings.specs.declared.Footer.{Footer}
use Rattle.film_settings.specs.declared.MapRecord.{MapRecord}
use Rattle.film_settings.specs.Settings.{record_of, clip_one_of}
use Rattle.film_tiles.specs.Tiles.{foot_of, FilmFooterAsks}
use Rattle.film_prepare.specs.Prepare.{prepare_leaves}
use Rattle.film_map.specs.Counts.{map_rows_of, map_done_of, map_of, MapAllAsks, AllMapped}
use Rattle.film_map.proofs.Tables.{map_ready}

-- ---- what the work asks, once none of the rows applies

module _ (w h : ℕ) (s : Settings) (cs : List ℕ) (room scratch list : ℕ) {r : ℕ} (e : r ≡ first (map_rows_of w h s cs room scratch list)) (z : r ≡ 0) where
  -- mapping
  pub asks_maps : MapAllAsks w h s cs room scratch list
  asks_maps = map_ready w h s cs room scratch list (sym e ∙ z)

  -- and the footer
  pub asks_foot : FilmFooterAsks w h s
  asks_foot = record { tiled = asks_maps.film.tiled; fair = asks_maps.film.fair }

-- ---- how mapping ends

module _ (film w h : ℕ) (s : Settings) (cs m t n : List ℕ) where
  -- a refusal, as it was worked out
  pub map_refused : {r : ℕ} → r ≡ first (map_rows_of w h s cs (length m) (length t) (length n)) → (r ≡ 0 → ⊥) → prepare_leaves (refused r) m t n ≡ map_of film w h s cs m t n
  unfolding map_of
  map_refused {r} e z =
      unless_refused r (λ k. prepare_leaves (refused k) m t n) (map_done_of film w h s cs m t n) z
      ∙ ap (λ x. unless x (λ k. prepare_leaves (refused k) m t n) (map_done_of film w h s cs m t n)) e

  module _ {r : ℕ} (e : r ≡ first (map_rows_of w h s cs (length m) (length t) (length n))) (z : r ≡ 0) where
    -- no refusal
    pub map_done : map_done_of film w h s cs m t n ≡ map_of film w h s cs m t n
    unfolding map_of
    map_done = ap (λ x. unless x (λ k. prepare_leaves (refused k) m t n) (map_done_of film w h s cs m t n)) (sym z ∙ e)

    module _ {kept : MapRecord} {foot : Footer} {o : Bool} (f : foot ≡ foot_of w h s) (k : kept ≡ record_of film w h s) (c : o ≡ clip_one_of s.clip) where
      -- at the factor 1.0 the buffers and the list stay
      pub map_one : o ≡ true → prepare_leaves (accepted (kept, foot)) m t n ≡ map_of film w h s cs m t n
      unfolding map_done_of
      map_one y =
          let one : clip_one_of s.clip ≡ true = sym c ∙ y in
          rw (f, k, one) refl ∙ map_done

      -- else the mappings and what clipping took are laid down, and the scratch is zero
      pub map_well : {m' t' n' : List ℕ} → o ≡ false → AllMapped w h s cs m m' t t' n n'
          → prepare_leaves (accepted (kept, foot)) m' t' n' ≡ map_of film w h s cs m t n
      unfolding map_done_of
      map_well y done =
          let one : clip_one_of s.clip ≡ false = sym c ∙ y in
          rw (f, k, done.map, done.scratch, done.list, one) refl ∙ map_done
