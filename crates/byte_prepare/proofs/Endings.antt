-- How prepare and enhance on bytes end: refused, or as the wide calls do; inside the profile they answer and leave what the wide calls do.
-- Assumes nothing.
use Prim.Native.Nat.{ℕ, zero, suc}
use mathlib.Core.List.{List}
use mathlib.Core.Path.{◌≡◌, refl, sym, ap, ◌∙◌}
use native.Mathlib.Omega.{arith}
use lib.ListN.{length}
use Rattle.base_rows.specs.Refuse.{first, unless, refused}
use Rattle.base_rows.proofs.Walk.{unless_refused}
use Rattle.film_settings.specs.declared.Settings.{Settings}
use Rattle.byte_profile.specs.Profile.{profile_rows}
use Rattle.film_prepare.specs.Prepare.{prepare_rows, enhance_rows, PrepareOut, prepare_leaves, prepared_of, prepare_of, EnhanceOut, enhance_leaves, enhanced_of, enhance_of}
use Rattle.film_prepare.proofs.Endings.{ends_refused, ends_done}
use Rattle.film_prepare.proofs.Renders.{over_refused, over_done}
use Rattle.byte_prepare.specs.Bytes.{byte_prepare_rows, byte_enhance_rows, byte_prepare_of, byte_enhance_of}
use Rattle.byte_prepare.proofs.Tables.{rows_inside, enhance_rows_inside, wide_rows, wide_enhance_rows}

-- ---- prepare

module _ (film w h : ℕ) (pic : List ℕ) (s : Settings) (m t n : List ℕ) where
  -- a refusal, as it was worked out
  pub bytes_refused : {r : ℕ} → r ≡ first (byte_prepare_rows w h pic s (length m) (length t) (length n)) → (r ≡ 0 → ⊥)
      → prepare_leaves (refused r) m t n ≡ byte_prepare_of film w h pic s m t n
  unfolding byte_prepare_of
  bytes_refused {r} e z =
      unless_refused r (λ k. prepare_leaves (refused k) m t n) (prepared_of film w h pic s m t n) z
      ∙ ap (λ i. unless i (λ k. prepare_leaves (refused k) m t n) (prepared_of film w h pic s m t n)) e

  -- no refusal
  bytes_done : {r : ℕ} → r ≡ first (byte_prepare_rows w h pic s (length m) (length t) (length n)) → r ≡ 0 → prepared_of film w h pic s m t n ≡ byte_prepare_of film w h pic s m t n
  unfolding byte_prepare_of
  bytes_done {r} e z = ap (λ i. unless i (λ k. prepare_leaves (refused k) m t n) (prepared_of film w h pic s m t n)) (sym z ∙ e)

  -- what the wide call leaves then is what the byte call leaves
  pub bytes_well : {r : ℕ} {x : PrepareOut} → r ≡ first (byte_prepare_rows w h pic s (length m) (length t) (length n)) → r ≡ 0
      → (r ≡ first (prepare_rows w h pic s (length m) (length t) (length n)) → x ≡ prepare_of film w h pic s m t n) → x ≡ byte_prepare_of film w h pic s m t n
  bytes_well e z so =
      let wide = wide_rows w h pic s (length m) (length t) (length n) e z in
      so wide ∙ sym (ends_done film w h pic s m t n wide z) ∙ bytes_done e z

  -- "must give the same .. mappings": inside the profile the byte call is the wide one
  pub prepare_inside : first (profile_rows s) ≡ 0 → byte_prepare_of film w h pic s m t n ≡ prepare_of film w h pic s m t n
  prepare_inside p = go (first (byte_prepare_rows w h pic s (length m) (length t) (length n))) refl
    where
      alike : first (byte_prepare_rows w h pic s (length m) (length t) (length n)) ≡ first (prepare_rows w h pic s (length m) (length t) (length n))
      alike = rows_inside w h pic s (length m) (length t) (length n) p

      go : (k : ℕ) → first (byte_prepare_rows w h pic s (length m) (length t) (length n)) ≡ k → byte_prepare_of film w h pic s m t n ≡ prepare_of film w h pic s m t n
      go zero q = sym (bytes_done (sym q) refl) ∙ ends_done film w h pic s m t n (sym q ∙ alike) refl
      go (suc k) q = sym (bytes_refused (sym q) (λ z. omega arith)) ∙ ends_refused film w h pic s m t n (sym q ∙ alike) (λ z. omega arith)

-- ---- enhance

module _ (w h : ℕ) (pic : List ℕ) (s : Settings) (m t : List ℕ) where
  -- a refusal, as it was worked out
  pub film_refused : {r : ℕ} → r ≡ first (byte_enhance_rows w h pic s (length m) (length t)) → (r ≡ 0 → ⊥)
      → enhance_leaves (refused r) pic m t ≡ byte_enhance_of w h pic s m t
  unfolding byte_enhance_of
  film_refused {r} e z =
      unless_refused r (λ n. enhance_leaves (refused n) pic m t) (enhanced_of w h pic s m t) z
      ∙ ap (λ k. unless k (λ n. enhance_leaves (refused n) pic m t) (enhanced_of w h pic s m t)) e

  -- no refusal
  film_done : {r : ℕ} → r ≡ first (byte_enhance_rows w h pic s (length m) (length t)) → r ≡ 0 → enhanced_of w h pic s m t ≡ byte_enhance_of w h pic s m t
  unfolding byte_enhance_of
  film_done {r} e z = ap (λ k. unless k (λ n. enhance_leaves (refused n) pic m t) (enhanced_of w h pic s m t)) (sym z ∙ e)

  -- what the wide call leaves then is what the byte call leaves
  pub film_well : {r : ℕ} {x : EnhanceOut} → r ≡ first (byte_enhance_rows w h pic s (length m) (length t)) → r ≡ 0
      → (r ≡ first (enhance_rows w h pic s (length m) (length t)) → x ≡ enhance_of w h pic s m t) → x ≡ byte_enhance_of w h pic s m t
  film_well e z so =
      let wide = wide_enhance_rows w h pic s (length m) (length t) e z in
      so wide ∙ sym (over_done w h pic s m t wide z) ∙ film_done e z

  -- "must give the same picture and mappings": inside the profile the byte call is the wide one
  pub enhance_inside : first (profile_rows s) ≡ 0 → byte_enhance_of w h pic s m t ≡ enhance_of w h pic s m t
  enhance_inside p = go (first (byte_enhance_rows w h pic s (length m) (length t))) refl
    where
      alike : first (byte_enhance_rows w h pic s (length m) (length t)) ≡ first (enhance_rows w h pic s (length m) (length t))
      alike = enhance_rows_inside w h pic s (length m) (length t) p

      go : (n : ℕ) → first (byte_enhance_rows w h pic s (length m) (length t)) ≡ n → byte_enhance_of w h pic s m t ≡ enhance_of w h pic s m t
      go zero q = sym (film_done (sym q) refl) ∙ over_done w h pic s m t (sym q ∙ alike) refl
      go (suc n) q = sym (film_refused (sym q) (λ z. omega arith)) ∙ over_refused w h pic s m t (sym q ∙ alike) (λ z. omega arith)
