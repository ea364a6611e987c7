-- How counting ends: refused, or with the counts laid down.
-- Assumes nothing.
use Prim.Native.Nat.{ℕ}
use mathlib.Core.List.{List}
use mathlib.Core.Path.{◌≡◌, sym, ap, ◌∙◌}
use lib.ListN.{length}
use Rattle.base_lists.specs.Lists.{onto}
use Rattle.base_rows.specs.Refuse.{first, unless, accepted, refused}
use Rattle.base_rows.proofs.Walk.{unless_refused}
use Rattle.film_settings.specs.declared.Settings.{Settings}
use Rattle.film_count.specs.Counting.{countings, count_rows, count_leaves, count_done_of, count_of, CountReady}
use Rattle.film_count.proofs.Tables.{count_ready}

-- what the work asks, once none of the rows applies
pub asks_count : (w h : ℕ) (pic : List ℕ) (s : Settings) (size : ℕ) {r : ℕ} → r ≡ first (count_rows w h pic s size) → r ≡ 0 → CountReady w h pic s size
asks_count w h pic s size e z = count_ready w h pic s size (sym e ∙ z)

module _ (w h : ℕ) (pic : List ℕ) (s : Settings) (cs : List ℕ) where
  -- a refusal, as it was worked out
  pub count_refused : {r : ℕ} → r ≡ first (count_rows w h pic s (length cs)) → (r ≡ 0 → ⊥) → count_leaves (refused r) cs ≡ count_of w h pic s cs
  unfolding count_of
  count_refused {r} e z =
      unless_refused r (λ n. count_leaves (refused n) cs) (count_done_of w h pic s cs) z
      ∙ ap (λ k. unless k (λ n. count_leaves (refused n) cs) (count_done_of w h pic s cs)) e

  -- no refusal
  pub count_done : {r : ℕ} → r ≡ first (count_rows w h pic s (length cs)) → r ≡ 0 → count_done_of w h pic s cs ≡ count_of w h pic s cs
  unfolding count_of
  count_done e z = ap (λ k. unless k (λ n. count_leaves (refused n) cs) (count_done_of w h pic s cs)) (sym z ∙ e)

  -- the counts are laid down
  pub count_well : {r : ℕ} {c : List ℕ} → r ≡ first (count_rows w h pic s (length cs)) → r ≡ 0 → c ≡ onto cs (countings w h pic s) → count_leaves (accepted tt) c ≡ count_of w h pic s cs
  unfolding count_done_of
  count_well e z q = ap (count_leaves (accepted tt)) q ∙ count_done e z
