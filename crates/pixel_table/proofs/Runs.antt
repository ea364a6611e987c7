-- A run from a table that holds a factor of 2^50, and from one that holds the sums as they are.
-- Assumes nothing.
use Prim.Native.Nat.{ℕ, ◌+◌, ◌*◌, ◌/◌, ◌≤◌, ◌<◌}
use mathlib.Core.List.{List}
use mathlib.Core.Path.{◌≡◌, refl}
use native.Mathlib.Omega.{arith}
use lib.ListN.{length, get_or}
use Rattle.pixel_place.specs.declared.Place.{Place}
use Rattle.pixel_place.proofs.Laws.{spans_some}
use Rattle.pixel_table.specs.Table.{patch_of, blended_run, entry_of, sum_at, moved_run, Scaled, MoveAsks, RunAsks, Within}
use Rattle.pixel_table.proofs.Tables.{factor_scaled, none_scaled}
use Rattle.pixel_table.proofs.Turns.{Divides, factor_divides, none_divides, table_length, run_asks, run_blended, run_sums}

module _ {column row : Place} {a b c d : List ℕ} {n : ℕ} {ks : List ℕ} (asks : RunAsks column row a b c d n ks) where
  -- a factor of 2^50, for spans of at most 2^19
  module _ (few : column.span * row.span ≤ 524288) {low top : ℕ} (u : List ℕ) (reach : Within low top n (length u) ks)
      {t : List ℕ} (e : t ≡ patch_of (entry_of (1125899906842624 / (column.span * row.span) + 1) column row a b c d) u (2 * low) (2 * top)) where
    scaled : Scaled (1125899906842624 / (column.span * row.span) + 1) column row
    scaled = factor_scaled asks.column asks.row few

    divides : Divides (1125899906842624 / (column.span * row.span) + 1) 1125899906842624 (column.span * row.span)
    divides = factor_divides (column.span * row.span) (spans_some asks.column asks.row) few

    pub shifted_length : length t ≡ length u
    shifted_length = table_length asks 1125899906842624 scaled divides u reach e

    pub shifted_asks : MoveAsks t column.upperweight (row.span * 4095 * (1125899906842624 / (column.span * row.span) + 1)) 0 (length ks) ks
    shifted_asks = run_asks asks 1125899906842624 scaled divides u reach e

    pub shifted_blended : {ys : List ℕ} → ys ≡ moved_run 1125899906842624 t column.upperweight (row.span * 4095 * (1125899906842624 / (column.span * row.span) + 1)) ks → ys ≡ blended_run column row a b c d ks
    shifted_blended f = run_blended asks 1125899906842624 scaled divides u reach e f

  -- no factor
  module _ {low top : ℕ} (u : List ℕ) (reach : Within low top n (length u) ks) {t : List ℕ} (e : t ≡ patch_of (entry_of 1 column row a b c d) u (2 * low) (2 * top)) where
    plain : Scaled 1 column row
    plain = none_scaled asks.column asks.row

    once : row.span * 4095 ≡ row.span * 4095 * 1
    once = omega arith

    pub plain_length : length t ≡ length u
    plain_length = table_length asks (column.span * row.span) plain (none_divides (column.span * row.span)) u reach e

    pub plain_asks : MoveAsks t column.upperweight (row.span * 4095) 0 (length ks) ks
    plain_asks = rw once (run_asks asks (column.span * row.span) plain (none_divides (column.span * row.span)) u reach e)

    pub plain_blended : {ys : List ℕ} → ys ≡ moved_run (column.span * row.span) t column.upperweight (row.span * 4095) ks → ys ≡ blended_run column row a b c d ks
    plain_blended f = run_blended asks (column.span * row.span) plain (none_divides (column.span * row.span)) u reach e (rw once at f)

    -- what is divided by both spans
    pub plain_sums : (i : ℕ) → i < length ks → sum_at t (row.span * 4095) (column.upperweight + i) (get_or ks i 0) ≤ column.span * row.span * 4095
    plain_sums i h = rw once (run_sums asks (column.span * row.span) plain (none_divides (column.span * row.span)) u reach e i h refl)
