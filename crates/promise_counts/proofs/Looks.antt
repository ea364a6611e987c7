-- What mapping leaves in its list, of any counts that it accepts: each tile's entries are those of its counts.
-- A name with ' is lent memory at the end.
-- Assumes nothing.
use Prim.Native.Nat.{ℕ, ◌*◌, ◌<◌}
use mathlib.Core.Bool.{Bool, true, false, cond}
use mathlib.Core.Path.{◌≡◌, refl, sym, ap, ◌∙◌}
use lib.ListN.{length, drop}
use Rattle.base_lists.specs.Lists.{onto}
use Rattle.base_rows.specs.Refuse.{accepted}
use Rattle.film_settings.specs.declared.MapRecord.{MapRecord}
use Rattle.film_settings.specs.declared.Footer.{Footer}
use Rattle.film_settings.specs.Settings.{clip_one_of, bins_of}
use Rattle.film_tiles.specs.Tiles.{spent_entries}
use Rattle.film_prepare.specs.Prepare.{PrepareOut}
use Rattle.film_count.specs.Counting.{counts_in}
use Rattle.film_map.specs.Counts.{spent_from, spents_from, map_done_of}
use Rattle.film_map.proofs.Tiles.{length_counts_in}
use Rattle.film_map.proofs.Spents.{counted_excess, counted_looks, counted_behind}
use Rattle.promise_films.specs.Looks.{excess_at, looks_at}
use Rattle.promise_films.proofs.Accepted.{table_done}
use Rattle.promise_counts.proofs.Runs.{MapCall, Maps, map_ends}
use Rattle.promise_counts.proofs.Tables.{map_table, map_known}

-- ---- of any counts, whoever wrote them

module _ {d : MapCall} {r : MapRecord} {foot : Footer} (ran : Maps d) (mapped : d.answer ≡ accepted (r, foot)) where
  -- at the factor 1.0 the list stays; else the tiles' entries lie in its front
  pub left_list : d.list' ≡ cond (clip_one_of d.settings.clip) d.list (onto d.list (spents_from d.width d.height d.settings d.counts))
  unfolding map_done_of
  left_list =
      let x = map_ends ran in
      ap (λ (y : PrepareOut). y.list) (x ∙ table_done (map_table _ _ _ _ _ _ _ _) (sym (ap (λ (y : PrepareOut). y.answer) x) ∙ mapped))

  -- where the factor is not 1.0, the entries of tile k are those of its counts
  pub entries_by : clip_one_of d.settings.clip ≡ false → (k : ℕ) → k < d.settings.across * d.settings.down
      → (excess_at d.list' k ≡ (spent_from d.width d.height d.settings d.counts k).excess)
      × (looks_at d.list' k ≡ (spent_from d.width d.height d.settings d.counts k).looks)
  entries_by one k l =
      let e = left_list ∙ ap (λ b. cond b d.list (onto d.list (spents_from d.width d.height d.settings d.counts))) one in
      (ap (λ xs. excess_at xs k) e ∙ counted_excess _ _ d.settings d.counts d.list l, ap (λ xs. looks_at xs k) e ∙ counted_looks _ _ d.settings d.counts d.list l)

  -- they are of as many counts as there are bins
  pub counts_long : (k : ℕ) → k < d.settings.across * d.settings.down → length (counts_in d.settings d.counts k) ≡ bins_of d.settings
  counts_long k l = length_counts_in record { film = (map_known ran mapped).film; tile = l }

  -- behind the last tile the list is as it was
  pub list_behind : drop (spent_entries d.settings) d.list' ≡ drop (spent_entries d.settings) d.list
  list_behind = ap (drop (spent_entries d.settings)) left_list ∙ go (clip_one_of d.settings.clip)
    where
      go : (b : Bool)
          → drop (spent_entries d.settings) (cond b d.list (onto d.list (spents_from d.width d.height d.settings d.counts)))
          ≡ drop (spent_entries d.settings) d.list
      go true = refl
      go false = counted_behind d.width d.height d.settings d.counts d.list
