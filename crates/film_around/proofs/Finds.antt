-- The value of a bin by the counts in the front of the scratch: by those of some bins in a row, where these are all pixels, or by all of them.
-- Assumes nothing.
use Prim.Native.Nat.{ℕ, zero, suc, ◌+◌, ◌-◌, ◌≤◌, ◌<◌}
use mathlib.Core.List.{List, [], ◌∷◌, ◌++◌}
use mathlib.Core.Path.{◌≡◌, refl, sym, ap, ap₂, ◌∙◌, subst}
use lib.ListN.{length, length-drop, take, drop, get_or, take-append-drop}
use lib.Seq.{take_all, length-take-le, get_or-take}
use native.Mathlib.Omega.{arith}
use borrow.Rule.Slice.PartMut.{put_mid}
use Rattle.base_lists.specs.Lists.{total, tab, over}
use Rattle.base_lists.proofs.Tabs.{eq_tab, tab_cong}
use Rattle.base_lists.proofs.Sums.{total_take_drop}
use Rattle.base_lists.proofs.Tallies.{part_tab}
use Rattle.base_lists.proofs.Windows.{length_part}
use Rattle.base_lists.proofs.Fills.{length_over}
use Rattle.base_lists.proofs.Maps.{over_part, onto_whole}
use Rattle.base_lists.proofs.Parts.{over_here, over_later}
use Rattle.tile_clip.specs.Spans.{framed}
use Rattle.tile_map.specs.Tile.{clipped_by, divided_by, mapped_of}
use Rattle.tile_map.proofs.Tiles.{length_clipped_by}
use Rattle.film_settings.specs.declared.Settings.{Settings}
use Rattle.std.proofs.Common.{Option, Some, None}
use Rattle.std.specs.Option.{IfSome}
use Rattle.tile_value.specs.Value.{ValueAsks, ValueGiven, SpanValueAsks, SpanValueGiven}
use Rattle.film_around.specs.Around.{FoundAsks, FoundIn}
use Rattle.film_around.proofs.Twins.{front_over, twin_length, twin_part_lem, twin_front, twin_behind, twin_size}

-- ---- counts that are all in some bins in a row

none_at : (xs : List ℕ) (i : ℕ) → total xs ≡ 0 → get_or xs i 0 ≡ 0
unfolding total
none_at [] i e = refl
none_at (x ∷ xs) zero e = omega arith
none_at (x ∷ xs) (suc i) e = none_at xs i (omega arith)

empty_is : (xs : List ℕ) (n : ℕ) → length xs ≡ n → total xs ≡ 0 → xs ≡ tab n (λ k. 0)
empty_is xs n l e = eq_tab xs n (λ k. 0) 0 l (λ i h. none_at xs i e)

-- the others are empty
framed_by : (b low m : ℕ) (cs : List ℕ) → length cs ≡ b → low + m ≤ b → total (take m (drop low cs)) ≡ total cs → cs ≡ framed 0 b low (take m (drop low cs))
unfolding framed
framed_by b low m cs l r e =
    let long : length (take m (drop low cs)) ≡ m = length_part cs m low (omega arith) in
    let one = total_take_drop low cs in
    let two = total_take_drop m (drop low cs) in
    sym (take-append-drop low cs)
    ∙ ap₂ (λ x y. x ++ y) (empty_is (take low cs) low (length-take-le low cs (omega arith)) (omega (arith, one, two)))
    (sym (take-append-drop m (drop low cs))
    ∙ ap (λ y. take m (drop low cs) ++ y)
    (empty_is (drop m (drop low cs)) (b - (low + length (take m (drop low cs)))) (omega (arith, length-drop m (drop low cs), length-drop low cs, long)) (omega (arith, one, two))))

-- a value that equals x where it is known equals what x does
same_value : (f : Option ℕ) {x y : ℕ} → x ≡ y → IfSome f (λ v. v ≡ x) → IfSome f (λ v. v ≡ y)
same_value None e h = tt
same_value (Some v) e h = h ∙ e

-- ---- the steps of `found_in`

module _ {s : Settings} {n k b : ℕ} {t : List ℕ} (asks : FoundAsks s n k b t) where
  -- nothing was looked at
  pub not_found : FoundIn s n k b t t None
  not_found = record { front = λ i l. refl; behind = refl; size = refl; value = tt }

  front_long : length (take b t) ≡ b
  front_long = length-take-le b t (omega (arith, asks.room))

  front_total : total (take b t) ≡ n
  front_total = asks.asks.counted.all_pixels

  module _ {low end : ℕ} (at : low ≤ k) (before : k < end) (last : end ≤ b) where
    part_same : take (end - low) (drop low (take b t)) ≡ take (end - low) (drop low t)
    part_same =
        part_tab (take b t) low (end - low) (omega (arith, front_long))
        ∙ tab_cong (end - low) (λ i h. get_or-take b t (low + i) 0 (omega arith))
        ∙ sym (part_tab t low (end - low) (omega (arith, asks.room)))

    part_some : total (take (end - low) (drop low t)) ≤ n
    part_some = omega (arith, ap total part_same, total_take_drop (end - low) (drop low (take b t)), total_take_drop low (take b t), front_total)

    -- what adding it up asks
    pub sum_asks : (end - low - 1 < length (take (end - low) (drop low t))) × (total (take (end - low) (drop low t)) ≤ 4198400)
    sum_asks = (omega (arith, length_part t (end - low) low (omega (arith, asks.room))), omega (arith, part_some, asks.asks.counted.few_pixels))

    module _ {sum : ℕ} (added : sum ≡ total (take (end - low - 1 + 1) (take (end - low) (drop low t)))) (all : sum ≡ n) where
      sum_part : total (take (end - low) (drop low t)) ≡ n
      sum_part =
          let m : end - low - 1 + 1 ≡ length (take (end - low) (drop low t)) = omega (arith, length_part t (end - low) low (omega (arith, asks.room))) in
          let z : take (end - low - 1 + 1) (take (end - low) (drop low t)) ≡ take (end - low) (drop low t) = ap (λ j. take j (take (end - low) (drop low t))) m ∙ take_all (length (take (end - low) (drop low t))) (take (end - low) (drop low t)) (omega arith) in
          ap total (sym z) ∙ sym added ∙ all

      counts_framed : take b t ≡ framed 0 b low (take (end - low) (drop low t))
      counts_framed =
          framed_by b low (end - low) (take b t) front_long (omega arith) (ap total part_same ∙ sum_part ∙ sym front_total)
          ∙ ap (framed 0 b low) part_same

      module _ {t' : List ℕ} (e : t' ≡ over t b (take (end - low) (drop low t))) where
        part_long : length (take (end - low) (drop low t)) ≡ end - low
        part_long = length_part t (end - low) low (omega (arith, asks.room))

        copy_long : length t' ≡ length t
        copy_long = ap length e ∙ length_over t b (take (end - low) (drop low t)) (omega (arith, part_long, asks.room))

        pub copy_room : b + (end - low) ≤ length t'
        copy_room = omega (arith, copy_long, asks.room)

        -- the copy is lent
        copy_part : take (b + (end - low) - b) (drop b t') ≡ take (end - low) (drop low t)
        copy_part =
            let m : b + (end - low) - b ≡ length (take (end - low) (drop low t)) = omega (arith, part_long) in
            ap₂ (λ j z. take j (drop b z)) m e ∙ over_here t (take (end - low) (drop low t)) b (omega (arith, asks.room))

        copy_framed : take b t ≡ framed 0 b low (take (b + (end - low) - b) (drop b t'))
        copy_framed = counts_framed ∙ ap (framed 0 b low) (sym copy_part)

        pub span_asks : SpanValueAsks s.clip n s.min s.max k b low (take (b + (end - low) - b) (drop b t'))
        span_asks =
            record {
              whole = subst (λ cs. ValueAsks s.clip n s.min s.max k cs) copy_framed asks.asks;
              within = omega (arith, ap length copy_part, part_long);
              first = at;
              last = omega (arith, ap length copy_part, part_long);
            }

        pub span_found : {ds : List ℕ} {f : Option ℕ} → SpanValueGiven s.edition s.clip n s.min s.max k b low (take (b + (end - low) - b) (drop b t')) ds f
            → FoundIn s n k b t (put_mid b (b + (end - low) - b) t' ds) f
        span_found {ds} {f} given =
            let m : length ds ≡ end - low = given.size ∙ ap length copy_part ∙ part_long in
            let written : put_mid b (b + (end - low) - b) t' ds ≡ over t' b ds =
            over_part t' ds b (end - low) copy_room m (sym (onto_whole (take (b + (end - low) - b) (drop b t')) ds (omega (arith, ap length copy_part, part_long, m)))) in
            record {
              front = λ i l.
                  ap (λ z. get_or z i 0) written ∙ front_over t' b ds i (omega (arith, copy_long, asks.room)) l
                  ∙ ap (λ z. get_or z i 0) e ∙ front_over t b (take (end - low) (drop low t)) i (omega (arith, asks.room)) l;
              behind =
                  ap (drop (b + b)) written ∙ over_later t' ds b (b + b) (omega (arith, m)) (omega (arith, copy_long, asks.room))
                  ∙ ap (drop (b + b)) e ∙ over_later t (take (end - low) (drop low t)) b (b + b) (omega (arith, part_long)) (omega (arith, asks.room));
              size = ap length written ∙ length_over t' b ds (omega (arith, copy_long, asks.room, m)) ∙ copy_long;
              value = same_value f (ap (λ cs. mapped_of s.min s.max (divided_by s.edition s.clip n cs) (clipped_by s.edition s.clip n cs) k) (sym copy_framed)) given.value;
            }

  -- ---- the steps of `found_whole`

  module _ {t' : List ℕ} (e : t' ≡ over t b (take b t)) where
    pub whole_room : b + b ≤ length t'
    whole_room = omega (arith, twin_length t b asks.room e, asks.room)

    pub whole_asks : ValueAsks s.clip n s.min s.max k (take (b + b - b) (drop b t'))
    whole_asks = subst (λ cs. ValueAsks s.clip n s.min s.max k cs) (sym (twin_part_lem t b asks.room e)) asks.asks

    pub whole_found : {ds : List ℕ} {v : ℕ} → ValueGiven s.edition s.clip n s.min s.max k (take (b + b - b) (drop b t')) ds v → FoundIn s n k b t (put_mid b (b + b - b) t' ds) (Some v)
    whole_found {ds} {v} given =
        let same = twin_part_lem t b asks.room e in
        let m : length ds ≡ b = ap length given.counts ∙ length_clipped_by s.edition s.clip n (take (b + b - b) (drop b t')) ∙ ap length same ∙ front_long in
        record {
          front = twin_front t b asks.room e ds m;
          behind = twin_behind t b asks.room e ds m;
          size = twin_size t b asks.room e ds m;
          value = given.value ∙ ap (λ cs. mapped_of s.min s.max (divided_by s.edition s.clip n cs) (clipped_by s.edition s.clip n cs) k) same;
        }
