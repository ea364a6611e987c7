-- Laws of four counts that are added up: what `count_four`, `count_quarters` and `count_rows` do to them.
-- Assumes nothing.
use Prim.Native.Nat.{ℕ, ◌+◌, ◌-◌, ◌≤◌, ◌<◌}
use mathlib.Core.Bool.{true}
use mathlib.Core.List.{List, [], ◌∷◌, ◌++◌, map}
use mathlib.Core.Path.{◌≡◌, refl, sym, ap, subst, ◌∙◌}
use lib.ListN.{length, take, drop, get_or, replicate, get_or-replicate, length-replicate, length-map, length-take, length-drop, take-append-drop}
use lib.Seq.{take_all, take-suc}
use native.Mathlib.Numerals.{add-one}
use native.Mathlib.Omega.{arith}
use Rattle.base_lists.specs.Lists.{joined, times, all, filled, onto}
use Rattle.base_lists.proofs.Tabs.{map_append}
use Rattle.base_lists.proofs.Fills.{joined_suc, filled_onto}
use Rattle.base_lists.proofs.Tallies.{times_append, times_le, filled_cong}
use Rattle.base_lists.proofs.Alls.{all_one, all_at, all_take, all_drop}
use Rattle.tile_count.specs.declared.Rect.{Rect}
use Rattle.base_range.specs.Scan.{within}
use Rattle.tile_bin.specs.Binning.{bin_of, factor_of}
use Rattle.tile_count.specs.Tally.{greys_of, counts_of, added_of, four_at, CountRowAsks, FourAsks, FourAdded, CountRectAsks, CountRowsAsks, AddUpAsks}
use Rattle.tile_count.proofs.Cuts.{passed, part_more, part_room, part_at}
use Rattle.tile_count.proofs.Counts.{get_or_added, length_added}
use Rattle.tile_count.proofs.Greys.{row_of, rows_whole, rows_room, length_greys, row_all}

pub four_none : (lo hi n : ℕ) (a b c d : List ℕ) → FourAdded [] lo hi n a b c d a b c d
unfolding times
four_none lo hi n a b c d = record { lengtha = refl; lengthb = refl; lengthc = refl; lengthd = refl; sum = λ k l. omega arith }

pub four_more : {vs ws : List ℕ} {lo hi n : ℕ} {a₀ b₀ c₀ d₀ a b c d a' b' c' d' : List ℕ} → FourAdded vs lo hi n a₀ b₀ c₀ d₀ a b c d → FourAdded ws lo hi n a b c d a' b' c' d'
    → FourAdded (vs ++ ws) lo hi n a₀ b₀ c₀ d₀ a' b' c' d'
four_more {vs} {ws} {lo} {hi} {n} f g =
    record {
      lengtha = g.lengtha ∙ f.lengtha;
      lengthb = g.lengthb ∙ f.lengthb;
      lengthc = g.lengthc ∙ f.lengthc;
      lengthd = g.lengthd ∙ f.lengthd;
      sum = λ k l. omega (arith, g.sum k l, f.sum k l, ap (times k) (map_append (bin_of lo hi n) vs ws), times_append k (map (bin_of lo hi n) vs) (map (bin_of lo hi n) ws));
    }

-- ---- one row

-- before the first grey
pub four_start : (row : List ℕ) (lo hi n : ℕ) (a b c d : List ℕ) (x : ℕ) → x ≡ 0 → FourAdded (take x row) lo hi n a b c d a b c d
four_start row lo hi n a b c d x e = subst (λ t. FourAdded (take t row) lo hi n a b c d a b c d) (sym e) (four_none lo hi n a b c d)

-- all that were to be passed
pub four_end : (row : List ℕ) {lo hi n : ℕ} (x to : ℕ) {a₀ b₀ c₀ d₀ a b c d : List ℕ} → FourAdded (take x row) lo hi n a₀ b₀ c₀ d₀ a b c d → x ≡ to → FourAdded (take to row) lo hi n a₀ b₀ c₀ d₀ a b c d
four_end row {lo} {hi} {n} x to {a₀} {b₀} {c₀} {d₀} {a} {b} {c} {d} so e = subst (λ t. FourAdded (take t row) lo hi n a₀ b₀ c₀ d₀ a b c d) e so

-- greys added to one count alone
four_first : {vs : List ℕ} {lo hi n : ℕ} {a b c d a' : List ℕ} → n ≤ length a → a' ≡ added_of lo hi n a vs → FourAdded vs lo hi n a b c d a' b c d
four_first {vs} {lo} {hi} {n} {a} h e =
    record {
      lengtha = ap length e ∙ length_added lo hi n a vs h;
      lengthb = refl;
      lengthc = refl;
      lengthd = refl;
      sum = λ k l. omega (arith, ap (λ z. get_or z k 0) e, get_or_added lo hi n a vs k l);
    }

-- a number in the front of a list, and in four entries more
times_four : (f : ℕ → ℕ) (k : ℕ) (xs : List ℕ) (x : ℕ) → x + 3 < length xs
    → times k (map f (take (x + 4) xs)) ≡ times k (map f (take x xs)) + times k (map f (get_or xs x 0 ∷ [])) + times k (map f (get_or xs (x + 1) 0 ∷ []))
    + times k (map f (get_or xs (x + 2) 0 ∷ [])) + times k (map f (get_or xs (x + 3) 0 ∷ []))
times_four f k xs x h = omega (arith, step x (x + 1) refl (omega arith), step (x + 1) (x + 2) (omega arith) (omega arith), step (x + 2) (x + 3) (omega arith) (omega arith), step (x + 3) (x + 4) (omega arith) (omega arith))
  where
    at : List ℕ → ℕ
    at ys = times k (map f ys)

    step : (i j : ℕ) → j ≡ i + 1 → i < length xs → at (take j xs) ≡ at (take i xs) + at (get_or xs i 0 ∷ [])
    step i j e l =
        let one : take (i + 1) xs ≡ take i xs ++ (get_or xs i 0 ∷ []) = rw add-one (take-suc xs i 0 l) in
        ap (λ t. at (take t xs)) e ∙ ap at one ∙ ap (times k) (map_append f (take i xs) (get_or xs i 0 ∷ [])) ∙ times_append k (map f (take i xs)) (map f (get_or xs i 0 ∷ []))

module _ {row : List ℕ} {lo hi n factor : ℕ} {a₀ b₀ c₀ d₀ : List ℕ} (asks : FourAsks row lo hi n factor a₀ b₀ c₀ d₀) {a b c d : List ℕ} (x : ℕ)
    (so : FourAdded (take x row) lo hi n a₀ b₀ c₀ d₀ a b c d) where
  -- what greys behind the first x ask of one of the counts
  more_asks : (vs z : List ℕ) → all (within lo hi) vs ≡ true → x + length vs ≤ length row → n ≤ length z → ((k : ℕ) → get_or z k 0 ≤ four_at a b c d k)
      → CountRowAsks vs lo hi n factor z
  more_asks vs z g l h le =
      record {
        by = asks.by;
        most = asks.most;
        some = asks.some;
        room = h;
        greys = g;
        fits = λ k q. omega (
          arith,
          le k,
          so.sum k q,
          asks.fits k q,
          times_le k (map (bin_of lo hi n) (take x row)),
          length-map (take x row) (bin_of lo hi n),
          length-take x row,
        );
      }

  -- four that were cut off from what is left
  module _ {rest : List ℕ} (is : x ≡ passed row rest) (left : rest ≡ drop (passed row rest) row) (four rest' : List ℕ) (cut : rest ≡ four ++ rest') (size : length four ≡ 4) where
    room : x + 3 < length row
    room = omega (arith, is, part_more row left four rest' cut, part_room row left four rest' cut, size)

    at : (i : ℕ) → i < 4 → get_or four i 0 ≡ get_or row (x + i) 0
    at i h = part_at row left four rest' cut 0 i (omega (arith, size)) ∙ ap (λ n. get_or row (n + i) 0) (sym is)

    -- what one of the next four asks of its count
    next_of : (z : List ℕ) (i : ℕ) → i < 4 → n ≤ length z → ((k : ℕ) → get_or z k 0 ≤ four_at a b c d k) → CountRowAsks (get_or four i 0 ∷ []) lo hi n factor z
    next_of z i p h le = more_asks (get_or four i 0 ∷ []) z (all_one (within lo hi) (rw (at i p) (all_at (within lo hi) row asks.greys (x + i) 0 (omega (arith, room))))) (omega (arith, room)) h le

    pub first_asks : CountRowAsks (get_or four 0 0 ∷ []) lo hi n factor a
    first_asks = next_of a 0 (omega arith) (omega (arith, so.lengtha, asks.rooma)) (λ k. omega arith)

    pub second_asks : CountRowAsks (get_or four 1 0 ∷ []) lo hi n factor b
    second_asks = next_of b 1 (omega arith) (omega (arith, so.lengthb, asks.roomb)) (λ k. omega arith)

    pub third_asks : CountRowAsks (get_or four 2 0 ∷ []) lo hi n factor c
    third_asks = next_of c 2 (omega arith) (omega (arith, so.lengthc, asks.roomc)) (λ k. omega arith)

    pub fourth_asks : CountRowAsks (get_or four 3 0 ∷ []) lo hi n factor d
    fourth_asks = next_of d 3 (omega arith) (omega (arith, so.lengthd, asks.roomd)) (λ k. omega arith)

    -- a number of one of them
    one_at : (k i j : ℕ) → i < 4 → x + i ≡ j → times k (map (bin_of lo hi n) (get_or four i 0 ∷ [])) ≡ times k (map (bin_of lo hi n) (get_or row j 0 ∷ []))
    one_at k i j p e = ap (λ v. times k (map (bin_of lo hi n) (v ∷ []))) (at i p ∙ ap (λ m. get_or row m 0) e)

    -- four greys more
    pub four_next : {a' b' c' d' : List ℕ} → a' ≡ added_of lo hi n a (get_or four 0 0 ∷ []) → b' ≡ added_of lo hi n b (get_or four 1 0 ∷ [])
        → c' ≡ added_of lo hi n c (get_or four 2 0 ∷ []) → d' ≡ added_of lo hi n d (get_or four 3 0 ∷ [])
        → FourAdded (take (passed row rest') row) lo hi n a₀ b₀ c₀ d₀ a' b' c' d'
    four_next {a'} {b'} {c'} {d'} p q r s =
        subst (λ m. FourAdded (take m row) lo hi n a₀ b₀ c₀ d₀ a' b' c' d') to
        record {
          lengtha = ap length p ∙ length_added lo hi n a _ first_asks.room ∙ so.lengtha;
          lengthb = ap length q ∙ length_added lo hi n b _ second_asks.room ∙ so.lengthb;
          lengthc = ap length r ∙ length_added lo hi n c _ third_asks.room ∙ so.lengthc;
          lengthd = ap length s ∙ length_added lo hi n d _ fourth_asks.room ∙ so.lengthd;
          sum = λ k h. omega (
            arith,
            ap (λ z. get_or z k 0) p,
            get_or_added lo hi n a (get_or four 0 0 ∷ []) k h,
            ap (λ z. get_or z k 0) q,
            get_or_added lo hi n b (get_or four 1 0 ∷ []) k h,
            ap (λ z. get_or z k 0) r,
            get_or_added lo hi n c (get_or four 2 0 ∷ []) k h,
            ap (λ z. get_or z k 0) s,
            get_or_added lo hi n d (get_or four 3 0 ∷ []) k h,
            so.sum k h,
            times_four (bin_of lo hi n) k row x room,
            one_at k 0 x (omega arith) (omega arith),
            one_at k 1 (x + 1) (omega arith) refl,
            one_at k 2 (x + 2) (omega arith) refl,
            one_at k 3 (x + 3) (omega arith) refl,
          );
        }
      where
        to : x + 4 ≡ passed row rest'
        to = omega (arith, is, part_more row left four rest' cut, size)

  module _ (l : x ≤ length row) where
    -- what the rest of the row asks of the first count
    pub rest_asks : CountRowAsks (take (length row - x) (drop x row)) lo hi n factor a
    rest_asks =
        more_asks
        (take (length row - x) (drop x row))
        a
        (all_take (within lo hi) (length row - x) (drop x row) (all_drop (within lo hi) x row asks.greys))
        (omega (arith, length-take (length row - x) (drop x row)))
        (omega (arith, so.lengtha, asks.rooma))
        (λ k. omega arith)

    -- the whole row
    pub quarters : {a' : List ℕ} → a' ≡ added_of lo hi n a (take (length row - x) (drop x row)) → FourAdded row lo hi n a₀ b₀ c₀ d₀ a' b c d
    quarters {a'} e = subst (λ t. FourAdded t lo hi n a₀ b₀ c₀ d₀ a' b c d) whole (four_more so (four_first rest_asks.room e))
      where
        whole : take x row ++ take (length row - x) (drop x row) ≡ row
        whole = ap (λ t. take x row ++ t) (take_all (length row - x) (drop x row) (omega (arith, length-drop x row))) ∙ take-append-drop x row

-- ---- row by row

module _ {pic : List ℕ} {stride : ℕ} {r : Rect} {lo hi n factor : ℕ} {a₀ b₀ c₀ d₀ : List ℕ} (asks : CountRowsAsks pic stride r lo hi n factor a₀ b₀ c₀ d₀) where
  pub rows_none : FourAdded (joined 0 (row_of pic stride r)) lo hi n a₀ b₀ c₀ d₀ a₀ b₀ c₀ d₀
  unfolding joined
  rows_none = four_none lo hi n a₀ b₀ c₀ d₀

  module _ {a b c d : List ℕ} (y : ℕ) (so : FourAdded (joined y (row_of pic stride r)) lo hi n a₀ b₀ c₀ d₀ a b c d) (h : y < r.height) {row : List ℕ} (q : row ≡ row_of pic stride r y) where
    -- what the next row asks
    pub rows_asks : FourAsks row lo hi n factor a b c d
    rows_asks =
        rw q
        record {
          by = asks.by;
          most = asks.asks.scale.most;
          some = omega (arith, asks.asks.scale.some);
          rooma = omega (arith, so.lengtha, asks.asks.enough);
          roomb = omega (arith, so.lengthb, asks.roomb);
          roomc = omega (arith, so.lengthc, asks.roomc);
          roomd = omega (arith, so.lengthd, asks.roomd);
          greys = row_all (within lo hi) pic stride r asks.asks.greys y h;
          fits = λ k l. omega (
            arith,
            so.sum k l,
            asks.fits k l,
            times_le k (map (bin_of lo hi n) (joined y (row_of pic stride r))),
            length-map (joined y (row_of pic stride r)) (bin_of lo hi n),
            rows_room pic stride r y h,
          );
        }

    -- one row more
    pub rows_more : {a' b' c' d' : List ℕ} → FourAdded row lo hi n a b c d a' b' c' d'
        → FourAdded (joined (y + 1) (row_of pic stride r)) lo hi n a₀ b₀ c₀ d₀ a' b' c' d'
    rows_more {a'} {b'} {c'} {d'} g = subst (λ t. FourAdded t lo hi n a₀ b₀ c₀ d₀ a' b' c' d') (sym (joined_suc y (row_of pic stride r))) (four_more so (subst (λ t. FourAdded t lo hi n a b c d a' b' c' d') q g))

  pub rows_all : {a b c d : List ℕ} (y : ℕ) → FourAdded (joined y (row_of pic stride r)) lo hi n a₀ b₀ c₀ d₀ a b c d → y ≤ r.height → r.height ≤ y → FourAdded (greys_of pic stride r) lo hi n a₀ b₀ c₀ d₀ a b c d
  rows_all {a} {b} {c} {d} y so h l = subst (λ t. FourAdded t lo hi n a₀ b₀ c₀ d₀ a b c d) (rows_whole pic stride r y h l) so

-- ---- the whole rectangle

-- four counts that are clear are none
four_clear : {n m k : ℕ} → k < n → n ≤ m → four_at (replicate m 0) (replicate m 0) (replicate m 0) (replicate m 0) k ≡ 0
four_clear {m = m} {k = k} l few = omega (arith, get_or-replicate {A = ℕ} m k 0 0 (omega arith))

module _ {pic : List ℕ} {stride : ℕ} {r : Rect} {lo hi n factor m : ℕ} {room : ℕ} (asks : CountRectAsks pic stride r lo hi n room) (by : factor ≡ factor_of lo hi n) (few : n ≤ m) where
  enough : n ≤ length (replicate {A = ℕ} m 0)
  enough = rw (length-replicate {A = ℕ} m 0) few

  -- what the rows ask
  pub ways_asks : CountRowsAsks pic stride r lo hi n factor (replicate m 0) (replicate m 0) (replicate m 0) (replicate m 0)
  ways_asks =
      record {
        asks = record { inside = asks.inside; scale = asks.scale; enough = enough; greys = asks.greys };
        by = by;
        roomb = enough;
        roomc = enough;
        roomd = enough;
        fits = λ k l. omega (arith, four_clear {k = k} l few, asks.inside.few);
      }

  module _ {a b c d : List ℕ} (so : FourAdded (greys_of pic stride r) lo hi n (replicate m 0) (replicate m 0) (replicate m 0) (replicate m 0) a b c d) where
    -- what adding up asks
    pub ways_fit : AddUpAsks a b c d n room
    ways_fit =
        record {
          rooma = omega (arith, so.lengtha, enough);
          roomb = omega (arith, so.lengthb, enough);
          roomc = omega (arith, so.lengthc, enough);
          roomd = omega (arith, so.lengthd, enough);
          enough = asks.enough;
          fits = λ k l. omega (arith, so.sum k l, ways_asks.fits k l, times_le k (map (bin_of lo hi n) (greys_of pic stride r)), length-map (greys_of pic stride r) (bin_of lo hi n), length_greys pic stride r);
        }

    -- and what it comes to
    pub ways_end : (cs : List ℕ) {x : List ℕ} → x ≡ filled (four_at a b c d) cs n → x ≡ onto cs (counts_of lo hi n (greys_of pic stride r))
    unfolding counts_of
    ways_end cs h = h ∙ filled_cong {g = counted} cs n (λ k l. let q : four_at a b c d k ≡ counted k = omega (arith, so.sum k l, four_clear {k = k} l few) in q) ∙ filled_onto counted cs n
      where
        counted : ℕ → ℕ
        counted k = times k (map (bin_of lo hi n) (greys_of pic stride r))
