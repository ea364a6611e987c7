-- A header is found exactly where the grammar has one, and the grammar allows one reading only.
-- Assumes nothing.
use Prim.Native.Nat.{ℕ, zero, suc, ◌+◌, ◌-◌, ◌*◌, ◌≤◌, ◌<◌}
use mathlib.Core.Bool.{Bool, true, false, ◌&&◌, cond}
use mathlib.Core.List.{List, [], ◌∷◌, ◌++◌, append_assoc}
use mathlib.Core.Logic.{◌↔◌}
use mathlib.Core.Path.{◌≡◌, refl, sym, ap, ◌∙◌}
use lib.Dec.{eqb}
use lib.ListN.{length, drop, get_or, length-append, length-drop}
use lib.Seq.{drop-cons, drop-append_seam, drop-drop, get_or-drop}
use native.Mathlib.Nat.{add-zero, not-suc-le-zero}
use native.Mathlib.Omega.{arith}
use native.Mathlib.Numerals.{add-one}
use borrow.Author.Tests.{eqb-true}
use Rattle.base_lists.specs.Lists.{all}
use Rattle.base_lists.proofs.Tabs.{and_left, and_right, and_both}
use Rattle.pgm_header.specs.Header.{Read, Misfit}
use Rattle.pgm_header.specs.Header.{Found, Refused}
use Rattle.pgm_header.specs.Header.{is_white_of, is_digit_of, misfit_of, white_of, digits_of, first_digit_of, number_of, then_head, head_end, head_fields, header_of}
use Rattle.pgm_header.specs.Grammar.{value_of, Numeral, Header}
use Rattle.pgm_header.proofs.Reading.{white_within, digit_within, digit_not_white, white_head, white_cons, white_step, digit_nil, digit_cons, digit_other, digit_step, first_digits, number_behind, end_found, behind_read, behind_found, header_magic, magic_within}

-- ---- bytes that stand at a place

-- the byte at a place is the first of those that stand there
pub byte_at : (s : List ℕ) (at : ℕ) {t : List ℕ} → drop at s ≡ t → get_or s at 0 ≡ get_or t 0 0
byte_at s at e = ap (λ i. get_or s i 0) (sym (add-zero at)) ∙ (sym (get_or-drop at s 0 0) ∙ ap (λ u. get_or u 0 0) e)

-- behind the bytes xs stands what follows them
pub drop_behind : (s : List ℕ) (at : ℕ) (xs : List ℕ) {t : List ℕ} → drop at s ≡ xs ++ t → drop (at + length xs) s ≡ t
drop_behind s at xs {t} e = sym (drop-drop (length xs) at s) ∙ (ap (drop (length xs)) e ∙ drop-append_seam xs t)

-- a byte that is there, and what follows it
pub drop_byte : (s : List ℕ) (at : ℕ) → at < length s → drop at s ≡ get_or s at 0 ∷ drop (at + 1) s
drop_byte s at l = drop-cons s at 0 l ∙ ap (λ i. get_or s at 0 ∷ drop i s) (sym (add-one at))

-- the first of some bytes that all pass a test passes it
pub all_first : (p : ℕ → Bool) (xs ys : List ℕ) → 0 < length xs → all p xs ≡ true → p (get_or (xs ++ ys) 0 0) ≡ true
unfolding all
all_first p [] ys l h = absurd (not-suc-le-zero l)
all_first p (x ∷ xs) ys l h = and_left (p x) _ h

-- white space is no digit
pub white_not_digit : (b : ℕ) → is_white_of b ≡ true → is_digit_of b ≡ false
white_not_digit b h = go (is_digit_of b) refl
  where
    go : (t : Bool) → is_digit_of b ≡ t → is_digit_of b ≡ false
    go true d = let q : true ≡ false = sym h ∙ digit_not_white b d in d ∙ q
    go false d = d

-- ---- what the grammar has is read

-- white space in front of another byte is passed over as a whole
pub white_run : (ws t : List ℕ) (i : ℕ) → all is_white_of ws ≡ true → is_white_of (get_or t 0 0) ≡ false → white_of (ws ++ t) i ≡ i + length ws
unfolding all
white_run [] t i a h = white_head t i h ∙ sym (add-zero i)
white_run (b ∷ ws) t i a h =
    white_cons b (ws ++ t) i (and_left (is_white_of b) _ a) ∙ (white_run ws t (i + 1) (and_right (is_white_of b) _ a) h ∙ omega arith)

digit_head : (t : List ℕ) (k v i : ℕ) → is_digit_of (get_or t 0 0) ≡ false → digits_of k t v i ≡ Read v i
digit_head [] k v i h = digit_nil k v i
digit_head (b ∷ bs) k v i h = digit_other b bs k v i h

-- digits for which there is room, in front of another byte, are read as a whole
pub digits_run : (ds t : List ℕ) (k v i : ℕ) → all is_digit_of ds ≡ true → length ds ≤ k → is_digit_of (get_or t 0 0) ≡ false
    → digits_of k (ds ++ t) v i ≡ Read (value_of v ds) (i + length ds)
unfolding all value_of
digits_run [] t k v i a l h = digit_head t k v i h ∙ ap (Read v) (sym (add-zero i))
digits_run (b ∷ ds) t zero v i a l h = absurd (not-suc-le-zero l)
digits_run (b ∷ ds) t (suc k) v i a l h =
    let place : i + 1 + length ds ≡ i + length (b ∷ ds) = omega arith in
    digit_cons b (ds ++ t) k v i (and_left (is_digit_of b) _ a)
    ∙ (digits_run ds t k (v * 10 + (b - 48)) (i + 1) (and_right (is_digit_of b) _ a) (omega arith) h ∙ ap (Read (value_of v (b ∷ ds))) place)

-- a number of the grammar starts with white space
pub numeral_white : {bs : List ℕ} {n : ℕ} → Numeral bs n → (t : List ℕ) → is_white_of (get_or (bs ++ t) 0 0) ≡ true
numeral_white x t = rw (x.bytes, append_assoc) (all_first is_white_of x.white (x.digits ++ t) x.some_white x.all_white)

-- a number of the grammar, with a byte behind it that is no digit, is read
pub number_reads : (s : List ℕ) (at : ℕ) (rest : List ℕ) {bs : List ℕ} {n : ℕ} → Numeral bs n → drop at s ≡ bs ++ rest → is_digit_of (get_or rest 0 0) ≡ false
    → number_of s at ≡ Read n (at + length bs)
number_reads s at rest {bs} {n} x e stop =
    number_behind s at (ap is_white_of (byte_at s at e) ∙ numeral_white x rest)
    ∙ (ap (first_digit_of s) (ap (λ u. white_of u at) cut ∙ white_run x.white (x.digits ++ rest) at x.all_white (digit_not_white _ first))
    ∙ (first_digits s start (ap is_digit_of (byte_at s start there) ∙ first)
    ∙ (ap (λ u. digits_of 5 u 0 start) there
    ∙ (digits_run x.digits rest 5 0 start x.all_digits x.few_digits stop ∙ (ap (λ v. Read v (start + length x.digits)) x.value ∙ ap (Read n) place)))))
  where
    start : ℕ
    start = at + length x.white

    cut : drop at s ≡ x.white ++ (x.digits ++ rest)
    cut = e ∙ (ap (λ u. u ++ rest) x.bytes ∙ append_assoc x.white x.digits rest)

    there : drop start s ≡ x.digits ++ rest
    there = drop_behind s at x.white cut

    first : is_digit_of (get_or (x.digits ++ rest) 0 0) ≡ true
    first = all_first is_digit_of x.digits rest x.some_digits x.all_digits

    place : start + length x.digits ≡ at + length bs
    place = omega (arith, ap length x.bytes, length-append x.white x.digits)

module _ {bs : List ℕ} {w h m : ℕ} {rest : List ℕ} (g : Header bs w h m rest) where
  from_width : drop 2 bs ≡ g.width ++ (g.height ++ (g.maxval ++ (g.last ∷ rest)))
  from_width = ap (drop 2) g.bytes

  from_height : drop (2 + length g.width) bs ≡ g.height ++ (g.maxval ++ (g.last ∷ rest))
  from_height = drop_behind bs 2 g.width from_width

  from_maxval : drop (2 + length g.width + length g.height) bs ≡ g.maxval ++ (g.last ∷ rest)
  from_maxval = drop_behind bs _ g.height from_height

  from_last : drop (2 + length g.width + length g.height + length g.maxval) bs ≡ g.last ∷ rest
  from_last = drop_behind bs _ g.maxval from_maxval

  place : 2 + length g.width + length g.height + length g.maxval + 1 ≡ length bs - length rest
  place =
      omega (
        arith,
        ap length g.bytes,
        length-append g.width (g.height ++ (g.maxval ++ (g.last ∷ rest))),
        length-append g.height (g.maxval ++ (g.last ∷ rest)),
        length-append g.maxval (g.last ∷ rest),
      )

  -- a header of the grammar is found
  pub header_complete : header_of bs ≡ Found w h m (length bs - length rest)
  header_complete =
      header_magic bs (ap (λ u. get_or u 0 0) g.bytes) (ap (λ u. get_or u 1 0) g.bytes)
      ∙ (behind_read _ (number_reads bs 2 _ g.width_is from_width (white_not_digit _ (numeral_white g.height_is _)))
      ∙ (behind_read _ (number_reads bs _ _ g.height_is from_height (white_not_digit _ (numeral_white g.maxval_is _)))
      ∙ (behind_read _ (number_reads bs _ _ g.maxval_is from_maxval (white_not_digit _ g.last_white))
      ∙ (end_found bs w h m _ (ap is_white_of (byte_at bs _ from_last) ∙ g.last_white) ∙ ap (Found w h m) place))))

  -- it takes more than two of the bytes
  pub header_longer : length rest + 2 < length bs
  header_longer = omega (arith, place)

  -- and what is left stands behind it
  pub header_rest : drop (length bs - length rest) bs ≡ rest
  header_rest = ap (λ e. drop e bs) (sym place) ∙ drop_behind bs (2 + length g.width + length g.height + length g.maxval) (g.last ∷ []) from_last

-- ---- what is read, the grammar has

-- the bytes xs stand from a place i to a place e, and all of them pass a test
pub record Run (p : ℕ → Bool) (s : List ℕ) (i : ℕ) (xs : List ℕ) (e : ℕ) : Type 0 where
  pub bytes : drop i s ≡ xs ++ drop e s
  pub passes : all p xs ≡ true

run_none : (p : ℕ → Bool) (s : List ℕ) {i e : ℕ} → i ≡ e → Run p s i [] e
unfolding all
run_none p s q = record { bytes = ap (λ j. drop j s) q; passes = refl }

run_more : (p : ℕ → Bool) (s : List ℕ) (i b : ℕ) {xs : List ℕ} {e : ℕ} → drop i s ≡ b ∷ drop (i + 1) s → p b ≡ true
    → Run p s (i + 1) xs e → Run p s i (b ∷ xs) e
unfolding all
run_more p s i b q h r = record { bytes = q ∙ ap (λ u. b ∷ u) r.bytes; passes = and_both (p b) _ h r.passes }

-- what stands in front, and what follows it
front : (s : List ℕ) (i b : ℕ) {bs : List ℕ} → drop i s ≡ b ∷ bs → drop i s ≡ b ∷ drop (i + 1) s
front s i b q = q ∙ ap (λ u. b ∷ u) (sym (drop_behind s i (b ∷ []) q))

-- what is passed over is white space
pub white_taken : (s bs : List ℕ) (i : ℕ) → drop i s ≡ bs → (ws : List ℕ) × Run is_white_of s i ws (white_of bs i)
unfolding white_of
white_taken s [] i q = ([], run_none is_white_of s refl)
white_taken s (b ∷ bs) i q = go (is_white_of b) refl (white_taken s bs (i + 1) (drop_behind s i (b ∷ []) q))
  where
    go : (t : Bool) → is_white_of b ≡ t → (ws : List ℕ) × Run is_white_of s (i + 1) ws (white_of bs (i + 1))
        → (ws : List ℕ) × Run is_white_of s i ws (elim t [ true ↦ white_of bs (i + 1) | false ↦ i ])
    go true h r = (b ∷ r.0, run_more is_white_of s i b (front s i b q) h r.1)
    go false h r = ([], run_none is_white_of s refl)

-- some white space, where a byte of it stands
pub white_some : (s : List ℕ) (i : ℕ) → is_white_of (get_or s i 0) ≡ true → (ws : List ℕ) × Run is_white_of s i ws (white_of (drop i s) i) × (0 < length ws)
white_some s i h =
    let r = white_taken s (drop (i + 1) s) (i + 1) refl in
    (get_or s i 0 ∷ r.0, rw (white_step s i h) (run_more is_white_of s i (get_or s i 0) (drop_byte s i (white_within s i h)) h r.1), omega arith)

-- at most k digits ds behind a number v, which make it n
pub record Digits (s : List ℕ) (k v i : ℕ) (ds : List ℕ) (n e : ℕ) : Type 0 where
  pub run : Run is_digit_of s i ds e
  pub few : length ds ≤ k
  pub value : value_of v ds ≡ n

digits_none : (s : List ℕ) (k v i n e : ℕ) → Read v i ≡ Read n e → Digits s k v i [] n e
unfolding value_of
digits_none s k v i n e q = let p : i ≡ e = cc in record { run = run_none is_digit_of s p; few = omega arith; value = cc }

digits_more : (s : List ℕ) (k v i n b : ℕ) {ds : List ℕ} {e : ℕ} → drop i s ≡ b ∷ drop (i + 1) s → is_digit_of b ≡ true
    → Digits s k (v * 10 + (b - 48)) (i + 1) ds n e → Digits s (suc k) v i (b ∷ ds) n e
unfolding value_of
digits_more s k v i n b {ds} q h d =
    let l : length ds ≤ k = d.few in
    record { run = run_more is_digit_of s i b q h d.run; few = omega arith; value = d.value }

-- what is read is digits
pub digits_taken : (s : List ℕ) (k : ℕ) (bs : List ℕ) (v i n e : ℕ) → drop i s ≡ bs → digits_of k bs v i ≡ Read n e
    → (ds : List ℕ) × Digits s k v i ds n e
unfolding digits_of
digits_taken s zero bs v i n e q r = ([], digits_none s zero v i n e r)
digits_taken s (suc k) [] v i n e q r = ([], digits_none s (suc k) v i n e r)
digits_taken s (suc k) (b ∷ bs) v i n e q r =
    go (is_digit_of b) refl (digits_taken s k bs (v * 10 + (b - 48)) (i + 1) n e (drop_behind s i (b ∷ []) q)) r
  where
    go : (t : Bool) → is_digit_of b ≡ t
        → (digits_of k bs (v * 10 + (b - 48)) (i + 1) ≡ Read n e → (ds : List ℕ) × Digits s k (v * 10 + (b - 48)) (i + 1) ds n e)
        → elim t [ true ↦ digits_of k bs (v * 10 + (b - 48)) (i + 1) | false ↦ Read v i ] ≡ Read n e
        → (ds : List ℕ) × Digits s (suc k) v i ds n e
    go true h f r = let d = f r in (b ∷ d.0, digits_more s k v i n b (front s i b q) h d.1)
    go false h f r = ([], digits_none s (suc k) v i n e r)

-- some digits, where one of them stands
digits_some : (s : List ℕ) (i n e : ℕ) → is_digit_of (get_or s i 0) ≡ true → digits_of 5 (drop i s) 0 i ≡ Read n e
    → (ds : List ℕ) × Digits s 5 0 i ds n e × (0 < length ds)
digits_some s i n e h q =
    let d = digits_taken s 4 (drop (i + 1) s) (0 * 10 + (get_or s i 0 - 48)) (i + 1) n e refl (sym (digit_step s i 4 0 h) ∙ q) in
    (get_or s i 0 ∷ d.0, digits_more s 4 0 i n (get_or s i 0) (drop_byte s i (digit_within s i h)) h d.1, omega arith)

-- a number of the grammar from a place i to a place e
pub record NumberAt (s : List ℕ) (i n e : ℕ) : Type 0 where
  pub text : List ℕ
  pub numeral : Numeral text n
  pub bytes : drop i s ≡ text ++ drop e s

-- a number that is read is one of the grammar
pub number_sound : (s : List ℕ) (i n e : ℕ) → number_of s i ≡ Read n e → NumberAt s i n e
unfolding number_of first_digit_of
number_sound s i n e q = white (is_white_of (get_or s i 0)) refl q
  where
    j : ℕ
    j = white_of (drop i s) i

    joined : (ws : List ℕ) × Run is_white_of s i ws j × (0 < length ws) → (ds : List ℕ) × Digits s 5 0 j ds n e × (0 < length ds) → NumberAt s i n e
    joined w d =
        record {
          text = w.0 ++ d.0;
          numeral =
              record {
                white = w.0;
                digits = d.0;
                bytes = refl;
                some_white = w.2;
                all_white = w.1.passes;
                some_digits = d.2;
                few_digits = d.1.few;
                all_digits = d.1.run.passes;
                value = d.1.value;
              };
          bytes = w.1.bytes ∙ (ap (λ u. w.0 ++ u) d.1.run.bytes ∙ sym (append_assoc w.0 d.0 (drop e s)));
        }

    digit : (t : Bool) → is_digit_of (get_or s j 0) ≡ t → (ws : List ℕ) × Run is_white_of s i ws j × (0 < length ws)
        → cond t (digits_of 5 (drop j s) 0 j) (Misfit (misfit_of (get_or s j 0))) ≡ Read n e → NumberAt s i n e
    digit true h w q = joined w (digits_some s j n e h q)
    digit false h w q = absurd (let z : ◌≡◌ {A = ℕ} 0 1 = cc in omega arith)

    white : (t : Bool) → is_white_of (get_or s i 0) ≡ t → cond t (first_digit_of s j) (Misfit (misfit_of (get_or s i 0))) ≡ Read n e → NumberAt s i n e
    white true h q = digit (is_digit_of (get_or s j 0)) refl (white_some s i h) q
    white false h q = absurd (let z : ◌≡◌ {A = ℕ} 0 1 = cc in omega arith)

-- a header that ends
record Ends (s : List ℕ) (w h m i w' h' m' at : ℕ) : Type 0 where
  width : w ≡ w'
  height : h ≡ h'
  maxval : m ≡ m'
  place : i + 1 ≡ at
  last : is_white_of (get_or s i 0) ≡ true

end_tells : (s : List ℕ) (w h m i : ℕ) {w' h' m' at : ℕ} → head_end s w h m i ≡ Found w' h' m' at → Ends s w h m i w' h' m' at
unfolding head_end
end_tells s w h m i {w'} {h'} {m'} {at} q = go (is_white_of (get_or s i 0)) refl q
  where
    go : (t : Bool) → is_white_of (get_or s i 0) ≡ t → cond t (Found w h m (i + 1)) (Refused (misfit_of (get_or s i 0))) ≡ Found w' h' m' at
        → Ends s w h m i w' h' m' at
    go true p q = record { width = cc; height = cc; maxval = cc; place = cc; last = p }
    go false p q = absurd (let z : ◌≡◌ {A = ℕ} 0 1 = cc in omega arith)

pub magic_bytes : (s : List ℕ) → (eqb (get_or s 0 0) 80 && eqb (get_or s 1 0) 53) ≡ true → s ≡ (80 ∷ 53 ∷ []) ++ drop 2 s
magic_bytes s h =
    let a : get_or s 0 0 ≡ 80 = eqb-true (get_or s 0 0) 80 (and_left _ _ h) in
    let b : get_or s 1 0 ≡ 53 = eqb-true (get_or s 1 0) 53 (and_right (eqb (get_or s 0 0) 80) _ h) in
    let l : 2 ≤ length s = magic_within s b in
    drop_byte s 0 (omega arith) ∙ (ap (λ x. x ∷ drop 1 s) a ∙ ap (λ u. 80 ∷ u) (drop_byte s 1 (omega arith) ∙ ap (λ x. x ∷ drop 2 s) b))

-- a header that is found is one of the grammar, and its raster starts within the bytes
pub header_sound : (s : List ℕ) {w h m at : ℕ} → header_of s ≡ Found w h m at → (at ≤ length s) × Header s w h m (drop at s)
unfolding header_of head_fields
header_sound s {w} {h} {m} {at} q = go (eqb (get_or s 0 0) 80 && eqb (get_or s 1 0) 53) refl q
  where
    joined : {a b c i j k : ℕ} → s ≡ (80 ∷ 53 ∷ []) ++ drop 2 s → NumberAt s 2 a i → NumberAt s i b j → NumberAt s j c k → Ends s a b c k w h m at
        → (at ≤ length s) × Header s w h m (drop at s)
    joined {k = k} p x y z l =
        let inside : k < length s = white_within s k l.last in (
          omega (arith, l.place),
          record {
            width = x.text;
            height = y.text;
            maxval = z.text;
            last = get_or s k 0;
            bytes =
                p
                ∙ ap (λ u. (80 ∷ 53 ∷ []) ++ u)
                (x.bytes
                ∙ ap (λ u. x.text ++ u)
                (y.bytes
                ∙ ap (λ u. y.text ++ u)
                (z.bytes ∙ ap (λ u. z.text ++ u) (drop_byte s k inside ∙ ap (λ e. get_or s k 0 ∷ drop e s) l.place))));
            width_is = rw (← l.width) x.numeral;
            height_is = rw (← l.height) y.numeral;
            maxval_is = rw (← l.maxval) z.numeral;
            last_white = l.last;
          },
        )

    go : (t : Bool) → (eqb (get_or s 0 0) 80 && eqb (get_or s 1 0) 53) ≡ t
        → cond t
        (then_head (number_of s 2) (λ w at. then_head (number_of s at) (λ h at. then_head (number_of s at) (λ m at. head_end s w h m at))))
        (Refused 20)
        ≡ Found w h m at
        → (at ≤ length s) × Header s w h m (drop at s)
    go true p q =
        behind_found (number_of s 2) _
        (λ a i x q.
        behind_found (number_of s i) _
        (λ b j y q.
        behind_found (number_of s j) _
        (λ c k z q.
        joined (magic_bytes s p) (number_sound s 2 a i x) (number_sound s i b j y) (number_sound s j c k z) (end_tells s a b c k q))
        q)
        q)
        q
    go false p q = absurd (let z : ◌≡◌ {A = ℕ} 0 1 = cc in omega arith)

-- a header is found exactly where the grammar has one
pub found_exactly : (s : List ℕ) (w h m at : ℕ) → (header_of s ≡ Found w h m at) ↔ ((at ≤ length s) × Header s w h m (drop at s))
found_exactly s w h m at = (header_sound s, back)
  where
    back : (at ≤ length s) × Header s w h m (drop at s) → header_of s ≡ Found w h m at
    back g =
        let l : at ≤ length s = g.0 in
        let e : length s - length (drop at s) ≡ at = omega (arith, length-drop at s) in
        header_complete g.1 ∙ ap (Found w h m) e

-- bytes start with one header at most
pub header_unique : {bs rest rest' : List ℕ} {w h m w' h' m' : ℕ} → Header bs w h m rest → Header bs w' h' m' rest'
    → (w ≡ w') × (h ≡ h') × (m ≡ m') × (rest ≡ rest')
header_unique {bs} {rest} {rest'} g g' =
    let q = sym (header_complete g) ∙ header_complete g' in
    let e : length bs - length rest ≡ length bs - length rest' = cc in
    (cc, cc, cc, sym (header_rest g) ∙ (ap (λ i. drop i bs) e ∙ header_rest g'))
