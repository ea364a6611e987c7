-- A header is refused with 21 exactly where a `#` stands instead of a byte that the grammar has there, and with 20 in all other cases.
-- Assumes nothing.
use Prim.Native.Nat.{ℕ, ◌+◌, ◌≤◌, ◌<◌}
use mathlib.Core.Bool.{Bool, true, false, ◌&&◌, cond}
use mathlib.Core.List.{List, [], ◌∷◌, ◌++◌, append_assoc, append-nil}
use mathlib.Core.Logic.{◌⊎◌, inl, inr, ⊎_elim, ◌↔◌}
use mathlib.Core.Path.{◌≡◌, refl, sym, ap, ◌∙◌}
use lib.Dec.{eqb}
use lib.ListN.{length, drop, get_or, length-append}
use native.Mathlib.Omega.{arith}
use borrow.Author.Tests.{eq-eqb, eqb-true}
use Rattle.base_lists.specs.Lists.{all}
use Rattle.base_lists.proofs.Tabs.{and_left}
use Rattle.base_lists.proofs.Alls.{all_append}
use Rattle.pgm_header.specs.Header.{Read, Misfit}
use Rattle.pgm_header.specs.Header.{Head}
use Rattle.pgm_header.specs.Header.{Found, Refused}
use Rattle.pgm_header.specs.Header.{is_white_of, is_digit_of, misfit_of, white_of, digits_of, first_digit_of, number_of, then_head, head_end, head_fields, header_of}
use Rattle.pgm_header.specs.Grammar.{value_of, Numeral, Header, Hash}
use Rattle.pgm_header.proofs.Reading.{test_within, first_misfit, number_behind, number_misfit, end_misfit, digits_never, behind_read, behind_misfit, behind_refused, header_magic}
use Rattle.pgm_header.proofs.Grammar.{byte_at, drop_behind, drop_byte, all_first, numeral_white, number_reads, white_some, Run, NumberAt, number_sound, magic_bytes, white_run, white_not_digit, header_complete, header_sound}
use Rattle.pgm_header.proofs.Laws.{refused_number}

-- ---- the byte `#`

hash_white : is_white_of 35 ≡ false
unfolding is_white_of
hash_white = refl

hash_digit : is_digit_of 35 ≡ false
unfolding is_digit_of
hash_digit = refl

hash_misfit : misfit_of 35 ≡ 21
unfolding misfit_of
hash_misfit = refl

-- a misfit that is refused with 21 is a `#`
misfit_hash : (b : ℕ) → misfit_of b ≡ 21 → b ≡ 35
unfolding misfit_of
misfit_hash b q = go (eqb b 35) refl q
  where
    go : (t : Bool) → eqb b 35 ≡ t → ◌≡◌ {A = ℕ} (cond t 21 20) 21 → b ≡ 35
    go true h q = eqb-true b 35 h
    go false h q = omega arith

-- a `#` that stands at a place, and what follows it
hash_there : (s : List ℕ) (i : ℕ) → misfit_of (get_or s i 0) ≡ 21 → drop i s ≡ 35 ∷ drop (i + 1) s
hash_there s i q =
    let b : get_or s i 0 ≡ 35 = misfit_hash (get_or s i 0) q in
    drop_byte s i (test_within (λ b. eqb b 35) refl s i (eq-eqb (get_or s i 0) 35 b)) ∙ ap (λ x. x ∷ drop (i + 1) s) b

-- ---- a header that is refused with 21 has a `#` in the place of another byte

-- white space and a `0`
zero_text : List ℕ
zero_text = 32 ∷ 48 ∷ []

numeral_zero : (ws : List ℕ) → 0 < length ws → all is_white_of ws ≡ true → Numeral (ws ++ (48 ∷ [])) 0
unfolding is_digit_of value_of all
numeral_zero ws l h =
    record {
      white = ws;
      digits = 48 ∷ [];
      bytes = refl;
      some_white = l;
      all_white = h;
      some_digits = omega arith;
      few_digits = omega arith;
      all_digits = refl;
      value = refl;
    }

zero_numeral : Numeral zero_text 0
unfolding zero_text is_white_of all
zero_numeral = numeral_zero (32 ∷ []) (omega arith) refl

-- a `#` behind a place i, instead of a byte of a number
record Stuck (s : List ℕ) (i : ℕ) : Type 0 where
  before : List ℕ
  after : List ℕ
  due : ℕ
  more : List ℕ
  n : ℕ
  bytes : drop i s ≡ before ++ (35 ∷ after)
  numeral : Numeral (before ++ (due ∷ more)) n

number_stuck : (s : List ℕ) (i : ℕ) → number_of s i ≡ Misfit 21 → Stuck s i
unfolding number_of first_digit_of zero_text
number_stuck s i q = white (is_white_of (get_or s i 0)) refl q
  where
    j : ℕ
    j = white_of (drop i s) i

    at_digit : (ws : List ℕ) × Run is_white_of s i ws j × (0 < length ws) → misfit_of (get_or s j 0) ≡ 21 → Stuck s i
    at_digit w h =
        record {
          before = w.0;
          after = drop (j + 1) s;
          due = 48;
          more = [];
          n = 0;
          bytes = w.1.bytes ∙ ap (λ u. w.0 ++ u) (hash_there s j h);
          numeral = numeral_zero w.0 w.2 w.1.passes;
        }

    at_white : misfit_of (get_or s i 0) ≡ 21 → Stuck s i
    at_white h =
        record { before = []; after = drop (i + 1) s; due = 32; more = 48 ∷ []; n = 0; bytes = hash_there s i h; numeral = zero_numeral }

    digit : (t : Bool) → (ws : List ℕ) × Run is_white_of s i ws j × (0 < length ws)
        → cond t (digits_of 5 (drop j s) 0 j) (Misfit (misfit_of (get_or s j 0))) ≡ Misfit 21 → Stuck s i
    digit true w q = absurd (digits_never 5 (drop j s) 0 j 21 q)
    digit false w q = at_digit w cc

    white : (t : Bool) → is_white_of (get_or s i 0) ≡ t → cond t (first_digit_of s j) (Misfit (misfit_of (get_or s i 0))) ≡ Misfit 21 → Stuck s i
    white true h q = digit (is_digit_of (get_or s j 0)) (white_some s i h) q
    white false h q = at_white cc

end_stuck : (s : List ℕ) (w h m i : ℕ) → head_end s w h m i ≡ Refused 21 → drop i s ≡ 35 ∷ drop (i + 1) s
unfolding head_end
end_stuck s w h m i q = go (is_white_of (get_or s i 0)) q
  where
    go : (t : Bool) → cond t (Found w h m (i + 1)) (Refused (misfit_of (get_or s i 0))) ≡ Refused 21 → drop i s ≡ 35 ∷ drop (i + 1) s
    go true q = absurd (let z : ◌≡◌ {A = ℕ} 0 1 = cc in omega arith)
    go false q = hash_there s i cc

module _ (s : List ℕ) (magic : s ≡ (80 ∷ 53 ∷ []) ++ drop 2 s) where
  -- a `#` in a header, made of the header that has another byte in its place
  hash_made : (before after : List ℕ) (due : ℕ) (more xw xh xm : List ℕ) {w h m : ℕ} → drop 2 s ≡ before ++ (35 ∷ after)
      → before ++ (due ∷ more) ≡ xw ++ (xh ++ (xm ++ (32 ∷ []))) → Numeral xw w → Numeral xh h → Numeral xm m → Hash s
  unfolding is_white_of
  hash_made before after due more xw xh xm {w} {h} {m} p q a b c =
      record {
        before = before;
        behind = after;
        bytes = magic ∙ ap (λ u. (80 ∷ 53 ∷ []) ++ u) p;
        due = due;
        more = more;
        w = w;
        h = h;
        m = m;
        header =
            record {
              width = xw;
              height = xh;
              maxval = xm;
              last = 32;
              bytes = ap (λ u. (80 ∷ 53 ∷ []) ++ u) q;
              width_is = a;
              height_is = b;
              maxval_is = c;
              last_white = refl;
            };
      }

  hash_width : Stuck s 2 → Hash s
  hash_width k =
      hash_made k.before k.after k.due (k.more ++ (zero_text ++ (zero_text ++ (32 ∷ [])))) _ zero_text zero_text k.bytes
      (sym (append_assoc k.before (k.due ∷ k.more) _)) k.numeral zero_numeral zero_numeral

  hash_height : {w i : ℕ} → NumberAt s 2 w i → Stuck s i → Hash s
  hash_height x k =
      hash_made (x.text ++ k.before) k.after k.due (k.more ++ (zero_text ++ (32 ∷ []))) x.text (k.before ++ (k.due ∷ k.more)) zero_text
      (x.bytes ∙ (ap (λ u. x.text ++ u) k.bytes ∙ sym (append_assoc x.text k.before _)))
      (simp append_assoc) x.numeral k.numeral zero_numeral

  hash_maxval : {w h i j : ℕ} → NumberAt s 2 w i → NumberAt s i h j → Stuck s j → Hash s
  hash_maxval x y k =
      hash_made (x.text ++ (y.text ++ k.before)) k.after k.due (k.more ++ (32 ∷ [])) x.text y.text (k.before ++ (k.due ∷ k.more))
      (x.bytes ∙ (ap (λ u. x.text ++ u) (y.bytes ∙ ap (λ u. y.text ++ u) k.bytes) ∙ simp append_assoc))
      (simp append_assoc) x.numeral y.numeral k.numeral

  hash_end : {w h m i j e : ℕ} → NumberAt s 2 w i → NumberAt s i h j → NumberAt s j m e → drop e s ≡ 35 ∷ drop (e + 1) s → Hash s
  hash_end {e = e} x y z k =
      hash_made (x.text ++ (y.text ++ z.text)) (drop (e + 1) s) 32 [] x.text y.text z.text
      (x.bytes ∙ (ap (λ u. x.text ++ u) (y.bytes ∙ ap (λ u. y.text ++ u) (z.bytes ∙ ap (λ u. z.text ++ u) k)) ∙ simp append_assoc))
      (simp append_assoc) x.numeral y.numeral z.numeral

-- what is refused with 21 has a `#` in the header
pub hash_sound : (s : List ℕ) → header_of s ≡ Refused 21 → Hash s
unfolding header_of head_fields
hash_sound s q = go (eqb (get_or s 0 0) 80 && eqb (get_or s 1 0) 53) refl q
  where
    go : (t : Bool) → (eqb (get_or s 0 0) 80 && eqb (get_or s 1 0) 53) ≡ t
        → cond t
        (then_head (number_of s 2) (λ w at. then_head (number_of s at) (λ h at. then_head (number_of s at) (λ m at. head_end s w h m at))))
        (Refused 20)
        ≡ Refused 21
        → Hash s
    go true p q =
        let magic = magic_bytes s p in
        behind_refused (number_of s 2) _ (λ z. hash_width s magic (number_stuck s 2 z))
        (λ w i x q.
        let x = number_sound s 2 w i x in
        behind_refused (number_of s i) _ (λ z. hash_height s magic x (number_stuck s i z))
        (λ h j y q.
        let y = number_sound s i h j y in
        behind_refused (number_of s j) _ (λ z. hash_maxval s magic x y (number_stuck s j z))
        (λ m e z q. hash_end s magic x y (number_sound s j m e z) (end_stuck s w h m e q))
        q)
        q)
        q
    go false p q = absurd (let z : ◌≡◌ {A = ℕ} 20 21 = cc in omega arith)

-- ---- a `#` in the place of another byte is refused with 21

-- two ways to cut a list into a and b, and into c and d: the first cut is not before the second, or it is
Cuts : List ℕ → List ℕ → List ℕ → List ℕ → Type 0
Cuts a b c d = ((z : List ℕ) × (a ≡ c ++ z) × (z ++ b ≡ d)) ⊎ ((y : ℕ) × (z : List ℕ) × (c ≡ a ++ (y ∷ z)))

cuts_more : {x y : ℕ} (a b c d : List ℕ) → x ≡ y → Cuts a b c d → Cuts (x ∷ a) b (y ∷ c) d
unfolding Cuts
cuts_more {x} a b c d h =
    ⊎_elim
    (λ u. inl (u.0, ap (λ v. x ∷ v) u.1 ∙ ap (λ v. v ∷ (c ++ u.0)) h, u.2))
    (λ u. inr (u.0, u.1, ap (λ v. v ∷ c) (sym h) ∙ ap (λ v. x ∷ v) u.2))

cuts : (a b c d : List ℕ) → a ++ b ≡ c ++ d → Cuts a b c d
unfolding Cuts
cuts a b [] d e = inl (a, refl, e)
cuts [] b (y ∷ c) d e = inr (y, c, refl)
cuts (x ∷ a) b (y ∷ c) d e =
    let h : x ≡ y = cc in
    let t : a ++ b ≡ c ++ d = cc in
    cuts_more a b c d h (cuts a b c d t)

module _ (s : List ℕ) where
  number_at_hash : (i : ℕ) → get_or s i 0 ≡ 35 → number_of s i ≡ Misfit 21
  number_at_hash i q = number_misfit s i (ap is_white_of q ∙ hash_white) ∙ ap Misfit (ap misfit_of q ∙ hash_misfit)

  end_at_hash : (w h m i : ℕ) → get_or s i 0 ≡ 35 → head_end s w h m i ≡ Refused 21
  end_at_hash w h m i q = end_misfit s w h m i (ap is_white_of q ∙ hash_white) ∙ ap Refused (ap misfit_of q ∙ hash_misfit)

  module _ (i : ℕ) (after : List ℕ) where
    -- behind white space, where a digit is due
    white_hash : (ws : List ℕ) → drop i s ≡ ws ++ (35 ∷ after) → 0 < length ws → all is_white_of ws ≡ true → number_of s i ≡ Misfit 21
    white_hash ws e l h =
        let b : get_or s (i + length ws) 0 ≡ 35 = byte_at s (i + length ws) (drop_behind s i ws e) in
        number_behind s i (ap is_white_of (byte_at s i e) ∙ all_first is_white_of ws (35 ∷ after) l h)
        ∙ (ap (first_digit_of s) (ap (λ u. white_of u i) e ∙ white_run ws (35 ∷ after) i h hash_white)
        ∙ (first_misfit s (i + length ws) (ap is_digit_of b ∙ hash_digit) ∙ ap Misfit (ap misfit_of b ∙ hash_misfit)))

    -- where white space is due, or behind some of it
    whites_hash : (ws : List ℕ) → drop i s ≡ ws ++ (35 ∷ after) → all is_white_of ws ≡ true → number_of s i ≡ Misfit 21
    whites_hash [] e h = number_at_hash i (byte_at s i e)
    whites_hash (b ∷ ws) e h = white_hash (b ∷ ws) e (omega arith) h

    Cut : Type 0
    Cut = (number_of s i ≡ Misfit 21) ⊎ ((v : ℕ) × (e : ℕ) × (number_of s i ≡ Read v e) × (get_or s e 0 ≡ 35))

    -- behind digits: the number is read, and the `#` stands behind it
    digits_hash : (ws ds more : List ℕ) → drop i s ≡ (ws ++ ds) ++ (35 ∷ after) → 0 < length ws → all is_white_of ws ≡ true
        → length (ds ++ more) ≤ 5 → all is_digit_of (ds ++ more) ≡ true → Cut
    unfolding Cut
    digits_hash ws [] more e l h f d = inl (white_hash ws (e ∙ ap (λ u. u ++ (35 ∷ after)) (append-nil ws)) l h)
    digits_hash ws (b ∷ ds) more e l h f d =
        inr (
          value_of 0 (b ∷ ds),
          i + length (ws ++ (b ∷ ds)),
          number_reads s i (35 ∷ after) numeral e hash_digit,
          byte_at s (i + length (ws ++ (b ∷ ds))) (drop_behind s i (ws ++ (b ∷ ds)) e),
        )
      where
        numeral : Numeral (ws ++ (b ∷ ds)) (value_of 0 (b ∷ ds))
        numeral =
            record {
              white = ws;
              digits = b ∷ ds;
              bytes = refl;
              some_white = l;
              all_white = h;
              some_digits = omega arith;
              few_digits = omega (arith, length-append (b ∷ ds) more);
              all_digits = and_left (all is_digit_of (b ∷ ds)) (all is_digit_of more) (sym (all_append is_digit_of (b ∷ ds) more) ∙ d);
              value = refl;
            }

    -- a `#` before a number's end
    number_cut : (before more x : List ℕ) {n : ℕ} → drop i s ≡ before ++ (35 ∷ after) → Numeral x n → x ≡ before ++ more → Cut
    unfolding Cut Cuts
    number_cut before more x e k q = ⊎_elim in_digits in_white (cuts before more k.white k.digits (sym q ∙ k.bytes))
      where
        in_digits : (z : List ℕ) × (before ≡ k.white ++ z) × (z ++ more ≡ k.digits) → Cut
        in_digits z =
            digits_hash k.white z.0 more (e ∙ ap (λ u. u ++ (35 ∷ after)) z.1) k.some_white k.all_white
            (rw z.2 k.few_digits) (rw z.2 k.all_digits)

        in_white : (y : ℕ) × (z : List ℕ) × (k.white ≡ before ++ (y ∷ z)) → Cut
        in_white z =
            inl
            (whites_hash before e
            (and_left (all is_white_of before) (all is_white_of (z.0 ∷ z.1)) (sym (all_append is_white_of before (z.0 ∷ z.1)) ∙ (ap (all is_white_of) (sym z.2) ∙ k.all_white))))

  -- a `#` before a header's end, seen from in front of a number x with t behind it
  step : (i : ℕ) (before after : List ℕ) (due : ℕ) (more x t : List ℕ) {n : ℕ} (k : ℕ → ℕ → Head) → drop i s ≡ before ++ (35 ∷ after)
      → before ++ (due ∷ more) ≡ x ++ t → Numeral x n → is_white_of (get_or t 0 0) ≡ true → ((v e : ℕ) → get_or s e 0 ≡ 35 → k v e ≡ Refused 21)
      → ((z : List ℕ) → drop (i + length x) s ≡ z ++ (35 ∷ after) → z ++ (due ∷ more) ≡ t → k n (i + length x) ≡ Refused 21)
      → then_head (number_of s i) k ≡ Refused 21
  unfolding Cuts Cut
  step i before after due more x t {n} k e q a h there later = ⊎_elim behind_it within_it (cuts before (due ∷ more) x t q)
    where
      -- what follows the number is no digit
      no_digit : (z : List ℕ) → z ++ (due ∷ more) ≡ t → is_digit_of (get_or (z ++ (35 ∷ after)) 0 0) ≡ false
      no_digit [] q = hash_digit
      no_digit (b ∷ z) q = white_not_digit b (ap (λ u. is_white_of (get_or u 0 0)) q ∙ h)

      behind_it : (z : List ℕ) × (before ≡ x ++ z) × (z ++ (due ∷ more) ≡ t) → then_head (number_of s i) k ≡ Refused 21
      behind_it z =
          let p : drop i s ≡ x ++ (z.0 ++ (35 ∷ after)) = e ∙ (ap (λ u. u ++ (35 ∷ after)) z.1 ∙ append_assoc x z.0 (35 ∷ after)) in
          behind_read k (number_reads s i (z.0 ++ (35 ∷ after)) a p (no_digit z.0 z.2)) ∙ later z.0 (drop_behind s i x p) z.2

      within_it : (y : ℕ) × (z : List ℕ) × (x ≡ before ++ (y ∷ z)) → then_head (number_of s i) k ≡ Refused 21
      within_it z =
          ⊎_elim (λ p. behind_misfit k p) (λ p. behind_read k p.2 ∙ there p.0 p.1 p.3) (number_cut i after before (z.0 ∷ z.1) x e a z.2)

-- the last byte alone is left: the `#` stands in its place
last_hash : (s : List ℕ) (i : ℕ) (z after : List ℕ) (due last : ℕ) (more : List ℕ) → drop i s ≡ z ++ (35 ∷ after) → z ++ (due ∷ more) ≡ last ∷ []
    → get_or s i 0 ≡ 35
last_hash s i [] after due last more e q = byte_at s i e
last_hash s i (b ∷ z) after due last more e q =
    absurd (let l : length ((b ∷ z) ++ (due ∷ more)) ≡ 1 = ap length q in omega (arith, length-append (b ∷ z) (due ∷ more)))

-- a `#` in the header is refused with 21
pub hash_complete : (s : List ℕ) → Hash s → header_of s ≡ Refused 21
hash_complete s x =
    header_magic s (ap (λ u. get_or u 0 0) x.bytes) (ap (λ u. get_or u 1 0) x.bytes)
    ∙ step s 2 x.before x.behind x.due x.more g.width _ _ (ap (drop 2) x.bytes) (ap (drop 2) g.bytes) g.width_is (numeral_white g.height_is _)
    (λ v e q. behind_misfit _ (number_at_hash s e q))
    (λ z e q.
    step s _ z x.behind x.due x.more g.height _ _ e q g.height_is (numeral_white g.maxval_is _)
    (λ v e q. behind_misfit _ (number_at_hash s e q))
    (λ z e q.
    step s _ z x.behind x.due x.more g.maxval _ _ e q g.maxval_is g.last_white
    (λ v e q. end_at_hash s _ _ v e q)
    (λ z e q. end_at_hash s _ _ _ _ (last_hash s _ z x.behind x.due g.last x.more e q))))
  where
    g : Header ((80 ∷ 53 ∷ []) ++ (x.before ++ (x.due ∷ x.more))) x.w x.h x.m []
    g = x.header

-- a header is refused with 21 exactly where a `#` stands in it
pub hash_exactly : (s : List ℕ) → (header_of s ≡ Refused 21) ↔ Hash s
hash_exactly s = (hash_sound s, hash_complete s)

-- and with 20 exactly where there is neither a header nor such a `#`: "any other misfit, or the end of input"
pub other_exactly : (s : List ℕ) → (header_of s ≡ Refused 20) ↔ (((w h m : ℕ) (rest : List ℕ) → Header s w h m rest → ⊥) × (Hash s → ⊥))
other_exactly s = (neither, (λ none. left none (header_of s) refl))
  where
    neither : header_of s ≡ Refused 20 → ((w h m : ℕ) (rest : List ℕ) → Header s w h m rest → ⊥) × (Hash s → ⊥)
    neither q = (
      (λ w h m rest g. let e = sym q ∙ header_complete g in let z : ◌≡◌ {A = ℕ} 0 1 = cc in omega arith),
      (λ g. let e = sym q ∙ hash_complete s g in let z : ◌≡◌ {A = ℕ} 20 21 = cc in omega arith),
    )

    left : ((w h m : ℕ) (rest : List ℕ) → Header s w h m rest → ⊥) × (Hash s → ⊥) → (x : Head) → header_of s ≡ x → header_of s ≡ Refused 20
    left none (Found w h m at) q = absurd (none.0 w h m (drop at s) (header_sound s q).1)
    left none (Refused n) q = ⊎_elim (λ e. q ∙ ap Refused e) (λ e. absurd (none.1 (hash_sound s (q ∙ ap Refused e)))) (refused_number s q)
