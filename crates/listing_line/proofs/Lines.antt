-- Laws of a line: the loop that lays its fields down, how long it is, and a refusal's line.
-- Assumes nothing.
use Prim.Native.Nat.{ℕ, suc, ◌+◌, ◌-◌, ◌*◌, ◌≤◌, ◌<◌}
use mathlib.Core.Bool.{true}
use mathlib.Core.List.{List, [], ◌∷◌, ◌++◌, append_assoc}
use mathlib.Core.Path.{◌≡◌, refl, sym, ap, ◌∙◌}
use lib.ListN.{length, drop, get_or, set, length-append}
use lib.Seq.{drop-cons, drop-length}
use native.Mathlib.Nat.{not-suc-le-zero}
use native.Mathlib.Omega.{arith}
use native.Mathlib.Numerals.{add-one}
use borrow.Author.Tests.{ltb-true, lt-ltb}
use Rattle.base_lists.specs.Lists.{onto, over, all}
use Rattle.base_lists.proofs.Tabs.{and_both}
use Rattle.base_lists.proofs.Overs.{over_over, onto_nil, onto_set, onto_over}
use Rattle.base_lists.proofs.Alls.{all_at}
use Rattle.pgm_header.specs.Header.{decimal_of}
use Rattle.pgm_header.proofs.Writing.{count_most}
use Rattle.listing_line.specs.Lines.{line, refused_text}
use Rattle.listing_line.specs.Asks.{short, Laid, Told, LineAsks}

-- ---- the fields of a line

-- a field that is not the last has a tab behind it, and the rest of the line
pub line_more : (ns : List ℕ) (i : ℕ) → i + 1 < length ns → line (drop i ns) ≡ decimal_of 5 (get_or ns i 0) ++ (9 ∷ []) ++ line (drop (i + 1) ns)
unfolding line
line_more ns i h =
    rw (drop-cons ns i 0 (omega arith), add-one i, drop-cons ns (suc i) 0 (omega arith)) (sym (append_assoc (decimal_of 5 (get_or ns i 0)) (9 ∷ []) _))

-- the last has LF
pub line_last : (ns : List ℕ) (i : ℕ) → length ns ≡ i + 1 → line (drop i ns) ≡ decimal_of 5 (get_or ns i 0) ++ (10 ∷ [])
unfolding line
line_last ns i h = rw (drop-cons ns i 0 (omega arith), none) refl
  where
    none : drop (suc i) ns ≡ []
    none = let e : suc i ≡ length ns = omega arith in rw e (drop-length ns)

-- six bytes a field are enough for a line
pub length_line : (ns : List ℕ) → 0 < length ns → length (line ns) ≤ 6 * length ns
unfolding line
length_line [] h = absurd (not-suc-le-zero h)
length_line (n ∷ []) h = rw length-append (omega (arith, count_most 5 n))
length_line (n ∷ k ∷ rest) h = rw (length-append, length-append) (omega (arith, count_most 5 n, length_line (k ∷ rest) (omega arith)))

-- ---- the loop that lays them down

-- the fields from i on are still to be laid down, from p on
pub record Writing (out₀ : List ℕ) (at : ℕ) (ns out : List ℕ) (i p : ℕ) : Type 0 where
  pub size : length out ≡ length out₀
  pub inside : i < length ns
  pub room : p + 6 * (length ns - i) ≤ length out₀
  pub left : over out p (line (drop i ns)) ≡ over out₀ at (line ns)
  pub next : p + length (line (drop i ns)) ≡ at + length (line ns)

-- none was laid down yet
pub writing_first : (out₀ : List ℕ) (at : ℕ) (ns : List ℕ) → LineAsks at ns (length out₀) → Writing out₀ at ns out₀ 0 at
writing_first out₀ at ns asks =
    record { size = refl; inside = asks.some; room = omega (arith, asks.fitting); left = refl; next = refl }

-- a field's number has at most five digits
pub writing_short : (ns : List ℕ) (i : ℕ) → all short ns ≡ true → i < length ns → get_or ns i 0 < 100000
writing_short ns i h l = ltb-true _ _ (all_at short ns h i 0 l)

-- no number
pub short_none : all short [] ≡ true
unfolding all
short_none = refl

-- one number more of at most five digits
pub short_more : (n : ℕ) (ns : List ℕ) → n < 100000 → all short ns ≡ true → all short (n ∷ ns) ≡ true
unfolding all
short_more n ns l h = and_both (short n) (all short ns) (lt-ltb n 100000 l) h

-- the same at the last field
pub writing_at : {out₀ : List ℕ} {at : ℕ} {ns out : List ℕ} {i p : ℕ} (j : ℕ) → Writing out₀ at ns out i p → i ≤ j → j ≤ i → Writing out₀ at ns out j p
writing_at {out₀} {at} {ns} {out} {i} {p} j w l m = let e : j ≡ i = omega arith in rw e w

module _ {out₀ : List ℕ} {at : ℕ} {ns out : List ℕ} {i p : ℕ} (w : Writing out₀ at ns out i p) where
  -- there is room for one more
  pub writing_room : p + length (decimal_of 5 (get_or ns i 0)) < length out
  writing_room = omega (arith, w.room, w.inside, w.size, count_most 5 (get_or ns i 0))

  -- one more that is not the last
  pub writing_next : {out' : List ℕ} {p' : ℕ} → i + 1 < length ns → out' ≡ over out p (decimal_of 5 (get_or ns i 0) ++ (9 ∷ []))
      → p' ≡ p + length (decimal_of 5 (get_or ns i 0)) + 1 → length out' ≡ length out → Writing out₀ at ns out' (i + 1) p'
  writing_next {out'} {p'} l e q k =
      record {
        size = k ∙ w.size;
        inside = l;
        room = omega (arith, w.room, count_most 5 (get_or ns i 0));
        left = rw (e, here) (over_over out (decimal_of 5 (get_or ns i 0) ++ (9 ∷ [])) (line (drop (i + 1) ns)) p (omega (arith, w.room, w.size)) ∙ (ap (over out p) (sym (line_more ns i l)) ∙ w.left));
        next = omega (arith, w.next, both, here);
      }
    where
      here : p' ≡ p + length (decimal_of 5 (get_or ns i 0) ++ (9 ∷ []))
      here = q ∙ rw length-append (omega arith)

      both : length (line (drop i ns)) ≡ length (decimal_of 5 (get_or ns i 0) ++ (9 ∷ [])) + length (line (drop (i + 1) ns))
      both = ap length (line_more ns i l) ∙ length-append (decimal_of 5 (get_or ns i 0) ++ (9 ∷ [])) (line (drop (i + 1) ns))

  -- the last one
  pub writing_end : {out' : List ℕ} {p' : ℕ} → length ns ≡ i + 1 → out' ≡ over out p (decimal_of 5 (get_or ns i 0) ++ (10 ∷ []))
      → p' ≡ p + length (decimal_of 5 (get_or ns i 0)) + 1 → Laid out₀ at (line ns) out' p'
  writing_end {out'} {p'} l e q =
      record {
        bytes = e ∙ (ap (over out p) (sym (line_last ns i l)) ∙ w.left);
        next = omega (arith, w.next, q, ap length (line_last ns i l), length-append (decimal_of 5 (get_or ns i 0)) (10 ∷ []));
      }

-- ---- a refusal's line

-- a refusal's line is at most 14 bytes long
pub length_refused : (n : ℕ) → length (refused_text n) ≤ 14
unfolding refused_text line
length_refused n = rw (length-append, length-append) (omega (arith, count_most 5 n))

-- the number behind the word
pub refused_laid : (d : List ℕ) (n : ℕ) {e s : List ℕ} {r : ℕ} → e ≡ onto d (114 ∷ 101 ∷ 102 ∷ 117 ∷ 115 ∷ 101 ∷ 100 ∷ 9 ∷ [])
    → s ≡ over e 8 (decimal_of 5 n ++ (10 ∷ [])) → r ≡ 8 + length (decimal_of 5 n) + 1 → Told d (refused_text n) s r
unfolding refused_text line
refused_laid d n {e} {s} {r} p q l =
    record {
      bytes = q ∙ onto_over d (114 ∷ 101 ∷ 102 ∷ 117 ∷ 115 ∷ 101 ∷ 100 ∷ 9 ∷ []) (decimal_of 5 n ++ (10 ∷ [])) 8 p refl;
      count = rw (length-append, length-append) (omega arith);
    }
