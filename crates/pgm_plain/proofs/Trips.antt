-- What the writer lays down, a line a sample, is of the grammar.
-- Assumes nothing.
use Prim.Native.Nat.{ℕ, zero, suc, ◌≤◌, ◌<◌}
use mathlib.Core.Bool.{true}
use mathlib.Core.List.{List, [], ◌∷◌, ◌++◌, append_assoc, append-nil}
use mathlib.Core.Logic.{inr}
use mathlib.Core.Path.{◌≡◌, refl, sym, ap, ◌∙◌}
use lib.Dec.{leb}
use lib.ListN.{length, get_or}
use native.Mathlib.Omega.{arith}
use borrow.Author.Tests.{leb-true}
use Rattle.base_lists.specs.Lists.{joined, all}
use Rattle.base_lists.proofs.Alls.{all_one}
use Rattle.base_lists.proofs.Tabs.{and_left, and_right}
use Rattle.pgm_header.specs.Header.{is_white_of, decimal_of}
use Rattle.pgm_header.proofs.Reading.{tens}
use Rattle.pgm_header.proofs.Writing.{count_most, count_least}
use Rattle.pgm_header.proofs.Laws.{decimal_digits, decimal_value}
use Rattle.pgm_plain.specs.Plain.{sample_line, lines_of}
use Rattle.pgm_plain.specs.Grammar.{SampleIn, Samples}

-- ---- the lines from the front

joined_cons : (n : ℕ) (f : ℕ → List ℕ) → joined (suc n) f ≡ f 0 ++ joined n (λ i. f (suc i))
unfolding joined
joined_cons zero f = sym (append-nil (f 0))
joined_cons (suc n) f = ap (λ u. u ++ f (suc n)) (joined_cons n f) ∙ append_assoc (f 0) (joined n (λ i. f (suc i))) (f (suc n))

-- the lines are those of the samples, one behind the other
pub lines_joined : (pic : List ℕ) → lines_of pic ≡ joined (length pic) (λ i. sample_line (get_or pic i 0))
unfolding lines_of
lines_joined pic = refl

lines_nil : lines_of [] ≡ []
unfolding lines_of joined
lines_nil = refl

lines_cons : (v : ℕ) (vs : List ℕ) → lines_of (v ∷ vs) ≡ sample_line v ++ lines_of vs
unfolding lines_of
lines_cons v vs = joined_cons (length vs) (λ i. sample_line (get_or (v ∷ vs) i 0))

-- ---- one line

lf_white : is_white_of 10 ≡ true
unfolding is_white_of
lf_white = refl

-- white space, a number as the writer has it and LF are that sample
line_sample : (m v : ℕ) (ws rest : List ℕ) → all is_white_of ws ≡ true → v < 100000 → v ≤ m → SampleIn m (ws ++ (decimal_of 5 v ++ (10 ∷ rest))) v (10 ∷ rest)
unfolding tens
line_sample m v ws rest a l h =
    record {
      white = ws;
      digits = decimal_of 5 v;
      bytes = refl;
      all_white = a;
      some_digits = count_least 4 v;
      few_digits = count_most 5 v;
      all_digits = decimal_digits 5 v;
      value = decimal_value 5 v l;
      most = h;
      ends = inr lf_white;
    }

-- ---- all lines

-- the lines of a film, behind white space, are its samples
pub lines_samples : (m : ℕ) → m < 100000 → (vs ws : List ℕ) → all is_white_of ws ≡ true → all (λ v. leb v m) vs ≡ true → Samples m (ws ++ lines_of vs) vs
unfolding all
lines_samples m l [] ws a h = rw (lines_nil, append-nil) a
lines_samples m l (v ∷ vs) ws a h =
    let low : v ≤ m = leb-true v m (and_left (leb v m) _ h) in
    let cut : ws ++ lines_of (v ∷ vs) ≡ ws ++ (decimal_of 5 v ++ (10 ∷ lines_of vs)) = ap (λ u. ws ++ u) (lines_cons v vs ∙ append_assoc (decimal_of 5 v) (10 ∷ []) (lines_of vs)) in
    (10 ∷ lines_of vs, rw cut (line_sample m v ws (lines_of vs) a (omega (arith, low)) low), lines_samples m l vs (10 ∷ []) (all_one is_white_of lf_white) (and_right (leb v m) _ h))
