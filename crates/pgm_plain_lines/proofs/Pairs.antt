-- Laws of samples laid down from their digits, two by two.
-- Assumes nothing.
use Prim.Native.Nat.{ℕ, ◌+◌, ◌/◌, ◌%◌, ◌≤◌, ◌<◌}
use mathlib.Core.List.{List, [], ◌∷◌, ◌++◌}
use mathlib.Core.Path.{◌≡◌, refl, sym, ap, ◌∙◌}
use lib.ListN.{length, get_or, set}
use native.Mathlib.Omega.{arith}
use Rattle.base_lists.specs.Lists.{over}
use Rattle.base_lists.proofs.Tabs.{length_tab, get_or_tab}
use Rattle.base_lists.proofs.Overs.{over_over, set_over, over_two, over_step}
use Rattle.pgm_header.proofs.Writing.{decimal_one, decimal_more}
use Rattle.pgm_plain.specs.Plain.{sample_line}
use Rattle.pgm_plain_lines.specs.Pairs.{two_of, pair_word, pairs100}

-- ---- the entries

pub pairs_room : {s : List ℕ} {n : ℕ} → s ≡ pairs100 → n < 100 → n < length s
unfolding pairs100
pairs_room {s} {n} q l = omega (arith, ap length q ∙ length_tab 100 pair_word)

pub pairs_at : {s : List ℕ} (n : ℕ) → s ≡ pairs100 → n < 100 → get_or s n 0 ≡ pair_word n
unfolding pairs100
pairs_at n q l = ap (λ x. get_or x n 0) q ∙ get_or_tab 100 pair_word n 0 l

-- the bytes of an entry are the two digits
pub two_laid : (d : List ℕ) (at n : ℕ) {pair : ℕ} → pair ≡ pair_word n → n < 100 → at + 1 < length d → set (set d at (pair % 256)) (at + 1) (pair / 256) ≡ over d at (two_of n)
two_laid d at n {pair} q l h =
    let a : pair % 256 ≡ 48 + n / 10 = omega arith in
    let b : pair / 256 ≡ 48 + n % 10 = omega arith in
    rw (a, b) (over_two d at (48 + n / 10) (48 + n % 10) h)

-- ---- a sample of three digits

line_three : (v : ℕ) → 100 ≤ v → v < 1000 → sample_line v ≡ (48 + v / 100) ∷ (48 + v % 100 / 10) ∷ (48 + v % 100 % 10) ∷ 10 ∷ []
line_three v l h =
    let a : v / 10 / 10 ≡ v / 100 = omega arith in
    let b : v / 10 % 10 ≡ v % 100 / 10 = omega arith in
    let e : v % 10 ≡ v % 100 % 10 = omega arith in
    rw (decimal_more 4 v (omega arith), decimal_more 3 (v / 10) (omega arith), decimal_one 2 (v / 10 / 10) (omega arith), a, b, e) refl

pub three_laid : (d : List ℕ) (at v : ℕ) {s : List ℕ} → 100 ≤ v → v < 1000 → at + 3 < length d → s ≡ over (set d at (48 + v / 100)) (at + 1) (two_of (v % 100))
    → set s (at + 3) 10 ≡ over d at (sample_line v)
three_laid d at v {s} l h k q = over_step d ((48 + v / 100) ∷ two_of (v % 100)) at 10 front refl k ∙ ap (over d at) (sym (line_three v l h))
  where
    front : s ≡ over d at ((48 + v / 100) ∷ two_of (v % 100))
    front =
        q
        ∙ (ap (λ x. over x (at + 1) (two_of (v % 100))) (set_over d at (48 + v / 100) (omega arith))
        ∙ over_over d ((48 + v / 100) ∷ []) (two_of (v % 100)) at (omega arith))

-- ---- and of four

line_four : (v : ℕ) → 1000 ≤ v → v < 10000
    → sample_line v ≡ (48 + v / 100 / 10) ∷ (48 + v / 100 % 10) ∷ (48 + v % 100 / 10) ∷ (48 + v % 100 % 10) ∷ 10 ∷ []
line_four v l h =
    let a : v / 10 / 10 ≡ v / 100 = omega arith in
    let b : v / 10 % 10 ≡ v % 100 / 10 = omega arith in
    let e : v % 10 ≡ v % 100 % 10 = omega arith in
    rw (decimal_more 4 v (omega arith), decimal_more 3 (v / 10) (omega arith), decimal_more 2 (v / 10 / 10) (omega arith), decimal_one 1 (v / 10 / 10 / 10) (omega arith), a, b, e) refl

pub four_laid : (d : List ℕ) (at v : ℕ) {s t : List ℕ} → 1000 ≤ v → v < 10000 → at + 4 < length d → s ≡ over d at (two_of (v / 100)) → t ≡ over s (at + 2) (two_of (v % 100))
    → set t (at + 4) 10 ≡ over d at (sample_line v)
four_laid d at v {s} {t} l h k p q = over_step d (two_of (v / 100) ++ two_of (v % 100)) at 10 front refl k ∙ ap (over d at) (sym (line_four v l h))
  where
    front : t ≡ over d at (two_of (v / 100) ++ two_of (v % 100))
    front = q ∙ (ap (λ x. over x (at + 2) (two_of (v % 100))) p ∙ over_over d (two_of (v / 100)) (two_of (v % 100)) at (omega arith))
