-- Laws of the samples laid down, a line each.
-- Assumes nothing.
use Prim.Native.Nat.{ℕ, zero, suc, ◌+◌, ◌-◌, ◌*◌, ◌≤◌, ◌<◌}
use mathlib.Core.List.{List, [], ◌∷◌, ◌++◌}
use mathlib.Core.Logic.{⊎_elim}
use mathlib.Core.Path.{◌≡◌, refl, sym, ap, ◌∙◌}
use lib.ListN.{length, get_or, length-append}
use native.Mathlib.Omega.{arith}
use Rattle.base_lists.specs.Lists.{joined, onto, over}
use Rattle.base_lists.proofs.Orders.{lt_or_ge}
use Rattle.base_lists.proofs.Fills.{joined_suc}
use Rattle.base_lists.proofs.Overs.{onto_over}
use Rattle.pgm_header.specs.Header.{decimal_of}
use Rattle.pgm_header.proofs.Writing.{count_most, count_1, count_2, count_3, count_4}
use Rattle.pgm_plain.specs.Plain.{sample_line, lines_of}
use Rattle.pgm_plain.proofs.Trips.{lines_joined}

-- the lines of the first i samples
unfoldable pub lines_to : List ℕ → ℕ → List ℕ
lines_to pic i = joined i (λ k. sample_line (get_or pic k 0))

pub length_line : (v : ℕ) → length (sample_line v) ≡ length (decimal_of 5 v) + 1
length_line v = length-append (decimal_of 5 v) (10 ∷ [])

pub lines_none : (pic : List ℕ) → lines_to pic 0 ≡ []
unfolding lines_to joined
lines_none pic = refl

pub lines_next : (pic : List ℕ) (i : ℕ) → lines_to pic (i + 1) ≡ lines_to pic i ++ sample_line (get_or pic i 0)
unfolding lines_to
lines_next pic i = joined_suc i (λ k. sample_line (get_or pic k 0))

pub length_next : (pic : List ℕ) (i : ℕ) → length (lines_to pic (i + 1)) ≡ length (lines_to pic i) + length (decimal_of 5 (get_or pic i 0)) + 1
length_next pic i = ap length (lines_next pic i) ∙ (length-append (lines_to pic i) (sample_line (get_or pic i 0)) ∙ omega (arith, length_line (get_or pic i 0)))

pub lines_all : (pic : List ℕ) {i : ℕ} → i ≤ length pic → length pic ≤ i → lines_to pic i ≡ lines_of pic
unfolding lines_to
lines_all pic {i} a b = ap (λ n. joined n (λ k. sample_line (get_or pic k 0))) (let z : i ≡ length pic = omega arith in z) ∙ sym (lines_joined pic)

-- fewer samples take fewer bytes
grow : (pic : List ℕ) (i d : ℕ) → length (lines_to pic i) ≤ length (lines_to pic (i + d))
grow pic i zero = let z : i + 0 ≡ i = omega arith in rw z (omega arith)
grow pic i (suc d) =
    let z : i + suc d ≡ i + d + 1 = omega arith in
    rw z (omega (arith, grow pic i d, length_next pic (i + d)))

pub lines_room : (pic : List ℕ) (i : ℕ) → i < length pic → length (lines_to pic i) + length (decimal_of 5 (get_or pic i 0)) + 1 ≤ length (lines_of pic)
lines_room pic i l =
    let z : i + 1 + (length pic - (i + 1)) ≡ length pic = omega arith in
    let g : length (lines_to pic (i + 1)) ≤ length (lines_to pic (length pic)) = rw z at (grow pic (i + 1) (length pic - (i + 1))) in
    omega (arith, length_next pic i, ap length (lines_all pic {i = length pic} (omega arith) (omega arith)))

pub lines_small : (pic : List ℕ) (i : ℕ) → length (lines_to pic i) ≤ i * 6
lines_small pic zero = omega (arith, ap length (lines_none pic))
lines_small pic (suc i) =
    let z : i + 1 ≡ suc i = omega arith in
    rw (← z) (omega (arith, length_next pic i, lines_small pic i, count_most 5 (get_or pic i 0)))

-- one line more is laid down
pub laid_line : (pic d : List ℕ) (i : ℕ) {s t : List ℕ} {at : ℕ} → s ≡ onto d (lines_to pic i) → at ≡ length (lines_to pic i) → t ≡ over s at (sample_line (get_or pic i 0)) → t ≡ onto d (lines_to pic (i + 1))
laid_line pic d i {s} {t} {at} e q h = h ∙ (onto_over d (lines_to pic i) (sample_line (get_or pic i 0)) at e q ∙ ap (onto d) (sym (lines_next pic i)))

-- a picture's lines take at most six bytes a sample
pub lines_most : (pic : List ℕ) → length (lines_of pic) ≤ length pic * 6
lines_most pic = omega (arith, ap length (lines_all pic {i = length pic} (omega arith) (omega arith)), lines_small pic (length pic))

-- a number below 10,000 has at most four digits
pub count_few : (v : ℕ) → v < 10000 → length (decimal_of 5 v) ≤ 4
count_few v h =
    ⊎_elim (λ a. omega (arith, count_1 v a))
    (λ a. ⊎_elim (λ b. omega (arith, count_2 v a b)) (λ b. ⊎_elim (λ e. omega (arith, count_3 v b e)) (λ e. omega (arith, count_4 v e h)) (lt_or_ge v 1000)) (lt_or_ge v 100))
    (lt_or_ge v 10)

few_upto : (pic : List ℕ) (i : ℕ) → ((k : ℕ) → k < i → get_or pic k 0 < 10000) → length (lines_to pic i) ≤ i * 5
few_upto pic zero small = omega (arith, ap length (lines_none pic))
few_upto pic (suc i) small =
    let z : i + 1 ≡ suc i = omega arith in
    rw (← z) (omega (arith, length_next pic i, few_upto pic i (λ k l. small k (omega arith)), count_few (get_or pic i 0) (small i (omega arith))))

-- and so the lines of a film take at most five bytes a sample
pub lines_few : (pic : List ℕ) → ((k : ℕ) → k < length pic → get_or pic k 0 < 10000) → length (lines_of pic) ≤ length pic * 5
lines_few pic small = omega (arith, ap length (lines_all pic {i = length pic} (omega arith) (omega arith)), few_upto pic (length pic) small)
