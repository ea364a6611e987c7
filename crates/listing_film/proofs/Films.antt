-- Laws of the text that `film_lines` lays down: how long its lines are, the loop over the tiles, and the whole of it.
-- Assumes nothing.
use Prim.Native.Nat.{ℕ, ◌+◌, ◌*◌, ◌≤◌, ◌<◌}
use mathlib.Core.List.{List, [], ◌∷◌, ◌++◌}
use mathlib.Core.Path.{◌≡◌, refl, sym, ap, ◌∙◌}
use lib.ListN.{length, get_or, length-append}
use native.Mathlib.Nat.{zero-add}
use native.Mathlib.Omega.{arith}
use Rattle.base_lists.specs.Lists.{joined, onto, over}
use Rattle.base_lists.proofs.Fills.{joined_suc, over_zero}
use Rattle.base_lists.proofs.Overs.{over_nil, over_over, onto_over}
use Rattle.listing_line.specs.Lines.{line}
use Rattle.listing_line.specs.Asks.{tile_fields, Laid, Told}
use Rattle.listing_line.proofs.Lines.{length_line}
use Rattle.listing_film.specs.Asks.{first_kept, kept_line, kept_text}

-- ---- how long the lines are

-- the first has eight numbers
pub length_first : (w h m l : ℕ) → length (first_kept w h m l) ≤ 48
length_first w h m l = length_line (w ∷ h ∷ 2 ∷ 2 ∷ 4 ∷ 0 ∷ m ∷ l ∷ []) (omega arith)

-- and so has a tile's
pub length_tile : (map list : List ℕ) (k : ℕ) → length (kept_line map list k) ≤ 48
unfolding kept_line
length_tile map list k = length_line (tile_fields k (get_or list (k * 2) 0) (get_or list (k * 2 + 1) 0) map) (omega arith)

-- the whole text
pub length_text : (w h m l : ℕ) (map list : List ℕ) → length (kept_text w h m l map list) ≤ 240
unfolding kept_text joined
length_text w h m l map list =
    simp length-append
    (omega (arith, length_first w h m l, length_tile map list 0, length_tile map list 1, length_tile map list 2, length_tile map list 3))

-- ---- the loop over the tiles

-- the lines of k tiles are laid down, from at₀ on
pub record Going (map list out₀ : List ℕ) (at₀ : ℕ) (out : List ℕ) (at k : ℕ) : Type 0 where
  pub size : length out ≡ length out₀
  pub most : k ≤ 4
  pub room : at ≤ 48 + 48 * k
  pub inside : at₀ ≤ length out₀
  pub bytes : out ≡ over out₀ at₀ (joined k (kept_line map list))
  pub next : at ≡ at₀ + length (joined k (kept_line map list))

-- the first line ends by place 48
pub first_few : (w h m l : ℕ) {d s : List ℕ} {a : ℕ} → Laid d 0 (first_kept w h m l) s a → a ≤ 48
first_few w h m l laid = omega (arith, laid.next, length_first w h m l)

-- none yet
pub going_first : (map list out₀ : List ℕ) (at₀ : ℕ) → at₀ ≤ 48 → 48 ≤ length out₀ → Going map list out₀ at₀ out₀ at₀ 0
unfolding joined
going_first map list out₀ at₀ l n =
    record { size = refl; most = omega arith; room = omega arith; inside = omega arith; bytes = sym (over_nil out₀ at₀); next = omega arith }

-- a tile's fields in a line are its line
pub tile_laid : (map list : List ℕ) (k : ℕ) {out out' : List ℕ} {at at' : ℕ} → Laid out at (line (tile_fields k (get_or list (k * 2) 0) (get_or list (k * 2 + 1) 0) map)) out' at'
    → Laid out at (kept_line map list k) out' at'
unfolding kept_line
tile_laid map list k laid = laid

-- one more
pub going_next : {map list out₀ : List ℕ} {at₀ : ℕ} {out : List ℕ} {at k : ℕ} → Going map list out₀ at₀ out at k → k < 4
    → {out' : List ℕ} {at' : ℕ} → Laid out at (kept_line map list k) out' at' → length out' ≡ length out → Going map list out₀ at₀ out' at' (k + 1)
going_next {map} {list} {out₀} {at₀} {out} {at} {k} g l {out'} {at'} laid n =
    record {
      size = n ∙ g.size;
      most = omega arith;
      room = omega (arith, g.room, laid.next, length_tile map list k);
      inside = g.inside;
      bytes = laid.bytes
          ∙ rw (g.bytes, g.next, joined_suc k (kept_line map list)) (over_over out₀ (joined k (kept_line map list)) (kept_line map list k) at₀ g.inside);
      next = omega (arith, laid.next, g.next, ap length (joined_suc k (kept_line map list)), length-append (joined k (kept_line map list)) (kept_line map list k));
    }

-- ---- the whole text

-- the first line laid down at the front, and those of four tiles behind it
pub lines_told : (w h m l : ℕ) (map list d : List ℕ) {s out : List ℕ} {a at k : ℕ} → Laid d 0 (first_kept w h m l) s a
    → Going map list s a out at k → 4 ≤ k → Told d (kept_text w h m l map list) out at
unfolding kept_text
lines_told w h m l map list d {s} {out} {a} {at} {k} laid g q =
    let n : at ≡ length (first_kept w h m l ++ joined 4 (kept_line map list)) =
    omega (arith, g.next, begin, ap (λ i. length (joined i (kept_line map list))) four, length-append (first_kept w h m l) (joined 4 (kept_line map list))) in
    record { bytes = g.bytes ∙ rw four (onto_over d (first_kept w h m l) (joined 4 (kept_line map list)) a front begin); count = n }
  where
    four : k ≡ 4
    four = omega (arith, g.most)

    front : s ≡ onto d (first_kept w h m l)
    front = laid.bytes ∙ over_zero d (first_kept w h m l)

    begin : a ≡ length (first_kept w h m l)
    begin = laid.next ∙ zero-add (length (first_kept w h m l))
