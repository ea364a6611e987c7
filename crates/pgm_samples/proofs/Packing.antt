-- A raster that is laid down sample by sample.
-- Assumes nothing.
use Prim.Native.Nat.{ℕ, ◌+◌, ◌*◌, ◌≤◌}
use mathlib.Core.Bool.{Bool}
use mathlib.Core.List.{List}
use mathlib.Core.Path.{◌≡◌, ◌∙◌}
use lib.ListN.{length, get_or}
use Rattle.base_lists.specs.Lists.{blocks, onto, over}
use Rattle.base_lists.proofs.Fills.{blocks_none, length_joined}
use Rattle.base_lists.proofs.Blocks.{blocks_over, blocks_end, blocks_onto}
use Rattle.pgm_samples.specs.Samples.{sample_bytes, bytes_of, packed}
use Rattle.pgm_samples.proofs.Widths.{length_bytes}

-- d with the first n greys laid down at its front
unfoldable pub laid : Bool → List ℕ → List ℕ → ℕ → List ℕ
laid two vs d n = blocks (sample_bytes two) (λ k. bytes_of two (get_or vs k 0)) d n

-- nothing was laid down yet
pub laid_first : (two : Bool) (vs d : List ℕ) → d ≡ laid two vs d 0
unfolding laid
laid_first two vs d = blocks_none (sample_bytes two) (λ k. bytes_of two (get_or vs k 0)) d

-- one grey more was laid down
pub laid_next : (two : Bool) (vs d : List ℕ) {m n : List ℕ} (i : ℕ) → m ≡ laid two vs d i → n ≡ over m (i * sample_bytes two) (bytes_of two (get_or vs i 0)) → n ≡ laid two vs d (i + 1)
unfolding laid
laid_next two vs d i e o = blocks_over (sample_bytes two) (λ k. bytes_of two (get_or vs k 0)) d i (λ j l. length_bytes two (get_or vs j 0)) e o

-- all greys were laid down
pub laid_end : (two : Bool) (vs d : List ℕ) {m : List ℕ} {i : ℕ} → m ≡ laid two vs d i → i ≤ length vs → length vs ≤ i → m ≡ onto d (packed two vs)
unfolding laid packed
laid_end two vs d e h l =
    let f : ℕ → List ℕ = λ k. bytes_of two (get_or vs k 0) in
    blocks_end (sample_bytes two) f d e h l ∙ blocks_onto (sample_bytes two) f d (length vs) (λ j l. length_bytes two (get_or vs j 0))

-- greys laid down take as many bytes as samples times the bytes of one
pub length_packed : (two : Bool) (vs : List ℕ) → length (packed two vs) ≡ length vs * sample_bytes two
unfolding packed
length_packed two vs = length_joined (sample_bytes two) (length vs) (λ k. bytes_of two (get_or vs k 0)) (λ i l. length_bytes two (get_or vs i 0))
