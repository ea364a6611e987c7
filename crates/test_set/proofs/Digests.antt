-- Laws of digests, and of buffers that are filled from the front to their end. Assumes nothing.
use Rattle.std.proofs.Common.{◌≡◌, ℕ, ◌+◌, ◌<◌, ◌≤◌, min, Bool, true, false, leb, List, length, get_or, take, drop, sym, refl, ap, ◌∙◌, append-nil, arith, drop_of_length-le, length-take-le, take_all, get_or-take, leb-false, leb-true}
use lib.Seq.{take-length}
use Rattle.base_lists.specs.Lists.{tab, filled}
use Rattle.test_text.specs.Text.{run}
use Rattle.test_text.proofs.Runs.{run_all}
use Rattle.test_set.specs.Filmset.{mixed, digest_of}

-- a digest's last turn takes the length in
pub digest_end : (s : List ℕ) (i : ℕ) {h r : ℕ} → h ≡ run mixed 7 (take i s) → length s ≤ i → r ≡ mixed h (length s) → r ≡ digest_of s
unfolding digest_of
digest_end s i {h} {r} e l q = q ∙ ap (λ x. mixed x (length s)) (run_all mixed 7 s i e l)

-- the first n entries, or all where there are no more
pub take_min : (s : List ℕ) (n : ℕ) → take (min n (length s)) s ≡ take n s
take_min s n = go (leb n (length s)) refl
  where
    go : (b : Bool) → leb n (length s) ≡ b → take (min n (length s)) s ≡ take n s
    go true e = let h : n ≤ length s = leb-true n (length s) e in let q : min n (length s) ≡ n = omega arith in ap (λ k. take k s) q
    go false e =
        let h : length s < n = leb-false n (length s) e in
        let q : min n (length s) ≡ length s = omega arith in
        ap (λ k. take k s) q ∙ (take-length s ∙ sym (take_all n s (omega arith)))

-- a buffer that is filled to its end
pub filled_full : (f : ℕ → ℕ) (d : List ℕ) (n : ℕ) → length d ≡ n → filled f d n ≡ tab n f
unfolding filled
filled_full f d n e = rw (drop_of_length-le d {i = n} (omega arith), append-nil) refl
