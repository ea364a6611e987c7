-- Document 01, "How tight the promises are", of the listing of the C interface: any two outcomes that its contract allows are equal.
-- Document 00, demand 1: "after a refusal all lent memory holds what it held before", where a refusal is a returned number that is not 0.
-- Of every run of the call by its contract (Runs); a name with ' is lent memory at the end.
-- Assumes nothing.
use Prim.Native.Nat.{ℕ, zero, suc, ◌<◌}
use mathlib.Core.List.{List}
use mathlib.Core.Logic.{inl, inr}
use mathlib.Core.Path.{◌≡◌, refl, sym, ap, ◌∙◌}
use lib.ListN.{length}
use Rattle.base_lists.specs.Lists.{onto}
use Rattle.base_rows.specs.Refuse.{first, unless, accepted, refused}
use Rattle.pgm_write.specs.Write.{write_leaves}
use Rattle.listing_file.specs.Listing.{listing_of, text_rows, list_of}
use Rattle.c_flat.specs.Files.{FlatWritten, written_as, flat_written}
use Rattle.c_flat.proofs.Kept.{Keeps, kept}
use Rattle.c_listing.proofs.Runs.{TzListingCall, TzLists, tz_listing_arguments, tz_listing_ends}

-- an outcome that is accepted, or that holds what was lent beside its number
listing_keeps : (s out : List ℕ) (count : ℕ) → Keeps (λ (z : FlatWritten). z.number) (λ n. written_as n out count) (flat_written (list_of s out) count)
unfolding flat_written list_of
listing_keeps s out count = go (first (text_rows (length out)))
  where
    go : (n : ℕ)
        → Keeps (λ (z : FlatWritten). z.number) (λ n. written_as n out count)
        (flat_written (unless n (λ k. write_leaves (refused k) out) (write_leaves (accepted (length (listing_of s))) (onto out (listing_of s)))) count)
    go zero = inl refl
    go (suc n) = inr refl

-- any two outcomes are equal: its number, output and byte count
pub tz_listing_determined : {c k : TzListingCall} → TzLists c → TzLists k → tz_listing_arguments c ≡ tz_listing_arguments k
    → (c.number ≡ k.number) × (c.out' ≡ k.out') × (c.count' ≡ k.count')
tz_listing_determined x y same =
    let e = tz_listing_ends x ∙ ap (λ g. flat_written (list_of g.0 g.1) g.2) same ∙ sym (tz_listing_ends y) in
    (ap (λ (z : FlatWritten). z.number) e, ap (λ (z : FlatWritten). z.out) e, ap (λ (z : FlatWritten). z.count) e)

-- a refusal keeps lent memory
pub tz_listing_refusal_keeps : {c : TzListingCall} → TzLists c → 0 < c.number → (c.out' ≡ c.out) × (c.count' ≡ c.count)
tz_listing_refusal_keeps {c} ran l =
    let e = kept (λ (z : FlatWritten). z.number) (λ n. written_as n c.out c.count) (tz_listing_ends ran) (listing_keeps _ _ _) l in
    (ap (λ (z : FlatWritten). z.out) e, ap (λ (z : FlatWritten). z.count) e)
