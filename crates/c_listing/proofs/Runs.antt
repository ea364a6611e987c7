-- The listing of the C interface by the names of its arguments. A name with ' is lent memory at the end; `number` is what is returned.
-- The only file that counts the call's parameters, in their order in the source. That each name is the contract's own is checked by the law `..-ends`.
-- Assumes nothing.
use Prim.Native.Nat.{ℕ}
use mathlib.Core.List.{List}
use mathlib.Core.Path.{◌≡◌}
use Rattle.base_rows.specs.Run.{Run, Ran}
use Rattle.listing_file.specs.Listing.{list_of}
use Rattle.c_flat.specs.Files.{written_as, flat_written}
use Rattle.c_listing.proofs.tz_listing.Kinds as listing
use Rattle.c_listing.proofs.tz_listing.Reads as listing-reads

pub record TzListingCall : Type 0 where
  pub bytes : List ℕ
  pub out : List ℕ
  pub count : ℕ
  pub number : ℕ
  pub out' : List ℕ
  pub count' : ℕ

abbrev pub tz_listing_values : Run listing.ps listing.r listing-reads.Post → TzListingCall
tz_listing_values run =
    let (bytes, (out, (count, end))) = run.handed in
    let (_, (out', (count', end'))) = run.left in
    record { bytes = bytes.now; out = out.now; count = count.now; number = run.answer; out' = out'.now; count' = count'.now }

-- what it is handed
abbrev pub tz_listing_arguments : TzListingCall → List ℕ × List ℕ × ℕ
tz_listing_arguments c = (c.bytes, c.out, c.count)

-- tz_listing ran with these values
abbrev pub TzLists : TzListingCall → Type 0
TzLists = Ran tz_listing_values

pub tz_listing_ends : {c : TzListingCall} → TzLists c → written_as c.number c.out' c.count' ≡ flat_written (list_of c.bytes c.out) c.count
tz_listing_ends ran = rw ran.named ran.run.allowed
