-- What either reader left is a film: as many greys as its sizes say, none above its maxval. So both writers take it.
-- Assumes nothing.
use Prim.Native.Nat.{ℕ, zero, suc, ◌*◌}
use mathlib.Core.List.{List}
use mathlib.Core.Path.{◌≡◌, refl, sym, ap, ◌∙◌}
use lib.ListN.{length, take, drop}
use native.Mathlib.Omega.{arith}
use Rattle.base_lists.specs.Lists.{onto}
use Rattle.base_lists.proofs.Fills.{take_onto}
use Rattle.base_rows.specs.Refuse.{first, unless, Says, accepted, refused}
use Rattle.pgm_samples.specs.Samples.{is_wide, unpacked, none_above_of}
use Rattle.pgm_samples.proofs.Bounds.{length_unpacked}
use Rattle.pgm_greys.specs.Greys.{turn_rows, turned_of, GreysOut, greys_leave}
use Rattle.pgm_greys.proofs.Tables.{grey_asks}
use Rattle.pgm_write.specs.Write.{WriteReady}
use Rattle.pgm_plain.proofs.Grammar.{samples_most}
use Rattle.pgm_plain_read.specs.PlainRead.{plain_read_as, plain_of}
use Rattle.pgm_plain_read.proofs.Accepted.{PlainFilm, read_sound}

-- what stands at the target's front is the film that was laid there
front_film : (target : List ℕ) {left pic : List ℕ} {w h m : ℕ} → left ≡ onto target pic → WriteReady pic w h m → WriteReady (take (w * h) left) w h m
front_film target {left} {pic} {w} {h} q f = rw (ap (take (w * h)) q ∙ take_onto target pic (w * h) f.whole) f

-- the film of a plain file that was accepted
pub accepted_film : {s target left : List ℕ} {w h m : ℕ} (x : PlainFilm s target left w h m) → WriteReady x.pic w h m
unfolding none_above_of
accepted_film {m = m} x = record { within = x.within; whole = x.file.count; bounded = samples_most m x.pic x.file.rest x.file.samples }

-- of any plain file that was accepted
pub plain_left : (s target left : List ℕ) (w h m : ℕ) → plain_of s target ≡ plain_read_as (accepted (w, h, m)) left → WriteReady (take (w * h) left) w h m
plain_left s target left w h m q = let x = read_sound s target w h m q in front_film target x.laid (accepted_film x)

-- of any raster that was turned into greys
pub raw_left : (s : List ℕ) (start : ℕ) (target left : List ℕ) (w h m : ℕ) → turned_of s start w h m target ≡ greys_leave (accepted tt) left → WriteReady (take (w * h) left) w h m
unfolding turned_of
raw_left s start target left w h m q = go (first (turn_rows s start w h m (length target))) refl q
  where
    pic : List ℕ
    pic = unpacked (is_wide m) (drop start s) (w * h)

    go : (n : ℕ) → first (turn_rows s start w h m (length target)) ≡ n → unless n (λ k. greys_leave (refused k) target) (greys_leave (accepted tt) (onto target pic)) ≡ greys_leave (accepted tt) left
        → WriteReady (take (w * h) left) w h m
    go zero e q =
        let x = grey_asks s start w h m (length target) e in
        front_film target (sym (ap (λ (g : GreysOut). g.target) q)) (record { within = x.raster.within; whole = length_unpacked (is_wide m) (drop start s) (w * h); bounded = x.bounded })
    go (suc n) e q =
        let a : ◌≡◌ {A = Says (Unit {0})} (refused (suc n)) (accepted tt) = ap (λ (g : GreysOut). g.answer) q in
        absurd (let z : ◌≡◌ {A = ℕ} 0 1 = cc in omega arith)
