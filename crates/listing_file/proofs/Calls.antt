-- Laws of the listing's calls: what greys and read left, and the text that follows.
-- Assumes nothing.
use Prim.Native.Nat.{ℕ, zero, suc, ◌-◌, ◌*◌, ◌≤◌, ◌<◌}
use mathlib.Core.Bool.{Bool, true, false, cond}
use mathlib.Core.List.{List}
use mathlib.Core.Path.{◌≡◌, refl, sym, ap, ◌∙◌}
use lib.Dec.{ltb}
use lib.ListN.{length, take, drop, length-drop}
use lib.Seq.{length-take-le}
use native.Mathlib.Nat.{mul-le-mul}
use native.Mathlib.Omega.{arith}
use borrow.Author.Tests.{ltb-true, ltb-false, lt-ltb, le-ltb}
use Rattle.base_lists.specs.Lists.{onto}
use Rattle.base_lists.proofs.Fills.{take_onto}
use Rattle.base_rows.specs.Refuse.{first, unless, Says, accepted, refused}
use Rattle.base_rows.proofs.Walk.{first_behind}
use Rattle.pgm_header.specs.Header.{Head, header_of}
use Rattle.pgm_samples.specs.Samples.{is_wide, unpacked, none_above_of}
use Rattle.pgm_samples.proofs.Bounds.{length_unpacked}
use Rattle.pgm_write.specs.Write.{WriteOut, write_leaves}
use Rattle.pgm_raster.specs.Raster.{head_rows, raster_rows, RasterAsks}
use Rattle.pgm_greys.specs.Greys.{target_rows, turn_rows, GreysOut, greys_leave, turned_of}
use Rattle.pgm_read.specs.Pgm.{read_of, sizes_of, raster_of}
use Rattle.pgm_raster.proofs.Tables.{within_none, exact_none}
use Rattle.pgm_greys.proofs.Tables.{grey_asks, target_roomy}
use Rattle.pgm_read.proofs.Tables.{read_header}
use Rattle.pgm_read.proofs.Laws.{read_asks}
use Rattle.film_prepare.specs.Prepare.{prepare_rows}
use Rattle.listing_line.specs.Lines.{refused_text}
use Rattle.listing_line.specs.Asks.{Told}
use Rattle.listing_line.proofs.Lines.{length_refused}
use Rattle.listing_film.specs.FilmText.{listing_settings, film_text}
use Rattle.listing_film.proofs.Tiles.{length_film}
use Rattle.listing_file.specs.Listing.{is_larger_of, picture_text, read_text, listing_of, text_rows, list_of, laid_of}
use Rattle.listing_file.specs.Asks.{ListRasterAsks}

-- a product of two 32-bit numbers fits 64 bits
pub product_fits : (a b : ℕ) → a < 4294967296 → b < 4294967296 → a * b < 18446744073709551616
product_fits a b l m =
    let p : a ≤ 4294967295 = omega arith in
    let q : b ≤ 4294967295 = omega arith in
    let r : a * b ≤ 18446744065119617025 = mul-le-mul p q in
    omega arith

-- ---- texts

-- what `lay_text` leaves
pub told_both : {d text text' out : List ℕ} {r : ℕ} → Told d text out r → text ≡ text' → (out ≡ onto d text') × (r ≡ length text')
told_both t e = (t.bytes ∙ ap (onto _) e, t.count ∙ ap length e)

-- ---- what greys left

module _ (raster : List ℕ) (w h m room : ℕ) (asks : ListRasterAsks raster w h m room) where
  -- the greys of the raster
  abbrev pub greys : List ℕ
  greys = unpacked (is_wide m) raster (w * h)

  -- of the rows for greys, only 26 can apply
  rows_target : (target : List ℕ) → length target ≡ 8192 → first (turn_rows raster 0 w h m (length target)) ≡ first (target_rows raster 0 w h m 8192)
  unfolding turn_rows
  rows_target target n =
      rw n
      (first_behind (head_rows w h m) _ (within_none w h m asks.asks.within)
      ∙ first_behind (raster_rows w h m (length raster - 0)) _ (exact_none w h m (length raster - 0) (omega (arith, asks.asks.exact))))

  -- the answer is done: the greys are none above maxval, and stand at the front of the film
  pub greys_told : (target : List ℕ) {left : List ℕ} {answer : Says (Unit {0})} → length target ≡ 8192 → answer ≡ accepted tt → greys_leave answer left ≡ turned_of raster 0 w h m target
      → (none_above_of m greys ≡ true) × (left ≡ onto target greys)
  unfolding turned_of
  greys_told target {left} {answer} n a e = go (first (turn_rows raster 0 w h m (length target))) refl (rw a at e)
    where
      go : (i : ℕ) → first (turn_rows raster 0 w h m (length target)) ≡ i → greys_leave (accepted tt) left ≡ unless i (λ n. greys_leave (refused n) target) (greys_leave (accepted tt) (onto target greys))
          → (none_above_of m greys ≡ true) × (left ≡ onto target greys)
      go zero z f = ((grey_asks raster 0 w h m (length target) z).bounded, ap (λ (x : GreysOut). x.target) f)
      go (suc i) z f =
          let a : ◌≡◌ {A = Says (Unit {0})} (accepted tt) (refused (suc i)) = ap (λ (x : GreysOut). x.answer) f in
          absurd (let o : ◌≡◌ {A = ℕ} 0 1 = cc in omega arith)

  -- of the last two rows, 27 does not apply
  target_last : (i : ℕ) → first (target_rows raster 0 w h m 8192) ≡ suc i → (suc i ≡ 26) × (none_above_of m greys ≡ false)
  target_last i z = go (none_above_of m greys) refl (sym (target_roomy raster 0 w h m 8192 asks.few) ∙ z)
    where
      go : (b : Bool) → none_above_of m greys ≡ b → ◌≡◌ {A = ℕ} (cond b 0 26) (suc i) → (suc i ≡ 26) × (none_above_of m greys ≡ false)
      go true q y = absurd (omega arith)
      go false q y = (sym y, q)

  -- the answer is a refusal: it is 26
  pub greys_refused : (target : List ℕ) {left : List ℕ} {answer : Says (Unit {0})} {r : ℕ} → length target ≡ 8192 → answer ≡ refused r → greys_leave answer left ≡ turned_of raster 0 w h m target
      → (r ≡ 26) × (none_above_of m greys ≡ false)
  unfolding turned_of
  greys_refused target {left} {answer} {r} n a e = go (first (turn_rows raster 0 w h m (length target))) refl (rw a at e)
    where
      go : (i : ℕ) → first (turn_rows raster 0 w h m (length target)) ≡ i → greys_leave (refused r) left ≡ unless i (λ n. greys_leave (refused n) target) (greys_leave (accepted tt) (onto target greys))
          → (r ≡ 26) × (none_above_of m greys ≡ false)
      go zero z f =
          let a : ◌≡◌ {A = Says (Unit {0})} (refused r) (accepted tt) = ap (λ (x : GreysOut). x.answer) f in
          absurd (let o : ◌≡◌ {A = ℕ} 0 1 = cc in omega arith)
      go (suc i) z f =
          let a : ◌≡◌ {A = Says (Unit {0})} (refused r) (refused (suc i)) = ap (λ (x : GreysOut). x.answer) f in
          let b : r ≡ suc i = cc in
          let t = target_last i (sym (rows_target target n) ∙ z) in
          (b ∙ t.0, t.1)

  -- the film has room for them
  pub film_count : (left : List ℕ) → length left ≡ 8192 → w * h ≡ length (take (w * h) left)
  film_count left n = sym (length-take-le (w * h) left (omega (arith, asks.few)))

  -- the front of the film is the greys
  pub film_front : (target : List ℕ) {left : List ℕ} {count : ℕ} → left ≡ onto target greys → count ≡ w * h → take count left ≡ greys
  film_front target {left} {count} e q = rw e (take_onto target greys count (length_unpacked (is_wide m) raster (w * h) ∙ sym q))

-- the text of a film none of whose samples is above maxval
pub picture_listed : (w h m : ℕ) {pic film d out : List ℕ} {r : ℕ} → film ≡ pic → none_above_of m pic ≡ true
    → Told d (unless (first (prepare_rows w h film (listing_settings m) 16 4 8)) refused_text (film_text w h m film)) out r → Told d (picture_text w h m pic) out r
picture_listed w h m {pic} {film} f e t = rw e (rw f at t)

-- the text of one that has such a sample
pub picture_above : (w h m : ℕ) (pic : List ℕ) → none_above_of m pic ≡ false → refused_text 26 ≡ picture_text w h m pic
picture_above w h m pic e = rw e refl

-- ---- what read left

-- where the raster starts
pub record Start (s : List ℕ) (w h m : ℕ) : Type 0 where
  pub at : ℕ
  pub found : read_of s ≡ Head.Found w h m at

-- the answer is sizes
pub sizes_found : (s : List ℕ) {w h m : ℕ} → ◌≡◌ {A = Says (ℕ × ℕ × ℕ)} (accepted (w, h, m)) (sizes_of (read_of s)) → Start s w h m
sizes_found s {w} {h} {m} e = go (read_of s) refl e
  where
    go : (x : Head) → read_of s ≡ x → ◌≡◌ {A = Says (ℕ × ℕ × ℕ)} (accepted (w, h, m)) (sizes_of x) → Start s w h m
    go (Head.Found w' h' m' at) p f =
        let v : ◌≡◌ {A = ℕ × ℕ × ℕ} (w', h', m') (w, h, m) = cc in
        let a : w' ≡ w = ap (λ (y : ℕ × ℕ × ℕ). y.0) v in
        let b : h' ≡ h = ap (λ (y : ℕ × ℕ × ℕ). y.1) v in
        let d : m' ≡ m = ap (λ (y : ℕ × ℕ × ℕ). y.2) v in
        record { at = at; found = p ∙ cc }
    go (Head.Refused n) p f = absurd (let o : ◌≡◌ {A = ℕ} 0 1 = cc in omega arith)

-- the answer is a refusal
pub sizes_refused : (s : List ℕ) {n : ℕ} → ◌≡◌ {A = Says (ℕ × ℕ × ℕ)} (refused n) (sizes_of (read_of s)) → read_of s ≡ Head.Refused n
sizes_refused s {n} e = go (read_of s) refl e
  where
    go : (x : Head) → read_of s ≡ x → ◌≡◌ {A = Says (ℕ × ℕ × ℕ)} (refused n) (sizes_of x) → read_of s ≡ Head.Refused n
    go (Head.Found w h m at) p f = absurd (let o : ◌≡◌ {A = ℕ} 0 1 = cc in omega arith)
    go (Head.Refused k) p f = let a : k ≡ n = cc in p ∙ cc

-- ---- the whole

module _ (s : List ℕ) where
  -- a longer input
  pub listing_long : 32768 < length s → refused_text 22 ≡ listing_of s
  unfolding listing_of
  listing_long l = rw (lt-ltb 32768 (length s) l) refl

  module _ (l : length s ≤ 32768) where
    -- a larger film
    pub listing_larger : {b : Bool} → b ≡ is_larger_of (header_of s) → b ≡ true → refused_text 22 ≡ listing_of s
    unfolding listing_of
    listing_larger e q = rw (le-ltb 32768 (length s) l, ← e, q) refl

    module _ {b : Bool} (e : b ≡ is_larger_of (header_of s)) (q : b ≡ false) where
      -- what read says
      listing_read : read_text (read_of s) s ≡ listing_of s
      unfolding listing_of
      listing_read = rw (le-ltb 32768 (length s) l, ← e, q) refl

      -- read's refusal
      pub listing_refused : {n : ℕ} → ◌≡◌ {A = Says (ℕ × ℕ × ℕ)} (refused n) (sizes_of (read_of s)) → refused_text n ≡ listing_of s
      listing_refused f = ap (λ x. read_text x s) (sym (sizes_refused s f)) ∙ listing_read

      module _ {w h m : ℕ} (f : ◌≡◌ {A = Says (ℕ × ℕ × ℕ)} (accepted (w, h, m)) (sizes_of (read_of s))) {raster : List ℕ} (r : raster ≡ raster_of (read_of s) s) where
        start : Start s w h m
        start = sizes_found s f

        raster_is : raster ≡ drop start.at s
        raster_is = r ∙ ap (λ x. raster_of x s) start.found

        few : w * h ≤ 8192
        few = ltb-false 8192 (w * h) (ap is_larger_of (sym (read_header s start.found)) ∙ (sym e ∙ q))

        -- what `list_raster` asks
        pub list_asks : (room : ℕ) → 512 ≤ room → ListRasterAsks raster w h m room
        list_asks room n =
            let t : RasterAsks s start.at w h m = read_asks s start.found in
            record {
              asks = record { within = t.within; exact = rw (raster_is, length-drop) (omega (arith, t.exact)) };
              few = few;
              fitting = n;
            }

        -- the listing of the film that was read
        pub listing_found : picture_text w h m (unpacked (is_wide m) raster (w * h)) ≡ listing_of s
        listing_found =
            ap (λ t. picture_text w h m (unpacked (is_wide m) t (w * h))) raster_is ∙ (ap (λ x. read_text x s) (sym start.found) ∙ listing_read)

-- ---- how long the text is

length_unless : (n : ℕ) (text : List ℕ) → length text ≤ 240 → length (unless n refused_text text) ≤ 240
length_unless zero text l = l
length_unless (suc n) text l = omega (arith, length_refused (suc n))

length_pick : (b : Bool) (s t : List ℕ) → length s ≤ 240 → length t ≤ 240 → length (cond b s t) ≤ 240
length_pick true s t l k = l
length_pick false s t l k = k

length_read : (x : Head) (s : List ℕ) → length (read_text x s) ≤ 240
length_read (Head.Found w h m at) s =
    let pic = unpacked (is_wide m) (drop at s) (w * h) in
    length_pick (none_above_of m pic) _ (refused_text 26) (length_unless (first (prepare_rows w h pic (listing_settings m) 16 4 8)) (film_text w h m pic) (length_film w h m pic)) (omega (arith, length_refused 26))
length_read (Head.Refused n) s = omega (arith, length_refused n)

-- at most 240 bytes are printed, whatever is read
pub length_listing : (s : List ℕ) → length (listing_of s) ≤ 240
unfolding listing_of
length_listing s =
    length_pick (ltb 32768 (length s)) (refused_text 22) _ (omega (arith, length_refused 22))
    (length_pick (is_larger_of (header_of s)) (refused_text 22) (read_text (read_of s) s) (omega (arith, length_refused 22)) (length_read (read_of s) s))

-- ---- the output's room

pub list_short : (s out : List ℕ) → length out < 512 → write_leaves (refused 27) out ≡ list_of s out
unfolding first text_rows list_of
list_short s out h = rw (lt-ltb (length out) 512 h) refl

pub list_laid : (s out : List ℕ) {out' : List ℕ} {n : ℕ} → 512 ≤ length out → out' ≡ onto out (listing_of s) → n ≡ length (listing_of s) → write_leaves (accepted n) out' ≡ list_of s out
unfolding first text_rows list_of
list_laid s out h e q = rw (le-ltb (length out) 512 h, e, q) refl

-- what was laid down lies in the output
pub list_fits : (s out : List ℕ) {r : Says ℕ} {out' : List ℕ} → write_leaves r out' ≡ list_of s out → laid_of r ≤ length out
list_fits s out {r} e = go (ltb (length out) 512) refl
  where
    laid : laid_of r ≡ laid_of (list_of s out).answer
    laid = ap (λ (z : WriteOut). laid_of z.answer) e

    go : (b : Bool) → ltb (length out) 512 ≡ b → laid_of r ≤ length out
    go true q = omega (arith, laid ∙ ap (λ (z : WriteOut). laid_of z.answer) (sym (list_short s out (ltb-true (length out) 512 q))))
    go false q =
        let room : 512 ≤ length out = ltb-false (length out) 512 q in
        omega (arith, laid ∙ ap (λ (z : WriteOut). laid_of z.answer) (sym (list_laid s out room refl refl)), length_listing s, room)
