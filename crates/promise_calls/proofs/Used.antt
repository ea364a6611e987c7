-- L x B over N, each an f64 that is exact, divided once, is not below 1.0: of a film's footer with a factor above one, whichever call made it.
-- Assumes nothing.
use Prim.Native.Nat.{ℕ, ◌*◌, ◌≤◌, ◌<◌, ◌^◌}
use mathlib.Core.Bool.{true, false, true≢false}
use mathlib.Core.Path.{◌≡◌, refl, sym, subst}
use native.Mathlib.Nat.{mul-pos, le_trans}
use native.Mathlib.Omega.{arith}
use lib.Dec.{T, ltb→lt, lit≤}
use lib.Ieee.{Float, nan, inf, fin, binary64, up, down, round, div, of_int, le, fits}
use lib.Ieee.Fits.{up_pos, down_pos, round-fits}
use lib.Ieee.Exact.{HasValue}
use lib.Ieee.Back.{round_whole, whole_unique}
use lib.Ieee.Positive.{positive_of_value}
use lib.Ieee.Order.{round_mono}
use lib.Ieee.Scale.{round_same}
use lib.Ieee.Bits.{is_true}
use borrow.Author.Tests.{ne_eqb, not-false}
use mathlib.Core.List.{List}
use Rattle.base_rows.specs.Refuse.{accepted}
use Rattle.tile_limit.specs.Limit.{allowed, limit_of, used_of}
use Rattle.tile_limit.proofs.Laws.{limit_holds, limit_room}
use Rattle.film_settings.specs.declared.Settings.{Settings}
use Rattle.film_settings.specs.declared.MapRecord.{MapRecord}
use Rattle.film_settings.specs.declared.Footer.{Footer}
use Rattle.film_settings.specs.Settings.{bins_of, clip_bad_of}
use Rattle.film_tiles.specs.Tiles.{pixels_in, one, FilmFooterAsks}
use Rattle.film_tiles.proofs.Tiles.{tiles_least, tile_pixels_some, tile_pixels_most}
use Rattle.film_tiles.proofs.Footers.{film_asks}
use Rattle.promise_films.specs.Films.{ClippingOn, FooterShows}
use Rattle.promise_films.proofs.Ended.{Rendered}
use Rattle.promise_films.proofs.Runs.{EnhanceCall}
use Rattle.promise_calls.specs.Calls.{NotBelowOne}
use Rattle.promise_films.proofs.Made.{Made, made_asks, made_footer}
use Rattle.promise_films.proofs.Whole.{whole_work, whole_footer}
use Rattle.promise_films.specs.Worked.{holds}

-- ---- the quotient

-- of two whole numbers that an f64 holds exactly, the second above 0: rounded once
divided : (x y : Float) (a b : ℕ) → HasValue x false a 1 → HasValue y false b 1 → 0 < b → div binary64 x y ≡ round binary64 false a b
unfolding div
divided nan y a b h k p = absurd h
divided (inf s) y a b h k p = absurd h
divided (fin true m e) y a b h k p = absurd (true≢false h.0)
divided (fin false m e) nan a b h k p = absurd k
divided (fin false m e) (inf t) a b h k p = absurd k
divided (fin false m e) (fin true n d) a b h k p = absurd (true≢false k.0)
divided (fin false m e) (fin false n d) a b h k p =
    rw (ne_eqb n 0 (λ z. omega (arith, some, z)))
    (round_same binary64 false (m * up e * down d) (n * up d * down e) a b (mul-pos (mul-pos some (up_pos d)) (down_pos e)) p (cross (m * up e) (n * up d) (down e) (down d) h.1 k.1))
  where
    some : 0 < n
    some = ltb→lt 0 n (positive_of_value (fin false n d) b 1 k p)

    cross : (x y u v : ℕ) → x * 1 ≡ a * u → y * 1 ≡ b * v → x * v * b ≡ a * (y * u)
    cross x y u v q r =
        let x' : x ≡ a * u = omega arith in
        let y' : y ≡ b * v = omega arith in
        rw (x', y') (omega arith)

-- 1.0 as such a quotient
one_round : round binary64 false 1 1 ≡ one
unfolding fits
one_round = whole_unique binary64 (round binary64 false 1 1) one false 1 (round-fits binary64 false 1 1) tt (round_whole binary64 false 1 (lit≤ tt)) (refl, refl)

-- L x B over N, where it is not below N
pub used_least : (l b n : ℕ) → 0 < n → n ≤ l * b → l * b ≤ 4294967296 → NotBelowOne (used_of l b n)
unfolding used_of of_int
used_least l b n p holds room =
    let most : l * b ≤ 2 ^ 53 = le_trans room (lit≤ tt) in
    let quotient = divided (round binary64 false (l * b) 1) (round binary64 false n 1) (l * b) n (round_whole binary64 false (l * b) most) (round_whole binary64 false n (le_trans holds most)) p in
    is_true (le one (div binary64 (round binary64 false (l * b) 1) (round binary64 false n 1)))
    (subst (λ z. T (le z (div binary64 (round binary64 false (l * b) 1) (round binary64 false n 1)))) one_round
    (subst (λ z. T (le (round binary64 false 1 1) z)) (sym quotient) (round_mono binary64 1 1 (l * b) n (lit≤ tt) p (omega arith))))

-- ---- the footer of a film

-- with a factor above one that 10 lets pass
pub film_used : {w h : ℕ} {s : Settings} {foot : Footer} {f : Float} → FilmFooterAsks w h s → FooterShows s.clip (pixels_in w h s 0) (bins_of s) foot → ClippingOn s.clip f → NotBelowOne foot.used
film_used {w} {h} {s} {foot} {f} asks shows on =
    let n : ℕ = pixels_in w h s 0 in
    let tile : 0 < s.across * s.down = omega (arith, tiles_least asks.tiled) in
    let good : allowed f ≡ true = not-false (allowed f) (subst (λ x. clip_bad_of x ≡ false) on.factor asks.fair) in
    subst (λ (z : Footer). NotBelowOne z.used) (sym (shows.above f on))
    (used_least (limit_of f n (bins_of s)) (bins_of s) n (tile_pixels_some asks.tiled tile) (limit_holds f n (bins_of s) (omega (arith, asks.tiled.bins)))
    (limit_room f n (bins_of s) good (tile_pixels_most asks.tiled tile) asks.tiled.bins asks.tiled.binsmost))

-- so of what was made of a film, whichever call made it, and of a film that was rendered whole
pub made_used : {film w h : ℕ} {pic : List ℕ} {s : Settings} {r : MapRecord} {foot : Footer} {left : List ℕ} {f : Float} → Made film w h pic s r foot left → ClippingOn s.clip f
    → NotBelowOne foot.used
made_used made on = film_used (made_asks made) (made_footer made) on

pub whole_used : (e : EnhanceCall) {foot : Footer} {f : Float} → Rendered e → e.answer ≡ accepted foot → ClippingOn e.settings.clip f → NotBelowOne foot.used
whole_used e ends done on = film_used (film_asks (whole_work e ends done).ready) (whole_footer e ends done) on
