-- The refusals of read: the header, and the rows 22 to 25 behind it.
-- Assumes nothing.
use Prim.Native.Nat.{ℕ, zero, suc, ◌-◌, ◌≤◌}
use mathlib.Core.List.{List, ◌++◌}
use mathlib.Core.Path.{◌≡◌, refl, sym, ap, ◌∙◌}
use native.Mathlib.Omega.{arith}
use lib.ListN.{length}
use Rattle.std.specs.Prelude.{Result, Ok, Err}
use Rattle.std.specs.Result.{IsErrAnd}
use Rattle.base_rows.specs.Refuse.{first, unless, refused}
use Rattle.base_rows.specs.Given.{number_of}
use Rattle.base_rows.specs.declared.Refusal.{Refusal}
use Rattle.base_rows.proofs.Walk.{front, behind, unless_refused}
use Rattle.pgm_header.specs.Header.{Head}
use Rattle.pgm_header.specs.Header.{header_of}
use Rattle.pgm_header.proofs.Laws.{found_within}
use Rattle.pgm_raster.specs.Raster.{head_rows, raster_rows}
use Rattle.pgm_raster.proofs.Tables.{limit_numbered}
use Rattle.pgm_read.specs.declared.Sizes.{Sizes}
use Rattle.pgm_read.specs.Pgm.{judged_head, read_of, sizes_says}

module _ (w h m at size : ℕ) where
  -- 22 or 23 applies
  pub judged_limit : {r : ℕ} → r ≡ first (head_rows w h m) → (r ≡ 0 → ⊥) → Head.Refused r ≡ judged_head (Head.Found w h m at) size
  unfolding judged_head
  judged_limit {r} e z = unless_refused r Head.Refused (Head.Found w h m at) z ∙ ap (λ n. unless n Head.Refused (Head.Found w h m at)) (front (head_rows w h m) (raster_rows w h m (size - at)) e z)

  -- 24 or 25 applies
  pub judged_raster : {a r : ℕ} → a ≡ first (head_rows w h m) → a ≡ 0 → r ≡ first (raster_rows w h m (size - at)) → (r ≡ 0 → ⊥)
      → Head.Refused r ≡ judged_head (Head.Found w h m at) size
  unfolding judged_head
  judged_raster {a} {r} e z f y =
      unless_refused r Head.Refused (Head.Found w h m at) y
      ∙ ap (λ n. unless n Head.Refused (Head.Found w h m at)) (behind (head_rows w h m) (raster_rows w h m (size - at)) (limit_numbered w h m) e z f)

  -- none applies
  pub judged_found_lem : {a b : ℕ} → a ≡ first (head_rows w h m) → a ≡ 0 → b ≡ first (raster_rows w h m (size - at)) → b ≡ 0
      → Head.Found w h m at ≡ judged_head (Head.Found w h m at) size
  unfolding judged_head
  judged_found_lem {a} {b} e z f y =
      ap (λ n. unless n Head.Refused (Head.Found w h m at)) (sym y ∙ behind (head_rows w h m) (raster_rows w h m (size - at)) (limit_numbered w h m) e z f)

-- the header is judged
pub read_judged : (s : List ℕ) {x r : Head} → header_of s ≡ x → r ≡ judged_head x (length s) → r ≡ read_of s
unfolding read_of
read_judged s e q = rw e q

-- a header's refusal is read's
pub read_refused : (s : List ℕ) {n : ℕ} → header_of s ≡ Head.Refused n → Head.Refused n ≡ read_of s
unfolding read_of judged_head
read_refused s e = rw e refl

-- an answer that is found was not refused
pub unless_found : (n : ℕ) (x : Head) {w h m at : ℕ} → unless n Head.Refused x ≡ Head.Found w h m at → (n ≡ 0) × (x ≡ Head.Found w h m at)
unless_found zero x e = (refl, e)
unless_found (suc n) x e = absurd (let z : ◌≡◌ {A = ℕ} 0 1 = cc in omega arith)

-- what read finds, the header found
pub read_header : (s : List ℕ) {w h m at : ℕ} → read_of s ≡ Head.Found w h m at → header_of s ≡ Head.Found w h m at
unfolding read_of judged_head
read_header s {w} {h} {m} {at} q = go (header_of s) refl q
  where
    go : (x : Head) → header_of s ≡ x → judged_head x (length s) ≡ Head.Found w h m at → header_of s ≡ Head.Found w h m at
    go (Head.Found w' h' m' at') p e = p ∙ (unless_found (first (head_rows w' h' m' ++ raster_rows w' h' m' (length s - at'))) (Head.Found w' h' m' at') e).1
    go (Head.Refused n) p e = absurd (let z : ◌≡◌ {A = ℕ} 0 1 = cc in omega arith)

-- the raster that read finds starts within the bytes
pub read_within : (s : List ℕ) {w h m at : ℕ} → read_of s ≡ Head.Found w h m at → at ≤ length s
read_within s e = found_within s (read_header s e)

-- a refusal that is handed on is told by its number
pub sizes_err : (q : Result Sizes Refusal) (e : Refusal) → IsErrAnd q (λ f. f ≡ e) → sizes_says q ≡ refused (number_of e)
unfolding sizes_says
sizes_err (Ok s) e h = absurd h
sizes_err (Err f) e h = ap (λ r. refused (number_of r)) h
