-- The refusals of reading a plain file: their parts one behind the other, what they tell where no row applies, and what the call leaves.
-- Assumes nothing.
use Prim.Native.Nat.{ℕ, ◌*◌, ◌≤◌, ◌<◌}
use mathlib.Core.Bool.{Bool, true, false, not, cond}
use mathlib.Core.List.{List, ◌∷◌}
use mathlib.Core.Path.{◌≡◌, refl, sym, ap, ◌∙◌}
use lib.Dec.{ltb, eqb}
use lib.ListN.{length, drop}
use native.Mathlib.Omega.{arith}
use borrow.Author.Tests.{eq-eqb, ne_eqb, eqb-true, le-ltb, lt-ltb, ltb-false}
use Rattle.base_lists.specs.Lists.{onto}
use Rattle.base_rows.specs.Refuse.{row, first, unless, accepted, refused}
use Rattle.base_rows.proofs.Walk.{first_skip, first_hit, first_both, unless_refused, front, behind}
use Rattle.pgm_header.specs.Header.{Head}
use Rattle.pgm_header.specs.Header.{white_of}
use Rattle.pgm_raster.specs.Raster.{head_rows}
use Rattle.pgm_raster.proofs.Tables.{limit_numbered, head_within}
use Rattle.pgm_plain.specs.Scan.{Scan}
use Rattle.pgm_plain.specs.Plain.{plain_head_of, scan_of, greys_from, LayAsks}
use Rattle.pgm_plain.proofs.Samples.{scan_number}
use Rattle.pgm_plain_read.specs.PlainRead.{sample_rows, plain_rows, PlainAsks, PlainRead, plain_read_as, samples_of, by_head, plain_of, limited_of}

-- ---- 24, 26 and 25

pub tail_other : (s : List ℕ) (e : ℕ) {b : ℕ} → b ≡ white_of (drop e s) e → (b ≡ length s → ⊥) → 25 ≡ first (sample_rows (Scan.Done e) s)
unfolding first sample_rows
tail_other s e q h = rw (← q, ne_eqb _ (length s) h) refl

pub tail_white : (s : List ℕ) (e : ℕ) {b : ℕ} → b ≡ white_of (drop e s) e → b ≡ length s → 0 ≡ first (sample_rows (Scan.Done e) s)
unfolding first sample_rows
tail_white s e q h = rw (← q, eq-eqb _ (length s) h) refl

tail_none : (s : List ℕ) (e : ℕ) → first (sample_rows (Scan.Done e) s) ≡ 0 → white_of (drop e s) e ≡ length s
unfolding first sample_rows
tail_none s e q = go (eqb (white_of (drop e s) e) (length s)) refl q
  where
    go : (b : Bool) → eqb (white_of (drop e s) e) (length s) ≡ b → ◌≡◌ {A = ℕ} (cond (not b) 25 0) 0 → white_of (drop e s) e ≡ length s
    go true h q = eqb-true _ _ h
    go false h q = absurd (omega arith)

pub samples_done : (s : List ℕ) {x : Scan} {e r : ℕ} → Scan.Done e ≡ x → r ≡ first (sample_rows (Scan.Done e) s) → r ≡ first (sample_rows x s)
samples_done s q h = h ∙ ap (λ y. first (sample_rows y s)) q

pub samples_refused : (s : List ℕ) {x : Scan} {n : ℕ} → Scan.Refused n ≡ x → n ≡ first (sample_rows x s)
unfolding first sample_rows
samples_refused s q = ap (λ y. first (sample_rows y s)) q

-- ---- all rows

module _ (s : List ℕ) (w h m at room : ℕ) where
  pub plain_limit : {r : ℕ} → r ≡ first (head_rows w h m) → (r ≡ 0 → ⊥) → r ≡ first (plain_rows s w h m at room)
  unfolding plain_rows
  plain_limit e z = front (head_rows w h m) _ e z

  pub plain_short : {a : ℕ} → a ≡ first (head_rows w h m) → a ≡ 0 → room < w * h → 27 ≡ first (plain_rows s w h m at room)
  unfolding plain_rows
  plain_short e z l = behind (head_rows w h m) _ (limit_numbered w h m) e z (sym (first_hit _ (lt-ltb room (w * h) l)))

  pub plain_samples : {a r : ℕ} → a ≡ first (head_rows w h m) → a ≡ 0 → w * h ≤ room → r ≡ first (sample_rows (scan_of (w * h) m s at) s) → r ≡ first (plain_rows s w h m at room)
  unfolding plain_rows
  plain_samples e z l q = behind (head_rows w h m) _ (limit_numbered w h m) e z (q ∙ sym (first_skip 27 _ (le-ltb room (w * h) l)))

  -- no row applies
  pub plain_asks : first (plain_rows s w h m at room) ≡ 0 → PlainAsks s w h m at room
  unfolding plain_rows
  plain_asks e = go (ltb room (w * h)) refl (first_both (head_rows w h m) _ (limit_numbered w h m) e)
    where
      unfolded : (n : ℕ) → first (sample_rows (Scan.Refused n) s) ≡ n
      unfolded n = sym (samples_refused s refl)

      scanned : (x : Scan) → scan_of (w * h) m s at ≡ x → first (sample_rows x s) ≡ 0 → (k : ℕ) × (scan_of (w * h) m s at ≡ Scan.Done k) × (white_of (drop k s) k ≡ length s)
      scanned (Scan.Done k) q z = (k, q, tail_none s k z)
      scanned (Scan.Refused n) q z = absurd (omega (arith, scan_number (w * h) m s at q, unfolded n))

      go : (b : Bool) → ltb room (w * h) ≡ b → (first (head_rows w h m) ≡ 0) × (first (row 27 b ∷ sample_rows (scan_of (w * h) m s at) s) ≡ 0) → PlainAsks s w h m at room
      go true q x = absurd (omega (arith, first_hit {n = 27} (sample_rows (scan_of (w * h) m s at) s) refl, x.1))
      go false q x =
          let y = scanned (scan_of (w * h) m s at) refl (sym (first_skip 27 (sample_rows (scan_of (w * h) m s at) s) refl) ∙ x.1) in
          record { within = head_within w h m x.0; fitting = ltb-false room (w * h) q; end = y.0; sound = y.1; tail = y.2 }

-- ---- what the call leaves

module _ (s : List ℕ) (w h m at : ℕ) (target : List ℕ) where
  pub samples_kept : {n : ℕ} → n ≡ first (plain_rows s w h m at (length target)) → (n ≡ 0 → ⊥) → plain_read_as (refused n) target ≡ samples_of s w h m at target
  unfolding samples_of
  samples_kept {n} e z = unless_refused n (λ k. plain_read_as (refused k) target) done z ∙ ap (λ j. unless j (λ k. plain_read_as (refused k) target) done) e
    where
      done : PlainRead
      done = plain_read_as (accepted (w, h, m)) (onto target (greys_from (w * h) m s at))

  pub samples_laid : {n : ℕ} {left : List ℕ} → n ≡ first (plain_rows s w h m at (length target)) → n ≡ 0 → left ≡ onto target (greys_from (w * h) m s at)
      → plain_read_as (accepted (w, h, m)) left ≡ samples_of s w h m at target
  unfolding samples_of
  samples_laid e z q = rw (← e, z, q) refl

-- what laying the greys down asks
pub lay_asks : (s : List ℕ) (w h m at room : ℕ) {n : ℕ} → at ≤ length s → n ≡ first (plain_rows s w h m at room) → n ≡ 0 → LayAsks (w * h) m s at room
lay_asks s w h m at room l e z =
    let x = plain_asks s w h m at room (sym e ∙ z) in
    record { within = l; deep = x.within.maxval_most; end = x.end; sound = x.sound; fitting = x.fitting }

-- ---- by the header

pub read_found : (s target : List ℕ) {w h m at : ℕ} {r : PlainRead} → Head.Found w h m at ≡ plain_head_of s → r ≡ samples_of s w h m at target → r ≡ plain_of s target
unfolding plain_of
read_found s target q e = e ∙ ap (λ x. by_head x s target) q

pub read_refused : (s target : List ℕ) {n : ℕ} → Head.Refused n ≡ plain_head_of s → plain_read_as (refused n) target ≡ plain_of s target
unfolding plain_of
read_refused s target q = ap (λ x. by_head x s target) q

pub sizes_limit : {x : Head} {w h m at n : ℕ} → Head.Found w h m at ≡ x → n ≡ first (head_rows w h m) → (n ≡ 0 → ⊥) → refused n ≡ limited_of x
unfolding limited_of
sizes_limit {x} {w} {h} {m} {at} {n} q e z =
    unless_refused n refused (accepted (w, h, m)) z ∙ (ap (λ j. unless j refused (accepted (w, h, m))) e ∙ ap limited_of q)

pub sizes_found : {x : Head} {w h m at n : ℕ} → Head.Found w h m at ≡ x → n ≡ first (head_rows w h m) → n ≡ 0 → accepted (w, h, m) ≡ limited_of x
unfolding limited_of
sizes_found {x} {w} {h} {m} q e z = ap (λ j. unless j refused (accepted (w, h, m))) (sym z ∙ e) ∙ ap limited_of q

pub sizes_refused : {x : Head} {n : ℕ} → Head.Refused n ≡ x → refused n ≡ limited_of x
unfolding limited_of
sizes_refused q = ap limited_of q
