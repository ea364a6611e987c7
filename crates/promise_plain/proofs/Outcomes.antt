-- plain_sizes and read_plain by their tables: what a refusal tells and keeps, and which files are read.
-- Assumes nothing.
use Prim.Native.Nat.{ℕ, zero, suc, ◌*◌, ◌≤◌, ◌<◌}
use mathlib.Core.List.{List}
use mathlib.Core.Logic.{◌⊎◌, inl, inr}
use mathlib.Core.Path.{◌≡◌, refl, sym, ap, ◌∙◌}
use native.Mathlib.Omega.{arith}
use lib.ListN.{length}
use Rattle.base_lists.specs.Lists.{onto}
use Rattle.base_rows.specs.Refuse.{first, Says, accepted, refused, says}
use Rattle.pgm_header.specs.Header.{Head}
use Rattle.pgm_raster.specs.Raster.{head_rows, RasterLimits}
use Rattle.pgm_plain.specs.Plain.{plain_head_of, greys_from}
use Rattle.pgm_plain.specs.Grammar.{PlainFile}
use Rattle.pgm_plain.proofs.Heads.{plain_refused_number}
use Rattle.pgm_plain_read.specs.PlainRead.{plain_rows, PlainRead, plain_read_as, plain_of, limited_of}
use Rattle.pgm_plain_read.proofs.Tables.{samples_kept, samples_laid, read_found, read_refused, sizes_limit, sizes_found, sizes_refused}
use Rattle.pgm_plain_read.proofs.Accepted.{read_sound, read_complete}
use Rattle.promise_films.proofs.Accepted.{says_refused, ByTable, table_says, table_kept}

-- ---- what plain_sizes says

pub sizes_table : (s : List ℕ) {w h m at : ℕ} → plain_head_of s ≡ Head.Found w h m at
    → ByTable (λ (x : Says (ℕ × ℕ × ℕ)). x) (first (head_rows w h m)) (w, h, m) (accepted (w, h, m)) refused (limited_of (plain_head_of s))
sizes_table s q =
    record {
      when_none = λ z. sym (sizes_found (sym q) refl z);
      when_some = λ z. sym (sizes_limit (sym q) refl z);
      says_done = refl;
      says_lent = λ k. refl;
    }

-- ---- what read_plain says

pub plain_table : (s target : List ℕ) {w h m at : ℕ} → plain_head_of s ≡ Head.Found w h m at
    → ByTable (λ (x : PlainRead). x.answer) (first (plain_rows s w h m at (length target))) (w, h, m)
    (plain_read_as (accepted (w, h, m)) (onto target (greys_from (w * h) m s at))) (λ k. plain_read_as (refused k) target) (plain_of s target)
plain_table s target {w} {h} {m} {at} q =
    record {
      when_none = λ z. sym (read_found s target (sym q) (samples_laid s w h m at target refl z refl));
      when_some = λ z. sym (read_found s target (sym q) (samples_kept s w h m at target refl z));
      says_done = refl;
      says_lent = λ k. refl;
    }

-- ---- a refusal keeps lent memory

-- a refused read leaves the target as it was
pub read_says_kept : (s target : List ℕ) (n : ℕ) → (plain_of s target).answer ≡ refused n → (plain_of s target).target ≡ target
read_says_kept s target n q = go (plain_head_of s) refl
  where
    go : (x : Head) → plain_head_of s ≡ x → (plain_of s target).target ≡ target
    go (Head.Found w h m at) e = ap (λ (y : PlainRead). y.target) (table_kept (plain_table s target e) q)
    go (Head.Refused k) e = ap (λ (y : PlainRead). y.target) (sym (read_refused s target (sym e)))

-- and no refusal is 0
pub read_says_some : (s target : List ℕ) (n : ℕ) → (plain_of s target).answer ≡ refused n → 0 < n
read_says_some s target n q = go (plain_head_of s) refl
  where
    some : (k : ℕ) (v : ℕ × ℕ × ℕ) → says k v ≡ refused n → 0 < n
    some zero v e = absurd (let z : ◌≡◌ {A = ℕ} 0 1 = cc in omega arith)
    some (suc k) v e = omega (arith, says_refused (suc k) v e)

    header : {k : ℕ} → (k ≡ 20) ⊎ (k ≡ 21) → k ≡ n → 0 < n
    header (inl t) e = omega arith
    header (inr t) e = omega arith

    go : (x : Head) → plain_head_of s ≡ x → 0 < n
    go (Head.Found w h m at) e = some (first (plain_rows s w h m at (length target))) (w, h, m) (sym (table_says (plain_table s target e)) ∙ q)
    go (Head.Refused k) e =
        let z : ◌≡◌ {A = Says (ℕ × ℕ × ℕ)} (refused k) (refused n) = ap (λ (y : PlainRead). y.answer) (read_refused s target (sym e)) ∙ q in
        header (plain_refused_number s e) cc

-- ---- what a header that is refused says

pub sizes_other : (s : List ℕ) {k : ℕ} → plain_head_of s ≡ Head.Refused k → (limited_of (plain_head_of s)) ≡ refused k
sizes_other s q = (sym (sizes_refused (sym q)))

pub read_other : (s target : List ℕ) {k : ℕ} → plain_head_of s ≡ Head.Refused k → (plain_of s target).answer ≡ refused k
read_other s target q = ap (λ (x : PlainRead). x.answer) (sym (read_refused s target (sym q)))

-- ---- which files are accepted

-- a plain file of the grammar, in the limits of 22 and 23, is read where the target has room
pub file_read : (s target : List ℕ) {w h m : ℕ} {vs : List ℕ} → PlainFile s w h m vs → RasterLimits w h m → w * h ≤ length target
    → ((plain_of s target).answer ≡ accepted (w, h, m)) × ((plain_of s target).target ≡ onto target vs)
file_read s target {w} {h} {m} {vs} file within room =
    let e = sym (read_complete s target w h m (record { pic = vs; file = file; within = within; fitting = room; laid = refl })) in
    (ap (λ (x : PlainRead). x.answer) e, ap (λ (x : PlainRead). x.target) e)

-- and nothing else is
pub read_file : (s target : List ℕ) {left : List ℕ} {x : Says (ℕ × ℕ × ℕ)} {w h m : ℕ} → plain_read_as x left ≡ plain_of s target → x ≡ accepted (w, h, m)
    → (vs : List ℕ) × PlainFile s w h m vs × RasterLimits w h m × (w * h ≤ length target)
read_file s target {left} {x} {w} {h} {m} ends q =
    let y = read_sound s target w h m (sym ends ∙ ap (λ a. plain_read_as a left) q) in
    (y.pic, y.file, y.within, y.fitting)
