-- A plain file is accepted exactly where the grammar has one within the limits, with room for its greys, and these are what is left.
-- Assumes nothing.
use Prim.Native.Nat.{ℕ, zero, suc, ◌-◌, ◌*◌, ◌≤◌}
use mathlib.Core.List.{List}
use mathlib.Core.Logic.{◌↔◌}
use mathlib.Core.Path.{◌≡◌, refl, sym, ap, ◌∙◌}
use lib.ListN.{length, drop}
use native.Mathlib.Omega.{arith}
use Rattle.base_lists.specs.Lists.{onto}
use Rattle.base_rows.specs.Refuse.{first, unless, Says, accepted, refused}
use Rattle.base_rows.proofs.Walk.{none_first}
use Rattle.pgm_header.specs.Header.{Head}
use Rattle.pgm_raster.specs.Raster.{head_rows, RasterLimits}
use Rattle.pgm_raster.proofs.Tables.{within_none}
use Rattle.pgm_plain.specs.Scan.{Scan}
use Rattle.pgm_plain.specs.Plain.{plain_head_of, scan_of, greys_from}
use Rattle.pgm_plain.specs.Grammar.{PlainHeader, PlainFile}
use Rattle.pgm_plain.proofs.Samples.{length_greys, scan_within}
use Rattle.pgm_plain.proofs.Heads.{head_sound, head_complete, head_rest, head_longer}
use Rattle.pgm_plain.proofs.Grammar.{ReadAll, samples_sound, samples_complete, tail_sound, tail_complete}
use Rattle.pgm_plain_read.specs.PlainRead.{plain_rows, PlainRead, plain_read_as, samples_of, by_head, plain_of}
use Rattle.pgm_plain_read.proofs.Tables.{plain_asks, tail_white, samples_done, plain_samples, samples_laid, read_found}

-- ---- what is accepted

-- the film that a plain file holds, at the target's front
pub record PlainFilm (s target left : List ℕ) (w h m : ℕ) : Type 0 where
  pub pic : List ℕ
  pub file : PlainFile s w h m pic
  pub within : RasterLimits w h m
  pub fitting : w * h ≤ length target
  pub laid : left ≡ onto target pic

module _ (s target : List ℕ) (w h m : ℕ) where
  rows_film : (w' h' m' at : ℕ) → plain_head_of s ≡ Head.Found w' h' m' at → (n : ℕ) → first (plain_rows s w' h' m' at (length target)) ≡ n → (left : List ℕ)
      → unless n (λ k. plain_read_as (refused k) target) (plain_read_as (accepted (w', h', m')) (onto target (greys_from (w' * h') m' s at))) ≡ plain_read_as (accepted (w, h, m)) left
      → PlainFilm s target left w h m
  rows_film w' h' m' at found zero e left q =
      let x = plain_asks s w' h' m' at (length target) e in
      let a : ◌≡◌ {A = Says (ℕ × ℕ × ℕ)} (accepted (w', h', m')) (accepted (w, h, m)) = ap (λ (r : PlainRead). r.answer) q in
      let t : ◌≡◌ {A = ℕ × ℕ × ℕ} (w', h', m') (w, h, m) = cc in
      let i : w' ≡ w = ap (λ (v : ℕ × ℕ × ℕ). v.0) t in
      let j : h' ≡ h = ap (λ (v : ℕ × ℕ × ℕ). v.1) t in
      let k : m' ≡ m = ap (λ (v : ℕ × ℕ × ℕ). v.2) t in
      rw (← i, ← j, ← k)
      (record {
        pic = greys_from (w' * h') m' s at;
        file =
            record {
              rest = drop at s;
              header = (head_sound s found).1;
              samples = samples_sound (w' * h') m' s at x.sound (tail_sound s x.end x.tail);
              count = length_greys (w' * h') m' s at x.sound;
            };
        within = x.within;
        fitting = x.fitting;
        laid = sym (ap (λ (r : PlainRead). r.target) q);
      })
  rows_film w' h' m' at found (suc n) e left q =
      let a : ◌≡◌ {A = Says (ℕ × ℕ × ℕ)} (refused (suc n)) (accepted (w, h, m)) = ap (λ (r : PlainRead). r.answer) q in
      absurd (let z : ◌≡◌ {A = ℕ} 0 1 = cc in omega arith)

  -- a file that read accepted is one of the grammar
  pub read_sound : {left : List ℕ} → plain_of s target ≡ plain_read_as (accepted (w, h, m)) left → PlainFilm s target left w h m
  unfolding plain_of samples_of
  read_sound {left} q = go (plain_head_of s) refl q
    where
      go : (x : Head) → plain_head_of s ≡ x → by_head x s target ≡ plain_read_as (accepted (w, h, m)) left → PlainFilm s target left w h m
      go (Head.Found w' h' m' at) e q = rows_film w' h' m' at e _ refl left q
      go (Head.Refused n) e q =
          let a : ◌≡◌ {A = Says (ℕ × ℕ × ℕ)} (refused n) (accepted (w, h, m)) = ap (λ (r : PlainRead). r.answer) q in
          absurd (let z : ◌≡◌ {A = ℕ} 0 1 = cc in omega arith)

  -- a file of the grammar is accepted, in a target with room
  pub read_complete : {left : List ℕ} → PlainFilm s target left w h m → plain_read_as (accepted (w, h, m)) left ≡ plain_of s target
  read_complete {left} f = read_found s target (sym (head_complete header)) (samples_laid s w h m at target none refl greys)
    where
      header : PlainHeader s w h m f.file.rest
      header = f.file.header

      at : ℕ
      at = length s - length f.file.rest

      all : ReadAll m s at f.pic
      all = samples_complete m s f.pic at (rw (head_rest header) f.file.samples)

      scanned : Scan.Done all.end ≡ scan_of (w * h) m s at
      scanned = sym (ap (λ k. scan_of k m s at) (sym f.file.count) ∙ all.scanned)

      near : all.end ≤ length s
      near = scan_within (length f.pic) m s at (omega (arith, head_longer header)) all.scanned

      none : 0 ≡ first (plain_rows s w h m at (length target))
      none =
          plain_samples s w h m at (length target) (sym (none_first (head_rows w h m) (within_none w h m f.within))) refl f.fitting
          (samples_done s scanned (tail_white s all.end (tail_complete s all.end near all.tail) refl))

      greys : left ≡ onto target (greys_from (w * h) m s at)
      greys = f.laid ∙ ap (onto target) (sym (ap (λ k. greys_from k m s at) (sym f.file.count) ∙ all.greys))

-- so the grammar, the limits and the room decide, and nothing else
pub read_exactly : (s target left : List ℕ) (w h m : ℕ) → (plain_of s target ≡ plain_read_as (accepted (w, h, m)) left) ↔ PlainFilm s target left w h m
read_exactly s target left w h m = (read_sound s target w h m, λ f. sym (read_complete s target w h m f))
