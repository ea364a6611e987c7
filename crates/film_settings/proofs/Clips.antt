-- What the judgement of a clip setting tells of it.
-- Assumes nothing.
use Prim.Native.Nat.{ℕ}
use mathlib.Core.Bool.{Bool, true, false, true≢false}
use mathlib.Core.Path.{◌≡◌, refl, sym}
use native.Mathlib.Omega.{arith}
use lib.Ieee.{Float}
use borrow.Author.Tests.{not-false}
use Rattle.tile_limit.specs.declared.Clip.{Clip}
use Rattle.tile_limit.specs.declared.Clip.TheVariants.{Off, Factor}
use Rattle.tile_limit.specs.declared.Judged.TheVariants as Judged
use Rattle.tile_limit.specs.Limit.{allowed, is_one, judge_of}
use Rattle.tile_limit.proofs.Laws.{one_allowed, above_not_one, judged_exactly, same_one}
use Rattle.film_settings.specs.Settings.{clip_bad_of, clip_one_of, same_clip_of}

-- a factor that is not allowed is not 1.0
pub bad_not_one : (f : Float) → allowed f ≡ false → is_one f ≡ false
bad_not_one f e = go (is_one f) refl
  where
    go : (b : Bool) → is_one f ≡ b → is_one f ≡ false
    go false q = q
    go true q = let h : allowed f ≡ true = one_allowed f q in let z : ◌≡◌ {A = ℕ} 0 1 = cc in absurd (omega arith)

module _ (clip : Clip) where
  pub bad_off : judge_of clip ≡ Judged.Off → false ≡ clip_bad_of clip
  bad_off j = rw ((judged_exactly clip Judged.Off).0 j) refl

  pub bad_refused : judge_of clip ≡ Judged.Refused → true ≡ clip_bad_of clip
  bad_refused j = let (f, e, a) = (judged_exactly clip Judged.Refused).0 j in rw (e, a) refl

  pub bad_one : judge_of clip ≡ Judged.One → false ≡ clip_bad_of clip
  bad_one j = let (f, e, o) = (judged_exactly clip Judged.One).0 j in rw (e, one_allowed f o) refl

  pub bad_above : {f : Float} → judge_of clip ≡ Judged.Above f → false ≡ clip_bad_of clip
  bad_above {f} j = let (e, a, k) = (judged_exactly clip (Judged.Above f)).0 j in rw (e, a) refl

  -- what is judged to be anything but refused
  pub bad_other : (judge_of clip ≡ Judged.Refused → ⊥) → false ≡ clip_bad_of clip
  bad_other h = go (judge_of clip) refl
    where
      go : (j : Judged.the_data) → judge_of clip ≡ j → false ≡ clip_bad_of clip
      go Judged.Off q = bad_off q
      go Judged.Refused q = absurd (h q)
      go Judged.One q = bad_one q
      go (Judged.Above f) q = bad_above q

  pub one_off : judge_of clip ≡ Judged.Off → false ≡ clip_one_of clip
  one_off j = rw ((judged_exactly clip Judged.Off).0 j) refl

  pub one_refused : judge_of clip ≡ Judged.Refused → false ≡ clip_one_of clip
  one_refused j = let (f, e, a) = (judged_exactly clip Judged.Refused).0 j in rw (e, bad_not_one f a) refl

  pub one_one : judge_of clip ≡ Judged.One → true ≡ clip_one_of clip
  one_one j = let (f, e, o) = (judged_exactly clip Judged.One).0 j in rw (e, o) refl

  pub one_above : {f : Float} → judge_of clip ≡ Judged.Above f → false ≡ clip_one_of clip
  one_above {f} j = let (e, a, k) = (judged_exactly clip (Judged.Above f)).0 j in rw (e, above_not_one f k) refl

  -- what is judged to be anything but 1.0
  pub one_other : (judge_of clip ≡ Judged.One → ⊥) → false ≡ clip_one_of clip
  one_other h = go (judge_of clip) refl
    where
      go : (j : Judged.the_data) → judge_of clip ≡ j → false ≡ clip_one_of clip
      go Judged.Off q = one_off q
      go Judged.Refused q = one_refused q
      go Judged.One q = absurd (h q)
      go (Judged.Above f) q = one_above q

-- two clip settings that are the same are both 1.0, or neither
pub same_clip_one : (c c' : Clip) → clip_bad_of c ≡ false → clip_bad_of c' ≡ false → same_clip_of c c' ≡ true → clip_one_of c ≡ clip_one_of c'
unfolding same_clip_of
same_clip_one Off Off p q e = refl
same_clip_one Off (Factor g) p q e = absurd (true≢false (sym e))
same_clip_one (Factor f) Off p q e = absurd (true≢false (sym e))
same_clip_one (Factor f) (Factor g) p q e = same_one f g (not-false (allowed f) p) (not-false (allowed g) q) e
