-- `same_clip` compares by the derived equality, which is the table of the specification.
use mathlib.Core.Path.{◌≡◌, refl, sym, ◌∙◌, subst, ap, ap₂}
use Rattle.tile_limit.specs.declared.Clip.{Clip}
use Rattle.tile_limit.specs.declared.Clip.TheVariants.{Off, Factor}
use Rattle.film_settings.specs.Settings.{same_clip_of}
use Rattle.film_settings.proofs.same_clip.Goals as goal

pub returns : goal.returns
unfolding same_clip_of
returns c = go c.args.a c.args.b refl refl
  where
    go : (a b : Clip) → c.args.a ≡ a → c.args.b ≡ b → c.eq.result ≡ same_clip_of c.args.a c.args.b
    go Off Off p q = let h = c.eq.ensures in rw (p, q) (simp (p, q) at h)
    go Off (Factor g) p q = let h = c.eq.ensures in rw (p, q) (simp (p, q) at h)
    go (Factor f) Off p q = let h = c.eq.ensures in rw (p, q) (simp (p, q) at h)
    go (Factor f) (Factor g) p q = let h = c.eq.ensures in rw (p, q) (simp (p, q) at h)
