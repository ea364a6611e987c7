-- What the promises of counting and mapping speak of, beside one call: counts that counting left, mapping handed them, several mappings in turn, and a window drawn from what mapping left.
-- A name with ' is lent memory at the end.
-- Assumes nothing.
use Prim.Native.Nat.{ℕ, ◌≤◌}
use mathlib.Core.List.{List, [], ◌∷◌}
use mathlib.Core.Path.{◌≡◌}
use lib.ListN.{length, take}
use mathlib.Core.Bool.{false}
use Rattle.base_rows.specs.Refuse.{accepted}
use Rattle.tile_limit.specs.declared.Clip.{Clip}
use Rattle.tile_limit.specs.declared.Edition.{Edition}
use Rattle.film_settings.specs.declared.Settings.{Settings}
use Rattle.film_settings.specs.declared.MapRecord.{MapRecord}
use Rattle.film_settings.specs.declared.Footer.{Footer}
use Rattle.film_settings.specs.Settings.{entries_of, clip_one_of}
use Rattle.film_prepare.specs.Prepare.{PrepareOut, prepare_leaves}
use Rattle.film_count.specs.Counting.{AlikeButClip, with_clipping}
use Rattle.promise_films.proofs.Runs.{PrepareCall, Prepares, prepare_arguments, DrawCall, Draws}
use Rattle.promise_counts.proofs.Runs.{CountCall, Counts, MapCall, Maps, map_arguments}

-- ---- one mapping

-- counting accepted a film of these sizes and pixels, with settings that agree with s in all but the factor, and left the counts cs
pub record CountedAs (w h : ℕ) (pic : List ℕ) (s : Settings) (cs : List ℕ) : Type 0 where
  pub call : CountCall
  pub ran : Counts call
  pub done : call.answer ≡ accepted tt
  pub width : call.width ≡ w
  pub height : call.height ≡ h
  pub pixels : call.pixels ≡ pic
  pub like : AlikeButClip call.settings s
  pub left : cs ≡ call.counts'

-- mapping was handed these counts, and all else as prepare was
pub record MappedAs (p : PrepareCall) (cs : List ℕ) (d : MapCall) : Type 0 where
  pub maps : Maps d
  pub film : d.film ≡ p.film
  pub width : d.width ≡ p.width
  pub height : d.height ≡ p.height
  pub settings : d.settings ≡ p.settings
  pub counts : d.counts ≡ cs
  pub map : d.map ≡ p.map
  pub scratch : d.scratch ≡ p.scratch
  pub list : d.list ≡ p.list

-- ---- wherever prepare accepts the film and 33 is not met

-- counting was handed the film of p, with settings that agree with its own in all but the factor, and counts that are long enough
pub record CountsFilm (p : PrepareCall) (c : CountCall) : Type 0 where
  pub counts : Counts c
  pub width : c.width ≡ p.width
  pub height : c.height ≡ p.height
  pub pixels : c.pixels ≡ p.pixels
  pub like : AlikeButClip c.settings p.settings
  pub long : entries_of p.settings ≤ length c.counts

-- ---- "for each f in turn over the same counts"

-- what mapping looks at and counting does not: a factor, or clip off, and the edition of its rule
pub record Clipping : Type 0 where
  pub edition : Edition
  pub clip : Clip

-- the settings s with these
abbrev pub clipped_with : Settings → Clipping → Settings
clipped_with s f = with_clipping s f.edition f.clip

-- mapping the counts cs with f ended with e
pub record MapsWith (film w h : ℕ) (s : Settings) (cs : List ℕ) (f : Clipping) (m t n : List ℕ) (e : PrepareOut) : Type 0 where
  pub call : MapCall
  pub maps : Maps call
  pub given : map_arguments call ≡ (film, w, h, clipped_with s f, cs, m, t, n)
  pub ended : e ≡ prepare_leaves call.answer call.map' call.scratch' call.list'

-- prepare with f ended with e
pub record PreparesWith (film w h : ℕ) (pic : List ℕ) (s : Settings) (f : Clipping) (m t n : List ℕ) (e : PrepareOut) : Type 0 where
  pub call : PrepareCall
  pub prepares : Prepares call
  pub given : prepare_arguments call ≡ (film, w, h, pic, clipped_with s f, m, t, n)
  pub ended : e ≡ prepare_leaves call.answer call.map' call.scratch' call.list'

-- a call for each f, from the map buffer m, the scratch t and the list n on, each handed what the one before left; es is what each ended with
abbrev pub InTurn : (Clipping → List ℕ → List ℕ → List ℕ → PrepareOut → Type 0) → List Clipping → List ℕ → List ℕ → List ℕ → List PrepareOut → Type 0
InTurn Call [] m t n es = es ≡ []
InTurn Call (f ∷ fs) m t n [] = ⊥
InTurn Call (f ∷ fs) m t n (e ∷ es) = Call f m t n e × InTurn Call fs e.map e.scratch e.list es

-- counting accepted the film of these pixels, and mapping accepted what it left, answering the record r and this footer
pub record MappedFrom (pic : List ℕ) (m : MapCall) (r : MapRecord) (foot : Footer) : Type 0 where
  pub counted : CountedAs m.width m.height pic m.settings m.counts
  pub maps : Maps m
  pub mapped : m.answer ≡ accepted (r, foot)

-- draw accepted d, handed the record that mapping answered, the film's pixels and, but at the factor 1.0, the mappings that it left, whatever else
pub record DrawnFromMapping (pic : List ℕ) (m : MapCall) (foot : Footer) (d : DrawCall) : Type 0 where
  pub from : MappedFrom pic m d.kept foot
  pub draws : Draws d
  pub drawn : d.answer ≡ accepted tt
  pub pixels : d.pixels ≡ pic
  pub mappings : clip_one_of m.settings.clip ≡ false → take (entries_of m.settings) d.map ≡ take (entries_of m.settings) m.map'
