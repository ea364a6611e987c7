-- Document 01, "What each call hands back" for prepare and enhance: what they answer, and what each lent buffer holds at the end.
-- w and h are the film's width and height, pic its pixels, m the map buffer, t the scratch and n the list as lent.
-- Assumes nothing.
use Rattle.std.specs.Prelude.{ℕ, cond, List, [], ◌∷◌, ◌++◌, length, Result, Ok, Err}
use Rattle.base_lists.specs.Lists.{onto, filled}
use Rattle.base_rows.specs.declared.Refusal.{Refusal}
use Rattle.base_rows.specs.Given.{number_of}
use Rattle.base_rows.specs.Refuse.{Row, scratch_row, first, unless, Says, accepted, refused}
use Rattle.film_settings.specs.declared.Settings.{Settings}
use Rattle.film_settings.specs.declared.MapRecord.{MapRecord}
use Rattle.film_settings.specs.declared.Footer.{Footer}
use Rattle.film_settings.specs.Settings.{bins_of, record_of, clip_one_of, outside_row, shared_rows}
use Rattle.pixel_render.specs.Render.{render_of, whole}
use Rattle.film_tiles.specs.Tiles.{mappings, spents, list_row, foot_of}
use Rattle.film_prepare.specs.declared.Prepared.{Prepared}

-- 12 and 13: "scratch shorter than B", "a pixel outside Min to Max"
unfoldable pub work_rows : List ℕ → Settings → ℕ → List Row
work_rows pic s scratch = scratch_row scratch (bins_of s) ∷ outside_row pic s ∷ []

-- order 7: 32, "this list is shorter than twice the number of tiles, straight after 12"
unfoldable pub listed_rows : List ℕ → Settings → ℕ → ℕ → List Row
listed_rows pic s scratch list = scratch_row scratch (bins_of s) ∷ list_row s list ∷ outside_row pic s ∷ []

-- "Prepare and enhance: 1 to 14 upward", of which order 2 strikes 14; 31 stands behind 9: enhance, which is lent no list
unfoldable pub enhance_rows : (w h : ℕ) (pic : List ℕ) (s : Settings) (room scratch : ℕ) → List Row
enhance_rows w h pic s room scratch = shared_rows w h (length pic) s room ++ work_rows pic s scratch

-- and prepare, with 32
unfoldable pub prepare_rows : (w h : ℕ) (pic : List ℕ) (s : Settings) (room scratch list : ℕ) → List Row
prepare_rows w h pic s room scratch list = shared_rows w h (length pic) s room ++ listed_rows pic s scratch list

-- ---- what a call leaves in lent memory: "Factor 1.0: .. map and scratch stay as they were", and so does order 7's list

-- in the map buffer and in the list: what is laid down at the front
abbrev pub front_left : Settings → List ℕ → List ℕ → List ℕ
front_left s lent made = cond (clip_one_of s.clip) lent (onto lent made)

-- in the scratch: zeros in the first entries that are asked of it
abbrev pub scratch_left : Settings → List ℕ → ℕ → List ℕ
scratch_left s t asked = cond (clip_one_of s.clip) t (filled (λ k. 0) t asked)

-- ---- the answers

-- "It returns the map record and a footer record": what prepare says, or the number of its refusal
abbrev pub prepared_says : Result Prepared Refusal → Says (MapRecord × Footer)
prepared_says (Ok p) = accepted (p.kept, p.footer)
prepared_says (Err r) = refused (number_of r)

-- ---- prepare

-- what prepare leaves: its answer, the map buffer, the scratch and the list
pub record PrepareOut : Type 0 where
  pub answer : Says (MapRecord × Footer)
  pub map : List ℕ
  pub scratch : List ℕ
  pub list : List ℕ

-- the answer, the map buffer, the scratch and the list at the end, as prepare leaves them
abbrev pub prepare_leaves : Says (MapRecord × Footer) → List ℕ → List ℕ → List ℕ → PrepareOut
prepare_leaves r m t n = record { answer = r; map = m; scratch = t; list = n }

-- "the map buffer's first (grid across) x (grid down) x B entries are the mappings ..; the first B scratch entries are zero;
-- all other entries keep their contents. It returns the map record and a footer record"; "Factor 1.0: .. map and scratch stay as they were";
-- order 7: "one more lent list, in which each tile in row order has two entries .. at factor 1.0 the list keeps its contents, as do entries behind the last tile"
unfoldable pub prepared_of : (film w h : ℕ) (pic : List ℕ) (s : Settings) (m t n : List ℕ) → PrepareOut
prepared_of film w h pic s m t n =
    record {
      answer = accepted (record_of film w h s, foot_of w h s);
      map = front_left s m (mappings w h pic s);
      scratch = scratch_left s t (bins_of s);
      list = front_left s n (spents w h pic s);
    }

-- "The first that applies is given", and all memory stays as it was; where none applies, prepare does its work
unfoldable pub prepare_of : (film w h : ℕ) (pic : List ℕ) (s : Settings) (m t n : List ℕ) → PrepareOut
prepare_of film w h pic s m t n =
    unless (first (prepare_rows w h pic s (length m) (length t) (length n))) (λ k. prepare_leaves (refused k) m t n) (prepared_of film w h pic s m t n)

-- ---- enhance

-- what enhance leaves: its answer, the picture, the map buffer and the scratch
pub record EnhanceOut : Type 0 where
  pub answer : Says Footer
  pub picture : List ℕ
  pub map : List ℕ
  pub scratch : List ℕ

-- the answer, the picture, the map buffer and the scratch at the end, as enhance leaves them
abbrev pub enhance_leaves : Says Footer → List ℕ → List ℕ → List ℕ → EnhanceOut
enhance_leaves r pic m t = record { answer = r; picture = pic; map = m; scratch = t }

-- what a call leaves that writes "to a separate picture": the answer, which is enhance's, the target and the scratch
pub record PaintOut : Type 0 where
  pub answer : Says Footer
  pub target : List ℕ
  pub scratch : List ℕ

-- the answer, the target and the scratch at the end, as such a call leaves them
abbrev pub paint_leaves : Says Footer → List ℕ → List ℕ → PaintOut
paint_leaves r o t = record { answer = r; target = o; scratch = t }

-- "the same buffers and footer, and the picture rendered. Factor 1.0: nothing changes."
unfoldable pub enhanced_of : (w h : ℕ) (pic : List ℕ) (s : Settings) (m t : List ℕ) → EnhanceOut
enhanced_of w h pic s m t =
    record {
      answer = accepted (foot_of w h s);
      picture = cond (clip_one_of s.clip) pic (render_of w h s (mappings w h pic s) (whole w h) pic);
      map = front_left s m (mappings w h pic s);
      scratch = scratch_left s t (bins_of s);
    }

-- the refusals are prepare's but for 32, since enhance is lent no list, and leave the picture and all memory as they were; where none applies, enhance does its work
unfoldable pub enhance_of : (w h : ℕ) (pic : List ℕ) (s : Settings) (m t : List ℕ) → EnhanceOut
enhance_of w h pic s m t =
    unless (first (enhance_rows w h pic s (length m) (length t))) (λ n. enhance_leaves (refused n) pic m t) (enhanced_of w h pic s m t)
