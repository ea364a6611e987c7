-- The way over the wide calls: bytes widened, the wide call handed what widen left, and what it left narrowed again; the numbers stay the same.
-- A name with ' is lent memory at the end.
-- Assumes nothing.
use Prim.Native.Nat.{ℕ}
use mathlib.Core.List.{List}
use mathlib.Core.Path.{◌≡◌, ◌∙◌}
use native.Mathlib.Nat.{le_of_eq}
use lib.ListN.{length}
use Rattle.base_lists.proofs.Maps.{onto_whole}
use Rattle.promise_films.proofs.Runs.{PrepareCall, EnhanceCall, DrawCall}
use Rattle.promise_bytes.proofs.Runs.{TurnCall, Widens, widen_ends, Narrows, narrow_ends}

-- bytes xs were widened whole into ys
pub record Widened (xs ys : List ℕ) : Type 0 where
  pub call : TurnCall
  pub ran : Widens call
  pub from : call.src ≡ xs
  pub size : length call.dst ≡ length call.src
  pub into : ys ≡ call.dst'

-- entries xs were narrowed whole into ys
pub record Narrowed (xs ys : List ℕ) : Type 0 where
  pub call : TurnCall
  pub ran : Narrows call
  pub from : call.src ≡ xs
  pub size : length call.dst ≡ length call.src
  pub into : ys ≡ call.dst'

-- both give the same numbers
pub widened_same : {xs ys : List ℕ} → Widened xs ys → ys ≡ xs
widened_same w = w.into ∙ widen_ends w.ran ∙ onto_whole w.call.dst w.call.src (le_of_eq w.size) ∙ w.from

pub narrowed_same : {xs ys : List ℕ} → Narrowed xs ys → ys ≡ xs
narrowed_same n = n.into ∙ narrow_ends n.ran ∙ onto_whole n.call.dst n.call.src (le_of_eq n.size) ∙ n.from

-- ---- prepare

-- the wide call was handed the same film and map buffer, widened, and the same scratch and list
pub record PrepareOver (b p : PrepareCall) : Type 0 where
  pub film : p.film ≡ b.film
  pub width : p.width ≡ b.width
  pub height : p.height ≡ b.height
  pub settings : p.settings ≡ b.settings
  pub scratch : p.scratch ≡ b.scratch
  pub list : p.list ≡ b.list
  pub pixels : Widened b.pixels p.pixels
  pub map : Widened b.map p.map

-- ---- enhance

pub record EnhanceOver (b e : EnhanceCall) : Type 0 where
  pub width : e.width ≡ b.width
  pub height : e.height ≡ b.height
  pub settings : e.settings ≡ b.settings
  pub scratch : e.scratch ≡ b.scratch
  pub pixels : Widened b.pixels e.pixels
  pub map : Widened b.map e.map

-- ---- draw

pub record DrawOver (b d : DrawCall) : Type 0 where
  pub film : d.film ≡ b.film
  pub width : d.width ≡ b.width
  pub height : d.height ≡ b.height
  pub settings : d.settings ≡ b.settings
  pub kept : d.kept ≡ b.kept
  pub window : d.window ≡ b.window
  pub pixels : Widened b.pixels d.pixels
  pub map : Widened b.map d.map
  pub out : Widened b.out d.out
