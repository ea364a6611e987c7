-- Two runs of a call that ends, as prepare, enhance and draw do, with one outcome for what it is handed: equal part by part, where what it is handed, or what it reads of that, is the same.
-- `of` is the outcome: prepare's, enhance's or draw's own, or that of the call on bytes.
-- Assumes nothing.
use Prim.Native.Nat.{ℕ}
use mathlib.Core.List.{List}
use mathlib.Core.Path.{◌≡◌, sym, ap, ◌∙◌}
use lib.ListN.{take}
use Rattle.base_rows.specs.Refuse.{Says}
use Rattle.film_settings.specs.declared.Footer.{Footer}
use Rattle.film_settings.specs.declared.Settings.{Settings}
use Rattle.film_settings.specs.declared.MapRecord.{MapRecord}
use Rattle.film_settings.specs.declared.Window.{Window}
use Rattle.film_settings.specs.Settings.{entries_of, kept_of, kept_record}
use Rattle.film_prepare.specs.Prepare.{PrepareOut, prepare_leaves, EnhanceOut, enhance_leaves, PaintOut, paint_leaves}
use Rattle.film_draw.specs.Draw.{DrawOut, draw_leaves, draw_of}
use Rattle.film_draw.proofs.Like.{draw_kept, draw_kept_record, draw_front}
use Rattle.promise_films.proofs.Runs.{PrepareCall, prepare_arguments, prepare_read, EnhanceCall, enhance_arguments, enhance_read, DrawCall, draw_arguments, draw_read}

-- ---- equal outcomes, part by part

pub prepare_parts : {a b : Says (MapRecord × Footer)} {m n t u l k : List ℕ} → prepare_leaves a m t l ≡ prepare_leaves b n u k → (a ≡ b) × (m ≡ n) × (t ≡ u) × (l ≡ k)
prepare_parts e = (ap (λ (z : PrepareOut). z.answer) e, ap (λ (z : PrepareOut). z.map) e, ap (λ (z : PrepareOut). z.scratch) e, ap (λ (z : PrepareOut). z.list) e)

-- the lent memory alone
pub prepare_memory : {a b : Says (MapRecord × Footer)} {m n t u l k : List ℕ} → prepare_leaves a m t l ≡ prepare_leaves b n u k → (m ≡ n) × (t ≡ u) × (l ≡ k)
prepare_memory e = (ap (λ (z : PrepareOut). z.map) e, ap (λ (z : PrepareOut). z.scratch) e, ap (λ (z : PrepareOut). z.list) e)

pub enhance_parts : {a b : Says Footer} {p q m n t u : List ℕ} → enhance_leaves a p m t ≡ enhance_leaves b q n u → (a ≡ b) × (p ≡ q) × (m ≡ n) × (t ≡ u)
enhance_parts e = (ap (λ (z : EnhanceOut). z.answer) e, ap (λ (z : EnhanceOut). z.picture) e, ap (λ (z : EnhanceOut). z.map) e, ap (λ (z : EnhanceOut). z.scratch) e)

pub enhance_memory : {a b : Says Footer} {p q m n t u : List ℕ} → enhance_leaves a p m t ≡ enhance_leaves b q n u → (p ≡ q) × (m ≡ n) × (t ≡ u)
enhance_memory e = (ap (λ (z : EnhanceOut). z.picture) e, ap (λ (z : EnhanceOut). z.map) e, ap (λ (z : EnhanceOut). z.scratch) e)

pub draw_both : {a b : Says (Unit {0})} {o q : List ℕ} → draw_leaves a o ≡ draw_leaves b q → (a ≡ b) × (o ≡ q)
draw_both e = (ap (λ (z : DrawOut). z.answer) e, ap (λ (z : DrawOut). z.out) e)

pub paint_parts : {a b : Says Footer} {o q t u : List ℕ} → paint_leaves a o t ≡ paint_leaves b q u → (a ≡ b) × (o ≡ q) × (t ≡ u)
paint_parts e = (ap (λ (z : PaintOut). z.answer) e, ap (λ (z : PaintOut). z.target) e, ap (λ (z : PaintOut). z.scratch) e)

pub paint_memory : {a b : Says Footer} {o q t u : List ℕ} → paint_leaves a o t ≡ paint_leaves b q u → (o ≡ q) × (t ≡ u)
paint_memory e = (ap (λ (z : PaintOut). z.target) e, ap (λ (z : PaintOut). z.scratch) e)

-- ---- two runs

-- that end with what one function gives for the same
pub same_ends : {A Y : Type 0} (f : A → Y) {y z : Y} {a b : A} → y ≡ f a → z ≡ f b → a ≡ b → y ≡ z
same_ends f p q e = p ∙ ap f e ∙ sym q

module _ (of : ℕ → ℕ → ℕ → List ℕ → Settings → List ℕ → List ℕ → List ℕ → PrepareOut) where
  abbrev PrepareEnds : PrepareCall → Type 0
  PrepareEnds p = prepare_leaves p.answer p.map' p.scratch' p.list' ≡ of p.film p.width p.height p.pixels p.settings p.map p.scratch p.list

  pub prepares_determined : (p q : PrepareCall) → PrepareEnds p → PrepareEnds q → prepare_arguments p ≡ prepare_arguments q
      → (p.answer ≡ q.answer) × (p.map' ≡ q.map') × (p.scratch' ≡ q.scratch') × (p.list' ≡ q.list')
  prepares_determined p q x y same = prepare_parts (same_ends (λ g. of g.0 g.1 g.2 g.3 g.4 g.5 g.6 g.7) x y same)

  -- and where bins 0 are read as 128
  pub prepares_alike : ((film w h : ℕ) (pic : List ℕ) (s : Settings) (m t n : List ℕ) → of film w h pic (kept_of s) m t n ≡ of film w h pic s m t n)
      → (p q : PrepareCall) → PrepareEnds p → PrepareEnds q → prepare_read p ≡ prepare_read q
      → (p.answer ≡ q.answer) × (p.map' ≡ q.map') × (p.scratch' ≡ q.scratch') × (p.list' ≡ q.list')
  prepares_alike kept p q x y same =
      prepare_parts
      (same_ends (λ g. of g.0 g.1 g.2 g.3 g.4 g.5 g.6 g.7)
      (x ∙ sym (kept p.film p.width p.height p.pixels p.settings p.map p.scratch p.list))
      (y ∙ sym (kept q.film q.width q.height q.pixels q.settings q.map q.scratch q.list))
      same)

module _ (of : ℕ → ℕ → List ℕ → Settings → List ℕ → List ℕ → EnhanceOut) where
  abbrev EnhanceEnds : EnhanceCall → Type 0
  EnhanceEnds e = enhance_leaves e.answer e.pixels' e.map' e.scratch' ≡ of e.width e.height e.pixels e.settings e.map e.scratch

  pub enhances_determined : (e f : EnhanceCall) → EnhanceEnds e → EnhanceEnds f → enhance_arguments e ≡ enhance_arguments f
      → (e.answer ≡ f.answer) × (e.pixels' ≡ f.pixels') × (e.map' ≡ f.map') × (e.scratch' ≡ f.scratch')
  enhances_determined e f x y same = enhance_parts (same_ends (λ g. of g.0 g.1 g.2 g.3 g.4 g.5) x y same)

  pub enhances_alike : ((w h : ℕ) (pic : List ℕ) (s : Settings) (m t : List ℕ) → of w h pic (kept_of s) m t ≡ of w h pic s m t)
      → (e f : EnhanceCall) → EnhanceEnds e → EnhanceEnds f → enhance_read e ≡ enhance_read f
      → (e.answer ≡ f.answer) × (e.pixels' ≡ f.pixels') × (e.map' ≡ f.map') × (e.scratch' ≡ f.scratch')
  enhances_alike kept e f x y same =
      enhance_parts
      (same_ends (λ g. of g.0 g.1 g.2 g.3 g.4 g.5)
      (x ∙ sym (kept e.width e.height e.pixels e.settings e.map e.scratch))
      (y ∙ sym (kept f.width f.height f.pixels f.settings f.map f.scratch))
      same)

module _ (of : ℕ → ℕ → ℕ → List ℕ → Settings → MapRecord → Window → List ℕ → List ℕ → DrawOut) where
  abbrev DrawEnds : DrawCall → Type 0
  DrawEnds d = draw_leaves d.answer d.out' ≡ of d.film d.width d.height d.pixels d.settings d.kept d.window d.map d.out

  pub draws_determined : (d f : DrawCall) → DrawEnds d → DrawEnds f → draw_arguments d ≡ draw_arguments f → (d.answer ≡ f.answer) × (d.out' ≡ f.out')
  draws_determined d f x y same = draw_both (same_ends (λ g. of g.0 g.1 g.2 g.3 g.4 g.5 g.6 g.7 g.8) x y same)

  -- where of the map buffer, too, the mappings' entries alone are read
  pub draws_alike : ((film w h : ℕ) (pic : List ℕ) (s : Settings) (r : MapRecord) (win : Window) (m out : List ℕ)
      → of film w h pic (kept_of s) (kept_record r) win (take (entries_of s) m) out ≡ of film w h pic s r win m out)
      → (d f : DrawCall) → DrawEnds d → DrawEnds f → draw_read d ≡ draw_read f → (d.answer ≡ f.answer) × (d.out' ≡ f.out')
  draws_alike reads d f x y same =
      draw_both
      (same_ends (λ g. of g.0 g.1 g.2 g.3 g.4 g.5 g.6 g.7 g.8)
      (x ∙ sym (reads d.film d.width d.height d.pixels d.settings d.kept d.window d.map d.out))
      (y ∙ sym (reads f.film f.width f.height f.pixels f.settings f.kept f.window f.map f.out))
      same)

-- draw's outcome is that of what it reads
pub draw_reads : (film w h : ℕ) (pic : List ℕ) (s : Settings) (r : MapRecord) (win : Window) (m out : List ℕ)
    → draw_of film w h pic (kept_of s) (kept_record r) win (take (entries_of s) m) out ≡ draw_of film w h pic s r win m out
draw_reads film w h pic s r win m out =
    draw_kept film w h pic s (kept_record r) win (take (entries_of s) m) out
    ∙ draw_kept_record film w h pic s r win (take (entries_of s) m) out
    ∙ draw_front film w h pic s r win m out
