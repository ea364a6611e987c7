-- Document 00, demand 1: "Every call ends with a defined answer", of prepare, enhance, draw, read, greys and write: "Bad input meets a numbered refusal, and after a refusal all lent memory holds
-- what it held before", and, as document 01 has it, "any two outcomes it allows are equal".
-- Promises alone: of every run of the calls by their contracts (Runs), each listed in docs/PROMISES.md. A name with ' is lent memory at the end.
-- Assumes nothing.
use Prim.Native.Nat.{ℕ}
use mathlib.Core.Path.{◌≡◌, sym, ap, ◌∙◌}
use lib.ListN.{length}
use mathlib.Core.List.{List, [], ◌++◌}
use Rattle.base_rows.specs.Refuse.{first, refused, says}
use Rattle.base_rows.proofs.Told.{told_same}
use Rattle.film_settings.specs.Settings.{record_of}
use Rattle.film_tiles.specs.Tiles.{foot_of}
use Rattle.film_prepare.specs.Prepare.{enhance_rows, prepare_rows, prepare_of, enhance_of}
use Rattle.film_draw.specs.Draw.{draw_rows, draw_of}
use Rattle.promise_films.proofs.Accepted.{prepare_table, enhance_table, draw_table, ended_says, ended_kept}
use Rattle.promise_films.proofs.Runs.{PrepareCall, Prepares, prepare_ends, EnhanceCall, Enhances, enhance_ends, DrawCall, Draws, draw_ends, prepare_arguments, enhance_arguments, draw_arguments, SizesCall, ReadsSizes, sizes_ends, RasterCall, ReadsRaster, raster_ends, GreysCall, Greys, greys_arguments, greys_ends, WriteCall, Writes, write_arguments, write_ends}
use Rattle.pgm_header.specs.Grammar.{Header, Hash}
use Rattle.pgm_raster.specs.Raster.{head_rows, raster_rows}
use Rattle.pgm_read.specs.Pgm.{read_of, sizes_of, raster_of}
use Rattle.pgm_greys.specs.Greys.{turn_rows, turned_of, GreysOut}
use Rattle.pgm_write.specs.Write.{write_rows, file_of, WriteOut, write_of}
use Rattle.promise_films.proofs.Files.{found_says, hash_says, other_says, refused_part, greys_table, write_table}
use Rattle.promise_films.proofs.Ways.{ReadTwice}
use Rattle.promise_films.proofs.Alike.{prepare_memory, enhance_memory, draw_both, prepares_determined, enhances_determined, draws_determined}
use Rattle.promise_films.proofs.Back.{twice_found}
use Rattle.promise_films.proofs.Told.{prepared_told, sizes_told}

-- ---- films: what is said

-- "Bad input meets a numbered refusal": prepare's is that of the first row of document 01's order that applies; where none does it hands back "the map record and a footer record"
pub prepare_says : {p : PrepareCall} → Prepares p
    → p.answer
    ≡ says (first (prepare_rows p.width p.height p.pixels p.settings (length p.map) (length p.scratch) (length p.list))) (
      record_of p.film p.width p.height p.settings,
      foot_of p.width p.height p.settings,
    )
prepare_says ran = ended_says (prepare_table _ _ _ _ _ _ _ _) (prepare_ends ran)

-- enhance's is that of the same rows but 32, since it is lent no list, and where none applies it hands back "the same .. footer"
pub enhance_says : {e : EnhanceCall} → Enhances e
    → e.answer
    ≡ says (first (enhance_rows e.width e.height e.pixels e.settings (length e.map) (length e.scratch)))
    (foot_of e.width e.height e.settings)
enhance_says ran = ended_says (enhance_table _ _ _ _ _ _) (enhance_ends ran)

-- draw's is that of draw's rows; where none applies there is no value to hand back
pub draw_says : {d : DrawCall} → Draws d
    → d.answer ≡ says (first (draw_rows d.film d.width d.height d.pixels d.settings d.kept d.window d.map (length d.out))) tt
draw_says ran = ended_says (draw_table _ _ _ _ _ _ _ _ _) (draw_ends ran)

-- ---- films: a refusal keeps lent memory

-- "after a refusal all lent memory holds what it held before": prepare's map buffer, scratch and list
pub prepare_refusal_keeps : {p : PrepareCall} (n : ℕ) → Prepares p → p.answer ≡ refused n
    → (p.map' ≡ p.map) × (p.scratch' ≡ p.scratch) × (p.list' ≡ p.list)
prepare_refusal_keeps n ran q = prepare_memory (ended_kept (prepare_table _ _ _ _ _ _ _ _) (prepare_ends ran) q)

-- enhance's picture, map buffer and scratch
pub enhance_refusal_keeps : {e : EnhanceCall} (n : ℕ) → Enhances e → e.answer ≡ refused n
    → (e.pixels' ≡ e.pixels) × (e.map' ≡ e.map) × (e.scratch' ≡ e.scratch)
enhance_refusal_keeps n ran q = enhance_memory (ended_kept (enhance_table _ _ _ _ _ _) (enhance_ends ran) q)

-- draw's output
pub draw_refusal_keeps : {d : DrawCall} (n : ℕ) → Draws d → d.answer ≡ refused n → d.out' ≡ d.out
draw_refusal_keeps n ran q = (draw_both (ended_kept (draw_table _ _ _ _ _ _ _ _ _) (draw_ends ran) q)).1

-- ---- films: any two outcomes are equal. `run.answer` is what the call itself answers, and `answer` what that says

-- prepare: one answer, one map buffer, one scratch and one list at the end
pub prepare_determined : {p q : PrepareCall} (x : Prepares p) (y : Prepares q) → prepare_arguments p ≡ prepare_arguments q
    → (x.run.answer ≡ y.run.answer) × (p.answer ≡ q.answer) × (p.map' ≡ q.map') × (p.scratch' ≡ q.scratch') × (p.list' ≡ q.list')
prepare_determined {p} {q} x y same =
    let e = prepares_determined prepare_of p q (prepare_ends x) (prepare_ends y) same in
    (prepared_told (ap (λ (z : PrepareCall). z.answer) x.named) (ap (λ (z : PrepareCall). z.answer) y.named) e.0, e.0, e.1, e.2, e.3)

-- enhance: one answer, one picture, one map buffer and one scratch at the end
pub enhance_determined : {e f : EnhanceCall} (x : Enhances e) (y : Enhances f) → enhance_arguments e ≡ enhance_arguments f
    → (x.run.answer ≡ y.run.answer) × (e.answer ≡ f.answer) × (e.pixels' ≡ f.pixels') × (e.map' ≡ f.map') × (e.scratch' ≡ f.scratch')
enhance_determined {e} {f} x y same =
    let k = enhances_determined enhance_of e f (enhance_ends x) (enhance_ends y) same in
    (told_same (ap (λ (z : EnhanceCall). z.answer) x.named) (ap (λ (z : EnhanceCall). z.answer) y.named) k.0, k.0, k.1, k.2, k.3)

-- draw: one answer and one output at the end
pub draw_determined : {d f : DrawCall} (x : Draws d) (y : Draws f) → draw_arguments d ≡ draw_arguments f
    → (x.run.answer ≡ y.run.answer) × (d.answer ≡ f.answer) × (d.out' ≡ f.out')
draw_determined {d} {f} x y same =
    let e = draws_determined draw_of d f (draw_ends x) (draw_ends y) same in
    (told_same (ap (λ (z : DrawCall). z.answer) x.named) (ap (λ (z : DrawCall). z.answer) y.named) e.0, e.0, e.1)

-- ---- files: what is said

-- demand 1, "Bad input meets a numbered refusal", of read, asked for the sizes: "header bytes from the front .. then 22 to 25".
-- Where the bytes start with a header, the number is that of the first of the rows 22 to 25 that applies; where none does the header's width, height and maxval are handed back
pub sizes_says_found : {c : SizesCall} {w h m : ℕ} {rest : List ℕ} → ReadsSizes c → Header c.bytes w h m rest
    → c.answer ≡ says (first (head_rows w h m ++ raster_rows w h m (length rest))) (w, h, m)
sizes_says_found {c} ran g = sizes_ends ran ∙ found_says c.bytes g

-- "behind `P5`, a `#` instead of white space or a digit is 21"
pub sizes_says_hash : {c : SizesCall} → ReadsSizes c → Hash c.bytes → c.answer ≡ refused 21
sizes_says_hash {c} ran g = sizes_ends ran ∙ hash_says c.bytes g

-- "and any other misfit, or the end of input, is 20"
pub sizes_says_misfit : {c : SizesCall} → ReadsSizes c → ((w h m : ℕ) (rest : List ℕ) → Header c.bytes w h m rest → ⊥) → (Hash c.bytes → ⊥)
    → c.answer ≡ refused 20
sizes_says_misfit {c} ran header hash = sizes_ends ran ∙ other_says c.bytes header hash

-- the same of greys: the first row that applies, "22, 23, 24, 25, 27, 26"; where none does there is no value to hand back
pub greys_says : {g : GreysCall} → Greys g
    → g.answer ≡ says (first (turn_rows g.bytes g.start g.width g.height g.maxval (length g.target))) tt
greys_says ran = ended_says (greys_table _ _ _ _ _ _) (greys_ends ran)

-- the same of write: the first row that applies, "22, 23, 2, 26, 27"; where none does it "returns the byte count"
pub write_says : {c : WriteCall} → Writes c
    → c.answer
    ≡ says (first (write_rows c.pixels c.width c.height c.maxval (length c.out))) (length (file_of c.pixels c.width c.height c.maxval))
write_says ran = ended_says (write_table _ _ _ _ _ _) (write_ends ran)

-- ---- files: a refusal keeps lent memory, and hands back an empty part

-- demand 1, "after a refusal all lent memory holds what it held before", of greys: the target
pub greys_refusal_keeps : {g : GreysCall} (n : ℕ) → Greys g → g.answer ≡ refused n → g.target' ≡ g.target
greys_refusal_keeps n ran q = ap (λ (y : GreysOut). y.target) (ended_kept (greys_table _ _ _ _ _ _) (greys_ends ran) q)

-- the same of write: the output
pub write_refusal_keeps : {c : WriteCall} (n : ℕ) → Writes c → c.answer ≡ refused n → c.out' ≡ c.out
write_refusal_keeps n ran q = ap (λ (y : WriteOut). y.out) (ended_kept (write_table _ _ _ _ _ _) (write_ends ran) q)

module _ {z : SizesCall} {k : RasterCall} (twice : ReadTwice z k) where
  -- "A refusal hands back an empty part."
  pub raster_refusal_empty : (n : ℕ) → z.answer ≡ refused n → k.part ≡ []
  raster_refusal_empty n q = raster_ends twice.raster ∙ refused_part (read_of k.bytes) k.bytes (sym ((twice_found twice)) ∙ q)

-- ---- files: any two outcomes are equal

-- read, asked for the sizes: one answer for each file
pub sizes_determined : {c k : SizesCall} (x : ReadsSizes c) (y : ReadsSizes k) → c.bytes ≡ k.bytes → (x.run.answer ≡ y.run.answer) × (c.answer ≡ k.answer)
sizes_determined x y same =
    let e = sizes_ends x ∙ ap (λ s. sizes_of (read_of s)) same ∙ sym (sizes_ends y) in
    (sizes_told (ap (λ (z : SizesCall). z.answer) x.named) (ap (λ (z : SizesCall). z.answer) y.named) e, e)

-- read, asked for the raster: one part for each file
pub raster_determined : {c k : RasterCall} → ReadsRaster c → ReadsRaster k → c.bytes ≡ k.bytes → c.part ≡ k.part
raster_determined x y same = raster_ends x ∙ ap (λ s. raster_of (read_of s) s) same ∙ sym (raster_ends y)

-- greys: one answer and one target for each raster, numbers and target
pub greys_determined : {g k : GreysCall} (x : Greys g) (y : Greys k) → greys_arguments g ≡ greys_arguments k
    → (x.run.answer ≡ y.run.answer) × (g.answer ≡ k.answer) × (g.target' ≡ k.target')
greys_determined x y same =
    let e = greys_ends x ∙ ap (λ g. turned_of g.0 g.1 g.2 g.3 g.4 g.5) same ∙ sym (greys_ends y) in
    let a = ap (λ (z : GreysOut). z.answer) e in
    (told_same (ap (λ (z : GreysCall). z.answer) x.named) (ap (λ (z : GreysCall). z.answer) y.named) a, a, ap (λ (z : GreysOut). z.target) e)

-- write: one answer and one output for each picture, numbers and output
pub write_determined : {c k : WriteCall} (x : Writes c) (y : Writes k) → write_arguments c ≡ write_arguments k
    → (x.run.answer ≡ y.run.answer) × (c.answer ≡ k.answer) × (c.out' ≡ k.out')
write_determined x y same =
    let e = write_ends x ∙ ap (λ g. write_of g.0 g.1 g.2 g.3 g.4) same ∙ sym (write_ends y) in
    let a = ap (λ (z : WriteOut). z.answer) e in
    (told_same (ap (λ (z : WriteCall). z.answer) x.named) (ap (λ (z : WriteCall). z.answer) y.named) a, a, ap (λ (z : WriteOut). z.out) e)
