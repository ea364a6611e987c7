-- The byte calls by the names of their arguments, and the two that turn bytes into 16-bit entries and back. A name with ' is lent memory at the end.
-- The only file that counts their parameters, in their order in the source. That each name is the contract's own is checked by the laws `..-ends`.
-- Assumes nothing.
use mathlib.Core.List.{List}
use Prim.Native.Nat.{ℕ}
use mathlib.Core.Bool.{true}
use mathlib.Core.Path.{◌≡◌}
use Rattle.base_lists.specs.Lists.{onto, all}
use Rattle.base_rows.specs.Given.{said}
use Rattle.film_prepare.specs.Prepare.{prepared_says}
use Rattle.base_rows.specs.Run.{Run, Ran}
use Rattle.film_prepare.specs.Prepare.{prepare_leaves, enhance_leaves}
use Rattle.film_draw.specs.Draw.{draw_leaves}
use Rattle.byte_narrow.specs.Narrow.{is_byte}
use Rattle.byte_narrow.proofs.widen.Kinds as widen
use Rattle.byte_narrow.proofs.widen.Reads as widen-reads
use Rattle.byte_narrow.proofs.narrow.Kinds as narrow
use Rattle.byte_narrow.proofs.narrow.Reads as narrow-reads
use Rattle.byte_prepare.specs.Bytes.{byte_prepare_of, byte_enhance_of}
use Rattle.byte_prepare.proofs.prepare_bytes.Kinds as prepare-bytes
use Rattle.byte_prepare.proofs.prepare_bytes.Reads as prepare-bytes-reads
use Rattle.byte_prepare.proofs.enhance_bytes.Kinds as enhance-bytes
use Rattle.byte_prepare.proofs.enhance_bytes.Reads as enhance-bytes-reads
use Rattle.byte_draw.specs.Bytes.{byte_draw_of}
use Rattle.byte_draw.proofs.draw_bytes.Kinds as draw-bytes
use Rattle.byte_draw.proofs.draw_bytes.Reads as draw-bytes-reads
use Rattle.promise_films.proofs.Runs.{PrepareCall, EnhanceCall, DrawCall}

-- ---- prepare, enhance and draw on bytes: the same names as of the wide calls

abbrev pub prepare_bytes_values : Run prepare-bytes.ps prepare-bytes.r prepare-bytes-reads.Post → PrepareCall
prepare_bytes_values run =
    let (film, (width, (height, (pixels, (settings, (map, (scratch, (list, end)))))))) = run.handed in
    let (_, (_, (_, (_, (_, (map', (scratch', (list', end')))))))) = run.left in
    record { film = film; width = width; height = height; pixels = pixels.now; settings = settings; map = map.now; scratch = scratch.now; list = list.now; answer = prepared_says run.answer; map' = map'.now; scratch' = scratch'.now; list' = list'.now }

-- prepare on bytes ran with these values
abbrev pub PreparesBytes : PrepareCall → Type 0
PreparesBytes = Ran prepare_bytes_values

pub prepare_bytes_ends : {p : PrepareCall} → PreparesBytes p
    → prepare_leaves p.answer p.map' p.scratch' p.list' ≡ byte_prepare_of p.film p.width p.height p.pixels p.settings p.map p.scratch p.list
prepare_bytes_ends ran = rw ran.named ran.run.allowed.0

-- its picture holds bytes
pub prepare_bytes_picture : {p : PrepareCall} → PreparesBytes p → all is_byte p.pixels ≡ true
prepare_bytes_picture ran = rw ran.named ran.run.allowed.1

abbrev pub enhance_bytes_values : Run enhance-bytes.ps enhance-bytes.r enhance-bytes-reads.Post → EnhanceCall
enhance_bytes_values run =
    let (width, (height, (pixels, (settings, (map, (scratch, end)))))) = run.handed in
    let (_, (_, (pixels', (_, (map', (scratch', end')))))) = run.left in
    record { width = width; height = height; pixels = pixels.now; settings = settings; map = map.now; scratch = scratch.now; answer = said run.answer; pixels' = pixels'.now; map' = map'.now; scratch' = scratch'.now }

-- enhance on bytes ran with these values
abbrev pub EnhancesBytes : EnhanceCall → Type 0
EnhancesBytes = Ran enhance_bytes_values

pub enhance_bytes_ends : {e : EnhanceCall} → EnhancesBytes e
    → enhance_leaves e.answer e.pixels' e.map' e.scratch' ≡ byte_enhance_of e.width e.height e.pixels e.settings e.map e.scratch
enhance_bytes_ends ran = rw ran.named ran.run.allowed.0

-- its picture holds bytes
pub enhance_bytes_picture : {e : EnhanceCall} → EnhancesBytes e → all is_byte e.pixels ≡ true
enhance_bytes_picture ran = rw ran.named ran.run.allowed.1

abbrev pub draw_bytes_values : Run draw-bytes.ps draw-bytes.r draw-bytes-reads.Post → DrawCall
draw_bytes_values run =
    let (film, (width, (height, (pixels, (settings, (kept, (window, (map, (out, end))))))))) = run.handed in
    let (_, (_, (_, (_, (_, (_, (_, (_, (out', end'))))))))) = run.left in
    record { film = film; width = width; height = height; pixels = pixels.now; settings = settings; kept = kept; window = window; map = map.now; out = out.now; answer = said run.answer; out' = out'.now }

-- draw on bytes ran with these values
abbrev pub DrawsBytes : DrawCall → Type 0
DrawsBytes = Ran draw_bytes_values

pub draw_bytes_ends : {d : DrawCall} → DrawsBytes d
    → draw_leaves d.answer d.out' ≡ byte_draw_of d.film d.width d.height d.pixels d.settings d.kept d.window d.map d.out
draw_bytes_ends ran = rw ran.named ran.run.allowed.0

-- its picture and its map buffer hold bytes
pub draw_bytes_lent : {d : DrawCall} → DrawsBytes d → (all is_byte d.pixels ≡ true) × (all is_byte d.map ≡ true)
draw_bytes_lent ran = (rw ran.named ran.run.allowed.1, rw ran.named ran.run.allowed.2)

-- ---- widen and narrow

pub record TurnCall : Type 0 where
  pub src : List ℕ
  pub dst : List ℕ
  pub dst' : List ℕ

abbrev pub widen_values : Run widen.ps widen.r widen-reads.Post → TurnCall
widen_values run = let (src, (dst, end)) = run.handed in let (_, (dst', end')) = run.left in record { src = src.now; dst = dst.now; dst' = dst'.now }

-- bytes were turned into 16-bit entries with these values
abbrev pub Widens : TurnCall → Type 0
Widens = Ran widen_values

pub widen_ends : {c : TurnCall} → Widens c → c.dst' ≡ onto c.dst c.src
widen_ends ran = rw ran.named ran.run.allowed

abbrev pub narrow_values : Run narrow.ps narrow.r narrow-reads.Post → TurnCall
narrow_values run = let (src, (dst, end)) = run.handed in let (_, (dst', end')) = run.left in record { src = src.now; dst = dst.now; dst' = dst'.now }

-- and back
abbrev pub Narrows : TurnCall → Type 0
Narrows = Ran narrow_values

pub narrow_ends : {c : TurnCall} → Narrows c → c.dst' ≡ onto c.dst c.src
narrow_ends ran = rw ran.named ran.run.allowed
