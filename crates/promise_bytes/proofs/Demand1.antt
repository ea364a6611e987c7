-- Document 00, demand 1, of the byte calls: "Bad input meets a numbered refusal, and after a refusal all lent memory holds what it held before", and any two outcomes are equal.
-- Promises alone: of every run of the calls by their contracts (Runs), each listed in docs/PROMISES.md. A name with ' is lent memory at the end.
-- Assumes nothing.
use Prim.Native.Nat.{ℕ}
use mathlib.Core.Path.{◌≡◌, ap}
use lib.ListN.{length}
use Rattle.base_rows.specs.Refuse.{first, refused, says}
use Rattle.base_rows.proofs.Told.{told_same}
use Rattle.film_settings.specs.Settings.{record_of}
use Rattle.film_tiles.specs.Tiles.{foot_of}
use Rattle.byte_prepare.specs.Bytes.{byte_prepare_rows, byte_enhance_rows, byte_prepare_of, byte_enhance_of}
use Rattle.byte_draw.specs.Bytes.{byte_draw_rows, byte_draw_of}
use Rattle.promise_films.proofs.Runs.{PrepareCall, prepare_arguments, EnhanceCall, enhance_arguments, DrawCall, draw_arguments}
use Rattle.promise_bytes.proofs.Inside.{prepare_bytes_table, enhance_bytes_table, draw_bytes_table}
use Rattle.promise_bytes.proofs.Runs.{PreparesBytes, prepare_bytes_ends, EnhancesBytes, enhance_bytes_ends, DrawsBytes, draw_bytes_ends}
use Rattle.promise_films.proofs.Alike.{draw_both, draws_determined, enhance_memory, enhances_determined, prepare_memory, prepares_determined}
use Rattle.promise_films.proofs.Accepted.{ended_kept, ended_says}
use Rattle.promise_films.proofs.Told.{prepared_told}

-- ---- what is said

-- prepare on bytes: the number of the first row that applies, 30 after 10 and the others as in the wide call, or the wide call's record and footer
pub prepare_bytes_says : {p : PrepareCall} → PreparesBytes p
    → p.answer
    ≡ says (first (byte_prepare_rows p.width p.height p.pixels p.settings (length p.map) (length p.scratch) (length p.list)))
    (record_of p.film p.width p.height p.settings, foot_of p.width p.height p.settings)
prepare_bytes_says ran = ended_says (prepare_bytes_table _ _ _ _ _ _ _ _) (prepare_bytes_ends ran)

-- enhance on bytes: that of the same rows but 32, or the same footer
pub enhance_bytes_says : {e : EnhanceCall} → EnhancesBytes e
    → e.answer
    ≡ says (first (byte_enhance_rows e.width e.height e.pixels e.settings (length e.map) (length e.scratch))) (foot_of e.width e.height e.settings)
enhance_bytes_says ran = ended_says (enhance_bytes_table _ _ _ _ _ _) (enhance_bytes_ends ran)

-- draw on bytes: that of its own rows
pub draw_bytes_says : {d : DrawCall} → DrawsBytes d
    → d.answer ≡ says (first (byte_draw_rows d.film d.width d.height d.pixels d.settings d.kept d.window d.map (length d.out))) tt
draw_bytes_says ran = ended_says (draw_bytes_table _ _ _ _ _ _ _ _ _) (draw_bytes_ends ran)

-- ---- a refusal keeps lent memory

-- after a refusal prepare's map buffer, scratch and list hold what they held
pub prepare_bytes_refusal_keeps : {p : PrepareCall} (n : ℕ) → PreparesBytes p → p.answer ≡ refused n
    → (p.map' ≡ p.map) × (p.scratch' ≡ p.scratch) × (p.list' ≡ p.list)
prepare_bytes_refusal_keeps n ran q = prepare_memory (ended_kept (prepare_bytes_table _ _ _ _ _ _ _ _) (prepare_bytes_ends ran) q)

-- enhance's picture, map buffer and scratch
pub enhance_bytes_refusal_keeps : {e : EnhanceCall} (n : ℕ) → EnhancesBytes e → e.answer ≡ refused n
    → (e.pixels' ≡ e.pixels) × (e.map' ≡ e.map) × (e.scratch' ≡ e.scratch)
enhance_bytes_refusal_keeps n ran q = enhance_memory (ended_kept (enhance_bytes_table _ _ _ _ _ _) (enhance_bytes_ends ran) q)

-- draw's output
pub draw_bytes_refusal_keeps : {d : DrawCall} (n : ℕ) → DrawsBytes d → d.answer ≡ refused n → d.out' ≡ d.out
draw_bytes_refusal_keeps n ran q = (draw_both (ended_kept (draw_bytes_table _ _ _ _ _ _ _ _ _) (draw_bytes_ends ran) q)).1

-- ---- any two outcomes are equal. `run.answer` is what the call itself answers, and `answer` what that says

-- prepare on bytes: one answer, one map buffer, one scratch and one list at the end
pub prepare_bytes_determined : {p q : PrepareCall} (x : PreparesBytes p) (y : PreparesBytes q) → prepare_arguments p ≡ prepare_arguments q
    → (x.run.answer ≡ y.run.answer) × (p.answer ≡ q.answer) × (p.map' ≡ q.map') × (p.scratch' ≡ q.scratch') × (p.list' ≡ q.list')
prepare_bytes_determined {p} {q} x y same =
    let e = prepares_determined byte_prepare_of p q (prepare_bytes_ends x) (prepare_bytes_ends y) same in
    (prepared_told (ap (λ (z : PrepareCall). z.answer) x.named) (ap (λ (z : PrepareCall). z.answer) y.named) e.0, e.0, e.1, e.2, e.3)

-- enhance on bytes: one answer, one picture, one map buffer and one scratch
pub enhance_bytes_determined : {e f : EnhanceCall} (x : EnhancesBytes e) (y : EnhancesBytes f) → enhance_arguments e ≡ enhance_arguments f
    → (x.run.answer ≡ y.run.answer) × (e.answer ≡ f.answer) × (e.pixels' ≡ f.pixels') × (e.map' ≡ f.map') × (e.scratch' ≡ f.scratch')
enhance_bytes_determined {e} {f} x y same =
    let k = enhances_determined byte_enhance_of e f (enhance_bytes_ends x) (enhance_bytes_ends y) same in
    (told_same (ap (λ (z : EnhanceCall). z.answer) x.named) (ap (λ (z : EnhanceCall). z.answer) y.named) k.0, k.0, k.1, k.2, k.3)

-- draw on bytes: one answer and one output
pub draw_bytes_determined : {d f : DrawCall} (x : DrawsBytes d) (y : DrawsBytes f) → draw_arguments d ≡ draw_arguments f
    → (x.run.answer ≡ y.run.answer) × (d.answer ≡ f.answer) × (d.out' ≡ f.out')
draw_bytes_determined {d} {f} x y same =
    let e = draws_determined byte_draw_of d f (draw_bytes_ends x) (draw_bytes_ends y) same in
    (told_same (ap (λ (z : DrawCall). z.answer) x.named) (ap (λ (z : DrawCall). z.answer) y.named) e.0, e.0, e.1)
