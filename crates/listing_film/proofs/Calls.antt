-- Laws of the listing of a film: what prepare left, and the text that follows.
-- Assumes nothing.
use Prim.Native.Nat.{ℕ, zero, suc, ◌*◌, ◌≤◌, ◌<◌}
use mathlib.Core.Bool.{cond}
use mathlib.Core.List.{List}
use mathlib.Core.Path.{◌≡◌, refl, sym, ap, ◌∙◌}
use lib.Dec.{lit<}
use lib.ListN.{length}
use native.Mathlib.Omega.{arith}
use Rattle.base_lists.specs.Lists.{onto}
use Rattle.base_lists.proofs.Maps.{onto_whole}
use Rattle.base_rows.specs.Refuse.{first, unless, Says, accepted, refused}
use Rattle.tile_limit.proofs.Laws.{above_not_one}
use Rattle.film_settings.specs.declared.Settings.{Settings}
use Rattle.film_settings.specs.declared.Footer.{Footer}
use Rattle.film_settings.specs.Settings.{bins_of, record_of}
use Rattle.film_settings.specs.declared.MapRecord.{MapRecord}
use Rattle.film_prepare.specs.Prepare.{prepare_rows, PrepareOut, prepare_leaves, prepared_of, prepare_of}
use Rattle.film_prepare.proofs.Table.{work}
use Rattle.film_tiles.specs.Tiles.{mappings, spents, foot_of, TilesReady}
use Rattle.film_tiles.proofs.Footers.{foot_limit}
use Rattle.film_tiles.proofs.Films.{length_mappings}
use Rattle.film_tiles.proofs.Spents.{length_spents}
use Rattle.listing_line.specs.Lines.{refused_text}
use Rattle.listing_line.specs.Asks.{Told}
use Rattle.listing_film.specs.FilmText.{two, listing_settings, limit_for, film_text}
use Rattle.listing_film.specs.Asks.{kept_text, LinesAsk}
use Rattle.listing_film.proofs.Tiles.{limit_short, excess_short, looks_short, text_kept}
use Rattle.listing_film.proofs.Refusals.{prepare_below}

-- ---- texts

-- the same text by another name
pub told_as : {d text text' out : List ℕ} {r : ℕ} → Told d text out r → text ≡ text' → Told d text' out r
told_as t e = record { bytes = t.bytes ∙ ap (onto _) e; count = t.count ∙ ap length e }

-- the text of a film that is not refused
pub told_none : {n r : ℕ} {d text out : List ℕ} → n ≡ 0 → Told d text out r → Told d (unless n refused_text text) out r
told_none e t = rw e t

-- ---- what prepare left

module _ (w h m : ℕ) (pic : List ℕ) where
  -- the number of the rows 1 to 13, 31 and 32, with the listing's buffers
  abbrev pub number : ℕ
  number = first (prepare_rows w h pic (listing_settings m) 16 4 8)

  -- a film that is not refused
  pub record Accepted (limit : ℕ) (map list : List ℕ) : Type 0 where
    pub none : number ≡ 0
    pub film : TilesReady w h pic (listing_settings m) 16 4
    pub bound : limit ≡ limit_for w h m
    pub mapped : map ≡ mappings w h pic (listing_settings m)
    pub listed : list ≡ spents w h pic (listing_settings m)

  -- what its lines ask
  pub lines_asks : {limit : ℕ} {map list : List ℕ} → Accepted limit map list → w * h ≤ 8192 → (room : ℕ) → 512 ≤ room → LinesAsk w h m limit map list room
  unfolding bins_of
  lines_asks {limit} {map} {list} made few room q =
      record {
        width = omega (arith, made.film.work.ready.tiled.widest);
        height = omega (arith, made.film.work.ready.tiled.highest);
        maxval = omega (arith, made.film.work.ready.tiled.max);
        limit = omega (arith, made.bound, limit_short w h m made.film.work.ready.tiled few);
        entries = ap length made.mapped ∙ length_mappings w h pic (listing_settings m);
        pairs = ap length made.listed ∙ length_spents w h pic (listing_settings m);
        excess = λ k l. excess_short made.film few l made.listed;
        looks = λ k l. looks_short made.film few l made.listed;
        fitting = q;
      }

  -- and its text
  pub accepted_told : {limit : ℕ} {map list : List ℕ} → Accepted limit map list → {d out : List ℕ} {r : ℕ} → Told d (kept_text w h m limit map list) out r
      → Told d (unless number refused_text (film_text w h m pic)) out r
  accepted_told made t = told_none made.none (told_as t (text_kept w h m pic made.bound made.mapped made.listed))

  -- what the tiles ask, since the factor 2 is above one
  tiles_asks : number ≡ 0 → TilesReady w h pic (listing_settings m) 16 4
  tiles_asks z = record { work = work w h pic (listing_settings m) 16 4 8 z; changes = above_not_one two (refl, lit< tt) }

  module _ (map₀ scratch₀ list₀ : List ℕ) {map scratch list : List ℕ} (n : length map₀ ≡ 16) (k : length scratch₀ ≡ 4) (j : length list₀ ≡ 8) where
    made_film : {p : Says (MapRecord × Footer)} {v : MapRecord × Footer} → p ≡ accepted v → number ≡ 0
        → prepare_leaves p map scratch list ≡ prepared_of 0 w h pic (listing_settings m) map₀ scratch₀ list₀ → Accepted v.1.limit map list
    unfolding prepared_of bins_of
    made_film {p} {v} a z e =
        record {
          none = z;
          film = tiles_asks z;
          bound = ap (λ (f : MapRecord × Footer). f.1.limit) (same (sym a ∙ ap (λ (x : PrepareOut). x.answer) e)) ∙ foot_limit w h (listing_settings m) refl (tiles_asks z).changes;
          mapped = ap (λ (x : PrepareOut). x.map) e ∙ ap (λ b. cond b map₀ (onto map₀ (mappings w h pic (listing_settings m)))) (tiles_asks z).changes ∙ onto_whole map₀ (mappings w h pic (listing_settings m)) (omega (arith, length_mappings w h pic (listing_settings m)));
          listed = ap (λ (x : PrepareOut). x.list) e ∙ ap (λ b. cond b list₀ (onto list₀ (spents w h pic (listing_settings m)))) (tiles_asks z).changes ∙ onto_whole list₀ (spents w h pic (listing_settings m)) (omega (arith, length_spents w h pic (listing_settings m)));
        }
      where
        same : {f g : MapRecord × Footer} → ◌≡◌ {A = Says (MapRecord × Footer)} (accepted f) (accepted g) → f ≡ g
        same q = cc

    module _ {s : Settings} {p : Says (MapRecord × Footer)} (q : s ≡ listing_settings m) (e : prepare_leaves p map scratch list ≡ prepare_of 0 w h pic s map₀ scratch₀ list₀) where
      -- what is left, by the rows' number
      abbrev Left : ℕ → Type 0
      Left i =
          prepare_leaves p map scratch list
          ≡ unless i (λ r. prepare_leaves (refused r) map₀ scratch₀ list₀) (prepared_of 0 w h pic (listing_settings m) map₀ scratch₀ list₀)

      left : Left number
      unfolding prepare_of
      left = rw (q, n, k, j) at e

      -- the answer is a footer: no row applied
      pub prepared_done : {v : MapRecord × Footer} → p ≡ accepted v → Accepted v.1.limit map list
      prepared_done {v} a = go number refl left
        where
          go : (i : ℕ) → number ≡ i → Left i → Accepted v.1.limit map list
          go zero z f = made_film a z f
          go (suc i) z f =
              let b : p ≡ refused (suc i) = ap (λ (x : PrepareOut). x.answer) f in
              absurd (let o : ◌≡◌ {A = ℕ} 0 1 = cc in omega arith)

      -- the answer is a refusal: it is the rows' number
      pub prepared_refused : {r : ℕ} → p ≡ refused r → (r < 100000) × ((text : List ℕ) → refused_text r ≡ unless number refused_text text)
      unfolding prepared_of
      prepared_refused {r} a = go number refl left
        where
          go : (i : ℕ) → number ≡ i → Left i → (r < 100000) × ((text : List ℕ) → refused_text r ≡ unless number refused_text text)
          go zero z f =
              let b : p ≡ accepted (record_of 0 w h (listing_settings m), foot_of w h (listing_settings m)) = ap (λ (x : PrepareOut). x.answer) f in
              absurd (let o : ◌≡◌ {A = ℕ} 0 1 = cc in omega arith)
          go (suc i) z f =
              let b : p ≡ refused (suc i) = ap (λ (x : PrepareOut). x.answer) f in
              let d : r ≡ suc i = cc in
              (omega (arith, prepare_below w h pic (listing_settings m) 16 4 8), λ text. rw (z, d) refl)
