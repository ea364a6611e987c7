-- How prepare ends: refused, with the factor 1.0, or with the mappings and the list laid down.
-- Assumes nothing.
use Prim.Native.Nat.{ℕ}
use mathlib.Core.Bool.{Bool, true, false, cond}
use mathlib.Core.List.{List}
use mathlib.Core.Path.{◌≡◌, refl, sym, ap, ◌∙◌}
use lib.ListN.{length}
use Rattle.base_lists.specs.Lists.{onto, filled}
use Rattle.base_rows.specs.Refuse.{first, unless, accepted, refused}
use Rattle.base_rows.proofs.Walk.{unless_refused}
use Rattle.std.proofs.Common.{Result, Ok, Err}
use Rattle.std.specs.Result.{IsErrAnd}
use Rattle.base_rows.specs.declared.Refusal.{Refusal}
use Rattle.base_rows.specs.Given.{number_of}
use Rattle.film_prepare.specs.declared.Prepared.{Prepared}
use Rattle.film_settings.specs.declared.Settings.{Settings}
use Rattle.film_settings.specs.declared.Footer.{Footer}
use Rattle.film_settings.specs.declared.MapRecord.{MapRecord}
use Rattle.film_settings.specs.Settings.{bins_of, record_of, clip_one_of, Tiled}
use Rattle.film_tiles.specs.Tiles.{mappings, spents, foot_of, FilmFooterAsks, Work, MapTilesAsks, TilesDone}
use Rattle.film_tiles.proofs.Footers.{film_asks}
use Rattle.film_prepare.specs.Prepare.{prepared_says, prepare_rows, PrepareOut, prepare_leaves, prepared_of, prepare_of}
use Rattle.film_prepare.proofs.Table.{work, table_listed}

-- ---- what the work asks, once none of the rows applies

module _ (w h : ℕ) (pic : List ℕ) (s : Settings) (room scratch list : ℕ) {r : ℕ} (e : r ≡ first (prepare_rows w h pic s room scratch list)) (z : r ≡ 0) where
  -- the whole of it
  pub asks_work : Work w h pic s room scratch
  asks_work = work w h pic s room scratch list (sym e ∙ z)

  -- the record
  pub asks_record : Tiled w h s
  asks_record = asks_work.ready.tiled

  -- the footer
  pub asks_foot : FilmFooterAsks w h s
  asks_foot = film_asks asks_work.ready

  -- the tiles
  pub asks_tiles : {o : Bool} → o ≡ clip_one_of s.clip → o ≡ false → MapTilesAsks w h pic s room scratch list
  asks_tiles q f = record { film = record { work = asks_work; changes = sym q ∙ f }; pairs = table_listed w h pic s room scratch list (sym e ∙ z) }

-- ---- the endings

-- a call that hands a refusal on says its number alone
pub prepared_err : (q : Result Prepared Refusal) (e : Refusal) → IsErrAnd q (λ f. f ≡ e) → prepared_says q ≡ refused (number_of e)
prepared_err (Ok p) e h = absurd h
prepared_err (Err f) e h = ap (λ r. refused (number_of r)) h

module _ (film w h : ℕ) (pic : List ℕ) (s : Settings) (m t n : List ℕ) where
  -- a refusal, as it was worked out
  pub ends_refused : {r : ℕ} → r ≡ first (prepare_rows w h pic s (length m) (length t) (length n)) → (r ≡ 0 → ⊥)
      → prepare_leaves (refused r) m t n ≡ prepare_of film w h pic s m t n
  unfolding prepare_of
  ends_refused {r} e z =
      unless_refused r (λ k. prepare_leaves (refused k) m t n) (prepared_of film w h pic s m t n) z
      ∙ ap (λ i. unless i (λ k. prepare_leaves (refused k) m t n) (prepared_of film w h pic s m t n)) e

  -- no refusal
  pub ends_done : {r : ℕ} → r ≡ first (prepare_rows w h pic s (length m) (length t) (length n)) → r ≡ 0
      → prepared_of film w h pic s m t n ≡ prepare_of film w h pic s m t n
  unfolding prepare_of
  ends_done {r} e z = ap (λ i. unless i (λ k. prepare_leaves (refused k) m t n) (prepared_of film w h pic s m t n)) (sym z ∙ e)

  -- what it leaves then, from the mappings and the list's entries however they were made
  pub prepared_as_lem : {maps pairs : List ℕ} → maps ≡ mappings w h pic s → pairs ≡ spents w h pic s
      → ◌≡◌ {A = PrepareOut}
      record {
        answer = accepted (record_of film w h s, foot_of w h s);
        map = cond (clip_one_of s.clip) m (onto m maps);
        scratch = cond (clip_one_of s.clip) t (filled (λ k. 0) t (bins_of s));
        list = cond (clip_one_of s.clip) n (onto n pairs);
      }
      (prepared_of film w h pic s m t n)
  unfolding prepared_of
  prepared_as_lem e q = rw (e, q) refl

  -- at the factor 1.0 the buffers and the list stay
  pub ends_one : {r : ℕ} {kept : MapRecord} {foot : Footer} {o : Bool} → r ≡ first (prepare_rows w h pic s (length m) (length t) (length n)) → r ≡ 0
      → foot ≡ foot_of w h s → kept ≡ record_of film w h s → o ≡ clip_one_of s.clip → o ≡ true
      → prepare_leaves (accepted (kept, foot)) m t n ≡ prepare_of film w h pic s m t n
  unfolding prepared_of
  ends_one e z f k c y =
      let one : clip_one_of s.clip ≡ true = sym c ∙ y in
      rw (f, k, one) refl ∙ ends_done e z

  -- else the mappings and the list's entries are laid down and the scratch is zero
  pub ends_well : {r : ℕ} {kept : MapRecord} {foot : Footer} {o : Bool} {m' t' n' : List ℕ} → r ≡ first (prepare_rows w h pic s (length m) (length t) (length n)) → r ≡ 0
      → foot ≡ foot_of w h s → kept ≡ record_of film w h s → o ≡ clip_one_of s.clip → o ≡ false
      → TilesDone w h pic s m m' t t' n n'
      → prepare_leaves (accepted (kept, foot)) m' t' n' ≡ prepare_of film w h pic s m t n
  unfolding prepared_of
  ends_well e z f k c y done =
      let one : clip_one_of s.clip ≡ false = sym c ∙ y in
      rw (f, k, done.map, done.scratch, done.list, one) refl ∙ ends_done e z
