-- What an answer tells, in document 01's terms: a refusal which row of its table was met, and that all memory stayed; that all is done, that no row was.
-- Assumes nothing.
use Prim.Native.Nat.{ℕ, zero, suc, ◌<◌}
use mathlib.Core.List.{List}
use mathlib.Core.Path.{◌≡◌, refl, sym, ap, ◌∙◌}
use native.Mathlib.Omega.{arith}
use lib.ListN.{length}
use Rattle.base_rows.specs.Refuse.{first, Says, accepted, refused, says}
use Rattle.film_settings.specs.declared.Settings.{Settings}
use Rattle.film_settings.specs.declared.MapRecord.{MapRecord}
use Rattle.film_settings.specs.declared.Footer.{Footer}
use Rattle.film_settings.specs.declared.Window.{Window}
use Rattle.film_settings.specs.Settings.{record_of}
use Rattle.film_tiles.specs.Tiles.{foot_of, Work}
use Rattle.film_prepare.specs.Prepare.{enhance_rows, prepare_rows, PrepareOut, prepare_leaves, prepared_of, prepare_of, EnhanceOut, enhance_leaves, enhanced_of, enhance_of}
use Rattle.film_prepare.proofs.Table.{work, over_work}
use Rattle.film_prepare.proofs.Endings.{ends_refused, ends_done}
use Rattle.film_prepare.proofs.Renders.{over_refused, over_done}
use Rattle.film_draw.specs.Draw.{drawn_pixels, draw_rows, DrawOut, draw_leaves, draw_of}
use Rattle.film_draw.proofs.Works.{draw_ends_well, draw_ends_refused}

-- ---- any call

-- where it says that all is done, no row applies
pub says_accepted : {A : Type 0} (n : ℕ) (v : A) {u : A} → says n v ≡ accepted u → (n ≡ 0) × (v ≡ u)
says_accepted zero v e = (refl, cc)
says_accepted (suc n) v e = absurd (let z : ◌≡◌ {A = ℕ} 0 1 = cc in omega arith)

-- where it says a number, that row applies
pub says_refused : {A : Type 0} (n : ℕ) (v : A) {k : ℕ} → says n v ≡ refused k → n ≡ k
says_refused zero v e = absurd (let z : ◌≡◌ {A = ℕ} 0 1 = cc in omega arith)
says_refused (suc n) v e = cc

-- and the other way
pub refused_says : {A : Type 0} (n : ℕ) (v : A) {k : ℕ} → n ≡ suc k → says n v ≡ refused (suc k)
refused_says n v e = ap (λ x. says x v) e

-- a number that is not 0 is said
pub some_says : {A : Type 0} (n : ℕ) (v : A) → (n ≡ 0 → ⊥) → (0 < n) × (says n v ≡ refused n)
some_says zero v some = absurd (some refl)
some_says (suc n) v some = (omega arith, refl)

-- a call that ends with y, where n is the number of the first row of its table that applies: with `done`, which says v, where none does;
-- else with what was lent beside the number
pub record ByTable {Y A : Type 0} (said : Y → Says A) (n : ℕ) (v : A) (done : Y) (lent : ℕ → Y) (y : Y) : Type 0 where
  pub when_none : n ≡ 0 → y ≡ done
  pub when_some : (n ≡ 0 → ⊥) → y ≡ lent n
  pub says_done : said done ≡ accepted v
  pub says_lent : (k : ℕ) → said (lent k) ≡ refused k

module _ {Y A : Type 0} {said : Y → Says A} {n : ℕ} {v : A} {done : Y} {lent : ℕ → Y} {y : Y} (call : ByTable said n v done lent y) where
  -- it says the number of the first row that applies, and where none does its values
  pub table_says : said y ≡ says n v
  table_says = go n refl
    where
      go : (k : ℕ) → n ≡ k → said y ≡ says k v
      go zero e = ap said (call.when_none e) ∙ call.says_done
      go (suc k) e = ap said (call.when_some (λ z. omega arith)) ∙ (call.says_lent n ∙ ap refused e)

  -- that all is done: no row applies, and these are its values
  pub table_accepted : {u : A} → said y ≡ accepted u → (n ≡ 0) × (v ≡ u)
  table_accepted e = says_accepted n v (sym table_says ∙ e)

  -- so it ends as the rules say
  pub table_done : {u : A} → said y ≡ accepted u → y ≡ done
  table_done e = call.when_none (table_accepted e).0

  -- a refusal: that row applies
  pub table_refused : {k : ℕ} → said y ≡ refused k → n ≡ k
  table_refused e = says_refused n v (sym table_says ∙ e)

  -- and all memory stays as it was
  pub table_kept : {k : ℕ} → said y ≡ refused k → y ≡ lent k
  table_kept {k} e =
      call.when_some
      (λ z. let q : accepted v ≡ refused k = sym (ap said (call.when_none z) ∙ call.says_done) ∙ e in let o : ◌≡◌ {A = ℕ} 0 1 = cc in omega arith)
      ∙ ap lent (table_refused e)

-- a run that ended with z, where its contract has it end so
module _ {Y A : Type 0} {said : Y → Says A} {n : ℕ} {v : A} {done : Y} {lent : ℕ → Y} {y z : Y} (call : ByTable said n v done lent y) (ends : z ≡ y) where
  -- says the number of the first row that applies, and where none does the values
  pub ended_says : said z ≡ says n v
  ended_says = ap said ends ∙ table_says call

  -- after a refusal all memory is as it was
  pub ended_kept : {k : ℕ} → said z ≡ refused k → z ≡ lent k
  ended_kept q = ends ∙ table_kept call (sym (ap said ends) ∙ q)

  -- where all is done no row applies
  pub ended_none : {u : A} → said z ≡ accepted u → n ≡ 0
  ended_none q = (table_accepted call (sym (ap said ends) ∙ q)).0

  -- and it ended as the rules say
  pub ended_done : {u : A} → said z ≡ accepted u → z ≡ done
  ended_done q = ends ∙ table_done call (sym (ap said ends) ∙ q)

-- such a call, flattened to a number and what is lent: the number is 0 where no row applies, else the row's
module _ {Y A : Type 0} {said : Y → Says A} {n : ℕ} {v : A} {done : Y} {lent : ℕ → Y} {y : Y} (call : ByTable said n v done lent y) {Z : Type 0} (flat : Y → Z) (number : Z → ℕ)
    (none : number (flat done) ≡ 0) (numbered : (k : ℕ) → number (flat (lent k)) ≡ k) where
  -- so it is that of the first row that applies
  pub returned_number : number (flat y) ≡ n
  returned_number = go n refl
    where
      go : (k : ℕ) → n ≡ k → number (flat y) ≡ n
      go zero e = ap (λ x. number (flat x)) (call.when_none e) ∙ (none ∙ sym e)
      go (suc k) e = ap (λ x. number (flat x)) (call.when_some (λ z. omega arith)) ∙ numbered n

  -- and a number that is not 0 leaves what was lent
  pub returned_kept : {z : Z} → z ≡ flat y → 0 < number z → z ≡ flat (lent (number z))
  returned_kept {z} e l =
      let k : n ≡ number z = sym (ap number e ∙ returned_number) in
      e ∙ ap flat (call.when_some (λ o. omega arith) ∙ ap lent k)

-- ---- prepare

module _ (film w h : ℕ) (pic : List ℕ) (s : Settings) (m t n : List ℕ) where
  -- prepare goes by the rows 1 to 13, 31 and 32
  pub prepare_table : ByTable (λ (x : PrepareOut). x.answer) (first (prepare_rows w h pic s (length m) (length t) (length n)))
      (record_of film w h s, foot_of w h s) (prepared_of film w h pic s m t n) (λ k. prepare_leaves (refused k) m t n) (prepare_of film w h pic s m t n)
  unfolding prepared_of
  prepare_table =
      record {
        when_none = λ z. sym (ends_done film w h pic s m t n refl z);
        when_some = λ z. sym (ends_refused film w h pic s m t n refl z);
        says_done = refl;
        says_lent = λ k. refl;
      }

  module _ {r : MapRecord} {foot : Footer} (done : (prepare_of film w h pic s m t n).answer ≡ accepted (r, foot)) where
    -- an accepted film meets none of them
    pub prepare_accepts : first (prepare_rows w h pic s (length m) (length t) (length n)) ≡ 0
    prepare_accepts = (table_accepted prepare_table done).0

    -- what such a film's call knows
    pub prepare_work : Work w h pic s (length m) (length t)
    prepare_work = work w h pic s (length m) (length t) (length n) prepare_accepts

    -- it ends as the rules say
    pub prepare_done : prepare_of film w h pic s m t n ≡ prepared_of film w h pic s m t n
    prepare_done = table_done prepare_table done

    -- the record that is handed back
    pub prepare_record : record_of film w h s ≡ r
    prepare_record = ap (λ (x : MapRecord × Footer). x.0) (table_accepted prepare_table done).1

    -- and the footer
    pub prepare_foot : foot_of w h s ≡ foot
    prepare_foot = ap (λ (x : MapRecord × Footer). x.1) (table_accepted prepare_table done).1

-- ---- enhance

module _ (w h : ℕ) (pic : List ℕ) (s : Settings) (m t : List ℕ) where
  -- enhance goes by the same rows but 32
  pub enhance_table : ByTable (λ (x : EnhanceOut). x.answer) (first (enhance_rows w h pic s (length m) (length t)))
      (foot_of w h s) (enhanced_of w h pic s m t) (λ k. enhance_leaves (refused k) pic m t) (enhance_of w h pic s m t)
  unfolding enhanced_of
  enhance_table =
      record {
        when_none = λ z. sym (over_done w h pic s m t refl z);
        when_some = λ z. sym (over_refused w h pic s m t refl z);
        says_done = refl;
        says_lent = λ k. refl;
      }

  module _ {foot : Footer} (done : (enhance_of w h pic s m t).answer ≡ accepted foot) where
    -- what an accepted film's call knows
    pub enhance_work : Work w h pic s (length m) (length t)
    enhance_work = over_work w h pic s (length m) (length t) (table_accepted enhance_table done).0

    -- it ends as the rules say
    pub enhance_done : enhance_of w h pic s m t ≡ enhanced_of w h pic s m t
    enhance_done = table_done enhance_table done

    -- the footer that is handed back
    pub enhance_foot : foot_of w h s ≡ foot
    enhance_foot = (table_accepted enhance_table done).1

-- ---- draw

module _ (film w h : ℕ) (pic : List ℕ) (s : Settings) (r : MapRecord) (win : Window) (m out : List ℕ) where
  -- draw goes by its own
  pub draw_table : ByTable (λ (x : DrawOut). x.answer) (first (draw_rows film w h pic s r win m (length out))) tt
      (draw_leaves (accepted tt) (drawn_pixels w h pic s win m))
      (λ k. draw_leaves (refused k) out) (draw_of film w h pic s r win m out)
  draw_table =
      record {
        when_none = λ z. sym (draw_ends_well film w h pic s r win m out refl z refl);
        when_some = λ z. sym (draw_ends_refused film w h pic s r win m out refl z);
        says_done = refl;
        says_lent = λ k. refl;
      }
