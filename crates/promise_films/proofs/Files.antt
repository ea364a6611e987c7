-- Read, greys and write by what their contracts cite: what each answer says and leaves, what write lays down read gives back, and the part that read hands back is the raster.
-- Assumes nothing.
use Prim.Native.Nat.{ℕ, zero, suc, ◌-◌, ◌*◌, ◌≤◌}
use mathlib.Core.List.{List, [], ◌++◌}
use mathlib.Core.Path.{◌≡◌, refl, sym, ap, ◌∙◌}
use native.Mathlib.Omega.{arith}
use lib.ListN.{length, take, drop, length-drop}
use Rattle.base_lists.specs.Lists.{onto}
use Rattle.base_lists.proofs.Fills.{take_onto}
use Rattle.base_rows.specs.Refuse.{first, accepted, refused, says}
use Rattle.base_rows.proofs.Walk.{front, behind}
use Rattle.pgm_header.specs.Header.{Head}
use Rattle.pgm_header.specs.Header.{header_bytes}
use Rattle.pgm_header.specs.Grammar.{Header, Hash}
use Rattle.pgm_header.proofs.Grammar.{header_complete, header_longer, header_sound}
use Rattle.pgm_header.proofs.Refusals.{hash_complete, other_exactly}
use Rattle.pgm_samples.specs.Samples.{is_wide, unpacked}
use Rattle.pgm_raster.specs.Raster.{raster_size_of, head_rows, raster_rows}
use Rattle.pgm_read.specs.Pgm.{judged_head, read_of, sizes_of, raster_of}
use Rattle.pgm_greys.specs.Greys.{turn_rows, GreysOut, greys_leave, turned_of}
use Rattle.pgm_write.specs.Write.{written_rows, write_rows, WriteReady, file_of, WriteOut, write_leaves, written_of, write_of}
use Rattle.pgm_raster.proofs.Tables.{limit_numbered}
use Rattle.pgm_read.proofs.Tables.{judged_limit, judged_raster, judged_found_lem, read_judged, read_refused, read_header}
use Rattle.pgm_read.proofs.Laws.{read_asks}
use Rattle.pgm_greys.proofs.Parts.{greys_refused, greys_done, turned_part}
use Rattle.pgm_write.proofs.Tables.{write_asks, asks_none}
use Rattle.pgm_write.proofs.Parts.{write_refused, write_done}
use Rattle.pgm_write.proofs.Laws.{written_read, written_sizes, written_greys}
use Rattle.promise_films.proofs.Accepted.{refused_says, ByTable, table_accepted, table_done, table_says}

-- ---- what read says

-- of a file with a header: the number of the first of the rows 22 to 25 that applies, and where none does the header's numbers
pub found_says : (s : List ℕ) {w h m : ℕ} {rest : List ℕ} → Header s w h m rest
    → (sizes_of (read_of s)) ≡ says (first (head_rows w h m ++ raster_rows w h m (length rest))) (w, h, m)
found_says s {w} {h} {m} {rest} g =
    go (first (head_rows w h m)) refl (first (raster_rows w h m (length s - (length s - length rest)))) refl
    ∙ ap (λ k. says (first (head_rows w h m ++ raster_rows w h m k)) (w, h, m)) (let l = header_longer g in omega arith)
  where
    at : ℕ
    at = length s - length rest

    read : {x : Head} → x ≡ judged_head (Head.Found w h m at) (length s) → (sizes_of (read_of s)) ≡ (sizes_of x)
    read e = ap (λ y. (sizes_of y)) (sym (read_judged s (header_complete g) e))

    go : (k : ℕ) → first (head_rows w h m) ≡ k → (j : ℕ) → first (raster_rows w h m (length s - at)) ≡ j
        → (sizes_of (read_of s)) ≡ says (first (head_rows w h m ++ raster_rows w h m (length s - at))) (w, h, m)
    go (suc k) p j q =
        read (judged_limit w h m at (length s) (sym p) (λ z. omega arith))
        ∙ sym (refused_says _ (w, h, m) (sym (front (head_rows w h m) (raster_rows w h m (length s - at)) (sym p) (λ z. omega arith))))
    go zero p (suc j) q =
        read (judged_raster w h m at (length s) (sym p) refl (sym q) (λ z. omega arith))
        ∙ sym (refused_says _ (w, h, m) (sym (behind (head_rows w h m) (raster_rows w h m (length s - at)) (limit_numbered w h m) (sym p) refl (sym q))))
    go zero p zero q =
        read (judged_found_lem w h m at (length s) (sym p) refl (sym q) refl)
        ∙ ap (λ n. says n (w, h, m)) (behind (head_rows w h m) (raster_rows w h m (length s - at)) (limit_numbered w h m) (sym p) refl (sym q))

-- of a file with a `#` instead of white space or a digit: 21
pub hash_says : (s : List ℕ) → Hash s → (sizes_of (read_of s)) ≡ refused 21
hash_says s g = ap (λ x. (sizes_of x)) (sym (read_refused s (hash_complete s g)))

-- of any other: 20
pub other_says : (s : List ℕ) → ((w h m : ℕ) (rest : List ℕ) → Header s w h m rest → ⊥) → (Hash s → ⊥) → (sizes_of (read_of s)) ≡ refused 20
other_says s header hash = ap (λ x. (sizes_of x)) (sym (read_refused s ((other_exactly s).1 (header, hash))))

-- ---- the part that read hands back

-- numbers that read says are those that it found, and somewhere behind them the raster starts
read_found : (x : Head) {w h m : ℕ} → (sizes_of x) ≡ accepted (w, h, m) → (at : ℕ) × (x ≡ Head.Found w h m at)
read_found (Head.Found a b d at) {w} {h} {m} e =
    let v : ◌≡◌ {A = ℕ × ℕ × ℕ} (a, b, d) (w, h, m) = cc in
    (at, rw (ap (λ (x : ℕ × ℕ × ℕ). x.0) v, ap (λ (x : ℕ × ℕ × ℕ). x.1) v, ap (λ (x : ℕ × ℕ × ℕ). x.2) v) refl)
read_found (Head.Refused k) e = absurd (let z : ◌≡◌ {A = ℕ} 0 1 = cc in omega arith)

-- "the raster handed back as that part of the caller's bytes": all that stands behind the header, as many bytes as the sizes and maxval ask
pub raster_behind : (s : List ℕ) {w h m : ℕ} → (sizes_of (read_of s)) ≡ accepted (w, h, m)
    → Header s w h m (raster_of (read_of s) s) × (length (raster_of (read_of s) s) ≡ raster_size_of w h m)
raster_behind s {w} {h} {m} q =
    let f = read_found (read_of s) q in
    let e : raster_of (read_of s) s ≡ drop f.0 s = ap (λ x. raster_of x s) f.1 in
    (rw e (header_sound s (read_header s f.1)).1, rw (e, length-drop) (omega (arith, (read_asks s f.1).exact)))

-- "A refusal hands back an empty part."
pub refused_part : (x : Head) (s : List ℕ) {n : ℕ} → (sizes_of x) ≡ refused n → raster_of x s ≡ []
refused_part (Head.Found w h m at) s e = absurd (let z : ◌≡◌ {A = ℕ} 0 1 = cc in omega arith)
refused_part (Head.Refused k) s e = refl

-- ---- greys

module _ (s : List ℕ) (start w h m : ℕ) (target : List ℕ) where
  -- greys go by the rows 22 to 27
  pub greys_table : ByTable (λ (x : GreysOut). x.answer) (first (turn_rows s start w h m (length target))) tt
      (greys_leave (accepted tt) (onto target (unpacked (is_wide m) (drop start s) (w * h)))) (λ k. greys_leave (refused k) target) (turned_of s start w h m target)
  greys_table =
      record {
        when_none = λ z. sym (greys_done s start w h m target refl z refl);
        when_some = λ z. sym (greys_refused s start w h m target refl z);
        says_done = refl;
        says_lent = λ k. refl;
      }

-- ---- write

module _ (pic : List ℕ) (w h m : ℕ) (file out : List ℕ) where
  -- write goes by its own, whatever its file's form
  pub write_table : ByTable (λ (x : WriteOut). x.answer) (first (written_rows pic w h m file (length out))) (length file)
      (write_leaves (accepted (length file)) (onto out file)) (λ k. write_leaves (refused k) out) (written_of pic w h m file out)
  write_table =
      record {
        when_none = λ z. sym (write_done pic w h m file out refl z refl refl);
        when_some = λ z. sym (write_refused pic w h m file out refl z);
        says_done = refl;
        says_lent = λ k. refl;
      }

  -- a film that write accepted
  module _ {n : ℕ} (written : (written_of pic w h m file out).answer ≡ accepted n) where
    -- meets none of them
    pub written_none : first (written_rows pic w h m file (length out)) ≡ 0
    written_none = (table_accepted write_table written).0

    -- the count is the file's
    pub written_count : length file ≡ n
    written_count = (table_accepted write_table written).1

    -- and the bytes that it counts are the file
    pub written_file : take n (written_of pic w h m file out).out ≡ file
    written_file = ap (λ (x : WriteOut). take n x.out) (table_done write_table written) ∙ take_onto out file n written_count

  -- a film is accepted in any output with room for its file
  pub film_written : WriteReady pic w h m → length file ≤ length out → ((written_of pic w h m file out).answer ≡ accepted (length file)) × ((written_of pic w h m file out).out ≡ onto out file)
  film_written film l =
      let none = asks_none pic w h m file (length out) (record { film = film; fitting = l }) in
      (table_says write_table ∙ ap (λ n. says n (length file)) none, ap (λ (x : WriteOut). x.out) (write_table.when_none none))

-- ---- a file that write made

module _ (pic : List ℕ) (w h m room : ℕ) (ok : first (write_rows pic w h m room) ≡ 0) where
  -- read says its width, height and maxval
  pub file_sizes : (sizes_of (read_of (file_of pic w h m))) ≡ accepted (w, h, m)
  file_sizes = (written_sizes pic w h m room ok)

  -- and its raster, the part alone or wherever it stands in other bytes, is turned into its greys
  pub file_greys : (bytes : List ℕ) (start : ℕ) (target : List ℕ) → drop start bytes ≡ raster_of (read_of (file_of pic w h m)) (file_of pic w h m) → w * h ≤ length target
      → ((turned_of bytes start w h m target).answer ≡ accepted tt) × ((turned_of bytes start w h m target).target ≡ onto target pic)
  file_greys bytes start target e l =
      let x =
      sym (turned_part bytes start w h m target)
      ∙ ap (λ x. turned_of x 0 w h m target) (e ∙ ap (λ x. raster_of x (file_of pic w h m)) (written_read pic w h m room ok))
      ∙ turned_part (file_of pic w h m) (length (header_bytes w h m)) w h m target
      ∙ written_greys pic w h m room ok target l in
      (ap (λ (y : GreysOut). y.answer) x, ap (λ (y : GreysOut). y.target) x)

  -- the same picture is accepted in any output with room for the file
  pub file_again : (out : List ℕ) → length (file_of pic w h m) ≤ length out
      → ((write_of pic w h m out).answer ≡ accepted (length (file_of pic w h m))) × ((write_of pic w h m out).out ≡ onto out (file_of pic w h m))
  file_again out l = film_written pic w h m (file_of pic w h m) out (write_asks pic w h m (file_of pic w h m) room ok).film l

  -- its picture has its size
  pub file_pixels : length pic ≡ w * h
  file_pixels = (write_asks pic w h m (file_of pic w h m) room ok).film.whole
