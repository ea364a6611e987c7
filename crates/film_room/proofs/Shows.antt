-- Document 02, order 11: a room draw is draw with the film's own record and its set's entries, and so draws "as if it alone had been prepared".
-- Over the outcomes that the contracts of the room's draw and of draw cite.
-- Assumes nothing.
use Prim.Native.Nat.{ℕ, ◌+◌, ◌-◌, ◌≤◌, ◌<◌}
use mathlib.Core.Bool.{Bool, false, not}
use mathlib.Core.List.{List, ◌++◌, append_assoc}
use mathlib.Core.Path.{◌≡◌, refl, sym, ap, ap₂, ◌∙◌}
use native.Mathlib.Omega.{arith}
use lib.Dec.{eqb}
use lib.ListN.{length, take, drop, get_or, length-drop}
use lib.Seq.{length-take-le}
use Rattle.base_lists.specs.Lists.{all}
use Rattle.base_lists.proofs.Tabs.{get_or_tab}
use Rattle.base_rows.specs.Refuse.{Row, first, unless, numbers_of, Each, Says, accepted, refused}
use Rattle.base_rows.proofs.Walk.{front, behind, first_both, each_append, unless_refused}
use Rattle.film_settings.specs.declared.Settings.{Settings}
use Rattle.film_settings.specs.declared.MapRecord.{MapRecord}
use Rattle.film_settings.specs.declared.Window.{Window}
use Rattle.film_settings.specs.Settings.{entries_of, kept_of, record_of, clip_one_of, room_rows, setting_rows, shared_rows}
use Rattle.film_settings.proofs.Like.{setting_kept}
use Rattle.film_settings.proofs.Ready.{setting_numbers, setting_numbered, shared_numbered, shared_parts, fits_room, setting_tiled}
use Rattle.film_record.specs.Held.{record_rows, window_rows}
use Rattle.film_record.proofs.Tables.{window_numbers, record_numbered}
use Rattle.film_record.proofs.Laws.{own_record}
use Rattle.film_draw.specs.Draw.{pixel_rows, draw_rows, drawn_pixels, DrawOut, draw_leaves, draw_of}
use Rattle.film_draw.proofs.Tables.{pixel_numbers, draw_rows_lem}
use Rattle.film_draw.proofs.Like.{pixel_kept, pixels_kept, draw_room}
use Rattle.film_sets.specs.declared.Set.{Set}
use Rattle.film_sets.specs.declared.Room.{Room}
use Rattle.film_sets.specs.Sets.{no_set_of, held, span_of, before, set_of, part_of, fit_rows}
use Rattle.film_sets.proofs.Finds.{span_next, span_most}
use Rattle.film_sets.proofs.Tables.{fit_numbers, fit_numbered}
use Rattle.film_room.specs.Room.{stored_rows, set_rows, SetHeld, show_rows, show_of, drop_rows}
use Rattle.film_room.proofs.Drops.{stored_numbered, drop_numbered, Dropping, dropping}
use Rattle.film_room.proofs.Fifteen.{set_numbers, set_numbered, set_held, set_same, set_bins}

-- the parts of its table: what drop judges too, the settings, the set, and draw's own
show_parts : (room : Room) (film w h : ℕ) (pic : List ℕ) (s : Settings) (win : Window) (m : List ℕ) (size : ℕ)
    → show_rows room film w h pic s win m size
    ≡ drop_rows room film (length m)
    ++ (setting_rows w h (length pic) s ++ (set_rows w h s (set_of film (held room)) ++ (window_rows w h win size ++ pixel_rows w pic s win (part_of film (held room) m))))
unfolding show_rows drop_rows
show_parts room film w h pic s win m size = sym (append_assoc (fit_rows room (length m)) (stored_rows film room) _)

-- ---- a room draw is a draw

module _ (room : Room) (film w h : ℕ) (pic : List ℕ) (s : Settings) (win : Window) (m out : List ℕ)
    (fits : first (fit_rows room (length m)) ≡ 0) (there : first (stored_rows film room) ≡ 0) (own : first (setting_rows w h (length pic) s) ≡ 0)
    (same : first (set_rows w h s (set_of film (held room))) ≡ 0) (long : entries_of s ≤ length (part_of film (held room) m)) where
  abbrev part : List ℕ
  part = part_of film (held room) m

  abbrev rest : List Row
  rest = window_rows w h win (length out) ++ pixel_rows w pic s win part

  show_rows_lem : first (show_rows room film w h pic s win m (length out)) ≡ first rest
  unfolding show_rows
  show_rows_lem =
      sym (behind (fit_rows room (length m)) _ (fit_numbered room (length m)) (sym fits) refl
      (behind (stored_rows film room) _ (stored_numbered film room) (sym there) refl
      (behind (setting_rows w h (length pic) s) _ (setting_numbered w h (length pic) s) (sym own) refl
      (behind (set_rows w h s (set_of film (held room))) rest (set_numbered w h s (set_of film (held room))) (sym same) refl refl))))

  shared_free : first (shared_rows w h (length pic) s (length part)) ≡ 0
  shared_free =
      ap first (shared_parts w h (length pic) s (length part))
      ∙ sym (behind (setting_rows w h (length pic) s) (room_rows s (length part)) (setting_numbered w h (length pic) s) (sym own) refl (sym (fits_room s (length part) long)))

  draw_rows_so : first (draw_rows film w h pic s (record_of film w h s) win part (length out)) ≡ first rest
  draw_rows_so =
      ap first (draw_rows_lem film w h pic s (record_of film w h s) win part (length out))
      ∙ sym (behind (shared_rows w h (length pic) s (length part)) _ (shared_numbered w h (length pic) s (length part)) (sym shared_free) refl
      (behind (record_rows film w h s (record_of film w h s)) rest (record_numbered film w h s (record_of film w h s)) (sym (own_record film w h s (setting_tiled w h (length pic) s own).2)) refl refl))

  pub show_is_draw : show_of room film w h pic s win m out ≡ draw_of film w h pic s (record_of film w h s) win part out
  unfolding show_of draw_of
  show_is_draw =
      ap (λ n. unless n (λ k. draw_leaves (refused k) out) (draw_leaves (accepted tt) (drawn_pixels w h pic s win part))) (show_rows_lem ∙ sym draw_rows_so)

  -- "as if it alone had been prepared": any buffer that begins with the same entries, and at the factor 1.0 any that is long enough
  pub show_as_alone : (m₂ : List ℕ) → entries_of s ≤ length m₂ → (clip_one_of s.clip ≡ false → take (entries_of s) part ≡ take (entries_of s) m₂)
      → show_of room film w h pic s win m out ≡ draw_of film w h pic s (record_of film w h s) win m₂ out
  show_as_alone m₂ l e = show_is_draw ∙ draw_room film w h pic s (record_of film w h s) win part m₂ out long l e

-- ---- refused before the window is looked at

module _ (room : Room) (film w h : ℕ) (pic : List ℕ) (s : Settings) (win : Window) (m out : List ℕ) where
  abbrev shown : ℕ → DrawOut
  shown n = unless n (λ k. draw_leaves (refused k) out) (draw_leaves (accepted tt) (drawn_pixels w h pic s win (part_of film (held room) m)))

  abbrev behind_set : List Row
  behind_set = window_rows w h win (length out) ++ pixel_rows w pic s win (part_of film (held room) m)

  show_rows_so : first (show_rows room film w h pic s win m (length out))
      ≡ first (drop_rows room film (length m) ++ (setting_rows w h (length pic) s ++ (set_rows w h s (set_of film (held room)) ++ behind_set)))
  show_rows_so = ap first (show_parts room film w h pic s win m (length out))

  ends_no : {x : ℕ} → x ≡ first (show_rows room film w h pic s win m (length out)) → (x ≡ 0 → ⊥) → draw_leaves (refused x) out ≡ show_of room film w h pic s win m out
  unfolding show_of
  ends_no {x} e z = unless_refused x (λ k. draw_leaves (refused k) out) (draw_leaves (accepted tt) (drawn_pixels w h pic s win (part_of film (held room) m))) z ∙ ap shown e

  module _ {r : ℕ} (e : r ≡ first (drop_rows room film (length m))) where
    pub show_stored : (r ≡ 0 → ⊥) → draw_leaves (refused r) out ≡ show_of room film w h pic s win m out
    show_stored z = ends_no (front (drop_rows room film (length m)) _ e z ∙ sym show_rows_so) z

    module _ (z : r ≡ 0) {o : ℕ} (q : o ≡ first (setting_rows w h (length pic) s)) where
      pub show_own : (o ≡ 0 → ⊥) → draw_leaves (refused o) out ≡ show_of room film w h pic s win m out
      show_own y = ends_no (behind (drop_rows room film (length m)) _ (drop_numbered room film (length m)) e z (front (setting_rows w h (length pic) s) _ q y) ∙ sym show_rows_so) y

      pub show_set : o ≡ 0 → {x : ℕ} → x ≡ first (set_rows w h s (set_of film (held room))) → (x ≡ 0 → ⊥) → draw_leaves (refused x) out ≡ show_of room film w h pic s win m out
      show_set y {x} f u =
          ends_no (behind (drop_rows room film (length m)) _ (drop_numbered room film (length m)) e z (behind (setting_rows w h (length pic) s) _ (setting_numbered w h (length pic) s) q y (front (set_rows w h s (set_of film (held room))) behind_set f u)) ∙ sym show_rows_so) u

-- ---- the entries of a set that is there

module _ {room : Room} {film size : ℕ} (known : Dropping room film size) {i : ℕ} (p : i ≡ before film (held room)) where
  in_sets : i < room.count
  in_sets = omega (arith, p, known.here)

  -- the set at its place
  pub set_own : {t : Set} → t ≡ get_or room.sets i no_set_of → t ≡ set_of film (held room)
  unfolding held
  set_own g = g ∙ sym (get_or_tab room.count (λ k. get_or room.sets k no_set_of) i no_set_of in_sets) ∙ ap (λ k. get_or (held room) k no_set_of) p

  module _ {a b : ℕ} (at : a ≡ span_of (take i (held room))) (to : b ≡ span_of (take (i + 1) (held room))) where
    -- where they begin and end
    pub part_lies : (a ≤ b) × (b ≤ size)
    part_lies = (omega (arith, at, to, span_next room i in_sets refl), omega (arith, to, span_most (i + 1) (held room), known.fits))

    pub part_size : b - a ≡ entries_of (set_of film (held room)).settings
    part_size =
        let more = span_next room i in_sets refl in
        let n : b - a ≡ entries_of (get_or room.sets i no_set_of).settings = omega (arith, at, to, more) in
        n ∙ ap (λ (r : Set). entries_of r.settings) (set_own refl)

    pub part_own : (m : List ℕ) → take (b - a) (drop a m) ≡ part_of film (held room) m
    part_own m = ap₂ (λ n k. take n (drop k m)) part_size (at ∙ ap (λ k. span_of (take k (held room))) p)

-- ---- refused for the set, and drawn

module _ (room : Room) (film w h : ℕ) (pic : List ℕ) (s : Settings) (win : Window) (m out : List ℕ) {r : ℕ} (e : r ≡ first (drop_rows room film (length m))) (z : r ≡ 0)
    {o : ℕ} (q : o ≡ first (setting_rows w h (length pic) s)) (y : o ≡ 0) {i : ℕ} (p : i ≡ before film (held room)) {t : Set} (g : t ≡ get_or room.sets i no_set_of)
    {x : ℕ} (f : x ≡ first (set_rows w h s t)) where
  known : Dropping room film (length m)
  known = dropping room film (length m) e z

  judged : x ≡ first (set_rows w h s (set_of film (held room)))
  judged = f ∙ ap (λ k. first (set_rows w h s k)) (set_own known p g)

  pub show_differs : (x ≡ 0 → ⊥) → draw_leaves (refused x) out ≡ show_of room film w h pic s win m out
  show_differs u = show_set room film w h pic s win m out e z q y judged u

  module _ (u : x ≡ 0) {a b : ℕ} (at : a ≡ span_of (take i (held room))) (to : b ≡ span_of (take (i + 1) (held room))) where
    long : entries_of s ≤ length (part_of film (held room) m)
    long =
        let lies = part_lies known p at to in
        let size = part_size known p at to in
        let like = set_same w h s (set_of film (held room)) (sym judged ∙ u) in
        rw (← part_own known p at to m, like, ← size) (omega (arith, length-take-le (b - a) (drop a m) (omega (arith, length-drop a m, lies.0, lies.1))))

    pub show_done : {k : MapRecord} → k ≡ record_of film w h s → {answer : Says (Unit {0})} {out' : List ℕ}
        → draw_leaves answer out' ≡ draw_of film w h pic s k win (take (b - a) (drop a m)) out → draw_leaves answer out' ≡ show_of room film w h pic s win m out
    unfolding drop_rows
    show_done {k} made drew =
        let both = first_both (fit_rows room (length m)) (stored_rows film room) (fit_numbered room (length m)) (sym e ∙ z) in
        drew
        ∙ ap₂ (λ k d. draw_of film w h pic s k win d out) made (part_own known p at to m)
        ∙ sym (show_is_draw room film w h pic s win m out both.0 both.1 (sym q ∙ y) (sym judged ∙ u) long)

-- ---- "Bins B: 2 to 4096. 0 means 128."

-- for every input: a room draw answers and leaves the same
pub show_kept : (room : Room) (film w h : ℕ) (pic : List ℕ) (s : Settings) (win : Window) (m out : List ℕ)
    → show_of room film w h pic (kept_of s) win m out ≡ show_of room film w h pic s win m out
unfolding show_of show_rows
show_kept room film w h pic s win m out =
    rw (
      setting_kept w h (length pic) s,
      set_bins w h s (set_of film (held room)),
      pixel_kept w pic s win (part_of film (held room) m),
      pixels_kept w h pic s win (part_of film (held room) m),
    )
    refl

-- ---- what an accepted room draw knows, and the entries that it looks at

-- "a room draw gives no 11": none of its rows has it
pub show_none_11 : (room : Room) (film w h : ℕ) (pic : List ℕ) (s : Settings) (win : Window) (m : List ℕ) (size : ℕ)
    → Each (λ k. not (eqb k 11)) (show_rows room film w h pic s win m size)
unfolding show_rows stored_rows all numbers_of
show_none_11 room film w h pic s win m size =
    each_append other (fit_rows room (length m)) (stored_rows film room ++ (setting_rows w h (length pic) s ++ (set_rows w h s own ++ last))) (rw (fit_numbers room (length m)) refl)
    (each_append other (stored_rows film room) (setting_rows w h (length pic) s ++ (set_rows w h s own ++ last)) refl
    (each_append other (setting_rows w h (length pic) s) (set_rows w h s own ++ last) (rw (setting_numbers w h (length pic) s) refl)
    (each_append other (set_rows w h s own) last (rw (set_numbers w h s own) refl)
    (each_append other (window_rows w h win size) (pixel_rows w pic s win (part_of film (held room) m)) (rw (window_numbers w h win size) refl)
    (rw (pixel_numbers w pic s win (part_of film (held room) m)) refl)))))
  where
    other : ℕ → Bool
    other k = not (eqb k 11)

    own : Set
    own = set_of film (held room)

    last : List Row
    last = window_rows w h win size ++ pixel_rows w pic s win (part_of film (held room) m)

-- no row applies: the film is among the sets, and its set was made for this size and these settings
pub show_known : (room : Room) (film w h : ℕ) (pic : List ℕ) (s : Settings) (win : Window) (m : List ℕ) (size : ℕ) → first (show_rows room film w h pic s win m size) ≡ 0
    → Dropping room film (length m) × SetHeld w h s (set_of film (held room))
show_known room film w h pic s win m size e =
    let a = first_both (drop_rows room film (length m)) _ (drop_numbered room film (length m)) (sym (ap first (show_parts room film w h pic s win m size)) ∙ e) in
    let b = first_both (setting_rows w h (length pic) s) _ (setting_numbered w h (length pic) s) a.1 in
    let c = first_both (set_rows w h s (set_of film (held room))) _ (set_numbered w h s (set_of film (held room))) b.1 in
    (dropping room film (length m) refl a.0, set_held w h s (set_of film (held room)) c.0)

-- of the buffer it looks at its length and at the set's entries alone
pub show_part : (room : Room) (film w h : ℕ) (pic : List ℕ) (s : Settings) (win : Window) (m m' out : List ℕ) → length m ≡ length m'
    → part_of film (held room) m ≡ part_of film (held room) m' → show_of room film w h pic s win m out ≡ show_of room film w h pic s win m' out
unfolding show_of show_rows
show_part room film w h pic s win m m' out l e =
    ap₂ (λ n p. unless (first (fit_rows room n
    ++ (stored_rows film room ++ (setting_rows w h (length pic) s ++ (set_rows w h s (set_of film (held room)) ++ (window_rows w h win (length out) ++ pixel_rows w pic s win p))))))
    (λ k. draw_leaves (refused k) out) (draw_leaves (accepted tt) (drawn_pixels w h pic s win p))) l e
