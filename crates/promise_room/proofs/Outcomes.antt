-- Store, draw and drop by their tables, of any room record and buffer: what an answer tells, and what a store and a drop that are done leave.
-- A name with ' is lent memory, or the room record, at the end.
-- Assumes nothing.
use Prim.Native.Nat.{ℕ, ◌+◌}
use mathlib.Core.Bool.{Bool, true, false, cond}
use mathlib.Core.List.{List, ◌++◌}
use mathlib.Core.Path.{◌≡◌, refl, sym, ap, ◌∙◌}
use lib.ListN.{length, take, drop}
use lib.Seq.{drop_at, drop-drop}
use Rattle.base_lists.specs.Lists.{onto}
use Rattle.base_lists.proofs.Fills.{drop_onto}
use Rattle.base_rows.specs.Refuse.{first, unless, refused, accepted, Says}
use Rattle.base_rows.proofs.Walk.{unless_refused}
use Rattle.film_settings.specs.declared.Settings.{Settings}
use Rattle.film_settings.specs.declared.Window.{Window}
use Rattle.film_settings.specs.declared.Footer.{Footer}
use Rattle.film_settings.specs.Settings.{entries_of, clip_one_of}
use Rattle.film_tiles.specs.Tiles.{foot_of, mappings}
use Rattle.film_tiles.proofs.Films.{length_mappings}
use Rattle.film_prepare.specs.Prepare.{prepared_of}
use Rattle.film_draw.specs.Draw.{drawn_pixels, DrawOut, draw_leaves}
use Rattle.film_sets.specs.declared.Room.{Room}
use Rattle.film_sets.specs.Sets.{set_for_of, held, span_of, before, start_of, part_of, with_set_of, without_set_of, moved_down}
use Rattle.film_room.specs.Room.{store_rows, StoreOut, store_leaves, stored_of, store_of, show_rows, show_of, drop_rows, DropOut, drop_leaves, dropped_of, drop_of}
use Rattle.film_room.proofs.Drops.{Dropping, dropping}
use Rattle.film_room.proofs.Stores.{Entering, storing}
use Rattle.film_room.proofs.Shows.{show_stored}
use Rattle.promise_films.proofs.Accepted.{ByTable, ended_done, ended_none}
use Rattle.promise_room.proofs.Runs.{StoreCall, Stores, store_ends, ShowCall, RoomDraws, show_ends, DropCall, Drops, drop_ends}

-- ---- by their tables

-- store: "40, 35, 36 .., in this order, stand before the film's own checks, 37 in 11's place"
pub store_table : (room : Room) (film w h : ℕ) (pic : List ℕ) (s : Settings) (m t ls : List ℕ)
    → ByTable (λ (x : StoreOut). x.answer) (first (store_rows room film w h pic s (length m) (length t) (length ls))) (foot_of w h s) (stored_of room film w h pic s m t ls)
    (λ k. store_leaves (refused k) room m t ls) (store_of room film w h pic s m t ls)
unfolding store_of stored_of
store_table room film w h pic s m t ls =
    record {
      when_none = λ z. ap (λ n. unless n (λ k. store_leaves (refused k) room m t ls) (stored_of room film w h pic s m t ls)) z;
      when_some = λ z. sym (unless_refused (first (store_rows room film w h pic s (length m) (length t) (length ls))) (λ k. store_leaves (refused k) room m t ls) (stored_of room film w h pic s m t ls) z);
      says_done = refl;
      says_lent = λ k. refl;
    }

-- draw: "40 .. and 38, in this order, stand before the film's own checks"
pub show_table : (room : Room) (film w h : ℕ) (pic : List ℕ) (s : Settings) (win : Window) (m out : List ℕ)
    → ByTable (λ (x : DrawOut). x.answer) (first (show_rows room film w h pic s win m (length out))) tt
    (draw_leaves (accepted tt) (drawn_pixels w h pic s win (part_of film (held room) m))) (λ k. draw_leaves (refused k) out) (show_of room film w h pic s win m out)
unfolding show_of
show_table room film w h pic s win m out =
    record {
      when_none = λ z. ap (λ n. unless n (λ k. draw_leaves (refused k) out) (draw_leaves (accepted tt) (drawn_pixels w h pic s win (part_of film (held room) m)))) z;
      when_some = λ z. sym (unless_refused (first (show_rows room film w h pic s win m (length out))) (λ k. draw_leaves (refused k) out) (draw_leaves (accepted tt) (drawn_pixels w h pic s win (part_of film (held room) m))) z);
      says_done = refl;
      says_lent = λ k. refl;
    }

-- drop: 40 and 38
pub drop_table : (room : Room) (film : ℕ) (m : List ℕ)
    → ByTable (λ (x : DropOut). x.answer) (first (drop_rows room film (length m))) tt (dropped_of room film m)
    (λ k. drop_leaves (refused k) room m) (drop_of room film m)
unfolding drop_of dropped_of
drop_table room film m =
    record {
      when_none = λ z. ap (λ n. unless n (λ k. drop_leaves (refused k) room m) (dropped_of room film m)) z;
      when_some = λ z. sym (unless_refused (first (drop_rows room film (length m))) (λ k. drop_leaves (refused k) room m) (dropped_of room film m) z);
      says_done = refl;
      says_lent = λ k. refl;
    }

-- ---- equal outcomes, part by part

pub store_parts : {a b : Says Footer} {r q : Room} {m n t u l k : List ℕ} → store_leaves a r m t l ≡ store_leaves b q n u k → (a ≡ b) × (r ≡ q) × (m ≡ n) × (t ≡ u) × (l ≡ k)
store_parts e = (ap (λ (z : StoreOut). z.answer) e, ap (λ (z : StoreOut). z.room) e, ap (λ (z : StoreOut). z.map) e, ap (λ (z : StoreOut). z.scratch) e, ap (λ (z : StoreOut). z.list) e)

-- the room and the lent memory alone
pub store_memory : {a b : Says Footer} {r q : Room} {m n t u l k : List ℕ} → store_leaves a r m t l ≡ store_leaves b q n u k → (r ≡ q) × (m ≡ n) × (t ≡ u) × (l ≡ k)
store_memory e = (ap (λ (z : StoreOut). z.room) e, ap (λ (z : StoreOut). z.map) e, ap (λ (z : StoreOut). z.scratch) e, ap (λ (z : StoreOut). z.list) e)

pub drop_parts : {a b : Says (Unit {0})} {r q : Room} {m n : List ℕ} → drop_leaves a r m ≡ drop_leaves b q n → (a ≡ b) × (r ≡ q) × (m ≡ n)
drop_parts e = (ap (λ (z : DropOut). z.answer) e, ap (λ (z : DropOut). z.room) e, ap (λ (z : DropOut). z.map) e)

pub drop_memory : {a b : Says (Unit {0})} {r q : Room} {m n : List ℕ} → drop_leaves a r m ≡ drop_leaves b q n → (r ≡ q) × (m ≡ n)
drop_memory e = (ap (λ (z : DropOut). z.room) e, ap (λ (z : DropOut). z.map) e)

-- ---- a draw that meets 40 or 38

pub show_told : {c : ShowCall} → RoomDraws c → {n : ℕ} → n ≡ first (drop_rows c.room c.film (length c.map)) → (n ≡ 0 → ⊥) → (c.answer ≡ refused n) × (c.out' ≡ c.out)
show_told {c} ran {n} e z =
    let q = show_ends ran ∙ sym (show_stored c.room c.film c.width c.height c.pixels c.settings c.window c.map c.out e z) in
    (ap (λ (y : DrawOut). y.answer) q, ap (λ (y : DrawOut). y.out) q)

-- ---- what a store and a drop that are done leave

-- the sets' entries fit into the buffer
pub store_enters : {c : StoreCall} {foot : Footer} → Stores c → c.answer ≡ accepted foot → Entering c.room c.film (length c.map)
store_enters {c} ran done =
    (storing c.room c.film c.width c.height c.pixels c.settings (length c.map) (length c.scratch) (length c.list)
    (ended_none (store_table _ _ _ _ _ _ _ _ _) (store_ends ran) done)
    ).enters

-- the buffer that a store leaves
pub stored_map : {c : StoreCall} {foot : Footer} → Stores c → c.answer ≡ accepted foot
    → c.map' ≡ take (span_of (held c.room)) c.map
    ++ cond (clip_one_of c.settings.clip) (drop (span_of (held c.room)) c.map) (onto (drop (span_of (held c.room)) c.map) (mappings c.width c.height c.pixels c.settings))
unfolding stored_of prepared_of
stored_map ran done = ap (λ (y : StoreOut). y.map) (ended_done (store_table _ _ _ _ _ _ _ _ _) (store_ends ran) done)

-- behind a film's entries, wherever they begin, a buffer that it was laid down in is as it was
pub laid_behind : (w h : ℕ) (pic : List ℕ) (s : Settings) (m : List ℕ) (a : ℕ) → length (take a m) ≡ a
    → drop (a + entries_of s) (take a m ++ cond (clip_one_of s.clip) (drop a m) (onto (drop a m) (mappings w h pic s))) ≡ drop (a + entries_of s) m
laid_behind w h pic s m a at =
    sym (drop-drop (entries_of s) a (take a m ++ maps)) ∙ ap (drop (entries_of s)) (drop_at (take a m) maps a at) ∙ go (clip_one_of s.clip) ∙ drop-drop (entries_of s) a m
  where
    maps : List ℕ
    maps = cond (clip_one_of s.clip) (drop a m) (onto (drop a m) (mappings w h pic s))

    go : (b : Bool) → drop (entries_of s) (cond b (drop a m) (onto (drop a m) (mappings w h pic s))) ≡ drop (entries_of s) (drop a m)
    go true = refl
    go false = drop_onto (drop a m) (mappings w h pic s) (entries_of s) (length_mappings w h pic s)

-- what a drop that is done knows
pub drop_known : {c : DropCall} → Drops c → c.answer ≡ accepted tt → Dropping c.room c.film (length c.map)
drop_known {c} ran done = dropping c.room c.film (length c.map) refl (ended_none (drop_table _ _ _) (drop_ends ran) done)

-- the record and the buffer that a store, and a drop, leave
pub stored_room : {c : StoreCall} {foot : Footer} → Stores c → c.answer ≡ accepted foot → c.room' ≡ with_set_of c.room (set_for_of c.film c.width c.height c.settings)
unfolding stored_of prepared_of
stored_room ran done = ap (λ (y : StoreOut). y.room) (ended_done (store_table _ _ _ _ _ _ _ _ _) (store_ends ran) done)

pub dropped_room : {c : DropCall} → Drops c → c.answer ≡ accepted tt → c.room' ≡ without_set_of c.room (before c.film (held c.room))
unfolding dropped_of
dropped_room ran done = ap (λ (y : DropOut). y.room) (ended_done (drop_table _ _ _) (drop_ends ran) done)

pub dropped_map : {c : DropCall} → Drops c → c.answer ≡ accepted tt
    → c.map' ≡ moved_down c.map (start_of c.film (held c.room)) (span_of (take (before c.film (held c.room) + 1) (held c.room))) (span_of (held c.room))
unfolding dropped_of
dropped_map ran done = ap (λ (y : DropOut). y.map) (ended_done (drop_table _ _ _) (drop_ends ran) done)
