-- Document 02, order 11, one room for many films: what store, draw and drop say and keep, of any room record and buffer; and, "After any sequence of stores, draws and drops from an empty room whose buffer nobody else writes and
-- whose record is handed on as last returned", "each film stored and not dropped, its pixels unchanged since, draws as if it alone had been prepared." Demand 2 and order 10 of such a draw.
-- Promises alone: of every run of the calls by their contracts (Runs), each listed in docs/PROMISES.md. A name with ' is lent memory at the end.
-- Assumes nothing.
use Prim.Native.Nat.{ℕ, ◌+◌, ◌-◌, ◌<◌, ◌*◌, ◌≤◌}
use mathlib.Core.Bool.{true, false, cond}
use mathlib.Core.List.{List, ◌++◌, map, []}
use mathlib.Core.Logic.{◌≢◌}
use mathlib.Core.Path.{◌≡◌, refl, sym, ap, ◌∙◌}
use native.Mathlib.Omega.{arith}
use lib.ListN.{length, take, drop, length-map, take-append-drop, get_or}
use lib.Seq.{take_at, drop_at, length-take-le}
use Rattle.base_lists.specs.Lists.{onto}
use Rattle.base_lists.proofs.Fills.{take_onto}
use Rattle.base_rows.specs.Refuse.{first, refused, accepted, says}
use Rattle.base_rows.proofs.Walk.{first_never}
use Rattle.base_rows.proofs.Told.{told_same}
use Rattle.film_settings.specs.declared.Footer.{Footer}
use Rattle.film_settings.specs.Settings.{entries_of, clip_one_of, bins_of, Tiled}
use Rattle.film_tiles.specs.Tiles.{foot_of, mappings}
use Rattle.film_tiles.proofs.Films.{length_mappings}
use Rattle.film_prepare.specs.Prepare.{prepare_rows}
use Rattle.film_sets.specs.declared.Room.{Room}
use Rattle.film_sets.specs.Sets.{set_for_of, held, span_of, among, before, set_of, start_of, part_of, fit_rows, with_set_of, without_set_of, moved_down, set_size, no_set_of, empty_room}
use Rattle.film_sets.proofs.Moves.{down_front, down_here, down_rest}
use Rattle.film_sets.proofs.Holds.{number_own, length_held, held_more, held_less, span_less}
use Rattle.film_sets.proofs.Finds.{span_whole, span_append}
use Rattle.film_room.specs.Room.{store_rows, store_of, SetHeld, show_rows, show_of, drop_rows, drop_of}
use Rattle.film_room.proofs.Drops.{dropping_among, drop_38, drop_40, drop_moves}
use Rattle.film_room.proofs.Stores.{store_40, store_free}
use Rattle.film_room.proofs.Shows.{show_none_11, show_known, show_part, show_kept}
use Rattle.promise_films.proofs.Accepted.{says_refused, ended_none, ended_kept, ended_says}
use Rattle.promise_room.proofs.Runs.{StoreCall, Stores, store_arguments, store_ends, ShowCall, RoomDraws, show_arguments, show_rest, show_ends, DropCall, Drops, drop_arguments, drop_ends}
use Rattle.film_settings.proofs.Like.{bins_kept}
use Rattle.film_sets.proofs.Laid.{less}
use Rattle.promise_room.specs.Films.{StoredFilm, film_set}
use Rattle.promise_room.proofs.Kept.{film_spans, span_films, Kept}
use Rattle.promise_room.proofs.Histories.{begin, History, history_kept}
use Rattle.promise_room.proofs.Outcomes.{store_table, drop_table, show_table, store_parts, store_memory, drop_parts, drop_memory, show_told, store_enters, stored_map, laid_behind, drop_known, stored_room, dropped_room, dropped_map}
use Rattle.base_lists.proofs.Tabs.{length_tab}
use Rattle.promise_films.proofs.Runs.{PrepareCall, DrawCall, EnhanceCall, Enhances, enhance_ends}
use Rattle.pixel_rule.specs.Rule.{rule_grey, shown_grey}
use Rattle.promise_room.proofs.Alone.{Among, OfFilm, of_film, never_40, Alone, alone_shows}
use Rattle.promise_reach.proofs.Rendered.{Film, Rendered}
use Rattle.pixel_rule.specs.Reach.{DifferIn, BeyondTile}
use Rattle.pixel_rule.proofs.Stays.{beyond_tile}
use Rattle.promise_reach.proofs.Order10.{rendered_seen}
use Rattle.promise_reach.proofs.Reach.{Twins, Two, tile_in_lem, seen_local, seen_stays}
use Rattle.promise_room.proofs.Rules.{DrawnFromRoom, room_grey, room_made, room_shown, room_handed, picture_of, room_seen}
use Rattle.promise_films.proofs.Alike.{draw_both, same_ends}
use Rattle.promise_films.proofs.Made.{handed_done, made_tiled, shown_as_enhanced, shown_as_film, shown_by_rule, shown_inside}

-- ---- what is said

-- store says the footer, or the number of the first row that applies
pub store_says : {c : StoreCall} → Stores c
    → c.answer ≡ says (first (store_rows c.room c.film c.width c.height c.pixels c.settings (length c.map) (length c.scratch) (length c.list))) (foot_of c.width c.height c.settings)
store_says ran = ended_says (store_table _ _ _ _ _ _ _ _ _) (store_ends ran)

-- a draw from the room says that all is done, or the number
pub show_says : {c : ShowCall} → RoomDraws c
    → c.answer ≡ says (first (show_rows c.room c.film c.width c.height c.pixels c.settings c.window c.map (length c.out))) tt
show_says ran = ended_says (show_table _ _ _ _ _ _ _ _ _) (show_ends ran)

-- and so does a drop
pub drop_says : {c : DropCall} → Drops c → c.answer ≡ says (first (drop_rows c.room c.film (length c.map))) tt
drop_says ran = ended_says (drop_table _ _ _) (drop_ends ran)

-- ---- a refusal keeps all that was lent, and the room

-- after a refusal of store the room and all lent memory are as they were
pub store_refusal_keeps : {c : StoreCall} (n : ℕ) → Stores c → c.answer ≡ refused n → (c.room' ≡ c.room) × (c.map' ≡ c.map) × (c.scratch' ≡ c.scratch) × (c.list' ≡ c.list)
store_refusal_keeps n ran q = store_memory (ended_kept (store_table _ _ _ _ _ _ _ _ _) (store_ends ran) q)

-- the output of a draw
pub show_refusal_keeps : {c : ShowCall} (n : ℕ) → RoomDraws c → c.answer ≡ refused n → c.out' ≡ c.out
show_refusal_keeps n ran q = (draw_both (ended_kept (show_table _ _ _ _ _ _ _ _ _) (show_ends ran) q)).1

-- the room and the buffer of a drop
pub drop_refusal_keeps : {c : DropCall} (n : ℕ) → Drops c → c.answer ≡ refused n → (c.room' ≡ c.room) × (c.map' ≡ c.map)
drop_refusal_keeps n ran q = drop_memory (ended_kept (drop_table _ _ _) (drop_ends ran) q)

-- ---- any two outcomes are equal. `run.answer` is what the call itself answers, and `answer` what that says

-- store: one answer, one room and one of each lent buffer
pub store_determined : {c d : StoreCall} (x : Stores c) (y : Stores d) → store_arguments c ≡ store_arguments d
    → (x.run.answer ≡ y.run.answer) × (c.answer ≡ d.answer) × (c.room' ≡ d.room') × (c.map' ≡ d.map') × (c.scratch' ≡ d.scratch') × (c.list' ≡ d.list')
store_determined x y same =
    let e = store_parts (same_ends (λ g. store_of g.0 g.1 g.2 g.3 g.4 g.5 g.6 g.7 g.8) (store_ends x) (store_ends y) same) in
    (told_same (ap (λ (z : StoreCall). z.answer) x.named) (ap (λ (z : StoreCall). z.answer) y.named) e.0, e.0, e.1, e.2, e.3, e.4)

-- draw: one answer and one output
pub show_determined : {c d : ShowCall} (x : RoomDraws c) (y : RoomDraws d) → show_arguments c ≡ show_arguments d
    → (x.run.answer ≡ y.run.answer) × (c.answer ≡ d.answer) × (c.out' ≡ d.out')
show_determined x y same =
    let e = draw_both (same_ends (λ g. show_of g.0 g.1 g.2 g.3 g.4 g.5 g.6 g.7 g.8) (show_ends x) (show_ends y) same) in
    (told_same (ap (λ (z : ShowCall). z.answer) x.named) (ap (λ (z : ShowCall). z.answer) y.named) e.0, e.0, e.1)

-- drop: one answer, one room and one buffer
pub drop_determined : {c d : DropCall} (x : Drops c) (y : Drops d) → drop_arguments c ≡ drop_arguments d
    → (x.run.answer ≡ y.run.answer) × (c.answer ≡ d.answer) × (c.room' ≡ d.room') × (c.map' ≡ d.map')
drop_determined x y same =
    let e = drop_parts (same_ends (λ g. drop_of g.0 g.1 g.2) (drop_ends x) (drop_ends y) same) in
    (told_same (ap (λ (z : DropCall). z.answer) x.named) (ap (λ (z : DropCall). z.answer) y.named) e.0, e.0, e.1, e.2)

-- ---- of any record: which set a draw is drawn from, 40, 38 and no 11

-- a draw that is done: among the sets held is one of this number, with these sizes and settings
pub room_number : {c : ShowCall} → RoomDraws c → c.answer ≡ accepted tt
    → (before c.film (held c.room) < c.room.count) × ((set_of c.film (held c.room)).film ≡ c.film)
    × SetHeld c.width c.height c.settings (set_of c.film (held c.room))
room_number {c} ran done =
    let none = ended_none (show_table _ _ _ _ _ _ _ _ _) (show_ends ran) done in
    let known = show_known c.room c.film c.width c.height c.pixels c.settings c.window c.map (length c.out) none in
    (known.0.here, number_own c.film (held c.room) (dropping_among known.0), known.1)

-- so no other film's mappings can show: with two buffers of one length that agree on the entries of the set of this number, a draw answers and leaves the same
pub room_own_entries : {c d : ShowCall} (x : RoomDraws c) (y : RoomDraws d)
    → show_rest c ≡ show_rest d → length c.map ≡ length d.map → part_of c.film (held c.room) c.map ≡ part_of c.film (held c.room) d.map
    → (x.run.answer ≡ y.run.answer) × (c.answer ≡ d.answer) × (c.out' ≡ d.out')
room_own_entries {c} {d} x y same long part =
    let e =
    draw_both
    (show_ends x
    ∙ show_part c.room c.film c.width c.height c.pixels c.settings c.window c.map d.map c.out long part
    ∙ ap (λ g. show_of g.0 g.1 g.2 g.3 g.4 g.5 g.6 d.map g.7) same
    ∙ sym (show_ends y)) in
    (told_same (ap (λ (z : ShowCall). z.answer) x.named) (ap (λ (z : ShowCall). z.answer) y.named) e.0, e.0, e.1)

module _ {c : ShowCall} (ran : RoomDraws c) where
  -- a draw of a number that is not stored is refused with 38, whatever else is handed to it
  pub room_not_stored : first (fit_rows c.room (length c.map)) ≡ 0 → among c.film (held c.room) ≡ false → (c.answer ≡ refused 38) × (c.out' ≡ c.out)
  room_not_stored fits none = show_told ran (drop_38 c.room c.film (length c.map) fits none) (λ q. omega (arith, q))

  -- and with 40 "a room record with over eight sets, a number twice, or sets that end to end exceed the buffer"
  pub room_wild : first (fit_rows c.room (length c.map)) ≢ 0 → (c.answer ≡ refused 40) × (c.out' ≡ c.out)
  room_wild z = show_told ran (drop_40 c.room c.film (length c.map) z) (λ q. omega (arith, q))

-- so is a drop of a number that is not stored
pub drop_not_stored : {c : DropCall} → Drops c → first (fit_rows c.room (length c.map)) ≡ 0 → among c.film (held c.room) ≡ false → c.answer ≡ refused 38
drop_not_stored {c} ran fits none = drop_says ran ∙ ap (λ n. says n tt) (sym (drop_38 c.room c.film (length c.map) fits none))

-- a wild record meets 40 in a drop too
pub drop_wild : {c : DropCall} → Drops c → first (fit_rows c.room (length c.map)) ≢ 0 → c.answer ≡ refused 40
drop_wild {c} ran z = drop_says ran ∙ ap (λ n. says n tt) (sym (drop_40 c.room c.film (length c.map) z))

-- and in a store
pub store_wild : {c : StoreCall} → Stores c → first (fit_rows c.room (length c.map)) ≢ 0 → c.answer ≡ refused 40
store_wild {c} ran z =
    store_says ran
    ∙ ap (λ n. says n (foot_of c.width c.height c.settings))
    (sym (store_40 c.room c.film c.width c.height c.pixels c.settings (length c.map) (length c.scratch) (length c.list) z))

-- "a room draw gives no 11"
pub show_never_11 : {c : ShowCall} → RoomDraws c → c.answer ≢ refused 11
show_never_11 {c} ran q =
    first_never 11 (show_rows c.room c.film c.width c.height c.pixels c.settings c.window c.map (length c.out)) refl
    (show_none_11 c.room c.film c.width c.height c.pixels c.settings c.window c.map (length c.out))
    (says_refused _ _ (sym (show_says ran) ∙ q))

-- ---- of any record: which entries stay, and which are taken

-- a store that is done puts the film's set behind the last in the record; the entries before the set's and those behind it stay as they were
pub store_leaves_lem : {c : StoreCall} {foot : Footer} → Stores c → c.answer ≡ accepted foot
    → (c.room' ≡ with_set_of c.room (set_for_of c.film c.width c.height c.settings))
    × (take (span_of (held c.room)) c.map' ≡ take (span_of (held c.room)) c.map)
    × (drop (span_of (held c.room) + entries_of c.settings) c.map' ≡ drop (span_of (held c.room) + entries_of c.settings) c.map)
store_leaves_lem {c} ran done =
    let e = stored_map ran done in
    let at = length-take-le (span_of (held c.room)) c.map (store_enters ran done).fits in
    (stored_room ran done, ap (take (span_of (held c.room))) e ∙ take_at (take (span_of (held c.room)) c.map) _ (span_of (held c.room)) at, ap (drop (span_of (held c.room) + entries_of c.settings)) e ∙ laid_behind c.width c.height c.pixels c.settings c.map (span_of (held c.room)) at)

-- a drop that is done takes the set out of the record. The entries before the set's stay; those of the later sets move down to where it began; and "entries behind the last set
-- after a drop keep what they held"
pub drop_leaves_lem : {c : DropCall} → Drops c → c.answer ≡ accepted tt → (a b e : ℕ) → a ≡ start_of c.film (held c.room)
    → b ≡ span_of (take (before c.film (held c.room) + 1) (held c.room)) → e ≡ span_of (held c.room)
    → (c.room' ≡ without_set_of c.room (before c.film (held c.room)))
    × (take a c.map' ≡ take a c.map)
    × (take (e - b) (drop a c.map') ≡ take (e - b) (drop b c.map))
    × (drop (a + (e - b)) c.map' ≡ drop (a + (e - b)) c.map)
drop_leaves_lem {c} ran done a b e begins ends last =
    let lies = drop_moves (drop_known ran done) refl begins ends (last ∙ sym (span_whole c.room c.room.count (omega arith))) in
    let moved : c.map' ≡ moved_down c.map a b e = dropped_map ran done ∙ rw (begins, ends, last) refl in (
      dropped_room ran done,
      ap (take a) moved ∙ down_front c.map a b e lies.0 lies.1 lies.2,
      ap (λ z. take (e - b) (drop a z)) moved ∙ down_here c.map a b e lies.0 lies.1 lies.2,
      ap (drop (a + (e - b))) moved ∙ down_rest c.map a b e lies.0 lies.1 lies.2,
    )

-- a store that is done
module _ {c : StoreCall} {foot : Footer} (ran : Stores c) (done : c.answer ≡ accepted foot) where
  -- "A set takes tiles times bins entries", whatever the factor: the sets take as many more. The room record holds eight places, as the type of its array says
  pub store_takes : length c.room.sets ≡ 8 → span_of (held c.room') ≡ span_of (held c.room) + entries_of c.settings
  store_takes eight =
      ap (λ (r : Room). span_of (held r)) (stored_room ran done)
      ∙ ap span_of (held_more c.room (set_for_of c.film c.width c.height c.settings) (omega (arith, (store_enters ran done).few, eight)))
      ∙ span_append (held c.room) (set_for_of c.film c.width c.height c.settings)
      ∙ ap (λ b. span_of (held c.room) + c.settings.across * c.settings.down * b) (bins_kept c.settings)

  -- "at factor 1.0 too": they are taken and not written
  pub store_one : clip_one_of c.settings.clip ≡ true → c.map' ≡ c.map
  store_one one = stored_map ran done ∙ ap (λ b. take (span_of (held c.room)) c.map ++ cond b (drop (span_of (held c.room)) c.map) (onto (drop (span_of (held c.room)) c.map) (mappings c.width c.height c.pixels c.settings))) one ∙ take-append-drop (span_of (held c.room)) c.map

  -- else they hold the film's mappings
  pub store_lays : clip_one_of c.settings.clip ≡ false → take (entries_of c.settings) (drop (span_of (held c.room)) c.map') ≡ mappings c.width c.height c.pixels c.settings
  store_lays one =
      ap (λ z. take (entries_of c.settings) (drop (span_of (held c.room)) z)) (stored_map ran done ∙ ap (λ b. take (span_of (held c.room)) c.map ++ cond b (drop (span_of (held c.room)) c.map) (onto (drop (span_of (held c.room)) c.map) (mappings c.width c.height c.pixels c.settings))) one)
      ∙ ap (take (entries_of c.settings)) (drop_at (take (span_of (held c.room)) c.map) (onto (drop (span_of (held c.room)) c.map) (mappings c.width c.height c.pixels c.settings)) (span_of (held c.room)) (length-take-le (span_of (held c.room)) c.map (store_enters ran done).fits))
      ∙ take_onto (drop (span_of (held c.room)) c.map) (mappings c.width c.height c.pixels c.settings) (entries_of c.settings) (length_mappings c.width c.height c.pixels c.settings)

-- a drop that is done frees the set's entries: the sets take as many less, and all behind them is free
pub drop_frees : {c : DropCall} → Drops c → c.answer ≡ accepted tt → span_of (held c.room') + set_size (set_of c.film (held c.room)) ≡ span_of (held c.room)
drop_frees {c} ran done =
    let known = drop_known ran done in
    let i : ℕ = before c.film (held c.room) in
    let gone : held c.room' ≡ less i (held c.room) = ap held (dropped_room ran done) ∙ held_less c.room i known.here known.few in
    ap (λ rs. span_of rs + set_size (set_of c.film (held c.room))) gone ∙ span_less (held c.room) i (rw (length_held c.room) known.here)

-- ---- after any sequence of the calls

-- the sets held are the films' own, in order; each film's entries hold its mappings, at the factor 1.0 whatever stood there; no number stands there twice, and there are at most eight
pub room_kept : {room : Room} {m : List ℕ} {fs : List StoredFilm} → History room m fs → Kept room m fs
room_kept history = history_kept history

-- so a room begins as `film_sets::empty` makes it, with any buffer
pub empty_begins : (m : List ℕ) → History empty_room m []
unfolding empty_room
empty_begins m = begin empty_room m refl (length_tab 8 (λ k. no_set_of))

-- a room handed on as it was returned is never refused as a record, with its buffer
pub room_never_40 : {room : Room} {m : List ℕ} {fs : List StoredFilm} → History room m fs → first (fit_rows room (length m)) ≡ 0
room_never_40 history = never_40 (history_kept history)

-- "all free room is at the end and is used again": the sets take the entries of the films that are stored and not dropped, whatever was stored and dropped in between
pub room_spans : {room : Room} {m : List ℕ} {fs : List StoredFilm} → History room m fs → span_of (held room) ≡ film_spans fs
room_spans {room} {m} {fs} history = ap span_of (history_kept history).sets ∙ span_films fs

-- and a film that prepare accepts in as many entries as are left is stored, as long as there are fewer than eight and none of its number
pub room_takes : {room : Room} {m : List ℕ} {fs : List StoredFilm} → History room m fs → (c : StoreCall) → Stores c → c.room ≡ room → c.map ≡ m → length fs < 8
    → among c.film (map film_set fs) ≡ false
    → first (prepare_rows c.width c.height c.pixels c.settings (length m - film_spans fs) (length c.scratch) (length c.list)) ≡ 0
    → c.answer ≡ accepted (foot_of c.width c.height c.settings)
room_takes {room} {m} {fs} history c ran same-room same_map few new good =
    let none : first (store_rows c.room c.film c.width c.height c.pixels c.settings (length c.map) (length c.scratch) (length c.list)) ≡ 0 =
    rw (same-room, same_map)
    (store_free room c.film c.width c.height c.pixels c.settings (length m) (length c.scratch) (length c.list) (room_never_40 history)
    (ap (among c.film) (history_kept history).sets ∙ new)
    (omega (arith, few, sym (length_held room) ∙ ap length (history_kept history).sets ∙ length-map fs film_set))
    (ap (λ k. first (prepare_rows c.width c.height c.pixels c.settings (length m - k) (length c.scratch) (length c.list))) (room_spans history) ∙ good)) in
    store_says ran ∙ ap (λ n. says n (foot_of c.width c.height c.settings)) none

-- ---- as if it alone had been prepared

module _ {f : StoredFilm} {p : PrepareCall} {foot : Footer} {d : DrawCall} (alone : Alone f p foot d) where
  -- "each film stored and not dropped, its pixels unchanged since, draws as if it alone had been prepared": the same answer, with whatever window and output, and the same output
  pub room_as_alone : {room : Room} {m : List ℕ} {fs : List StoredFilm} → History room m fs → Among f fs
      → (c : ShowCall) (ran : RoomDraws c) → c.room ≡ room → c.map ≡ m → OfFilm f c.film c.width c.height c.pixels c.settings
      → c.window ≡ d.window → c.out ≡ d.out → (ran.run.answer ≡ alone.draws.run.answer) × (c.answer ≡ d.answer) × (c.out' ≡ d.out')
  room_as_alone {room} {m} {fs} history among c ran same-room same_map of same-window same_out =
      let e =
      draw_both
      (show_ends ran
      ∙ of_film (λ n w h pic s. show_of c.room n w h pic s c.window c.map c.out) (λ n w h pic s. show_kept c.room n w h pic s c.window c.map c.out) of
      ∙ rw (same-room, same_map, same-window, same_out) (alone_shows alone (history_kept history) among)) in
      (told_same (ap (λ (z : ShowCall). z.answer) ran.named) (ap (λ (z : DrawCall). z.answer) alone.draws.named) e.0, e.0, e.1)

-- ---- demand 2

module _ {f : StoredFilm} {c : ShowCall} (from : DrawnFromRoom f c) where
  -- a window inside the film, of a pixel at least, with an output of its area, is drawn
  pub room_accepts : 0 < c.window.width → 0 < c.window.height → c.window.left + c.window.width ≤ f.width → c.window.top + c.window.height ≤ f.height
      → length c.out ≡ c.window.height * c.window.width → c.answer ≡ accepted tt
  room_accepts wide high across down area = handed_done (room_made from) (room_shown from) (room_handed from wide high across down area)

module _ {f : StoredFilm} {c : ShowCall} (from : DrawnFromRoom f c) (answered : c.answer ≡ accepted tt) where
  -- the film is one that a call accepts, and the window lies inside it
  pub room_inside : Tiled f.width f.height f.settings × (c.window.left + c.window.width ≤ f.width) × (c.window.top + c.window.height ≤ f.height)
  room_inside = let x = shown_inside (room_made from) (room_shown from) answered refl (λ q. refl) in (made_tiled (room_made from), x.0, x.1)

  -- each pixel is the one of the integer rule for that film's own pixels and settings
  pub room_by_rule : clip_one_of f.settings.clip ≡ false → (j i : ℕ) → j < c.window.height → i < c.window.width
      → room_grey c i j ≡ rule_grey f.width f.height f.pixels f.settings (c.window.left + i) (c.window.top + j)
  room_by_rule = shown_by_rule (room_made from) (room_shown from) answered refl (λ q. refl)

  -- at the factor 1.0 the film's own
  pub room_as_film : clip_one_of f.settings.clip ≡ true → (j i : ℕ) → j < c.window.height → i < c.window.width
      → room_grey c i j ≡ get_or f.pixels ((c.window.top + j) * f.width + (c.window.left + i)) 0
  room_as_film = shown_as_film (room_made from) (room_shown from) answered refl (λ q. refl)

  -- and the one in enhance's picture, of the same film in buffers that are long enough, which enhance renders
  pub room_as_enhanced : (e : EnhanceCall) → Enhances e → OfFilm f f.number e.width e.height e.pixels e.settings
      → entries_of f.settings ≤ length e.map → bins_of f.settings ≤ length e.scratch
      → (e.answer ≡ accepted (foot_of f.width f.height f.settings))
      × ((j i : ℕ) → j < c.window.height → i < c.window.width → room_grey c i j ≡ get_or e.pixels' ((c.window.top + j) * f.width + (c.window.left + i)) 0)
  room_as_enhanced e ran of map scratch = shown_as_enhanced (room_made from) (room_shown from) answered refl (λ q. refl) {e = e} (enhance_ends ran) record { width = of.width; height = of.height; pixels = of.pixels; like = of.like; map = map; scratch = scratch }

-- ---- how far a scratch reaches

-- a room draw that is done
module _ {f : StoredFilm} {c : ShowCall} (from : DrawnFromRoom f c) (done : c.answer ≡ accepted tt) (i j : ℕ) (l : i < c.window.width) (k : j < c.window.height) where
  -- shows the film: by the rule, and at the factor 1.0 its own grey
  pub room_shows : room_grey c i j ≡ shown_grey f.width f.height f.pixels f.settings (c.window.left + i) (c.window.top + j)
  room_shows = (room_seen from done l k).shows

-- "then the rendered grey is the same in both": drawn from two rooms; the pixel in column i and row j of the first window is the one in column i' and row j' of the second
pub room_local : {f f' : StoredFilm} {c c' : ShowCall} → DrawnFromRoom f c → c.answer ≡ accepted tt → DrawnFromRoom f' c' → c'.answer ≡ accepted tt → (i j i' j' : ℕ)
    → i < c.window.width → j < c.window.height → i' < c'.window.width → j' < c'.window.height
    → c'.window.left + i' ≡ c.window.left + i → c'.window.top + j' ≡ c.window.top + j
    → Two (picture_of f) (picture_of f') (c.window.left + i) (c.window.top + j) → room_grey c i j ≡ room_grey c' i' j'
room_local from done from' done' i j i' j' l k l' k' across down two = seen_local (room_seen from done l k) (rw (← across, ← down) (room_seen from' done' l' k')) two

-- one from a room, the other by whichever way
pub room_rendered_local : {f : StoredFilm} {p : Film} {c : ShowCall} {g : ℕ} → DrawnFromRoom f c → c.answer ≡ accepted tt → (i j : ℕ) → i < c.window.width → j < c.window.height
    → Rendered p (c.window.left + i) (c.window.top + j) g → Two (picture_of f) p (c.window.left + i) (c.window.top + j) → room_grey c i j ≡ g
room_rendered_local from done i j l k other two = seen_local (room_seen from done l k) (rendered_seen other) two

-- a scratch: the films differ in the tile in column a and row b alone, and the grey of every pixel beyond the neighbouring tiles' centres is the same in both
pub room_stays : {f f' : StoredFilm} {c c' : ShowCall} → DrawnFromRoom f c → c.answer ≡ accepted tt → DrawnFromRoom f' c' → c'.answer ≡ accepted tt → (i j i' j' : ℕ)
    → i < c.window.width → j < c.window.height → i' < c'.window.width → j' < c'.window.height
    → c'.window.left + i' ≡ c.window.left + i → c'.window.top + j' ≡ c.window.top + j
    → Twins (picture_of f) (picture_of f') → (a b : ℕ) → a < f.settings.across → DifferIn f.width f.height f.pixels f'.pixels (tile_in_lem (picture_of f) a b)
    → BeyondTile f.width f.height f.settings a b (c.window.left + i) (c.window.top + j) → room_grey c i j ≡ room_grey c' i' j'
room_stays {f} {f'} from done from' done' i j i' j' l k l' k' across down twins a b in-grid differ beyond =
    let seen = room_seen from done l k in
    seen_stays seen (rw (← across, ← down) (room_seen from' done' l' k')) twins (tile_in_lem (picture_of f) a b) differ (beyond_tile seen.tiled in-grid beyond)
