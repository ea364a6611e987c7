-- Document 02, order 11: the sets of a room, which lie end to end from the front of the buffer in the order of storing.
-- room is the room record, rs the sets that it holds, m the buffer.
-- Assumes nothing.
use Rattle.std.specs.Prelude.{ℕ, suc, ◌+◌, ◌-◌, Bool, false, cond, ◌||◌, ◌&&◌, List, [], ◌∷◌, leb, ltb, eqb, take, drop, get_or, set}
use Rattle.base_lists.specs.Lists.{tab, over}
use Rattle.base_rows.specs.Refuse.{Row, row}
use Rattle.film_settings.specs.declared.Settings.{Settings}
use Rattle.film_settings.specs.Settings.{entries_of, kept_of, no_settings}
use Rattle.film_sets.specs.declared.Set.{Set}
use Rattle.film_sets.specs.declared.Room.{Room}

-- the set of no film
unfoldable pub no_set_of : Set
no_set_of = record { film = 0; width = 0; height = 0; settings = no_settings }

-- the set of a film: its number, sizes and settings "with bins 0 kept as 128"; edges and centres follow from these
abbrev pub set_for_of : ℕ → ℕ → ℕ → Settings → Set
set_for_of film w h s = record { film = film; width = w; height = h; settings = kept_of s }

-- the sets of the films that are stored, in the order of storing
unfoldable pub held : Room → List Set
held room = tab room.count (λ i. get_or room.sets i no_set_of)

-- "A set takes tiles times bins entries"
abbrev pub set_size : Set → ℕ
set_size r = entries_of r.settings

-- the entries of some sets, end to end
unfoldable pub span_of : List Set → ℕ
span_of [] = 0
span_of (r ∷ rs) = set_size r + span_of rs

-- one of the sets is of this number
unfoldable pub among : ℕ → List Set → Bool
among n [] = false
among n (r ∷ rs) = eqb r.film n || among n rs

-- "a number twice"
unfoldable pub twice : List Set → Bool
twice [] = false
twice (r ∷ rs) = among r.film rs || twice rs

-- how many sets stand before the one of this number
unfoldable pub before : ℕ → List Set → ℕ
before n [] = 0
before n (r ∷ rs) = cond (eqb r.film n) 0 (suc (before n rs))

-- that set
abbrev pub set_of : ℕ → List Set → Set
set_of n rs = get_or rs (before n rs) no_set_of

-- the entry at which it begins
abbrev pub start_of : ℕ → List Set → ℕ
start_of n rs = span_of (take (before n rs) rs)

-- and its entries
abbrev pub part_of : ℕ → List Set → List ℕ → List ℕ
part_of n rs m = take (set_size (set_of n rs)) (drop (start_of n rs) m)

-- 40: "a room record with over eight sets, a number twice, or sets that end to end exceed the buffer"
unfoldable pub fit_rows : Room → ℕ → List Row
fit_rows room size =
    row 40 (ltb 8 room.count) ∷ row 40 (twice (held room)) ∷ row 40 (ltb size (span_of (held room))) ∷ []

-- the room with one set more, behind the last
unfoldable pub with_set_of : Room → Set → Room
with_set_of room r = record { count = room.count + 1; sets = set room.sets room.count r }

-- where the set at place k of a room without the one at place i comes from: the later ones move down a place
abbrev pub moved_from_of : (i n k : ℕ) → ℕ
moved_from_of i n k = cond (leb i k && ltb (k + 1) n) (k + 1) k

-- the room without the set at place i: the places behind the last set keep what they held
unfoldable pub without_set_of : Room → ℕ → Room
without_set_of room i =
    record { count = room.count - 1; sets = tab 8 (λ k. get_or room.sets (moved_from_of i room.count k) no_set_of) }

-- "on a drop the later sets move down": the entries from b up to e now begin at a, and "entries behind the last set after a drop keep what they held"
unfoldable pub moved_down : (m : List ℕ) (a b e : ℕ) → List ℕ
moved_down m a b e = over m a (take (e - b) (drop b m))

-- "an empty room"
unfoldable pub empty_room : Room
empty_room = record { count = 0; sets = tab 8 (λ k. no_set_of) }
