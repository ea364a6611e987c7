-- The cases of what the functions of the film set answer, over plain variables. Assumes nothing.
use Rattle.std.proofs.Common.{◌≡◌, ℕ, ◌+◌, ◌-◌, ◌<◌, ◌≤◌, true, false, List, get_or, set, refl, arith, le-ltb, lt-ltb, eq-eqb, ne_eqb, le-leb}
use borrow.Author.Tests.{lt-leb}
use Rattle.test_set.specs.declared.row.Line.{Line}
use Rattle.pixel_grid.specs.Grid.{axis_of, no_axis_of}
use Rattle.test_set.specs.declared.kept.Eleven.{Eleven}
use Rattle.test_set.specs.declared.kept.Kept.{Kept}
use Rattle.test_set.specs.declared.axes.Axes.{Axes}
use Rattle.test_set.specs.Filmset.{fresh_line, digit_of, longer_line, fed_line, looked_line, is_film_of, own_of, eleven_of_lem, made_axis_of, made_axes, changed_axes, kept_as, field_column, handed_of}

pub digit_low : (b : ℕ) → b < 65 → b - 48 ≡ digit_of b
unfolding digit_of
digit_low b h = rw (lt-ltb b 65 h) refl

pub digit_capital : (b : ℕ) → 65 ≤ b → b < 97 → b ≡ digit_of b
unfolding digit_of
digit_capital b h k = rw (le-ltb b 65 h, lt-ltb b 97 k) refl

pub digit_small : (b : ℕ) → 97 ≤ b → b - 87 ≡ digit_of b
unfolding digit_of
digit_small b h = let k : 65 ≤ b = omega arith in rw (le-ltb b 65 k, le-ltb b 97 h) refl

pub fed_over : (l : Line) (b : ℕ) → 48 < l.count → l ≡ fed_line l b
unfolding fed_line
fed_over l b h = rw (lt-ltb 48 l.count h) refl

pub fed_note : (l : Line) (b : ℕ) → l.count ≤ 48 → b ≡ 35 → ◌≡◌ {A = Line} (record { numbers = l.numbers; count = 49; base = 10 }) (fed_line l b)
unfolding fed_line
fed_note l b h e = rw (le-ltb 48 l.count h, eq-eqb b 35 e) refl

pub fed_hex : (l : Line) (b : ℕ) → l.count ≤ 48 → b ≡ 120 → ◌≡◌ {A = Line} (record { numbers = l.numbers; count = l.count; base = 16 }) (fed_line l b)
unfolding fed_line
fed_hex l b h e = rw (le-ltb 48 l.count h, e) refl

pub fed_blank : (l : Line) (b : ℕ) → l.count ≤ 48 → b ≡ 32 → ◌≡◌ {A = Line} (record { numbers = l.numbers; count = l.count + 1; base = 10 }) (fed_line l b)
unfolding fed_line
fed_blank l b h e = rw (le-ltb 48 l.count h, e) refl

pub fed_digit : (l : Line) (b : ℕ) {m : Line} → l.count ≤ 48 → (b ≡ 35 → ⊥) → (b ≡ 120 → ⊥) → (b ≡ 32 → ⊥) → m ≡ longer_line l b → m ≡ fed_line l b
unfolding fed_line
fed_digit l b h n x k e = rw (le-ltb 48 l.count h, ne_eqb b 35 n, ne_eqb b 120 x, ne_eqb b 32 k) e

pub looked_fed : (n : ℕ) (l : Line) (b : ℕ) {m : Line} → (b ≡ 10 → ⊥) → m ≡ fed_line l b → m ≡ looked_line n l b
unfolding looked_line
looked_fed n l b h e = rw (ne_eqb b 10 h) e

pub looked_letter : (n : ℕ) (l : Line) (b : ℕ) {m : Line} → b ≡ 10 → (get_or l.numbers 0 0 ≡ 70 → ⊥) → m ≡ fresh_line → m ≡ looked_line n l b
unfolding looked_line
looked_letter n l b h k e = rw (eq-eqb b 10 h, ne_eqb (get_or l.numbers 0 0) 70 k) e

pub looked_number : (n : ℕ) (l : Line) (b : ℕ) {m : Line} → b ≡ 10 → get_or l.numbers 0 0 ≡ 70 → (get_or l.numbers 1 0 ≡ n → ⊥) → m ≡ fresh_line → m ≡ looked_line n l b
unfolding looked_line
looked_number n l b h k o e = rw (eq-eqb b 10 h, eq-eqb (get_or l.numbers 0 0) 70 k, ne_eqb (get_or l.numbers 1 0) n o) e

pub looked_film : (n : ℕ) (l : Line) (b : ℕ) → b ≡ 10 → get_or l.numbers 0 0 ≡ 70 → get_or l.numbers 1 0 ≡ n → ◌≡◌ {A = Line} (record { numbers = l.numbers; count = 49; base = 10 }) (looked_line n l b)
unfolding looked_line
looked_film n l b h k o = rw (eq-eqb b 10 h, eq-eqb (get_or l.numbers 0 0) 70 k, eq-eqb (get_or l.numbers 1 0) n o) refl

pub own_whole : (row : List ℕ) (place whole : ℕ) → is_film_of row ≡ true → whole ≡ own_of row place whole
unfolding own_of
own_whole row place whole h = rw h refl

pub own_at : (row : List ℕ) (place whole : ℕ) {r : ℕ} → is_film_of row ≡ false → r ≡ get_or row place 0 → r ≡ own_of row place whole
unfolding own_of
own_at row place whole h e = rw h e

module _ (row drawn : List ℕ) (k : Kept) {f : ℕ} (e : f ≡ own_of drawn 9 12) where
  pub handed_kept : {a : Axes} → 11 ≤ f → a ≡ changed_axes k.axes f (get_or drawn 10 0) → kept_as k.number k.eleven a ≡ handed_of row drawn k
  unfolding handed_of
  handed_kept h q = rw (← e, le-leb 11 f h, q) refl

  pub handed_made : {t : Eleven} {a : Axes} → f < 11 → t ≡ eleven_of_lem (set row (field_column f) (get_or drawn 10 0)) → a ≡ made_axes (eleven_of_lem row) → kept_as k.number t a ≡ handed_of row drawn k
  unfolding handed_of
  handed_made h q r = rw (← e, lt-leb 11 f h, q, r) refl

-- ---- an axis of a made record

module _ (side grid : ℕ) where
  pub axis_none : grid < 2 → no_axis_of ≡ made_axis_of side grid
  unfolding made_axis_of
  axis_none h = rw (lt-leb 2 grid h) refl

  module _ (a : 2 ≤ grid) where
    pub axis_many : 16 < grid → no_axis_of ≡ made_axis_of side grid
    unfolding made_axis_of
    axis_many h = rw (le-leb 2 grid a, lt-leb grid 16 h) refl

    module _ (b : grid ≤ 16) where
      pub axis_short : side < grid → no_axis_of ≡ made_axis_of side grid
      unfolding made_axis_of
      axis_short h = rw (le-leb 2 grid a, le-leb grid 16 b, lt-leb grid side h) refl

      module _ (d : grid ≤ side) where
        pub axis_long : 4096 < side → no_axis_of ≡ made_axis_of side grid
        unfolding made_axis_of
        axis_long h = rw (le-leb 2 grid a, le-leb grid 16 b, le-leb grid side d, lt-leb side 4096 h) refl

        pub axis_fitting : side ≤ 4096 → axis_of side grid ≡ made_axis_of side grid
        unfolding made_axis_of
        axis_fitting h = rw (le-leb 2 grid a, le-leb grid 16 b, le-leb grid side d, le-leb side 4096 h) refl
