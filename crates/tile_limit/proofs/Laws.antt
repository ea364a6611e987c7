-- Laws of the factor and of the limit, for the crates above. Assumes nothing.
use Prim.Native.Nat.{ℕ, zero, suc, ◌+◌, ◌-◌, ◌*◌, ◌/◌, ◌≤◌, ◌<◌, max}
use native.Mathlib.Nat.{le_trans, le_of_eq, le-max_left, le-max_right, max-le, mul_comm, mul_assoc, mul_right_comm, mul-le-mul, mul-le-mul_left, mul-le-mul_right, le_of_mul-le-mul_right, eq_of_mul-eq-mul_right, div-mul-le_self, le-div_iff_mul-le, lt-div-mul-add, div-lt_iff_lt-mul, le_of_lt, le_of_suc-le-suc, suc-mul}
use native.Mathlib.Omega.{arith}
use mathlib.Core.Bool.{Bool, true, false, ◌&&◌, true≢false, and-true, and-eq-true_iff}
use mathlib.Core.Logic.{◌↔◌}
use mathlib.Core.Path.{◌≡◌, refl, sym, ap, ap₂, ◌∙◌, subst}
use lib.Dec.{leb, eqb, lit≤}
use lib.IntN.{ℤ}
use lib.Ieee.{Float, nan, inf, fin, up, down, eq}
use lib.Ieee.Fits.{down_pos}
use borrow.Author.Tests.{leb-true, leb-false, le-leb, eqb-true, eqb-false, ne_eqb}
use Rattle.tile_limit.specs.declared.Clip.{Clip}
use Rattle.tile_limit.specs.declared.Clip.TheVariants.{Off, Factor}
use Rattle.tile_limit.specs.declared.Judged.{Judged}
use Rattle.tile_limit.specs.Limit.{allowed, is_one, judged_by, judge_of, AboveOne, JudgedSays, floored_of, rounded_up, limit_of}

-- what an allowed number is: not below 1.0 and not above 1024.0
pub record Allowed (m : ℕ) (e : ℤ) : Type 0 where
  pub least : down e ≤ m * up e
  pub most : m * up e ≤ 1024 * down e

-- an allowed number is one between the bounds
pub allowed_told : (m : ℕ) (e : ℤ) → allowed (fin false m e) ≡ true → Allowed m e
unfolding allowed
allowed_told m e h =
    let k = (and-eq-true_iff (leb (down e) (m * up e)) (leb (m * up e) (1024 * down e))).0 h in
    record { least = leb-true (down e) (m * up e) k.0; most = leb-true (m * up e) (1024 * down e) k.1 }

-- ---- the factor

-- 1.0 is allowed
pub one_allowed : (f : Float) → is_one f ≡ true → allowed f ≡ true
unfolding is_one allowed
one_allowed nan h = h
one_allowed (inf s) h = h
one_allowed (fin true m e) h = h
one_allowed (fin false m e) h = within (m * up e) (down e) (eqb-true (m * up e) (down e) h)
  where
    within : (a d : ℕ) → a ≡ d → (leb d a && leb a (1024 * d)) ≡ true
    within a d p = ap₂ ◌&&◌ (le-leb d a (omega arith)) (le-leb a (1024 * d) (omega arith))

-- an allowed factor other than 1.0 is above 1.0
pub above_one : (f : Float) → allowed f ≡ true → is_one f ≡ false → AboveOne f
unfolding is_one allowed
above_one nan h k = absurd (true≢false (sym h))
above_one (inf s) h k = absurd (true≢false (sym h))
above_one (fin true m e) h k = absurd (true≢false (sym h))
above_one (fin false m e) h k = (refl, strict (m * up e) (down e) (allowed_told m e h).least (eqb-false (m * up e) (down e) k))
  where
    strict : (a d : ℕ) → d ≤ a → (a ≡ d → ⊥) → d < a
    strict a d p q = omega (arith, q)

-- and a factor above 1.0 is not 1.0
pub above_not_one : (f : Float) → AboveOne f → is_one f ≡ false
unfolding is_one
above_not_one nan k = absurd k
above_not_one (inf s) k = refl
above_not_one (fin true m e) k = refl
above_not_one (fin false m e) k = ne_eqb (m * up e) (down e) (λ z. omega (arith, k.1))

-- a clip setting is judged as document 01 says of it, and in no other way
pub judged_exactly : (clip : Clip) (j : Judged) → (judge_of clip ≡ j) ↔ JudgedSays j clip
unfolding judge_of
judged_exactly clip j = ((λ e. subst (λ x. JudgedSays x clip) e (told clip)), back j)
  where
    factor : (f : Float) (a : Bool) → allowed f ≡ a → (o : Bool) → is_one f ≡ o → JudgedSays (judged_by a o f) (Factor f)
    factor f false p o q = (f, refl, p)
    factor f true p true q = (f, refl, q)
    factor f true p false q = (refl, p, above_one f p q)

    told : (c : Clip) → JudgedSays (judge_of c) c
    told Off = refl
    told (Factor f) = factor f (allowed f) refl (is_one f) refl

    back : (j : Judged) → JudgedSays j clip → judge_of clip ≡ j
    back Judged.Off s = rw s refl
    back Judged.Refused s = rw (s.1, s.2) refl
    back Judged.One s = rw (s.1, one_allowed s.0 s.2, s.2) refl
    back (Judged.Above f) s = rw (s.0, s.1, above_not_one f s.2) refl

-- a / c and b / d are the same fraction: the one is 1 where the other is
one_alike : (a b c d : ℕ) → 0 < c → 0 < d → a * d ≡ b * c → eqb a c ≡ eqb b d
one_alike a b c d p q e = go (eqb a c) refl (eqb b d) refl
  where
    there : a ≡ c → b ≡ d
    there z = eq_of_mul-eq-mul_right c p b d (sym e ∙ ap (λ x. x * d) z ∙ mul_comm c d)

    back : b ≡ d → a ≡ c
    back z = eq_of_mul-eq-mul_right d q a c (e ∙ ap (λ x. x * c) z ∙ mul_comm d c)

    go : (x : Bool) → eqb a c ≡ x → (y : Bool) → eqb b d ≡ y → eqb a c ≡ eqb b d
    go true f true g = f ∙ sym g
    go true f false g = absurd (eqb-false b d g (there (eqb-true a c f)))
    go false f true g = absurd (eqb-false a c f (back (eqb-true b d g)))
    go false f false g = f ∙ sym g

-- two factors that are equal as numbers are both 1.0, or neither
pub same_one : (f g : Float) → allowed f ≡ true → allowed g ≡ true → eq f g ≡ true → is_one f ≡ is_one g
unfolding is_one allowed eq
same_one nan g p q e = absurd (true≢false (sym p))
same_one (inf s) g p q e = absurd (true≢false (sym p))
same_one (fin true m k) g p q e = absurd (true≢false (sym p))
same_one (fin false m k) nan p q e = absurd (true≢false (sym q))
same_one (fin false m k) (inf s) p q e = absurd (true≢false (sym q))
same_one (fin false m k) (fin true n l) p q e = absurd (true≢false (sym q))
same_one (fin false m k) (fin false n l) p q e =
    one_alike (m * up k) (n * up l) (down k) (down l) (down_pos k) (down_pos l) (eqb-true (m * up k * down l) (n * up l * down k) (sym (and-true _) ∙ e))

-- ---- the factor's part of the limit, rounded down

-- it is at least 1
floored_least : (f : Float) (n b : ℕ) → 1 ≤ floored_of f n b
unfolding floored_of
floored_least nan n b = lit≤ tt
floored_least (inf s) n b = lit≤ tt
floored_least (fin s m e) n b = le-max_left 1 (m * up e * n / (down e * b))

-- the floor times the bins is at most 1024 times the pixels
floor_room : (a d n b : ℕ) → 0 < d → a ≤ 1024 * d → n ≤ 4194304 → a * n / (d * b) * b ≤ 4294967296
floor_room a d n b p h k =
    let q = a * n / (d * b) in
    le_of_mul-le-mul_right
    (le_trans (le_of_eq (mul_assoc q b d ∙ ap (λ (x : ℕ). q * x) (mul_comm b d)))
    (le_trans (div-mul-le_self (a * n) (d * b)) (le_trans (mul-le-mul h k) (le_of_eq (turn d))))) p
  where
    turn : (x : ℕ) → 1024 * x * 4194304 ≡ 4294967296 * x
    turn x = omega arith

max_room : (q b : ℕ) → q * b ≤ 4294967296 → b ≤ 4096 → max 1 q * b ≤ 4294967296
max_room q b h k = go q h
  where
    same : (x : ℕ) → suc x ≡ max 1 (suc x)
    same x = omega arith

    go : (x : ℕ) → x * b ≤ 4294967296 → max 1 x * b ≤ 4294967296
    go zero p = omega arith
    go (suc x) p = subst (λ (y : ℕ). y * b ≤ 4294967296) (same x) p

-- times the bins it is at most 2 ^ 32
floored_room : (f : Float) (n b : ℕ) → allowed f ≡ true → n ≤ 4194304 → 2 ≤ b → b ≤ 4096 → floored_of f n b * b ≤ 4294967296
unfolding floored_of allowed
floored_room nan n b h k l u = omega arith
floored_room (inf s) n b h k l u = omega arith
floored_room (fin true m e) n b h k l u = absurd (true≢false (sym h))
floored_room (fin false m e) n b h k l u = max_room (m * up e * n / (down e * b)) b (floor_room (m * up e) (down e) n b (down_pos e) (allowed_told m e h).most k) u

half : (x b : ℕ) → x * b ≤ 4294967296 → 2 ≤ b → x ≤ 2147483648
half x b h l = halved (le_trans (mul-le-mul_left x l) h)
  where
    halved : x * 2 ≤ 4294967296 → x ≤ 2147483648
    halved p = omega arith

max_most : (q : ℕ) → q ≤ 2147483648 → max 1 q ≤ 2147483648
max_most q h = omega arith

-- and itself at most 2 ^ 31
pub floored_most : (f : Float) (n b : ℕ) → allowed f ≡ true → n ≤ 4194304 → 2 ≤ b → floored_of f n b ≤ 2147483648
unfolding floored_of allowed
floored_most nan n b h k l = lit≤ tt
floored_most (inf s) n b h k l = lit≤ tt
floored_most (fin true m e) n b h k l = absurd (true≢false (sym h))
floored_most (fin false m e) n b h k l =
    max_most (m * up e * n / (down e * b)) (half (m * up e * n / (down e * b)) b (floor_room (m * up e) (down e) n b (down_pos e) (allowed_told m e h).most k) l)

-- of a factor of at most k it is at most k x N / B, or 1
floored_bound : (s : Bool) (m : ℕ) (e : ℤ) (n b k : ℕ) → 0 < b → m * up e ≤ k * down e → floored_of (fin s m e) n b ≤ max 1 (k * n / b)
unfolding floored_of
floored_bound s m e n b k p h =
    max-le (le-max_left 1 (k * n / b))
    (le_trans (bound (m * up e) (down e) (down_pos e) h) (le-max_right 1 (k * n / b)))
  where
    bound : (a d : ℕ) → 0 < d → a ≤ k * d → a * n / (d * b) ≤ k * n / b
    bound a d q l =
        let x = a * n / (d * b) in
        (le-div_iff_mul-le p).1
        (le_of_mul-le-mul_right
        (le_trans (le_of_eq (mul_assoc x b d ∙ ap (λ (y : ℕ). x * y) (mul_comm b d)))
        (le_trans (div-mul-le_self (a * n) (d * b)) (le_trans (mul-le-mul_right n l) (le_of_eq (mul_right_comm k d n)))))
        q)

-- ---- the limit

-- so many bins of N / B rounded up hold the N pixels
rounded_holds : (n b : ℕ) → 0 < b → n ≤ rounded_up n b * b
rounded_holds n b p = let h : n + (b - 1) < (n + (b - 1)) / b * b + b = lt-div-mul-add p in omega arith

-- and no smaller number does
rounded_least : (n b l : ℕ) → 0 < b → n ≤ l * b → rounded_up n b ≤ l
rounded_least n b l p h = le_of_suc-le-suc ((div-lt_iff_lt-mul p).1 (let k : suc l * b ≡ l * b + b = suc-mul l b in omega arith))

-- the limit is at least 1
pub limit_least : (f : Float) (n b : ℕ) → 1 ≤ limit_of f n b
unfolding limit_of
limit_least f n b = omega (arith, floored_least f n b)

-- L x B is never below N: the bins, none above the limit, hold the tile's pixels
pub limit_holds : (f : Float) (n b : ℕ) → 0 < b → n ≤ limit_of f n b * b
unfolding limit_of
limit_holds f n b p = le_trans (rounded_holds n b p) (mul-le-mul_right b (le-max_right (floored_of f n b) (rounded_up n b)))

-- L is the least that can hold the tile where the factor would give less
pub limit_tight : (f : Float) (n b l : ℕ) → 0 < b → floored_of f n b * b < n → n ≤ l * b → limit_of f n b ≤ l
unfolding limit_of
limit_tight f n b l p h k = max-le (le_of_mul-le-mul_right (le_trans (le_of_lt h) k) p) (rounded_least n b l p k)

-- where the factor gives enough, it decides
pub limit_floored : (f : Float) (n b : ℕ) → 0 < b → n ≤ floored_of f n b * b → limit_of f n b ≡ floored_of f n b
unfolding limit_of
limit_floored f n b p h = omega (arith, rounded_least n b (floored_of f n b) p h)

-- a bound of two products with b is one of the larger one's
max_times : (x y b most : ℕ) → x * b ≤ most → y * b ≤ most → max x y * b ≤ most
max_times x y b most p q = go (leb x y) refl
  where
    go : (t : Bool) → leb x y ≡ t → max x y * b ≤ most
    go true e = let l : x ≤ y = leb-true x y e in let z : max x y ≡ y = omega arith in rw z q
    go false e = let l : y < x = leb-false x y e in let z : max x y ≡ x = omega arith in rw z p

-- the limit times the bins is at most 2 ^ 32
pub limit_room : (f : Float) (n b : ℕ) → allowed f ≡ true → n ≤ 4194304 → 2 ≤ b → b ≤ 4096 → limit_of f n b * b ≤ 4294967296
unfolding limit_of
limit_room f n b h k l u =
    max_times (floored_of f n b) (rounded_up n b) b 4294967296 (floored_room f n b h k l u) (let r : rounded_up n b * b ≤ n + (b - 1) = div-mul-le_self (n + (b - 1)) b in omega arith)

-- of a factor of at most k it is at most k x N / B, or 1, or N / B rounded up
pub limit_bound : (s : Bool) (m : ℕ) (e : ℤ) (n b k : ℕ) → 0 < b → m * up e ≤ k * down e → limit_of (fin s m e) n b ≤ max (max 1 (k * n / b)) (rounded_up n b)
unfolding limit_of
limit_bound s m e n b k p h = omega (arith, floored_bound s m e n b k p h)
