-- Lists by index: what the whole project says of lists and the kit's libraries do not have.
-- Assumes nothing.
use Rattle.std.specs.Prelude.{ℕ, zero, suc, ◌+◌, ◌*◌, Bool, true, false, ◌&&◌, cond, List, [], ◌∷◌, ◌++◌, eqb, length, take, drop}

-- the list f 0, f 1, .., f (n - 1)
unfoldable pub tab : {A : Type 0} → ℕ → (ℕ → A) → List A
tab zero f = []
tab (suc n) f = tab n f ++ (f n ∷ [])

-- f 0 + f 1 + .. + f (n - 1)
unfoldable pub sum : ℕ → (ℕ → ℕ) → ℕ
sum zero f = 0
sum (suc n) f = sum n f + f n

-- the sum of a list's entries
unfoldable pub total : List ℕ → ℕ
total [] = 0
total (x ∷ xs) = x + total xs

-- the lists f 0, f 1, .., f (n - 1), one behind the other
unfoldable pub joined : ℕ → (ℕ → List ℕ) → List ℕ
joined zero f = []
joined (suc n) f = joined n f ++ f n

-- f holds of 0, 1, .., n - 1
unfoldable pub every : ℕ → (ℕ → Bool) → Bool
every zero f = true
every (suc n) f = every n f && f n

-- p holds of each entry
unfoldable pub all : (ℕ → Bool) → List ℕ → Bool
all p [] = true
all p (x ∷ xs) = p x && all p xs

-- how often k stands in the list
unfoldable pub times : ℕ → List ℕ → ℕ
times k [] = 0
times k (x ∷ xs) = cond (eqb x k) 1 0 + times k xs

-- d with ys in the place of its first entries; what lies behind stays
unfoldable pub onto : {A : Type 0} → List A → List A → List A
onto d ys = ys ++ drop (length ys) d

-- d with ys in the place of its entries from `at` on; what lies before and behind stays
unfoldable pub over : List ℕ → ℕ → List ℕ → List ℕ
over d at ys = take at d ++ (ys ++ drop (at + length ys) d)

-- d with its first n entries replaced by f 0 .. f (n - 1)
unfoldable pub filled : (ℕ → ℕ) → List ℕ → ℕ → List ℕ
filled f d n = tab n f ++ drop n d

-- d with its first n blocks of k entries replaced by f 0 .. f (n - 1)
unfoldable pub blocks : ℕ → (ℕ → List ℕ) → List ℕ → ℕ → List ℕ
blocks k f d n = joined n f ++ drop (n * k) d

-- whether two lists of numbers are equal
unfoldable pub same : List ℕ → List ℕ → Bool
same [] [] = true
same [] (y ∷ ys) = false
same (x ∷ xs) [] = false
same (x ∷ xs) (y ∷ ys) = eqb x y && same xs ys
