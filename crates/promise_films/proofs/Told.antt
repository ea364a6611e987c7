-- The answers of prepare, and of read asked for the sizes: two that say the same are the same.
-- Assumes nothing.
use Rattle.std.specs.Prelude.{ℕ, ◌≡◌, Result, Ok, Err}
use mathlib.Core.Path.{refl, sym, ap, ◌∙◌}
use Rattle.base_rows.specs.declared.Refusal.{Refusal}
use Rattle.base_rows.specs.Refuse.{Says}
use Rattle.base_rows.specs.Given.{said}
use Rattle.base_rows.proofs.Told.{said_same}
use Rattle.film_settings.specs.declared.MapRecord.{MapRecord}
use Rattle.film_settings.specs.declared.Footer.{Footer}
use Rattle.film_prepare.specs.declared.Prepared.{Prepared}
use Rattle.film_prepare.specs.Prepare.{prepared_says}
use Rattle.pgm_read.specs.declared.Sizes.{Sizes}
use Rattle.pgm_read.specs.Pgm.{sizes_says}

-- ---- prepare: the record and the footer

-- the answer, with record and footer as a pair, so that `said` says of it what it says itself
paired : Result Prepared Refusal → Result (MapRecord × Footer) Refusal
paired (Ok p) = Ok (p.kept, p.footer)
paired (Err r) = Err r

-- and back
unpaired : Result (MapRecord × Footer) Refusal → Result Prepared Refusal
unpaired (Ok (kept, footer)) = Ok record { kept = kept; footer = footer }
unpaired (Err r) = Err r

paired_back : (a : Result Prepared Refusal) → unpaired (paired a) ≡ a
unfolding paired unpaired
paired_back (Ok p) = refl
paired_back (Err r) = refl

paired_said : (a : Result Prepared Refusal) → said (paired a) ≡ prepared_says a
unfolding paired
paired_said (Ok p) = refl
paired_said (Err r) = refl

-- two answers that say the same are the same
pub prepared_same : (a b : Result Prepared Refusal) → prepared_says a ≡ prepared_says b → a ≡ b
prepared_same a b e = sym (paired_back a) ∙ (ap unpaired (said_same (paired a) (paired b) (paired_said a ∙ (e ∙ sym (paired_said b)))) ∙ paired_back b)

-- so two answers are the same where what is told of them is
pub prepared_told : {a b : Result Prepared Refusal} {u v : Says (MapRecord × Footer)} → u ≡ prepared_says a → v ≡ prepared_says b → u ≡ v → a ≡ b
prepared_told {a} {b} p q e = prepared_same a b (sym p ∙ (e ∙ q))

-- ---- read, asked for the sizes: width, height and maxval

-- the answer, with the three as a tuple
listed : Result Sizes Refusal → Result (ℕ × ℕ × ℕ) Refusal
listed (Ok s) = Ok (s.width, s.height, s.maxval)
listed (Err r) = Err r

-- and back
unlisted : Result (ℕ × ℕ × ℕ) Refusal → Result Sizes Refusal
unlisted (Ok (width, height, maxval)) = Ok record { width = width; height = height; maxval = maxval }
unlisted (Err r) = Err r

listed_back : (a : Result Sizes Refusal) → unlisted (listed a) ≡ a
unfolding listed unlisted
listed_back (Ok s) = refl
listed_back (Err r) = refl

listed_said : (a : Result Sizes Refusal) → said (listed a) ≡ sizes_says a
unfolding listed sizes_says
listed_said (Ok s) = refl
listed_said (Err r) = refl

-- two answers that say the same are the same
pub sizes_same : (a b : Result Sizes Refusal) → sizes_says a ≡ sizes_says b → a ≡ b
sizes_same a b e = sym (listed_back a) ∙ (ap unlisted (said_same (listed a) (listed b) (listed_said a ∙ (e ∙ sym (listed_said b)))) ∙ listed_back b)

-- so two answers are the same where what is told of them is
pub sizes_told : {a b : Result Sizes Refusal} {u v : Says (ℕ × ℕ × ℕ)} → u ≡ sizes_says a → v ≡ sizes_says b → u ≡ v → a ≡ b
sizes_told {a} {b} p q e = sizes_same a b (sym p ∙ (e ∙ q))
