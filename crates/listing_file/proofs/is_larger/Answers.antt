-- By what the header is. Assumes nothing.
use mathlib.Core.Path.{sym, ap, ◌∙◌}
use native.Mathlib.Omega.{arith}
use Rattle.pgm_header.specs.Told.{head_told}
use Rattle.listing_file.specs.Listing.{is_larger_of}
use Rattle.listing_file.proofs.Calls.{product_fits}
use Rattle.listing_file.proofs.is_larger.Goals as goal

pub overflow_mul-result : goal.overflow_mul-result
overflow_mul-result c = record { fits = product_fits _ _ (omega arith) (omega arith) }

pub returns-in-Ok : goal.returns-in-Ok
returns-in-Ok c = sym (ap is_larger_of (sym c.header.ensures ∙ ap head_told c.in-Ok.is))

pub returns-in-Err : goal.returns-in-Err
returns-in-Err c = sym (ap is_larger_of (sym c.header.ensures ∙ ap head_told c.in-Err.is))
