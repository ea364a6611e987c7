-- Document 01, "How tight the promises are", of list: any two outcomes that its contract allows are equal.
-- The call by the names of its arguments; a name with ' is lent memory at the end. That each name is the contract's own is checked by the law `list_ends`.
-- Assumes nothing.
use Prim.Native.Nat.{ℕ}
use mathlib.Core.List.{List}
use mathlib.Core.Path.{◌≡◌, sym, ap, ◌∙◌}
use Rattle.base_rows.specs.Run.{Run, Ran}
use Rattle.base_rows.specs.Given.{said}
use Rattle.base_rows.specs.Refuse.{Says}
use Rattle.base_rows.proofs.Told.{told_same}
use Rattle.pgm_write.specs.Write.{WriteOut, write_leaves}
use Rattle.listing_file.specs.Listing.{list_of}
use Rattle.listing_file.proofs.list.Kinds as list
use Rattle.listing_file.proofs.list.Reads as list-reads

pub record ListCall : Type 0 where
  pub bytes : List ℕ
  pub out : List ℕ
  pub answer : Says ℕ
  pub out' : List ℕ

abbrev pub list_values : Run list.ps list.r list-reads.Post → ListCall
list_values run =
    let (bytes, (out, end)) = run.handed in
    let (_, (out', end')) = run.left in
    record { bytes = bytes.now; out = out.now; answer = said run.answer; out' = out'.now }

-- what it is handed
abbrev pub list_arguments : ListCall → List ℕ × List ℕ
list_arguments c = (c.bytes, c.out)

-- list ran with these values
abbrev pub Lists : ListCall → Type 0
Lists = Ran list_values

pub list_ends : {c : ListCall} → Lists c → write_leaves c.answer c.out' ≡ list_of c.bytes c.out
list_ends ran = rw ran.named ran.run.allowed

-- one answer and one output for each file and output lent; a film's refusal is part of the text. `run.answer` is what the call itself answers, and `answer` what that says
pub list_determined : {c k : ListCall} (x : Lists c) (y : Lists k) → list_arguments c ≡ list_arguments k
    → (x.run.answer ≡ y.run.answer) × (c.answer ≡ k.answer) × (c.out' ≡ k.out')
list_determined x y same =
    let e = list_ends x ∙ ap (λ g. list_of g.0 g.1) same ∙ sym (list_ends y) in
    let a = ap (λ (z : WriteOut). z.answer) e in
    (told_same (ap (λ (z : ListCall). z.answer) x.named) (ap (λ (z : ListCall). z.answer) y.named) a, a, ap (λ (z : WriteOut). z.out) e)
