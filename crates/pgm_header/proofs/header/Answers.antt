-- The magic, then the numbers behind it. Assumes nothing.
use mathlib.Core.Path.{sym, ◌∙◌}
use Rattle.pgm_header.proofs.Reading.{header_first, header_second, header_fields, magic_within}
use Rattle.pgm_header.proofs.header.Goals.{then-byte-ne80-via-then-byte-ne80, then-byte-ne80-via-else-byte-ne80+then-byte-ne53}
use Rattle.pgm_header.proofs.header.Goals as goal

pub returns-then-byte-ne80 : goal.returns-then-byte-ne80
returns-then-byte-ne80 c =
    elim c.then-byte-ne80.branch [
      | then-byte-ne80-via-then-byte-ne80 w ↦ sym (header_first _ (λ q. w.if-byte-ne80.true (c.byte.ensures ∙ q)))
      | then-byte-ne80-via-else-byte-ne80+then-byte-ne53 w ↦
          sym (header_second _ (sym c.byte.ensures ∙ w.if-byte-ne80.false) (λ q. w.if-byte-ne53.true (w.byte-else-byte-ne80.ensures ∙ q)))
    ]

pub fields-requires : goal.fields-requires
fields-requires c = magic_within c.args.s.now (sym c.byte-else-byte-ne80.ensures ∙ c.if-byte-ne53.false)

pub returns : goal.returns
returns c = c.fields.ensures ∙ sym (header_fields _ (sym c.byte.ensures ∙ c.if-byte-ne80.false) (sym c.byte-else-byte-ne80.ensures ∙ c.if-byte-ne53.false))
