-- The two first bytes, then the numbers behind them.
use borrow.Author.Rules.{rules}
use Rattle.pgm_plain.proofs.Heads.{head_short, head_first, head_second, head_fields_lem}
use Rattle.pgm_plain.proofs.plain_head.Goals.{then-s-lt2-via-then-s-lt2, then-s-lt2-via-else-s-lt2+then-s-ne80, then-s-lt2-via-else-s-lt2+else-s-ne80+then-s-ne50}
use Rattle.pgm_plain.proofs.plain_head.Goals as goal

pub returns-then-s-lt2 : goal.returns-then-s-lt2
returns-then-s-lt2 c =
    elim c.then-s-lt2.branch [
      | then-s-lt2-via-then-s-lt2 w ↦ head_short _ w.if-s-lt2.true
      | then-s-lt2-via-else-s-lt2+then-s-ne80 w ↦ head_first _ w.if-s-ne80.true
      | then-s-lt2-via-else-s-lt2+else-s-ne80+then-s-ne50 w ↦ head_second _ w.if-s-ne80.false w.if-s-ne50.true
    ]

pub returns : goal.returns
returns c = head_fields_lem _ c.if-s-ne80.false c.if-s-ne50.false c.fields.ensures
