-- `listing_file::list` meets its contract, by the output's room.
use Rattle.listing_file.proofs.Calls.{list_short, list_laid}
use Rattle.listing_file.proofs.list.Goals as goal

pub returns-then-out-lt512 : goal.returns-then-out-lt512
returns-then-out-lt512 c = list_short _ _ c.if-out-lt512.true

pub returns : goal.returns
returns c = list_laid _ _ c.if-out-lt512.false c.lay_text.ensures.0 c.lay_text.ensures.1
