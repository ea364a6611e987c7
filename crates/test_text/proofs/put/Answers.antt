-- `test_text::put` meets its contract: a byte more where there is room. Assumes nothing.
use Rattle.test_text.proofs.Digits.{put_room, put_full}
use Rattle.test_text.proofs.put.Goals as goal

pub returns-then-at-lt1368 : goal.returns-then-at-lt1368
returns-then-at-lt1368 c = put_room _ _ c.if-at-lt1368.true

pub returns-else-at-lt1368 : goal.returns-else-at-lt1368
returns-else-at-lt1368 c = put_full _ _ c.if-at-lt1368.false
