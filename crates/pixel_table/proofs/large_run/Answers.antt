-- `pixel_table::large_run` meets its contract: the sums stand in the table as they are.
use Rattle.pixel_table.proofs.Runs.{plain_asks, plain_length, plain_blended, plain_sums}
use Rattle.pixel_table.proofs.large_run.Goals as goal

pub move_run-requires : goal.move_run-requires
move_run-requires c = (
  plain_asks c.requires.0 _ c.requires.1 c.fill.ensures,
  record { each = λ i l h. (c.requires.0.column, c.requires.0.row, c.spans_factor.ensures.1, plain_sums c.requires.0 _ c.requires.1 c.fill.ensures i h) },
)

pub returns : goal.returns
returns c = (plain_blended c.requires.0 _ c.requires.1 c.fill.ensures c.move_run.ensures.0, plain_length c.requires.0 _ c.requires.1 c.fill.ensures, c.move_run.ensures.1)
