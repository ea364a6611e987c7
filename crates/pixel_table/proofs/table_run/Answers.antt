-- `pixel_table::table_run` meets its contract: a factor of 2^50 stands in the table.
use Rattle.pixel_table.proofs.Runs.{shifted_asks, shifted_length, shifted_blended}
use Rattle.pixel_table.proofs.table_run.Goals as goal

pub move_run-requires : goal.move_run-requires
move_run-requires c = (shifted_asks c.requires.0 c.requires.1 _ c.requires.2 c.fill.ensures, record { each = λ i l h. tt })

pub returns : goal.returns
returns c = (shifted_blended c.requires.0 c.requires.1 _ c.requires.2 c.fill.ensures c.move_run.ensures.0, shifted_length c.requires.0 c.requires.1 _ c.requires.2 c.fill.ensures, c.move_run.ensures.1)
