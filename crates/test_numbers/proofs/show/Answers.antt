-- `test_numbers::show` is safe: the sizes, the window and the map are what `render` asks for. Assumes nothing.
use borrow.Author.Rules.{rules}
use Rattle.base_lists.specs.Lists.{all}
use Rattle.base_range.specs.Scan.{within}
use Rattle.film_settings.specs.Settings.{bins_of}
use Rattle.test_numbers.proofs.show.Goals as goal

pub render-requires : goal.render-requires
unfolding bins_of all within
render-requires c = (
  record {
    maps = record { across = search rules; down = search rules; scale = record { order = search rules; most = search rules; some = search rules; few = search rules; reach = search rules }; room = search rules; greys = search rules };
    columns = record { some = search rules; few = search rules; least = search rules; most = search rules };
    rows = record { some = search rules; few = search rules; least = search rules; most = search rules };
  },
  record { across = search rules; down = search rules; size = search rules; greys = search rules },
)
