-- `looks_of_starts` gives the looks of starts that find full bins only, from a quotient and a remainder.
use Rattle.tile_clip.proofs.Looked.{onward_code}
use Rattle.tile_clip.proofs.looks_of_starts.Goals as goal

pub returns : goal.returns
returns c = onward_code c.args.step c.args.n c.requires.0
