-- White space is passed over, and the sample behind it judged.
use native.Mathlib.Omega.{arith}
use Rattle.pgm_header.proofs.Reading.{white_le}
use Rattle.pgm_plain.proofs.Samples.{sample_token}
use Rattle.pgm_plain.proofs.next_sample.Goals as goal

pub token-requires : goal.token-requires
token-requires c = omega (arith, c.white_end-from.ensures, white_le c.args.s.now c.args.at c.requires)

pub returns : goal.returns
returns c = sample_token _ _ _ c.white_end-from.ensures c.token.ensures
