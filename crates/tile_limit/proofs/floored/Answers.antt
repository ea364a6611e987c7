-- `tile_limit::floored` meets its contract. What the code makes of the factor's bits is the factor times 2 ^ 23 (`proofs/Pattern.antt`),
use native.Mathlib.Omega.{arith}
use Prim.Native.Nat.{◌*◌, ◌/◌, ◌≤◌, max}
use mathlib.Core.Path.{◌≡◌, sym, subst}
use lib.Dec.{T}
use lib.Ieee.{binary32, fits}
use Rattle.tile_limit.specs.Limit.{floored_of}
use Rattle.tile_limit.proofs.Laws.{floored_most}
use Rattle.tile_limit.proofs.Pattern.{not_nan, field_least, field_most, whole_of, whole_fits, floored_code, pattern_fits}
use Rattle.tile_limit.proofs.floored.Goals as goal

pub float_to_bits-bits : goal.float_to_bits-bits
float_to_bits-bits c = not_nan _ c.requires.good

pub overflow_cast-bits : goal.overflow_cast-bits
overflow_cast-bits c = record { fits = pattern_fits _ ((let it : T (fits binary32 c.args.factor) = subst T (sym c.well_formed.0.1) tt in it)) }

pub overflow_sub-whole : goal.overflow_sub-whole
overflow_sub-whole c = omega (arith, field_least _ ((let it : T (fits binary32 c.args.factor) = subst T (sym c.well_formed.0.1) tt in it)) c.requires.good)

pub overflow_shl-whole : goal.overflow_shl-whole
overflow_shl-whole c = omega (arith, field_most _ ((let it : T (fits binary32 c.args.factor) = subst T (sym c.well_formed.0.1) tt in it)) c.requires.good)

pub overflow_mul-whole : goal.overflow_mul-whole
overflow_mul-whole c = omega (arith, whole_fits c.args.factor c.args.pixels ((let it : T (fits binary32 c.args.factor) = subst T (sym c.well_formed.0.1) tt in it)) c.requires.good c.requires.pixels)

pub overflow_cast-result : goal.overflow_cast-result
overflow_cast-result c = omega (arith, c.max.ensures, (let it : floored_of c.args.factor c.args.pixels c.args.bins ≡ max 1 (whole_of c.args.factor c.args.pixels / (c.args.bins * 8388608)) = floored_code _ _ _ ((let it : T (fits binary32 c.args.factor) = subst T (sym c.well_formed.0.1) tt in it)) c.requires.good c.requires.least in it), (let it : floored_of c.args.factor c.args.pixels c.args.bins ≤ 2147483648 = floored_most _ _ _ c.requires.good c.requires.pixels c.requires.least in it))

pub returns : goal.returns
returns c = omega (arith, c.max.ensures, (let it : floored_of c.args.factor c.args.pixels c.args.bins ≡ max 1 (whole_of c.args.factor c.args.pixels / (c.args.bins * 8388608)) = floored_code _ _ _ ((let it : T (fits binary32 c.args.factor) = subst T (sym c.well_formed.0.1) tt in it)) c.requires.good c.requires.least in it))
