use Rattle.std.proofs.Common.{arith}
use Rattle.x3d_numerals.proofs.FewDigits.{numeral_of}
use Rattle.x3d_numerals.proofs.short.is_short.Goals as goal

pub returns : goal.returns
returns c =
    λ yes. numeral_of c.args.text.now c.cut_sign-minus.result.1.now c.cut_sign-minus.ensures.rest (omega (arith, c.if-rest-gt-MOST_SHORT.false)) (c.is_plain.ensures yes)
