-- Which answers of a log let a host go on.
use Rattle.std.specs.Prelude.{Bool, true, false}
use Rattle.share_pending.specs.declared.answer.AppendAnswer.{AppendAnswer}
use Rattle.share_pending.specs.declared.answer.AppendAnswer.TheVariants.{InDoubt, Stored, Taken}

-- a host goes on only if its entries are stored
abbrev pub goes_on : AppendAnswer → Bool
goes_on Stored = true
goes_on Taken = false
goes_on InDoubt = false
