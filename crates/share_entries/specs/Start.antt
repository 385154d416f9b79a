-- Where the entries of a log begin.
use Rattle.std.specs.Prelude.{Option, None, Some}
use Rattle.share_entries.specs.declared.head.Head.{Head}
use Rattle.share_entries.specs.declared.start.Start.{Start}
use Rattle.share_entries.specs.Base.{BaseView}

-- a log without a base begins with the run, one with a base goes on from it
abbrev pub start_of : Head → Option BaseView → Start
start_of head None = record { below = 0; chain = head.run }
start_of head (Some base) = record { below = base.number; chain = base.chain }
