-- What a host begins with, and the entries that its base stands for.
use Rattle.std.specs.Prelude.{◌≡◌, ℕ, List, [], ◌++◌, Option, None, Some}
use Rattle.share_entries.specs.Base.{BaseView}
use Rattle.share_entries.specs.Entry.{EntryView}
use Rattle.share_logged.specs.Bases.{IsBaseOf}
use Rattle.app_standby.specs.State.{IsNowOf}
use Rattle.app_standby.specs.declared.origin.Origin.{Origin}
use Rattle.app_standby.specs.declared.state.Now.{Now}

-- the entries of a log of these viewers that its base stands for, in some run; none, if it has none
abbrev pub IsBelow : (viewers : ℕ) → Option BaseView → List EntryView → Type 0
IsBelow viewers None below = below ≡ []
IsBelow viewers (Some base) below = (run : List ℕ) × IsBaseOf run viewers below base

-- these are the entries below the base, and if there is a host, it is that of the origin's scene
-- which they and those that the log knows make
abbrev pub IsNowFrom : Origin → (below known : List EntryView) → Now → Type 0
IsNowFrom origin below known now =
    IsBelow origin.viewers origin.base below
    × IsNowOf origin.mark origin.viewers (below ++ known) now
