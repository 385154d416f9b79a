-- What the parts of a call do.
use Rattle.std.specs.Prelude.{◌≡◌, ◌⊎◌, ℕ, ◌+◌, ℤ, [], ◌∷◌, ◌++◌, Option, None, Some, Result, Ok}
use Rattle.std.specs.Prelude.{Err}
use Rattle.x3d_values.specs.declared.pointing.Point.{Point}
use Rattle.x3d_values.specs.declared.stamped.Cause.{Cause}
use Rattle.share_law.specs.declared.fault.NumberFault.{NumberFault}
use Rattle.share_law.specs.declared.fault.NumberFault.TheVariants.{Memory}
use Rattle.share_law.specs.Parts.{fault_behind}
use Rattle.share_core.specs.declared.waiting.OfferedPoint.{OfferedPoint}
use Rattle.share_core.specs.Host.{HostInputsView}

-- ---- the host

-- the number of an event at time t, and the inputs with it; or why it has no number
abbrev pub listed : HostInputsView → ℤ → Cause → Option NumberFault
    → Result ℕ NumberFault × HostInputsView
listed e t cause (Some fault) = (Err fault, e)
listed e t cause None = (
  Ok (e.count + 1),
  record e {
    rest = e.rest ++ record { number = e.count + 1; time = t; cause = cause } ∷ [];
    count = e.count + 1;
    last = t;
  },
)

-- Like `listed`, for real inputs. Memory is refused only if there is no other fault; then nothing
-- changes.
abbrev pub IsListed : HostInputsView → ℤ → Cause → Result ℕ NumberFault → HostInputsView → Type 0
IsListed e t cause result new =
    (listed e t cause (fault_behind e.count e.last t) ≡ (result, new))
    ⊎ ((fault_behind e.count e.last t ≡ None) × (result ≡ Err Memory) × (new ≡ e))

-- ---- a viewer

-- an offered point, as it is given to `offer`
abbrev pub point_aimed : OfferedPoint → Point
point_aimed a = record { down = a.down; origin = a.ray.origin; dir = a.ray.dir }
