-- A box that is to take the place of a script has one answer, memory aside.
use Rattle.std.proofs.Common.{◌≡◌, false, refl, Some, None, inl, inr}
use Rattle.x3d_values.specs.declared.script.Kind.{Kind}
use Rattle.script_host.specs.Hosting.{SlotView}
use Rattle.cascade_core.specs.declared.fault.PlaceFault.{PlaceFault}
use Rattle.cascade_core.specs.declared.fault.PlaceFault.TheVariants as fault
use Rattle.cascade_core.specs.Held.{Held, is_spoiled}
use Rattle.cascade_core.specs.Installing.{RefusesBox}
use Rattle.cascade_core.specs.ScriptLaws.{PlacesOne}

-- where there is no script
none_there : (held : Held) (kind : Kind) (other : PlaceFault) → is_spoiled held ≡ false → RefusesBox other held None kind → fault.NoSuchScript ≡ other
none_there held kind fault.Spoiled h r = cc
none_there held kind fault.NoSuchScript h r = refl
none_there held kind fault.KindDiffers h r = absurd r
none_there held kind fault.Memory h r = absurd r

-- where there is one of another kind
other_there : (held : Held) (x : SlotView) (kind : Kind) (other : PlaceFault) → is_spoiled held ≡ false → (kind ≡ x.kind → ⊥) → RefusesBox other held (Some x) kind →
    fault.KindDiffers ≡ other
other_there held x kind fault.Spoiled h differs r = cc
other_there held x kind fault.NoSuchScript h differs r = cc
other_there held x kind fault.KindDiffers h differs r = refl
other_there held x kind fault.Memory h differs r = absurd (differs r)

pub places_one : PlacesOne
places_one held old kind fault.Memory other h r = inl refl
places_one held old kind fault.Spoiled other h r = cc
places_one held None kind fault.NoSuchScript other h r = inr (none_there held kind other h, λ fits. fits)
places_one held (Some x) kind fault.NoSuchScript other h r = cc
places_one held None kind fault.KindDiffers other h r = absurd r
places_one held (Some x) kind fault.KindDiffers other h r = inr (other_there held x kind other h r, λ fits. r fits)
