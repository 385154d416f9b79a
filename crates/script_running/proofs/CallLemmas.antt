-- What all calls of scripts keep, and values through their numbers.
use Rattle.std.proofs.Common.{◌≡◌, ◌<◌, ◌^◌, ◌-◌, ℕ, zero, suc, ℤ, pos, negsuc, List, [], ◌∷◌, true, false, Option, Some, None, IsSomeAnd, refl, ap, ◌∙◌, arith, slice_get, slice_set}
use Rattle.std.proofs.lemmas.Bool.{ltb-true, le-ltb}
use Rattle.x3d_values.specs.declared.value.Value.TheVariants.{SFBool, SFInt32, SFFloat, SFTime, SFVec3f}
use Rattle.script_host.specs.Behaviour.{Call}
use Rattle.script_host.specs.Hosting.{CalledAt, SlotView, after_call, answer_of}
use Rattle.script_slots.specs.declared.reply.Reply.{Reply}
use Rattle.script_host.specs.States.{integer_fits}
use Rattle.script_running.specs.Acting.{act, acting, kinds_of}
use Rattle.script_running.specs.Laws.{KindsStand, ValuesReturn}
use Rattle.script_running.specs.Ports.{PortsView}
use Rattle.script_running.specs.Values.{as_integer}

-- a script is put in the place of one of its kind
kinds-set : (scripts : List SlotView) (k : ℕ) (r after : SlotView) → slice_get scripts k ≡ Some r → after.kind ≡ r.kind →
    kinds_of (slice_set scripts k after) ≡ kinds_of scripts
kinds-set [] k r after here same = refl
kinds-set (x ∷ scripts) zero r after here same = cc
kinds-set (x ∷ scripts) (suc k) r after here same = ap (λ kinds. x.kind ∷ kinds) (kinds-set scripts k r after here same)

kinds-acting : (ports : PortsView) (call : Call) (k : ℕ) (scripts : List SlotView) (place : Option SlotView) → slice_get scripts k ≡ place →
    kinds_of (acting ports call k scripts place).scripts ≡ kinds_of scripts
kinds-acting ports call k scripts None here = refl
kinds-acting ports call k scripts (Some r) here = kinds-set scripts k r (after_call call r) here refl

pub kinds_stand : KindsStand
unfolding act
kinds_stand ports call k scripts = kinds-acting ports call k scripts (slice_get scripts k) refl

-- a call on one of them
pub kinds_kept : (call : Call) (k : ℕ) (old new : List SlotView) (replies : List Reply) → CalledAt call k old new replies →
    kinds_of new ≡ kinds_of old
kinds_kept call k old new replies h = at (slice_get old k) refl h
  where
    at : (place : Option SlotView) → slice_get old k ≡ place →
        IsSomeAnd place (λ r. (new ≡ slice_set old k (after_call call r)) × (replies ≡ (answer_of call r).replies)) →
        kinds_of new ≡ kinds_of old
    at (Some r) here h = ap kinds_of h.0 ∙ kinds-set old k r (after_call call r) here refl
    at None here h = absurd h

-- a number of 32 bits is the nearest one
integer-stays : (z : ℤ) → integer_fits z ≡ true → as_integer z ≡ z
integer-stays (pos n) fits =
    let below : n < 2 ^ 31 = ltb-true n (2 ^ 31) fits in
    rw (le-ltb (2 ^ 31 - 1) n (omega arith)) refl
integer-stays (negsuc n) fits =
    let below : n < 2 ^ 31 = ltb-true n (2 ^ 31) fits in
    rw (le-ltb (2 ^ 31 - 1) n (omega arith)) refl

pub values_return : ValuesReturn
values_return (SFBool true) sent = refl
values_return (SFBool false) sent = refl
values_return (SFInt32 number) sent = ap SFInt32 (integer-stays number sent)
values_return (SFFloat number) sent = refl
values_return (SFTime time) sent = refl
values_return (SFVec3f place) sent = refl
values_return _ sent = absurd sent
