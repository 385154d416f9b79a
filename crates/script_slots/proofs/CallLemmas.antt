-- The script at a place, and a call of it.
use Rattle.std.proofs.Common.{◌≡◌, sym, refl, ap, subst, ℕ, ℤ, ◌<◌, List, length, slice_index_or, slice_set}
use Rattle.std.specs.Prelude.{IsTrue, IsSomeAnd}
use Rattle.std.proofs.lemmas.Option.{slice_get_read}
use Rattle.script_slots.specs.declared.reply.Reply.{Reply}
use Rattle.script_slots.specs.Behaviour.{Call}
use Rattle.script_slots.specs.Events.{takes_event}
use Rattle.script_slots.specs.Hosting.{SlotView, answer_of, after_call, CalledAt, TakesAt}

pub takes_at : (k input : ℕ) (event : List ℤ) (old : List SlotView) (r : SlotView) → TakesAt k input event old → k < length old → r ≡ slice_index_or old k r → IsTrue (takes_event r.kind input event)
takes_at k input event old r takes there is = takes r (slice_get_read old (length old) k r refl there is)

pub called_at : (call : Call) (k : ℕ) (old : List SlotView) (r after : SlotView) (replies : List Reply) → k < length old → r ≡ slice_index_or old k r → after ≡ after_call call r → replies ≡ (answer_of call r).replies → CalledAt call k old (slice_set old k after) replies
called_at call k old r after replies there is e f =
    subst (λ o. IsSomeAnd o (λ r. (slice_set old k after ≡ slice_set old k (after_call call r)) × (replies ≡ (answer_of call r).replies)))
    (sym (slice_get_read old (length old) k r refl there is)) (ap (slice_set old k) e, f)
