-- Two proofs that entries are the same are one proof.
use Rattle.std.proofs.Common.{◌≡◌, List, refl, sym, ap, ◌∙◌, inl, inr}
use Rattle.std.specs.Prelude.{◌⊎◌}
use Rattle.std.proofs.Props.{props}
use mathlib.Core.HLevel.{collapsible→set, prop→set, Unit-prop}
use mathlib.Core.Sum.{⊎_set}
use Rattle.share_wire.specs.Messages.{OfferView}
use Rattle.share_entries.specs.Entry.{EntryView}
use Rattle.share_entries.specs.declared.entry.Source.{Source}
use Rattle.share_entries.specs.declared.entry.Source.TheVariants.{Clock, Offer}

retract_set : {A B : Type 0} (to : A → B) (from : B → A) → ((x : A) → from (to x) ≡ x) → IsSet B → IsSet A
retract_set to from back set = collapsible→set (λ x y p. sym (back x) ∙ ap from (ap to p) ∙ back y)
    (λ x y p q. ap (λ z. sym (back x) ∙ ap from z ∙ back y) (set (to x) (to y) (ap to p) (ap to q)))

offer_set : IsSet OfferView
offer_set = hlevel props

source_set : IsSet Source
source_set = retract_set {B = OfferView ⊎ Unit {0}} (elim [ Clock ↦ inr tt | Offer o ↦ inl o ]) (elim [ inl o ↦ Offer o | inr _ ↦ Clock ]) (elim [ Clock ↦ refl | Offer o ↦ refl ]) (⊎_set offer_set (prop→set Unit-prop))

entry_set : IsSet EntryView
entry_set = hlevel (props, source_set)

pub entries_set : IsSet (List EntryView)
entries_set = hlevel (props, entry_set)
