use Rattle.std.proofs.Common.{rules, pos, ◌+ℤ◌, FitsSigned, w64, [], ◌∷◌, ap}
use Rattle.std.proofs.lemmas.Int.{to_z-of_z}
use Rattle.share_entries.specs.Entry.{EntryView}
use Rattle.share_logged.proofs.gather.offer_entry.Goals as goal

pub returns-in-Offer : goal.returns-in-Offer
returns-in-Offer c =
    let fits : FitsSigned w64 c.args.last = search rules in
    let more : FitsSigned w64 (c.args.last +ℤ pos 1) = search rules in
    let made = rw (to_z-of_z w64 c.args.last fits, to_z-of_z w64 (c.args.last +ℤ pos 1) more) at c.new.ensures in
    rw c.in-Offer.is (ap (λ (e : EntryView). e ∷ []) made)
