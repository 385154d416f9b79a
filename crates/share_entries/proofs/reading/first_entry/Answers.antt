use Rattle.std.proofs.lemmas.Int.{to_z-of_z}
use Rattle.std.proofs.Common.{FitsSigned, w64, rules}
use Rattle.share_entries.proofs.reading.first_entry.Goals as goal

pub new-requires : goal.new-requires
new-requires c =
    let fits : FitsSigned w64 c.in-Some.time = search rules in
    rw (to_z-of_z w64 c.in-Some.time fits) c.in-Some.ensures.fits
