use Rattle.std.proofs.Common.{length}
use Rattle.std.specs.Cmp.{unsigned_Decides}
use Rattle.std.proofs.lemmas.Slice.Eq.{slice_eq-Decides}
use Rattle.embed_entries.proofs.Fronts.{front-is, taken-off}
use Rattle.embed_entries.proofs.reading.after_front.Goals as goal

pub returns-then-eq-clause-found : goal.returns-then-eq-clause-found
returns-then-eq-clause-found c =
    let front = c.args.front.now in
    let bytes = c.args.bytes.now in
    let head = c.in-Some.head.now in
    let rest = c.in-Some.rest.now in
    let parts = taken-off (length front) bytes head rest c.in-Some.ensures.value in
    let equal = slice_eq-Decides unsigned_Decides head front c.eq.result c.eq.ensures in
    front-is front bytes head rest parts.0 parts.1 (equal.0 c.if-eq.true)
