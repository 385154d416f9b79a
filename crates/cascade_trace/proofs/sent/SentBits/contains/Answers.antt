use Rattle.std.proofs.Common.{◌≡◌, ◌<◌, sym, Some, false, length, get_or, arith}
use Rattle.std.proofs.lemmas.List.{get_or_read}
use Rattle.cascade_trace.specs.Bits.{place_of}
use Rattle.cascade_trace.specs.Ends.{has_sent}
use Rattle.cascade_trace.proofs.Marks.{place-within, marked-get}
use Rattle.cascade_trace.proofs.sent.SentBits.contains.Goals as goal

pub index-requires : goal.index-requires
index-requires c =
    let found : place_of c.self.inside.starts.items c.args.source ≡ Some c.in-Some.place = sym (rw c.deref.ensures.value at c.in-Some.ensures) in
    omega (arith, place-within c.self.inside.starts.items (length c.self.inside.bits.items) c.self.invariant.places c.args.source c.in-Some.place found, c.self.inside.bits.ok)

pub returns-in-Some : goal.returns-in-Some
returns-in-Some c =
    let found : place_of c.self.inside.starts.items c.args.source ≡ Some c.in-Some.place = sym (rw c.deref.ensures.value at c.in-Some.ensures) in
    let within : c.in-Some.place < length c.self.inside.bits.items =
    place-within c.self.inside.starts.items (length c.self.inside.bits.items) c.self.invariant.places c.args.source c.in-Some.place found in
    let read : c.index.result.now ≡ get_or c.self.inside.bits.items c.in-Some.place false = get_or_read c.self.inside.bits.items c.in-Some.place _ within c.index.ensures false in
    let same : get_or c.self.inside.bits.items c.in-Some.place false ≡ has_sent c.self.inside.ends.items c.args.source =
    marked-get c.self.inside.starts.items c.self.inside.bits.items c.self.inside.ends.items c.args.source c.in-Some.place false c.self.invariant found in
    cc (read, same, c.self.view_is)
