use Rattle.std.proofs.Common.{◌≡◌, sym, Some, length, arith}
use Rattle.cascade_trace.specs.Bits.{place_of}
use Rattle.cascade_trace.proofs.Marks.{place-within, marked-push}
use Rattle.cascade_trace.proofs.sent.SentBits.push.Goals as goal

pub index_mut-requires : goal.index_mut-requires
index_mut-requires c =
    let found : place_of c.self.inside.starts.items c.args.source ≡ Some c.in-Some.place = sym (rw c.deref.ensures.value at c.in-Some.ensures) in
    omega (arith, place-within c.self.inside.starts.items (length c.self.inside.bits.items) c.self.invariant.places c.args.source c.in-Some.place found, c.self.inside.bits.ok)

pub invariant_of-self-in-Some : goal.invariant_of-self-in-Some
invariant_of-self-in-Some c =
    let found : place_of c.self.inside.starts.items c.args.source ≡ Some c.in-Some.place = sym (rw c.deref.ensures.value at c.in-Some.ensures) in
    rw c.in_ok-push.ensures.items (marked-push c.self.inside.starts.items c.self.inside.bits.items c.self.inside.ends.items c.args.source c.in-Some.place c.self.invariant found)
