use Rattle.std.proofs.Common.{ℕ, List, sym, subst}
use Rattle.std.specs.Prelude.{Some}
use Rattle.share_pending.specs.Written.{ShowsStored}
use Rattle.share_pending.proofs.Shows.{floor-shows}
use Rattle.share_pending.proofs.waiting.Waiting.floor_packet.Goals as goal

pub returns-clause-shown : goal.returns-clause-shown
returns-clause-shown c =
    let mark = c.args.host.now.mark in
    let p = c.args.host.now.part in
    subst (λ (o : List ℕ). ShowsStored mark p c.args.self.now (Some o)) (sym c.floor_packet.ensures.bytes) (floor-shows mark p c.args.self.now)
