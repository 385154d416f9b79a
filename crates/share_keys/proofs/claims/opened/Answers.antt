use Rattle.std.proofs.Common.{rules, ◌≡◌, ◌∙◌, Some, None}
use Rattle.share_keys.specs.Claims.{opened_in}
use Rattle.share_keys.proofs.Openings.{opened_only}
use Rattle.share_keys.proofs.claims.opened.Goals as goal

pub returns-in_default-clause-only : goal.returns-in_default-clause-only
returns-in_default-clause-only c who datagram is =
    let none : None ≡ opened_in c.args.keys.now c.args.bytes.now = search rules in
    none ∙ opened_only c.args.keys.now who datagram c.args.bytes.now is

pub returns-in_default-get-clause-only : goal.returns-in_default-get-clause-only
returns-in_default-get-clause-only c who datagram is =
    let none : None ≡ opened_in c.args.keys.now c.args.bytes.now = search rules in
    none ∙ opened_only c.args.keys.now who datagram c.args.bytes.now is

pub returns-in_default-unsealed-clause-only : goal.returns-in_default-unsealed-clause-only
returns-in_default-unsealed-clause-only c who datagram is =
    let none : None ≡ opened_in c.args.keys.now c.args.bytes.now = search rules in
    none ∙ opened_only c.args.keys.now who datagram c.args.bytes.now is

pub returns-clause-only : goal.returns-clause-only
returns-clause-only c who datagram is =
    let some : Some (c.in-Some.who, c.in-Some-unsealed.datagram.now) ≡ opened_in c.args.keys.now c.args.bytes.now = search rules in
    some ∙ opened_only c.args.keys.now who datagram c.args.bytes.now is
