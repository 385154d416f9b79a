use Rattle.std.proofs.Common.{rules, ap, ℕ, List, Option}
use Rattle.share_law.specs.Pieces.{Gathering}
use Rattle.share_core.proofs.Stored.{begin-invariant, begin-places}
use Rattle.share_core.proofs.gathering.Pieces.begin.Goals as goal

pub invariant_of-result : goal.invariant_of-result
invariant_of-result c = begin-invariant c.args.size c.in_ok-bytes.bytes.items c.in_ok-there.there.items (search rules) (search rules) c.requires

pub returns : goal.returns
returns c =
    ap (λ (p : List (Option (List ℕ))). let g : Gathering = record { boot = c.args.boot; applied = c.args.applied; length = c.args.size; places = p } in g) (begin-places c.args.size c.in_ok-bytes.bytes.items c.in_ok-there.there.items (search rules))
