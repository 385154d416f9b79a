use Rattle.std.proofs.Common.{◌≡◌, true, cond, ◌++◌, ◌∷◌, [], ◌∙◌, ap, sym}
use Rattle.std.specs.BTreeMap.{is_at}
use Rattle.std.specs.BTreeSet.{contains}
use Rattle.std.specs.List.{list_any}
use Rattle.route_core.specs.Firsts.{same_route}
use Rattle.route_core.specs.Seen.{Holds, Key, key_cmp, key_of}
use Rattle.route_core.proofs.Seen.{grown}
use Rattle.route_core.proofs.firsts.add.Goals as goal

pub returns-in_ok-push-clause-holds : goal.returns-in_ok-push-clause-holds
returns-in_ok-push-clause-holds c =
    let updates : (q : Key) → contains key_cmp c.insert.new.self q ≡ cond (is_at (key_cmp (key_of c.args.route)) q) true (contains key_cmp c.args.seen.now q) =
    λ q. c.in_ok-insert.ensures.updates.0 q ∙ ap (λ (k : Key). cond (is_at (key_cmp k) q) true (contains key_cmp c.args.seen.now q)) c.key_of.ensures in
    let after : Holds c.insert.new.self (c.args.kept.now ++ c.args.route ∷ []) = grown c.args.seen.now c.insert.new.self c.args.kept.now c.args.route c.requires updates in
    λ r. after r ∙ ap (list_any (same_route r)) (sym c.in_ok-push.ensures.ok)
