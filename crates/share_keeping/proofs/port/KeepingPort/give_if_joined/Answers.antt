use Rattle.std.proofs.Common.{◌∙◌, refl, sym, true}
use Rattle.std.specs.Prelude.{None}
use Rattle.share_keeping.specs.Joiners.{are_some}
use Rattle.share_keeping.proofs.Resting.{rest_none, rest_some}
use Rattle.share_keeping.proofs.port.KeepingPort.give_if_joined.Goals as goal

pub returns-then-are_some-clause-given : goal.returns-then-are_some-clause-given
returns-then-are_some-clause-given g c =
    rest_some c.args.self.now.mark c.args.self.now.stage c.give_pieces.result c.args.self.now.joiners c.give_pieces.new.self.joiners c.args.self.now.shot c.give_pieces.new.self.shot
    (g.P.Port.told c.args.self.now.port) (g.P.Port.told c.give_pieces.new.self.port) (are_some c.args.self.now.joiners)
    (sym c.are_some.ensures ∙ c.if-are_some.true) c.give_pieces.ensures.given

pub returns-else-are_some-clause-given : goal.returns-else-are_some-clause-given
returns-else-are_some-clause-given g c =
    rest_none c.args.self.now.mark c.args.self.now.stage true c.args.self.now.joiners c.args.self.now.joiners c.args.self.now.shot None
    (g.P.Port.told c.args.self.now.port) (g.P.Port.told c.args.self.now.port) (are_some c.args.self.now.joiners)
    (sym c.are_some.ensures ∙ c.if-are_some.false) refl (record { dropped = refl; joiners = refl; told = refl })
