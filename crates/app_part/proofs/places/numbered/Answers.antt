use Rattle.std.proofs.Common.{subst}
use Rattle.std.specs.Prelude.{IfSome}
use Rattle.app_part.specs.Apart.{IsApart}
use Rattle.app_part.proofs.Judged.{numbered_made}
use Rattle.app_part.proofs.places.numbered.Goals as goal

pub returns : goal.returns
returns c =
    numbered_made c.args.text.now c.args.document.now c.in-Some.made c.numbered_as.result
    (subst (λ o. IfSome o (IsApart c.args.text.now)) c.in-Some.is c.in_ok-made.ensures) c.numbered_as.ensures
