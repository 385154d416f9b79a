use Rattle.std.proofs.Common.{refl}
use Rattle.share_session.specs.declared.message.Welcome.{Welcome}
use Rattle.share_session.proofs.WelcomeLaws.{answers_it}
use Rattle.share_session.proofs.message.Hello.welcome.Goals as goal

pub returns-clause-answers : goal.returns-clause-answers
returns-clause-answers c =
    let h = c.args.self.now in
    let w : Welcome = record { mark = h.mark; who = h.who; cookie = c.args.cookie; nonce = h.nonce; run = c.args.run; viewers = c.args.viewers; kept = c.args.kept } in
    answers_it h w refl refl refl
