use Rattle.std.proofs.Common.{refl, [], ◌∷◌}
use Rattle.share_welcomes.proofs.Telling.{grows_one, on_err, on_ok, sent_plain, sent_says, sent_text}
use Rattle.share_welcomes.proofs.port.HostPortPort.send.Goals as goal

pub send_two-requires : goal.send_two-requires
send_two-requires g c = c.requires

pub send_one-requires : goal.send_one-requires
send_one-requires g c = c.requires

pub returns-then-is_two-clause-ok : goal.returns-then-is_two-clause-ok
returns-then-is_two-clause-ok g c =
    let r = c.args.self.now.run in
    on_ok c.send_two.result (λ h. grows_one r c.send_two.new.self.run c.send_two.ensures.run (g.P.Port.told c.args.self.now.port) (g.P.Port.told c.send_two.new.self.port)
    (sent_text c.args.to h.0 ∷ []) (sent_text c.args.to c.args.bytes.now ∷ []) (sent_says r c.args.to h.0 c.args.bytes.now h.2) h.3) c.send_two.ensures.ok

pub returns-then-is_two-clause-err : goal.returns-then-is_two-clause-err
returns-then-is_two-clause-err g c =
    on_err c.send_two.result (λ h. grows_one c.args.self.now.run c.send_two.new.self.run c.send_two.ensures.run (g.P.Port.told c.args.self.now.port) (g.P.Port.told c.send_two.new.self.port)
    [] [] refl h) c.send_two.ensures.err

pub returns-else-is_two-clause-ok : goal.returns-else-is_two-clause-ok
returns-else-is_two-clause-ok g c =
    let r = c.args.self.now.run in
    on_ok c.send_one.result (λ h. grows_one r c.send_one.new.self.run c.send_one.ensures.run (g.P.Port.told c.args.self.now.port) (g.P.Port.told c.send_one.new.self.port)
    (sent_text c.args.to c.args.bytes.now ∷ []) (sent_text c.args.to c.args.bytes.now ∷ []) (sent_plain r c.args.to c.args.bytes.now h.0) h.1) c.send_one.ensures.ok

pub returns-else-is_two-clause-err : goal.returns-else-is_two-clause-err
returns-else-is_two-clause-err g c =
    on_err c.send_one.result (λ h. grows_one c.args.self.now.run c.send_one.new.self.run c.send_one.ensures.run (g.P.Port.told c.args.self.now.port) (g.P.Port.told c.send_one.new.self.port)
    [] [] refl h) c.send_one.ensures.err
