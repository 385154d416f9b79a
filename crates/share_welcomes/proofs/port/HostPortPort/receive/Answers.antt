use Rattle.std.proofs.Common.{rules, refl, take, [], ◌∷◌}
use Rattle.share_turns.specs.declared.traffic.Traffic.TheVariants.{Nothing}
use Rattle.share_welcomes.proofs.Telling.{grows_one, received_one}
use Rattle.share_welcomes.proofs.port.HostPortPort.receive.Goals as goal

pub returns-in-Ok-Some-clause-got : goal.returns-in-Ok-Some-clause-got
returns-in-Ok-Some-clause-got g c =
    let got = rw c.in-Ok-Some.field-0-is at c.in-Ok-Some.ensures.got in
    let told = c.take-count.ensures.told in (
      c.take-count.ensures.most,
      received_one c.args.self.now.run c.take-count.new.self.run (search rules) c.args.self.now.learned c.in-Ok-Some.from (take c.in-Ok-Some.count c.fetch.new.into)
          (take c.take-count.result c.take-count.new.into) (g.P.Port.told c.args.self.now.port) (g.P.Port.told c.fetch.new.self.port) (g.P.Port.told c.take-count.new.self.port) told.0
          got.1 (search rules) (search rules) told.2,
    )

pub returns-in-Ok-None-clause-got : goal.returns-in-Ok-None-clause-got
returns-in-Ok-None-clause-got g c =
    let got = rw c.in-Ok-None.field-0-is at c.in-Ok-None.ensures.got in
    grows_one c.args.self.now.run c.fetch.new.self.run c.fetch.ensures.run (g.P.Port.told c.args.self.now.port) (g.P.Port.told c.fetch.new.self.port) (Nothing ∷ []) (Nothing ∷ []) refl got

pub returns-in-Err-clause-got : goal.returns-in-Err-clause-got
returns-in-Err-clause-got g c =
    grows_one c.args.self.now.run c.fetch.new.self.run c.fetch.ensures.run (g.P.Port.told c.args.self.now.port) (g.P.Port.told c.fetch.new.self.port) [] [] refl c.in-Err.ensures.got
