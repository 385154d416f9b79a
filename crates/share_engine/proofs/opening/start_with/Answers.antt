use Rattle.std.proofs.Common.{Option, sym, ◌∙◌, ap}
use Rattle.std.specs.Option.{option_map}
use Rattle.share_entries.specs.Start.{start_of}
use Rattle.share_engine.specs.declared.opening.WorldBase.{WorldBase}
use Rattle.share_engine.proofs.opening.start_with.Goals as goal

pub returns-in-Some-clause-value : goal.returns-in-Some-clause-value
returns-in-Some-clause-value c =
    c.start_at.ensures.value c.args.head.now
    ∙ ap (λ (w : Option WorldBase). start_of c.args.head.now (option_map (λ (it : WorldBase). it.base) w)) (sym c.in-Some.is)
