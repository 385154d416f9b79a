use Rattle.std.proofs.Common.{rules, ◌≡◌, replicate, ◌∙◌, ap, arith}
use Rattle.app_commands.proofs.Staging.{are_stages, for_memory, fresh_stages, one_more, stage_count}
use Rattle.app_commands.proofs.stages.with_others.Goals as goal

pub loop-stage-preserved : goal.loop-stage-preserved
loop-stage-preserved c = (
  one_more c.args.text.now c.loop-stage._stage c.args.first c.in_ok-stage_of.field-0 c.loop-stage.stages.items c.push-in-loop-stage.new.self.items
      c.requires.first c.in_ok-stage_of.ensures.ok c.loop-stage.invariant.0 c.in_ok-push-2.ensures.items,
  omega (arith, c.loop-stage-test.true),
)

pub returns-in_err-stage_of-clause-err : goal.returns-in_err-stage_of-clause-err
returns-in_err-stage_of-clause-err c =
    let refused = for_memory c.args.text.now c.args.first _ c.requires.first c.in_err-stage_of.ensures.err in
    search rules

pub returns-clause-stages : goal.returns-clause-stages
returns-clause-stages c =
    let all : c.loop-stage._stage ≡ c.args.count = omega (arith, c.loop-stage.invariant.1, c.loop-stage-test.false) in
    are_stages c.args.text.now c.args.count c.args.first c.loop-stage.stages.items c.requires.first
    (c.loop-stage.invariant.0 ∙ ap (λ n. replicate n c.args.first) all)

pub returns-clause-fresh : goal.returns-clause-fresh
returns-clause-fresh c = fresh_stages c.args.text.now c.args.count c.loop-stage.stages.items (returns-clause-stages c)

pub returns-clause-count : goal.returns-clause-count
returns-clause-count c = stage_count c.args.text.now c.args.count c.loop-stage.stages.items (returns-clause-stages c)
