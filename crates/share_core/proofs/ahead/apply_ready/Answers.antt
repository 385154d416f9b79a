use Rattle.std.proofs.lemmas.Grind.{common_steps}
use Rattle.std.proofs.Common.{arith}
use Rattle.std.proofs.Common.{◌≡◌, ◌∙◌, ℕ, List, [], Ok, Err, sym, subst, rules}
use Rattle.std.specs.Prelude.{◌==◌}
use Rattle.std.proofs.lemmas.Bool.{cond-true, cond-false, eq-eqb, ne_eqb}
use Rattle.share_law.specs.declared.reply.Taken.TheVariants.{Held, Applied}
use Rattle.share_law.specs.Cascade.{cascade}
use Rattle.share_core.specs.Ahead.{IsDrained}
use Rattle.share_core.proofs.Rounds.{stepped, gone_on, fewer, ended, failed}
use Rattle.share_core.proofs.ahead.apply_ready.Goals as goal

pub overflow_add-count : goal.overflow_add-count
overflow_add-count g c =
    let i = c.loop-count.invariant in
    let applied = (i.5 []).applied in
    let most = i.3 in
    grind (arith, common_steps)

pub loop-count-smaller : goal.loop-count-smaller
loop-count-smaller g c =
    let i = c.loop-count.invariant in
    let l = c.loop-count in
    let n = c.apply_next.new in
    let step = λ (mark : List ℕ). stepped mark c.args.stage.now.scene c.args.stage.now.routes c.args.stage.now.held l.stage.held n.stage.held c.args.window.now l.window n.window l.count l.stage.scene l.stage.routes (Ok c.in_ok-apply_next.field-0) i.0 i.1 i.2 (c.in_ok-apply_next.ensures.step mark) in
    fewer [] c.args.stage.now.scene c.args.stage.now.routes c.args.stage.now.held l.stage.held n.stage.held c.args.window.now l.window n.window l.count c.in_ok-apply_next.field-0 c.if-branch.true c.apply_next.ensures.places (step []) (i.5 [])

pub loop-count-preserved : goal.loop-count-preserved
loop-count-preserved g c =
    let i = c.loop-count.invariant in
    let l = c.loop-count in
    let n = c.apply_next.new in
    let step = λ (mark : List ℕ). stepped mark c.args.stage.now.scene c.args.stage.now.routes c.args.stage.now.held l.stage.held n.stage.held c.args.window.now l.window n.window l.count l.stage.scene l.stage.routes (Ok c.in_ok-apply_next.field-0) i.0 i.1 i.2 (c.in_ok-apply_next.ensures.step mark) in
    let goes = λ (mark : List ℕ). gone_on mark c.args.stage.now.scene c.args.stage.now.routes c.args.stage.now.held l.stage.held n.stage.held c.args.window.now l.window n.window l.count c.in_ok-apply_next.field-0 c.if-branch.true c.apply_next.ensures.places (step mark) (i.5 mark) in
    (c.apply_next.ensures.scene ∙ i.0, c.apply_next.ensures.routes ∙ i.1, (goes []).0, c.apply_next.ensures.most, c.apply_next.ensures.place, λ mark. (goes mark).1)

pub returns-then-count-eq0-clause-step : goal.returns-then-count-eq0-clause-step
returns-then-count-eq0-clause-step g c =
    let i = c.loop-count.invariant in
    let l = c.loop-count in
    let n = c.apply_next.new in
    let step = λ (mark : List ℕ). stepped mark c.args.stage.now.scene c.args.stage.now.routes c.args.stage.now.held l.stage.held n.stage.held c.args.window.now l.window n.window l.count l.stage.scene l.stage.routes (Ok c.in_ok-apply_next.field-0) i.0 i.1 i.2 (c.in_ok-apply_next.ensures.step mark) in
    λ mark. ended mark c.args.stage.now.scene c.args.stage.now.routes c.args.stage.now.held l.stage.held n.stage.held c.args.window.now l.window n.window l.count c.in_ok-apply_next.field-0 (Ok Held) c.if-branch.false
    (cond-true (l.count == 0) (Ok Held) (Ok (Applied l.count)) (eq-eqb l.count 0 c.if-count-eq0.true)) c.apply_next.ensures.places (step mark) (i.5 mark)

pub returns-else-count-eq0-clause-step : goal.returns-else-count-eq0-clause-step
returns-else-count-eq0-clause-step g c =
    let i = c.loop-count.invariant in
    let l = c.loop-count in
    let n = c.apply_next.new in
    let step = λ (mark : List ℕ). stepped mark c.args.stage.now.scene c.args.stage.now.routes c.args.stage.now.held l.stage.held n.stage.held c.args.window.now l.window n.window l.count l.stage.scene l.stage.routes (Ok c.in_ok-apply_next.field-0) i.0 i.1 i.2 (c.in_ok-apply_next.ensures.step mark) in
    λ mark. ended mark c.args.stage.now.scene c.args.stage.now.routes c.args.stage.now.held l.stage.held n.stage.held c.args.window.now l.window n.window l.count c.in_ok-apply_next.field-0 (Ok (Applied l.count)) c.if-branch.false
    (cond-false (l.count == 0) (Ok Held) (Ok (Applied l.count)) (ne_eqb l.count 0 c.if-count-eq0.false)) c.apply_next.ensures.places (step mark) (i.5 mark)

pub returns-in_err-apply_next-clause-step : goal.returns-in_err-apply_next-clause-step
returns-in_err-apply_next-clause-step g c =
    let i = c.loop-count.invariant in
    let l = c.loop-count in
    let n = c.apply_next.new in
    let fault = c.in_err-apply_next.field-0.0 in
    let same : c.from_residual.result ≡ Err fault = search rules in
    let step = λ (mark : List ℕ). stepped mark c.args.stage.now.scene c.args.stage.now.routes c.args.stage.now.held l.stage.held n.stage.held c.args.window.now l.window n.window l.count l.stage.scene l.stage.routes (Err fault) i.0 i.1 i.2 (c.in_err-apply_next.ensures.step mark) in
    let drained = λ (mark : List ℕ). failed mark c.args.stage.now.scene c.args.stage.now.routes c.args.stage.now.held l.stage.held n.stage.held c.args.window.now l.window n.window l.count fault c.apply_next.ensures.places (step mark) (i.5 mark) in
    λ mark w is. subst (λ r. IsDrained (cascade mark c.args.stage.now.scene c.args.stage.now.routes) w c.args.window.now r n.stage.held n.window) (sym same) (drained mark w is)
