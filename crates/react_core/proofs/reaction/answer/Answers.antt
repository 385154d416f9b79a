use Rattle.std.proofs.Common.{rules, sym}
use Rattle.react_core.proofs.AnswerLemmas.{answer-interpolator}
use Rattle.react_core.proofs.reaction.answer.Goals as goal

pub returns-then-is_interpolator : goal.returns-then-is_interpolator
returns-then-is_interpolator c =
    let same = answer-interpolator c.args.node_type c.args.fields.now c.args.event.now.field c.args.event.now.value.now c.args.event.now.time (sym c.if-is_interpolator.ensures) in
    rw same
    (record {
      fields = search rules;
      replies = c.interpolator.ensures.replies;
      refused_fields = search rules;
      refused_replies = c.interpolator.ensures.refused_replies;
      no_memory = c.interpolator.ensures.no_memory;
    })
