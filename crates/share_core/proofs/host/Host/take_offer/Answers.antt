use Rattle.std.proofs.Common.{ap, sym, ◌∙◌, ◌+ℤ◌, pos, subst, Ok, rules}
use Rattle.std.specs.Prelude.{slice_get, Err}
use Rattle.x3d_values.specs.declared.stamped.Cause.TheVariants.{Pointer}
use Rattle.x3d_values.specs.Pointing.{PointerView}
use Rattle.share_wire.specs.declared.message.Body.TheVariants.{Offer}
use Rattle.share_law.specs.declared.reply.HostReply.TheVariants.{Numbered}
use Rattle.share_law.specs.Calls.{IsPartTake}
use Rattle.share_core.specs.Host.{HostView, part_with}
use Rattle.share_core.specs.Steps.{IsListed}
use Rattle.share_core.proofs.Offers.{take-answered, take-numbered}
use Rattle.share_core.proofs.SomeParts.{some-refused, some-taken}
use Rattle.share_core.proofs.host.Host.take_offer.Goals as goal

pub returns-in-Some-reply_before-clause-step : goal.returns-in-Some-reply_before-clause-step
returns-in-Some-reply_before-clause-step c =
    let e = c.self.inside.inputs in
    let kept = c.self.inside.kept.items in
    let who = c.who-who.ensures.value ∙ ap (λ p. p.who) c.pointer.ensures in
    let at = ap (slice_get c.self.inside.kept.items) (sym who) ∙ sym c.kept_of.ensures ∙ c.in-Some.is in
    let reply = sym c.reply_before.ensures ∙ c.in-Some-reply_before.is in
    subst (λ (v : HostView). IsPartTake v.part (Offer c.args.offer) (Ok c.in-Some-reply_before.reply) v.part) c.self.view_is
    (take-answered (part_with e kept) c.args.offer c.in-Some.kept c.in-Some-reply_before.reply at reply)

pub returns-in-Ok-clause-step : goal.returns-in-Ok-clause-step
returns-in-Ok-clause-step c =
    let e = c.self.inside.inputs in
    let kept = c.self.inside.kept.items in
    let who = c.who-who.ensures.value ∙ ap (λ p. p.who) c.pointer.ensures in
    let at = ap (slice_get c.self.inside.kept.items) (sym who) ∙ sym c.kept_of.ensures ∙ c.in-Some.is in
    let reply = sym c.reply_before.ensures ∙ c.in_default-reply_before.is in
    subst (λ (v : HostView). IsPartTake v.part (Offer c.args.offer) (Ok (Numbered c.in-Ok.number)) (part_with c.add_next.new.self c.set_kept.new.kept.items)) c.self.view_is
    (take-numbered e kept c.args.offer c.in-Some.kept c.pointer-2.result c.who-who.result c.boot.result c.number.result c.in-Ok.number c.add_next.new.self c.set_kept.new.kept.items
    c.pointer-2.ensures who c.boot.ensures.value c.number.ensures.value at reply c.in-Ok.ensures c.set_kept.ensures)

pub invariant_of-self : goal.invariant_of-self
invariant_of-self c =
    let e = c.self.inside.inputs in
    let kept = c.self.inside.kept.items in
    let who = c.who-who.ensures.value ∙ ap (λ p. p.who) c.pointer.ensures in
    let at = ap (slice_get c.self.inside.kept.items) (sym who) ∙ sym c.kept_of.ensures ∙ c.in-Some.is in
    let reply = sym c.reply_before.ensures ∙ c.in_default-reply_before.is in
    let taken = take-numbered e kept c.args.offer c.in-Some.kept c.pointer-2.result c.who-who.result c.boot.result c.number.result c.in-Ok.number c.add_next.new.self c.set_kept.new.kept.items
    c.pointer-2.ensures who c.boot.ensures.value c.number.ensures.value at reply c.in-Ok.ensures c.set_kept.ensures in
    (search rules, c.self.invariant.1, some-taken (part_with e kept) (part_with c.add_next.new.self c.set_kept.new.kept.items) c.args.offer (Ok (Numbered c.in-Ok.number)) taken c.self.invariant.2)

pub invariant_of-self-in-Err : goal.invariant_of-self-in-Err
invariant_of-self-in-Err c =
    let who = c.who-who.ensures.value ∙ ap (λ p. p.who) c.pointer.ensures in
    let at = ap (slice_get c.self.inside.kept.items) (sym who) ∙ sym c.kept_of.ensures ∙ c.in-Some.is in
    let reply = sym c.reply_before.ensures ∙ c.in_default-reply_before.is in
    let listed = subst (λ (p : PointerView). IsListed c.self.inside.inputs (c.self.inside.inputs.last +ℤ pos 1) (Pointer p) (Err c.in-Err.fault) c.add_next.new.self) c.pointer-2.ensures c.in-Err.ensures in
    (c.self.invariant.0, c.self.invariant.1, some-refused c.self.inside.inputs c.add_next.new.self c.self.inside.kept.items c.args.offer c.in-Some.kept c.in-Err.fault at reply listed c.self.invariant.2)
