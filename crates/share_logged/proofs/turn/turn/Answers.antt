use Rattle.std.proofs.Common.{rules, ◌≡◌, ◌≢◌, [], ◌++◌, List, refl, ap, subst, ◌∙◌}
use Rattle.std.specs.Prelude.{Err}
use Rattle.share_entries.specs.Entry.{EntryView}
use Rattle.share_logged.specs.declared.fault.LoggedFault.TheVariants.{Log, Turn}
use Rattle.share_logged.proofs.Turning.{turn_answered, turn_cut, turn_ended, turn_unstored}
use Rattle.share_logged.proofs.turn.turn.Goals as goal

pub returns-in_err-gather-clause-ended : goal.returns-in_err-gather-clause-ended
returns-in_err-gather-clause-ended g c =
    let fault = c.in_err-gather.field-0.0 in
    let failed : c.from_residual.result ≡ Err (Turn fault) = search rules in
    let known = g.L.Log.known c.args.log.now in
    let a = g.P.Port.told c.args.port.now in
    let b = g.P.Port.told c.gather.new.port in
    rw failed (turn_cut c.args.host.now.mark c.args.clock (g.L.Log.is_clean c.args.log.now) known known a b b c.args.host.now.part c.gather.new.host.part c.args.heard.now c.gather.new.heard
    c.gather.new.pending.entries c.gather.new.pending.notes.items fault c.in_err-gather.ensures.gathered refl)

pub returns-in_err-store-clause-ended : goal.returns-in_err-store-clause-ended
returns-in_err-store-clause-ended g c =
    let fault = c.in_err-store.field-0.0 in
    let failed : c.from_residual-in_err-store.result ≡ Err (Log fault) = search rules in
    let known = g.L.Log.known c.args.log.now in
    let stored = g.L.Log.known c.store.new.log in
    let a = g.P.Port.told c.args.port.now in
    let b = g.P.Port.told c.gather.new.port in
    let some = subst (λ (l : List EntryView). l ≢ []) c.as_slice.ensures.items c.in_err-store.ensures.some in
    rw failed (turn_unstored c.args.host.now.mark c.args.clock (g.L.Log.is_clean c.store.new.log) known stored a b b c.args.host.now.part c.gather.new.host.part c.args.heard.now c.gather.new.heard
    c.gather.new.pending.entries c.gather.new.pending.notes.items fault c.in_ok-gather.ensures.gathered some c.in_err-store.ensures.refused)

pub returns-clause-done : goal.returns-clause-done
returns-clause-done g c =
    let known = g.L.Log.known c.args.log.now in
    let stored = g.L.Log.known c.store.new.log in
    let sent = rw c.in_ok-gather.ensures.mark at c.answer.ensures.sent in
    turn_answered c.args.host.now.mark c.args.clock (g.L.Log.is_clean c.store.new.log) known stored (g.P.Port.told c.args.port.now) (g.P.Port.told c.gather.new.port) (g.P.Port.told c.answer.new.port)
    c.args.host.now.part c.gather.new.host.part c.args.heard.now c.gather.new.heard c.gather.new.pending.entries c.gather.new.pending.notes.items c.answer.result
    c.in_ok-gather.ensures.gathered (λ clean. c.in_ok-store.ensures.stored clean ∙ ap (λ (l : List EntryView). known ++ l) c.as_slice.ensures.items) sent

pub returns-clause-ended : goal.returns-clause-ended
returns-clause-ended g c =
    let known = g.L.Log.known c.args.log.now in
    let stored = g.L.Log.known c.store.new.log in
    let sent = rw c.in_ok-gather.ensures.mark at c.answer.ensures.sent in
    turn_ended c.args.host.now.mark c.args.clock (g.L.Log.is_clean c.store.new.log) known stored (g.P.Port.told c.args.port.now) (g.P.Port.told c.gather.new.port) (g.P.Port.told c.answer.new.port)
    c.args.host.now.part c.gather.new.host.part c.args.heard.now c.gather.new.heard c.gather.new.pending.entries c.gather.new.pending.notes.items c.answer.result
    c.in_ok-gather.ensures.gathered (λ clean. c.in_ok-store.ensures.stored clean ∙ ap (λ (l : List EntryView). known ++ l) c.as_slice.ensures.items) sent c.answer.ensures.fault
