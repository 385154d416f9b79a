use Rattle.std.proofs.Common.{rules, FitsSigned, w64, ℤ, ℕ, List, ◌++◌, pos, ◌≤ℤ◌, ◌∙◌, ◌+◌, ◌-◌, ◌^◌, min, sym, subst, ap}
use Rattle.std.proofs.lemmas.Int.{to_z-of_z}
use Rattle.share_logged.specs.Resting.{IsSettled}
use Rattle.share_logged.specs.Turn.{IsLoggedEnd, IsLoggedTurn}
use Rattle.share_logged.proofs.Behind.{end-behind, turn-behind}
use Rattle.share_logged.proofs.Keeping.{gathered-wide}
use Rattle.share_logged.proofs.Resting.{rested, rested-current, rested-shows}
use Rattle.share_logged.proofs.Showing.{end-shows}
use Rattle.share_logged.proofs.Turning.{gathered_whole}
use Rattle.share_logged.proofs.turn.logged_turn.Goals as goal

pub invariant_of-result : goal.invariant_of-result
invariant_of-result g c =
    let d = c.in-Ok.ensures.done in
    let old : FitsSigned w64 c.hosting.inside.last = search rules in
    let wide : FitsSigned w64 c.hosting.inside.host.part.last = subst (λ (t : ℤ). FitsSigned w64 t) c.hosting.invariant.0 old in
    let from = subst (λ (t : ℤ). pos 0 ≤ℤ t) c.hosting.invariant.0 c.hosting.invariant.1 in
    let new =
    gathered-wide gathered_whole c.hosting.inside.host.mark c.args.clock (g.P.Port.told c.args.port.now) d.between c.hosting.inside.host.part c.turn.new.host.part
    c.nobody-came.result c.turn.new.heard d.takings d.entries from wide d.gathered in
    let fits : FitsSigned w64 c.turn.new.last = subst (λ (t : ℤ). FitsSigned w64 t) (sym c.in-Ok.ensures.last) new in
    let time = c.saturating_add.ensures ∙ ap (λ (n : ℕ). min (n + c.settle-millis.result) (2 ^ 64 - 1)) c.hosting.invariant.2 ∙ sym c.settle-millis.ensures.clock in
    rw (to_z-of_z w64 c.turn.new.last fits) (c.in-Ok.ensures.last ∙ sym c.settle-millis.ensures.last, c.in-Ok.ensures.from, time)

pub returns-in-Ok-clause-done : goal.returns-in-Ok-clause-done
returns-in-Ok-clause-done g c =
    let clean = g.L.Log.is_clean c.turn.new.log in
    let known = g.L.Log.known c.args.log.now in
    let stored = g.L.Log.known c.turn.new.log in
    let a = g.P.Port.told c.args.port.now in
    let m = g.P.Port.told c.turn.new.port in
    let done : IsLoggedTurn c.args.hosting.mark c.args.clock clean known stored a m c.args.hosting.part c.turn.new.host.part c.nobody-came.result c.turn.new.heard = search rules in
    let settled : IsSettled c.args.keep c.turn.new.heard c.turn.new.host.part c.settle-millis.new.host.part c.args.hosting.attendance c.settle-millis.new.attendance c.settle-millis.result = search rules in
    rested c.args.hosting.mark c.args.keep c.args.clock clean known stored a m (g.P.Port.told c.settle-millis.new.port) (g.P.Port.rested c.args.port.now) (g.P.Port.rested c.turn.new.port)
    (g.P.Port.rested c.settle-millis.new.port) c.args.hosting.part c.turn.new.host.part c.settle-millis.new.host.part c.nobody-came.result c.turn.new.heard
    c.args.hosting.attendance c.settle-millis.new.attendance c.settle-millis.result
    c.nobody-came.ensures done settled c.settle-millis.ensures.told c.turn.ensures.time c.settle-millis.ensures.time

pub returns-in-Ok-clause-current : goal.returns-in-Ok-clause-current
returns-in-Ok-clause-current g c = λ v below clean is.
    let clean_now = g.L.Log.is_clean c.turn.new.log in
    let known = g.L.Log.known c.args.log.now in
    let stored = g.L.Log.known c.turn.new.log in
    let a = g.P.Port.told c.args.port.now in
    let m = g.P.Port.told c.turn.new.port in
    let done : IsLoggedTurn c.args.hosting.mark c.args.clock clean_now known stored a m c.args.hosting.part c.turn.new.host.part c.nobody-came.result c.turn.new.heard = search rules in
    let settled : IsSettled c.args.keep c.turn.new.heard c.turn.new.host.part c.settle-millis.new.host.part c.args.hosting.attendance c.settle-millis.new.attendance c.settle-millis.result = search rules in
    let whole = turn-behind c.args.hosting.mark c.args.clock clean_now below known stored a m c.args.hosting.part c.nobody-came.result c.turn.new.host.part c.turn.new.heard done in
    rested-current v c.args.hosting.mark c.args.keep c.args.clock clean_now (below ++ known) (below ++ stored) a m c.args.hosting.part c.turn.new.host.part c.settle-millis.new.host.part
    c.nobody-came.result c.turn.new.heard c.args.hosting.attendance c.settle-millis.new.attendance c.settle-millis.result whole settled clean is

pub returns-in-Ok-clause-shown : goal.returns-in-Ok-clause-shown
returns-in-Ok-clause-shown g c = λ v below clean is.
    let clean_now = g.L.Log.is_clean c.turn.new.log in
    let known = g.L.Log.known c.args.log.now in
    let stored = g.L.Log.known c.turn.new.log in
    let a = g.P.Port.told c.args.port.now in
    let m = g.P.Port.told c.turn.new.port in
    let done : IsLoggedTurn c.args.hosting.mark c.args.clock clean_now known stored a m c.args.hosting.part c.turn.new.host.part c.nobody-came.result c.turn.new.heard = search rules in
    let whole = turn-behind c.args.hosting.mark c.args.clock clean_now below known stored a m c.args.hosting.part c.nobody-came.result c.turn.new.host.part c.turn.new.heard done in
    rested-shows v c.args.hosting.mark c.args.clock clean_now (below ++ known) (below ++ stored) a m (g.P.Port.told c.settle-millis.new.port) c.args.hosting.part c.turn.new.host.part
    c.nobody-came.result c.turn.new.heard whole c.settle-millis.ensures.told clean is

pub returns-in-Err-clause-ended : goal.returns-in-Err-clause-ended
returns-in-Err-clause-ended g c =
    let clean = g.L.Log.is_clean c.turn.new.log in
    let known = g.L.Log.known c.args.log.now in
    let stored = g.L.Log.known c.turn.new.log in
    let a = g.P.Port.told c.args.port.now in
    let b = g.P.Port.told c.turn.new.port in
    let ended : IsLoggedEnd c.args.hosting.mark c.args.clock c.in-Err.fault clean known stored a b c.args.hosting.part c.nobody-came.result = search rules in
    subst (λ (h : List ℕ). IsLoggedEnd c.args.hosting.mark c.args.clock c.in-Err.fault clean known stored a b c.args.hosting.part h) c.nobody-came.ensures ended

pub returns-in-Err-clause-shown : goal.returns-in-Err-clause-shown
returns-in-Err-clause-shown g c = λ v below clean is.
    let clean_now = g.L.Log.is_clean c.turn.new.log in
    let known = g.L.Log.known c.args.log.now in
    let stored = g.L.Log.known c.turn.new.log in
    let a = g.P.Port.told c.args.port.now in
    let b = g.P.Port.told c.turn.new.port in
    let ended : IsLoggedEnd c.args.hosting.mark c.args.clock c.in-Err.fault clean_now known stored a b c.args.hosting.part c.nobody-came.result = search rules in
    end-shows v c.args.hosting.mark c.args.clock c.in-Err.fault clean_now (below ++ known) (below ++ stored) a b c.args.hosting.part c.nobody-came.result
    (end-behind c.args.hosting.mark c.args.clock clean_now below known stored a b c.args.hosting.part c.nobody-came.result c.in-Err.fault ended) clean is
