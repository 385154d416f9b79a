use Rattle.std.proofs.Common.{rules, ◌≡◌, [], ◌∷◌, ◌+◌, length, take, refl, inl, inr, ap, sym, subst, ◌∙◌, arith}
use Rattle.std.specs.Prelude.{Ok, Err}
use Rattle.share_turns.specs.declared.traffic.Traffic.TheVariants.{Nothing}
use Rattle.share_turns.specs.declared.fault.TurnFault.TheVariants.{Memory, Port}
use Rattle.share_turns.proofs.Answering.{went_on}
use Rattle.share_turns.proofs.Sending.{grows_none}
use Rattle.share_logged.specs.Notes.{AllNumbered}
use Rattle.share_logged.proofs.Gathering.{gather_cut, gather_end, gather_unclocked, gathered_begun, gathered_more}
use Rattle.share_logged.proofs.gather.gather.Goals as goal

pub loop-datagram-init : goal.loop-datagram-init
loop-datagram-init g c =
    let none = c.begin.ensures.notes ∙ c.requires.blank in
    let told = g.P.Port.told c.args.port.now in
    record {
      gathered = gathered_begun c.args.host.now.mark c.args.clock told c.args.host.now.part c.begin.new.host.part c.args.heard.now c.begin.new.pending.entries
          c.begin.new.pending.notes.items c.in_ok-begin.ensures.step none;
      mark = c.begin.ensures.mark;
      time = refl;
      failures = refl;
      numbered = subst (AllNumbered c.begin.new.host.part) (sym none) tt;
      last = c.begin.ensures.last;
      from = c.begin.ensures.from;
      few = c.begin.ensures.few;
      fewer = omega (arith, ap length none);
    }

pub loop-datagram-preserved : goal.loop-datagram-preserved
loop-datagram-preserved g c =
    let l = c.loop-datagram in
    let t = c.in_ok-take_read-in-Some.ensures in
    let got = rw c.in-Some.is at c.in_ok-from.ensures.got in
    let hearing = rw (c.mark-mark.ensures.value, c.viewers-viewers.ensures, c.decode-read.ensures.exact) at c.hear.ensures in
    let noted = rw l.invariant.mark at t.noted in
    record {
      gathered = gathered_more went_on c.args.host.now.mark c.args.clock (g.P.Port.told c.args.port.now) (g.P.Port.told l.port) (g.P.Port.told c.receive.new.self)
          c.in-Some.from (take c.in-Some.count c.receive.new.into) c.decode-read.result c.args.host.now.part l.host.part c.take_read.new.host.part c.args.heard.now l.heard c.hear.new.heard l._datagram
          l.pending.entries c.take_read.new.pending.entries l.pending.notes.items c.take_read.new.pending.notes.items l.invariant.gathered c.decode-read.ensures.exact got.1 hearing noted tt;
      mark = t.mark ∙ l.invariant.mark;
      time = c.receive.ensures.time ∙ l.invariant.time;
      failures = c.in_ok-from.ensures.failures ∙ l.invariant.failures;
      numbered = t.numbered;
      last = t.last;
      from = t.from;
      few = omega (arith, t.few, l.invariant.few);
      fewer = omega (arith, t.fewer, l.invariant.fewer);
    }

pub returns-in_err-begin-clause-gathered : goal.returns-in_err-begin-clause-gathered
returns-in_err-begin-clause-gathered g c =
    let failed : c.from_residual.result ≡ Err Memory = search rules in
    let none = c.begin.ensures.notes ∙ c.requires.blank in
    rw failed (gather_unclocked c.args.host.now.mark c.args.clock (g.P.Port.told c.args.port.now) c.args.host.now.part c.begin.new.host.part c.args.heard.now
    c.begin.new.pending.entries c.begin.new.pending.notes.items c.in_err-begin.ensures.step none)

pub returns-in_err-from-clause-gathered : goal.returns-in_err-from-clause-gathered
returns-in_err-from-clause-gathered g c =
    let failed : c.from_residual-in_err-from.result ≡ Err Port = search rules in
    let l = c.loop-datagram in
    rw failed (gather_end (Err Port) c.args.host.now.mark c.args.clock (g.P.Port.told c.args.port.now) (g.P.Port.told l.port) (g.P.Port.told c.receive.new.self)
    c.args.host.now.part l.host.part c.args.heard.now l.heard l._datagram l.pending.entries l.pending.notes.items [] l.invariant.gathered (0, refl) (omega (arith, c.loop-datagram-test.true)) refl c.in_err-from.ensures.got)

pub returns-in-None-clause-gathered : goal.returns-in-None-clause-gathered
returns-in-None-clause-gathered g c =
    let got = rw c.in-None.is at c.in_ok-from.ensures.got in
    let l = c.loop-datagram in
    gather_end (Ok tt) c.args.host.now.mark c.args.clock (g.P.Port.told c.args.port.now) (g.P.Port.told l.port) (g.P.Port.told c.receive.new.self)
    c.args.host.now.part l.host.part c.args.heard.now l.heard l._datagram l.pending.entries l.pending.notes.items (Nothing ∷ []) l.invariant.gathered (0, refl) (omega (arith, c.loop-datagram-test.true)) (inl refl) got

pub returns-clause-gathered : goal.returns-clause-gathered
returns-clause-gathered g c =
    let l = c.loop-datagram in
    let told = g.P.Port.told l.port in
    let count : l._datagram ≡ 64 = omega (arith, c.loop-datagram-test.false) in
    gather_end (Ok tt) c.args.host.now.mark c.args.clock (g.P.Port.told c.args.port.now) told told
    c.args.host.now.part l.host.part c.args.heard.now l.heard l._datagram l.pending.entries l.pending.notes.items [] l.invariant.gathered (0, refl) (omega (arith, count)) (inr (refl, count)) (grows_none told)

pub returns-in_err-take_read-in-Some-clause-gathered : goal.returns-in_err-take_read-in-Some-clause-gathered
returns-in_err-take_read-in-Some-clause-gathered g c =
    let fault = c.in_err-take_read-in-Some.field-0.0 in
    let failed : c.from_residual-in_err-take_read-in-Some.result ≡ Err fault = search rules in
    let l = c.loop-datagram in
    let got = rw c.in-Some.is at c.in_ok-from.ensures.got in
    let hearing = rw (c.mark-mark.ensures.value, c.viewers-viewers.ensures, c.decode-read.ensures.exact) at c.hear.ensures in
    let noted = rw l.invariant.mark at c.in_err-take_read-in-Some.ensures.noted in
    rw failed (gather_cut fault c.args.host.now.mark c.args.clock (g.P.Port.told c.args.port.now) (g.P.Port.told c.receive.new.self)
    c.args.host.now.part c.take_read.new.host.part c.args.heard.now c.hear.new.heard (l._datagram + 1) c.take_read.new.pending.entries c.take_read.new.pending.notes.items
    (gathered_more (Err fault) c.args.host.now.mark c.args.clock (g.P.Port.told c.args.port.now) (g.P.Port.told l.port) (g.P.Port.told c.receive.new.self)
    c.in-Some.from (take c.in-Some.count c.receive.new.into) c.decode-read.result c.args.host.now.part l.host.part c.take_read.new.host.part c.args.heard.now l.heard c.hear.new.heard l._datagram
    l.pending.entries c.take_read.new.pending.entries l.pending.notes.items c.take_read.new.pending.notes.items l.invariant.gathered c.decode-read.ensures.exact got.1 hearing noted
    c.in_err-take_read-in-Some.ensures.fault) (omega (arith, c.loop-datagram-test.true)))
