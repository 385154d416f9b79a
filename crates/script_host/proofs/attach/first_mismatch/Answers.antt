use Rattle.std.proofs.Common.{rules, arith, below_more, ◌≡◌, ◌∙◌, sym, Err}
use Rattle.std.proofs.lemmas.List.{length-map}
use Rattle.script_host.specs.Hosting.{fresh_record}
use Rattle.script_host.specs.Attaching.{Meets}
use Rattle.script_host.proofs.AttachLemmas.{refuses_at, all_meet}
use Rattle.script_host.proofs.PairLemmas.{PairAt-map}
use Rattle.script_host.proofs.attach.first_mismatch.Goals as goal

pub returns-in-Some : goal.returns-in-Some
returns-in-Some g c =
    refuses_at (fresh_record g.B.Behaviour.kind_of g.B.Behaviour.numbers) c.args.specs.now c.args.scripts.now c.loop-k.k
    c.index-specs-k.result c.index-scripts-k.result c.in-Some.fault (omega arith) (omega arith)
    c.index-specs-k.is c.index-scripts-k.is c.requires.known (c.requires.count ∙ sym (length-map _ _)) c.loop-k.invariant
    (search rules)

pub loop-k-preserved : goal.loop-k-preserved
loop-k-preserved g c =
    below_more _ _ c.loop-k.invariant
    (PairAt-map Meets (fresh_record g.B.Behaviour.kind_of g.B.Behaviour.numbers) c.args.specs.now c.args.scripts.now c.loop-k.k
    c.index-specs-k.result c.index-scripts-k.result (omega arith) (omega arith)
    c.index-specs-k.is c.index-scripts-k.is (search rules))

pub returns-in_err-fault : goal.returns-in_err-fault
returns-in_err-fault g c =
    let failed : c.from_residual.result ≡ Err c.in_err-fault.field-0.0 = search rules in
    rw failed tt

pub returns : goal.returns
returns g c =
    all_meet (fresh_record g.B.Behaviour.kind_of g.B.Behaviour.numbers) c.args.specs.now c.args.scripts.now c.loop-k.k (omega arith)
    c.requires.known c.requires.count c.loop-k.invariant
