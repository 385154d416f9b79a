use Rattle.std.proofs.Common.{◌≡◌, ◌<◌, ◌++◌, ap, sym, ◌∙◌, arith, drop}
use Rattle.classic_lenient.specs.Scan.{scan}
use Rattle.classic_lenient.proofs.Scanning.{on_skip, on_none, on_some, one_more}
use Rattle.classic_lenient.proofs.scan.step.Goals as goal

pub returns-then-place-gt0 : goal.returns-then-place-gt0
returns-then-place-gt0 c =
    ap (λ x. c.args.found.now ++ x) (on_skip c.args.place.skip c.args.place.around c.args.rest.now c.requires c.if-place-gt0.true)

pub returns-then-len-eq0 : goal.returns-then-len-eq0
returns-then-len-eq0 c =
    let zero-is : 0 ≡ c.args.place.skip = omega arith in
    ap (λ x. c.args.found.now ++ x)
    (ap (λ b. scan 0 b (drop 1 c.args.rest.now)) c.passed.ensures
    ∙ on_none c.args.place.around c.args.rest.now _ c.requires (sym c.unread_len-len.ensures.value ∙ c.if-len-eq0.true)
    ∙ ap (λ k. scan k c.args.place.around c.args.rest.now) zero-is)

pub returns : goal.returns
returns c =
    let zero-is : 0 ≡ c.args.place.skip = omega arith in
    let some : 0 < c.unread_len-len.result = omega arith in
    one_more _ _ _ _ _ _ c.in_ok-push.ensures.ok c.unread_of.ensures
    (on_some c.args.place.around c.args.rest.now c.unread_len-len.result c.requires some c.unread_len-len.ensures.value
    ∙ ap (λ k. scan k c.args.place.around c.args.rest.now) zero-is)
