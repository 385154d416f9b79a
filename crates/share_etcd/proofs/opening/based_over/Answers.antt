use Rattle.std.proofs.Common.{rules, ◌≡◌, Option, None, Some, Err, subst, sym, refl}
use Rattle.std.specs.Option.{ok_or, option_map}
use Rattle.x3d_lists.specs.Answers.{Gives}
use Rattle.serde_json.specs.View.{view}
use Rattle.share_etcd.specs.declared.fault.AnswerFault.TheVariants.{Malformed, Memory}
use Rattle.share_etcd.specs.Keys.{text_of, base_key, snapshot_key}
use Rattle.share_etcd.specs.Contents.{ValueView, BasedView, single, pairs_at, based_by, based_over}
use Rattle.share_etcd.specs.Views.{value_view, based_view}
use Rattle.share_etcd.proofs.Failing.{some_of, fails_on}
use Rattle.share_etcd.proofs.opening.based_over.Goals as goal

no_snapshot : (b s : Option (Option ValueView)) (base : Option ValueView) → b ≡ Some base → s ≡ None → based_over b s ≡ None
no_snapshot b s base has none = rw (has, none) refl

both_there : (b s : Option (Option ValueView)) (base snapshot : Option ValueView) → b ≡ Some base → s ≡ Some snapshot → based_over b s ≡ based_by base snapshot
both_there b s base snapshot has also = rw (has, also) refl

pub returns-in_err-snapshot : goal.returns-in_err-snapshot
returns-in_err-snapshot c =
    let world = text_of c.args.name.now in
    let d = view c.args.answer.now in
    let b = single (base_key world) (pairs_at 2 d) in
    let s = single (snapshot_key world) (pairs_at 3 d) in
    let base = option_map value_view c.in_ok-base.base in
    let has : b ≡ Some base = some_of b base c.in_ok-base.ensures in
    let failed : c.from_residual-in_err-snapshot.result ≡ Err c.in_err-snapshot.field-0.0 = search rules in
    rw failed (fails_on s (based_over b s) c.in_err-snapshot.field-0.0 (no_snapshot b s base has) c.in_err-snapshot.ensures)

pub returns : goal.returns
returns c =
    let world = text_of c.args.name.now in
    let d = view c.args.answer.now in
    let b = single (base_key world) (pairs_at 2 d) in
    let s = single (snapshot_key world) (pairs_at 3 d) in
    let base = option_map value_view c.in_ok-base.base in
    let snapshot = option_map value_view c.in_ok-snapshot.snapshot in
    let has : b ≡ Some base = some_of b base c.in_ok-base.ensures in
    let also : s ≡ Some snapshot = some_of s snapshot c.in_ok-snapshot.ensures in
    let P : Option (Option BasedView) → Type 0 = λ o. Gives Memory (option_map based_view) c.based_by.result (ok_or o Malformed) in
    subst P (sym (both_there b s base snapshot has also)) c.based_by.ensures
