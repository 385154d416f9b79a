use Rattle.std.proofs.Common.{rules, ◌≡◌, Option, None, Some, Err, subst, sym, refl}
use Rattle.std.specs.Option.{ok_or, option_map}
use Rattle.x3d_lists.specs.Answers.{Gives}
use Rattle.serde_json.specs.View.{view}
use Rattle.share_etcd.specs.declared.fault.AnswerFault.TheVariants.{Malformed, Memory}
use Rattle.share_etcd.specs.Keys.{text_of, head_key, tail_key, base_key, snapshot_key, log_front}
use Rattle.share_etcd.specs.Contents.{ContentsView, BasedView, OpeningView, single, pairs_at, log_by, contents_over, based_over, opening_by}
use Rattle.share_etcd.specs.Views.{contents_view, based_view, opening_view}
use Rattle.share_etcd.proofs.Failing.{some_of, fails_on}
use Rattle.share_etcd.proofs.opening.opening_over.Goals as goal

no_contents : (w : Option (Option ContentsView)) (b : Option (Option BasedView)) → w ≡ None → opening_by w b ≡ None
no_contents w b none = rw none refl

no_based : (w : Option (Option ContentsView)) (b : Option (Option BasedView)) (contents : Option ContentsView) → w ≡ Some contents → b ≡ None → opening_by w b ≡ None
no_based w b contents has none = rw (has, none) refl

both_there : (w : Option (Option ContentsView)) (b : Option (Option BasedView)) (contents : Option ContentsView) (based : Option BasedView) → w ≡ Some contents → b ≡ Some based → opening_by w b ≡ opening_by (Some contents) (Some based)
both_there w b contents based has also = rw (has, also) refl

pub returns-in_err-contents : goal.returns-in_err-contents
returns-in_err-contents c =
    let world = text_of c.args.name.now in
    let d = view c.args.answer.now in
    let w = contents_over (single (head_key world) (pairs_at 0 d)) (single (tail_key world) (pairs_at 1 d)) (log_by (log_front world) 1 (pairs_at 4 d)) in
    let b = based_over (single (base_key world) (pairs_at 2 d)) (single (snapshot_key world) (pairs_at 3 d)) in
    let failed : c.from_residual.result ≡ Err c.in_err-contents.field-0.0 = search rules in
    rw failed (fails_on w (opening_by w b) c.in_err-contents.field-0.0 (no_contents w b) c.in_err-contents.ensures)

pub returns-in_err-based : goal.returns-in_err-based
returns-in_err-based c =
    let world = text_of c.args.name.now in
    let d = view c.args.answer.now in
    let w = contents_over (single (head_key world) (pairs_at 0 d)) (single (tail_key world) (pairs_at 1 d)) (log_by (log_front world) 1 (pairs_at 4 d)) in
    let b = based_over (single (base_key world) (pairs_at 2 d)) (single (snapshot_key world) (pairs_at 3 d)) in
    let contents = option_map contents_view c.in_ok-contents.contents in
    let has : w ≡ Some contents = some_of w contents c.in_ok-contents.ensures in
    let failed : c.from_residual-in_err-based.result ≡ Err c.in_err-based.field-0.0 = search rules in
    rw failed (fails_on b (opening_by w b) c.in_err-based.field-0.0 (no_based w b contents has) c.in_err-based.ensures)

pub returns : goal.returns
returns c =
    let world = text_of c.args.name.now in
    let d = view c.args.answer.now in
    let w = contents_over (single (head_key world) (pairs_at 0 d)) (single (tail_key world) (pairs_at 1 d)) (log_by (log_front world) 1 (pairs_at 4 d)) in
    let b = based_over (single (base_key world) (pairs_at 2 d)) (single (snapshot_key world) (pairs_at 3 d)) in
    let contents = option_map contents_view c.in_ok-contents.contents in
    let based = option_map based_view c.in_ok-based.based in
    let has : w ≡ Some contents = some_of w contents c.in_ok-contents.ensures in
    let also : b ≡ Some based = some_of b based c.in_ok-based.ensures in
    let P : Option (Option OpeningView) → Type 0 = λ o. Gives Memory (option_map opening_view) c.opening_by.result (ok_or o Malformed) in
    subst P (sym (both_there w b contents based has also)) c.opening_by.ensures
