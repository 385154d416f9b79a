use Rattle.std.proofs.Common.{rules, ◌≡◌, List, Option, None, Some, Err, map, subst, sym, refl}
use Rattle.std.specs.Option.{ok_or, option_map}
use Rattle.x3d_lists.specs.Answers.{Gives}
use Rattle.serde_json.specs.View.{view}
use Rattle.share_etcd.specs.declared.fault.AnswerFault.TheVariants.{Malformed, Memory}
use Rattle.share_etcd.specs.Keys.{text_of, head_key, tail_key, log_front}
use Rattle.share_etcd.specs.Contents.{ValueView, FrameView, ContentsView, single, pairs_at, log_by, contents_by, contents_over}
use Rattle.share_etcd.specs.Views.{value_view, frame_view, contents_view}
use Rattle.share_etcd.proofs.Failing.{some_of, fails_on}
use Rattle.share_etcd.proofs.contents.contents_over.Goals as goal

no_tail : (h t : Option (Option ValueView)) (f : Option (List FrameView)) (head : Option ValueView) → h ≡ Some head → t ≡ None → contents_over h t f ≡ None
no_tail h t f head has none = rw (has, none) refl

no_log : (h t : Option (Option ValueView)) (f : Option (List FrameView)) (head tail : Option ValueView) → h ≡ Some head → t ≡ Some tail → f ≡ None → contents_over h t f ≡ None
no_log h t f head tail has also none = rw (has, also, none) refl

all_there : (h t : Option (Option ValueView)) (f : Option (List FrameView)) (head tail : Option ValueView) (frames : List FrameView) → h ≡ Some head → t ≡ Some tail → f ≡ Some frames → contents_over h t f ≡ contents_by head tail frames
all_there h t f head tail frames has also there = rw (has, also, there) refl

pub returns-in_err-tail : goal.returns-in_err-tail
returns-in_err-tail c =
    let world = text_of c.args.name.now in
    let d = view c.args.answer.now in
    let h = single (head_key world) (pairs_at 0 d) in
    let t = single (tail_key world) (pairs_at 1 d) in
    let f = log_by (log_front world) c.args.from (pairs_at c.args.place d) in
    let head = option_map value_view c.in_ok-head.head in
    let has : h ≡ Some head = some_of h head c.in_ok-head.ensures in
    let failed : c.from_residual-in_err-tail.result ≡ Err c.in_err-tail.field-0.0 = search rules in
    rw failed (fails_on t (contents_over h t f) c.in_err-tail.field-0.0 (no_tail h t f head has) c.in_err-tail.ensures)

pub returns-in_err-frames : goal.returns-in_err-frames
returns-in_err-frames c =
    let world = text_of c.args.name.now in
    let d = view c.args.answer.now in
    let h = single (head_key world) (pairs_at 0 d) in
    let t = single (tail_key world) (pairs_at 1 d) in
    let f = log_by (log_front world) c.args.from (pairs_at c.args.place d) in
    let head = option_map value_view c.in_ok-head.head in
    let tail = option_map value_view c.in_ok-tail.tail in
    let has : h ≡ Some head = some_of h head c.in_ok-head.ensures in
    let also : t ≡ Some tail = some_of t tail c.in_ok-tail.ensures in
    let failed : c.from_residual-in_err-frames.result ≡ Err c.in_err-frames.field-0.0 = search rules in
    rw failed (fails_on f (contents_over h t f) c.in_err-frames.field-0.0 (no_log h t f head tail has also) c.in_err-frames.ensures)

pub returns : goal.returns
returns c =
    let world = text_of c.args.name.now in
    let d = view c.args.answer.now in
    let h = single (head_key world) (pairs_at 0 d) in
    let t = single (tail_key world) (pairs_at 1 d) in
    let f = log_by (log_front world) c.args.from (pairs_at c.args.place d) in
    let head = option_map value_view c.in_ok-head.head in
    let tail = option_map value_view c.in_ok-tail.tail in
    let frames = map frame_view c.in_ok-frames.frames.items in
    let has : h ≡ Some head = some_of h head c.in_ok-head.ensures in
    let also : t ≡ Some tail = some_of t tail c.in_ok-tail.ensures in
    let there : f ≡ Some frames = some_of f frames c.in_ok-frames.ensures in
    let P : Option (Option ContentsView) → Type 0 = λ o. Gives Memory (option_map contents_view) c.contents_by.result (ok_or o Malformed) in
    subst P (sym (all_there h t f head tail frames has also there)) c.contents_by.ensures
