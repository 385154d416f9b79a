use Rattle.std.proofs.Common.{rules, ◌≡◌, ◌++◌, ◌∷◌, [], length, subst, sym}
use Rattle.std.specs.Prelude.{All}
use Rattle.cascade_trace.specs.Spans.{IsHead}
use Rattle.cascade_trace.proofs.Headings.{all-made, all-stay, span-of}
use Rattle.cascade_trace.proofs.labels.push_span.Goals as goal

pub returns-in_err-push_head : goal.returns-in_err-push_head
returns-in_err-push_head c =
    all-stay c.args.scene.now c.args.text.now.items c.push_head.new.out.items c.args.spans.now.items c.push_head.ensures.kept c.requires

pub returns-in_err-push : goal.returns-in_err-push
returns-in_err-push c =
    let same : c.push.new.self.items ≡ c.args.spans.now.items = search rules in
    subst (λ xs. All (IsHead c.args.scene.now c.push_head.new.out.items) xs) (sym same)
    (all-stay c.args.scene.now c.args.text.now.items c.push_head.new.out.items c.args.spans.now.items c.push_head.ensures.kept c.requires)

pub returns : goal.returns
returns c =
    let added : c.push.new.self.items ≡ c.args.spans.now.items ++ span-of c.args.source (length c.args.text.now.items) (length c.push_head.new.out.items) ∷ [] = search rules in
    all-made c.args.scene.now c.args.source c.args.text.now.items c.push_head.new.out.items c.args.spans.now.items c.push.new.self.items
    c.push_head.ensures.kept c.in_ok-push_head.ensures.ok added c.requires
