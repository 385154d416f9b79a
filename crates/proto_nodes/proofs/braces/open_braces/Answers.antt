use Rattle.proto_nodes.specs.Shown.{shown}
use Rattle.proto_nodes.specs.Frames.{holder_comes, task_comes}
use Rattle.proto_nodes.proofs.Begun.{braces-open}
use Rattle.proto_nodes.proofs.braces.open_braces.Goals as goal

pub returns-clause-goes : goal.returns-clause-goes
unfolding holder_comes task_comes
returns-clause-goes c =
    λ ps. braces-open ps c.args.text.line c.in_ok-at.at c.args.text.name c.args.text.word c.args.owner c.args.text.items c.new-inside.result (shown c.args.walker.now) (shown c.open_braces.new.self)
    c.in_ok-at.ensures.0 c.new-inside.ensures.owner c.new-inside.ensures.fields c.new-inside.ensures.filled
