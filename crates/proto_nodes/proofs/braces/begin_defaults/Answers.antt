use Rattle.std.proofs.Common.{ap, sym, ◌∙◌}
use Rattle.proto_parts.specs.Given as table
use Rattle.proto_nodes.specs.Shown.{shown}
use Rattle.proto_nodes.specs.Does.{filling_comes, inside_now}
use Rattle.proto_nodes.specs.Frames.{holder_comes, task_comes}
use Rattle.proto_nodes.proofs.Begun.{filling-begins, instance-closes, none-filled}
use Rattle.proto_nodes.proofs.braces.begin_defaults.Goals as goal

pub returns-clause-goes : goal.returns-clause-goes
unfolding holder_comes task_comes
returns-clause-goes c =
    λ ps p k. instance-closes ps p c.args.proto c.args.opened.name (inside_now ps c.args.opened) c.enter-scope.result (shown c.args.walker.now).walk.scope (shown c.args.walker.now).room (shown c.args.walker.now).walk.put k c.enter-scope.ensures.around
    ∙ ap (λ s. filling_comes ps (record { proto = c.args.proto; name = c.args.opened.name; at = c.args.opened.at; scope = c.enter-scope.result }) c.args.proto.now.tree.now.defaults (table.shown c.args.opened.inside.given) s) (sym c.enter-scope.ensures.shown)
    ∙ filling-begins ps (record { proto = c.args.proto; name = c.args.opened.name; at = c.args.opened.at; scope = c.enter-scope.result }) c.args.proto.now.tree.now.defaults (table.shown c.args.opened.inside.given)
    (record { rest = c.as_slice.result; given = c.args.opened.inside.given; defaults = c.new-defaults.result; around = c.in_ok-around.around }) (shown c.enter-scope.new.self)
    c.in_ok-around.ensures.ok c.as_slice.ensures (none-filled (table.shown c.args.opened.inside.given) (table.shown c.new-defaults.result) c.new-defaults.ensures.list)
