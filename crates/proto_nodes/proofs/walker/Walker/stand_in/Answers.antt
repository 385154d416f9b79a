use Rattle.std.proofs.Common.{◌≡◌, ◌∙◌, ap, refl, rules}
use Rattle.proto_parts.specs.Joins.{instance_by}
use Rattle.proto_parts.specs.Sides.{made_routes}
use Rattle.proto_parts.specs.Scope as scope
use Rattle.proto_parts.specs.Scope.{closed_at}
use Rattle.proto_nodes.proofs.Stepping.{stands}
use Rattle.proto_nodes.proofs.walker.Walker.stand_in.Goals as goal

pub returns : goal.returns
returns c =
    let same : c.in_ok-ends.ends.value ≡ c.args.ends = search rules in (
      stands c.args.name.now c.args.at (instance_by c.args.node c.args.ends) (made_routes c.args.routes) c.args.self.now (record c.args.self.now { put = c.rename.new.self; scope = c.close.new.self }) c.add_routes.new.self
          c.rename.ensures c.in_ok-add_routes.ensures.shown
          (c.in_ok-close.ensures.shown ∙ ap (λ e. closed_at c.args.at c.args.name.now (instance_by c.args.node e) (scope.shown c.add_routes.new.self)) same) refl,
      c.in_ok-close.ensures.sound,
    )
