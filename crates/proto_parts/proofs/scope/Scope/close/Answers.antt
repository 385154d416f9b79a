use Rattle.std.proofs.Common.{map, slice_set, subst, sym, ap}
use Rattle.proto_meaning.specs.Names as meaning
use Rattle.proto_parts.specs.Names.{closed}
use Rattle.proto_parts.specs.Given.{IsHeld}
use Rattle.proto_parts.specs.Joins.{braces_of, stands_by}
use Rattle.proto_parts.proofs.Scoping.{closes, known-braces, node-is}
use Rattle.proto_parts.proofs.scope.Scope.close.Goals as goal

pub returns-clause-sound : goal.returns-clause-sound
returns-clause-sound c = record {
  names = known-braces c.set.new.self.names c.close.new.self (map braces_of c.set.new.self.braces.items)
      (slice_set (map braces_of c.args.self.now.braces.items) c.args.at (closed c.args.name.now (stands_by c.args.node c.args.instance)))
      c.set.ensures.names (ap (λ (s : meaning.Scope). s.braces) c.set.ensures.shown)
      (closes c.args.self.now.names c.close.new.self (map braces_of c.args.self.now.braces.items) c.args.at c.args.name.now (stands_by c.args.node c.args.instance)
      (c.is_open.ensures c.if-not-is_open.false) c.requires.names
      (λ before after is k. c.in_ok-close.ensures before after (stands_by c.args.node c.args.instance) is (node-is c.args.node c.args.instance) k));
  given = subst (λ g. IsHeld g) (sym c.set.ensures.given) c.requires.given;
  defaults = subst (λ g. IsHeld g) (sym c.set.ensures.defaults) c.requires.defaults;
}
