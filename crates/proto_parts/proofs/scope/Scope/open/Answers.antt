use Rattle.std.proofs.Common.{◌≡◌, None, length, map, rules, subst, sym}
use Rattle.proto_parts.specs.Names.{Knows}
use Rattle.proto_parts.specs.Joins.{braces_of}
use Rattle.proto_parts.proofs.Scoping.{more-braces, so-many}
use Rattle.proto_parts.proofs.scope.Scope.open.Goals as goal

pub returns-clause-sound : goal.returns-clause-sound
returns-clause-sound c =
    let many : c.len-at.result ≡ length c.args.self.now.braces.items = search rules in
    record {
      names = subst (λ bs. Knows c.open.new.self bs)
          (sym (more-braces c.args.self.now.braces.items c.push.new.self.items (record { name = c.args.name; stands = None }) c.in_ok-push.ensures.items))
          (c.in_ok-open.ensures (map braces_of c.args.self.now.braces.items) (so-many c.args.self.now.braces.items c.len-at.result many) c.requires.names);
      given = c.requires.given;
      defaults = c.requires.defaults;
    }
