use Rattle.std.proofs.Common.{◌∙◌, option_map, ap}
use Rattle.proto_parts.specs.Fields.{fields_of, numbered}
use Rattle.proto_parts.specs.Inside.{declared_fields, fields_of_owner}
use Rattle.proto_parts.proofs.Knowing.{own-field, more-field}
use Rattle.proto_parts.proofs.inside.Inside.field.Goals as goal

pub returns-in-Some : goal.returns-in-Some
returns-in-Some c =
    own-field c.args.name.now c.in-Some.field (fields_of_owner c.args.self.now.owner) (declared_fields c.args.self.now.declared.items) c.in-Some.ensures

pub returns-in-None : goal.returns-in-None
returns-in-None c =
    more-field c.args.name.now c.get.result (fields_of_owner c.args.self.now.owner) (declared_fields c.args.self.now.declared.items) c.in-None.ensures
    (ap (option_map (numbered c.args.name.now)) (c.get.ensures ∙ ap (fields_of c.args.self.now.named) c.as_str.ensures) ∙ c.requires.named c.args.name.now)
