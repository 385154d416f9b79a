use Rattle.std.proofs.Common.{Some, ap, refl}
use Rattle.proto_parts.specs.Given as table
use Rattle.proto_parts.specs.Given.{filled_of}
use Rattle.proto_nodes.specs.Does.{default_value}
use Rattle.proto_nodes.proofs.Fillings.{fills-if}
use Rattle.proto_nodes.proofs.defaults.fill.Goals as goal

pub returns : goal.returns
returns c =
    fills-if c.fill.result c.args.filling.now c.fill.new.self
    (filled_of c.args.place.name.now (record { line = c.args.place.line; number = c.args.place.field.number; value = Some c.in_ok-value.value })) (default_value c.args.place c.args.value)
    (ap (λ v. record { line = c.args.place.line; name = c.args.place.name.now; number = c.args.place.field.number; value = Some v }) c.in_ok-value.ensures.ok) refl c.requires.sound
    (c.fill.ensures (table.shown c.args.filling.now.defaults) c.requires.sound.defaults c.requires.free)
