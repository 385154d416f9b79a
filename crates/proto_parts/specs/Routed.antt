-- A field that a ROUTE names, in the terms of the definition.
use Rattle.proto_meaning.specs.Names.{Field}
use Rattle.proto_parts.specs.declared.named.RouteField.{RouteField}
use Rattle.proto_parts.specs.Fields.{field_named}

abbrev pub routed : RouteField → Field
routed r = field_named r.name.now r.field
