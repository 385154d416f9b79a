use Rattle.std.proofs.Common.{refl, ap, sym, ◌∙◌}
use Rattle.proto_meaning.specs.declared.tree.GivenTree.TheVariants as tree
use Rattle.proto_meaning.specs.trees.Values.{plain}
use Rattle.proto_nodes.specs.Does.{default_value}
use Rattle.proto_nodes.proofs.Fillings.{default-many, default-none, default-one, plain-goes, plain-sound}
use Rattle.proto_nodes.proofs.defaults.put_default.Goals as goal

pub returns-in-Plain-clause-goes : goal.returns-in-Plain-clause-goes
returns-in-Plain-clause-goes c =
    λ ps s. plain-goes ps c.args.default.now c.in-Plain.value c.place_of-place.result c.args.filling.now c.put_plain.new.filling c.put_plain.result s c.in-Plain.is
    (record { line = c.place_of-place.ensures.line; name = c.place_of-place.ensures.name; number = c.place_of-place.ensures.number }) c.put_plain.ensures

pub returns-in-Plain-clause-sound : goal.returns-in-Plain-clause-sound
returns-in-Plain-clause-sound c = plain-sound c.args.filling.now c.put_plain.new.filling (default_value c.place_of-place.result (plain c.in-Plain.value.now)) c.put_plain.result c.put_plain.ensures

pub returns-in-One-clause-goes : goal.returns-in-One-clause-goes
returns-in-One-clause-goes c =
    λ ps s. default-one ps c.args.default.now (record { ref_ptr = (0, 0); now = c.in-One.node }) c.place_of-place.result c.args.filling.now s c.in-One.is
    (record { line = c.place_of-place.ensures.line; name = c.place_of-place.ensures.name; number = c.place_of-place.ensures.number })

pub returns-in-Many-clause-goes : goal.returns-in-Many-clause-goes
returns-in-Many-clause-goes c =
    λ ps s. default-many ps c.args.default.now c.in-Many._count c.as_slice.result c.place_of-place.result c.args.filling.now s (c.in-Many.is ∙ ap (λ ns. tree.Many c.in-Many._count ns) (sym c.as_slice.ensures))
    (record { line = c.place_of-place.ensures.line; name = c.place_of-place.ensures.name; number = c.place_of-place.ensures.number })

pub returns-in-Nothing-clause-goes : goal.returns-in-Nothing-clause-goes
returns-in-Nothing-clause-goes c = λ ps s. default-none ps c.args.default.now tree.Nothing c.args.filling.now s c.in-Nothing.is refl

pub returns-in-Is-clause-goes : goal.returns-in-Is-clause-goes
returns-in-Is-clause-goes c = λ ps s. default-none ps c.args.default.now (tree.Is c.in-Is._name) c.args.filling.now s c.in-Is.is refl

pub returns-in-LeftOut-clause-goes : goal.returns-in-LeftOut-clause-goes
returns-in-LeftOut-clause-goes c = λ ps s. default-none ps c.args.default.now (tree.LeftOut c.in-LeftOut._wrong) c.args.filling.now s c.in-LeftOut.is refl
