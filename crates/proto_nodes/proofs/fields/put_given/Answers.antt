use Rattle.std.proofs.Common.{[], map, sym, subst}
use Rattle.classic_tree.specs.declared.tree.Given.TheVariants as text
use Rattle.proto_meaning.specs.Flat.{give}
use Rattle.proto_parts.specs.Settled.{doing}
use Rattle.proto_parts.specs.Fields.{numbered}
use Rattle.proto_nodes.specs.Giving.{Gives}
use Rattle.proto_meaning.specs.trees.Meaning as meaning
use Rattle.proto_meaning.specs.declared.tree.GivenTree.TheVariants as tree
use Rattle.proto_nodes.specs.Shown.{shown}
use Rattle.proto_nodes.specs.Does.{inside_now}
use Rattle.proto_nodes.specs.Protos.{owner_by}
use Rattle.proto_nodes.specs.Frames.{OpenGoes, given_at, item_comes}
use Rattle.proto_nodes.proofs.Given.{is-node, given-as, gives-on, gives-sound, left-out}
use Rattle.proto_nodes.proofs.fields.put_given.Goals as goal

pub returns-in-Nothing-clause-goes : goal.returns-in-Nothing-clause-goes
returns-in-Nothing-clause-goes c =
    λ ps. given-as ps c.args.place c.args.twice c.args.given.now tree.Nothing c.args.opened.now (shown c.args.walker.now) c.on.result c.put_nothing.new.walker _ c.in-Nothing.is
    (gives-on ps c.args.opened.now c.put_nothing.new.inside (give c.args.place.line (numbered c.args.place.name.now c.args.place.field) c.args.twice text.Nothing (inside_now ps c.args.opened.now)) (shown c.args.walker.now) c.put_nothing.result c.on.result c.put_nothing.new.walker c.on.ensures
    (c.put_nothing.ensures c.args.opened.now.at (owner_by ps c.args.opened.now.word c.args.opened.now.inside.owner) (is-node ps c.args.opened.now.word c.args.opened.now.inside.owner)))

pub returns-in-Nothing-clause-sound : goal.returns-in-Nothing-clause-sound
returns-in-Nothing-clause-sound c =
    gives-sound c.args.opened.now.at (owner_by [] c.args.opened.now.word c.args.opened.now.inside.owner) c.args.opened.now c.put_nothing.new.inside c.put_nothing.result c.on.result c.put_nothing.new.walker _ c.on.ensures
    (c.put_nothing.ensures c.args.opened.now.at (owner_by [] c.args.opened.now.word c.args.opened.now.inside.owner) (is-node [] c.args.opened.now.word c.args.opened.now.inside.owner))

pub returns-in-Is-clause-goes : goal.returns-in-Is-clause-goes
returns-in-Is-clause-goes c =
    λ ps. given-as ps c.args.place c.args.twice c.args.given.now (tree.Is c.in-Is.outer) c.args.opened.now (shown c.args.walker.now) c.on-in-Is.result c.put_is.new.walker _ c.in-Is.is
    (gives-on ps c.args.opened.now c.put_is.new.inside (give c.args.place.line (numbered c.args.place.name.now c.args.place.field) c.args.twice (text.Is c.in-Is.outer.now) (inside_now ps c.args.opened.now)) (shown c.args.walker.now) c.put_is.result c.on-in-Is.result c.put_is.new.walker c.on-in-Is.ensures
    (c.put_is.ensures (owner_by ps c.args.opened.now.word c.args.opened.now.inside.owner) (is-node ps c.args.opened.now.word c.args.opened.now.inside.owner)))

pub returns-in-Is-clause-sound : goal.returns-in-Is-clause-sound
returns-in-Is-clause-sound c =
    gives-sound c.args.opened.now.at (owner_by [] c.args.opened.now.word c.args.opened.now.inside.owner) c.args.opened.now c.put_is.new.inside c.put_is.result c.on-in-Is.result c.put_is.new.walker _ c.on-in-Is.ensures
    (c.put_is.ensures (owner_by [] c.args.opened.now.word c.args.opened.now.inside.owner) (is-node [] c.args.opened.now.word c.args.opened.now.inside.owner))

pub returns-in-Plain-clause-goes : goal.returns-in-Plain-clause-goes
returns-in-Plain-clause-goes c =
    λ ps. given-as ps c.args.place c.args.twice c.args.given.now (tree.Plain c.in-Plain.value) c.args.opened.now (shown c.args.walker.now) c.put_plain.result c.put_plain.new.walker _ c.in-Plain.is (c.put_plain.ensures.goes ps)

pub returns-in-One-clause-goes : goal.returns-in-One-clause-goes
returns-in-One-clause-goes c =
    λ ps. given-as ps c.args.place c.args.twice c.args.given.now (tree.One c.in-One.node) c.args.opened.now (shown c.args.walker.now) c.put_one.result c.put_one.new.walker _ c.in-One.is (c.put_one.ensures.goes ps)

pub returns-in-Many-clause-goes : goal.returns-in-Many-clause-goes
returns-in-Many-clause-goes c =
    λ ps. given-as ps c.args.place c.args.twice c.args.given.now (tree.Many c.in-Many.count c.in-Many.nodes) c.args.opened.now (shown c.args.walker.now) c.put_many.result c.put_many.new.walker c.args.opened.now c.in-Many.is
    (subst (λ ns. OpenGoes ps (item_comes ps (given_at c.args.place c.args.twice (tree.Many c.in-Many.count (map (meaning.node ps) ns))) c.args.opened.now (shown c.args.walker.now)) c.put_many.result c.put_many.new.walker c.args.opened.now) c.as_slice.ensures (c.put_many.ensures.goes ps))

pub returns-in-LeftOut-clause-goes : goal.returns-in-LeftOut-clause-goes
returns-in-LeftOut-clause-goes c =
    λ ps. given-as ps c.args.place c.args.twice c.args.given.now (tree.LeftOut c.in-LeftOut.wrong) c.args.opened.now (shown c.args.walker.now) c.on-in-LeftOut.result c.put_aside.new.walker _ c.in-LeftOut.is
    (gives-on ps c.args.opened.now c.put_aside.new.inside (meaning.gives c.args.place.line (numbered c.args.place.name.now c.args.place.field) c.args.twice (tree.LeftOut c.in-LeftOut.wrong) (inside_now ps c.args.opened.now)) (shown c.args.walker.now) c.put_aside.result c.on-in-LeftOut.result c.put_aside.new.walker c.on-in-LeftOut.ensures
    (subst (λ m. Gives c.args.opened.now.at (owner_by ps c.args.opened.now.word c.args.opened.now.inside.owner) (doing m (shown c.args.walker.now)) c.put_aside.result c.put_aside.new.walker c.args.opened.now.inside c.put_aside.new.inside)
    (sym (left-out c.args.place c.args.twice c.in-LeftOut.wrong (inside_now ps c.args.opened.now)))
    (c.put_aside.ensures c.args.opened.now.at (owner_by ps c.args.opened.now.word c.args.opened.now.inside.owner) (is-node ps c.args.opened.now.word c.args.opened.now.inside.owner))))

pub returns-in-LeftOut-clause-sound : goal.returns-in-LeftOut-clause-sound
returns-in-LeftOut-clause-sound c =
    gives-sound c.args.opened.now.at (owner_by [] c.args.opened.now.word c.args.opened.now.inside.owner) c.args.opened.now c.put_aside.new.inside c.put_aside.result c.on-in-LeftOut.result c.put_aside.new.walker _ c.on-in-LeftOut.ensures
    (c.put_aside.ensures c.args.opened.now.at (owner_by [] c.args.opened.now.word c.args.opened.now.inside.owner) (is-node [] c.args.opened.now.word c.args.opened.now.inside.owner))
