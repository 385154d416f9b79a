use Rattle.proto_nodes.specs.Does.{default_comes, filled_now, filling_comes}
use Rattle.proto_nodes.proofs.Fillings.{default-goes-as, free-name, free-next, sound-rest, taken-next}
use Rattle.proto_nodes.proofs.defaults.next_default.Goals as goal

pub returns-then-not-is_free-clause-goes : goal.returns-then-not-is_free-clause-goes
returns-then-not-is_free-clause-goes c =
    λ ps s. taken-next ps c.args.filling.now c.set_rest.new.filling c.in-Some.default c.in-Some.rest c.is_free.result s c.in-Some.ensures c.set_rest.ensures c.is_free.ensures c.if-not-is_free.true

pub put_default-requires-clause-free : goal.put_default-requires-clause-free
put_default-requires-clause-free c =
    free-name c.set_rest.new.filling c.in-Some.default.now.declaration.now.name c.is_free.result (sound-rest c.args.filling.now c.set_rest.new.filling c.in-Some.rest c.set_rest.ensures c.requires) c.is_free.ensures c.if-not-is_free.false

pub returns-clause-goes : goal.returns-clause-goes
returns-clause-goes c =
    λ ps s. default-goes-as ps (filling_comes ps c.args.filling.now.around.value c.args.filling.now.rest.now (filled_now c.args.filling.now) s) (default_comes ps c.in-Some.default.now c.set_rest.new.filling s) c.put_default.result c.put_default.new.filling s
    (free-next ps c.args.filling.now c.set_rest.new.filling c.in-Some.default c.in-Some.rest c.is_free.result s c.in-Some.ensures c.set_rest.ensures c.is_free.ensures c.if-not-is_free.false)
    (c.put_default.ensures.goes ps s)
