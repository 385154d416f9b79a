use Rattle.std.proofs.Common.{◌≡◌, ◌∙◌, rules, Some, ap, sym}
use Rattle.x3d_values.specs.Names.{node_type_named}
use Rattle.proto_meaning.specs.Sight.{taken_by}
use Rattle.proto_resolver.specs.Held.{names_of}
use Rattle.proto_resolver.proofs.Names.{nothing_meant, instance_meant}
use Rattle.proto_resolver.proofs.resolver.meaning_of.Goals as goal

pub returns-in-None : goal.returns-in-None
returns-in-None c =
    λ ps s h. let none = nothing_meant ps c.args.scopes.now s c.args.word.now c.get.result (λ e. e.now) (ap node_type_named (sym c.as_str.ensures) ∙ sym c.named.ensures ∙ c.in_default.is) c.get.ensures c.in-None.is h in
    (λ all x. none, ap taken_by (sym none))

pub returns-in_ok-clone-in-Some-get : goal.returns-in_ok-clone-in-Some-get
returns-in_ok-clone-in-Some-get c =
    λ ps s h. let shared : c.in_ok-clone-in-Some-get.field-0.value ≡ c.in-Some-get.declared.now.takes.value = search rules in
    let known = instance_meant ps c.args.scopes.now s c.args.word.now c.get.result (λ e. e.now) c.in-Some-get.declared (ap node_type_named (sym c.as_str.ensures) ∙ sym c.named.ensures ∙ c.in_default.is) c.get.ensures c.in-Some-get.is h in
    (known.0, ap (λ taken. Some (names_of taken)) shared ∙ known.1)
