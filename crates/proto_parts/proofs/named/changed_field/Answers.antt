use Rattle.std.proofs.Common.{◌∙◌, false, codes}
use Rattle.std.proofs.lemmas.Str.Pattern.{ends_text}
use Rattle.proto_meaning.specs.Names.{exposed_field}
use Rattle.proto_parts.proofs.Suffixes.{stripped, unended}
use Rattle.proto_parts.proofs.named.changed_field.Goals as goal

pub returns-in_default : goal.returns-in_default
returns-in_default c =
    unended _ (codes "_changed") c.args.name.now (ends_text false (codes "_changed") c.args.name.now c.in_default.ensures.cases)

pub returns-in_default-exposed : goal.returns-in_default-exposed
returns-in_default-exposed c =
    let has = c.in-Some.ensures.cases in
    c.in_default-exposed.ensures
    ∙ stripped (exposed_field c.args.interface.now) (codes "_changed") c.args.name.now c.in-Some.own.now has.0 has.1.0 has.1.1 has.2

pub returns : goal.returns
returns c =
    let has = c.in-Some.ensures.cases in
    c.in-Some-exposed.ensures
    ∙ stripped (exposed_field c.args.interface.now) (codes "_changed") c.args.name.now c.in-Some.own.now has.0 has.1.0 has.1.1 has.2
