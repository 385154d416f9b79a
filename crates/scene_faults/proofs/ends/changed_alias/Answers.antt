use Rattle.std.proofs.Common.{rules, ◌≡◌, false, nat_eq, codes}
use Rattle.std.specs.List.{ends_with}
use Rattle.std.proofs.lemmas.Str.Pattern.{ends_text}
use Rattle.scene_faults.proofs.ends.changed_alias.Goals as goal

pub returns-in_err-name : goal.returns-in_err-name
returns-in_err-name c =
    let e : false ≡ ends_with nat_eq c.args.name.now (codes "_changed") =
    ends_text false (codes "_changed") c.args.name.now c.in_err-name.ensures.cases in
    search rules
