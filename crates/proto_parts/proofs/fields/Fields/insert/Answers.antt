use Rattle.std.proofs.Common.{◌∙◌, Bool, if◌then◌else◌, Some, ap, is_eq, nat_cmp}
use Rattle.std.specs.Cmp.Lexicographic.{slice_cmp}
use Rattle.std.proofs.Math.Path.{fun_ext}
use Rattle.std.proofs.lemmas.Map.Text.{is_eq-slice_cmp}
use Rattle.proto_parts.specs.Fields.{fields_of}
use Rattle.proto_parts.proofs.fields.Fields.insert.Goals as goal

pub returns-clause-fields : goal.returns-clause-fields
unfolding fields_of
returns-clause-fields c =
    fun_ext (λ name. c.in_ok-before.ensures.updates.0 (record c.as_str.result { now = name })
    ∙ ap (λ (same : Bool). if same then Some c.args.field else fields_of c.args.self.now name)
    (ap (λ given. is_eq (slice_cmp nat_cmp given name)) c.as_str.ensures ∙ is_eq-slice_cmp c.args.name.now name))
