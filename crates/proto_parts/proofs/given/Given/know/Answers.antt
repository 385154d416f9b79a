use Rattle.std.proofs.Common.{◌∙◌, Bool, if◌then◌else◌, Some, ap, is_eq, nat_cmp}
use Rattle.std.specs.Prelude.{option_map}
use Rattle.std.specs.Cmp.Lexicographic.{slice_cmp}
use Rattle.std.proofs.Math.Path.{fun_ext}
use Rattle.std.proofs.lemmas.Map.Text.{is_eq-slice_cmp}
use Rattle.proto_parts.specs.Given.{entry_of, held}
use Rattle.proto_parts.proofs.Filling.{held-if}
use Rattle.proto_parts.proofs.given.Given.know.Goals as goal

pub returns-clause-values : goal.returns-clause-values
unfolding entry_of
returns-clause-values c =
    fun_ext (λ name. ap (option_map (λ v. held v)) (c.in_ok-insert.ensures.updates.0 (record c.as_str.result { now = name }))
    ∙ held-if (is_eq (slice_cmp nat_cmp c.as_str.result.now name)) c.args.value _
    ∙ ap (λ (same : Bool). if same then Some (held c.args.value) else entry_of c.args.self.now name)
    (ap (λ given. is_eq (slice_cmp nat_cmp given name)) c.as_str.ensures ∙ is_eq-slice_cmp c.args.name.now name))
