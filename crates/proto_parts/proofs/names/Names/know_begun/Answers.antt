use Rattle.std.proofs.Common.{◌∙◌, Bool, if◌then◌else◌, Some, ap, is_eq, nat_cmp}
use Rattle.std.specs.Cmp.Lexicographic.{slice_cmp}
use Rattle.std.proofs.Math.Path.{fun_ext}
use Rattle.std.proofs.lemmas.Map.Text.{is_eq-slice_cmp}
use Rattle.proto_parts.specs.Names.{begun_of}
use Rattle.proto_parts.proofs.names.Names.know_begun.Goals as goal

pub returns-clause-begun : goal.returns-clause-begun
unfolding begun_of
returns-clause-begun c =
    fun_ext (λ name. c.in_ok-insert.ensures.updates.0 (record c.as_str.result { now = name })
    ∙ ap (λ (same : Bool). if same then Some c.args.at else begun_of c.args.self.now name)
    (ap (λ given. is_eq (slice_cmp nat_cmp given name)) c.as_str.ensures ∙ is_eq-slice_cmp c.args.name.now name))
