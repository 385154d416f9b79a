use Rattle.std.proofs.Common.{◌∙◌, Bool, if◌then◌else◌, ap, is_eq, nat_cmp}
use Rattle.std.specs.Cmp.Lexicographic.{slice_cmp}
use Rattle.std.proofs.Math.Path.{fun_ext}
use Rattle.std.proofs.lemmas.Map.Text.{is_eq-slice_cmp}
use Rattle.proto_parts.specs.Joined.{ends_in, meant, owned}
use Rattle.proto_parts.proofs.Joining.{owned-if}
use Rattle.proto_parts.proofs.joined.JoinedEnds.insert.Goals as goal

pub returns : goal.returns
unfolding ends_in
returns c =
    fun_ext (λ name. ap owned (c.in_ok-insert.ensures.updates.0 (record c.as_str.result { now = name }))
    ∙ owned-if (is_eq (slice_cmp nat_cmp c.as_str.result.now name)) c.args.ends _
    ∙ ap (λ (same : Bool). if same then meant c.args.ends.value else ends_in c.args.self.now name)
    (ap (λ given. is_eq (slice_cmp nat_cmp given name)) c.as_str.ensures ∙ is_eq-slice_cmp c.args.name.now name))
