use Rattle.std.proofs.Common.{◌∙◌, if◌then◌else◌, Bool, Some, ap, is_eq, nat_cmp}
use Rattle.std.specs.Cmp.Lexicographic.{slice_cmp}
use Rattle.std.proofs.Math.Path.{fun_ext}
use Rattle.std.proofs.lemmas.Map.Text.{is_eq-slice_cmp}
use Rattle.share_worlds.specs.Places.{names_of, name_key}
use Rattle.share_worlds.proofs.directory.Directory.add_name.Goals as goal

pub returns-in-Ok-clause-names : goal.returns-in-Ok-clause-names
unfolding names_of
returns-in-Ok-clause-names c =
    fun_ext (λ key. c.in-Ok.ensures.updates.0 key
    ∙ ap (λ (same : Bool). if same then Some c.args.place else names_of c.args.self.now key)
    (ap (λ k. is_eq (slice_cmp nat_cmp k key)) c.key_by.ensures ∙ is_eq-slice_cmp (name_key c.args.name.now) key))
