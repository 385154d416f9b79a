use Rattle.std.proofs.Common.{◌∙◌, if◌then◌else◌, Bool, None, ap, is_eq, nat_cmp}
use Rattle.std.specs.Cmp.Lexicographic.{slice_cmp}
use Rattle.std.proofs.Math.Path.{fun_ext}
use Rattle.std.proofs.lemmas.Map.Text.{is_eq-slice_cmp}
use Rattle.share_worlds.specs.Places.{names_of, name_key}
use Rattle.share_worlds.proofs.directory.Directory.remove_name.Goals as goal

pub returns-clause-names : goal.returns-clause-names
unfolding names_of
returns-clause-names c =
    fun_ext (λ key. c.remove-place.ensures.updates.0 key
    ∙ ap (λ (same : Bool). if same then None else names_of c.args.self.now key)
    (ap (λ k. is_eq (slice_cmp nat_cmp k key)) c.key_by-key.ensures ∙ is_eq-slice_cmp (name_key c.args.name.now) key))
