use Rattle.std.proofs.Common.{◌∙◌, if◌then◌else◌, Bool, None, ap}
use Rattle.std.proofs.Math.Path.{fun_ext}
use Rattle.std.proofs.lemmas.Map.Text.{is_eq-slice_cmp}
use Rattle.share_worlds.specs.Places.{sessions_of}
use Rattle.share_worlds.proofs.directory.Directory.remove_session.Goals as goal

pub returns-clause-sessions : goal.returns-clause-sessions
unfolding sessions_of
returns-clause-sessions c =
    fun_ext (λ key. c.remove-place.ensures.updates.0 key
    ∙ ap (λ (same : Bool). if same then None else sessions_of c.args.self.now key)
    (is_eq-slice_cmp c.args.session.now key))
