use Rattle.std.proofs.Common.{◌∙◌, if◌then◌else◌, Bool, Some, ap}
use Rattle.std.proofs.Math.Path.{fun_ext}
use Rattle.std.proofs.lemmas.Map.Text.{is_eq-slice_cmp}
use Rattle.share_worlds.specs.Places.{sessions_of}
use Rattle.share_worlds.proofs.directory.Directory.add_session.Goals as goal

pub returns-in-Ok-clause-sessions : goal.returns-in-Ok-clause-sessions
unfolding sessions_of
returns-in-Ok-clause-sessions c =
    fun_ext (λ key. c.in-Ok.ensures.updates.0 key
    ∙ ap (λ (same : Bool). if same then Some c.args.place else sessions_of c.args.self.now key)
    (is_eq-slice_cmp c.args.session.now key))
