-- The words `--help` and `--version` alone ask for text alone.
use Rattle.std.proofs.Common.{[], ◌∷◌, codes, inl, inr, refl}
use Rattle.clap.specs.Faults.{walk_fault}
use Rattle.clap.specs.declared.error.ErrorKind.TheVariants as kind
use Rattle.app_words.specs.Commands.{program, parted_program, logged_program, served_program, shared_program, hosted_program, local_program, single_program, bare_program}
use Rattle.app_words.specs.Commands.{run_app, format_app, check_app, rehearse_app, agree_app, host_app}
use Rattle.app_words.specs.Commands.{view_app, serve_app, recall_app, part_app, key_app}
use Rattle.app_words.specs.Words.{AsksOnlyForText}

pub version_is_text : AsksOnlyForText (codes "x3d_share" ∷ codes "--version" ∷ [])
unfolding program parted_program logged_program served_program shared_program hosted_program local_program single_program bare_program run_app format_app check_app rehearse_app agree_app host_app view_app serve_app recall_app part_app key_app walk_fault
version_is_text = (kind.DisplayVersion, inr refl, refl)

pub help_is_text : AsksOnlyForText (codes "x3d_share" ∷ codes "--help" ∷ [])
unfolding program parted_program logged_program served_program shared_program hosted_program local_program single_program bare_program run_app format_app check_app rehearse_app agree_app host_app view_app serve_app recall_app part_app key_app walk_fault
help_is_text = (kind.DisplayHelp, inl refl, refl)
