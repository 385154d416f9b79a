-- The commands of the program's table, added in turn, are the program.
use Rattle.std.proofs.Common.{◌≡◌, ◌+◌, ◌<◌, ◌∙◌, ℕ, List, [], ◌∷◌, length, map, take, get_or, ap, sym}
use Rattle.std.specs.List.{fold}
use Rattle.std.proofs.lemmas.List.Folds.{fold-map}
use Rattle.std.proofs.lemmas.List.Sums.{fold_more}
use Rattle.app_words.specs.declared.commands.CommandWords.{CommandWords}
use Rattle.app_words.specs.Commands.{app_with, with_command, program, parted_program, logged_program, served_program, shared_program, hosted_program, local_program, single_program, bare_program}
use Rattle.app_words.specs.Commands.{run_app, format_app, check_app, rehearse_app, agree_app, host_app, view_app, serve_app, recall_app, part_app, key_app}

pub one_more : {X Y : Type 0} (f : Y → X → Y) (a : Y) (xs : List X) (i : ℕ) (d : X) (now next : Y) → i < length xs
    → now ≡ fold f a (take i xs) → next ≡ f now (get_or xs i d) → next ≡ fold f a (take (i + 1) xs)
one_more f a xs i d now next small e step =
    step ∙ ap (λ y. f y (get_or xs i d)) e ∙ sym (fold_more f a xs i d small)

pub first_commands : (ws : List CommandWords)
    → map app_with ws ≡ run_app ∷ format_app ∷ check_app ∷ rehearse_app ∷ agree_app ∷ []
    → fold (λ a w. with_command a (app_with w)) bare_program ws ≡ local_program
unfolding local_program single_program
first_commands ws e = sym (fold-map with_command app_with bare_program ws) ∙ ap (fold with_command bare_program) e

pub host_added : (w : CommandWords) → app_with w ≡ host_app → with_command local_program (app_with w) ≡ hosted_program
unfolding hosted_program
host_added w e = ap (with_command local_program) e

pub view_added : (w : CommandWords) → app_with w ≡ view_app → with_command hosted_program (app_with w) ≡ shared_program
unfolding shared_program
view_added w e = ap (with_command hosted_program) e

pub file_commands : (ws : List CommandWords) → map app_with ws ≡ serve_app ∷ recall_app ∷ part_app ∷ key_app ∷ []
    → fold (λ a w. with_command a (app_with w)) shared_program ws ≡ program
unfolding program parted_program logged_program served_program
file_commands ws e = sym (fold-map with_command app_with shared_program ws) ∙ ap (fold with_command shared_program) e
