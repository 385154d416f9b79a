-- The program as a `clap` command: its commands, each with its options.
use Rattle.std.specs.Prelude.{List, [], ◌∷◌, codes, true}
use Rattle.std.specs.List.{fold}
use Rattle.clap.specs.Words.{App, Rule, Text, new_app, with_rule, with_subcommand}
use Rattle.clap.specs.Simple.{on_top}
use Rattle.app_words.specs.Options.{viewers_rule, turns_rule, port_rule, keep_rule, forget_rule, base_rule}
use Rattle.app_words.specs.Options.{every_rule, until_rule, standby_rule, etcd_rule, login_rule}
use Rattle.app_words.specs.Options.{who_rule, boot_rule, exactly_rule, at_rule, give_rule}
use Rattle.app_words.specs.Options.{give_turns_rule, wire_rule, host_viewers_rule, host_turns_rule}
use Rattle.app_words.specs.Options.{log_rule, new_log_rule, keep_names_rule, text_rule}
use Rattle.app_words.specs.Options.{listen_rule, host_rule, keys_rule, key_rule, world_rule, folder_rule, open_rule}
use Rattle.app_words.specs.Options.{join_rule, no_trace_rule, info_rule, list_rule, verbose_rule, number_rule, flag_rule}
use Rattle.app_words.specs.declared.commands.CommandWords.{CommandWords}
use Rattle.app_words.specs.declared.options.FlagOption.{FlagOption}
use Rattle.app_words.specs.declared.options.NumberOption.{NumberOption}
use Rattle.app_words.specs.declared.options.TextOption.{TextOption}

-- the program without its commands. A command is required, and every command knows `--version`
unfoldable pub bare_program : App
bare_program =
    on_top (λ s. record s {
      has_version = true;
      propagate_version = true;
      subcommand_required = true;
      disable_help_subcommand = true;
    })
    (new_app (codes "x3d_share"))

-- the command of this name with these options
abbrev pub taking : Text → List Rule → App
taking name rules = fold with_rule (new_app name) rules

-- `run --no-trace`
unfoldable pub run_app : App
run_app = taking (codes "run") (no_trace_rule ∷ [])

-- `format` and `check`, without options
unfoldable pub format_app : App
format_app = new_app (codes "format")

unfoldable pub check_app : App
check_app = new_app (codes "check")

-- `rehearse --viewers K`
unfoldable pub rehearse_app : App
rehearse_app = taking (codes "rehearse") (viewers_rule ∷ [])

-- `agree --viewers K --turns T`
unfoldable pub agree_app : App
agree_app = taking (codes "agree") (viewers_rule ∷ turns_rule ∷ [])

-- `host --port P --viewers K --until N --keep N --forget N --every MS --standby SECONDS --turns T
-- --listen ADDRESS:PORT --log FILE --new-log FILE --etcd ADDRESS:PORT[,..] --world NAME
-- --login FILE --keys FILE --open -v`
unfoldable pub host_app : App
host_app = taking (codes "host")
    (port_rule ∷ host_viewers_rule ∷ until_rule ∷ keep_rule ∷ forget_rule ∷ every_rule
    ∷ standby_rule ∷ host_turns_rule ∷ listen_rule ∷ log_rule ∷ new_log_rule ∷ etcd_rule
    ∷ world_rule ∷ login_rule ∷ keys_rule ∷ open_rule ∷ verbose_rule ∷ [])

-- `view --port P --who V --boot B --until N --exactly N --turns T --at Q --give Q --give-turns T
-- --wire VERSION --forget N --host ADDRESS:PORT[,..] --key FILE --world NAME --open --join -v`
unfoldable pub view_app : App
view_app = taking (codes "view")
    (port_rule ∷ who_rule ∷ boot_rule ∷ until_rule ∷ exactly_rule ∷ turns_rule ∷ at_rule
    ∷ give_rule ∷ give_turns_rule ∷ wire_rule ∷ forget_rule ∷ host_rule ∷ key_rule ∷ world_rule
    ∷ open_rule ∷ join_rule ∷ verbose_rule ∷ [])

-- `serve FOLDER --port P --viewers K --keep N --forget N --base N --every MS
-- --listen ADDRESS:PORT --etcd ADDRESS:PORT[,..] --login FILE --open -v`
unfoldable pub serve_app : App
serve_app = taking (codes "serve")
    (port_rule ∷ host_viewers_rule ∷ keep_rule ∷ forget_rule ∷ base_rule ∷ every_rule
    ∷ folder_rule ∷ listen_rule ∷ etcd_rule ∷ login_rule ∷ open_rule ∷ verbose_rule ∷ [])

-- `recall --until N --new-log FILE --info`
unfoldable pub recall_app : App
recall_app = taking (codes "recall") (until_rule ∷ new_log_rule ∷ info_rule ∷ [])

-- `part --keep-names FILE --list`
unfoldable pub part_app : App
part_app = taking (codes "part") (keep_names_rule ∷ list_rule ∷ [])

-- `key --viewers K FOLDER`
unfoldable pub key_app : App
key_app = taking (codes "key") (viewers_rule ∷ folder_rule ∷ [])

-- the program with `run`, `format` and `check`; then with `rehearse` and `agree`; then with
-- `host`; with `view`; with `serve`; with `recall`; with `part`; then with all
unfoldable pub single_program : App
single_program =
    with_subcommand (with_subcommand (with_subcommand bare_program run_app.top) format_app.top)
    check_app.top

unfoldable pub local_program : App
local_program = with_subcommand (with_subcommand single_program rehearse_app.top) agree_app.top

unfoldable pub hosted_program : App
hosted_program = with_subcommand local_program host_app.top

unfoldable pub shared_program : App
shared_program = with_subcommand hosted_program view_app.top

unfoldable pub served_program : App
served_program = with_subcommand shared_program serve_app.top

unfoldable pub logged_program : App
logged_program = with_subcommand served_program recall_app.top

unfoldable pub parted_program : App
parted_program = with_subcommand logged_program part_app.top

unfoldable pub program : App
program = with_subcommand parted_program key_app.top

-- ---- the program's table

abbrev pub with_option : App → NumberOption → App
with_option a o = with_rule a (number_rule o)

abbrev pub with_text : App → TextOption → App
with_text a o = with_rule a (text_rule o)

abbrev pub with_flag : App → FlagOption → App
with_flag a o = with_rule a (flag_rule o)

-- a command of the program's table as a `clap` command
abbrev pub app_with : CommandWords → App
app_with w =
    fold with_flag
    (fold with_text (fold with_option (new_app w.name.now) w.options.now) w.texts.now) w.flags.now

abbrev pub with_command : App → App → App
with_command a command = with_subcommand a command.top
