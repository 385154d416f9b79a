-- The options of the commands as `clap` options. An option of a number has a name and a range; it
-- has a default, is required, or may be left out. One of a text may be left out, and a word is
-- required. A flag has no value.
use Rattle.std.specs.Prelude.{ℕ, ◌-◌, [], ◌∷◌, Some, codes, pos, true, if◌then◌else◌}
use Rattle.clap.specs.Words.{Rule, Text, new_rule}
use Rattle.clap.specs.declared.builder.action.ArgAction.TheVariants.{SetTrue}
use Rattle.clap.specs.declared.builder.value_parser.ValueParser.TheVariants.{Signed}
use Rattle.x3d_values.specs.Ranges.{max_viewers, max_inputs}
use Rattle.app_words.specs.declared.options.FlagOption.{FlagOption}
use Rattle.app_words.specs.declared.options.High.{High}
use Rattle.app_words.specs.declared.options.High.TheVariants.{Number, Inputs}
use Rattle.app_words.specs.declared.options.NumberOption.{NumberOption}
use Rattle.app_words.specs.declared.options.TextOption.{TextOption}
use Rattle.app_words.specs.declared.options.Unless.{Unless}
use Rattle.app_words.specs.declared.options.Unless.TheVariants.{Refused, Has, Nothing}

-- the highest number that a viewer can have
abbrev pub max_who : ℕ
max_who = max_viewers - 1

-- `--NAME VALUE`
abbrev pub option : Text → Rule
option name = record (new_rule name) { long = Some name; value_names = 1 }

-- `--NAME VALUE`, a number from low to high
abbrev pub ranged : Text → (low high : ℕ) → Rule
ranged name low high = record (option name) { parser = Some (Signed (pos low) (pos high)) }

-- `--viewers K`, from 1 to the most that a world can have, by default 2
abbrev pub viewers_rule : Rule
viewers_rule = record (ranged (codes "viewers") 1 max_viewers) { defaults = codes "2" ∷ [] }

-- `--turns T`, from 1 to 10000000, by default 1000000
abbrev pub turns_rule : Rule
turns_rule = record (ranged (codes "turns") 1 10000000) { defaults = codes "1000000" ∷ [] }

-- `--viewers K` and `--turns T` of `host`, which may be left out
abbrev pub host_viewers_rule : Rule
host_viewers_rule = ranged (codes "viewers") 1 max_viewers

abbrev pub host_turns_rule : Rule
host_turns_rule = ranged (codes "turns") 1 10000000

-- `--log FILE` and `--new-log FILE`
abbrev pub log_rule : Rule
log_rule = option (codes "log")

abbrev pub new_log_rule : Rule
new_log_rule = option (codes "new-log")

-- `--etcd ADDRESS:PORT[,..]`, `--login FILE`, and `--standby SECONDS`, up to an hour
abbrev pub etcd_rule : Rule
etcd_rule = option (codes "etcd")

abbrev pub login_rule : Rule
login_rule = option (codes "login")

abbrev pub standby_rule : Rule
standby_rule = ranged (codes "standby") 1 3600

-- `--keep-names FILE`
abbrev pub keep_names_rule : Rule
keep_names_rule = option (codes "keep-names")

-- `--port P`, from 1 to 65535
abbrev pub port_rule : Rule
port_rule = ranged (codes "port") 1 65535

-- `--listen ADDRESS:PORT` of `host`, and `--host ADDRESS:PORT` of `view`
abbrev pub listen_rule : Rule
listen_rule = option (codes "listen")

abbrev pub host_rule : Rule
host_rule = option (codes "host")

-- `--keys FILE` of `host`, and `--key FILE` of `view`
abbrev pub keys_rule : Rule
keys_rule = option (codes "keys")

abbrev pub key_rule : Rule
key_rule = option (codes "key")

-- `--world NAME` of `view` and `host`
abbrev pub world_rule : Rule
world_rule = option (codes "world")

-- VALUE, a word of its own, required
abbrev pub word : Text → Rule
word name = record (new_rule name) { value_names = 1; required = true }

-- `key FOLDER` and `serve FOLDER`
abbrev pub folder_rule : Rule
folder_rule = word (codes "folder")

-- `--who V`, the number of a viewer, required
abbrev pub who_rule : Rule
who_rule = record (ranged (codes "who") 0 max_who) { required = true }

-- `--boot B`, from 1 to 2^32 - 1
abbrev pub boot_rule : Rule
boot_rule = ranged (codes "boot") 1 4294967295

-- `--until N`, `--exactly N`, `--keep N` and `--forget N`, from 0 to 2^48 - 1
abbrev pub until_rule : Rule
until_rule = ranged (codes "until") 0 max_inputs

abbrev pub exactly_rule : Rule
exactly_rule = ranged (codes "exactly") 0 max_inputs

abbrev pub keep_rule : Rule
keep_rule = ranged (codes "keep") 0 max_inputs

abbrev pub forget_rule : Rule
forget_rule = ranged (codes "forget") 0 max_inputs

-- `--base N`, from 100 to 2^48 - 1
abbrev pub base_rule : Rule
base_rule = ranged (codes "base") 100 max_inputs

-- `--every MS`, from a millisecond to an hour
abbrev pub every_rule : Rule
every_rule = ranged (codes "every") 1 3600000

-- `--at Q` and `--give Q`, from 1 to 65535
abbrev pub at_rule : Rule
at_rule = ranged (codes "at") 1 65535

abbrev pub give_rule : Rule
give_rule = ranged (codes "give") 1 65535

-- `--give-turns T`, from 1 to 2^32 - 1, by default 1000000
abbrev pub give_turns_rule : Rule
give_turns_rule =
    record (ranged (codes "give-turns") 1 4294967295) { defaults = codes "1000000" ∷ [] }

-- `--wire VERSION`, 1 or 2
abbrev pub wire_rule : Rule
wire_rule = ranged (codes "wire") 1 2

-- `--NAME`, a flag
abbrev pub flag : Text → Rule
flag name = record (new_rule name) { long = Some name; action = Some SetTrue }

-- `--open`
abbrev pub open_rule : Rule
open_rule = flag (codes "open")

-- `--join`
abbrev pub join_rule : Rule
join_rule = flag (codes "join")

-- `--no-trace`
abbrev pub no_trace_rule : Rule
no_trace_rule = flag (codes "no-trace")

-- `--info`
abbrev pub info_rule : Rule
info_rule = flag (codes "info")

-- `--list`
abbrev pub list_rule : Rule
list_rule = flag (codes "list")

-- `--verbose`, or `-v`
abbrev pub verbose_rule : Rule
verbose_rule = record (flag (codes "verbose")) { short = Some 118 }

-- ---- the program's table

-- the highest number of an option
abbrev pub high_of : High → ℕ
high_of (Number n) = n
high_of Inputs = max_inputs

abbrev pub ranged_rule : NumberOption → Rule
ranged_rule o = ranged o.name.now o.low (high_of o.high)

abbrev pub with_unless : Unless → Rule → Rule
with_unless Refused r = record r { required = true }
with_unless (Has text) r = record r { defaults = text.now ∷ [] }
with_unless Nothing r = r

-- an option of the program's table as a `clap` option
abbrev pub number_rule : NumberOption → Rule
number_rule o = with_unless o.unless (ranged_rule o)

abbrev pub text_rule : TextOption → Rule
text_rule o = if o.is_word then word o.name.now else option o.name.now

abbrev pub flag_rule : FlagOption → Rule
flag_rule o = record (flag o.name.now) { short = o.letter }
