-- What the command words mean, given how `clap` parses them.
use Rattle.std.specs.Prelude.{◌≡◌, ◌≢◌, ◌⊎◌, ◌<◌, ◌≤◌, ℕ, Bool, List, [], ◌∷◌, Option, Some, None, codes, ⊤}
use Rattle.std.specs.Prelude.{IsSomeAnd, IfSome, true, false, is_some}
use Rattle.std.specs.Option.{option_map_or}
use Rattle.std.specs.Str.{bytes_eq}
use Rattle.std.specs.Str.Parse.{IsNumeral, digits_value, without_leading_plus}
use Rattle.clap.specs.Words.{Row, Text, first_of, one_of, subcommand_of, fault_of, IsAmong}
use Rattle.clap.specs.declared.error.kind.ErrorKind.{ErrorKind}
use Rattle.clap.specs.declared.error.kind.ErrorKind.TheVariants as kind
use Rattle.x3d_values.specs.Ranges.{max_viewers, max_inputs}
use Rattle.app_words.specs.Commands.{program}
use Rattle.app_words.specs.Misfits.{host_misfit, misfit_of, serve_misfit, recall_misfit}
use Rattle.app_words.specs.Options.{max_who}
use Rattle.app_words.specs.declared.host.Kept.{Kept}
use Rattle.app_words.specs.declared.order.HostOrder.{HostOrder}
use Rattle.app_words.specs.declared.order.LogUse.{LogUse}
use Rattle.app_words.specs.declared.order.LogUse.TheVariants.{Without, GoesOn, Makes, Shares}
use Rattle.app_words.specs.declared.order.Order.{Order}
use Rattle.app_words.specs.declared.order.Order.TheVariants.{Run, Format, Check, Rehearse, Agree, Host, View, Serve, Recall, Part, Key}
use Rattle.app_words.specs.declared.order.ServeOrder.{ServeOrder}
use Rattle.app_words.specs.declared.order.ViewEnd.{ViewEnd}
use Rattle.app_words.specs.declared.order.ViewEnd.TheVariants.{Until, Exactly}
use Rattle.app_words.specs.declared.order.ViewOrder.{ViewOrder}
use Rattle.app_words.specs.declared.view.ViewPorts.{ViewPorts}
use Rattle.app_words.specs.declared.view.ViewTurns.{ViewTurns}

-- the option of this name has this number, either given or by default
pub record HasNumber (id : Text) (rows : List Row) (n : ℕ) : Type 0 where
  pub text : Text
  pub found : one_of id rows ≡ Some text
  pub numeral : IsNumeral 10 (without_leading_plus text)
  pub value : n ≡ digits_value 10 (without_leading_plus text)

-- the option has this number, and it is from low to high
pub record HasNumberIn (id : Text) (rows : List Row) (low high n : ℕ) : Type 0 where
  pub number : HasNumber id rows n
  pub low_end : low ≤ n
  pub high_end : n ≤ high

-- the option of this name was not given and has no default
abbrev pub IsLeftOut : Text → List Row → Type 0
IsLeftOut id rows = one_of id rows ≡ None

-- the option has this number, and it is from low to high; or the option was left out
abbrev pub MayHaveNumberIn : (id : Text) → List Row → (low high : ℕ) → Option ℕ → Type 0
MayHaveNumberIn id rows low high (Some n) = HasNumberIn id rows low high n
MayHaveNumberIn id rows low high None = IsLeftOut id rows

-- reports whether the option of this name, which takes no value, was given. `clap` has its value as
-- a text
abbrev pub is_given : Text → List Row → Bool
is_given id rows = option_map_or (λ text. bytes_eq text (codes "true")) (one_of id rows) false

abbrev pub IsViewers : List Row → ℕ → Type 0
IsViewers rows viewers = HasNumberIn (codes "viewers") rows 1 max_viewers viewers

abbrev pub IsTurns : List Row → ℕ → Type 0
IsTurns rows turns = HasNumberIn (codes "turns") rows 1 10000000 turns

abbrev pub IsGiveTurns : List Row → ℕ → Type 0
IsGiveTurns rows turns = HasNumberIn (codes "give-turns") rows 1 4294967295 turns

abbrev pub IsWho : List Row → ℕ → Type 0
IsWho rows who = HasNumberIn (codes "who") rows 0 max_who who

abbrev pub MayHaveBoot : List Row → Option ℕ → Type 0
MayHaveBoot rows boot = MayHaveNumberIn (codes "boot") rows 1 4294967295 boot

-- `--viewers` and `--turns` of `host`, which may be left out
abbrev pub MayHaveViewers : List Row → Option ℕ → Type 0
MayHaveViewers rows viewers = MayHaveNumberIn (codes "viewers") rows 1 max_viewers viewers

abbrev pub MayHaveTurns : List Row → Option ℕ → Type 0
MayHaveTurns rows turns = MayHaveNumberIn (codes "turns") rows 1 10000000 turns

abbrev pub MayHavePort : List Row → Option ℕ → Type 0
MayHavePort rows port = MayHaveNumberIn (codes "port") rows 1 65535 port

abbrev pub MayHaveKeep : List Row → Option ℕ → Type 0
MayHaveKeep rows keep = MayHaveNumberIn (codes "keep") rows 0 max_inputs keep

abbrev pub MayHaveForget : List Row → Option ℕ → Type 0
MayHaveForget rows forget = MayHaveNumberIn (codes "forget") rows 0 max_inputs forget

abbrev pub MayHaveBase : List Row → Option ℕ → Type 0
MayHaveBase rows base = MayHaveNumberIn (codes "base") rows 100 max_inputs base

abbrev pub MayHaveEvery : List Row → Option ℕ → Type 0
MayHaveEvery rows every = MayHaveNumberIn (codes "every") rows 1 3600000 every

abbrev pub MayHaveStandby : List Row → Option ℕ → Type 0
MayHaveStandby rows standby = MayHaveNumberIn (codes "standby") rows 1 3600 standby

abbrev pub MayHaveUntil : List Row → Option ℕ → Type 0
MayHaveUntil rows until = MayHaveNumberIn (codes "until") rows 0 max_inputs until

abbrev pub MayHaveExactly : List Row → Option ℕ → Type 0
MayHaveExactly rows exactly = MayHaveNumberIn (codes "exactly") rows 0 max_inputs exactly

abbrev pub MayHaveAt : List Row → Option ℕ → Type 0
MayHaveAt rows at = MayHaveNumberIn (codes "at") rows 1 65535 at

abbrev pub MayHaveGive : List Row → Option ℕ → Type 0
MayHaveGive rows give = MayHaveNumberIn (codes "give") rows 1 65535 give

abbrev pub MayHaveWire : List Row → Option ℕ → Type 0
MayHaveWire rows wire = MayHaveNumberIn (codes "wire") rows 1 2 wire

-- the port of the host, the viewer's own, and the one that it gives to
pub record HasPorts (rows : List Row) (ports : ViewPorts) : Type 0 where
  pub host : MayHavePort rows ports.host
  pub at : MayHaveAt rows ports.at
  pub give : MayHaveGive rows ports.give

-- how many turns a viewer takes at most, and how many it gives
pub record HasTurns (rows : List Row) (turns : ViewTurns) : Type 0 where
  pub all : IsTurns rows turns.all
  pub give : IsGiveTurns rows turns.give

-- how many of the last inputs a host keeps, and how many keep their lines of the trace
pub record HasKept (rows : List Row) (kept : Kept) : Type 0 where
  pub keep : MayHaveKeep rows kept.keep
  pub forget : MayHaveForget rows kept.forget

-- one of `--until` and `--exactly` was given, and it says when a viewer ends
abbrev pub IsEnd : List Row → ViewEnd → Type 0
IsEnd rows (Until n) = MayHaveUntil rows (Some n) × MayHaveExactly rows None
IsEnd rows (Exactly n) = MayHaveUntil rows None × MayHaveExactly rows (Some n)

-- the end that the numbers of the two options ask for, if exactly one of them was given
abbrev pub end_of : (until exactly : Option ℕ) → Option ViewEnd
end_of (Some n) None = Some (Until n)
end_of None (Some n) = Some (Exactly n)
end_of _ _ = None

-- ---- texts, and the log of a host

-- reports whether an option that takes a text was given
abbrev pub is_text_given : Text → List Row → Bool
is_text_given id rows = is_some (first_of id rows)

-- the text of the option of this name, among those of the command that words name
abbrev pub text_named : Text → Option (Text × List Row) → Option Text
text_named id None = None
text_named id (Some p) = first_of id p.1

-- what is done with a log, by which of `--log`, `--new-log` and `--etcd` was given: at most one
abbrev pub log_use_of : (goes_on makes shares : Bool) → Option LogUse
log_use_of false false false = Some Without
log_use_of true false false = Some GoesOn
log_use_of false true false = Some Makes
log_use_of false false true = Some Shares
log_use_of _ _ _ = None

-- the use of a log that the three options ask for
abbrev pub log_use_in : List Row → Option LogUse
log_use_in rows =
    log_use_of (is_text_given (codes "log") rows) (is_text_given (codes "new-log") rows)
    (is_text_given (codes "etcd") rows)

-- ---- orders

-- the matches of `host` ask for this
pub record AsksHost (rows : List Row) (o : HostOrder) : Type 0 where
  pub port : MayHavePort rows o.port
  pub has_address : o.has_address ≡ is_text_given (codes "listen") rows
  pub has_keys : o.has_keys ≡ is_text_given (codes "keys") rows
  pub is_open : o.is_open ≡ is_given (codes "open") rows
  pub log : log_use_in rows ≡ Some o.log
  pub has_world : o.has_world ≡ is_text_given (codes "world") rows
  pub has_login : o.has_login ≡ is_text_given (codes "login") rows
  pub standby : MayHaveStandby rows o.standby
  pub viewers : MayHaveViewers rows o.viewers
  pub until : MayHaveUntil rows o.until
  pub keep : MayHaveKeep rows o.keep
  pub forget : MayHaveForget rows o.forget
  pub every : MayHaveEvery rows o.every
  pub turns : MayHaveTurns rows o.turns
  pub verbose : o.verbose ≡ is_given (codes "verbose") rows

-- the matches of `view` have these options; what they ask for also goes together
pub record AsksView (rows : List Row) (o : ViewOrder) : Type 0 where
  pub port : MayHavePort rows o.port
  pub has_address : o.has_address ≡ is_text_given (codes "host") rows
  pub has_key : o.has_key ≡ is_text_given (codes "key") rows
  pub has_world : o.has_world ≡ is_text_given (codes "world") rows
  pub is_open : o.is_open ≡ is_given (codes "open") rows
  pub who : IsWho rows o.who
  pub boot : MayHaveBoot rows o.boot
  pub end : IsEnd rows o.end
  pub turns : IsTurns rows o.turns
  pub at : MayHaveAt rows o.at
  pub give : MayHaveGive rows o.give
  pub give_turns : IsGiveTurns rows o.give_turns
  pub wire : MayHaveWire rows o.wire
  pub join : o.join ≡ is_given (codes "join") rows
  pub forget : MayHaveForget rows o.forget
  pub verbose : o.verbose ≡ is_given (codes "verbose") rows

-- the matches of `serve` ask for this
pub record AsksServe (rows : List Row) (o : ServeOrder) : Type 0 where
  pub port : MayHavePort rows o.port
  pub has_address : o.has_address ≡ is_text_given (codes "listen") rows
  pub is_open : o.is_open ≡ is_given (codes "open") rows
  pub has_etcd : o.has_etcd ≡ is_text_given (codes "etcd") rows
  pub has_login : o.has_login ≡ is_text_given (codes "login") rows
  pub viewers : MayHaveViewers rows o.viewers
  pub keep : MayHaveKeep rows o.keep
  pub forget : MayHaveForget rows o.forget
  pub base : MayHaveBase rows o.base
  pub every : MayHaveEvery rows o.every
  pub verbose : o.verbose ≡ is_given (codes "verbose") rows

-- the command of this name with these matches asks for this
abbrev pub Asks : Order → Text × List Row → Type 0
Asks (Run no_trace) p = (p.0 ≡ codes "run") × (no_trace ≡ is_given (codes "no-trace") p.1)
Asks Format p = p.0 ≡ codes "format"
Asks Check p = p.0 ≡ codes "check"
Asks (Rehearse viewers) p = (p.0 ≡ codes "rehearse") × IsViewers p.1 viewers
Asks (Agree viewers turns) p =
    (p.0 ≡ codes "agree") × IsViewers p.1 viewers × IsTurns p.1 turns
Asks (Host o) p = (p.0 ≡ codes "host") × AsksHost p.1 o × (host_misfit o ≡ None)
Asks (View o) p = (p.0 ≡ codes "view") × AsksView p.1 o × (misfit_of o ≡ None)
Asks (Serve o) p = (p.0 ≡ codes "serve") × AsksServe p.1 o × (serve_misfit o ≡ None)
Asks (Recall until info makes) p =
    (p.0 ≡ codes "recall") × MayHaveUntil p.1 until × (info ≡ is_given (codes "info") p.1)
    × (makes ≡ is_text_given (codes "new-log") p.1) × (recall_misfit info makes ≡ None)
Asks (Part list) p = (p.0 ≡ codes "part") × (list ≡ is_given (codes "list") p.1)
Asks (Key viewers) p = (p.0 ≡ codes "key") × IsViewers p.1 viewers

-- `clap` takes the words, and the command that they name asks for this
pub record Means (words : List Text) (order : Order) : Type 0 where
  pub taken : fault_of program words ≡ []
  pub asks : IsSomeAnd (subcommand_of program words) (Asks order)

-- ---- ranges

-- how many inputs a viewer applies before it ends
abbrev pub end_count : ViewEnd → ℕ
end_count (Until n) = n
end_count (Exactly n) = n

-- the numbers of a host's order are in their ranges
pub record HostInRange (o : HostOrder) : Type 0 where
  pub port_low : IfSome o.port (λ n. 1 ≤ n)
  pub viewers_low : IfSome o.viewers (λ n. 1 ≤ n)
  pub viewers_high : IfSome o.viewers (λ n. n ≤ max_viewers)
  pub until_high : IfSome o.until (λ n. n ≤ max_inputs)
  pub keep_high : IfSome o.keep (λ n. n ≤ max_inputs)
  pub forget_high : IfSome o.forget (λ n. n ≤ max_inputs)
  pub every_low : IfSome o.every (λ n. 1 ≤ n)
  pub every_high : IfSome o.every (λ n. n ≤ 3600000)
  pub standby_low : IfSome o.standby (λ n. 1 ≤ n)
  pub standby_high : IfSome o.standby (λ n. n ≤ 3600)
  pub turns_low : IfSome o.turns (λ n. 1 ≤ n)
  pub turns_high : IfSome o.turns (λ n. n ≤ 10000000)
  pub together : host_misfit o ≡ None

-- the numbers of a viewer's order are in their ranges, and go together
pub record ViewInRange (o : ViewOrder) : Type 0 where
  pub port_low : IfSome o.port (λ n. 1 ≤ n)
  pub who_high : o.who < max_viewers
  pub boot_low : IfSome o.boot (λ n. 1 ≤ n)
  pub end_high : end_count o.end ≤ max_inputs
  pub turns_low : 1 ≤ o.turns
  pub turns_high : o.turns ≤ 10000000
  pub at_low : IfSome o.at (λ q. 1 ≤ q)
  pub give_low : IfSome o.give (λ q. 1 ≤ q)
  pub give_turns_low : 1 ≤ o.give_turns
  pub wire_low : IfSome o.wire (λ v. 1 ≤ v)
  pub wire_high : IfSome o.wire (λ v. v ≤ 2)
  pub forget_high : IfSome o.forget (λ n. n ≤ max_inputs)
  pub together : misfit_of o ≡ None

-- the numbers of an order to serve are in their ranges
pub record ServeInRange (o : ServeOrder) : Type 0 where
  pub port_low : IfSome o.port (λ n. 1 ≤ n)
  pub viewers_low : IfSome o.viewers (λ n. 1 ≤ n)
  pub viewers_high : IfSome o.viewers (λ n. n ≤ max_viewers)
  pub keep_high : IfSome o.keep (λ n. n ≤ max_inputs)
  pub forget_high : IfSome o.forget (λ n. n ≤ max_inputs)
  pub base_low : IfSome o.base (λ n. 100 ≤ n)
  pub base_high : IfSome o.base (λ n. n ≤ max_inputs)
  pub every_low : IfSome o.every (λ n. 1 ≤ n)
  pub every_high : IfSome o.every (λ n. n ≤ 3600000)
  pub together : serve_misfit o ≡ None

-- the numbers of an order are in the ranges that hosts and viewers take
abbrev pub IsInRange : Order → Type 0
IsInRange (Rehearse viewers) = (1 ≤ viewers) × (viewers ≤ max_viewers)
IsInRange (Agree viewers turns) = (1 ≤ viewers) × (viewers ≤ max_viewers)
IsInRange (Host o) = HostInRange o
IsInRange (View o) = ViewInRange o
IsInRange (Serve o) = ServeInRange o
IsInRange (Recall until info makes) = IfSome until (λ n. n ≤ max_inputs)
IsInRange (Key viewers) = (1 ≤ viewers) × (viewers ≤ max_viewers)
IsInRange _ = ⊤

-- ---- help

-- `clap` answers with its help or its version
abbrev pub IsText : ErrorKind → Type 0
IsText k = (k ≡ kind.DisplayHelp) ⊎ (k ≡ kind.DisplayVersion)

-- `clap` refuses the words, for another reason than memory
abbrev pub IsRefusal : ErrorKind → Type 0
IsRefusal k = (k ≢ kind.DisplayHelp) × (k ≢ kind.DisplayVersion) × (k ≢ kind.OutOfMemory)

-- the words ask for help or version, possibly among other faults
abbrev pub AsksForText : List Text → Type 0
AsksForText words = (k : ErrorKind) × IsText k × IsAmong k (fault_of program words)

-- the words ask for help or version, and have no other fault
abbrev pub AsksOnlyForText : List Text → Type 0
AsksOnlyForText words = (k : ErrorKind) × IsText k × (fault_of program words ≡ k ∷ [])
