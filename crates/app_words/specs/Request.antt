-- What words ask for: a text of help, or a command.
use Rattle.clap.specs.Words.{Text}
use Rattle.app_words.specs.Words.{AsksForText, AsksOnlyForText, IsInRange, Means}
use Rattle.app_words.specs.declared.order.Order.{Order}
use Rattle.app_words.specs.declared.order.Request.{Request}
use Rattle.app_words.specs.declared.order.Request.TheVariants as request
use Rattle.std.specs.Prelude.{List}

-- the words ask for a text, or mean this order
abbrev pub IsRequest : List Text → Request → Type 0
IsRequest words (request.Text text) = AsksForText words
IsRequest words (request.Order order) = Means words order × IsInRange order

-- the words mean no order, and they do not ask for a text alone
abbrev pub RequestsNothing : List Text → Type 0
RequestsNothing words = ((order : Order) → ¬ Means words order) × (¬ AsksOnlyForText words)
