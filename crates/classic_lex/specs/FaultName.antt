-- The names of faults.
use Rattle.std.specs.Prelude.{ℕ, List, codes}
use Rattle.classic_lex.specs.declared.fault.LexFaultKind.{LexFaultKind}
use Rattle.classic_lex.specs.declared.fault.LexFaultKind.TheVariants.{TooLong, NotUtf8, NoHeader, BadVersion, OpenString, BadNumeral, NumberRange, BadCharacter, Memory}

-- the name of the variant
abbrev pub fault_name : LexFaultKind → List ℕ
fault_name TooLong = codes "TooLong"
fault_name NotUtf8 = codes "NotUtf8"
fault_name NoHeader = codes "NoHeader"
fault_name BadVersion = codes "BadVersion"
fault_name OpenString = codes "OpenString"
fault_name BadNumeral = codes "BadNumeral"
fault_name NumberRange = codes "NumberRange"
fault_name BadCharacter = codes "BadCharacter"
fault_name Memory = codes "Memory"
