-- Key files: lines of viewers' keys, empty lines, and lines that begin with # (our choice).
use Rattle.std.specs.Prelude.{◌≡◌, ◌<◌, ℕ, suc, ⊤, ◌==◌, Bool, true, List, [], ◌∷◌, ◌++◌, Option, None, Some, is_some, length, Result, Ok, Err, if◌then◌else◌}
use Rattle.std.specs.List.{AllByRecursion}
use Rattle.std.specs.Option.{option_to_list}
use Rattle.std.specs.Str.Lines.{lines}
use Rattle.hex.specs.Hex.{IsBytes, encode_lower}
use Rattle.share_keys.specs.Keys.{IsLineOf, line_key, written}
use Rattle.share_keys.specs.Table.{has_any, key_at, with_key}
use Rattle.share_keys.specs.declared.sealing.Key.{Key as AKey}
use Rattle.share_keys.specs.declared.keys.ViewerKey.{ViewerKey}
use Rattle.share_key_files.specs.declared.fault.KeyFault.{KeyFault}
use Rattle.share_key_files.specs.declared.fault.KeyFault.TheVariants.{BadLine, ViewerTwice, NoKeys, TooManyKeys}
use Rattle.share_key_files.specs.declared.fault.KeyFileFault.{KeyFileFault}
use Rattle.share_key_files.specs.declared.line.KeyLine.{KeyLine}
use Rattle.share_key_files.specs.declared.line.KeyLine.TheVariants.{Skipped, Key, Bad}

-- ---- a line

-- an empty line, or one that begins with #
abbrev pub is_skipped : List ℕ → Bool
is_skipped [] = true
is_skipped (first ∷ rest) = first == 35

abbrev pub said_by : Option ViewerKey → KeyLine
said_by (Some key) = Key key
said_by None = Bad

abbrev pub line_of : List ℕ → KeyLine
line_of line = if is_skipped line then Skipped else said_by (line_key line)

-- the line of a key, with its digits in lower case
abbrev pub key_text : (who : ℕ) → AKey → List ℕ
key_text who key = written who ++ 32 ∷ encode_lower key.bytes

-- a written line is that of its key
abbrev pub LinesAreRead : Type 0
LinesAreRead =
    (who : ℕ) (key : AKey) → who < 64 → length key.bytes ≡ 32 → IsBytes key.bytes
    → IsLineOf (record { who = who; key = key }) (key_text who key)

-- ---- a file

abbrev pub fault_at : (line : ℕ) → KeyFault → KeyFileFault
fault_at line kind = record { line = line; kind = kind }

-- what is read further if the line after n lines is right
abbrev pub next_line : {A B : Type 0} → (n : ℕ) → Result A KeyFault → (A → Result B KeyFileFault)
    → Result B KeyFileFault
next_line n (Ok a) more = more a
next_line n (Err kind) more = Err (fault_at (suc n) kind)

-- ---- a host's file

-- a viewer has one key
abbrev pub with_new : List (Option AKey) → ViewerKey → Result (List (Option AKey)) KeyFault
with_new keys k =
    if is_some (key_at keys k.who) then Err ViewerTwice else Ok (with_key keys k.who k.key)

abbrev pub with_line : List (Option AKey) → KeyLine → Result (List (Option AKey)) KeyFault
with_line keys Skipped = Ok keys
with_line keys Bad = Err BadLine
with_line keys (Key k) = with_new keys k

-- the keys of n lines and of these after them, or the first fault
abbrev pub keys_from : (n : ℕ) → List (Option AKey) → List (List ℕ)
    → Result (List (Option AKey)) KeyFileFault
keys_from n keys [] = if has_any keys then Ok keys else Err (fault_at n NoKeys)
keys_from n keys (line ∷ more) =
    next_line n (with_line keys (line_of line)) (λ all. keys_from (suc n) all more)

-- ---- a viewer's file

abbrev pub with_only : Option ViewerKey → KeyLine → Result (Option ViewerKey) KeyFault
with_only found Skipped = Ok found
with_only found Bad = Err BadLine
with_only None (Key k) = Ok (Some k)
with_only (Some other) (Key k) = Err TooManyKeys

-- the key of n lines and of these after them, or the first fault
abbrev pub key_from : (n : ℕ) → Option ViewerKey → List (List ℕ) → Result ViewerKey KeyFileFault
key_from n None [] = Err (fault_at n NoKeys)
key_from n (Some key) [] = Ok key
key_from n found (line ∷ more) =
    next_line n (with_only found (line_of line)) (λ one. key_from (suc n) one more)

-- ---- what is read

-- the key that a line has of this viewer
abbrev pub key_said : (who : ℕ) → KeyLine → List AKey
key_said who Skipped = []
key_said who Bad = []
key_said who (Key k) = if k.who == who then k.key ∷ [] else []

-- the keys that lines have of this viewer
abbrev pub keys_said : (who : ℕ) → List (List ℕ) → List AKey
keys_said who [] = []
keys_said who (line ∷ more) = key_said who (line_of line) ++ keys_said who more

abbrev pub IsRight : KeyLine → Type 0
IsRight Skipped = ⊤
IsRight Bad = ⊥
IsRight (Key k) = ⊤

-- each line is skipped or is that of a key, and each viewer has the one key that a line has of it,
-- or there is no such line
pub record IsKeyFile (bytes : List ℕ) (keys : List (Option AKey)) : Type 0 where
  pub right : AllByRecursion (λ line. IsRight (line_of line)) (lines bytes)
  pub each : (who : ℕ) → keys_said who (lines bytes) ≡ option_to_list (key_at keys who)
