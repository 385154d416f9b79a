-- What a port of sealed datagrams records, given what the port below records (our choice). A
-- datagram that came with a right seal is handed on without it, and one that is sent was given
-- without its seal. Another datagram that came is counted, and not recorded; but after 64 of them
-- in a row a receive ends, as if nothing had arrived.
use Rattle.std.specs.Prelude.{◌≡◌, ℕ, ◌+◌, ◌==◌, ◌++◌, Bool, List, [], ◌∷◌, Option, None, Some}
use Rattle.std.specs.Prelude.{nat_lt, if◌then◌else◌}
use Rattle.share_keys.specs.Seal.{front_of}
use Rattle.share_turns.specs.Told.{Grows, one_more}
use Rattle.share_turns.specs.declared.traffic.Traffic.{Traffic}
use Rattle.share_turns.specs.declared.traffic.Traffic.TheVariants.{Nothing, Received, Sent}
use Rattle.share_sealed.specs.declared.coming.Wrongs.{Wrongs}

-- the datagram of which bytes are the sealed form, if they have a right seal
abbrev pub Opening : Type 0
Opening = List ℕ → Option (List ℕ)

-- ---- wrong datagrams in a row, since a receive last ended

-- whether a receive goes on after another one
abbrev pub goes_on : (row : ℕ) → Bool
goes_on row = nat_lt row 63

abbrev pub row_wrong : (row : ℕ) → ℕ
row_wrong row = if goes_on row then row + 1 else 0

abbrev pub row_opened : (row : ℕ) → Option (List ℕ) → ℕ
row_opened row (Some datagram) = 0
row_opened row None = row_wrong row

abbrev pub row_after : Opening → (row : ℕ) → Traffic → ℕ
row_after opens row Nothing = 0
row_after opens row (Received d) = row_opened row (opens d.bytes)
row_after opens row (Sent d) = row

abbrev pub row_of : Opening → (row : ℕ) → List Traffic → ℕ
row_of opens row [] = row
row_of opens row (t ∷ ts) = row_of opens (row_after opens row t) ts

-- ---- wrong datagrams in all

abbrev pub all_opened : (all : ℕ) → Option (List ℕ) → ℕ
all_opened all (Some datagram) = all
all_opened all None = one_more all

abbrev pub all_after : Opening → (all : ℕ) → Traffic → ℕ
all_after opens all Nothing = all
all_after opens all (Received d) = all_opened all (opens d.bytes)
all_after opens all (Sent d) = all

abbrev pub all_of : Opening → (all : ℕ) → List Traffic → ℕ
all_of opens all [] = all
all_of opens all (t ∷ ts) = all_of opens (all_after opens all t) ts

-- ---- what is recorded

abbrev pub told_opened : (row peer : ℕ) → Option (List ℕ) → List Traffic
told_opened row peer (Some datagram) = Received (record { peer = peer; bytes = datagram }) ∷ []
told_opened row peer None = if goes_on row then [] else Nothing ∷ []

abbrev pub told_one : Opening → (row : ℕ) → Traffic → List Traffic
told_one opens row Nothing = Nothing ∷ []
told_one opens row (Received d) = told_opened row d.peer (opens d.bytes)
told_one opens row (Sent d) = Sent (record { peer = d.peer; bytes = front_of d.bytes }) ∷ []

abbrev pub told_from : Opening → (row : ℕ) → List Traffic → List Traffic
told_from opens row [] = []
told_from opens row (t ∷ ts) = told_one opens row t ++ told_from opens (row_after opens row t) ts

-- The record of a port with this row of wrong datagrams. A port that was begun over one whose
-- record ends with another row records nothing.
abbrev pub told_in : Opening → (row : ℕ) → Option (List Traffic) → Option (List Traffic)
told_in opens row None = None
told_in opens row (Some ts) = if row_of opens 0 ts == row then Some (told_from opens 0 ts) else None

-- this passed below, from one moment to a later one, and this was handed on
pub record IsPassed (opens : Opening) (before after : Wrongs)
    (told_before told_after : Option (List Traffic)) (passed handed : List Traffic) : Type 0 where
  pub told : Grows told_before told_after passed
  pub row : after.row ≡ row_of opens before.row passed
  pub all : after.all ≡ all_of opens before.all passed
  pub handed_is : handed ≡ told_from opens before.row passed
