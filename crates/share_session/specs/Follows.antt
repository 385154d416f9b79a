-- The test of the chain at a viewer.
use Rattle.std.specs.Prelude.{◌≡◌, ◌≤◌, ◌⊎◌, ℕ, suc, true, ◌==◌, ◌++◌, Bool, List, [], ◌∷◌, length, take, Option, None, Some, nat_eq, if◌then◌else◌}
use Rattle.std.specs.List.{AllByRecursion}
use Rattle.std.specs.Cmp.Lexicographic.{pointwise}
use Rattle.byte_codec.specs.Codec.{◌>>?◌}
use Rattle.share_entries.specs.Entry.{EntryView, entry_codec}
use Rattle.share_entries.specs.Chain.{link, chain_after, Collide}
use Rattle.share_session.specs.declared.message.Input2.{Input2}
use Rattle.share_session.specs.declared.prefix.Prefix.{Prefix}

-- an input comes after a list with this chain
abbrev pub follows : (chain : List ℕ) → Input2 → Bool
follows chain i = pointwise nat_eq i.chain chain

-- the input with the next number
abbrev pub is_next : Prefix → Input2 → Bool
is_next p i = suc p.applied == i.number

-- one input more
abbrev pub extended : Prefix → Input2 → Prefix
extended p i = record { applied = i.number; chain = link p.chain i.entry }

-- what is applied after an input comes: the next input is applied if it follows, and is of another
-- list otherwise (None); any other input changes nothing
abbrev pub taken : Prefix → Input2 → Option Prefix
taken p i =
    if is_next p i then (if follows p.chain i then Some (extended p i) else None) else Some p

-- ---- inputs one after another

abbrev pub all_taken : Prefix → List Input2 → Option Prefix
all_taken p [] = Some p
all_taken p (i ∷ is) = taken p i >>? λ q. all_taken q is

-- the entries of those that are applied
abbrev pub applied_of : Prefix → List Input2 → List EntryView
applied_of p [] = []
applied_of p (i ∷ is) =
    if is_next p i then i.entry ∷ applied_of (extended p i) is else applied_of p is

-- ---- over one log

-- the first n entries of a log that begins with this run
abbrev pub first_of : (run : List ℕ) → List EntryView → ℕ → Prefix
first_of run log n = record { applied = n; chain = chain_after run (take n log) }

-- an input as a host over this log sends it
pub record IsOfLog (run : List ℕ) (log : List EntryView) (i : Input2) : Type 0 where
  pub before : List EntryView
  pub after : List EntryView
  pub log_is : log ≡ before ++ i.entry ∷ after
  pub number : i.number ≡ suc (length before)
  pub chain : i.chain ≡ chain_after run before

-- A viewer that has applied the first n entries of a log never finds an input of another list,
-- whichever inputs of that log come, in whatever order and however often; and what it has applied
-- are the first m entries.
abbrev pub NeverFails : Type 0
NeverFails =
    (run : List ℕ) (log : List EntryView) (is : List Input2) → AllByRecursion (IsOfLog run log) is
    → (n : ℕ) → n ≤ length log
    → (m : ℕ) × (m ≤ length log)
    × (all_taken (first_of run log n) is ≡ Some (first_of run log m))

-- ---- two viewers

-- a viewer that begins in a run, after these inputs, whoever sent them
pub record Reaches (run : List ℕ) (is : List Input2) (p : Prefix) : Type 0 where
  pub len : length run ≡ 16
  pub fit : AllByRecursion (λ i. entry_codec.fits i.entry ≡ true) is
  pub applied : all_taken (record { applied = 0; chain = run }) is ≡ Some p

-- Two viewers with one chain at one number have applied the same entries, and are in one run, or
-- two texts collide.
abbrev pub ChainsAgree : Type 0
ChainsAgree =
    (run other : List ℕ) (is js : List Input2) (p q : Prefix)
    → Reaches run is p → Reaches other js q → p.applied ≡ q.applied → p.chain ≡ q.chain
    → ((run ≡ other)
    × (applied_of (record { applied = 0; chain = run }) is
    ≡ applied_of (record { applied = 0; chain = other }) js)) ⊎ Collide
