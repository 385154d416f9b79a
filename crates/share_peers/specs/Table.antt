-- A table of addresses by number, and which of them are kept.
use Rattle.std.specs.Prelude.{◌≡◌, ◌<◌, ◌+◌, ◌%◌, ◌==◌, ℕ, Bool, true, false, List, Option, Some, None}
use Rattle.std.specs.Prelude.{get_or, slice_set, length, if◌then◌else◌}
use Rattle.std.specs.List.{list_any}
use Rattle.std.specs.declared.net.socket_addr.SocketAddr.{SocketAddr}

-- a table: the address of each number, and the number that the next new address may have; the
-- numbers that were kept last, and the place among these of the next one
pub record Table : Type 0 where
  pub addresses : List (Option SocketAddr)
  pub next : ℕ
  pub kept : List ℕ
  pub turn : ℕ

-- how many numbers a table has, and how many of them are kept at most
abbrev pub count_of : Table → ℕ
count_of t = length t.addresses

abbrev pub most_kept : Table → ℕ
most_kept t = length t.kept

-- the address of a number, if it has one
abbrev pub address_at : List (Option SocketAddr) → ℕ → Option SocketAddr
address_at addresses n = get_or addresses n None

-- the table has this address at this number
abbrev pub IsAt : List (Option SocketAddr) → ℕ → SocketAddr → Type 0
IsAt addresses n address = address_at addresses n ≡ Some address

abbrev pub is_kept : List ℕ → ℕ → Bool
is_kept kept n = list_any (λ m. m == n) kept

-- all numbers of a table of `count` are kept
abbrev pub AllKept : List ℕ → (count : ℕ) → Type 0
AllKept kept count = (n : ℕ) → n < count → is_kept kept n ≡ true

-- the number is the first one from `next` on, round a table of `count`, that isn't kept
pub record IsFree (kept : List ℕ) (count next n : ℕ) : Type 0 where
  pub steps : ℕ
  pub few : steps < count
  pub at : n ≡ (next + steps) % count
  pub free : is_kept kept n ≡ false
  pub before : (k : ℕ) → k < steps → is_kept kept ((next + k) % count) ≡ true

-- a number is kept
abbrev pub keeping : Table → ℕ → Table
keeping t n =
    if is_kept t.kept n then t
    else record t { kept = slice_set t.kept t.turn n; turn = (t.turn + 1) % most_kept t }

-- two numbers never have the same address
abbrev pub AreDistinct : List (Option SocketAddr) → Type 0
AreDistinct addresses = (m n : ℕ) (address : SocketAddr) → IsAt addresses m address
    → IsAt addresses n address → m ≡ n

-- the address has no number yet, and gets one: the first from `next` on that isn't kept
pub record IsAdded (old : Table) (address : SocketAddr) (n : ℕ) (new : Table) : Type 0 where
  pub free : IsFree old.kept (count_of old) old.next n
  pub new_table : new ≡ record old {
    addresses = slice_set old.addresses n (Some address);
    next = (n + 1) % count_of old;
  }
