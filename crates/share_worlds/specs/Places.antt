-- The places of worlds, by session and by name.
use Rattle.std.specs.Prelude.{ℕ, ◌-◌, ◌++◌, List, length, replicate, take, nat_le, Option, None, if◌then◌else◌}
use Rattle.std.specs.Ordering.{nat_cmp}
use Rattle.std.specs.BTreeMap.{get_by}
use Rattle.std.specs.Cmp.Lexicographic.{slice_cmp}
use Rattle.std.specs.Str.{bytes_eq}
use Rattle.share_session.specs.Names.{NameView}
use Rattle.share_worlds.specs.declared.directory.Directory.{Directory}
use Rattle.share_worlds.specs.declared.wanted.For.{For}
use Rattle.share_worlds.specs.declared.wanted.For.TheVariants.{Session, Name, Nothing}

-- the bytes of a name with zeros after them, up to 64
abbrev pub key_of : List ℕ → List ℕ
key_of text =
    if nat_le (length text) 64 then text ++ replicate (64 - length text) 0 else replicate 64 0

abbrev pub name_key : NameView → List ℕ
name_key name = key_of (take name.len name.bytes)

-- the places by key
abbrev pub Table : Type 0
Table = List ℕ → Option ℕ

abbrev pub no_places : Table
no_places key = None

abbrev pub with_place : (key : List ℕ) → Option ℕ → Table → Table
with_place key place table other = if bytes_eq key other then place else table other

unfoldable pub sessions_of : Directory → Table
sessions_of d key = get_by (slice_cmp nat_cmp key) d.sessions

-- by the keys of names
unfoldable pub names_of : Directory → Table
names_of d key = get_by (slice_cmp nat_cmp key) d.names

-- the place of the world that a datagram is for
abbrev pub place_in : (sessions names : Table) → For → Option ℕ
place_in sessions names (Session session) = sessions session
place_in sessions names (Name name) = names (name_key name)
place_in sessions names Nothing = None
