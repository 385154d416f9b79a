-- Which world a datagram is for, with a seal or without.
use Rattle.std.specs.Prelude.{ℕ, ◌==◌, ◌&&◌, List, Option, None, Some, Result, Ok, Err, nat_le, nat_eq, if◌then◌else◌, codes}
use Rattle.std.specs.Cmp.Lexicographic.{pointwise}
use Rattle.byte_codec.specs.Codec.{fixed}
use Rattle.share_session.specs.declared.fault.DatagramFault.{DatagramFault}
use Rattle.share_session.specs.declared.message.Message2.{Message2}
use Rattle.share_session.specs.declared.message.Message2.TheVariants as message
use Rattle.share_session.specs.Decoding.{decoded}
use Rattle.share_session.specs.Fields.{head_codec}
use Rattle.share_worlds.specs.declared.wanted.For.{For}
use Rattle.share_worlds.specs.declared.wanted.For.TheVariants.{Session, Name, Nothing}

-- what a message says: those of a viewer have a session, or name a world
abbrev pub for_message : Message2 → For
for_message (message.Said session body) = Session session
for_message (message.Hello hello) = Name hello.name
for_message (message.Welcome welcome) = Nothing

-- the session at the front of what follows the tag
abbrev pub session_in : Option (List ℕ × List ℕ) → For
session_in None = Nothing
session_in (Some x) = Session x.0

-- the world that a Hello names
abbrev pub named_by : Message2 → For
named_by (message.Said session body) = Nothing
named_by (message.Hello hello) = Name hello.name
named_by (message.Welcome welcome) = Nothing

abbrev pub named : Result Message2 DatagramFault → For
named (Ok m) = named_by m
named (Err fault) = Nothing

-- how many bytes a Hello has
abbrev pub hello_size : ℕ
hello_size = 128

abbrev pub name_in : Option (List ℕ × List ℕ) → For
name_in None = Nothing
name_in (Some x) = named (decoded x.0)

-- tags 1 to 6 have a session, tag 7 is a Hello
abbrev pub by_tag : (tag : ℕ) → (rest bytes : List ℕ) → For
by_tag tag rest bytes =
    if nat_le 1 tag && nat_le tag 6 then session_in ((fixed 16).read rest)
    else if tag == 7 then name_in ((fixed hello_size).read bytes)
    else Nothing

-- by the head, as a datagram is decoded: the magic, the version, and then the tag
abbrev pub by_head : Option ((List ℕ × (ℕ × ℕ)) × List ℕ) → (bytes : List ℕ) → For
by_head None bytes = Nothing
by_head (Some x) bytes =
    if pointwise nat_eq x.0.0 (codes "X3DS") then
    (if x.0.1.0 == 2 then by_tag x.0.1.1 x.1 bytes else Nothing)
    else Nothing

unfoldable pub world_of : List ℕ → For
world_of bytes = by_head (head_codec.read bytes) bytes
