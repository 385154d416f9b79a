-- The keys of a world (our choice). A name has no slash, so no key of a world is one of another.
use Rattle.std.specs.Prelude.{ℕ, ◌++◌, List, codes, take}
use Rattle.share_session.specs.Names.{NameView}
use Rattle.share_etcd.specs.Numerals.{digits_of}

-- the bytes of a world's name
abbrev pub text_of : NameView → List ℕ
text_of name = take name.len name.bytes

abbrev pub head_key : (world : List ℕ) → List ℕ
head_key world = codes "x3d/" ++ world ++ codes "/head"

abbrev pub tail_key : (world : List ℕ) → List ℕ
tail_key world = codes "x3d/" ++ world ++ codes "/tail"

-- the key of the base, which is there once the first entries were dropped
abbrev pub base_key : (world : List ℕ) → List ℕ
base_key world = codes "x3d/" ++ world ++ codes "/base"

-- the key of the snapshot of the world at the base
abbrev pub snapshot_key : (world : List ℕ) → List ℕ
snapshot_key world = codes "x3d/" ++ world ++ codes "/snapshot"

-- what the keys of all frames begin with
abbrev pub log_front : (world : List ℕ) → List ℕ
log_front world = codes "x3d/" ++ world ++ codes "/log/"

-- the key of the frame whose first entry has this number
abbrev pub log_key : (world : List ℕ) (first : ℕ) → List ℕ
log_key world first = log_front world ++ digits_of first

-- the end of the range of all frames: 0 follows the slash
abbrev pub log_end : (world : List ℕ) → List ℕ
log_end world = codes "x3d/" ++ world ++ codes "/log0"
