-- The bodies of transactions (etcd's api/v3/txn, as its JSON gateway takes them).
use Rattle.std.specs.Prelude.{ℕ, ◌+◌, ◌++◌, List, codes, decimal}
use Rattle.base64.specs.GeneralPurpose.{encode_of}
use Rattle.base64.specs.Engines.{standard}
use Rattle.share_etcd.specs.Numerals.{digits_of}
use Rattle.share_etcd.specs.Keys.{head_key, tail_key, base_key, snapshot_key, log_front, log_key, log_end}

-- bytes in base64, as JSON has them
abbrev pub base64 : List ℕ → List ℕ
base64 bytes = encode_of standard bytes

-- ---- what is compared

-- the key isn't there
abbrev pub absent : (key : List ℕ) → List ℕ
absent key = codes "{\"key\":\"" ++ base64 key
    ++ codes "\",\"target\":\"CREATE\",\"result\":\"EQUAL\",\"create_revision\":\"0\"}"

-- the key was last changed at this revision
abbrev pub unchanged : (key : List ℕ) (revision : ℕ) → List ℕ
unchanged key revision = codes "{\"key\":\"" ++ base64 key
    ++ codes "\",\"target\":\"MOD\",\"result\":\"EQUAL\",\"mod_revision\":\"" ++ decimal revision
    ++ codes "\"}"

-- ---- what is done

abbrev pub put : (key value : List ℕ) → List ℕ
put key value = codes "{\"request_put\":{\"key\":\"" ++ base64 key
    ++ codes "\",\"value\":\"" ++ base64 value ++ codes "\"}}"

abbrev pub get_one : (key : List ℕ) → List ℕ
get_one key = codes "{\"request_range\":{\"key\":\"" ++ base64 key ++ codes "\"}}"

-- a key, and the end of the range from it on
abbrev pub up_to : (key end : List ℕ) → List ℕ
up_to key end = base64 key ++ codes "\",\"range_end\":\"" ++ base64 end

-- up to 64 keys from this one on, below the end
abbrev pub get_range : (key end : List ℕ) → List ℕ
get_range key end =
    codes "{\"request_range\":{\"key\":\"" ++ up_to key end ++ codes "\",\"limit\":\"64\"}}"

-- the keys from this one on are deleted, below the end
abbrev pub delete_range : (key end : List ℕ) → List ℕ
delete_range key end =
    codes "{\"request_delete_range\":{\"key\":\"" ++ up_to key end ++ codes "\"}}"

-- ---- transactions

abbrev pub joined : (this that : List ℕ) → List ℕ
joined this that = this ++ codes "," ++ that

-- the operations are done where all compares hold, else nothing is
abbrev pub guarded : (compares operations : List ℕ) → List ℕ
guarded compares operations =
    codes "{\"compare\":[" ++ compares ++ codes "],\"success\":[" ++ operations ++ codes "]}"

-- where the world has neither head nor tail: its head, and a tail without entries
abbrev pub making_text : (world head : List ℕ) → List ℕ
making_text world head =
    guarded (joined (absent (head_key world)) (absent (tail_key world)))
    (joined (put (head_key world) head) (put (tail_key world) (digits_of 0)))

-- where head and tail were last changed at these revisions: a frame with these numbers, and the
-- tail
abbrev pub append_text : (world : List ℕ) (head tail : ℕ) (first last : ℕ) (frame : List ℕ) → List ℕ
append_text world head tail first last frame =
    guarded (joined (unchanged (head_key world) head) (unchanged (tail_key world) tail))
    (joined (put (log_key world first) frame) (put (tail_key world) (digits_of last)))

-- where head and tail were last changed at these revisions: the base of this many entries, and the
-- snapshot of the world there, instead of their frames. The head is put again, so that hosts
-- that read it before are refused until they read on.
abbrev pub basing_text : (world : List ℕ) (head tail : ℕ) (number : ℕ)
    → (head_bytes base snapshot : List ℕ) → List ℕ
basing_text world head tail number head_bytes base snapshot =
    guarded (joined (unchanged (head_key world) head) (unchanged (tail_key world) tail))
    (joined (joined (put (head_key world) head_bytes) (put (base_key world) base))
    (joined (put (snapshot_key world) snapshot)
    (delete_range (log_front world) (log_key world (number + 1)))))

-- three operations, of one revision
abbrev pub three : (head tail frames : List ℕ) → List ℕ
three head tail frames = codes "{\"success\":[" ++ head ++ codes "," ++ tail ++ codes "," ++ frames
    ++ codes "]}"

-- head, tail and up to 64 frames from this number on
abbrev pub reading_text : (world : List ℕ) (first : ℕ) → List ℕ
reading_text world first =
    three (get_one (head_key world)) (get_one (tail_key world))
    (get_range (log_key world first) (log_end world))

-- head, tail, the base and its snapshot, and the first 64 frames
abbrev pub opening_text : (world : List ℕ) → List ℕ
opening_text world =
    three (joined (get_one (head_key world)) (get_one (tail_key world)))
    (joined (get_one (base_key world)) (get_one (snapshot_key world)))
    (get_range (log_key world 1) (log_end world))
