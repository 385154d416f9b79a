-- What an answer to a reading transaction says of a world.
use Rattle.std.specs.Prelude.{ℕ, ◌&&◌, Bool, true, false, List, [], ◌∷◌, length, take, drop, codes, Option, None, Some, is_some, Result, Ok, Err, if◌then◌else◌, nat_eq, nat_le, nat_lt}
use Rattle.std.specs.Cmp.Lexicographic.{pointwise}
use Rattle.std.specs.Option.{option_map}
use Rattle.byte_codec.specs.Codec.{◌>>?◌}
use Rattle.base64.specs.GeneralPurpose.{decode_of}
use Rattle.base64.specs.Engines.{standard}
use Rattle.base64.specs.declared.decode.DecodeError.{DecodeError}
use Rattle.serde_json.specs.Data.{Data, Items, no_items, item}
use Rattle.serde_json.specs.Find.{get, at, as_str, as_array, as_object}
use Rattle.share_etcd.specs.Numerals.{number_of}
use Rattle.share_etcd.specs.Keys.{head_key, tail_key, base_key, snapshot_key, log_front}
use Rattle.share_etcd.specs.Answers.{revision_at, outcome_of}
use Rattle.share_etcd.specs.declared.outcome.Outcome.{Outcome}
use Rattle.share_etcd.specs.declared.outcome.Outcome.TheVariants.{Stored, Refused, Malformed}

-- ---- keys and their values

-- a key, its value, and the revision at which it was last changed
pub record PairView : Type 0 where
  pub key : List ℕ
  pub value : List ℕ
  pub revision : ℕ

abbrev pub decoded : Result (List ℕ) DecodeError → Option (List ℕ)
decoded (Ok bytes) = Some bytes
decoded (Err _) = None

-- the bytes whose base64 a text is
abbrev pub bytes_of : List ℕ → Option (List ℕ)
bytes_of text = decoded (decode_of standard text)

-- the bytes that a member has in base64
abbrev pub bytes_at : (name : List ℕ) → Data → Option (List ℕ)
bytes_at name d = (get name d >>? as_str) >>? bytes_of

abbrev pub pair_by : Option (List ℕ) → Option (List ℕ) → Option ℕ → Option PairView
pair_by None _ _ = None
pair_by (Some key) None _ = None
pair_by (Some key) (Some value) None = None
pair_by (Some key) (Some value) (Some revision) =
    Some (record { key = key; value = value; revision = revision })

abbrev pub pair_in : Data → Option PairView
pair_in d =
    pair_by (bytes_at (codes "key") d) (bytes_at (codes "value") d)
    (revision_at (codes "mod_revision") d)

-- ---- ranges

abbrev pub list_of : Items → List Data
list_of no_items = []
list_of (item d ds) = d ∷ list_of ds

-- the pairs of a range; none, if they were left out
abbrev pub listed : Option Data → Option (List Data)
listed None = Some []
listed (Some d) = option_map list_of (as_array d)

abbrev pub pairs_in : Data → Option (List Data)
pairs_in range = if is_some (as_object range) then listed (get (codes "kvs") range) else None

-- the pairs of the range that answers the request at this place
abbrev pub pairs_at : (place : ℕ) → Data → Option (List Data)
pairs_at place d =
    ((get (codes "responses") d >>? at place) >>? get (codes "response_range")) >>? pairs_in

-- ---- one key

-- a value, and the revision at which it was last changed
pub record ValueView : Type 0 where
  pub bytes : List ℕ
  pub revision : ℕ

abbrev pub value_under : (key : List ℕ) → Option PairView → Option ValueView
value_under key None = None
value_under key (Some p) =
    if pointwise nat_eq p.key key then Some (record { bytes = p.value; revision = p.revision })
    else None

-- what a range of this key alone has: nothing, or its value
abbrev pub single : (key : List ℕ) → Option (List Data) → Option (Option ValueView)
single key None = None
single key (Some []) = Some None
single key (Some (d ∷ [])) = option_map Some (value_under key (pair_in d))
single key (Some (d ∷ e ∷ ds)) = None

-- ---- frames

-- the number of its first entry, and its bytes
pub record FrameView : Type 0 where
  pub first : ℕ
  pub bytes : List ℕ

-- the number in the key of a frame
abbrev pub first_in : (front key : List ℕ) → Option ℕ
first_in front key =
    if pointwise nat_eq (take (length front) key) front then number_of (drop (length front) key)
    else None

abbrev pub framed : (bytes : List ℕ) → Option ℕ → Option FrameView
framed bytes None = None
framed bytes (Some first) = Some (record { first = first; bytes = bytes })

abbrev pub frame_by : (front : List ℕ) → Option PairView → Option FrameView
frame_by front None = None
frame_by front (Some p) = framed p.value (first_in front p.key)

abbrev pub joined : Option FrameView → Option (List FrameView) → Option (List FrameView)
joined None _ = None
joined (Some frame) None = None
joined (Some frame) (Some frames) = Some (frame ∷ frames)

-- a frame of each pair
abbrev pub frames_in : (front : List ℕ) → List Data → Option (List FrameView)
frames_in front [] = Some []
frames_in front (d ∷ ds) = joined (frame_by front (pair_in d)) (frames_in front ds)

-- each number is above the one before
abbrev pub rises_after : (last : ℕ) → List FrameView → Bool
rises_after last [] = true
rises_after last (f ∷ fs) = nat_lt last f.first && rises_after f.first fs

-- and the first is at least this one
abbrev pub rises_from : (from : ℕ) → List FrameView → Bool
rises_from from [] = true
rises_from from (f ∷ fs) = nat_le from f.first && rises_after f.first fs

abbrev pub in_order : (from : ℕ) → Option (List FrameView) → Option (List FrameView)
in_order from None = None
in_order from (Some frames) = if rises_from from frames then Some frames else None

abbrev pub log_by : (front : List ℕ) (from : ℕ) → Option (List Data) → Option (List FrameView)
log_by front from None = None
log_by front from (Some ds) = in_order from (frames_in front ds)

-- ---- a world

pub record ContentsView : Type 0 where
  pub head : List ℕ
  pub head_revision : ℕ
  pub tail : ℕ
  pub tail_revision : ℕ
  pub frames : List FrameView

abbrev pub contents_with : ValueView → ValueView → List FrameView → Option ℕ → Option ContentsView
contents_with head tail frames None = None
contents_with head tail frames (Some n) = Some (record {
  head = head.bytes;
  head_revision = head.revision;
  tail = n;
  tail_revision = tail.revision;
  frames = frames;
})

-- a world with a head, a tail and frames, or with none of these
abbrev pub contents_by : Option ValueView → Option ValueView → List FrameView
    → Option (Option ContentsView)
contents_by (Some head) (Some tail) frames =
    option_map Some (contents_with head tail frames (number_of tail.bytes))
contents_by None None [] = Some None
contents_by None None (f ∷ fs) = None
contents_by None (Some tail) frames = None
contents_by (Some head) None frames = None

abbrev pub contents_over : Option (Option ValueView) → Option (Option ValueView)
    → Option (List FrameView) → Option (Option ContentsView)
contents_over None _ _ = None
contents_over (Some head) None _ = None
contents_over (Some head) (Some tail) None = None
contents_over (Some head) (Some tail) (Some frames) = contents_by head tail frames

abbrev pub is_stored : Outcome → Bool
is_stored (Stored _) = true
is_stored Refused = false
is_stored Malformed = false

-- what an answer says of a world's log from this number on: nothing, if there is no such world
abbrev pub contents_in : (world : List ℕ) (from : ℕ) → Data → Option (Option ContentsView)
contents_in world from d =
    if is_stored (outcome_of (Some d)) then
    contents_over (single (head_key world) (pairs_at 0 d)) (single (tail_key world) (pairs_at 1 d))
    (log_by (log_front world) from (pairs_at 2 d))
    else None

abbrev pub contents_of : (world : List ℕ) (from : ℕ) → Option Data → Option (Option ContentsView)
contents_of world from None = None
contents_of world from (Some d) = contents_in world from d

-- ---- a world that is opened

-- a base, and the snapshot of the world there
pub record BasedView : Type 0 where
  pub base : List ℕ
  pub snapshot : List ℕ

pub record OpeningView : Type 0 where
  pub based : Option BasedView
  pub contents : ContentsView

-- a base with its snapshot, or neither
abbrev pub based_by : Option ValueView → Option ValueView → Option (Option BasedView)
based_by None None = Some None
based_by (Some base) (Some snapshot) =
    Some (Some (record { base = base.bytes; snapshot = snapshot.bytes }))
based_by None (Some snapshot) = None
based_by (Some base) None = None

abbrev pub based_over : Option (Option ValueView) → Option (Option ValueView)
    → Option (Option BasedView)
based_over None _ = None
based_over (Some base) None = None
based_over (Some base) (Some snapshot) = based_by base snapshot

-- only a world that is there has a base
abbrev pub opening_by : Option (Option ContentsView) → Option (Option BasedView)
    → Option (Option OpeningView)
opening_by None _ = None
opening_by (Some contents) None = None
opening_by (Some (Some contents)) (Some based) =
    Some (Some (record { based = based; contents = contents }))
opening_by (Some None) (Some None) = Some None
opening_by (Some None) (Some (Some based)) = None

-- what an answer says of a world that is opened: nothing, if there is no such world
abbrev pub opening_in : (world : List ℕ) → Data → Option (Option OpeningView)
opening_in world d =
    if is_stored (outcome_of (Some d)) then
    opening_by
    (contents_over (single (head_key world) (pairs_at 0 d))
    (single (tail_key world) (pairs_at 1 d)) (log_by (log_front world) 1 (pairs_at 4 d)))
    (based_over (single (base_key world) (pairs_at 2 d))
    (single (snapshot_key world) (pairs_at 3 d)))
    else None

abbrev pub opening_of : (world : List ℕ) → Option Data → Option (Option OpeningView)
opening_of world None = None
opening_of world (Some d) = opening_in world d
