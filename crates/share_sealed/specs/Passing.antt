-- What passes through a port of sealed datagrams (our choice).
use Rattle.std.specs.Prelude.{◌≡◌, ◌≤◌, ℕ, ⊤, ◌++◌, ◌&&◌, Bool, true, false, List, [], ◌∷◌}
use Rattle.std.specs.Prelude.{Option, None, Some, Result, Ok, Err, length, take, is_some, nat_le}
use Rattle.std.specs.Prelude.{if◌then◌else◌}
use Rattle.std.specs.Option.{option_map}
use Rattle.share_keys.specs.Claims.{opened_in}
use Rattle.share_keys.specs.Seal.{seal_of, unsealed_in}
use Rattle.share_keys.specs.declared.sealing.Direction.{Direction}
use Rattle.share_keys.specs.declared.sealing.Direction.TheVariants.{FromHost}
use Rattle.share_keys.specs.declared.sealing.Key.{Key}
use Rattle.share_turns.specs.Told.{counted, max_received, one_more}
use Rattle.share_turns.specs.declared.port.PortFault.{PortFault}
use Rattle.share_turns.specs.declared.traffic.Traffic.{Traffic}
use Rattle.share_turns.specs.declared.traffic.Traffic.TheVariants.{Nothing, Received, Sent}
use Rattle.share_sealed.specs.declared.coming.Coming.{Coming}
use Rattle.share_sealed.specs.declared.coming.Coming.TheVariants as coming
use Rattle.share_sealed.specs.declared.coming.Wrongs.{Wrongs}
use Rattle.share_sealed.specs.Speakers.{key_to, noted}
use Rattle.share_sealed.specs.Told.{IsPassed, Opening, all_opened, goes_on, row_opened, row_wrong}
use Rattle.share_sealed.specs.Told.{told_in}

-- the datagram to the host of the viewer that it says it is of, by that viewer's key
abbrev pub host_opens : List (Option Key) → Opening
host_opens keys bytes = option_map (λ o. o.1) (opened_in keys bytes)

-- the datagram from the host to the viewer with this key
abbrev pub viewer_opens : (key : List ℕ) → Opening
viewer_opens key bytes = unsealed_in key FromHost bytes

-- what each of them records
abbrev pub host_told : List (Option Key) → Wrongs → Option (List Traffic) → Option (List Traffic)
host_told keys w told = told_in (host_opens keys) w.row told

abbrev pub viewer_told : (key : List ℕ) → Wrongs → Option (List Traffic) → Option (List Traffic)
viewer_told key w told = told_in (viewer_opens key) w.row told

-- ---- what comes

-- what comes of another wrong datagram, after others in a row
abbrev pub coming_wrong : (row : ℕ) → Coming
coming_wrong row = if goes_on row then coming.Wrong else coming.Nothing

-- what comes of a datagram that is opened so
abbrev pub coming_opened : (row peer : ℕ) → Option (List ℕ) → Coming
coming_opened row peer (Some datagram) = coming.Handed peer (length datagram)
coming_opened row peer None = coming_wrong row

abbrev pub no_wrongs : Wrongs
no_wrongs = record { row = 0; all = 0 }

abbrev pub wrongs_wrong : Wrongs → Wrongs
wrongs_wrong w = record { row = row_wrong w.row; all = one_more w.all }

abbrev pub wrongs_opened : Wrongs → Option (List ℕ) → Wrongs
wrongs_opened w o = record { row = row_opened w.row o; all = all_opened w.all o }

-- what is handed on: of that number of bytes at the front of what was received
abbrev pub handed_coming : (into : List ℕ) → Coming → List Traffic
handed_coming into coming.Nothing = Nothing ∷ []
handed_coming into coming.Wrong = []
handed_coming into (coming.Handed peer count) =
    Received (record { peer = peer; bytes = take count into }) ∷ []

abbrev pub MostBytes : Coming → Type 0
MostBytes coming.Nothing = ⊤
MostBytes coming.Wrong = ⊤
MostBytes (coming.Handed peer count) = count ≤ max_received

abbrev pub handed_of : (into : List ℕ) → Result Coming PortFault → List Traffic
handed_of into (Ok came) = handed_coming into came
handed_of into (Err fault) = []

abbrev pub handed_some : (into : List ℕ) → Option (ℕ × ℕ) → List Traffic
handed_some into None = Nothing ∷ []
handed_some into (Some r) = Received (record { peer = r.0; bytes = take r.1 into }) ∷ []

abbrev pub handed_in : (into : List ℕ) → Result (Option (ℕ × ℕ)) PortFault → List Traffic
handed_in into (Ok came) = handed_some into came
handed_in into (Err fault) = []

-- ---- who a host heard

abbrev pub heard : (peer : ℕ) → Option (ℕ × List ℕ) → List (Option ℕ) → List (Option ℕ)
heard peer None speakers = speakers
heard peer (Some o) speakers = noted speakers peer o.0

abbrev pub heard_one : List (Option Key) → List (Option ℕ) → Traffic → List (Option ℕ)
heard_one keys speakers Nothing = speakers
heard_one keys speakers (Received d) = heard d.peer (opened_in keys d.bytes) speakers
heard_one keys speakers (Sent d) = speakers

abbrev pub heard_all : List (Option Key) → List (Option ℕ) → List Traffic → List (Option ℕ)
heard_all keys speakers [] = speakers
heard_all keys speakers (t ∷ ts) = heard_all keys (heard_one keys speakers t) ts

-- what passed below a host's port, what was handed on, and who was heard
abbrev pub HostPasses : List (Option Key) → (before after : Wrongs)
    → (told_before told_after : Option (List Traffic)) → (handed : List Traffic)
    → (heard_before heard_after : List (Option ℕ)) → Type 0
HostPasses keys before after told_before told_after handed heard_before heard_after =
    (passed : List Traffic)
    × IsPassed (host_opens keys) before after told_before told_after passed handed
    × (heard_after ≡ heard_all keys heard_before passed)

-- what passed below a viewer's port, and what was handed on
abbrev pub ViewerPasses : (key : List ℕ) → (before after : Wrongs)
    → (told_before told_after : Option (List Traffic)) → (handed : List Traffic) → Type 0
ViewerPasses key before after told_before told_after handed =
    (passed : List Traffic)
    × IsPassed (viewer_opens key) before after told_before told_after passed handed

-- ---- what is sent

-- a datagram to a peer, with its seal
abbrev pub sealed_to : (peer : ℕ) → (key : List ℕ) → Direction → List ℕ → List Traffic
sealed_to peer key direction bytes =
    Sent (record { peer = peer; bytes = bytes ++ seal_of key direction bytes }) ∷ []

-- there is room for a seal
abbrev pub has_room : (bytes : List ℕ) → Bool
has_room bytes = nat_le (length bytes) 273

-- what a host may send to a peer: it heard that one, and there is room for a seal
abbrev pub host_sends : List (Option Key) → (speakers : List (Option ℕ)) → (peer : ℕ)
    → (bytes : List ℕ) → Bool
host_sends keys speakers peer bytes = is_some (key_to keys speakers peer) && has_room bytes

-- how often the port below has failed after a send with this answer, which was given to it or not
abbrev pub counted_if : {A E : Type 0} → (given : Bool) → Result A E → ℕ → ℕ
counted_if true result n = counted result n
counted_if false result n = n
