-- An entry of a world's log, and its bytes (our choice).
use Rattle.std.specs.Prelude.{ℕ, ℤ, ◌++◌, ◌&&◌, ◌==◌, Bool, true, List, [], Option, None, Some, if◌then◌else◌}
use Rattle.std.specs.Int.{w32, w64}
use Rattle.byte_codec.specs.Codec.{Codec, ◌>>?◌, pair, named, checked, byte, truth, number, signed}
use Rattle.x3d_values.specs.Ranges.{is_input_time}
use Rattle.share_wire.specs.Messages.{OfferView}
use Rattle.share_wire.specs.Fields.{vector}
use Rattle.share_wire.specs.Datagram.{offering_fits}
use Rattle.share_entries.specs.declared.fields.OfferFields.{OfferFields}
use Rattle.share_entries.specs.declared.entry.Source.{Source}
use Rattle.share_entries.specs.declared.entry.Source.TheVariants.{Clock, Offer}

-- when an input is, and what it came from
pub record EntryView : Type 0 where
  pub time : ℤ
  pub source : Source

-- 1 to 10^18 microseconds
unfoldable pub time_codec : Codec ℤ
time_codec = checked is_input_time (signed w64)

-- ---- offers

-- who, down, origin, direction, boot, offer; no range is checked here
unfoldable pub offer_fields : Codec OfferFields
offer_fields = named
    (λ t. record {
      who = t.0;
      down = t.1.0;
      origin = t.1.1.0;
      dir = t.1.1.1.0;
      boot = t.1.1.1.1.0;
      number = t.1.1.1.1.1;
    })
    (λ f. (f.who, (f.down, (f.origin, (f.dir, (f.boot, f.number))))))
    (pair byte (pair truth (pair vector (pair vector (pair (number w32) (number w32))))))

abbrev pub offer_with : OfferFields → OfferView
offer_with f = record {
  boot = f.boot;
  number = f.number;
  pointer = record {
    who = f.who;
    down = f.down;
    ray = record { origin = f.origin; dir = f.dir };
  };
}

abbrev pub fields_of : OfferView → OfferFields
fields_of o = record {
  who = o.pointer.who;
  down = o.pointer.down;
  origin = o.pointer.ray.origin;
  dir = o.pointer.ray.dir;
  boot = o.boot;
  number = o.number;
}

-- an offer in its ranges
unfoldable pub offer_codec : Codec OfferView
offer_codec = named offer_with fields_of
    (checked (λ f. offering_fits (offer_with f)) offer_fields)

-- ---- entries

-- 0 for a clock, 1 for a pointer
abbrev pub kind_of : Source → ℕ
kind_of Clock = 0
kind_of (Offer o) = 1

-- no bytes for a clock
abbrev pub source_text : Source → List ℕ
source_text Clock = []
source_text (Offer o) = offer_codec.write o

abbrev pub source_fits : Source → Bool
source_fits Clock = true
source_fits (Offer o) = offer_codec.fits o

-- an offer that was read, as a source
abbrev pub offered : OfferView × List ℕ → Option (Source × List ℕ)
offered o = Some (Offer o.0, o.1)

-- the source at the front of bytes, by its kind
abbrev pub source_at : ℕ → List ℕ → Option (Source × List ℕ)
source_at kind bytes =
    if kind == 0 then Some (Clock, bytes)
    else if kind == 1 then (offer_codec.read bytes >>? offered)
    else None

-- time, kind
unfoldable pub stamp_codec : Codec (ℤ × ℕ)
stamp_codec = pair time_codec byte

abbrev pub entry_with : ℤ → Source × List ℕ → Option (EntryView × List ℕ)
entry_with time source = Some (record { time = time; source = source.0 }, source.1)

-- the entry of a time and a kind, and of the bytes after them
abbrev pub entry_behind : (ℤ × ℕ) × List ℕ → Option (EntryView × List ℕ)
entry_behind stamp = source_at stamp.0.1 stamp.1 >>? entry_with stamp.0.0

-- time, kind, and for a pointer the offer
unfoldable pub entry_codec : Codec EntryView
entry_codec = record {
  write = λ e. stamp_codec.write (e.time, kind_of e.source) ++ source_text e.source;
  read = λ bytes. stamp_codec.read bytes >>? entry_behind;
  fits = λ e. is_input_time e.time && source_fits e.source;
}
