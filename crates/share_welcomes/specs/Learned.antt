-- The entries of a log that a port has learned and may still send, with their chains.
use Rattle.std.specs.Prelude.{ℕ, ◌+◌, ◌-◌, ◌++◌, ◌&&◌, Bool, List, [], ◌∷◌, length, map, min, take, drop, replicate, nat_le, nat_lt, slice_get, slice_set, get_or, Option, None, Some, if◌then◌else◌}
use Rattle.std.specs.List.{fold}
use Rattle.share_rules.specs.declared.kept.SeatCount.{SeatCount}
use Rattle.share_entries.specs.Base.{BaseView}
use Rattle.share_entries.specs.Entry.{EntryView}
use Rattle.share_entries.specs.declared.entry.Source.{Source}
use Rattle.share_entries.specs.declared.entry.Source.TheVariants.{Clock, Offer}
use Rattle.share_entries.specs.Chain.{link, chain_after}
use Rattle.share_session.specs.declared.message.Input2.{Input2}
use Rattle.share_welcomes.specs.declared.learned.Link.{Link}

-- how many first entries were dropped, the chain after these, the others, and the boots of the
-- viewers' last offers in all of them
pub record LearnedView : Type 0 where
  pub run : List ℕ
  pub dropped : ℕ
  pub before : List ℕ
  pub entries : List EntryView
  pub boots : List ℕ

-- ---- inputs

-- the input of this number, with the chain before it, whose entry is kept at this place
abbrev pub input_of : LearnedView → (number place : ℕ) → Option EntryView → Option Input2
input_of l number place None = None
input_of l number place (Some e) = Some (record {
  chain = chain_after l.before (take place l.entries);
  number = number;
  entry = e;
})

abbrev pub input_in : LearnedView → (number place : ℕ) → Option Input2
input_in l number place = input_of l number place (slice_get l.entries place)

-- the input of this number, if its entry is kept
abbrev pub input_at : LearnedView → (number : ℕ) → Option Input2
input_at l number =
    if nat_le number l.dropped then None else input_in l number (number - 1 - l.dropped)

-- ---- chains

-- the chain after this number of entries that are kept, if there are that many
abbrev pub chain_in : LearnedView → (place : ℕ) → Option (List ℕ)
chain_in l place =
    if nat_le place (length l.entries) then Some (chain_after l.before (take place l.entries))
    else None

-- the chain after the first n entries, if it is known
abbrev pub chain_at : LearnedView → (n : ℕ) → Option (List ℕ)
chain_at l n = if nat_lt n l.dropped then None else chain_in l (n - l.dropped)

-- ---- boots

abbrev pub source_noted : List ℕ → Source → List ℕ
source_noted boots Clock = boots
source_noted boots (Offer o) = slice_set boots o.pointer.who o.boot

-- the boots of the viewers' last offers, after one more entry
abbrev pub boot_noted : List ℕ → EntryView → List ℕ
boot_noted boots e = source_noted boots e.source

abbrev pub boots_after : List ℕ → List EntryView → List ℕ
boots_after boots entries = fold boot_noted boots entries

abbrev pub no_boots : List ℕ
no_boots = replicate 64 0

-- the boot of a viewer's last offer, or 0
abbrev pub last_boot : (who : ℕ) → LearnedView → ℕ
last_boot who l = get_or l.boots who 0

-- ---- learning

-- what is known of a run that has no entries
abbrev pub none_learned : (run : List ℕ) → LearnedView
none_learned run =
    record { run = run; dropped = 0; before = run; entries = []; boots = no_boots }

-- the boots that a base keeps of its viewers
abbrev pub boots_of : List SeatCount → List ℕ
boots_of kept = take 64 (map (λ (k : SeatCount). k.boot) kept ++ no_boots)

-- what is known of a run whose log has this base and no entries after it
abbrev pub base_learned : (run : List ℕ) → BaseView → LearnedView
base_learned run base = record {
  run = run;
  dropped = base.number;
  before = base.chain;
  entries = [];
  boots = boots_of base.kept;
}

abbrev pub learned_more : LearnedView → List EntryView → LearnedView
learned_more l es =
    record l { entries = l.entries ++ es; boots = boots_after l.boots es }

-- ---- dropping

-- how many entries that are kept are below the floor, the number of an input
abbrev pub gone_below : (floor : ℕ) → LearnedView → ℕ
gone_below floor l = min (floor - 1 - l.dropped) (length l.entries)

-- at least 1,024 go, and as many as stay (our choice)
abbrev pub is_due : (gone kept : ℕ) → Bool
is_due gone kept = nat_le 1024 gone && nat_le (kept - gone) gone

-- the first entries that are kept go
abbrev pub without : LearnedView → (gone : ℕ) → LearnedView
without l gone = record l {
  dropped = l.dropped + gone;
  before = chain_after l.before (take gone l.entries);
  entries = drop gone l.entries;
}

-- the entries below the floor go, if that is due
abbrev pub dropped_below : (floor : ℕ) → LearnedView → LearnedView
dropped_below floor l =
    if is_due (gone_below floor l) (length l.entries) then without l (gone_below floor l) else l

-- ---- how they are kept

abbrev pub entries_of : List Link → List EntryView
entries_of links = map (λ l. l.entry) links

-- each entry with the chain before it
abbrev pub linked : (chain : List ℕ) → List EntryView → List Link
linked chain [] = []
linked chain (e ∷ es) = record { chain = chain; entry = e } ∷ linked (link chain e) es
