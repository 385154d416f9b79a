-- What handles of a log in memory know.
use Rattle.std.proofs.Common.{◌≡◌, ℕ, ◌<◌, Bool, IsTrue, List, ◌++◌, length, take, drop, map, Option, None, Some, refl, sym, ◌∙◌, ap, arith, take-append-drop}
use Rattle.std.specs.Prelude.{slice_get, slice_set}
use Rattle.std.specs.Option.{option_map}
use Rattle.std.proofs.Math.ListN.{length-set}
use Rattle.std.proofs.lemmas.List.{get_or-set_same, take-append-le, take_all}
use Rattle.std.proofs.lemmas.Option.{slice_get-map, slice_get_within, slice_get_read}
use Rattle.share_entries.specs.Entry.{EntryView}
use Rattle.share_store.specs.declared.memory.Standing.{Standing}
use Rattle.share_store.specs.Memory.{MemoryView, known_by, is_open_by, read_by, stands_open}

-- what each handle knows is the beginning of the list
pub one_list : (entries : List EntryView) (handles : List Standing) (handle : ℕ) (known : List EntryView) → slice_get (map (λ (s : Standing). take s.known entries) handles) handle ≡ Some known → (more : List EntryView) × (entries ≡ known ++ more)
one_list entries handles handle known is = go (slice_get handles handle) (sym (slice_get-map (λ (s : Standing). take s.known entries) handles handle) ∙ is)
  where
    go : (o : Option Standing) → option_map (λ (s : Standing). take s.known entries) o ≡ Some known → (more : List EntryView) × (entries ≡ known ++ more)
    go None is = cc
    go (Some s) is =
        let same : take s.known entries ≡ known = cc in
        (drop s.known entries, sym (take-append-drop s.known entries) ∙ ap (λ (k : List EntryView). k ++ drop s.known entries) same)

open_low : (handles : List Standing) (number : ℕ) → IsTrue (stands_open (slice_get handles number)) → number < length handles
open_low handles number stands = go (slice_get handles number) refl stands
  where
    go : (o : Option Standing) → slice_get handles number ≡ o → IsTrue (stands_open o) → number < length handles
    go None is stands = cc
    go (Some s) is stands = slice_get_within handles number s is

set_there : (handles : List Standing) (number : ℕ) (s : Standing) → number < length handles → slice_get (slice_set handles number s) number ≡ Some s
set_there handles number s low =
    let long : length (slice_set handles number s) ≡ length handles = length-set handles number s in
    slice_get_read (slice_set handles number s) (length (slice_set handles number s)) number s refl (omega (arith, long, low)) (sym (get_or-set_same handles number s s low))

-- a handle whose place was noted
module _ (old added new : MemoryView) (number : ℕ) where
  there : (known : ℕ) (is_open : Bool) → IsTrue (is_open_by old number) → added.handles ≡ old.handles → new.handles ≡ slice_set added.handles number (record { known = known; is_open = is_open }) → slice_get new.handles number ≡ Some (record { known = known; is_open = is_open })
  there known is_open stands same set =
      let s : Standing = record { known = known; is_open = is_open } in
      ap (λ (hs : List Standing). slice_get hs number) (set ∙ ap (λ (hs : List Standing). slice_set hs number s) same)
      ∙ set_there old.handles number s (open_low old.handles number stands)

pub noted_known : (old added new : MemoryView) (number : ℕ) (entries : List EntryView) (known : ℕ) (is_open : Bool) → IsTrue (is_open_by old number) → added.entries ≡ old.entries ++ entries → added.handles ≡ old.handles → new.entries ≡ added.entries → new.handles ≡ slice_set added.handles number (record { known = known; is_open = is_open }) → known ≡ length old.entries → known_by new number ≡ old.entries
noted_known old added new number entries known is_open stands more same kept set all =
    ap (λ (o : Option Standing). read_by new.entries o) (there old added new number known is_open stands same set)
    ∙ ap (λ (es : List EntryView). take known es) (kept ∙ more)
    ∙ take-append-le known old.entries entries (omega (arith, all))
    ∙ take_all known old.entries (omega (arith, all))

pub noted_open : (old added new : MemoryView) (number known : ℕ) (is_open : Bool) → IsTrue (is_open_by old number) → added.handles ≡ old.handles → new.handles ≡ slice_set added.handles number (record { known = known; is_open = is_open }) → is_open_by new number ≡ is_open
noted_open old added new number known is_open stands same set =
    ap stands_open (there old added new number known is_open stands same set)
