-- The head of a log that was found.
use Rattle.std.proofs.Common.{◌≡◌, ℕ, ◌+◌, ◌-◌, Bool, true, false, List, [], ◌∷◌, length, drop, Result, Ok, Err, refl, sym, ◌∙◌, ap}
use Rattle.std.specs.Prelude.{Option, Some, None, if◌then◌else◌, nat_eq, codes, take, ◌&&◌, ◌==◌}
use Rattle.std.specs.Cmp.Lexicographic.{pointwise}
use Rattle.share_entries.specs.declared.head.Head.{Head}
use Rattle.share_entries.specs.declared.head.HeadFault.{HeadFault}
use Rattle.share_entries.specs.declared.head.HeadFault.TheVariants.{BadViewers, BadSum, BadVersion, BadMagic}
use Rattle.share_entries.specs.Base.{BaseView}
use Rattle.share_entries.specs.Entry.{EntryView}
use Rattle.share_entries.specs.Head.{HeadParts, has_viewers, head_fields, head_in, head_of, head_with, is_viewer_count, sum_of}
use Rattle.share_log.specs.Frames.{frames_of, size_of}
use Rattle.share_file.specs.declared.fault.OpenFault.{OpenFault}
use Rattle.share_file.specs.declared.fault.OpenFault.TheVariants.{BadHead, WrongScene, WrongSeats, LogDamaged}
use Rattle.share_file.specs.declared.contents.Expected.{Expected}
use Rattle.share_entries.specs.Start.{start_of}
use Rattle.share_file.specs.Entries.{base_among, behind_base, entries_from, first_number}
use Rattle.share_file.specs.Contents.{FileView, based, contents_in, contents_of, ended, ends_well, has_seats, headed}

-- ---- of the file

ended_head : (head : Head) (base : Option BaseView) (number : ℕ) (tail : List ℕ) (v : FileView) (r : Result (List EntryView) ℕ) → ended head base number tail r ≡ Ok v → v.head ≡ head
ended_head head base number tail v (Err damaged) is = cc
ended_head head base number tail v (Ok entries) is = go (ends_well (start_of head base) entries tail) is
  where
    go : (b : Bool) → (if b then Ok (record { head = head; base = base; entries = entries; cut = length tail - 1 }) else Err (LogDamaged number)) ≡ Ok v → v.head ≡ head
    go false is = cc
    go true is =
        let made : FileView = record { head = head; base = base; entries = entries; cut = length tail - 1 } in
        let same : made ≡ v = cc in
        ap (λ (x : FileView). x.head) (sym same)

based_head : (head : Head) (frames : List (List ℕ)) (tail : List ℕ) (v : FileView) (r : Result (Option BaseView) ℕ) → based head frames tail r ≡ Ok v → v.head ≡ head
based_head head frames tail v (Err damaged) is = cc
based_head head frames tail v (Ok base) is = ended_head head base (length frames + 1) tail v (entries_from (start_of head base) [] (first_number frames) (behind_base frames)) is

headed_head : (expected : Expected) (frames : List (List ℕ)) (tail : List ℕ) (v : FileView) (head : Head) → headed expected frames tail head ≡ Ok v → v.head ≡ head
headed_head expected frames tail v head is = go (pointwise nat_eq head.mark expected.mark) is
  where
    within : (b : Bool) → (if b then based head frames tail (base_among head frames) else Err WrongSeats) ≡ Ok v → v.head ≡ head
    within false is = cc
    within true is = based_head head frames tail v (base_among head frames) is

    go : (b : Bool) → (if b then (if has_seats expected.viewers head.viewers then based head frames tail (base_among head frames) else Err WrongSeats) else Err WrongScene) ≡ Ok v → v.head ≡ head
    go false is = cc
    go true is = within (has_seats expected.viewers head.viewers) is

abbrev after_head : Expected → List (List ℕ) → List ℕ → Result Head HeadFault → Result FileView OpenFault
after_head expected frames tail r = elim r [ Ok head ↦ headed expected frames tail head | Err fault ↦ Err (BadHead fault) ]

among_fits : (expected : Expected) (frames : List (List ℕ)) (tail : List ℕ) (v : FileView) (r : Result Head HeadFault)
    → ((h : Head) → r ≡ Ok h → is_viewer_count h.viewers ≡ true)
    → after_head expected frames tail r ≡ Ok v → is_viewer_count v.head.viewers ≡ true
among_fits expected frames tail v (Err fault) fits is = cc
among_fits expected frames tail v (Ok head) fits is =
    ap (λ (h : Head). is_viewer_count h.viewers) (headed_head expected frames tail v head is) ∙ fits head refl

-- ---- of its bytes

and_left : (a b : Bool) → (a && b) ≡ true → a ≡ true
and_left true b is = refl
and_left false b is = is

parts_fit : (x : HeadParts × List ℕ) (h : Head) (b : Bool) → b ≡ has_viewers x.0 → (if b then Ok (head_with x.0) else Err BadViewers) ≡ Ok h
    → is_viewer_count h.viewers ≡ true
parts_fit x h false e is = cc
parts_fit x h true e is =
    let same : head_with x.0 ≡ h = cc in
    ap (λ (k : Head). is_viewer_count k.viewers) (sym same) ∙ and_left (is_viewer_count x.0.1.1.0) (pointwise nat_eq x.0.1.1.1.0 (0 ∷ 0 ∷ [])) (sym e)

head_of_fits : (bytes : List ℕ) (h : Head) (r : Option (HeadParts × List ℕ)) → head_of bytes r ≡ Ok h → is_viewer_count h.viewers ≡ true
head_of_fits bytes h None is = cc
head_of_fits bytes h (Some x) is = magic (pointwise nat_eq x.0.0 (codes "X3DL")) is
  where
    sum : (b : Bool) → (if b then (if has_viewers x.0 then Ok (head_with x.0) else Err BadViewers) else Err BadSum) ≡ Ok h → is_viewer_count h.viewers ≡ true
    sum false is = cc
    sum true is = parts_fit x h (has_viewers x.0) refl is

    version : (b : Bool) → (if b then (if pointwise nat_eq x.1 (sum_of (take 56 bytes)) then (if has_viewers x.0 then Ok (head_with x.0) else Err BadViewers) else Err BadSum) else Err BadVersion) ≡ Ok h
        → is_viewer_count h.viewers ≡ true
    version false is = cc
    version true is = sum (pointwise nat_eq x.1 (sum_of (take 56 bytes))) is

    magic : (b : Bool)
        → (if b then (if x.0.1.0 == 1 then (if pointwise nat_eq x.1 (sum_of (take 56 bytes)) then (if has_viewers x.0 then Ok (head_with x.0) else Err BadViewers) else Err BadSum) else Err BadVersion) else Err BadMagic) ≡ Ok h
        → is_viewer_count h.viewers ≡ true
    magic false is = cc
    magic true is = version (x.0.1.0 == 1) is

head_fits_in : (bytes : List ℕ) (h : Head) → head_in bytes ≡ Ok h → is_viewer_count h.viewers ≡ true
unfolding head_in
head_fits_in bytes h is = head_of_fits bytes h (head_fields.read bytes) is

in_fits : (expected : Expected) (frames : List (List ℕ)) (tail : List ℕ) (v : FileView) → contents_in expected frames tail ≡ Ok v → is_viewer_count v.head.viewers ≡ true
in_fits expected [] tail v is = cc
in_fits expected (payload ∷ frames) tail v is = among_fits expected frames tail v (head_in payload) (λ h read. head_fits_in payload h read) is

-- the log of a file has a number of viewers in its range
pub found_fits : (expected : Expected) (file : List ℕ) (v : FileView) → contents_of expected file ≡ Ok v → is_viewer_count v.head.viewers ≡ true
unfolding contents_of
found_fits expected file v is = in_fits expected (frames_of file) (drop (size_of (frames_of file)) file) v is
