-- What a log that was found has, and what a file that has it is opened as.
use Rattle.std.proofs.Common.{◌≡◌, inl, inr, ℕ, ◌+◌, ◌-◌, Bool, true, false, List, [], ◌∷◌, length, Option, Result, Ok, Err, refl, sym, ◌∙◌, ap}
use Rattle.std.specs.Prelude.{if◌then◌else◌, nat_eq}
use Rattle.std.specs.Cmp.Lexicographic.{pointwise}
use Rattle.share_entries.specs.declared.head.Head.{Head}
use Rattle.share_entries.specs.declared.head.HeadFault.{HeadFault}
use Rattle.share_entries.specs.Entry.{EntryView}
use Rattle.share_entries.specs.Head.{head_in}
use Rattle.share_entries.specs.Base.{BaseView}
use Rattle.share_file.specs.declared.fault.OpenFault.{OpenFault}
use Rattle.share_file.specs.declared.fault.OpenFault.TheVariants.{BadHead, WrongScene, WrongSeats, LogDamaged}
use Rattle.share_file.specs.declared.contents.Expected.{Expected}
use Rattle.share_file.specs.declared.contents.Contents.{Contents}
use Rattle.share_entries.specs.declared.start.Start.{Start}
use Rattle.share_entries.specs.Start.{start_of}
use Rattle.share_file.specs.Entries.{head_among, base_among, behind_base, entries_among, entries_from, first_number, start_among, start_by}
use Rattle.share_file.specs.Contents.{FileView, IsFound, has_seats, ends_well, ended, based, headed, contents_in}

abbrev pub others : List (List ℕ) → List (List ℕ)
others [] = []
others (first ∷ frames) = frames

-- what a log has that was found
pub record Parts (expected : Expected) (frames : List (List ℕ)) (v : FileView) : Type 0 where
  pub head : head_among frames ≡ Ok v.head
  pub mark : pointwise nat_eq v.head.mark expected.mark ≡ true
  pub seats : has_seats expected.viewers v.head.viewers ≡ true
  pub base : base_among v.head (others frames) ≡ Ok v.base
  pub entries : entries_among (start_of v.head v.base) frames ≡ Ok v.entries

abbrev pub Started : List (List ℕ) → Result Head HeadFault → Result Start ℕ
Started frames (Ok head) = start_by head (base_among head frames)
Started frames (Err fault) = Err 0

pub parts_start : (expected : Expected) (frames : List (List ℕ)) (v : FileView) → Parts expected frames v → start_among frames ≡ Ok (start_of v.head v.base)
parts_start expected [] v p = let wrong = p.head in cc
parts_start expected (payload ∷ frames) v p =
    ap (λ (r : Result Head HeadFault). Started frames r) p.head ∙ ap (λ (b : Result (Option BaseView) ℕ). start_by v.head b) p.base

abbrev Ending : (head : Head) (base : Option BaseView) (number : ℕ) (tail : List ℕ) (entries : List EntryView) → Bool → Result FileView OpenFault
Ending head base number tail entries b = if b then Ok (record { head = head; base = base; entries = entries; cut = length tail - 1 }) else Err (LogDamaged number)

abbrev LogEntries : Type 0
LogEntries = Result (List EntryView) ℕ

abbrev of_entries : List EntryView → LogEntries
of_entries entries = Ok entries

ending_parts : (head : Head) (base : Option BaseView) (number : ℕ) (tail : List ℕ) (v : FileView) (entries : List EntryView) (b : Bool) → Ending head base number tail entries b ≡ Ok v → (v.head ≡ head) × (v.base ≡ base) × (entries ≡ v.entries)
ending_parts head base number tail v entries false is = cc
ending_parts head base number tail v entries true is =
    let made : FileView = record { head = head; base = base; entries = entries; cut = length tail - 1 } in
    let same : made ≡ v = cc in
    (ap (λ (x : FileView). x.head) (sym same), ap (λ (x : FileView). x.base) (sym same), ap (λ (x : FileView). x.entries) same)

ended_parts : (head : Head) (base : Option BaseView) (number : ℕ) (tail : List ℕ) (v : FileView) (r : Result (List EntryView) ℕ) → ended head base number tail r ≡ Ok v → (v.head ≡ head) × (v.base ≡ base) × (r ≡ Ok v.entries)
ended_parts head base number tail v (Err damaged) is = cc
ended_parts head base number tail v (Ok entries) is =
    let p = ending_parts head base number tail v entries (ends_well (start_of head base) entries tail) is in
    (p.0, p.1, ap of_entries p.2)

ended_well : (head : Head) (base : Option BaseView) (number : ℕ) (tail : List ℕ) (entries : List EntryView) → ends_well (start_of head base) entries tail ≡ true → ended head base number tail (Ok entries) ≡ Ok (record { head = head; base = base; entries = entries; cut = length tail - 1 })
ended_well head base number tail entries well = ap (λ (b : Bool). Ending head base number tail entries b) well

abbrev of_base : Option BaseView → Result (Option BaseView) ℕ
of_base base = Ok base

-- a log of a head and of a base that were found
record BaseParts (frames : List (List ℕ)) (found : Head) (r : Result (Option BaseView) ℕ) (v : FileView) : Type 0 where
  pub head : v.head ≡ found
  pub base : r ≡ Ok v.base
  pub entries : entries_from (start_of found v.base) [] (first_number frames) (behind_base frames) ≡ Ok v.entries

based_parts : (head : Head) (frames : List (List ℕ)) (tail : List ℕ) (v : FileView) (r : Result (Option BaseView) ℕ) → based head frames tail r ≡ Ok v → BaseParts frames head r v
based_parts head frames tail v (Err damaged) is = cc
based_parts head frames tail v (Ok base) is =
    let read = entries_from (start_of head base) [] (first_number frames) (behind_base frames) in
    let p = ended_parts head base (length frames + 1) tail v read is in
    record {
      head = p.0;
      base = ap of_base (sym p.1);
      entries = ap (λ (b : Option BaseView). entries_from (start_of head b) [] (first_number frames) (behind_base frames)) p.1 ∙ p.2;
    }

-- a log of a head that was found
record HeadParts (expected : Expected) (frames : List (List ℕ)) (found : Head) (v : FileView) : Type 0 where
  pub mark : pointwise nat_eq found.mark expected.mark ≡ true
  pub seats : has_seats expected.viewers found.viewers ≡ true
  pub rest : BaseParts frames found (base_among found frames) v

module _ (expected : Expected) (frames : List (List ℕ)) (tail : List ℕ) (v : FileView) where
  headed_parts : (head : Head) → headed expected frames tail head ≡ Ok v → HeadParts expected frames head v
  headed_parts head is = go (pointwise nat_eq head.mark expected.mark) refl is
    where
      within : (b : Bool) → has_seats expected.viewers head.viewers ≡ b → pointwise nat_eq head.mark expected.mark ≡ true → (if b then based head frames tail (base_among head frames) else Err WrongSeats) ≡ Ok v → HeadParts expected frames head v
      within false seats mark is = cc
      within true seats mark is = record { mark = mark; seats = seats; rest = based_parts head frames tail v (base_among head frames) is }

      go : (b : Bool) → pointwise nat_eq head.mark expected.mark ≡ b → (if b then (if has_seats expected.viewers head.viewers then based head frames tail (base_among head frames) else Err WrongSeats) else Err WrongScene) ≡ Ok v → HeadParts expected frames head v
      go false mark is = cc
      go true mark is = within (has_seats expected.viewers head.viewers) refl mark is

abbrev OfHead : (expected : Expected) (frames : List (List ℕ)) (tail : List ℕ) → Result Head HeadFault → Result FileView OpenFault
OfHead expected frames tail (Ok head) = headed expected frames tail head
OfHead expected frames tail (Err fault) = Err (BadHead fault)

pub parts : (expected : Expected) (frames : List (List ℕ)) (tail : List ℕ) (v : FileView) → contents_in expected frames tail ≡ Ok v → Parts expected frames v
parts expected [] tail v is = cc
parts expected (payload ∷ frames) tail v is = go (head_in payload) refl is
  where
    go : (r : Result Head HeadFault) → head_in payload ≡ r → OfHead expected frames tail r ≡ Ok v → Parts expected (payload ∷ frames) v
    go (Err fault) here is = cc
    go (Ok head) here is =
        let p = headed_parts expected frames tail v head is in
        let same = p.rest.head in
        record {
          head = here ∙ ap (λ (h : Head). Ok h) (sym same);
          mark = ap (λ (h : Head). pointwise nat_eq h.mark expected.mark) same ∙ p.mark;
          seats = ap (λ (h : Head). has_seats expected.viewers h.viewers) same ∙ p.seats;
          base = ap (λ (h : Head). base_among h frames) same ∙ p.rest.base;
          entries = ap (λ (h : Head). entries_from (start_of h v.base) [] (first_number frames) (behind_base frames)) same ∙ p.rest.entries;
        }

pub headed_as : (expected : Expected) (frames : List (List ℕ)) (tail : List ℕ) (head : Head) → pointwise nat_eq head.mark expected.mark ≡ true → has_seats expected.viewers head.viewers ≡ true → headed expected frames tail head ≡ based head frames tail (base_among head frames)
headed_as expected frames tail head mark seats = rw (mark, seats) refl

-- a file of these parts that ends well is opened as this log
pub whole : (expected : Expected) (frames : List (List ℕ)) (tail : List ℕ) (v : FileView) → Parts expected frames v → ends_well (start_of v.head v.base) v.entries tail ≡ true → contents_in expected frames tail ≡ Ok (record { head = v.head; base = v.base; entries = v.entries; cut = length tail - 1 })
whole expected [] tail v p well = let wrong = p.entries in cc
whole expected (payload ∷ frames) tail v p well =
    ap (λ (r : Result Head HeadFault). OfHead expected frames tail r) p.head
    ∙ headed_as expected frames tail v.head p.mark p.seats
    ∙ ap (λ (r : Result (Option BaseView) ℕ). based v.head frames tail r) p.base
    ∙ ap (λ (r : Result (List EntryView) ℕ). ended v.head v.base (length frames + 1) tail r) p.entries
    ∙ ended_well v.head v.base (length frames + 1) tail v.entries well

-- the same of an equal answer
pub found_as : (a b : Result FileView OpenFault) (r : Result Contents OpenFault) → a ≡ b → IsFound b r → IsFound a r
found_as a b (Ok x) same found = same ∙ found
found_as a b (Err fault) same (inl memory) = inl memory
found_as a b (Err fault) same (inr refused) = inr (same ∙ refused)

pub headed_other : (expected : Expected) (frames : List (List ℕ)) (tail : List ℕ) (head : Head) → pointwise nat_eq head.mark expected.mark ≡ false → headed expected frames tail head ≡ Err WrongScene
headed_other expected frames tail head mark = rw mark refl
