-- An append, a crash and an opening.
use Rattle.std.proofs.Common.{◌≡◌, ◌⊎◌, inl, inr, ℕ, ◌+◌, ◌-◌, List, [], ◌∷◌, ◌++◌, length, drop, Bool, true, false, IsTrue, Result, Ok, Err, sym, ◌∙◌, ap, subst}
use Rattle.std.specs.Prelude.{is_ok}
use Rattle.share_entries.specs.declared.head.Head.{Head}
use Rattle.share_entries.specs.Entry.{EntryView}
use Rattle.share_entries.specs.Base.{begins_base}
use Rattle.share_entries.specs.Chain.{chain_after}
use Rattle.share_log.specs.declared.log.Log.{Log}
use Rattle.share_log.specs.Log.{IsReady, IsAtRest}
use Rattle.share_log.specs.Frames.{frames_of, size_of}
use Rattle.share_file.specs.declared.fault.OpenFault.{OpenFault}
use Rattle.share_file.specs.declared.fault.OpenFault.TheVariants.{Device, Memory}
use Rattle.share_file.specs.declared.contents.Expected.{Expected}
use Rattle.share_entries.specs.declared.start.Start.{Start}
use Rattle.share_entries.specs.Start.{start_of}
use Rattle.share_file.specs.Entries.{base_among, entries_among, entries_in, head_among, start_among}
use Rattle.share_file.specs.Keeping.{IsKept, IsMore, OldOrMore, known_in}
use Rattle.share_file.specs.Contents.{FileView, Refuses, contents_of, ends_well}
use Rattle.share_file.proofs.Adding.{base_more, plain}
use Rattle.share_file.proofs.Ending.{shut_well}
use Rattle.share_file.proofs.Keeping.{found_either, found_more, head_more, more_among, start_is, to_old}
use Rattle.share_file.proofs.Parts.{Parts, others, parts, parts_start, whole}

others_more : (head : Head) (old : List (List ℕ)) (payload : List ℕ) (start : Start) → IsTrue (is_ok (entries_among start old)) → begins_base payload ≡ false → (new : List (List ℕ)) → new ≡ old ++ payload ∷ [] → base_among head (others new) ≡ base_among head (others old)
others_more head [] payload start ok other new is = cc
others_more head (first ∷ frames) payload start ok other new is = ap (λ (fs : List (List ℕ)). base_among head (others fs)) is ∙ base_more head frames payload other

-- a log that is opened is so again with another frame
pub with_more : (start : Start) (chain : List ℕ) (count : ℕ) (entries : List EntryView) (file : List ℕ) (reads : IsTrue (is_ok (entries_among start (frames_of file)))) (linked : chain ≡ chain_after start.chain (entries_in start file)) (all : count ≡ length (entries_in start file)) (named : start_among (frames_of file) ≡ Ok start) (new : List ℕ) (left : List ℕ → Type 0) (end : ℕ) → IsMore chain (start.below + count + 1) entries (frames_of file) (frames_of new) → IsAtRest new left end → (expected : Expected) (v : FileView) → contents_of expected file ≡ Ok v → (w : FileView) × (contents_of expected new ≡ Ok w)
unfolding contents_of
with_more start chain count entries file reads linked all named new left end more rest expected v is =
    let p = parts expected (frames_of file) (drop (size_of (frames_of file)) file) v is in
    let same : start_of v.head v.base ≡ start = start_is (start_of v.head v.base) start (sym (parts_start expected (frames_of file) v p) ∙ named) in
    let longer : FileView = record { head = v.head; base = v.base; entries = entries_in start file ++ entries; cut = 0 } in
    let tail = drop (size_of (frames_of new)) new in
    let read : entries_among start (frames_of new) ≡ Ok longer.entries = more_among start chain count entries file reads linked all (frames_of new) more in
    let q : Parts expected (frames_of new) longer = record {
      head = ap head_among more.2 ∙ head_more (frames_of file) more.0 start reads ∙ p.head;
      mark = p.mark;
      seats = p.seats;
      base = others_more v.head (frames_of file) more.0 start reads (plain chain (start.below + count + 1) more.0 entries more.1) (frames_of new) more.2 ∙ p.base;
      entries = subst (λ (s : Start). entries_among s (frames_of new) ≡ Ok longer.entries) (sym same) read;
    } in
    let well = shut_well (start_of v.head v.base) longer.entries new end rest.gate rest.shut in (
      record { head = v.head; base = v.base; entries = longer.entries; cut = length tail - 1 },
      whole expected (frames_of new) tail longer q (subst (λ (n : ℕ). ends_well (start_of v.head v.base) longer.entries (drop n new) ≡ true) rest.frames well),
    )

pub only_device : (answer : Result FileView OpenFault) (fault : OpenFault) (w : FileView) → answer ≡ Ok w → Refuses answer fault → (fault ≡ Device) ⊎ (fault ≡ Memory)
only_device answer fault w is (inl device) = inl device
only_device answer fault w is (inr (inl memory)) = inr memory
only_device answer fault w is (inr (inr refused)) = let wrong : Ok w ≡ Err fault = sym is ∙ refused in cc

module _ {D : Type 0} (seen : D → List ℕ) (may_leave : D → List ℕ → Type 0) (is_usable is_clean : D → Bool) (old new : Log D) (disk : D) (start : Start) (chain : List ℕ) (count : ℕ) (is_open : Bool) (kept : IsKept seen may_leave is_usable is_clean old start chain count is_open) (taking : IsTrue is_open) (entries : List EntryView) (same : is_clean new.disk ≡ is_clean old.disk) (left : may_leave new.disk (seen disk)) (cleaner : IsTrue (is_clean disk) → IsTrue (is_clean new.disk)) where
  pub found_whole : (IsTrue (is_clean new.disk) → (c : List ℕ) → may_leave new.disk c → OldOrMore chain (start.below + count + 1) entries (frames_of (seen old.disk)) (frames_of c)) → (expected : Expected) (v : FileView) → IsTrue (is_clean disk) → contents_of expected (seen disk) ≡ Ok v → (v.entries ≡ known_in start count (seen old.disk)) ⊎ (v.entries ≡ known_in start count (seen old.disk) ++ entries)
  found_whole any_crash expected v clean is =
      let later = cleaner clean in
      let c = to_old (is_clean new.disk) (is_clean old.disk) same later in
      found_either start chain count entries (seen old.disk) (kept.reads taking c) (kept.linked taking c) (kept.all taking c) expected (seen disk) v (kept.named taking c) (any_crash later (seen disk) left) is

  pub found_all : IsReady seen may_leave is_usable is_clean new → (IsTrue (is_clean new.disk) → IsMore chain (start.below + count + 1) entries (frames_of (seen old.disk)) (frames_of (seen new.disk))) → (expected : Expected) (v : FileView) → IsTrue (is_clean disk) → contents_of expected (seen disk) ≡ Ok v → v.entries ≡ known_in start count (seen old.disk) ++ entries
  found_all ready more expected v clean is =
      let later = cleaner clean in
      let c = to_old (is_clean new.disk) (is_clean old.disk) same later in
      found_more start chain count entries (seen old.disk) (kept.reads taking c) (kept.linked taking c) (kept.all taking c) expected (seen new.disk) (seen disk) v (kept.named taking c) (more later) ((ready.at_rest later).durable (seen disk) left) is

  pub opens : IsReady seen may_leave is_usable is_clean new → (IsTrue (is_clean new.disk) → IsMore chain (start.below + count + 1) entries (frames_of (seen old.disk)) (frames_of (seen new.disk))) → (expected : Expected) (fault : OpenFault) → IsTrue (is_clean disk) → Refuses (contents_of expected (seen disk)) fault → (v : FileView) → contents_of expected (seen old.disk) ≡ Ok v → (fault ≡ Device) ⊎ (fault ≡ Memory)
  opens ready more expected fault clean refused v is =
      let later = cleaner clean in
      let c = to_old (is_clean new.disk) (is_clean old.disk) same later in
      let w = with_more start chain count entries (seen old.disk) (kept.reads taking c) (kept.linked taking c) (kept.all taking c) (kept.named taking c) (seen new.disk) (may_leave new.disk) new.end (more later) (ready.at_rest later) expected v is in
      let there = ap (λ (f : List ℕ). contents_of expected f) ((ready.at_rest later).durable (seen disk) left) in
      only_device (contents_of expected (seen disk)) fault w.0 (there ∙ w.1) refused
