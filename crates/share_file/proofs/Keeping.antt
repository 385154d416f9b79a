-- What an append does to the entries of a file.
use Rattle.std.proofs.Common.{◌≡◌, ◌⊎◌, inl, inr, ℕ, ◌+◌, ◌≤◌, List, [], ◌∷◌, ◌++◌, length, take, drop, Bool, true, false, IsTrue, Option, Result, Ok, Err, refl, sym, ◌∙◌, ap, subst, arith, length-append}
use Rattle.std.specs.Prelude.{is_ok}
use Rattle.std.proofs.Props.{props}
use Rattle.std.proofs.lemmas.List.{append-nil, take_all, take-append-le, length-take-le}
use Rattle.std.proofs.lemmas.List.Sums.{fold-append}
use Rattle.share_entries.specs.declared.head.Head.{Head}
use Rattle.share_entries.specs.declared.head.HeadFault.{HeadFault}
use Rattle.share_entries.specs.Entry.{EntryView}
use Rattle.share_entries.specs.Head.{head_in}
use Rattle.share_entries.specs.Base.{BaseView, begins_base}
use Rattle.share_entries.specs.Chain.{link, chain_after}
use Rattle.share_entries.specs.Frame.{frame_in}
use Rattle.sqlite_disk.specs.Disk.{Only}
use Rattle.share_log.specs.declared.log.Log.{Log}
use Rattle.share_log.specs.Log.{IsReady}
use Rattle.share_log.specs.Frames.{frames_of, size_of}
use Rattle.share_store.specs.OneLog.{Last}
use Rattle.share_entries.specs.declared.start.Start.{Start}
use Rattle.share_entries.specs.Start.{start_of}
use Rattle.share_file.specs.Entries.{behind_base, first_number, next_in, entries_among, entries_from, entries_in, or_none, head_among, start_among, start_by}
use Rattle.share_file.specs.Keeping.{IsKept, IsMore, OldOrMore, LeavesEntries, known_in}
use Rattle.share_file.specs.declared.contents.Expected.{Expected}
use Rattle.share_file.specs.Contents.{FileView, contents_of}
use Rattle.share_file.proofs.Adding.{base_more, behind_more, number_more, one_more, plain}
use Rattle.share_file.proofs.Parts.{Started, parts, parts_start}

ok_is : (r : Result (List EntryView) ℕ) → IsTrue (is_ok r) → r ≡ Ok (or_none r)
ok_is (Ok entries) ok = refl
ok_is (Err number) ok = cc

abbrev pub begun : Start → Result Start ℕ
begun start = Ok start

abbrev pub read_of : List EntryView → Result (List EntryView) ℕ
read_of entries = Ok entries

pub start_is : (a b : Start) → begun a ≡ begun b → a ≡ b
start_is a b e = cc

-- the entries that were read are those of the file
pub read_ok : (r : Result (List EntryView) ℕ) (entries : List EntryView) → r ≡ Ok entries → IsTrue (is_ok r)
read_ok r entries is = rw is refl

pub known_is : (start : Start) (count : ℕ) (file : List ℕ) (entries : List EntryView) → entries_among start (frames_of file) ≡ Ok entries → count ≡ length entries → known_in start count file ≡ entries
known_is start count file entries read all =
    ap (λ (es : List EntryView). take count es) (ap or_none read) ∙ take_all count entries (omega (arith, all))

-- a frame more is read after the others
among_more : (start : Start) (old : List (List ℕ)) (payload : List ℕ) (all more : List EntryView) → entries_among start old ≡ Ok all → next_in start all payload ≡ Ok more → entries_among start (old ++ payload ∷ []) ≡ Ok (all ++ more)
among_more start [] payload all more read next = cc
among_more start (head ∷ frames) payload all more read next =
    let other = plain (chain_after start.chain all) (start.below + length all + 1) payload more next in
    ap (λ (n : ℕ). entries_from start [] n (behind_base (frames ++ payload ∷ []))) (number_more frames payload other)
    ∙ ap (λ (fs : List (List ℕ)). entries_from start [] (first_number frames) fs) (behind_more frames payload other)
    ∙ one_more start [] (first_number frames) (behind_base frames) payload all more read next

pub head_more : (old : List (List ℕ)) (payload : List ℕ) (start : Start) → IsTrue (is_ok (entries_among start old)) → head_among (old ++ payload ∷ []) ≡ head_among old
head_more [] payload start ok = cc
head_more (head ∷ frames) payload start ok = refl

started_more : (r : Result Head HeadFault) (frames : List (List ℕ)) (payload : List ℕ) → begins_base payload ≡ false → Started (frames ++ payload ∷ []) r ≡ Started frames r
started_more (Ok head) frames payload other = ap (λ (b : Result (Option BaseView) ℕ). start_by head b) (base_more head frames payload other)
started_more (Err fault) frames payload other = refl

pub start_more : (old : List (List ℕ)) (payload : List ℕ) (start : Start) → IsTrue (is_ok (entries_among start old)) → begins_base payload ≡ false → start_among (old ++ payload ∷ []) ≡ start_among old
start_more [] payload start ok other = cc
start_more (head ∷ frames) payload start ok other = started_more (head_in head) frames payload other

-- the file of an open log, and the entries that are appended
module _ (start : Start) (chain : List ℕ) (count : ℕ) (entries : List EntryView) (file : List ℕ) (reads : IsTrue (is_ok (entries_among start (frames_of file)))) (linked : chain ≡ chain_after start.chain (entries_in start file)) (all : count ≡ length (entries_in start file)) where
  pub known_all : known_in start count file ≡ entries_in start file
  known_all = take_all count (entries_in start file) (omega (arith, all))

  pub more_among : (frames : List (List ℕ)) → IsMore chain (start.below + count + 1) entries (frames_of file) frames → entries_among start frames ≡ Ok (entries_in start file ++ entries)
  more_among frames more =
      let known = entries_in start file in
      let next : next_in start known more.0 ≡ Ok entries =
      ap (λ (c : List ℕ). frame_in c (start.below + length known + 1) more.0) (sym linked) ∙ ap (λ (n : ℕ). frame_in chain (start.below + n + 1) more.0) (sym all) ∙ more.1 in
      ap (λ (fs : List (List ℕ)). entries_among start fs) more.2
      ∙ among_more start (frames_of file) more.0 known entries (ok_is (entries_among start (frames_of file)) reads) next

  pub more_in : (new : List ℕ) → IsMore chain (start.below + count + 1) entries (frames_of file) (frames_of new) → entries_in start new ≡ entries_in start file ++ entries
  more_in new more = ap or_none (more_among (frames_of new) more)

  pub more_reads : (new : List ℕ) → IsMore chain (start.below + count + 1) entries (frames_of file) (frames_of new) → IsTrue (is_ok (entries_among start (frames_of new)))
  more_reads new more = rw (more_among (frames_of new) more) refl

  pub more_named : (new : List ℕ) → IsMore chain (start.below + count + 1) entries (frames_of file) (frames_of new) → start_among (frames_of file) ≡ Ok start → start_among (frames_of new) ≡ Ok start
  more_named new more named =
      ap (λ (fs : List (List ℕ)). start_among fs) more.2
      ∙ start_more (frames_of file) more.0 start reads (plain chain (start.below + count + 1) more.0 entries more.1) ∙ named

  pub more_linked : (new : List ℕ) → IsMore chain (start.below + count + 1) entries (frames_of file) (frames_of new) → chain_after chain entries ≡ chain_after start.chain (entries_in start new)
  more_linked new more =
      ap (λ (c : List ℕ). chain_after c entries) linked
      ∙ sym (fold-append link start.chain (entries_in start file) entries)
      ∙ ap (λ (es : List EntryView). chain_after start.chain es) (sym (more_in new more))

  pub more_all : (new : List ℕ) → IsMore chain (start.below + count + 1) entries (frames_of file) (frames_of new) → count + length entries ≡ length (entries_in start new)
  more_all new more = omega (arith, all, ap length (more_in new more), length-append (entries_in start file) entries)

  -- the old entries, or these and the new ones
  pub either_in : (new : List ℕ) → OldOrMore chain (start.below + count + 1) entries (frames_of file) (frames_of new) → (entries_in start new ≡ known_in start count file) ⊎ (entries_in start new ≡ known_in start count file ++ entries)
  either_in new (inl same) = inl (ap (λ (fs : List (List ℕ)). or_none (entries_among start fs)) same ∙ sym known_all)
  either_in new (inr more) = inr (more_in new more ∙ ap (λ (es : List EntryView). es ++ entries) (sym known_all))

  -- the counted entries stay, also in doubt
  pub known_stays : (new : List ℕ) → OldOrMore chain (start.below + count + 1) entries (frames_of file) (frames_of new) → known_in start count new ≡ known_in start count file
  known_stays new (inl same) = ap (λ (fs : List (List ℕ)). take count (or_none (entries_among start fs))) same
  known_stays new (inr more) =
      ap (λ (es : List EntryView). take count es) (more_in new more)
      ∙ take-append-le count (entries_in start file) entries (omega (arith, all))

  pub count_stays : (new : List ℕ) → OldOrMore chain (start.below + count + 1) entries (frames_of file) (frames_of new) → count ≤ length (entries_in start new)
  count_stays new (inl same) =
      let e = ap (λ (fs : List (List ℕ)). length (or_none (entries_among start fs))) same in
      omega (arith, all, e)
  count_stays new (inr more) = omega (arith, more_all new more)

  -- a crash leaves what is known, and perhaps the new entries
  pub begins : (left : List ℕ → Type 0) → ((c : List ℕ) → left c → OldOrMore chain (start.below + count + 1) entries (frames_of file) (frames_of c)) → Last (LeavesEntries start left) (known_in start count file)
  begins left crash these leaves = elim (either_in leaves.0 (crash leaves.0 leaves.1)) [
    | inl same ↦ ([], sym leaves.2 ∙ same ∙ sym (append-nil (known_in start count file)))
    | inr more ↦ (entries, sym leaves.2 ∙ more)
  ]

  -- after the frame was stored
  pub known_more : (new : List ℕ) → IsMore chain (start.below + count + 1) entries (frames_of file) (frames_of new) → known_in start (count + length entries) new ≡ known_in start count file ++ entries
  known_more new more =
      let long = more_all new more in
      take_all (count + length entries) (entries_in start new) (omega (arith, long)) ∙ more_in new more ∙ ap (λ (es : List EntryView). es ++ entries) (sym known_all)

  named_after : (new : List ℕ) → OldOrMore chain (start.below + count + 1) entries (frames_of file) (frames_of new) → start_among (frames_of file) ≡ Ok start → start_among (frames_of new) ≡ Ok start
  named_after new (inl same) named = ap (λ (fs : List (List ℕ)). start_among fs) same ∙ named
  named_after new (inr more) named = more_named new more named

  -- what opening finds after a crash
  pub found : (expected : Expected) (new : List ℕ) (v : FileView) → start_among (frames_of file) ≡ Ok start → OldOrMore chain (start.below + count + 1) entries (frames_of file) (frames_of new) → contents_of expected new ≡ Ok v → v.entries ≡ entries_in start new
  unfolding contents_of
  found expected new v named after is =
      let p = parts expected (frames_of new) (drop (size_of (frames_of new)) new) v is in
      let same : start_of v.head v.base ≡ start = start_is (start_of v.head v.base) start (sym (parts_start expected (frames_of new) v p) ∙ named_after new after named) in
      let read : entries_among start (frames_of new) ≡ Ok v.entries = subst (λ (s : Start). entries_among s (frames_of new) ≡ Ok v.entries) same p.entries in
      sym (ap or_none read)

  -- what opening finds after a crash meanwhile
  pub found_either : (expected : Expected) (new : List ℕ) (v : FileView) → start_among (frames_of file) ≡ Ok start → OldOrMore chain (start.below + count + 1) entries (frames_of file) (frames_of new) → contents_of expected new ≡ Ok v → (v.entries ≡ known_in start count file) ⊎ (v.entries ≡ known_in start count file ++ entries)
  found_either expected new v named after is = elim (either_in new after) [
    | inl same ↦ inl (found expected new v named after is ∙ same)
    | inr more ↦ inr (found expected new v named after is ∙ more)
  ]

  -- what opening finds after the frame was stored
  pub found_more : (expected : Expected) (new left : List ℕ) (v : FileView) → start_among (frames_of file) ≡ Ok start → IsMore chain (start.below + count + 1) entries (frames_of file) (frames_of new) → left ≡ new → contents_of expected left ≡ Ok v → v.entries ≡ known_in start count file ++ entries
  found_more expected new left v named more same is =
      let here : contents_of expected new ≡ Ok v = ap (λ (c : List ℕ). contents_of expected c) (sym same) ∙ is in
      found expected new v named (inr more) here ∙ more_in new more ∙ ap (λ (es : List EntryView). es ++ entries) (sym known_all)

  -- what a crash leaves after the frame was stored
  pub last_more : (left : List ℕ → Type 0) (new : List ℕ) → IsMore chain (start.below + count + 1) entries (frames_of file) (frames_of new) → Only new left → Last (LeavesEntries start left) (known_in start count file ++ entries)
  last_more left new more only these leaves = (
    [],
    sym leaves.2 ∙ ap (λ (c : List ℕ). entries_in start c) (only leaves.0 leaves.1) ∙ more_in new more
        ∙ ap (λ (es : List EntryView). es ++ entries) (sym known_all) ∙ sym (append-nil (known_in start count file ++ entries)),
  )

  -- what a crash leaves of a log at rest
  pub last_all : (left : List ℕ → Type 0) → Only file left → Last (LeavesEntries start left) (known_in start count file)
  last_all left only these leaves =
      ([], sym leaves.2 ∙ ap (λ (c : List ℕ). entries_in start c) (only leaves.0 leaves.1) ∙ sym known_all ∙ sym (append-nil (known_in start count file)))

pub known_long : (start : Start) (count : ℕ) (file : List ℕ) → count ≤ length (entries_in start file) → count ≡ length (known_in start count file)
known_long start count file within = sym (length-take-le count (entries_in start file) within)

-- ---- the log after an append

pub to_old : (new old : Bool) → new ≡ old → IsTrue new → IsTrue old
to_old new old same is = sym same ∙ is

kept_prop : {D : Type 0} (seen : D → List ℕ) (may_leave : D → List ℕ → Type 0) (is_usable is_clean : D → Bool) (log : Log D) (start : Start) (chain : List ℕ) (count : ℕ) (is_open : Bool) → IsProp (IsKept seen may_leave is_usable is_clean log start chain count is_open)
kept_prop seen may_leave is_usable is_clean log start chain count is_open = hlevel props

-- what is made of equal logs is equal, whatever the proofs that they are kept
pub same_made : {D R : Type 0} (seen : D → List ℕ) (may_leave : D → List ℕ → Type 0) (is_usable is_clean : D → Bool) (new old : Log D) (start : Start) (chain : List ℕ) (count : ℕ) (is_open : Bool) (make : (l : Log D) → IsKept seen may_leave is_usable is_clean l start chain count is_open → R) (kept_new : IsKept seen may_leave is_usable is_clean new start chain count is_open) (kept_old : IsKept seen may_leave is_usable is_clean old start chain count is_open) → new ≡ old → make new kept_new ≡ make old kept_old
same_made {D} {R} seen may_leave is_usable is_clean new old start chain count is_open make kept_new kept_old same =
    subst (λ (l : Log D). (k : IsKept seen may_leave is_usable is_clean l start chain count is_open) → make l k ≡ make old kept_old) (sym same)
    (λ k. ap (make old) (kept_prop seen may_leave is_usable is_clean old start chain count is_open k kept_old)) kept_new

module _ {D : Type 0} (seen : D → List ℕ) (may_leave : D → List ℕ → Type 0) (is_usable is_clean : D → Bool) (old new : Log D) (start : Start) (chain : List ℕ) (count : ℕ) (is_open : Bool) (kept : IsKept seen may_leave is_usable is_clean old start chain count is_open) (taking : IsTrue is_open) (entries : List EntryView) (cleaner : IsTrue (is_clean new.disk) → IsTrue (is_clean old.disk)) where
  pub stored : (next : List ℕ) (total : ℕ) → next ≡ chain_after chain entries → total ≡ count + length entries → IsReady seen may_leave is_usable is_clean new → (IsTrue (is_clean new.disk) → IsMore chain (start.below + count + 1) entries (frames_of (seen old.disk)) (frames_of (seen new.disk))) → IsKept seen may_leave is_usable is_clean new start next total is_open
  stored next total links sums ready more = record {
    ready = λ _. ready;
    named = λ _ clean.
        let c = cleaner clean in
        more_named start chain count entries (seen old.disk) (kept.reads taking c) (kept.linked taking c) (kept.all taking c) (seen new.disk) (more clean) (kept.named taking c);
    reads = λ _ clean.
        let c = cleaner clean in
        more_reads start chain count entries (seen old.disk) (kept.reads taking c) (kept.linked taking c) (kept.all taking c) (seen new.disk) (more clean);
    linked = λ _ clean.
        let c = cleaner clean in
        links ∙ more_linked start chain count entries (seen old.disk) (kept.reads taking c) (kept.linked taking c) (kept.all taking c) (seen new.disk) (more clean);
    all = λ _ clean.
        let c = cleaner clean in
        sums ∙ more_all start chain count entries (seen old.disk) (kept.reads taking c) (kept.linked taking c) (kept.all taking c) (seen new.disk) (more clean);
    within = λ clean.
        let c = cleaner clean in
        let all = more_all start chain count entries (seen old.disk) (kept.reads taking c) (kept.linked taking c) (kept.all taking c) (seen new.disk) (more clean) in
        omega (arith, sums, all);
    tied = λ clean.
        let c = cleaner clean in
        let all = more_all start chain count entries (seen old.disk) (kept.reads taking c) (kept.linked taking c) (kept.all taking c) (seen new.disk) (more clean) in
        links ∙ more_linked start chain count entries (seen old.disk) (kept.reads taking c) (kept.linked taking c) (kept.all taking c) (seen new.disk) (more clean)
        ∙ ap (λ (es : List EntryView). chain_after start.chain es) (sym (take_all total (entries_in start (seen new.disk)) (omega (arith, sums, all))));
  }

  pub doubted : (IsTrue (is_clean new.disk) → OldOrMore chain (start.below + count + 1) entries (frames_of (seen old.disk)) (frames_of (seen new.disk))) → IsKept seen may_leave is_usable is_clean new start chain count false
  doubted after = record {
    ready = λ no_log. cc;
    named = λ no_log clean. cc;
    reads = λ no_log clean. cc;
    linked = λ no_log clean. cc;
    all = λ no_log clean. cc;
    within = λ clean.
        let c = cleaner clean in
        count_stays start chain count entries (seen old.disk) (kept.reads taking c) (kept.linked taking c) (kept.all taking c) (seen new.disk) (after clean);
    tied = λ clean.
        let c = cleaner clean in
        kept.tied c ∙ ap (λ (es : List EntryView). chain_after start.chain es) (sym (known_stays start chain count entries (seen old.disk) (kept.reads taking c) (kept.linked taking c) (kept.all taking c) (seen new.disk) (after clean)));
  }

  pub as_before : new ≡ old → IsKept seen may_leave is_usable is_clean new start chain count is_open
  as_before same = subst (λ (l : Log D). IsKept seen may_leave is_usable is_clean l start chain count is_open) (sym same) kept

-- a log that was found
pub found_kept : {D : Type 0} (seen : D → List ℕ) (may_leave : D → List ℕ → Type 0) (is_usable is_clean : D → Bool) (log : Log D) (start : Start) (chain : List ℕ) (count : ℕ) (entries : List EntryView) → IsReady seen may_leave is_usable is_clean log → (IsTrue (is_clean log.disk) → start_among (frames_of (seen log.disk)) ≡ Ok start) → (IsTrue (is_clean log.disk) → entries_among start (frames_of (seen log.disk)) ≡ Ok entries) → chain ≡ chain_after start.chain entries → count ≡ length entries → IsKept seen may_leave is_usable is_clean log start chain count true
found_kept seen may_leave is_usable is_clean log start chain count entries ready named reads links all = record {
  ready = λ _. ready;
  named = λ _ clean. named clean;
  reads = λ _ clean. read_ok (entries_among start (frames_of (seen log.disk))) entries (reads clean);
  linked = λ _ clean. links ∙ ap (λ (es : List EntryView). chain_after start.chain es) (sym (ap or_none (reads clean)));
  all = λ _ clean. all ∙ ap length (sym (ap or_none (reads clean)));
  within = λ clean. let e = ap (λ (r : Result (List EntryView) ℕ). length (or_none r)) (reads clean) in omega (arith, e, all);
  tied = λ clean. links ∙ ap (λ (es : List EntryView). chain_after start.chain es) (sym (known_is start count (seen log.disk) entries (reads clean) all));
}
