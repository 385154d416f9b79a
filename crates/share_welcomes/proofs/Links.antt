-- Entries with the chains before them: one more, the one of a number, and those that stay.
use Rattle.std.proofs.Common.{◌≡◌, ℕ, zero, suc, ◌-◌, ◌+◌, ◌<◌, ◌≤◌, min, true, false, List, [], ◌∷◌, ◌++◌, length, take, drop, get_or, Option, Some, None, refl, sym, ap, ◌∙◌}
use Rattle.std.specs.Prelude.{nat_le, nat_lt, slice_get, unwrap_or}
use Rattle.std.specs.Option.{option_map}
use Rattle.std.proofs.lemmas.Bool.{cond-false, cond-true, le-leb, le-ltb, lt-leb}
use Rattle.std.proofs.lemmas.List.{drop-map, length-map, map-append, take-append-drop, take_all}
use Rattle.std.proofs.lemmas.Option.{slice_get_read}
use Rattle.std.proofs.lemmas.List.Sums.{fold-append, fold_push}
use Rattle.share_entries.specs.Entry.{EntryView}
use Rattle.share_entries.specs.Chain.{link, chain_after}
use Rattle.share_session.specs.declared.message.Input2.{Input2}
use Rattle.share_welcomes.specs.declared.learned.Link.{Link}
use Rattle.share_welcomes.specs.Learned.{LearnedView, chain_at, chain_in, dropped_below, entries_of, gone_below, input_at, input_in, input_of, is_due, linked, without}

some_is : {A : Type 0} (x y : A) → Some x ≡ Some y → x ≡ y
some_is x y e = ap (λ o. unwrap_or o x) e

abbrev pub link_of : (chain : List ℕ) → EntryView → Link
link_of chain e = record { chain = chain; entry = e }

abbrev pub viewed : (run : List ℕ) → (dropped : ℕ) → (before : List ℕ) → List EntryView → (boots : List ℕ) → LearnedView
viewed run dropped before es boots = record { run = run; dropped = dropped; before = before; entries = es; boots = boots }

-- ---- one entry more

linked_more : (chain : List ℕ) (es : List EntryView) (e : EntryView) → linked chain (es ++ e ∷ []) ≡ linked chain es ++ link_of (chain_after chain es) e ∷ []
linked_more chain [] e = refl
linked_more chain (x ∷ xs) e = ap (λ (ls : List Link). link_of chain x ∷ ls) (linked_more (link chain x) xs e)

pub one_more : (before : List ℕ) (links items : List Link) (next after : List ℕ) (e : EntryView)
    → links ≡ linked before (entries_of links) → next ≡ chain_after before (entries_of links)
    → items ≡ links ++ link_of next e ∷ [] → after ≡ link next e
    → (items ≡ linked before (entries_of items)) × (after ≡ chain_after before (entries_of items))
one_more before links items next after e hl hn pushed ha =
    let es : List EntryView = entries_of links in
    let grown : entries_of items ≡ es ++ e ∷ [] = ap (λ (l : List Link). entries_of l) pushed ∙ map-append (λ (l : Link). l.entry) links (link_of next e ∷ []) in
    let all : linked before (entries_of items) ≡ linked before es ++ link_of (chain_after before es) e ∷ [] = ap (λ (l : List EntryView). linked before l) grown ∙ linked_more before es e in
    let front : links ++ link_of next e ∷ [] ≡ linked before es ++ link_of next e ∷ [] = ap (λ (l : List Link). l ++ link_of next e ∷ []) hl in
    let chained : linked before es ++ link_of next e ∷ [] ≡ linked before es ++ link_of (chain_after before es) e ∷ [] = ap (λ (z : List ℕ). linked before es ++ link_of z e ∷ []) hn in (
      pushed ∙ front ∙ chained ∙ sym all,
      ha ∙ ap (λ (z : List ℕ). link z e) hn ∙ sym (fold_push link before es e) ∙ ap (λ (l : List EntryView). chain_after before l) (sym grown),
    )

-- ---- the input of a number

pub read_at : {A : Type 0} (lent xs : List A) (i : ℕ) (x : A) → lent ≡ xs → i < length lent → x ≡ get_or lent i x → slice_get xs i ≡ Some x
read_at lent xs i x same within is = ap (λ l. slice_get l i) (sym same) ∙ slice_get_read lent (length lent) i x refl within is

linked_at : (chain : List ℕ) (es : List EntryView) (n : ℕ) → slice_get (linked chain es) n ≡ option_map (λ e. link_of (chain_after chain (take n es)) e) (slice_get es n)
linked_at chain [] zero = refl
linked_at chain [] (suc n) = refl
linked_at chain (e ∷ es) zero = refl
linked_at chain (e ∷ es) (suc n) = linked_at (link chain e) es n

pub record Found (chain : List ℕ) (es : List EntryView) (n : ℕ) (l : Link) : Type 0 where
  pub entry : slice_get es n ≡ Some l.entry
  pub chained : l.chain ≡ chain_after chain (take n es)

found_by : (chain : List ℕ) (es : List EntryView) (n : ℕ) (l : Link) (o : Option EntryView) → slice_get es n ≡ o → option_map (λ e. link_of (chain_after chain (take n es)) e) o ≡ Some l → Found chain es n l
found_by chain es n l None at e = absurd cc
found_by chain es n l (Some x) at e =
    let same : link_of (chain_after chain (take n es)) x ≡ l = some_is (link_of (chain_after chain (take n es)) x) l e in
    record {
      entry = at ∙ ap (λ (z : Link). Some z.entry) same;
      chained = ap (λ (z : Link). z.chain) (sym same);
    }

found : (chain : List ℕ) (es : List EntryView) (links : List Link) (n : ℕ) (l : Link) → links ≡ linked chain es → slice_get links n ≡ Some l → Found chain es n l
found chain es links n l are got =
    found_by chain es n l (slice_get es n) refl (sym (linked_at chain es n) ∙ sym (ap (λ (z : List Link). slice_get z n) are) ∙ got)

abbrev some_input : (chain : List ℕ) → EntryView → (number : ℕ) → Option Input2
some_input chain e number = Some (record { chain = chain; number = number; entry = e })

pub input_is : (v : LearnedView) (links : List Link) (number sent : ℕ) (l : Link) → sent ≡ number → links ≡ linked v.before v.entries → v.dropped < number
    → slice_get links (number - 1 - v.dropped) ≡ Some l → some_input l.chain l.entry sent ≡ input_at v number
input_is v links number sent l is_sent are past got =
    let place : ℕ = number - 1 - v.dropped in
    let its : Found v.before v.entries place l = found v.before v.entries links place l are got in
    let there : input_in v number place ≡ some_input l.chain l.entry number =
    ap (λ (o : Option EntryView). input_of v number place o) its.entry
    ∙ ap (λ (c : List ℕ). some_input c l.entry number) (sym its.chained) in
    ap (λ (n : ℕ). some_input l.chain l.entry n) is_sent
    ∙ sym (cond-false (nat_le number v.dropped) None (input_in v number place) (lt-leb number v.dropped past) ∙ there)

-- ---- the chain after the first entries

chain_is : (v : LearnedView) (n : ℕ) (chain : List ℕ) → v.dropped ≤ n → n - v.dropped ≤ length v.entries → chain ≡ chain_after v.before (take (n - v.dropped) v.entries) → Some chain ≡ chain_at v n
chain_is v n chain above within is =
    let place : ℕ = n - v.dropped in
    ap (λ (c : List ℕ). Some c) is
    ∙ sym (cond-true (nat_le place (length v.entries)) (Some (chain_after v.before (take place v.entries))) None (le-leb place (length v.entries) within))
    ∙ sym (cond-false (nat_lt n v.dropped) None (chain_in v place) (le-ltb n v.dropped above))

pub chain_of_link : (v : LearnedView) (links : List Link) (n : ℕ) (l : Link) → links ≡ linked v.before v.entries → v.dropped ≤ n → n - v.dropped ≤ length v.entries
    → slice_get links (n - v.dropped) ≡ Some l → Some l.chain ≡ chain_at v n
chain_of_link v links n l are above within got =
    let its : Found v.before v.entries (n - v.dropped) l = found v.before v.entries links (n - v.dropped) l are got in
    chain_is v n l.chain above within its.chained

-- no link is there: these are all entries
pub chain_of_all : (v : LearnedView) (n : ℕ) (chain : List ℕ) → v.dropped ≤ n → n - v.dropped ≤ length v.entries → length v.entries ≤ n - v.dropped → chain ≡ chain_after v.before v.entries
    → Some chain ≡ chain_at v n
chain_of_all v n chain above within past is =
    chain_is v n chain above within (is ∙ ap (λ (l : List EntryView). chain_after v.before l) (sym (take_all (n - v.dropped) v.entries past)))

-- ---- those that stay

linked_drop : (chain : List ℕ) (es : List EntryView) (n : ℕ) → drop n (linked chain es) ≡ linked (chain_after chain (take n es)) (drop n es)
linked_drop chain es zero = refl
linked_drop chain [] (suc n) = refl
linked_drop chain (e ∷ es) (suc n) = linked_drop (link chain e) es n

module _ (before : List ℕ) (links left lent : List Link) (next : List ℕ) (gone : ℕ) (first : List ℕ) (hl : links ≡ linked before (entries_of links)) (hn : next ≡ chain_after before (entries_of links))
    (hd : left ≡ drop gone links) (same : lent ≡ left) (is : (chain : List ℕ) (es : List EntryView) → lent ≡ linked chain es → next ≡ chain_after chain es → first ≡ chain) where
  abbrev es : List EntryView
  es = entries_of links

  abbrev rest : List EntryView
  rest = drop gone es

  abbrev there : List ℕ
  there = chain_after before (take gone es)

  are : left ≡ linked there rest
  are = hd ∙ ap (λ (ls : List Link). drop gone ls) hl ∙ linked_drop before es gone

  stay_entries : entries_of left ≡ rest
  stay_entries = ap (λ (ls : List Link). entries_of ls) hd ∙ sym (drop-map (λ (l : Link). l.entry) gone links)

  stay_next : next ≡ chain_after there rest
  stay_next = hn ∙ ap (λ (xs : List EntryView). chain_after before xs) (sym (take-append-drop gone es)) ∙ fold-append link before (take gone es) rest

  stay_first : first ≡ there
  stay_first = is there rest (same ∙ are) stay_next

  pub stay_of : (left ≡ linked first (entries_of left)) × (next ≡ chain_after first (entries_of left))
  stay_of = (
    are ∙ ap (λ (c : List ℕ). linked c rest) (sym stay_first) ∙ ap (λ (xs : List EntryView). linked first xs) (sym stay_entries),
    stay_next ∙ ap (λ (c : List ℕ). chain_after c rest) (sym stay_first) ∙ ap (λ (xs : List EntryView). chain_after first xs) (sym stay_entries),
  )

  pub dropped_is : (run : List ℕ) (dropped : ℕ) (boots : List ℕ) (floor kept : ℕ) → gone ≡ min (floor - 1 - dropped) kept → kept ≡ length links → is_due gone kept ≡ true
      → viewed run (dropped + gone) first (entries_of left) boots ≡ dropped_below floor (viewed run dropped before es boots)
  dropped_is run dropped boots floor kept many all due =
      let v : LearnedView = viewed run dropped before es boots in
      let counted : kept ≡ length es = all ∙ sym (length-map links (λ (l : Link). l.entry)) in
      let below : gone ≡ gone_below floor v = many ∙ ap (λ (n : ℕ). min (floor - 1 - dropped) n) counted in
      let is : is_due (gone_below floor v) (length es) ≡ true = ap (λ (n : ℕ). is_due n (length es)) (sym below) ∙ ap (λ (n : ℕ). is_due gone n) (sym counted) ∙ due in
      ap (λ (c : List ℕ). viewed run (dropped + gone) c (entries_of left) boots) stay_first
      ∙ ap (λ (xs : List EntryView). viewed run (dropped + gone) there xs boots) stay_entries
      ∙ ap (λ (n : ℕ). without v n) below
      ∙ sym (cond-true (is_due (gone_below floor v) (length es)) (without v (gone_below floor v)) v is)

pub dropped_not : (run : List ℕ) (dropped : ℕ) (before : List ℕ) (links : List Link) (boots : List ℕ) (floor gone kept : ℕ) → gone ≡ min (floor - 1 - dropped) kept → kept ≡ length links
    → is_due gone kept ≡ false → viewed run dropped before (entries_of links) boots ≡ dropped_below floor (viewed run dropped before (entries_of links) boots)
dropped_not run dropped before links boots floor gone kept many all due =
    let es : List EntryView = entries_of links in
    let v : LearnedView = viewed run dropped before es boots in
    let counted : kept ≡ length es = all ∙ sym (length-map links (λ (l : Link). l.entry)) in
    let below : gone ≡ gone_below floor v = many ∙ ap (λ (n : ℕ). min (floor - 1 - dropped) n) counted in
    let is : is_due (gone_below floor v) (length es) ≡ false = ap (λ (n : ℕ). is_due n (length es)) (sym below) ∙ ap (λ (n : ℕ). is_due gone n) (sym counted) ∙ due in
    sym (cond-false (is_due (gone_below floor v) (length es)) (without v (gone_below floor v)) v is)

-- the chain before the first, if there is one
pub first_of : (chain : List ℕ) (es : List EntryView) (links : List Link) (l : Link) → links ≡ linked chain es → slice_get links 0 ≡ Some l → l.chain ≡ chain
first_of chain es links l are got = (found chain es links 0 l are got).chained

pub none_left : (chain next : List ℕ) (es : List EntryView) (links : List Link) → links ≡ linked chain es → slice_get links 0 ≡ None → next ≡ chain_after chain es → next ≡ chain
none_left chain next [] links are none is = is
none_left chain next (e ∷ es) links are none is = absurd (let some : Some (link_of chain e) ≡ None = sym (ap (λ (ls : List Link). slice_get ls 0) are) ∙ none in cc)
