-- A frame's entries are read from its own bytes and from no others.
use Rattle.std.proofs.Common.{◌≡◌, ℕ, ◌^◌, true, eqb, ltb, List, ◌++◌, length, Option, Some, None, Result, Ok, Err, refl, sym, ap, ◌∙◌, append_assoc, eq-eqb}
use Rattle.std.specs.Prelude.{◌&&◌, nat_eq, IfOk, IsTrue}
use Rattle.std.specs.Int.{w16, w64}
use Rattle.std.specs.List.{flat_map}
use Rattle.std.specs.Cmp.Lexicographic.{pointwise, bytes_decides}
use Rattle.std.proofs.lemmas.Bool.{eqb-true}
use Rattle.byte_codec.specs.Codec.{many_at, all_fit}
use Rattle.byte_codec.specs.Exact.{IsBytes, IsExact}
use Rattle.byte_codec.proofs.Laws.{after, both, and_true, byte_exact, number_exact, wide16, wide64, pair_exact}
use Rattle.byte_codec.proofs.LawsOfLists.{many_takes, many_again}
use Rattle.x3d_lists.specs.Answers.{Gives}
use Rattle.share_entries.specs.declared.frame.FrameFault.{FrameFault}
use Rattle.share_entries.specs.declared.frame.FrameFault.TheVariants.{BadKind, BadNumber, BadChain, Memory}
use Rattle.share_entries.specs.Entry.{EntryView, entry_codec}
use Rattle.share_entries.specs.Chain.{chain_after}
use Rattle.share_entries.specs.Frame.{front_codec, frame_text, frame_fits, entries_of, framed, frame_in}
use Rattle.share_entries.proofs.EntryLaws.{entry_exact}
use Rattle.share_entries.proofs.Tests.{ok_is, tested}

front_exact : IsExact front_codec
unfolding front_codec
front_exact = pair_exact _ _ byte_exact (pair_exact _ _ (number_exact w16 wide16) (number_exact w64 wide64))

abbrev FrontRead : Type 0
FrontRead = Option ((ℕ × (ℕ × ℕ)) × List ℕ)

abbrev front_read : (kind count first : ℕ) → List ℕ → FrontRead
front_read kind count first rest = Some ((kind, (count, first)), rest)

abbrev EntriesRead : Type 0
EntriesRead = Option (List EntryView × List ℕ)

abbrev entries_read : List EntryView → List ℕ → EntriesRead
entries_read entries rest = Some (entries, rest)

entries_ok : (before : List ℕ) (r : EntriesRead) (es : List EntryView) → entries_of before r ≡ Ok es → r ≡ entries_read es (chain_after before es)
entries_ok before None es e = absurd cc
entries_ok before (Some x) es e =
    let t = tested (pointwise nat_eq x.1 (chain_after before x.0)) (Ok x.0) BadChain es e in
    let same : x.0 ≡ es = ok_is x.0 es t.1 in
    let sealed : x.1 ≡ chain_after before x.0 = (bytes_decides x.1 (chain_after before x.0)).0 t.0 in
    ap (λ (c : List ℕ). entries_read x.0 c) sealed ∙ ap (λ (l : List EntryView). entries_read l (chain_after before l)) same

record Framed (before : List ℕ) (first : ℕ) (r : FrontRead) (es : List EntryView) : Type 0 where
  pub count : ℕ
  pub rest : List ℕ
  pub front : r ≡ front_read 0 count first rest
  pub entries : many_at entry_codec count rest ≡ entries_read es (chain_after before es)

framed_ok : (before : List ℕ) (first : ℕ) (r : FrontRead) (es : List EntryView) → framed before first r ≡ Ok es → Framed before first r es
framed_ok before first None es e = absurd cc
framed_ok before first (Some x) es e =
    let count = x.0.1.0 in
    let k = tested (eqb x.0.0 0) _ BadKind es e in
    let n = tested (eqb x.0.1.1 first) _ BadNumber es k.1 in
    record {
      count = count;
      rest = x.1;
      front = ap (λ (z : ℕ). front_read z count x.0.1.1 x.1) (eqb-true x.0.0 0 k.0) ∙ ap (λ (z : ℕ). front_read 0 count z x.1) (eqb-true x.0.1.1 first n.0);
      entries = entries_ok before (many_at entry_codec count x.1) es n.1;
    }

front_words : (count first : ℕ) → front_codec.fits (0, (count, first)) ≡ true → (ltb count (2 ^ 16) && ltb first (2 ^ 64)) ≡ true
unfolding front_codec
front_words count first e = e

front_fits : (count first : ℕ) → (ltb count (2 ^ 16) && ltb first (2 ^ 64)) ≡ true → front_codec.fits (0, (count, first)) ≡ true
unfolding front_codec
front_fits count first e = e

pub frame_takes : (before : List ℕ) (first : ℕ) (bytes : List ℕ) (es : List EntryView) → IsBytes bytes → frame_in before first bytes ≡ Ok es → (bytes ≡ frame_text before first es) × (frame_fits first es ≡ true)
unfolding frame_in
frame_takes before first bytes es h e =
    let f = framed_ok before first (front_codec.read bytes) es e in
    let front : ℕ × (ℕ × ℕ) = (0, (f.count, first)) in
    let chain = chain_after before es in
    let text = flat_map entry_codec.write es in
    let t = front_exact.takes bytes front f.rest h f.front in
    let m = many_takes entry_codec entry_exact f.count f.rest es chain (after front_codec bytes front f.rest h t) f.entries in
    let words : (ltb f.count (2 ^ 16) && ltb first (2 ^ 64)) ≡ true = front_words f.count first t.valid in
    let counted : (ltb (length es) (2 ^ 16) && ltb first (2 ^ 64)) ≡ true = ap (λ (n : ℕ). ltb n (2 ^ 16) && ltb first (2 ^ 64)) m.1 ∙ words in (
      t.parts ∙ ap (λ (r : List ℕ). front_codec.write front ++ r) m.0 ∙ sym (append_assoc (front_codec.write front) text chain)
          ∙ ap (λ (n : ℕ). front_codec.write (0, (n, first)) ++ text ++ chain) (sym m.1),
      and_true _ _ counted m.2,
    )

framed_again : (before : List ℕ) (count first : ℕ) (rest : List ℕ) → framed before first (front_read 0 count first rest) ≡ entries_of before (many_at entry_codec count rest)
framed_again before count first rest = rw (eq-eqb first first refl) refl

entries_again : (before : List ℕ) (es : List EntryView) → entries_of before (entries_read es (chain_after before es)) ≡ Ok es
entries_again before es = rw ((bytes_decides (chain_after before es) (chain_after before es)).1 refl) refl

pub frame_again : (before : List ℕ) (first : ℕ) (es : List EntryView) → frame_fits first es ≡ true → frame_in before first (frame_text before first es) ≡ Ok es
unfolding frame_in
frame_again before first es fits =
    let a = both (ltb (length es) (2 ^ 16) && ltb first (2 ^ 64)) (all_fit entry_codec es) fits in
    let front : ℕ × (ℕ × ℕ) = (0, (length es, first)) in
    let chain = chain_after before es in
    let text = flat_map entry_codec.write es in
    ap (λ (t : List ℕ). framed before first (front_codec.read t)) (append_assoc (front_codec.write front) text chain)
    ∙ ap (λ (r : FrontRead). framed before first r) (front_exact.again front (text ++ chain) (front_fits (length es) first a.0))
    ∙ framed_again before (length es) first (text ++ chain)
    ∙ ap (λ (r : EntriesRead). entries_of before r) (many_again entry_codec entry_exact es chain a.1)
    ∙ entries_again before es

-- of a call that gives what is read there
pub frame_found : {X : Type 0} (r : Result X FrameFault) (view : X → List EntryView) (before : List ℕ) (first : ℕ) (bytes : List ℕ) → IsBytes bytes → Gives Memory view r (frame_in before first bytes)
    → IfOk r (λ x. (bytes ≡ frame_text before first (view x)) × IsTrue (frame_fits first (view x)))
frame_found (Ok x) view before first bytes h gives = frame_takes before first bytes (view x) h gives
frame_found (Err e) view before first bytes h gives = tt
