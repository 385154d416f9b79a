-- What an open log keeps.
use Rattle.std.proofs.Common.{◌≡◌, ◌≤◌, ◌+◌, ℕ, List, ◌++◌, drop, length, take, Option, None, Some, Result, Ok, Err, IfOk, OnErr, OnOk, sym, ap, subst, ◌∙◌, append_assoc, length-append, take-append-drop}
use Rattle.std.proofs.lemmas.List.{length-take-le}
use Rattle.std.proofs.lemmas.List.Sums.{fold-append}
use Rattle.std.proofs.Math.Logic.{∥∥₁_map}
use Rattle.share_entries.specs.declared.start.Start.{Start}
use Rattle.share_entries.specs.Chain.{chain_after, link}
use Rattle.share_entries.specs.Entry.{EntryView}
use Rattle.share_entries.specs.Frame.{frame_in, frame_text}
use Rattle.share_store.specs.OneLog.{Last}
use Rattle.share_etcd.specs.declared.outcome.Outcome.{Outcome}
use Rattle.share_etcd.specs.declared.outcome.Outcome.TheVariants.{Stored}
use Rattle.share_etcd.specs.Requests.{append_text, basing_text}
use Rattle.share_engine.specs.Exchanges.{Exchange, grown}
use Rattle.share_engine.specs.Keys.{Held, held, IsBelow, Always, HasFrom, Moves, KeptAt, IsKept, outcome_in}
use Rattle.share_engine.specs.Reading.{KnownView, without}
use Rattle.share_engine.proofs.Lasting.{always_map, based_kept, begins_same, last_begins, stored_kept}

-- what is made of equal entries is equal, whatever the proofs
pub same_known : {R : Type 0} (P : KnownView → Type 0) (make : (k : KnownView) → ∥ P k ∥₁ → R) (new old : KnownView) (now : ∥ P new ∥₁) (before : ∥ P old ∥₁) → new ≡ old → make new now ≡ make old before
same_known P make new old now before same =
    subst (λ (k : KnownView). (p : ∥ P k ∥₁) → make k p ≡ make old before) (sym same)
    (λ p. ap (make old) (squash₁ p before)) now

-- the same, where nothing was changed
pub refused_same : {R T E : Type 0} (r : Result T E) (P : KnownView → Type 0) (make : (k : KnownView) → ∥ P k ∥₁ → R) (new old : KnownView) (now : ∥ P new ∥₁) (before : ∥ P old ∥₁) → OnErr r (new ≡ old) → OnErr r (make new now ≡ make old before)
refused_same (Ok x) P make new old now before same = tt
refused_same (Err e) P make new old now before same = same_known P make new old now before same

pub request_if : {V F : Type 0} (r : Result V F) (items : V → List ℕ) (world : List ℕ) (head tail first last n m : ℕ) (chain before frame : List ℕ) (entries : List EntryView) → first ≡ n → last ≡ m → chain ≡ before → frame ≡ frame_text chain first entries → frame_in chain first frame ≡ Ok entries → IfOk r (λ v. items v ≡ append_text world head tail first last frame)
    → IfOk r (λ v. (items v ≡ append_text world head tail n m (frame_text before n entries)) × (frame_in before n (frame_text before n entries) ≡ Ok entries))
request_if (Err e) items world head tail first last n m chain before frame entries f l c text again says = tt
request_if (Ok v) items world head tail first last n m chain before frame entries f l c text again says =
    let texts : frame ≡ frame_text before n entries =
    text ∙ ap (λ (k : ℕ). frame_text chain k entries) f ∙ ap (λ (b : List ℕ). frame_text b n entries) c in
    let made : items v ≡ append_text world head tail n m (frame_text before n entries) =
    says ∙ ap (λ (k : ℕ). append_text world head tail k last frame) f
    ∙ ap (λ (k : ℕ). append_text world head tail n k frame) l
    ∙ ap (λ (t : List ℕ). append_text world head tail n m t) texts in
    let read : frame_in before n (frame_text before n entries) ≡ Ok entries =
    ap (λ (t : List ℕ). frame_in before n t) (sym texts)
    ∙ ap (λ (k : ℕ). frame_in before k frame) (sym f)
    ∙ ap (λ (b : List ℕ). frame_in b first frame) (sym c) ∙ again in
    (made, read)

has_known : (run : List ℕ) (start : Start) (known : Held) (now : Option Held) → KeptAt run start known now → HasFrom run start known.entries now
has_known run start known None kept = (kept.0, kept.1, tt)
has_known run start known (Some now) kept = (kept.0, kept.1, kept.2.grows)

module _ (world run : List ℕ) (old new : Option (List Exchange)) (head tail : ℕ) (before after : KnownView) where
  -- nothing more is known
  pub kept_still : after ≡ before → ((run : List ℕ) (start : Start) (k : Held) → IsKept world run start old k → IsKept world run start new k) → ∥ IsKept world run before.start old (held head tail before.entries) ∥₁ → ∥ IsKept world run after.start new (held head tail after.entries) ∥₁
  kept_still same stays kept =
      subst (λ (k : KnownView). ∥ IsKept world run k.start new (held head tail k.entries) ∥₁) (sym same)
      (∥∥₁_map kept (stays run before.start (held head tail before.entries)))

  -- an append was stored
  pub kept_more : (first last : ℕ) (chain : List ℕ) (entries : List EntryView) (body : List ℕ) (revision : ℕ) → after ≡ record { start = before.start; entries = before.entries ++ entries } → body ≡ append_text world head tail first last (frame_text chain first entries) → frame_in chain first (frame_text chain first entries) ≡ Ok entries → (said : Option (List ℕ)) × (new ≡ grown old (record { asked = body; answer = said })) × (outcome_in said ≡ Stored revision) → ∥ IsKept world run before.start old (held head tail before.entries) ∥₁ → ∥ IsKept world run after.start new (held head revision after.entries) ∥₁
  kept_more first last chain entries body revision same asks again stored kept =
      subst (λ (k : KnownView). ∥ IsKept world run k.start new (held head revision k.entries) ∥₁) (sym same)
      (stored_kept world run before.start old new head tail first last chain before.entries entries body revision asks again stored kept)

  -- all of the keys was read
  pub kept_read : (head_now tail_now : ℕ) → after.start ≡ before.start → (Always world run old (HasFrom run before.start before.entries) → IsKept world run before.start new (held head_now tail_now after.entries)) → ∥ IsKept world run before.start old (held head tail before.entries) ∥₁ → ∥ IsKept world run after.start new (held head_now tail_now after.entries) ∥₁
  kept_read head_now tail_now same all kept =
      subst (λ (s : Start). ∥ IsKept world run s new (held head_now tail_now after.entries) ∥₁) (sym same)
      (∥∥₁_map kept (λ (it : IsKept world run before.start old (held head tail before.entries)).
      all (always_map world run old (KeptAt run before.start (held head tail before.entries)) (HasFrom run before.start before.entries) (has_known run before.start (held head tail before.entries)) it)))

-- a base was stored
pub kept_based : (world run : List ℕ) (old new : Option (List Exchange)) (head tail : ℕ) (known : KnownView) (body : List ℕ) (revision : ℕ) → (number : ℕ) × (bytes : List ℕ) × (base : List ℕ) × (snapshot : List ℕ) × (body ≡ basing_text world head tail number bytes base snapshot) → (said : Option (List ℕ)) × (new ≡ grown old (record { asked = body; answer = said })) × (outcome_in said ≡ Stored revision) → ∥ IsKept world run known.start old (held head tail known.entries) ∥₁ → ∥ IsKept world run known.start new (held revision tail known.entries) ∥₁
kept_based world run old new head tail known body revision asks stored kept =
    based_kept world run known.start old new head tail known.entries body revision asks stored kept

pub asked_as : (old new : Option (List Exchange)) (body text : List ℕ) (outcome : Outcome) → body ≡ text → (said : Option (List ℕ)) × (new ≡ grown old (record { asked = body; answer = said })) × (outcome_in said ≡ outcome) → (said : Option (List ℕ)) × (new ≡ grown old (record { asked = text; answer = said })) × (outcome_in said ≡ outcome)
asked_as old new body text outcome is stored =
    subst (λ (b : List ℕ). (said : Option (List ℕ)) × (new ≡ grown old (record { asked = b; answer = said })) × (outcome_in said ≡ outcome)) is stored

-- ---- entries that are forgotten

below_more : (run : List ℕ) (k : KnownView) (count : ℕ) (below : List EntryView) → count ≤ length k.entries → IsBelow run k.start below → IsBelow run (without count k).start (below ++ take count k.entries)
below_more run k count below within is = record {
  number = length-append below (take count k.entries) ∙ ap (λ (n : ℕ). n + length (take count k.entries)) is.number ∙ ap (λ (n : ℕ). k.start.below + n) (length-take-le count k.entries within);
  chain = fold-append link run below (take count k.entries) ∙ ap (λ (c : List ℕ). chain_after c (take count k.entries)) is.chain;
}

without_at : (run : List ℕ) (k : KnownView) (count head tail : ℕ) → count ≤ length k.entries → (now : Option Held) → KeptAt run k.start (held head tail k.entries) now → KeptAt run (without count k).start (held head tail (without count k).entries) now
without_at run k count head tail within now kept =
    let all : kept.0 ++ k.entries ≡ (kept.0 ++ take count k.entries) ++ drop count k.entries =
    ap (λ (es : List EntryView). kept.0 ++ es) (sym (take-append-drop count k.entries)) ∙ sym (append_assoc kept.0 (take count k.entries) (drop count k.entries)) in (
      kept.0 ++ take count k.entries,
      below_more run k count kept.0 within kept.1,
      subst (λ (es : List EntryView). Moves (Some (held head tail es)) now) all kept.2,
    )

pub kept_without : (world run : List ℕ) (told : Option (List Exchange)) (head tail count : ℕ) (before after : KnownView) → count ≤ length before.entries → after ≡ without count before → ∥ IsKept world run before.start told (held head tail before.entries) ∥₁ → ∥ IsKept world run after.start told (held head tail after.entries) ∥₁
kept_without world run told head tail count before after within same kept =
    subst (λ (k : KnownView). ∥ IsKept world run k.start told (held head tail k.entries) ∥₁) (sym same)
    (∥∥₁_map kept (λ (it : IsKept world run before.start told (held head tail before.entries)).
    always_map world run told (KeptAt run before.start (held head tail before.entries)) (KeptAt run (without count before).start (held head tail (without count before).entries))
    (without_at run before count head tail within) it))

-- ---- what is left, by the answer

pub last_if : {T E : Type 0} (r : Result T E) (may_leave : List EntryView → Type 0) (all between before entries : List EntryView) (X : Type 0) → Last may_leave all → between ≡ before → OnOk r (all ≡ between ++ entries) → OnOk r (X → Last may_leave (before ++ entries))
last_if (Err e) may_leave all between before entries X last same more = tt
last_if (Ok x) may_leave all between before entries X last same more = λ clean.
    subst (λ (es : List EntryView). Last may_leave es) (more ∙ ap (λ (es : List EntryView). es ++ entries) same) last

pub crash_if : {T E : Type 0} (r : Result T E) (may_leave : List EntryView → Type 0) (all between before entries : List EntryView) → Last may_leave all → between ≡ before → OnOk r (all ≡ between ++ entries) → OnErr r (all ≡ between) → Last may_leave before
crash_if (Ok x) may_leave all between before entries last same more still =
    last_begins may_leave before all (entries, more ∙ ap (λ (es : List EntryView). es ++ entries) same) last
crash_if (Err e) may_leave all between before entries last same more still =
    last_begins may_leave before all (begins_same before all (sym (still ∙ same))) last

pub last_still : (may_leave : List EntryView → Type 0) (before after : KnownView) → after ≡ before → Last may_leave after.entries → Last may_leave before.entries
last_still may_leave before after same last = subst (λ (k : KnownView). Last may_leave k.entries) same last

pub forgotten_if : {T E : Type 0} (r : Result T E) (world run : List ℕ) (told : Option (List Exchange)) (head tail count : ℕ) (before after : KnownView) → count ≤ length before.entries → OnOk r (after ≡ without count before) → OnErr r (after ≡ before) → ∥ IsKept world run before.start told (held head tail before.entries) ∥₁ → ∥ IsKept world run after.start told (held head tail after.entries) ∥₁
forgotten_if (Ok x) world run told head tail count before after within done still kept =
    kept_without world run told head tail count before after within done kept
forgotten_if (Err e) world run told head tail count before after within done still kept =
    subst (λ (k : KnownView). ∥ IsKept world run k.start told (held head tail k.entries) ∥₁) (sym still) kept
