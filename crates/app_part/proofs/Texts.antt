-- Texts that are scenes, and laws of their parts.
use Rattle.std.proofs.Common.{◌≡◌, ◌⊎◌, ℕ, List, Bool, true, false, Result, Ok, Err, IfOk, IfErr, OnOk, inl, inr, refl, sym, ap, subst, ◌∙◌}
use Rattle.classic_tree.specs.Writing.{document_text}
use Rattle.classic_tree.specs.declared.tree.Document.{Document}
use Rattle.classic_text.specs.Reading.{memory, read_text}
use Rattle.classic_text.specs.declared.fault.ReadFault.{ReadFault}
use Rattle.classic_lenient.specs.Lenient.{IsUnreadable}
use Rattle.proto_flat.specs.declared.fault.ExpandFault.{ExpandFault}
use Rattle.proto_flat.specs.declared.flat.Flat.{Flat}
use Rattle.proto_meaning.specs.Flat.{flat}
use Rattle.app_jobs.specs.Faults.{of_read, of_expand}
use Rattle.app_jobs.specs.declared.fault.JobFault.{JobFault}
use Rattle.app_jobs.specs.declared.fault.JobFault.TheVariants.{Memory}
use Rattle.app_program.specs.Opening.{next, same, good, built, flattened, opened, opened_document}
use Rattle.app_program.specs.declared.open.OpenedScene.{OpenedScene}
use Rattle.app_part.specs.Laws.{PartsAreTheirParts, RefusalsAreLimits, ScenesAreRefusedAsTexts, ScenesAreTheirParts}
use Rattle.app_part.specs.Mends.{is_limit}
use Rattle.app_part.specs.Parts.{IsGood, IsBad, no_text}
use Rattle.app_part.specs.Whole.{IsAnother, IsAnswer, IsLessPart, IsNoPartsText, IsNoScene, IsPartOfText, IsRefused, IsScene, IsUnread, IsWhole, says_memory}
use Rattle.app_part.specs.declared.part.ScenePart.{ScenePart}

-- ---- a text is opened as its document

flat_first : (r : Result Flat ExpandFault) → next same (next of_expand r good) built ≡ next of_expand r built
flat_first (Ok f) = refl
flat_first (Err e) = refl

pub opened_by : (text : List ℕ) (d : Document) → read_text text ≡ Ok d → opened text ≡ opened_document d
unfolding opened flattened opened_document
opened_by text d read =
    ap (λ (r : Result Document ReadFault). next same (next of_read r (λ e. next of_expand (flat e) good)) built) read
    ∙ flat_first (flat d)

pub unread : (text : List ℕ) (e : ReadFault) → read_text text ≡ Err e → opened text ≡ Err (of_read e)
unfolding opened flattened
unread text e read =
    ap (λ (r : Result Document ReadFault). next same (next of_read r (λ d. next of_expand (flat d) good)) built) read

pub no_scene_of : (text : List ℕ) (d : Document) (fault : JobFault) → read_text text ≡ Ok d → IsBad d fault → IsNoScene text fault
no_scene_of text d fault read bad = opened_by text d read ∙ bad

pub is_scene : (text : List ℕ) (d : Document) → read_text text ≡ Ok d → document_text d ≡ text → IsGood d → IsScene text
is_scene text d read same good = record {
  scene = good.scene;
  opened = opened_by text d read ∙ good.opened;
  stays = record { document = d; read = read; same = same };
}

-- ---- whether a text is a scene

pub scene_if : {E : Type 0} (text : List ℕ) (d : Document) (r : Result (Unit {0}) E) → read_text text ≡ Ok d
    → OnOk r (document_text d ≡ text) → OnOk r (IsGood d) → OnOk r (IsScene text)
scene_if text d (Ok u) read same good = is_scene text d read same good
scene_if text d (Err e) read same good = tt

-- why the text of a part is no scene
pub no_scene_if : {X : Type 0} (text : List ℕ) (d : Document) (r : Result X JobFault) → read_text text ≡ Ok d
    → IfErr r (λ f. (f ≡ Memory) ⊎ (IsAnother d text f ⊎ IsAnswer (IsBad d) f))
    → IfErr r (λ f. (f ≡ Memory) ⊎ IsNoPartsText text f)
no_scene_if text d (Ok u) read why = tt
no_scene_if text d (Err f) read (inl none) = inl none
no_scene_if text d (Err f) read (inr (inl another)) = inr (inl (record { document = d; read = read; another = another }))
no_scene_if text d (Err f) read (inr (inr (inl limit))) = inr (inr (inl (no_scene_of text d f read limit.0, limit.1)))
no_scene_if text d (Err f) read (inr (inr (inr other))) =
    inr (inr (inr (other.0, no_scene_of text d other.0 read other.1, other.2, other.3)))

unread_fault : (text : List ℕ) (e : ReadFault) (first : JobFault) → read_text text ≡ Err e → first ≡ of_read e → IsNoScene text first
unread_fault text e first read is = unread text e read ∙ ap (λ (g : JobFault). let r : Result OpenedScene JobFault = Err g in r) (sym is)

pub unread_if : (text : List ℕ) (e : ReadFault) (first f : JobFault) → (e ≡ memory) ⊎ (read_text text ≡ Err e) → first ≡ of_read e
    → ((f ≡ first) × (is_limit first ≡ true)) ⊎ ((f ≡ no_text) × (is_limit first ≡ false))
    → (f ≡ Memory) ⊎ IsNoPartsText text f
unread_if text e first f (inl none) is (inl same) = inl (same.0 ∙ is ∙ ap of_read none)
unread_if text e first f (inl none) is (inr off) = absurd (memory_is_limit (sym (ap is_limit (is ∙ ap of_read none)) ∙ off.1))
  where
    memory_is_limit : true ≡ false → ⊥
    memory_is_limit e = cc
unread_if text e first f (inr read) is (inl same) =
    inr (inr (inl (
      subst (λ g. IsNoScene text g) (sym same.0) (unread_fault text e first read is),
      ap is_limit same.0 ∙ same.1,
    )))
unread_if text e first f (inr read) is (inr off) = inr (inr (inr (first, unread_fault text e first read is, off.1, off.0)))

-- the answer for a document that is no scene
pub answer_if : (d : Document) (first f : JobFault) → (first ≡ Memory) ⊎ IsBad d first
    → ((f ≡ first) × (is_limit first ≡ true)) ⊎ ((f ≡ no_text) × (is_limit first ≡ false))
    → (f ≡ Memory) ⊎ IsAnswer (IsBad d) f
answer_if d first f (inl none) (inl same) = inl (same.0 ∙ none)
answer_if d first f (inl none) (inr off) = absurd (memory_is_limit (sym (ap is_limit none) ∙ off.1))
  where
    memory_is_limit : true ≡ false → ⊥
    memory_is_limit e = cc
answer_if d first f (inr bad) (inl same) = inr (inl (subst (λ g. IsBad d g) (sym same.0) bad, ap is_limit same.0 ∙ same.1))
answer_if d first f (inr bad) (inr off) = inr (inr (first, bad, off.1, off.0))

-- ---- a scene, and a text that is none

pub not_both : {X Y : Type 0} (x : X) (y : Y) → Ok x ≡ Err y → ⊥
not_both x y e = cc

pub whole_made : (text : List ℕ) (scene : OpenedScene) (r : Result ScenePart JobFault) → opened text ≡ Ok scene
    → IfOk r (IsWhole text) → IfOk r (IsPartOfText text)
whole_made text scene (Ok part) is whole = inl (record { scene = scene; opened = is; whole = whole })
whole_made text scene (Err f) is whole = tt

pub whole_refused : (text : List ℕ) (scene : OpenedScene) (r : Result ScenePart JobFault) → opened text ≡ Ok scene
    → IfErr r (λ f. (f ≡ Memory) ⊎ IsUnread text f) → IfErr r (IsRefused text)
whole_refused text scene (Ok part) is why = tt
whole_refused text scene (Err f) is (inl none) = inl none
whole_refused text scene (Err f) is (inr no_text) = absurd (not_both scene (of_read no_text.0) (sym is ∙ unread text no_text.0 no_text.1))

-- the fault of a text, which isn't that of memory
pub first_fault : (text : List ℕ) (f : JobFault) (asked : Bool) → (f ≡ Memory) ⊎ (opened text ≡ Err f) → asked ≡ says_memory f → asked ≡ false
    → opened text ≡ Err f
first_fault text f asked (inl none) told off = absurd (differ (sym (ap says_memory none) ∙ sym told ∙ off))
  where
    differ : true ≡ false → ⊥
    differ e = cc
first_fault text f asked (inr is) told off = is

pub less_made : (text : List ℕ) (f : JobFault) (r : Result ScenePart JobFault) → opened text ≡ Err f
    → IfOk r (λ p. opened text ≡ Err f → IsLessPart text p) → IfOk r (IsPartOfText text)
less_made text f (Ok part) is less = inr (less is)
less_made text f (Err g) is less = tt

pub less_refused : (text : List ℕ) (f : JobFault) (r : Result ScenePart JobFault) → opened text ≡ Err f
    → IfErr r (λ g. opened text ≡ Err f → IsRefused text g) → IfErr r (IsRefused text)
less_refused text f (Ok part) is why = tt
less_refused text f (Err g) is why = why is

pub no_document : (text : List ℕ) (e : ReadFault) (f : JobFault) → (e ≡ memory) ⊎ IsUnreadable text e → f ≡ of_read e → IsRefused text f
no_document text e f (inl none) is = inl (is ∙ ap of_read none)
no_document text e f (inr why) is = inr (inl (record { read_fault = e; unreadable = why; is = is }))

-- ---- laws

same_document : (a b : Document) → (let r : Result Document ReadFault = Ok a in r) ≡ Ok b → a ≡ b
same_document a b e = cc

pub scenes_are_their_parts : ScenesAreTheirParts
scenes_are_their_parts text scene made is (inl whole) = whole.whole
scenes_are_their_parts text scene made is (inr less) = absurd (not_both scene less.first (sym is ∙ less.bad))

pub scenes_are_refused_as_texts : ScenesAreRefusedAsTexts
scenes_are_refused_as_texts text scene fault is (inl none) = inl none
scenes_are_refused_as_texts text scene fault is (inr (inl none)) =
    absurd (not_both scene (of_read none.unreadable.0) (sym is ∙ unread text none.unreadable.0 none.unreadable.1))
scenes_are_refused_as_texts text scene fault is (inr (inr (inl stuck))) = absurd (not_both scene stuck.first (sym is ∙ stuck.bad))
scenes_are_refused_as_texts text scene fault is (inr (inr (inr no_text))) = inr no_text

pub parts_are_their_parts : PartsAreTheirParts
parts_are_their_parts first second scene part =
    let w : IsWhole first.text.items second = scenes_are_their_parts first.text.items scene.scene second scene.opened part in
    record {
      text = w.written ∙ ap document_text (same_document w.document scene.stays.document (sym w.read ∙ scene.stays.read)) ∙ scene.stays.same;
      whole = w;
    }

limited_text : (text : List ℕ) (fault : JobFault) → IsNoPartsText text fault → is_limit fault ≡ true
limited_text text fault (inl read) = ap is_limit read.another.1
limited_text text fault (inr (inl limit)) = limit.1
limited_text text fault (inr (inr other)) = ap is_limit other.3

pub refusals_are_limits : RefusalsAreLimits
refusals_are_limits text fault (inl none) = inr (ap is_limit none)
refusals_are_limits text fault (inr (inl none)) = inl none
refusals_are_limits text fault (inr (inr (inl has))) = inr has.stuck.stuck.limit
refusals_are_limits text fault (inr (inr (inr no_text))) = inr (limited_text no_text.made.text.items fault no_text.refused)
