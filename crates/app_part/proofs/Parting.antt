-- From the answers of one call to those of the next.
use Rattle.std.proofs.Common.{◌≡◌, ◌⊎◌, ℕ, List, Option, Result, Ok, Err, IfOk, IfErr, inl, inr, refl, sym, subst}
use Rattle.std.specs.Option.{option_map}
use Rattle.std.specs.List.Sorted.{IsPermutation, IsNonDecreasingBy}
use Rattle.classic_lenient.specs.Lenient.{IsLenient}
use Rattle.classic_lenient.specs.declared.reading.Lenient.{Lenient}
use Rattle.classic_part.specs.declared.notes.Note.{Note}
use Rattle.app_jobs.specs.declared.fault.JobFault.{JobFault}
use Rattle.app_jobs.specs.declared.fault.JobFault.TheVariants.{Memory}
use Rattle.app_part.specs.Apart.{IsPlaced}
use Rattle.app_part.specs.Order.{AreByPlace, IsOrdered, note_place}
use Rattle.app_part.specs.Kept.{IsFirstLost, IsLostOf, IsSaid}
use Rattle.app_part.specs.Streams.{AreKeptTexts, AreShown, ArePartTexts, IsOrderedPart}
use Rattle.app_part.specs.Whole.{HasNoPartOf, IsLessPart, IsNoPartsText, IsPartOf, IsPartOfLenient, IsPartOfText, IsScene, IsNoScene, IsRefused, IsUnmended}
use Rattle.app_part.specs.declared.part.ScenePart.{ScenePart}
use Rattle.app_part.specs.declared.places.Placed.{Placed}
use Rattle.app_part.specs.declared.streams.KeptTexts.{KeptTexts}
use Rattle.app_part.specs.declared.streams.PartTexts.{PartTexts}

-- the notes as a list, sorted as a list, as notes again
pub by_place_of : (notes old new made : List Note) → old ≡ notes → made ≡ new
    → IsPermutation old new → IsNonDecreasingBy note_place new → AreByPlace notes made
by_place_of notes old new made from is same order =
    subst (λ r. AreByPlace notes r) (sym is)
    (subst (λ o. AreByPlace o new) from (record { same = same; order = order }))

-- a text of whose part something is left out, or that has no part
pub lesser : (text : List ℕ) (first : JobFault) (lenient : Lenient) (r : Result ScenePart JobFault) → IsLenient text lenient
    → IfOk r (IsPartOfLenient text lenient) → IfOk r (λ p. IsNoScene text first → IsLessPart text p)
lesser text first lenient (Ok part) read is =
    λ bad. record { first = first; bad = bad; lenient = lenient; read = read; part = is }
lesser text first lenient (Err f) read is = tt

pub unmended : (text : List ℕ) (first : JobFault) (lenient : Lenient) (r : Result ScenePart JobFault) → IsLenient text lenient
    → IfErr r (HasNoPartOf text lenient) → IfErr r (λ f. IsNoScene text first → IsRefused text f)
unmended text first lenient (Ok part) read why = tt
unmended text first lenient (Err f) read (inl none) = λ bad. inl none
unmended text first lenient (Err f) read (inr stuck) =
    λ bad. inr (inr (inl (record { first = first; bad = bad; lenient = lenient; read = read; stuck = stuck })))

-- the part of a tree with places, or why it has none
pub lenient_made : (text : List ℕ) (lenient : Lenient) (placed : Placed) (r : Result ScenePart JobFault) → IsPlaced text lenient placed
    → IfOk r (IsPartOf placed) → IfOk r (IsPartOfLenient text lenient)
lenient_made text lenient placed (Ok part) has is = record { placed = placed; has = has; part = is }
lenient_made text lenient placed (Err f) has is = tt

pub lenient_refused : (text : List ℕ) (lenient : Lenient) (placed : Placed) (r : Result ScenePart JobFault) → IsPlaced text lenient placed
    → IfErr r (IsUnmended placed.lenient.document) → IfErr r (HasNoPartOf text lenient)
lenient_refused text lenient placed (Ok part) has why = tt
lenient_refused text lenient placed (Err f) has (inl none) = inl none
lenient_refused text lenient placed (Err f) has (inr stuck) = inr (record { placed = placed; has = has; stuck = stuck })

-- a part whose text is refused
pub refused_check : (text : List ℕ) (part : ScenePart) (r : Result ScenePart JobFault) → IsPartOfText text part
    → IfErr r (λ f. (f ≡ Memory) ⊎ IsNoPartsText part.text.items f) → IfErr r (IsRefused text)
refused_check text part (Ok made) is why = tt
refused_check text part (Err f) is (inl none) = inl none
refused_check text part (Err f) is (inr refused) = inr (inr (inr (record { made = part; part = is; refused = refused })))

same_items : (shown part : ScenePart) → shown.text ≡ part.text → shown.text.items ≡ part.text.items
same_items shown part same = rw same refl

pub ordered_part : (bytes : List ℕ) (part shown : ScenePart) → IsPartOfText bytes part → IsScene part.text.items → IsOrdered part shown
    → IsOrderedPart bytes shown
ordered_part bytes part shown is scene ordered = record {
  part = part;
  is = is;
  ordered = ordered;
  scene = subst (λ t. IsScene t) (sym (same_items shown part ordered.text)) scene;
}

-- the texts of a part whose text is a scene
pub part_texts : (bytes : List ℕ) (shown : ScenePart) (r : Result PartTexts JobFault) → IsOrderedPart bytes shown
    → IfOk r (AreShown shown) → IfOk r (ArePartTexts bytes)
part_texts bytes shown (Err f) part texts = tt
part_texts bytes shown (Ok made) part texts = record { shown = shown; part = part; texts = texts }

pub kept_texts : (bytes names : List ℕ) (shown : ScenePart) (told : Option (List ℕ)) (r : Result KeptTexts JobFault) → IsOrderedPart bytes shown
    → IsLostOf shown names told → IfOk r (λ k. AreShown shown k.texts)
    → IfOk r (λ k. option_map (λ v. v.items) k.lost ≡ told) → IfOk r (AreKeptTexts bytes names)
kept_texts bytes names shown told (Err f) part lost texts same = tt
kept_texts bytes names shown told (Ok made) part lost texts same = record {
  shown = shown;
  part = part;
  texts = texts;
  lost = subst (λ t. IsLostOf shown names t) (sym same) lost;
}

pub lost_of : {V : Type 0} (view : V → List ℕ) (names : List ℕ) (part : ScenePart) (lost : Option (List ℕ)) (r : Result (Option V) JobFault)
    → IsFirstLost part.text.items names lost → IfOk r (λ told. IsSaid part lost (option_map view told))
    → IfOk r (λ told. IsLostOf part names (option_map view told))
lost_of view names part lost (Err f) first said = tt
lost_of view names part lost (Ok told) first said = record { lost = lost; first = first; said = said }
