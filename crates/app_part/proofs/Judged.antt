-- What is at fault in a document, by its flat form; and the tree of a text with its tokens apart.
use Rattle.std.proofs.Common.{◌≡◌, ◌⊎◌, ℕ, List, Option, Some, None, Result, Ok, Err, IfOk, IfErr, OnOk, inl, inr, sym, ap, ◌∙◌}
use Rattle.std.specs.Prelude.{IfSome}
use Rattle.classic_tree.specs.declared.tree.Document.{Document}
use Rattle.proto_flat.specs.Fault.{memory}
use Rattle.proto_flat.specs.declared.fault.ExpandFault.{ExpandFault}
use Rattle.proto_flat.specs.declared.flat.Flat.{Flat}
use Rattle.proto_meaning.specs.Flat.{flat}
use Rattle.scene_faults.specs.Faults.{flat_blames}
use Rattle.scene_faults.specs.Texts.{text_blames}
use Rattle.scene_faults.specs.declared.blame.Blame.{Blame}
use Rattle.app_jobs.specs.Faults.{of_expand}
use Rattle.app_jobs.specs.declared.fault.JobFault.{JobFault}
use Rattle.app_jobs.specs.declared.fault.JobFault.TheVariants.{Memory}
use Rattle.app_program.specs.Opening.{built, next, opened_document}
use Rattle.app_program.specs.declared.open.OpenedScene.{OpenedScene}
use Rattle.app_part.specs.Apart.{IsApart, IsNumberedAs, IsOfApart}
use Rattle.app_part.specs.Judging.{IsGood, IsToldBad, blames_of}
use Rattle.app_part.specs.declared.apart.Apart.{Apart}
use Rattle.app_part.specs.declared.judging.Refused.{Refused}
use Rattle.app_part.specs.declared.places.Placed.{Placed}

expanded : (d : Document) (f : Flat) → flat d ≡ Ok f → opened_document d ≡ built f
unfolding opened_document
expanded d f is = ap (λ (r : Result Flat ExpandFault). next of_expand r built) is

refused : (d : Document) (e : ExpandFault) → flat d ≡ Err e → opened_document d ≡ Err (of_expand e)
unfolding opened_document
refused d e is = ap (λ (r : Result Flat ExpandFault). next of_expand r built) is

pub good_if : (d : Document) (f : Flat) (r : Result (Unit {0}) Refused) → flat d ≡ Ok f
    → OnOk r ((scene : OpenedScene) × (built f ≡ Ok scene)) → OnOk r (IsGood d)
good_if d f (Ok u) is good = record { scene = good.0; opened = expanded d f is ∙ good.1 }
good_if d f (Err e) is good = tt

pub bad_if : (d : Document) (f : Flat) (r : Result (Unit {0}) Refused) → flat d ≡ Ok f
    → IfErr r (λ x. (x.fault ≡ Memory) ⊎ ((built f ≡ Err x.fault) × (x.blames ≡ flat_blames f)))
    → IfErr r (λ x. (x.fault ≡ Memory) ⊎ IsToldBad d x.fault x.blames)
bad_if d f (Ok u) is bad = tt
bad_if d f (Err x) is (inl none) = inl none
bad_if d f (Err x) is (inr bad) = inr (record { opened = expanded d f is ∙ bad.0; told = bad.1 ∙ sym (ap (blames_of d) is) })

pub unexpanded : (d : Document) (e : ExpandFault) (f : JobFault) (r : Refused) (blames : List Blame) → (e ≡ memory) ⊎ (flat d ≡ Err e)
    → f ≡ of_expand e → (r.fault ≡ f) × (r.blames ≡ blames) → blames ≡ text_blames d → (r.fault ≡ Memory) ⊎ IsToldBad d r.fault r.blames
unexpanded d e f r blames (inl none) is same told = inl (same.0 ∙ is ∙ ap of_expand none)
unexpanded d e f r blames (inr bad) is same told =
    inr (record {
      opened = refused d e bad ∙ ap (λ (g : JobFault). let r : Result OpenedScene JobFault = Err g in r) (sym (same.0 ∙ is));
      told = same.1 ∙ told ∙ sym (ap (blames_of d) bad);
    })

pub numbered_made : {E : Type 0} (text : List ℕ) (document : Document) (made : Apart) (r : Result (Option Placed) E) → IsApart text made
    → IfOk r (λ o. IfSome o (IsOfApart made document)) → IfOk r (λ o. IfSome o (IsNumberedAs text document))
numbered_made text document made (Err e) is tree = tt
numbered_made text document made (Ok None) is tree = tt
numbered_made text document made (Ok (Some placed)) is tree = record { apart = made; is = is; tree = tree }
