-- What is written of a scene is written the same again.
use Rattle.std.proofs.Common.{◌≡◌, ◌≤◌, ◌^◌, ℕ, List, Ok, Err, length, refl, sym, ap, subst, ◌∙◌, append-nil}
use Rattle.classic_tree.specs.Writing.{document_text}
use Rattle.classic_tree.specs.declared.tree.Document.{Document}
use Rattle.classic_text.specs.Spells.{Spells}
use Rattle.classic_text.proofs.Documents.{is_read}
use Rattle.classic_round_trip.specs.Again.{IsWrittenAgain, TextsStay}
use Rattle.classic_round_trip.specs.AnyLength.{SpellsAtAnyLength}
use Rattle.classic_round_trip.specs.Spellable.{IsSpellable}
use Rattle.app_jobs.specs.Faults.{of_read}
use Rattle.app_jobs.specs.declared.fault.JobFault.{JobFault}
use Rattle.app_program.specs.Opening.{next}
use Rattle.app_program.specs.Formatting.{FormattedTextsStay, IsFormattedAlike, document_of}

-- a text that spells a document is that document's, and no fault
is_document : (text : List ℕ) (d : Document) → Spells text d → document_of text ≡ Ok d
is_document text d h = ap (λ r. next of_read r (λ (x : Document). Ok x)) (is_read text d h)

not_both : (d : Document) (fault : JobFault) → Ok d ≡ Err fault → ⊥
not_both d fault e = cc

module _ (spellable : (text : List ℕ) (d : Document) → Spells text d → IsSpellable d)
    (written_so : (d : Document) → IsSpellable d → SpellsAtAnyLength (document_text d) d) where
  alike : (text : List ℕ) → IsWrittenAgain text → IsFormattedAlike text
  alike text w = record {
    same = record {
      document = w.document;
      read = record { bytes = text; consumed = sym (append-nil text); ended = refl; spelled = w.spelled };
      written = sym (w.same w.document w.spelled);
      again = written_so w.document (spellable text w.document w.spelled);
    };
    only = λ other h.
        let whole : h.read.bytes ≡ text = sym (h.read.consumed ∙ append-nil h.read.bytes) in
        h.written ∙ w.same h.document (subst (λ (t : List ℕ). Spells t h.document) whole h.read.spelled);
    taken = λ fault h.
        let whole : h.bytes ≡ text = sym (h.consumed ∙ append-nil h.bytes) in
        not_both w.document fault (sym (is_document text w.document w.spelled) ∙ ap document_of (sym whole) ∙ h.refused);
  }

  pub texts_stay : TextsStay → FormattedTextsStay
  texts_stay stay text written h size =
      let is : written ≡ document_text h.document = h.written in
      let few : length (document_text h.document) ≤ 2 ^ 24 = rw is at size in
      subst IsFormattedAlike (sym is) (alike (document_text h.document) (stay h.document (spellable h.read.bytes h.document h.read.spelled) few))
