-- What a turn answers after its calls, one call after another.
use Rattle.std.proofs.Common.{◌≡◌, ℕ, ◌+◌, Bool, true, false, List, [], ◌∷◌, ◌++◌, ap, sym, ◌∙◌, subst, append_assoc, append-nil}
use Rattle.std.specs.Prelude.{Result, Ok, Err, OnErr, is_err, replicate}
use Rattle.std.proofs.lemmas.List.{replicate-append-replicate}
use Rattle.share_turns.specs.declared.fault.TurnFault.{TurnFault}
use Rattle.share_turns.specs.declared.fault.TurnFault.TheVariants as turn_fault
use Rattle.share_turns.specs.Refusals.{IsAnswerAfter}

abbrev pub went_on : Result (Unit {0}) TurnFault
went_on = Ok tt

both_had : (n k : ℕ) (before after : List Bool) → before ≡ replicate n false → after ≡ replicate k false → before ++ after ≡ replicate (n + k) false
both_had n k before after e f =
    ap (λ (xs : List Bool). xs ++ after) e ∙ ap (λ (xs : List Bool). replicate n false ++ xs) f ∙ replicate-append-replicate n k false

last_had_none : (n k : ℕ) (before after : List Bool) → before ≡ replicate n false → after ≡ replicate k false ++ true ∷ []
    → before ++ after ≡ replicate (n + k) false ++ true ∷ []
last_had_none n k before after e f =
    ap (λ (xs : List Bool). xs ++ after) e ∙ ap (λ (xs : List Bool). replicate n false ++ xs) f
    ∙ sym (append_assoc (replicate n false) (replicate k false) (true ∷ [])) ∙ ap (λ (xs : List Bool). xs ++ true ∷ []) (replicate-append-replicate n k false)

-- after calls that had memory, and then others
pub answered_then : {A : Type 0} (before after : List Bool) (result : Result A TurnFault) → IsAnswerAfter before went_on → IsAnswerAfter after result
    → IsAnswerAfter (before ++ after) result
answered_then before after (Ok x) b a = (b.0 + a.0, both_had b.0 a.0 before after b.1 a.1)
answered_then before after (Err turn_fault.Port) b a = (b.0 + a.0, both_had b.0 a.0 before after b.1 a.1)
answered_then before after (Err turn_fault.Spoiled) b a = absurd a
answered_then before after (Err turn_fault.Memory) b a = (b.0 + a.0, last_had_none b.0 a.0 before after b.1 a.1)

-- after calls that had memory, where none other is refused it
pub answered_at_once : {A : Type 0} (before : List Bool) (result : Result A TurnFault) → IsAnswerAfter before went_on → IsAnswerAfter [] result
    → IsAnswerAfter before result
answered_at_once before result b a =
    subst (λ (xs : List Bool). IsAnswerAfter xs result) (append-nil before) (answered_then before [] result b a)

-- after one call
pub answered_one : (refused : Bool) (result : Result (Unit {0}) TurnFault) → is_err result ≡ refused → OnErr result (result ≡ Err turn_fault.Memory)
    → IsAnswerAfter (refused ∷ []) result
answered_one refused (Ok x) e memory = (1, ap (λ (b : Bool). b ∷ []) (sym e))
answered_one refused (Err turn_fault.Port) e memory = absurd (cc)
answered_one refused (Err turn_fault.Spoiled) e memory = absurd (cc)
answered_one refused (Err turn_fault.Memory) e memory = (0, ap (λ (b : Bool). b ∷ []) (sym e))

-- whatever a turn that ended early was to answer
pub answer_kept : (fault : TurnFault) (refusals : List Bool) → IsAnswerAfter {A = Unit {0}} refusals (Err fault) → IsAnswerAfter {A = Bool} refusals (Err fault)
answer_kept turn_fault.Port refusals a = a
answer_kept turn_fault.Spoiled refusals a = a
answer_kept turn_fault.Memory refusals a = a
