-- Words that `clap` refuses mean nothing.
use Rattle.std.specs.Prelude.{Option, IsSomeAnd}
use Rattle.std.proofs.Common.{◌≡◌, ◌≢◌, ◌⊎◌, ◌∙◌, List, [], ◌∷◌, ap, inl, inr, refl, true}
use Rattle.clap.specs.Words.{App, Row, Text, fault_of, is_simple, is_simple_and_free, subcommand_of, IsAmong, Kinds}
use Rattle.clap.specs.declared.error.ErrorKind.{ErrorKind}
use Rattle.clap.specs.declared.error.ErrorKind.TheVariants as kind
use Rattle.app_words.specs.declared.order.Order.{Order}
use Rattle.app_faults.specs.declared.fault.OrderFault.{OrderFault}
use Rattle.app_faults.specs.declared.fault.OrderFault.TheVariants as fault
use Rattle.app_words.specs.Commands.{program, parted_program, logged_program, served_program, shared_program, hosted_program, local_program, single_program, bare_program}
use Rattle.app_words.specs.Commands.{run_app, format_app, check_app, rehearse_app, agree_app, host_app}
use Rattle.app_words.specs.Commands.{view_app, serve_app, recall_app, part_app, key_app}
use Rattle.app_words.specs.Request.{RequestsNothing}
use Rattle.app_words.specs.Words.{Asks, Means, IsText, IsRefusal, AsksForText, AsksOnlyForText, text_named}

program_is_simple : is_simple_and_free program ≡ true
unfolding program parted_program logged_program served_program shared_program hosted_program local_program single_program bare_program run_app format_app check_app rehearse_app agree_app host_app view_app serve_app recall_app part_app key_app
program_is_simple = refl

program_is_plain : is_simple program ≡ true
unfolding program parted_program logged_program served_program shared_program hosted_program local_program single_program bare_program run_app format_app check_app rehearse_app agree_app host_app view_app serve_app recall_app part_app key_app
program_is_plain = refl

-- words that are taken mean what their command asks for
pub means_by : (a : App) (words : List Text) (rows : Option (Text × List Row)) (o : Order) → a ≡ program
    → (is_simple_and_free a ≡ true → fault_of a words ≡ []) → (is_simple a ≡ true → rows ≡ subcommand_of a words)
    → IsSomeAnd rows (Asks o) → Means words o
means_by a words rows o e kinds found asks =
    let none : fault_of program words ≡ [] = rw e at (kinds (rw e program_is_simple)) in
    let same : rows ≡ subcommand_of program words = rw e at (found (rw e program_is_plain)) in
    record { taken = none; asks = rw same at asks }

pub means_none : (a : App) (words : List Text) (rows : Option (Text × List Row)) → a ≡ program
    → (is_simple a ≡ true → rows ≡ subcommand_of a words) → ((o : Order) → ¬ IsSomeAnd rows (Asks o)) → (o : Order) → ¬ Means words o
means_none a words rows e found none o m =
    let same : rows ≡ subcommand_of program words = rw e at (found (rw e program_is_plain)) in
    none o (rw same m.asks)

none_among : (k : ErrorKind) (ks : Kinds) → ks ≡ [] → IsAmong k ks → ⊥
none_among k ks e h = rw e at h

-- ---- help

-- why `clap` answers an error of this kind
abbrev IsAnswered : App → List Text → ErrorKind → Type 0
IsAnswered a words k = is_simple_and_free a ≡ true → (k ≡ kind.OutOfMemory) ⊎ IsAmong k (fault_of a words)

text_or_none : (k : ErrorKind) → IsText k → k ≡ kind.OutOfMemory → ⊥
text_or_none k (inl help) memory = let bad : kind.DisplayHelp ≡ kind.OutOfMemory = cc in (cc)
text_or_none k (inr version) memory = let bad : kind.DisplayVersion ≡ kind.OutOfMemory = cc in (cc)

pub asked_by : (a : App) (words : List Text) (k : ErrorKind) → a ≡ program → IsAnswered a words k → IsText k → AsksForText words
asked_by a words k e h text =
    elim (h (rw e program_is_simple)) [
      | inl memory ↦ absurd (text_or_none k text memory)
      | inr among ↦ (k, text, rw e at among)
    ]

refused_text : (k other : ErrorKind) → IsRefusal k → IsText other → k ≡ other → ⊥
refused_text k other h (inl help) same = h.0 (same ∙ help)
refused_text k other h (inr version) same = h.1 (same ∙ version)

among_one : (k other : ErrorKind) (ks : Kinds) → ks ≡ other ∷ [] → IsAmong k ks → k ≡ other
among_one k other ks e h = elim (rw e at h) [ inl same ↦ same | inr none ↦ absurd none ]

silent_by : (a : App) (words : List Text) (k : ErrorKind) → a ≡ program → IsAnswered a words k → IsRefusal k → ¬ AsksOnlyForText words
silent_by a words k e h refusal only =
    elim (h (rw e program_is_simple)) [
      | inl memory ↦ refusal.2 memory
      | inr among ↦ refused_text k only.0 refusal only.1 (among_one k only.0 (fault_of a words) (rw e only.2) among)
    ]

pub silent_taken : (a : App) (words : List Text) → a ≡ program → (is_simple_and_free a ≡ true → fault_of a words ≡ []) → ¬ AsksOnlyForText words
silent_taken a words e h only =
    let none : fault_of program words ≡ [] = rw e at (h (rw e program_is_simple)) in
    let one : fault_of program words ≡ only.0 ∷ [] = only.2 in
    let bad : only.0 ∷ [] ≡ [] = cc in
    (cc)

-- words that are refused, and not for memory, ask for nothing
nothing_by : (a : App) (words : List Text) (k : ErrorKind) → a ≡ program → IsAnswered a words k → IsRefusal k → RequestsNothing words
nothing_by a words k e h refusal = (
  λ o m.
      let faults : fault_of a words ≡ [] = rw e m.taken in
      elim (h (rw e program_is_simple)) [ inl memory ↦ refusal.2 memory | inr among ↦ none_among k (fault_of a words) faults among ],
  silent_by a words k e h refusal,
)

pub refused_by : (a : App) (words : List Text) (k : ErrorKind) (f : OrderFault) → a ≡ program → IsAnswered a words k
    → (f ≡ fault.Memory) ⊎ ((f ≡ fault.Words) × IsRefusal k) → (f ≡ fault.Memory) ⊎ ((f ≡ fault.Words) × RequestsNothing words)
refused_by a words k f e h (inl memory) = inl memory
refused_by a words k f e h (inr refused) = inr (refused.0, nothing_by a words k e h refused.1)

-- ---- the text of an option

pub text_found : (a : App) (words : List Text) (id : Text) (rows : Option (Text × List Row)) (text : Option Text) → a ≡ program
    → (is_simple a ≡ true → rows ≡ subcommand_of a words) → text ≡ text_named id rows
    → text ≡ text_named id (subcommand_of program words)
text_found a words id rows text e found named =
    let same : rows ≡ subcommand_of program words = rw e at (found (rw e program_is_plain)) in
    named ∙ ap (text_named id) same

pub text_refused : (a : App) (words : List Text) (k said : ErrorKind) (f : OrderFault) → a ≡ program → IsAnswered a words k → said ≡ k
    → (f ≡ fault.Memory) ⊎ ((f ≡ fault.Words) × (said ≢ kind.OutOfMemory))
    → (f ≡ fault.Memory) ⊎ ((f ≡ fault.Words) × (fault_of program words ≢ []))
text_refused a words k said f e h is (inl memory) = inl memory
text_refused a words k said f e h is (inr refused) = inr (
  refused.0,
  λ none.
      let faults : fault_of a words ≡ [] = rw e none in
      elim (h (rw e program_is_simple)) [
        | inl memory ↦ refused.1 (is ∙ memory)
        | inr among ↦ none_among k (fault_of a words) faults among
      ],
)
