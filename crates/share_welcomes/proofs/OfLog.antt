-- What a port knows stays that of the log whose entries it learns, and so is what it sends.
use Rattle.std.proofs.Common.{◌≡◌, ℕ, zero, suc, ◌-◌, ◌+◌, ◌<◌, ◌≤◌, List, [], ◌∷◌, ◌++◌, length, take, drop, Option, Some, None, refl, sym, ap, subst, ◌∙◌, arith}
use Rattle.std.specs.Prelude.{IfSome, Result, Ok, Err, nat_le, nat_lt, slice_get, unwrap_or}
use Rattle.std.specs.Option.{option_map}
use Rattle.std.proofs.lemmas.Bool.{cond_both, leb-false, leb-true, ltb-false}
use Rattle.std.proofs.lemmas.List.{append_assoc, length-append, length-take-le, take-append-drop}
use Rattle.std.proofs.lemmas.List.Sums.{fold-append}
use Rattle.std.proofs.lemmas.Option.{slice_get_within}
use Rattle.share_wire.specs.Decoding as one
use Rattle.share_wire.specs.declared.fault.WireFault.{WireFault}
use Rattle.share_wire.specs.declared.message.Body.{Body}
use Rattle.share_wire.specs.declared.message.Body.TheVariants as body
use Rattle.share_wire.specs.declared.message.Message.{Message}
use Rattle.share_entries.specs.Entry.{EntryView}
use Rattle.share_entries.specs.Chain.{link, chain_after}
use Rattle.share_session.specs.Follows.{IsOfLog}
use Rattle.share_session.specs.declared.message.Body2.{Body2}
use Rattle.share_session.specs.declared.message.Body2.TheVariants.{Input, Piece}
use Rattle.share_session.specs.declared.message.Message2.TheVariants.{Said}
use Rattle.share_welcomes.specs.declared.host_run.HostRun.{HostRun}
use Rattle.share_welcomes.specs.Answers.{body_in_two, chained, message_in_two, said, says}
use Rattle.share_welcomes.specs.Learned.{LearnedView, boot_noted, boots_after, chain_at, chain_in, gone_below, input_at, input_in, input_of, is_due, learned_more, no_boots, none_learned, without}
use Rattle.share_welcomes.specs.Laws.{BeginsOfLog, DropsOfLog, IsBodyOfLog, IsChainAt, IsLearnedOf, IsSaidOfLog, LearnsOfLog, SendsOfLog}

-- ---- it stays that

pub begins_of_log : BeginsOfLog
begins_of_log run = record { old = []; split = refl; many = refl; chain = refl; boots = refl }

pub learns_of_log : LearnsOfLog
learns_of_log log es l is = record {
  old = is.old;
  split = ap (λ (xs : List EntryView). xs ++ es) is.split ∙ append_assoc is.old l.entries es;
  many = is.many;
  chain = is.chain;
  boots = ap (λ (b : List ℕ). boots_after b es) is.boots ∙ sym (fold-append boot_noted no_boots log es);
}

without_of_log : (log : List EntryView) (l : LearnedView) (gone : ℕ) → gone ≤ length l.entries → IsLearnedOf log l → IsLearnedOf log (without l gone)
without_of_log log l gone within is =
    let went : List EntryView = take gone l.entries in
    record {
      old = is.old ++ went;
      split = is.split ∙ ap (λ (xs : List EntryView). is.old ++ xs) (sym (take-append-drop gone l.entries)) ∙ sym (append_assoc is.old went (drop gone l.entries));
      many = omega (arith, length-append is.old went, length-take-le gone l.entries within, is.many);
      chain = ap (λ (c : List ℕ). chain_after c went) is.chain ∙ sym (fold-append link l.run is.old went);
      boots = is.boots;
    }

pub drops_of_log : DropsOfLog
drops_of_log log l floor is =
    let gone : ℕ = gone_below floor l in
    let within : gone ≤ length l.entries = omega arith in
    cond_both (is_due gone (length l.entries)) (without l gone) l (λ (v : LearnedView). IsLearnedOf log v) (λ _. without_of_log log l gone within is) (λ _. is)

-- ---- the input of a number

some_is : {A : Type 0} (x y : A) → Some x ≡ Some y → x ≡ y
some_is x y e = ap (λ o. unwrap_or o x) e

split_at : (es : List EntryView) (n : ℕ) (e : EntryView) → slice_get es n ≡ Some e → es ≡ take n es ++ e ∷ drop (suc n) es
split_at [] zero e h = absurd cc
split_at [] (suc n) e h = absurd cc
split_at (x ∷ xs) zero e h = ap (λ (z : EntryView). z ∷ xs) (some_is x e h)
split_at (x ∷ xs) (suc n) e h = ap (λ (l : List EntryView). x ∷ l) (split_at xs n e h)

input_of_log : (log : List EntryView) (l : LearnedView) → IsLearnedOf log l → (number : ℕ) → l.dropped < number → (o : Option EntryView) → slice_get l.entries (number - 1 - l.dropped) ≡ o
    → IfSome (input_of l number (number - 1 - l.dropped) o) (IsOfLog l.run log)
input_of_log log l is number past None at = tt
input_of_log log l is number past (Some e) at =
    let place : ℕ = number - 1 - l.dropped in
    let front : List EntryView = take place l.entries in
    let here : place < length l.entries = slice_get_within l.entries place e at in
    record {
      before = is.old ++ front;
      after = drop (suc place) l.entries;
      log_is = is.split ∙ ap (λ (xs : List EntryView). is.old ++ xs) (split_at l.entries place e at) ∙ sym (append_assoc is.old front (e ∷ drop (suc place) l.entries));
      number = omega (arith, length-append is.old front, length-take-le place l.entries (omega (arith, here)), is.many, past);
      chain = ap (λ (c : List ℕ). chain_after c front) is.chain ∙ sym (fold-append link l.run is.old front);
    }

inputs_of_log : (log : List EntryView) (l : LearnedView) → IsLearnedOf log l → (number : ℕ) → IfSome (input_at l number) (IsOfLog l.run log)
inputs_of_log log l is number =
    cond_both (nat_le number l.dropped) None (input_in l number (number - 1 - l.dropped)) (λ o. IfSome o (IsOfLog l.run log)) (λ _. tt)
    (λ e. input_of_log log l is number (leb-false number l.dropped e) (slice_get l.entries (number - 1 - l.dropped)) refl)

-- ---- the chain after the first entries

take_past : (xs ys : List EntryView) (n : ℕ) → take (length xs + n) (xs ++ ys) ≡ xs ++ take n ys
take_past [] ys n = ap (λ (k : ℕ). take k ys) (omega arith)
take_past (x ∷ xs) ys n =
    let next : length (x ∷ xs) + n ≡ suc (length xs + n) = omega arith in
    ap (λ (k : ℕ). take k (x ∷ (xs ++ ys))) next ∙ ap (λ (l : List EntryView). x ∷ l) (take_past xs ys n)

chain_of_log : (log : List EntryView) (l : LearnedView) → IsLearnedOf log l → (n : ℕ) → l.dropped ≤ n → n - l.dropped ≤ length l.entries
    → IsChainAt l.run log n (chain_after l.before (take (n - l.dropped) l.entries))
chain_of_log log l is n above within =
    let place : ℕ = n - l.dropped in
    let front : List EntryView = take place l.entries in
    let first : n ≡ length is.old + place = omega (arith, is.many, above) in
    let taken : take n log ≡ is.old ++ front =
    ap (λ (xs : List EntryView). take n xs) is.split ∙ ap (λ (k : ℕ). take k (is.old ++ l.entries)) first ∙ take_past is.old l.entries place in (
      omega (arith, ap (λ (xs : List EntryView). length xs) is.split, length-append is.old l.entries, is.many, above, within),
      ap (λ (c : List ℕ). chain_after c front) is.chain ∙ sym (fold-append link l.run is.old front) ∙ ap (λ (xs : List EntryView). chain_after l.run xs) (sym taken),
    )

chains_of_log : (log : List EntryView) (l : LearnedView) → IsLearnedOf log l → (n : ℕ) → IfSome (chain_at l n) (IsChainAt l.run log n)
chains_of_log log l is n =
    let place : ℕ = n - l.dropped in
    cond_both (nat_lt n l.dropped) None (chain_in l place) (λ o. IfSome o (IsChainAt l.run log n)) (λ _. tt)
    (λ low. cond_both (nat_le place (length l.entries)) (Some (chain_after l.before (take place l.entries))) None (λ o. IfSome o (IsChainAt l.run log n))
    (λ e. chain_of_log log l is n (ltb-false n l.dropped low) (leb-true place (length l.entries) e)) (λ _. tt))

-- ---- what is sent

mapped : {A B : Type 0} (f : A → B) (o : Option A) (P : B → Type 0) → IfSome o (λ a. P (f a)) → IfSome (option_map f o) P
mapped f None P h = tt
mapped f (Some a) P h = h

body_of_log : (log : List EntryView) (l : LearnedView) → IsLearnedOf log l → (b : Body) → IfSome (body_in_two l b) (IsBodyOfLog l.run log)
body_of_log log l is (body.Input s) = mapped Input (input_at l s.number) (IsBodyOfLog l.run log) (inputs_of_log log l is s.number)
body_of_log log l is (body.Offer o) = tt
body_of_log log l is (body.Ask a) = tt
body_of_log log l is (body.Ack a) = tt
body_of_log log l is (body.Floor f) = tt
body_of_log log l is (body.Piece p) =
    mapped Piece (option_map (chained p) (chain_at l p.applied)) (IsBodyOfLog l.run log)
    (mapped (chained p) (chain_at l p.applied) (λ q. IsBodyOfLog l.run log (Piece q)) (chains_of_log log l is p.applied))

said_of_log : (log : List EntryView) (run : List ℕ) (r : HostRun) (bytes : List ℕ) (o : Option Body2) → IfSome o (IsBodyOfLog run log) → IfSome (said r bytes o) (IsSaidOfLog run log)
said_of_log log run r bytes None h = tt
said_of_log log run r bytes (Some b) h =
    cond_both (says r (Said r.session b) bytes) (Some (Said r.session b)) None (λ o. IfSome o (IsSaidOfLog run log)) (λ _. h) (λ _. tt)

message_of_log : (log : List EntryView) (l : LearnedView) → IsLearnedOf log l → (r : HostRun) (bytes : List ℕ) (m : Result Message WireFault) → IfSome (message_in_two r l bytes m) (IsSaidOfLog l.run log)
message_of_log log l is r bytes (Err fault) = tt
message_of_log log l is r bytes (Ok m) = said_of_log log l.run r bytes (body_in_two l m.body) (body_of_log log l is m.body)

pub sends_of_log : SendsOfLog
sends_of_log log l is r bytes = message_of_log log l is r bytes (one.decoded bytes)

-- ---- a port that begins

pub is_of_all : (run : List ℕ) (log : List EntryView) (l : LearnedView) → l ≡ learned_more (none_learned run) log → IsLearnedOf log l
is_of_all run log l is = subst (λ (v : LearnedView). IsLearnedOf log v) (sym is) (learns_of_log [] log (none_learned run) (begins_of_log run))
