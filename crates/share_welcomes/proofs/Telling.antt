-- What the port below records, in version 1.
use Rattle.std.proofs.Common.{◌≡◌, ℕ, true, List, [], ◌∷◌, ◌++◌, refl, ap, sym, ◌∙◌, subst, inl, inr}
use Rattle.std.specs.Prelude.{Option, Some, None, Result, Ok, Err, OnOk, OnErr, is_err}
use Rattle.std.specs.List.{flat_map}
use Rattle.std.specs.Cmp.Lexicographic.{bytes_decides}
use Rattle.std.proofs.lemmas.Grind.{flat_map-append}
use Rattle.share_wire.specs.Datagram.{datagram}
use Rattle.share_wire.specs.declared.message.Message.{Message}
use Rattle.share_session.specs.Decoding as two
use Rattle.share_session.specs.declared.fault.DatagramFault.{DatagramFault}
use Rattle.share_session.specs.declared.message.Hello.{Hello as AHello}
use Rattle.share_session.specs.declared.message.Message2.{Message2}
use Rattle.share_session.specs.declared.message.Message2.TheVariants.{Welcome}
use Rattle.share_turns.specs.Told.{Grows}
use Rattle.share_turns.specs.declared.port.PortFault.{PortFault}
use Rattle.share_turns.specs.declared.traffic.Traffic.{Traffic}
use Rattle.share_turns.specs.declared.traffic.Traffic.TheVariants.{Received, Sent}
use Rattle.share_turns.proofs.Sending.{grows_then}
use Rattle.share_welcomes.specs.declared.host_run.HostRun.{HostRun}
use Rattle.share_welcomes.specs.declared.host_run.Coming.{Coming}
use Rattle.share_welcomes.specs.declared.host_run.Coming.TheVariants.{Plain, Heard, Greets, Strange}
use Rattle.share_welcomes.specs.Answers.{is_said}
use Rattle.share_welcomes.specs.Coming.{welcome_to}
use Rattle.share_welcomes.specs.Learned.{LearnedView, last_boot}
use Rattle.share_welcomes.specs.Passing.{Welcomes, coming_in, handed_on, heard_in, in_one, said_in, sent_in, told_in_one}

abbrev pub sent_text : (peer : ℕ) → List ℕ → Traffic
sent_text peer bytes = Sent (record { peer = peer; bytes = bytes })

abbrev pub received_text : (peer : ℕ) → List ℕ → Traffic
received_text peer bytes = Received (record { peer = peer; bytes = bytes })

abbrev all_in_one : HostRun → List Traffic → List Traffic
all_in_one r xs = flat_map (in_one r) xs

same_one : (r : HostRun) (a b : Option (List Traffic)) (xs ys : List Traffic) → all_in_one r xs ≡ ys → Grows a b xs → Grows (told_in_one r a) (told_in_one r b) ys
same_one r None b xs ys e g = tt
same_one r (Some os) None xs ys e g = absurd g
same_one r (Some os) (Some ns) xs ys e g =
    ap (λ (l : List Traffic). all_in_one r l) g ∙ flat_map-append (in_one r) os xs ∙ ap (λ (l : List Traffic). all_in_one r os ++ l) e

pub grows_one : (r s : HostRun) → s ≡ r → (a b : Option (List Traffic)) (xs ys : List Traffic) → all_in_one r xs ≡ ys → Grows a b xs → Grows (told_in_one r a) (told_in_one s b) ys
grows_one r s same a b xs ys e g =
    subst (λ (z : HostRun). Grows (told_in_one r a) (told_in_one z b) ys) (sym same) (same_one r a b xs ys e g)

-- ---- what is sent

pub on_ok : {A E P Q : Type 0} (result : Result A E) → (P → Q) → OnOk result P → OnOk result Q
on_ok (Ok a) f h = f h
on_ok (Err e) f h = tt

pub on_err : {A E P Q : Type 0} (result : Result A E) → (P → Q) → OnErr result P → OnErr result Q
on_err (Ok a) f h = tt
on_err (Err e) f h = f h

-- what is heard in version 1 is what was given
pub heard_says : (heard : Option Message) (bytes : List ℕ) → is_said heard bytes ≡ true → heard_in heard ≡ bytes ∷ []
heard_says None bytes h = absurd cc
heard_says (Some m) bytes h = ap (λ (t : List ℕ). t ∷ []) ((bytes_decides (datagram m) bytes).0 h)

plain_says : (r : HostRun) (bytes : List ℕ) (result : Result Message2 DatagramFault) → is_err result ≡ true → said_in r bytes result ≡ bytes ∷ []
plain_says r bytes (Ok m) h = absurd cc
plain_says r bytes (Err fault) h = refl

pub sent_says : (r : HostRun) (peer : ℕ) (text bytes : List ℕ) → said_in r text (two.decoded text) ≡ bytes ∷ [] → all_in_one r (sent_text peer text ∷ []) ≡ sent_text peer bytes ∷ []
sent_says r peer text bytes e = ap (λ (texts : List (List ℕ)). sent_in peer texts ++ []) e

pub sent_plain : (r : HostRun) (peer : ℕ) (bytes : List ℕ) → is_err (two.decoded bytes) ≡ true → all_in_one r (sent_text peer bytes ∷ []) ≡ sent_text peer bytes ∷ []
sent_plain r peer bytes h = sent_says r peer bytes bytes (plain_says r bytes (two.decoded bytes) h)

-- ---- Welcomes

abbrev its_welcome : HostRun → LearnedView → AHello → Message2
its_welcome r l h = Welcome (welcome_to r h (last_boot h.who l))

pub greeted : (r : HostRun) (l : LearnedView) (peer : ℕ) (h : AHello) (bytes : List ℕ) → two.decoded bytes ≡ Ok (its_welcome r l h)
    → (result : Result (Unit {0}) PortFault) (a b : Option (List Traffic)) → OnOk result (Grows a b (sent_text peer bytes ∷ [])) → OnErr result (Grows a b [])
    → (sent : List Traffic) × Welcomes r l peer (Greets h) sent × Grows a b sent
greeted r l peer h bytes e (Ok done) a b ok err = (sent_text peer bytes ∷ [], inr (bytes, e, refl), ok)
greeted r l peer h bytes e (Err fault) a b ok err = ([], inl refl, err)

-- no peer of the run hears a Welcome
unheard_welcome : (r : HostRun) (l : LearnedView) (peer : ℕ) (h : AHello) (bytes : List ℕ) → two.decoded bytes ≡ Ok (its_welcome r l h) → all_in_one r (sent_text peer bytes ∷ []) ≡ []
unheard_welcome r l peer h bytes e = ap (λ (result : Result Message2 DatagramFault). sent_in peer (said_in r bytes result) ++ []) e

unseen : (r : HostRun) (l : LearnedView) (peer : ℕ) (coming : Coming) (sent : List Traffic) → Welcomes r l peer coming sent → all_in_one r sent ≡ []
unseen r l peer Plain sent w = ap (λ (xs : List Traffic). all_in_one r xs) w
unseen r l peer (Heard m) sent w = ap (λ (xs : List Traffic). all_in_one r xs) w
unseen r l peer Strange sent w = ap (λ (xs : List Traffic). all_in_one r xs) w
unseen r l peer (Greets h) sent (inl none) = ap (λ (xs : List Traffic). all_in_one r xs) none
unseen r l peer (Greets h) sent (inr w) = ap (λ (xs : List Traffic). all_in_one r xs) w.2 ∙ unheard_welcome r l peer h w.0 w.1

-- a datagram came, and perhaps a Welcome was sent
pub received_one : (r s : HostRun) → s ≡ r → (l : LearnedView) (peer : ℕ) (came handed : List ℕ) (a mid b : Option (List Traffic)) (sent : List Traffic)
    → Grows a mid (received_text peer came ∷ []) → handed ≡ handed_on r came → Welcomes r l peer (coming_in r came) sent → Grows mid b sent
    → Grows (told_in_one r a) (told_in_one s b) (received_text peer handed ∷ [])
received_one r s same l peer came handed a mid b sent got e w g =
    let first : List Traffic = received_text peer (handed_on r came) ∷ [] in
    let none : all_in_one r sent ≡ [] = unseen r l peer (coming_in r came) sent w in
    let all : all_in_one r (received_text peer came ∷ sent) ≡ received_text peer handed ∷ [] =
    ap (λ (xs : List Traffic). first ++ xs) none ∙ ap (λ (t : List ℕ). received_text peer t ∷ []) (sym e) in
    grows_one r s same a b (received_text peer came ∷ sent) (received_text peer handed ∷ []) all (grows_then a mid b (received_text peer came ∷ []) sent got g)
