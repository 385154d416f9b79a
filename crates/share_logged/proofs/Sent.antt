-- What is sent for the notes of a turn, one note after another.
use Rattle.std.proofs.Common.{◌≡◌, ℕ, zero, suc, ◌+◌, ◌<◌, Bool, true, false, List, [], ◌∷◌, ◌++◌, length, get_or, take, drop, refl, ap, sym, ◌∙◌, subst, arith, append_assoc, append-nil}
use Rattle.std.specs.Prelude.{Option, IsTrue}
use Rattle.std.proofs.lemmas.Grind.{flat_map-append}
use Rattle.std.proofs.lemmas.List.{map-append}
use Rattle.share_law.specs.Parts.{HostPart}
use Rattle.share_core.specs.Host.{AreNumbered}
use Rattle.share_turns.specs.declared.traffic.Traffic.{Traffic}
use Rattle.share_turns.specs.declared.traffic.Traffic.TheVariants.{Sent}
use Rattle.share_turns.specs.Exchanges.{AreSent, sent_to}
use Rattle.share_turns.specs.Told.{Grows}
use Rattle.share_turns.specs.HostTurn.{bodies_for, datagrams_of}
use Rattle.share_turns.proofs.Sending.{grows_none, grows_then}
use Rattle.share_logged.specs.declared.pending.Note.{Note}
use Rattle.share_logged.specs.Notes.{AllNumbered, IsSentInTurn, sent_for, sent_for_all}
use Rattle.share_logged.proofs.Resuming.{take-push}

pub sent_none : (a : Option (List Traffic)) → IsSentInTurn true a a []
sent_none a = record { sent = []; lost = []; front = refl; all = λ e. refl; told = grows_none a }

-- the port failed before anything was sent
pub sent_nothing : (a b : Option (List Traffic)) (wanted : List Traffic) → b ≡ a → IsSentInTurn false a b wanted
sent_nothing a b wanted same = record {
  sent = [];
  lost = wanted;
  front = refl;
  all = λ e. absurd (cc);
  told = subst (λ (z : Option (List Traffic)). Grows a z []) (sym same) (grows_none a);
}

-- what was sent after a step that sent nothing
pub sent_after : (whole : Bool) (a b c : Option (List Traffic)) (wanted : List Traffic) → b ≡ a → IsSentInTurn whole b c wanted → IsSentInTurn whole a c wanted
sent_after whole a b c wanted same so = subst (λ (z : Option (List Traffic)). IsSentInTurn whole z c wanted) same so

peer-append : (peer : ℕ) (xs ys : List (List ℕ)) → sent_to peer (xs ++ ys) ≡ sent_to peer xs ++ sent_to peer ys
peer-append peer xs ys = map-append (λ (bytes : List ℕ). Sent (record { peer = peer; bytes = bytes })) xs ys

-- one note more was answered, wholly or in part, before others that were not
sent_next : (whole : Bool) (a b c : Option (List Traffic)) (before : List Traffic) (peer : ℕ) (wanted : List (List ℕ)) (rest : List Traffic)
    → IsSentInTurn true a b before → AreSent whole peer b c wanted → (IsTrue whole → rest ≡ []) → IsSentInTurn whole a c ((before ++ sent_to peer wanted) ++ rest)
sent_next true a b c before peer wanted rest so s none = record {
  sent = so.sent ++ sent_to peer s.sent;
  lost = [];
  front =
      append-nil (so.sent ++ sent_to peer s.sent)
      ∙ ap (λ (l : List Traffic). l ++ sent_to peer s.sent) (sym (append-nil so.sent) ∙ ap (λ (l : List Traffic). so.sent ++ l) (sym (so.all refl)) ∙ so.front)
      ∙ ap (λ (l : List (List ℕ)). before ++ sent_to peer l) s.of_wanted
      ∙ sym (append-nil (before ++ sent_to peer wanted))
      ∙ ap (λ (l : List Traffic). (before ++ sent_to peer wanted) ++ l) (sym (none refl));
  all = λ e. refl;
  told = grows_then a b c so.sent (sent_to peer s.sent) so.told s.told;
}
sent_next false a b c before peer wanted rest so s none =
    let lost : List (List ℕ) = s.of_wanted.0 in
    record {
      sent = so.sent ++ sent_to peer s.sent;
      lost = sent_to peer lost ++ rest;
      front =
          sym (append_assoc (so.sent ++ sent_to peer s.sent) (sent_to peer lost) rest)
          ∙ ap (λ (l : List Traffic). l ++ rest) (append_assoc so.sent (sent_to peer s.sent) (sent_to peer lost))
          ∙ ap (λ (l : List Traffic). (so.sent ++ l) ++ rest) (sym (peer-append peer s.sent lost) ∙ ap (sent_to peer) s.of_wanted.1)
          ∙ ap (λ (l : List Traffic). (l ++ sent_to peer wanted) ++ rest) (sym (append-nil so.sent) ∙ ap (λ (l : List Traffic). so.sent ++ l) (sym (so.all refl)) ∙ so.front);
      all = λ e. absurd (cc);
      told = grows_then a b c so.sent (sent_to peer s.sent) so.told s.told;
    }

for-push : (mark : List ℕ) (h : HostPart) (notes : List Note) (i : ℕ) (n : Note) → i < length notes → n ≡ get_or notes i n
    → sent_for_all mark h (take (i + 1) notes) ≡ sent_for_all mark h (take i notes) ++ sent_for mark h n
for-push mark h notes i n lt is =
    ap (sent_for_all mark h) (take-push notes i n lt is)
    ∙ flat_map-append (sent_for mark h) (take i notes) (n ∷ [])
    ∙ ap (λ (l : List Traffic). sent_for_all mark h (take i notes) ++ l) (append-nil (sent_for mark h n))

pub sent_more : (mark : List ℕ) (h : HostPart) (notes : List Note) (i : ℕ) (n : Note) (a b c : Option (List Traffic)) → i < length notes → n ≡ get_or notes i n
    → IsSentInTurn true a b (sent_for_all mark h (take i notes)) → AreSent true n.to b c (datagrams_of mark (bodies_for h n.sender n.reply))
    → IsSentInTurn true a c (sent_for_all mark h (take (i + 1) notes))
sent_more mark h notes i n a b c lt is so s =
    subst (λ (l : List Traffic). IsSentInTurn true a c l) (append-nil (sent_for_all mark h (take i notes) ++ sent_for mark h n) ∙ sym (for-push mark h notes i n lt is))
    (sent_next true a b c (sent_for_all mark h (take i notes)) n.to (datagrams_of mark (bodies_for h n.sender n.reply)) [] so s (λ e. refl))

take-rest : {A : Type 0} (xs : List A) (i : ℕ) → take i xs ++ drop i xs ≡ xs
take-rest xs zero = refl
take-rest [] (suc i) = refl
take-rest (x ∷ xs) (suc i) = ap (λ l. x ∷ l) (take-rest xs i)

-- the port failed at note i
pub sent_lost : (mark : List ℕ) (h : HostPart) (notes : List Note) (i : ℕ) (n : Note) (a b c : Option (List Traffic)) → i < length notes → n ≡ get_or notes i n
    → IsSentInTurn true a b (sent_for_all mark h (take i notes)) → AreSent false n.to b c (datagrams_of mark (bodies_for h n.sender n.reply))
    → IsSentInTurn false a c (sent_for_all mark h notes)
sent_lost mark h notes i n a b c lt is so s =
    let rest : List Traffic = sent_for_all mark h (drop (i + 1) notes) in
    let all : (sent_for_all mark h (take i notes) ++ sent_for mark h n) ++ rest ≡ sent_for_all mark h notes =
    ap (λ (l : List Traffic). l ++ rest) (sym (for-push mark h notes i n lt is))
    ∙ sym (flat_map-append (sent_for mark h) (take (i + 1) notes) (drop (i + 1) notes))
    ∙ ap (sent_for_all mark h) (take-rest notes (i + 1)) in
    subst (λ (l : List Traffic). IsSentInTurn false a c l) all
    (sent_next false a b c (sent_for_all mark h (take i notes)) n.to (datagrams_of mark (bodies_for h n.sender n.reply)) rest so s (λ e. absurd (cc)))

pub numbered_at : (h : HostPart) (notes : List Note) (i : ℕ) (n : Note) → i < length notes → n ≡ get_or notes i n → AllNumbered h notes → AreNumbered h n.reply
numbered_at h [] i n lt is all = absurd (omega (arith, lt))
numbered_at h (m ∷ ms) zero n lt is all = subst (λ (x : Note). AreNumbered h x.reply) (sym is) all.0
numbered_at h (m ∷ ms) (suc i) n lt is all = numbered_at h ms i n (omega (arith, lt)) is all.1

-- an item that is there doesn't depend on what stands for one that isn't
pub item-self : {A : Type 0} (xs : List A) (i : ℕ) (d : A) → i < length xs → get_or xs i d ≡ get_or xs i (get_or xs i d)
item-self [] i d lt = absurd (omega (arith, lt))
item-self (x ∷ xs) zero d lt = refl
item-self (x ∷ xs) (suc i) d lt = item-self xs i d (omega (arith, lt))
