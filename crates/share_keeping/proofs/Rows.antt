-- What was sent at a rest: a row of pieces, and one seat after another.
use Rattle.std.proofs.Common.{◌≡◌, ℕ, zero, suc, ◌+◌, ◌-◌, ◌<◌, add-one, arith, Bool, true, false, List, [], ◌∷◌, ◌++◌, length, get_or, take, drop, refl, ap, sym, ◌∙◌, subst, append_assoc, append-nil}
use Rattle.std.specs.Prelude.{Option, None}
use Rattle.std.proofs.lemmas.Grind.{flat_map-append}
use Rattle.std.proofs.lemmas.List.{map-append, take_more}
use Rattle.share_turns.specs.Exchanges.{AreSent, sent_to}
use Rattle.share_turns.specs.declared.traffic.Traffic.{Traffic}
use Rattle.share_turns.specs.declared.traffic.Traffic.TheVariants.{Sent}
use Rattle.share_turns.proofs.Sending.{are_sent_front, are_sent_then, grows_none, grows_then}
use Rattle.share_logged.specs.Notes.{IsSentInTurn}
use Rattle.share_keeping.specs.declared.joiners.Joiner.{Joiner}
use Rattle.share_keeping.specs.Giving.{given, given_to, piece_text, texts_from}
use Rattle.share_keeping.specs.Joiners.{piece_after}
use Rattle.share_keeping.specs.Shots.{ShotView, pieces_in}

-- ---- a row of pieces

module _ (mark : List ℕ) (s : ShotView) (next : ℕ) where
  texts_more : (n : ℕ) (bytes : List ℕ) (count number : ℕ) → bytes ≡ s.bytes → count ≡ pieces_in s.bytes → number ≡ piece_after count next n
      → texts_from mark s next (n + 1) ≡ texts_from mark s next n ++ piece_text mark bytes number
  texts_more n bytes count number eb ec en =
      let same : piece_text mark bytes number ≡ piece_text mark s.bytes (piece_after (pieces_in s.bytes) next n) =
      ap (λ (b : List ℕ). piece_text mark b number) eb ∙ ap (λ (k : ℕ). piece_text mark s.bytes k) (en ∙ ap (λ (k : ℕ). piece_after k next n) ec) in
      rw add-one (ap (λ (l : List (List ℕ)). texts_from mark s next n ++ l) (sym same))

  texts_front : (d m n : ℕ) → n ≡ m + d → (rest : List (List ℕ)) × (texts_from mark s next n ≡ texts_from mark s next m ++ rest)
  texts_front zero m n e =
      let same : n ≡ m = omega (arith, e) in
      ([], ap (λ (k : ℕ). texts_from mark s next k) same ∙ sym (append-nil (texts_from mark s next m)))
  texts_front (suc d) m zero e = absurd (omega (arith, e))
  texts_front (suc d) m (suc n) e =
      let less : n ≡ m + d = omega (arith, e) in
      let r = texts_front d m n less in
      let last : List (List ℕ) = piece_text mark s.bytes (piece_after (pieces_in s.bytes) next n) in
      (r.0 ++ last, ap (λ (l : List (List ℕ)). l ++ last) r.1 ∙ append_assoc (texts_from mark s next m) r.0 last)

  pub row_none : (peer : ℕ) (a : Option (List Traffic)) → AreSent true peer a a (texts_from mark s next 0)
  row_none peer a = record { sent = []; of_wanted = refl; told = grows_none a }

  pub row_more : (n peer : ℕ) (a b c : Option (List Traffic)) (bytes : List ℕ) (count number : ℕ) → bytes ≡ s.bytes → count ≡ pieces_in s.bytes → number ≡ piece_after count next n
      → AreSent true peer a b (texts_from mark s next n) → AreSent true peer b c (piece_text mark bytes number) → AreSent true peer a c (texts_from mark s next (n + 1))
  row_more n peer a b c bytes count number eb ec en h k =
      subst (λ (l : List (List ℕ)). AreSent true peer a c l) (sym (texts_more n bytes count number eb ec en))
      (are_sent_then true peer a b c (texts_from mark s next n) (piece_text mark bytes number) h k)

  -- the port failed at piece n of the row
  pub row_lost : (n all peer : ℕ) (a b c : Option (List Traffic)) (bytes : List ℕ) (count number : ℕ) → n < all → bytes ≡ s.bytes → count ≡ pieces_in s.bytes → number ≡ piece_after count next n
      → AreSent true peer a b (texts_from mark s next n) → AreSent false peer b c (piece_text mark bytes number) → AreSent false peer a c (texts_from mark s next all)
  row_lost n all peer a b c bytes count number lt eb ec en h k =
      let split : all ≡ (n + 1) + (all - (n + 1)) = omega (arith, lt) in
      let r = texts_front (all - (n + 1)) (n + 1) all split in
      let front : AreSent false peer a c (texts_from mark s next (n + 1)) =
      subst (λ (l : List (List ℕ)). AreSent false peer a c l) (sym (texts_more n bytes count number eb ec en))
      (are_sent_then false peer a b c (texts_from mark s next n) (piece_text mark bytes number) h k) in
      subst (λ (l : List (List ℕ)). AreSent false peer a c l) (sym r.1) (are_sent_front peer a c (texts_from mark s next (n + 1)) r.0 front)

-- ---- seats

pub seat_sent : (whole : Bool) (peer : ℕ) (a b : Option (List Traffic)) (wanted : List (List ℕ)) → AreSent whole peer a b wanted → IsSentInTurn whole a b (sent_to peer wanted)
seat_sent true peer a b wanted s = record {
  sent = sent_to peer s.sent;
  lost = [];
  front = append-nil (sent_to peer s.sent) ∙ ap (λ (l : List (List ℕ)). sent_to peer l) s.of_wanted;
  all = λ e. refl;
  told = s.told;
}
seat_sent false peer a b wanted s = record {
  sent = sent_to peer s.sent;
  lost = sent_to peer s.of_wanted.0;
  front = sym (map-append (λ (bytes : List ℕ). Sent (record { peer = peer; bytes = bytes })) s.sent s.of_wanted.0) ∙ ap (λ (l : List (List ℕ)). sent_to peer l) s.of_wanted.1;
  all = λ e. absurd (cc);
  told = s.told;
}

sent_whole : (a b : Option (List Traffic)) (xs : List Traffic) (h : IsSentInTurn true a b xs) → h.sent ≡ xs
sent_whole a b xs h = sym (append-nil h.sent) ∙ ap (λ (l : List Traffic). h.sent ++ l) (sym (h.all refl)) ∙ h.front

sent_then : (whole : Bool) (a b c : Option (List Traffic)) (xs ys : List Traffic) → IsSentInTurn true a b xs → IsSentInTurn whole b c ys → IsSentInTurn whole a c (xs ++ ys)
sent_then whole a b c xs ys h k = record {
  sent = h.sent ++ k.sent;
  lost = k.lost;
  front = append_assoc h.sent k.sent k.lost ∙ ap (λ (l : List Traffic). h.sent ++ l) k.front ∙ ap (λ (l : List Traffic). l ++ ys) (sent_whole a b xs h);
  all = k.all;
  told = grows_then a b c h.sent k.sent h.told k.told;
}

sent_front : (a b : Option (List Traffic)) (xs ys : List Traffic) → IsSentInTurn false a b xs → IsSentInTurn false a b (xs ++ ys)
sent_front a b xs ys h = record {
  sent = h.sent;
  lost = h.lost ++ ys;
  front = sym (append_assoc h.sent h.lost ys) ∙ ap (λ (l : List Traffic). l ++ ys) h.front;
  all = λ e. absurd (cc);
  told = h.told;
}

take-rest : {A : Type 0} (xs : List A) (i : ℕ) → take i xs ++ drop i xs ≡ xs
take-rest xs zero = refl
take-rest [] (suc i) = refl
take-rest (x ∷ xs) (suc i) = ap (λ l. x ∷ l) (take-rest xs i)

module _ (mark : List ℕ) (s : ShotView) (js : List (Option Joiner)) (i : ℕ) (lt : i < length js) where
  abbrev here : List Traffic
  here = given_to mark s (get_or js i None)

  given_more : given mark s (take (i + 1) js) ≡ given mark s (take i js) ++ here
  given_more =
      ap (λ (l : List (Option Joiner)). given mark s l) (take_more js i None lt)
      ∙ flat_map-append (given_to mark s) (take i js) (get_or js i None ∷ [])
      ∙ ap (λ (l : List Traffic). given mark s (take i js) ++ l) (append-nil here)

  pub seats_more : (a b c : Option (List Traffic)) → IsSentInTurn true a b (given mark s (take i js)) → IsSentInTurn true b c here → IsSentInTurn true a c (given mark s (take (i + 1) js))
  seats_more a b c h k =
      subst (λ (l : List Traffic). IsSentInTurn true a c l) (sym given_more) (sent_then true a b c (given mark s (take i js)) here h k)

  -- a send failed at this seat
  pub seats_lost : (a b c : Option (List Traffic)) → IsSentInTurn true a b (given mark s (take i js)) → IsSentInTurn false b c here → IsSentInTurn false a c (given mark s js)
  seats_lost a b c h k =
      let rest : List Traffic = given mark s (drop (i + 1) js) in
      let all : (given mark s (take i js) ++ here) ++ rest ≡ given mark s js =
      ap (λ (l : List Traffic). l ++ rest) (sym given_more)
      ∙ sym (flat_map-append (given_to mark s) (take (i + 1) js) (drop (i + 1) js))
      ∙ ap (λ (l : List (Option Joiner)). given mark s l) (take-rest js (i + 1)) in
      subst (λ (l : List Traffic). IsSentInTurn false a c l) all
      (sent_front a c (given mark s (take i js) ++ here) rest (sent_then false a b c (given mark s (take i js)) here h k))
