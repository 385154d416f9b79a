-- What was sent, datagram by datagram.
use Rattle.std.proofs.Common.{◌≡◌, ℕ, zero, suc, ◌+◌, ◌-◌, ◌<◌, ◌≤◌, arith, Bool, true, false, List, [], ◌∷◌, ◌++◌, length, refl, ap, sym, ◌∙◌, append_assoc, append-nil}
use Rattle.std.specs.Prelude.{Option, Some, None, Result, Ok, Err, OnOk, OnErr, is_ok, slice_get}
use Rattle.std.specs.List.{flat_map, range_with_len}
use Rattle.std.specs.Option.{option_map}
use Rattle.std.proofs.lemmas.Grind.{flat_map-append}
use Rattle.std.proofs.lemmas.List.{map-append}
use Rattle.std.proofs.lemmas.Option.{none-some, same_Some, slice_get_past}
use Rattle.share_wire.specs.Datagram.{datagram}
use Rattle.share_wire.specs.declared.message.Body.{Body}
use Rattle.share_rules.specs.declared.kept.SeatCount.{SeatCount}
use Rattle.share_law.specs.Host.{ack_of}
use Rattle.share_law.specs.Parts.{HostPart, part_packet}
use Rattle.share_turns.specs.declared.port.PortFault.{PortFault}
use Rattle.share_turns.specs.declared.traffic.Traffic.{Traffic}
use Rattle.share_turns.specs.declared.traffic.Traffic.TheVariants.{Sent}
use Rattle.share_turns.specs.Told.{Grows}
use Rattle.share_turns.specs.Exchanges.{AreSent, sent_to}
use Rattle.share_turns.specs.HostTurn.{acks_for, ack_to, datagrams_of, listed}

pub grows_none : (a : Option (List Traffic)) → Grows a a []
grows_none None = tt
grows_none (Some xs) = sym (append-nil xs)

pub grows_then : (a b c : Option (List Traffic)) (xs ys : List Traffic) → Grows a b xs → Grows b c ys → Grows a c (xs ++ ys)
grows_then None b c xs ys h k = tt
grows_then (Some os) None c xs ys h k = absurd h
grows_then (Some os) (Some bs) None xs ys h k = absurd k
grows_then (Some os) (Some bs) (Some cs) xs ys h k = k ∙ ap (λ zs. zs ++ ys) h ∙ append_assoc os xs ys

-- ---- all that had to be sent

-- nothing had to be sent
pub are_sent_none : (peer : ℕ) (a : Option (List Traffic)) → AreSent true peer a a []
are_sent_none peer a = record { sent = []; of_wanted = refl; told = grows_none a }

pub are_sent_then : (whole : Bool) (peer : ℕ) (a b c : Option (List Traffic)) (xs ys : List (List ℕ))
    → AreSent true peer a b xs → AreSent whole peer b c ys → AreSent whole peer a c (xs ++ ys)
are_sent_then true peer a b c xs ys h k = record {
  sent = h.sent ++ k.sent;
  of_wanted = ap (λ zs. zs ++ k.sent) h.of_wanted ∙ ap (λ zs. xs ++ zs) k.of_wanted;
  told = rw (map-append (λ (bytes : List ℕ). Sent (record { peer = peer; bytes = bytes })) h.sent k.sent) (grows_then a b c (sent_to peer h.sent) (sent_to peer k.sent) h.told k.told);
}
are_sent_then false peer a b c xs ys h k = record {
  sent = h.sent ++ k.sent;
  of_wanted = (k.of_wanted.0, append_assoc h.sent k.sent k.of_wanted.0 ∙ ap (λ zs. zs ++ (k.sent ++ k.of_wanted.0)) h.of_wanted ∙ ap (λ zs. xs ++ zs) k.of_wanted.1);
  told = rw (map-append (λ (bytes : List ℕ). Sent (record { peer = peer; bytes = bytes })) h.sent k.sent) (grows_then a b c (sent_to peer h.sent) (sent_to peer k.sent) h.told k.told);
}

-- what comes behind is lost too
pub are_sent_front : (peer : ℕ) (a b : Option (List Traffic)) (xs ys : List (List ℕ)) → AreSent false peer a b xs → AreSent false peer a b (xs ++ ys)
are_sent_front peer a b xs ys h = record {
  sent = h.sent;
  of_wanted = (h.of_wanted.0 ++ ys, sym (append_assoc h.sent h.of_wanted.0 ys) ∙ ap (λ zs. zs ++ ys) h.of_wanted.1);
  told = h.told;
}

-- one datagram was sent, or the port failed
pub are_sent_one : (result : Result (Unit {0}) PortFault) (peer : ℕ) (a b : Option (List Traffic)) (bytes : List ℕ)
    → OnOk result (Grows a b (Sent (record { peer = peer; bytes = bytes }) ∷ [])) → OnErr result (Grows a b [])
    → AreSent (is_ok result) peer a b (bytes ∷ [])
are_sent_one (Ok u) peer a b bytes ok err = record { sent = bytes ∷ []; of_wanted = refl; told = ok }
are_sent_one (Err f) peer a b bytes ok err = record { sent = []; of_wanted = (bytes ∷ [], refl); told = err }

-- ---- acks

pub acks_past : (mark : List ℕ) (h : HostPart) (who : ℕ) → length h.kept ≤ who → datagrams_of mark (acks_for h (Some who)) ≡ []
acks_past mark h who past = ap (λ k. datagrams_of mark (ack_to who k)) (slice_get_past h.kept who past)

pub acks_one : (mark : List ℕ) (h : HostPart) (who : ℕ) (bytes : List ℕ)
    → option_map (λ kept. datagram (record { mark = mark; body = ack_of who kept })) (slice_get h.kept who) ≡ Some bytes
    → datagrams_of mark (acks_for h (Some who)) ≡ bytes ∷ []
acks_one mark h who bytes = go (slice_get h.kept who) where
  go : (k : Option SeatCount) → option_map (λ kept. datagram (record { mark = mark; body = ack_of who kept })) k ≡ Some bytes → datagrams_of mark (ack_to who k) ≡ bytes ∷ []
  go None e = absurd (none-some bytes e)
  go (Some k) e = ap (λ b. b ∷ []) (same_Some _ bytes e)

-- ---- inputs

range_split : (a m k n : ℕ) → n ≡ m + k → range_with_len a n ≡ range_with_len a m ++ range_with_len (a + m) k
range_split a zero k n e =
    let same : n ≡ k = omega (arith, e) in
    let start : a ≡ a + 0 = omega arith in
    ap (range_with_len a) same ∙ ap (λ b. range_with_len b k) start
range_split a (suc m) k zero e = absurd (omega (arith, e))
range_split a (suc m) k (suc n) e =
    let less : n ≡ m + k = omega (arith, e) in
    let start : (a + 1) + m ≡ a + suc m = omega arith in
    ap (λ zs. a ∷ zs) (range_split (a + 1) m k n less ∙ ap (λ b. range_with_len (a + 1) m ++ range_with_len b k) start)

-- the datagrams of so many inputs from number first on
abbrev pub inputs_from : (mark : List ℕ) → HostPart → (first count : ℕ) → List (List ℕ)
inputs_from mark h first count = datagrams_of mark (flat_map (λ k. listed (part_packet h k)) (range_with_len first count))

pub inputs_from-none : (mark : List ℕ) (h : HostPart) (first : ℕ) → inputs_from mark h first (first - first) ≡ []
inputs_from-none mark h first =
    let e : first - first ≡ 0 = omega arith in
    ap (inputs_from mark h first) e

inputs_from-split : (mark : List ℕ) (h : HostPart) (first m k n : ℕ) → n ≡ m + k
    → inputs_from mark h first n ≡ inputs_from mark h first m ++ inputs_from mark h (first + m) k
inputs_from-split mark h first m k n e =
    let f : ℕ → List Body = λ k. listed (part_packet h k) in
    ap (λ zs. datagrams_of mark (flat_map f zs)) (range_split first m k n e)
    ∙ ap (datagrams_of mark) (flat_map-append f (range_with_len first m) (range_with_len (first + m) k))
    ∙ map-append (λ (body : Body). datagram (record { mark = mark; body = body })) (flat_map f (range_with_len first m)) (flat_map f (range_with_len (first + m) k))

pub inputs_from-more : (mark : List ℕ) (h : HostPart) (first n : ℕ) → first ≤ n
    → inputs_from mark h first ((n + 1) - first) ≡ inputs_from mark h first (n - first) ++ datagrams_of mark (listed (part_packet h n))
inputs_from-more mark h first n low =
    let more : (n + 1) - first ≡ (n - first) + 1 = omega (arith, low) in
    let last : first + (n - first) ≡ n = omega (arith, low) in
    inputs_from-split mark h first (n - first) 1 ((n + 1) - first) more
    ∙ ap (λ k. inputs_from mark h first (n - first) ++ inputs_from mark h k 1) last
    ∙ ap (λ zs. inputs_from mark h first (n - first) ++ datagrams_of mark zs) (append-nil (listed (part_packet h n)))

-- the port failed at input n: what was sent before stands at the front of all
pub inputs_lost : (mark : List ℕ) (h : HostPart) (first count n peer : ℕ) (a b c : Option (List Traffic)) → first ≤ n → n < first + count
    → AreSent true peer a b (inputs_from mark h first (n - first)) → AreSent false peer b c (datagrams_of mark (listed (part_packet h n)))
    → AreSent false peer a c (inputs_from mark h first count)
inputs_lost mark h first count n peer a b c low high before lost =
    let e : count ≡ ((n + 1) - first) + (first + count - (n + 1)) = omega (arith, low, high) in
    rw (inputs_from-split mark h first ((n + 1) - first) (first + count - (n + 1)) count e)
    (rw (inputs_from-more mark h first n low)
    (are_sent_front peer a c _ _ (are_sent_then false peer a b c _ _ before lost)))

-- the datagram of an input, if there is one
pub listed_packet : (mark : List ℕ) (o : Option Body) (bytes : Option (List ℕ)) → bytes ≡ option_map (λ body. datagram (record { mark = mark; body = body })) o
    → datagrams_of mark (listed o) ≡ listed bytes
listed_packet mark None bytes e = ap listed (sym e)
listed_packet mark (Some body) bytes e = ap listed (sym e)
