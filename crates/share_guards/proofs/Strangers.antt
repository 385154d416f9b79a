-- What an address that brought back no cookie gets, and that one which is known brought one.
use Rattle.std.proofs.Common.{◌≡◌, ◌⊎◌, ◌&&◌, ◌≤◌, ◌+◌, ℕ, Bool, true, false, List, [], ◌∷◌, Option, None, Some, length, nat_eq, nat_lt, cond, refl, sym, ap, subst, ◌∙◌, inl, inr, arith}
use Rattle.std.proofs.lemmas.Bool.{cases_Bool, cases_eq, eqb-true, leb-true, ltb-false, ltb-true}
use Rattle.std.proofs.lemmas.List.{get_or_past, get_or-set_same, get_or-set_other, length-set}
use Rattle.std.specs.Cmp.Lexicographic.{bytes_decides, pointwise}
use Rattle.std.specs.declared.net.socket_addr.SocketAddr.{SocketAddr}
use Rattle.std.specs.declared.net.socket_addr.SocketAddr.TheVariants.{V4, V6}
use Rattle.byte_codec.proofs.Laws.{both}
use Rattle.share_guards.specs.declared.guard.Asked.{Asked}
use Rattle.share_guards.specs.declared.guard.Guard.{Guard}
use Rattle.share_guards.specs.declared.kind.Kind.TheVariants.{Greets, Asks, Offers, Strange}
use Rattle.share_guards.specs.Guard.{after_sending, after_take, allows, answers, greeted, has_room, is_known_cookie, takes}
use Rattle.share_guards.specs.Places.{is_at, known_at, knows, noted, same_place}
use Rattle.share_guards.specs.Laws.{AreWelcomes, Brings, Brought, Event, IsWelcome, KnownBroughtACookie, StrangersGetNoMore, after, after_all, all_in, all_out, bytes_in, bytes_out, came, sending, turned}

-- ---- addresses

v4_is : (o x : List ℕ) (n m : ℕ) → o ≡ x → n ≡ m
    → (let a : SocketAddr = V4 (record { ip = record { octets = o }; port = n }) in a) ≡ V4 (record { ip = record { octets = x }; port = m })
v4_is o x n m h k =
    ap (λ (l : List ℕ). let a : SocketAddr = V4 (record { ip = record { octets = l }; port = n }) in a) h
    ∙ ap (λ (i : ℕ). let a : SocketAddr = V4 (record { ip = record { octets = x }; port = i }) in a) k

abbrev v6 : List ℕ → (port flow scope : ℕ) → SocketAddr
v6 l port flow scope = V6 (record { ip = record { segments = l }; port = port; flowinfo = flow; scope_id = scope })

v6_is : (o x : List ℕ) (n m f g s t : ℕ) → o ≡ x → n ≡ m → f ≡ g → s ≡ t → v6 o n f s ≡ v6 x m g t
v6_is o x n m f g s t h k l j =
    ap (λ (z : List ℕ). v6 z n f s) h ∙ ap (λ (z : ℕ). v6 x z f s) k ∙ ap (λ (z : ℕ). v6 x m z s) l ∙ ap (λ (z : ℕ). v6 x m g z) j

same_is : (a b : SocketAddr) → same_place a b ≡ true → a ≡ b
same_is (V4 a) (V4 b) e =
    let h = both (pointwise nat_eq a.ip.octets b.ip.octets) _ e in
    v4_is a.ip.octets b.ip.octets a.port b.port ((bytes_decides a.ip.octets b.ip.octets).0 h.0) (eqb-true _ _ h.1)
same_is (V4 a) (V6 b) e = absurd cc
same_is (V6 a) (V4 b) e = absurd cc
same_is (V6 a) (V6 b) e =
    let h = both (pointwise nat_eq a.ip.segments b.ip.segments) _ e in
    let k = both (nat_eq a.port b.port) _ h.1 in
    let l = both (nat_eq a.flowinfo b.flowinfo) _ k.1 in
    v6_is a.ip.segments b.ip.segments a.port b.port a.flowinfo b.flowinfo a.scope_id b.scope_id
    ((bytes_decides a.ip.segments b.ip.segments).0 h.0) (eqb-true _ _ k.0) (eqb-true _ _ l.0) (eqb-true _ _ l.1)

-- ---- what one event leaves

data Greeted (g : Guard) (peer : ℕ) (q : SocketAddr) (who : ℕ) (cookie : List ℕ) (count : ℕ) : Type 0 where
  brought : is_known_cookie g.secrets cookie q who ≡ true → greeted g peer q who cookie count ≡ record g { known = noted g.known peer q; asked = None } → Greeted g peer q who cookie count
  knew : greeted g peer q who cookie count ≡ g → Greeted g peer q who cookie count
  asks : greeted g peer q who cookie count ≡ record g { asked = Some (record { place = q; room = count }) } → Greeted g peer q who cookie count

greets : (g : Guard) (peer : ℕ) (q : SocketAddr) (who : ℕ) (cookie : List ℕ) (count : ℕ) → Greeted g peer q who cookie count
greets g peer q who cookie count = elim (cases_Bool (is_known_cookie g.secrets cookie q who)) [
  | inl is ↦ brought is (rw is refl)
  | inr not ↦ elim (cases_Bool (knows g.known peer q)) [
    | inl is ↦ knew (rw (not, is) refl)
    | inr new ↦ asks (rw (not, new) refl)
  ]
]

take_leaves : (g : Guard) (peer : ℕ) (q : SocketAddr) (who : ℕ) (is_offer : Bool)
    → ((after_take g peer q who is_offer).known ≡ g.known) × ((after_take g peer q who is_offer).asked ≡ g.asked)
take_leaves g peer q who is_offer = elim (cases_Bool (takes g peer q who is_offer)) [
  | inl is ↦ (rw is refl, rw is refl)
  | inr not ↦ (rw not refl, rw not refl)
]

data Sends (g : Guard) (to : ℕ) (q : SocketAddr) (w : Bool) (n : ℕ) : Type 0 where
  familiar : knows g.known to q ≡ true → after_sending g to (Some q) w n ≡ g → Sends g to q w n
  answered : answers g q w n ≡ true → after_sending g to (Some q) w n ≡ record g { asked = None } → Sends g to q w n
  refused : allows g to (Some q) w n ≡ false → after_sending g to (Some q) w n ≡ g → Sends g to q w n

sends : (g : Guard) (to : ℕ) (q : SocketAddr) (w : Bool) (n : ℕ) → Sends g to q w n
sends g to q w n = elim (cases_Bool (knows g.known to q)) [
  | inl is ↦ familiar is (rw is refl)
  | inr new ↦ elim (cases_Bool (answers g q w n)) [
    | inl is ↦ answered is (rw (new, is) refl)
    | inr not ↦ refused (rw (new, not) refl) (rw (new, not) refl)
  ]
]

-- ---- what is known

is_at_noted : (known : List (Option SocketAddr)) (from peer : ℕ) (q p : SocketAddr) → knows (noted known from q) peer p ≡ true
    → (knows known peer p ≡ true) ⊎ ((from ≡ peer) × (q ≡ p))
is_at_noted known from peer q p e = elim (cases_eq peer from) [
  | inl same ↦ elim (cases_Bool (nat_lt from (length known))) [
    | inl low ↦
        let here : known_at (noted known from q) peer ≡ Some q =
        ap (known_at (noted known from q)) same ∙ get_or-set_same known from (Some q) None (ltb-true _ _ low) in
        inr (sym same, same_is q p (sym (ap (λ (o : Option SocketAddr). is_at o p) here) ∙ e))
    | inr high ↦
        let past : known_at (noted known from q) peer ≡ None =
        ap (known_at (noted known from q)) same
        ∙ get_or_past (noted known from q) from None (omega (arith, length-set known from (Some q), ltb-false _ _ high)) in
        let bad : false ≡ true = sym (ap (λ (o : Option SocketAddr). is_at o p) past) ∙ e in absurd cc
  ]
  | inr other ↦ inl (sym (ap (λ (o : Option SocketAddr). is_at o p) (get_or-set_other known from peer (Some q) None other)) ∙ e)
]

knows_by : (known other : List (Option SocketAddr)) (peer : ℕ) (p : SocketAddr) → other ≡ known → knows other peer p ≡ true → knows known peer p ≡ true
knows_by known other peer p same e = subst (λ (l : List (Option SocketAddr)). knows l peer p ≡ true) same e

greeted_knows : (g : Guard) (from peer : ℕ) (q p : SocketAddr) (who : ℕ) (cookie : List ℕ) (count : ℕ) → Greeted g from q who cookie count
    → knows (greeted g from q who cookie count).known peer p ≡ true
    → (knows g.known peer p ≡ true) ⊎ ((from ≡ peer) × (q ≡ p) × (is_known_cookie g.secrets cookie q who ≡ true))
greeted_knows g from peer q p who cookie count (brought is eq) e =
    elim (is_at_noted g.known from peer q p (knows_by _ _ peer p (ap (λ (z : Guard). z.known) eq) e)) [
      | inl before ↦ inl before
      | inr h ↦ inr (h.0, h.1, is)
    ]
greeted_knows g from peer q p who cookie count (knew eq) e = inl (knows_by _ _ peer p (ap (λ (z : Guard). z.known) eq) e)
greeted_knows g from peer q p who cookie count (asks eq) e = inl (knows_by _ _ peer p (ap (λ (z : Guard). z.known) eq) e)

sent_knows : (g : Guard) (to peer : ℕ) (q p : SocketAddr) (w : Bool) (n : ℕ) → Sends g to q w n
    → knows (after_sending g to (Some q) w n).known peer p ≡ true → knows g.known peer p ≡ true
sent_knows g to peer q p w n (familiar is eq) e = knows_by _ _ peer p (ap (λ (z : Guard). z.known) eq) e
sent_knows g to peer q p w n (answered is eq) e = knows_by _ _ peer p (ap (λ (z : Guard). z.known) eq) e
sent_knows g to peer q p w n (refused is eq) e = knows_by _ _ peer p (ap (λ (z : Guard). z.known) eq) e

knows_after : (g : Guard) (peer : ℕ) (p : SocketAddr) (e : Event) → knows (after g e).known peer p ≡ true → (knows g.known peer p ≡ true) ⊎ Brings g peer p e
knows_after g peer p (came from None kind count) k = inl k
knows_after g peer p (came from (Some q) (Greets who cookie) count) k = greeted_knows g from peer q p who cookie count (greets g from q who cookie count) k
knows_after g peer p (came from (Some q) (Asks who) count) k = inl (knows_by _ _ peer p (take_leaves g from q who false).0 k)
knows_after g peer p (came from (Some q) (Offers who) count) k = inl (knows_by _ _ peer p (take_leaves g from q who true).0 k)
knows_after g peer p (came from (Some q) Strange count) k = inl k
knows_after g peer p (sending to None w n) k = inl k
knows_after g peer p (sending to (Some q) w n) k = inl (sent_knows g to peer q p w n (sends g to q w n) k)
knows_after g peer p (turned millis) k = inl k

brought_it : (g : Guard) (peer : ℕ) (p : SocketAddr) (es : List Event) → knows (after_all g es).known peer p ≡ true → (knows g.known peer p ≡ true) ⊎ Brought g peer p es
brought_it g peer p [] k = inl k
brought_it g peer p (e ∷ es) k = by (brought_it (after g e) peer p es k)
  where
    by : (knows (after g e).known peer p ≡ true) ⊎ Brought (after g e) peer p es → (knows g.known peer p ≡ true) ⊎ Brought g peer p (e ∷ es)
    by (inr later) = inr (inr later)
    by (inl now) = elim (knows_after g peer p e now) [
      | inl before ↦ inl before
      | inr brings ↦ inr (inl brings)
    ]

none_known : (g : Guard) (peer : ℕ) (p : SocketAddr) → known_at g.known peer ≡ None → ¬ (knows g.known peer p ≡ true)
none_known g peer p none k =
    let bad : false ≡ true = sym (ap (λ (o : Option SocketAddr). is_at o p) none) ∙ k in absurd cc

pub known_brought_a_cookie : KnownBroughtACookie
known_brought_a_cookie g peer p es new k = elim (brought_it g peer p es k) [
  | inl before ↦ absurd (none_known g peer p (new.0 peer) before)
  | inr it ↦ it
]

-- ---- what is sent

abbrev room : Option Asked → SocketAddr → ℕ
room None p = 0
room (Some asked) p = cond (same_place asked.place p) asked.room 0

room_for : (asked : Option Asked) (p : SocketAddr) (n : ℕ) → has_room asked p n ≡ true → n ≤ room asked p
room_for None p n e = absurd cc
room_for (Some asked) p n e =
    let h = both (same_place asked.place p) _ e in
    let all : room (Some asked) p ≡ asked.room = rw h.0 refl in
    omega (arith, all, leb-true n asked.room h.1)

greeted_room : (g : Guard) (from : ℕ) (q p : SocketAddr) (who : ℕ) (cookie : List ℕ) (count : ℕ) → Greeted g from q who cookie count
    → room (greeted g from q who cookie count).asked p ≤ room g.asked p + cond (same_place q p) count 0
greeted_room g from q p who cookie count (brought is eq) = omega (arith, ap (λ (z : Guard). room z.asked p) eq)
greeted_room g from q p who cookie count (knew eq) = omega (arith, ap (λ (z : Guard). room z.asked p) eq)
greeted_room g from q p who cookie count (asks eq) = omega (arith, ap (λ (z : Guard). room z.asked p) eq)

abbrev Unknown : Guard → SocketAddr → Type 0
Unknown g p = (peer : ℕ) → ¬ (knows g.known peer p ≡ true)

abbrev out : (g : Guard) (to : ℕ) (q p : SocketAddr) (w : Bool) (n : ℕ) → ℕ
out g to q p w n = cond (same_place q p && allows g to (Some q) w n) n 0

elsewhere : (g : Guard) (to : ℕ) (q p : SocketAddr) (w : Bool) (n : ℕ) → same_place q p ≡ false → out g to q p w n ≡ 0
elsewhere g to q p w n e = rw e refl

not_allowed : (g : Guard) (to : ℕ) (q p : SocketAddr) (w : Bool) (n : ℕ) → allows g to (Some q) w n ≡ false → out g to q p w n ≡ 0
not_allowed g to q p w n e = elim (cases_Bool (same_place q p)) [
  | inl same ↦ rw (same, e) refl
  | inr other ↦ elsewhere g to q p w n other
]

at_most : (b : Bool) (n : ℕ) → cond b n 0 ≤ n
at_most true n = omega arith
at_most false n = omega arith

sent_room : (g : Guard) (to : ℕ) (q p : SocketAddr) (w : Bool) (n : ℕ) → Unknown g p → Sends g to q w n
    → out g to q p w n + room (after_sending g to (Some q) w n).asked p ≤ room g.asked p
sent_room g to q p w n unknown (familiar is eq) = elim (cases_Bool (same_place q p)) [
  | inl same ↦ absurd (unknown to (subst (λ (a : SocketAddr). knows g.known to a ≡ true) (same_is q p same) is))
  | inr other ↦ omega (arith, elsewhere g to q p w n other, ap (λ (z : Guard). room z.asked p) eq)
]
sent_room g to q p w n unknown (answered is eq) = elim (cases_Bool (same_place q p)) [
  | inl same ↦
      let enough : n ≤ room g.asked p = room_for g.asked p n (subst (λ (a : SocketAddr). has_room g.asked a n ≡ true) (same_is q p same) (both w _ is).1) in
      omega (arith, at_most (same_place q p && allows g to (Some q) w n) n, enough, ap (λ (z : Guard). room z.asked p) eq)
  | inr other ↦ omega (arith, elsewhere g to q p w n other, ap (λ (z : Guard). room z.asked p) eq)
]
sent_room g to q p w n unknown (refused is eq) = omega (arith, not_allowed g to q p w n is, ap (λ (z : Guard). room z.asked p) eq)

step : (g : Guard) (p : SocketAddr) (e : Event) → Unknown g p → bytes_out p g e + room (after g e).asked p ≤ room g.asked p + bytes_in p e
step g p (came from None kind count) unknown = omega arith
step g p (came from (Some q) (Greets who cookie) count) unknown = omega (arith, greeted_room g from q p who cookie count (greets g from q who cookie count))
step g p (came from (Some q) (Asks who) count) unknown = omega (arith, ap (λ (a : Option Asked). room a p) (take_leaves g from q who false).1)
step g p (came from (Some q) (Offers who) count) unknown = omega (arith, ap (λ (a : Option Asked). room a p) (take_leaves g from q who true).1)
step g p (came from (Some q) Strange count) unknown = omega arith
step g p (sending to None w n) unknown = omega arith
step g p (sending to (Some q) w n) unknown = omega (arith, sent_room g to q p w n unknown (sends g to q w n))
step g p (turned millis) unknown = omega arith

welcome_by : (g : Guard) (to : ℕ) (q p : SocketAddr) (w : Bool) (n : ℕ) → Unknown g p → Sends g to q w n → same_place q p ≡ true → allows g to (Some q) w n ≡ true → w ≡ true
welcome_by g to q p w n unknown (familiar is eq) same may = absurd (unknown to (subst (λ (a : SocketAddr). knows g.known to a ≡ true) (same_is q p same) is))
welcome_by g to q p w n unknown (answered is eq) same may = (both w _ is).0
welcome_by g to q p w n unknown (refused is eq) same may = let bad : false ≡ true = sym is ∙ may in absurd cc

welcomes : (g : Guard) (p : SocketAddr) (e : Event) → Unknown g p → IsWelcome p g e
welcomes g p (came from place kind count) unknown = tt
welcomes g p (sending to None w n) unknown = λ same may. absurd cc
welcomes g p (sending to (Some q) w n) unknown = λ same may. welcome_by g to q p w n unknown (sends g to q w n) same may
welcomes g p (turned millis) unknown = tt

still_unknown : (g : Guard) (p : SocketAddr) (e : Event) → Unknown g p → ((peer : ℕ) → ¬ Brings g peer p e) → Unknown (after g e) p
still_unknown g p e unknown none peer k = elim (knows_after g peer p e k) [
  | inl before ↦ unknown peer before
  | inr brings ↦ none peer brings
]

gets : (g : Guard) (p : SocketAddr) (es : List Event) → Unknown g p → ((peer : ℕ) → ¬ Brought g peer p es)
    → (all_out p g es ≤ room g.asked p + all_in p es) × AreWelcomes p g es
gets g p [] unknown none = (omega arith, tt)
gets g p (e ∷ es) unknown none =
    let later = gets (after g e) p es (still_unknown g p e unknown (λ peer b. none peer (inl b))) (λ peer b. none peer (inr b)) in
    let all : AreWelcomes p g (e ∷ es) = (welcomes g p e unknown, later.1) in
    (omega (arith, step g p e unknown, later.0), all)

pub strangers_get_no_more : StrangersGetNoMore
strangers_get_no_more g p es new none =
    let h = gets g p es (λ peer. none_known g peer p (new.0 peer)) none in
    let empty : room g.asked p ≡ 0 = ap (λ (a : Option Asked). room a p) new.1 in
    (omega (arith, h.0, empty), h.1)
