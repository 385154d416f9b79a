-- What passes through a port of sealed datagrams: one receive from below, and several.
use Rattle.std.proofs.Common.{◌≡◌, ◌≤◌, ◌<◌, ◌+◌, ℕ, Bool, true, false, cond, List, [], ◌∷◌, ◌++◌, take, Option, Some, None, Result, Ok, Err, refl, sym, ap, subst, ◌∙◌, arith}
use Rattle.std.specs.Prelude.{IfOk, IfSome, MatchOption, MatchResult, OnOk}
use Rattle.std.proofs.lemmas.Bool.{ltb-true}
use Rattle.share_keys.specs.Seal.{front_of, seal_of}
use Rattle.share_keys.specs.declared.sealing.Direction.{Direction}
use Rattle.share_keys.specs.declared.sealing.Key.{Key}
use Rattle.share_keys.proofs.Seals.{front}
use Rattle.share_turns.specs.Told.{Grows, max_received}
use Rattle.share_turns.specs.declared.port.PortFault.{PortFault}
use Rattle.share_turns.specs.declared.traffic.Traffic.{Traffic}
use Rattle.share_turns.specs.declared.traffic.Traffic.TheVariants.{Nothing, Received, Sent}
use Rattle.share_sealed.specs.declared.coming.Coming.{Coming}
use Rattle.share_sealed.specs.declared.coming.Coming.TheVariants as coming
use Rattle.share_sealed.specs.declared.coming.Wrongs.{Wrongs}
use Rattle.share_sealed.specs.Passing.{HostPasses, MostBytes, ViewerPasses, coming_opened, handed_coming, handed_in, handed_of, heard_all, heard_one, host_opens, sealed_to, viewer_opens, wrongs_opened}
use Rattle.share_sealed.specs.Told.{IsPassed, Opening, all_of, goes_on, row_of, row_wrong, told_from, told_in, told_opened}
use Rattle.share_sealed.proofs.Opened.{Fronts, few, in_front}
use Rattle.share_sealed.proofs.Telling.{all_append, grows_sealed, grows_then, row_append, told_append}

abbrev pub came : (peer : ℕ) → List ℕ → List Traffic
came peer bytes = Received (record { peer = peer; bytes = bytes }) ∷ []

-- ---- a datagram came

module _ (opens : Opening) (fronts : Fronts opens) (row peer count : ℕ) (into : List ℕ) where
  wrong_handed : (b : Bool) → handed_coming into (cond b coming.Wrong coming.Nothing) ≡ cond b [] (let l : List Traffic = Nothing ∷ [] in l) ++ []
  wrong_handed true = refl
  wrong_handed false = refl

  opened_handed : (o : Option (List ℕ)) → opens (take count into) ≡ o → handed_coming into (coming_opened row peer o) ≡ told_opened row peer o ++ []
  opened_handed None is = wrong_handed (goes_on row)
  opened_handed (Some datagram) is = ap (λ t. came peer t) (in_front opens fronts into count datagram is)

  opened_most : count ≤ max_received → (o : Option (List ℕ)) → opens (take count into) ≡ o → MostBytes (coming_opened row peer o)
  opened_most most None is = by (goes_on row)
    where
      by : (b : Bool) → MostBytes (cond b coming.Wrong coming.Nothing)
      by true = tt
      by false = tt
  opened_most most (Some datagram) is = omega (arith, most, few opens fronts into count datagram is)

  pub most_received : (result : Coming) → result ≡ coming_opened row peer (opens (take count into)) → count ≤ max_received → MostBytes result
  most_received result is most = subst MostBytes (sym is) (opened_most most (opens (take count into)) refl)

  pub passed_received : (w v : Wrongs) (a b : Option (List Traffic)) (result : Coming) → w.row ≡ row → Grows a b (came peer (take count into))
      → result ≡ coming_opened row peer (opens (take count into)) → v ≡ wrongs_opened w (opens (take count into))
      → IsPassed opens w v a b (came peer (take count into)) (handed_coming into result)
  passed_received w v a b result at g is new = record {
    told = g;
    row = ap (λ (z : Wrongs). z.row) new;
    all = ap (λ (z : Wrongs). z.all) new;
    handed_is =
        ap (handed_coming into) is ∙ opened_handed (opens (take count into)) refl
        ∙ ap (λ (n : ℕ). told_opened n peer (opens (take count into)) ++ []) (sym at);
  }

pub passed_nothing : (opens : Opening) (w : Wrongs) (a b : Option (List Traffic)) → Grows a b (Nothing ∷ []) → IsPassed opens w (record w { row = 0 }) a b (Nothing ∷ []) (Nothing ∷ [])
passed_nothing opens w a b g = record { told = g; row = refl; all = refl; handed_is = refl }

pub passed_none : (opens : Opening) (w : Wrongs) (a b : Option (List Traffic)) → Grows a b [] → IsPassed opens w w a b [] []
passed_none opens w a b g = record { told = g; row = refl; all = refl; handed_is = refl }

-- ---- a row of wrong datagrams grows

wrong_by : (row : ℕ) (b : Bool) → goes_on row ≡ b → cond b coming.Wrong coming.Nothing ≡ coming.Wrong → (row < 63) × (row_wrong row ≡ row + 1)
wrong_by row false is e = absurd cc
wrong_by row true is e = (ltb-true row 63 is, rw is refl)

opened_wrong : (w : Wrongs) (peer : ℕ) (o : Option (List ℕ)) → coming_opened w.row peer o ≡ coming.Wrong → (w.row < 63) × ((wrongs_opened w o).row ≡ w.row + 1)
opened_wrong w peer (Some datagram) e = absurd cc
opened_wrong w peer None e = wrong_by w.row (goes_on w.row) refl e

ok_is : {A E : Type 0} (x y : A) → (let r : Result A E = Ok x in r) ≡ Ok y → x ≡ y
ok_is x y e = cc

pub row_grows : (w v : Wrongs) (peer : ℕ) (o : Option (List ℕ)) (result : Coming) → result ≡ coming_opened w.row peer o → v ≡ wrongs_opened w o
    → (let r : Result Coming PortFault = Ok result in r) ≡ Ok coming.Wrong → (w.row < 63) × (v.row ≡ w.row + 1)
row_grows w v peer o result is new e =
    let h = opened_wrong w peer o (sym is ∙ ok_is result coming.Wrong e) in
    (h.0, ap (λ (z : Wrongs). z.row) new ∙ h.1)

-- ---- one after the other

pub passed_then : (opens : Opening) (u v w : Wrongs) (a b c : Option (List Traffic)) (xs ys none handed : List Traffic) → none ≡ []
    → IsPassed opens u v a b xs none → IsPassed opens v w b c ys handed → IsPassed opens u w a c (xs ++ ys) handed
passed_then opens u v w a b c xs ys none handed nil h k = record {
  told = grows_then a b c xs ys h.told k.told;
  row = k.row ∙ ap (λ (n : ℕ). row_of opens n ys) h.row ∙ sym (row_append opens u.row xs ys);
  all = k.all ∙ ap (λ (n : ℕ). all_of opens n ys) h.all ∙ sym (all_append opens u.all xs ys);
  handed_is =
      k.handed_is
      ∙ ap (λ (n : ℕ). told_from opens n ys) h.row
      ∙ ap (λ (l : List Traffic). l ++ told_from opens (row_of opens u.row xs) ys) (sym nil ∙ h.handed_is)
      ∙ sym (told_append opens u.row xs ys);
}

heard_append : (keys : List (Option Key)) (speakers : List (Option ℕ)) (xs ys : List Traffic) → heard_all keys speakers (xs ++ ys) ≡ heard_all keys (heard_all keys speakers xs) ys
heard_append keys speakers [] ys = refl
heard_append keys speakers (t ∷ ts) ys = heard_append keys (heard_one keys speakers t) ts ys

abbrev wrong_handed_of : (into : List ℕ) (r : Result Coming PortFault) (c : Coming) → r ≡ Ok c → c ≡ coming.Wrong → handed_of into r ≡ []
wrong_handed_of into r c is wrong = ap (handed_of into) is ∙ ap (handed_coming into) wrong

pub host_then : (keys keys' : List (Option Key)) (u v w : Wrongs) (a b c : Option (List Traffic)) (into : List ℕ) (r : Result Coming PortFault) (wrong : Coming) (handed : List Traffic) (s t z : List (Option ℕ))
    → keys' ≡ keys → r ≡ Ok wrong → wrong ≡ coming.Wrong → HostPasses keys u v a b (handed_of into r) s t → HostPasses keys' v w b c handed t z → HostPasses keys u w a c handed s z
host_then keys keys' u v w a b c into r wrong handed s t z same is drops h k =
    let k' = subst (λ (ks : List (Option Key)). HostPasses ks v w b c handed t z) same k in (
      h.0 ++ k'.0,
      passed_then (host_opens keys) u v w a b c h.0 k'.0 (handed_of into r) handed (wrong_handed_of into r wrong is drops) h.1 k'.1,
      k'.2 ∙ ap (λ (l : List (Option ℕ)). heard_all keys l k'.0) h.2 ∙ sym (heard_append keys s h.0 k'.0),
    )

pub viewer_then : (key key' : List ℕ) (u v w : Wrongs) (a b c : Option (List Traffic)) (into : List ℕ) (r : Result Coming PortFault) (wrong : Coming) (handed : List Traffic)
    → key' ≡ key → r ≡ Ok wrong → wrong ≡ coming.Wrong → ViewerPasses key u v a b (handed_of into r) → ViewerPasses key' v w b c handed → ViewerPasses key u w a c handed
viewer_then key key' u v w a b c into r wrong handed same is drops h k =
    let k' = subst (λ (ks : List ℕ). ViewerPasses ks v w b c handed) same k in
    (h.0 ++ k'.0, passed_then (viewer_opens key) u v w a b c h.0 k'.0 (handed_of into r) handed (wrong_handed_of into r wrong is drops) h.1 k'.1)

-- ---- what a port records

abbrev pub Got : (opens : Opening) → (n m : ℕ) → (a b : Option (List Traffic)) → (into : List ℕ) → Result (Option (ℕ × ℕ)) PortFault → Type 0
Got opens n m a b into result =
    MatchResult result
    (λ came. MatchOption came (Grows (told_in opens n a) (told_in opens m b) (Nothing ∷ []))
    (λ r. (r.1 ≤ max_received) × Grows (told_in opens n a) (told_in opens m b) (Received (record { peer = r.0; bytes = take r.1 into }) ∷ [])))
    (λ _. Grows (told_in opens n a) (told_in opens m b) [])

module _ (opens : Opening) (w v : Wrongs) (a b : Option (List Traffic)) (passed : List Traffic) (into : List ℕ) where
  recorded : (handed : List Traffic) → IsPassed opens w v a b passed handed → Grows (told_in opens w.row a) (told_in opens v.row b) handed
  recorded handed p = subst (λ (l : List Traffic). Grows (told_in opens w.row a) (told_in opens v.row b) l) (sym p.handed_is) (grows_sealed opens w.row v.row a b passed p.row p.told)

  pub got : (result : Result (Option (ℕ × ℕ)) PortFault) → IfOk result (λ o. IfSome o (λ r. r.1 ≤ max_received))
      → IsPassed opens w v a b passed (handed_in into result) → Got opens w.row v.row a b into result
  got (Ok None) most p = recorded (Nothing ∷ []) p
  got (Ok (Some r)) most p = (most, recorded (came r.0 (take r.1 into)) p)
  got (Err fault) most p = recorded [] p

abbrev pub GotWith : (opens new : Opening) → (n m : ℕ) → (a b : Option (List Traffic)) → (into : List ℕ) → Result (Option (ℕ × ℕ)) PortFault → Type 0
GotWith opens new n m a b into result =
    MatchResult result
    (λ came. MatchOption came (Grows (told_in opens n a) (told_in new m b) (Nothing ∷ []))
    (λ r. (r.1 ≤ max_received) × Grows (told_in opens n a) (told_in new m b) (Received (record { peer = r.0; bytes = take r.1 into }) ∷ [])))
    (λ _. Grows (told_in opens n a) (told_in new m b) [])

pub host_got : (keys keys' : List (Option Key)) (w v : Wrongs) (a b : Option (List Traffic)) (into : List ℕ) (s t : List (Option ℕ)) (result : Result (Option (ℕ × ℕ)) PortFault)
    → keys' ≡ keys → IfOk result (λ o. IfSome o (λ r. r.1 ≤ max_received)) → HostPasses keys w v a b (handed_in into result) s t
    → GotWith (host_opens keys) (host_opens keys') w.row v.row a b into result
host_got keys keys' w v a b into s t result same most h =
    subst (λ (ks : List (Option Key)). GotWith (host_opens keys) (host_opens ks) w.row v.row a b into result) (sym same)
    (got (host_opens keys) w v a b h.0 into result most h.1)

pub viewer_got : (key key' : List ℕ) (w v : Wrongs) (a b : Option (List Traffic)) (into : List ℕ) (result : Result (Option (ℕ × ℕ)) PortFault)
    → key' ≡ key → IfOk result (λ o. IfSome o (λ r. r.1 ≤ max_received)) → ViewerPasses key w v a b (handed_in into result)
    → GotWith (viewer_opens key) (viewer_opens key') w.row v.row a b into result
viewer_got key key' w v a b into result same most h =
    subst (λ (ks : List ℕ). GotWith (viewer_opens key) (viewer_opens ks) w.row v.row a b into result) (sym same)
    (got (viewer_opens key) w v a b h.0 into result most h.1)

-- ---- what is sent

sent : (opens : Opening) (w v : Wrongs) (a b : Option (List Traffic)) (peer : ℕ) (key : List ℕ) (d : Direction) (bytes : List ℕ) (result : Result (Unit {0}) PortFault) → v ≡ w
    → OnOk result (Grows a b (sealed_to peer key d bytes)) → OnOk result (Grows (told_in opens w.row a) (told_in opens v.row b) (Sent (record { peer = peer; bytes = bytes }) ∷ []))
sent opens w v a b peer key d bytes (Err fault) same g = tt
sent opens w v a b peer key d bytes (Ok done) same g =
    let row : v.row ≡ w.row = ap (λ (z : Wrongs). z.row) same in
    let is : front_of (bytes ++ seal_of key d bytes) ≡ bytes = front key d bytes (bytes ++ seal_of key d bytes) refl in
    let all : told_from opens w.row (sealed_to peer key d bytes) ≡ Sent (record { peer = peer; bytes = bytes }) ∷ [] = ap (λ (t : List ℕ). Sent (record { peer = peer; bytes = t }) ∷ []) is in
    subst (λ (l : List Traffic). Grows (told_in opens w.row a) (told_in opens v.row b) l) all (grows_sealed opens w.row v.row a b (sealed_to peer key d bytes) row g)

abbrev pub SentWith : (opens new : Opening) → (n m : ℕ) → (a b : Option (List Traffic)) → (peer : ℕ) → List ℕ → Result (Unit {0}) PortFault → Type 0
SentWith opens new n m a b peer bytes result = OnOk result (Grows (told_in opens n a) (told_in new m b) (Sent (record { peer = peer; bytes = bytes }) ∷ []))

pub host_sent : (keys keys' : List (Option Key)) (w v : Wrongs) (a b : Option (List Traffic)) (peer : ℕ) (key : List ℕ) (d : Direction) (bytes : List ℕ) (result : Result (Unit {0}) PortFault)
    → keys' ≡ keys → v ≡ w → OnOk result (Grows a b (sealed_to peer key d bytes)) → SentWith (host_opens keys) (host_opens keys') w.row v.row a b peer bytes result
host_sent keys keys' w v a b peer key d bytes result same row g =
    subst (λ (ks : List (Option Key)). SentWith (host_opens keys) (host_opens ks) w.row v.row a b peer bytes result) (sym same)
    (sent (host_opens keys) w v a b peer key d bytes result row g)

pub viewer_sent : (own own' : List ℕ) (w v : Wrongs) (a b : Option (List Traffic)) (peer : ℕ) (key : List ℕ) (d : Direction) (bytes : List ℕ) (result : Result (Unit {0}) PortFault)
    → own' ≡ own → v ≡ w → OnOk result (Grows a b (sealed_to peer key d bytes)) → SentWith (viewer_opens own) (viewer_opens own') w.row v.row a b peer bytes result
viewer_sent own own' w v a b peer key d bytes result same row g =
    subst (λ (ks : List ℕ). SentWith (viewer_opens own) (viewer_opens ks) w.row v.row a b peer bytes result) (sym same)
    (sent (viewer_opens own) w v a b peer key d bytes result row g)
