-- What a port of a viewer in a run hands on, from one moment to a later one.
use Rattle.std.proofs.Common.{◌≡◌, ℕ, Bool, true, false, cond, List, [], ◌∷◌, ◌++◌, length, Option, Some, None, inl, inr, refl, sym, ap, subst, ◌∙◌, arith, append_assoc, append-nil}
use Rattle.std.specs.Prelude.{IfOk, IfSome, MatchOption, Result, Ok, Err, drop, filter, nat_eq, nat_lt}
use Rattle.std.specs.List.{AllByRecursion, find}
use Rattle.std.specs.Option.{option_map}
use Rattle.std.specs.Cmp.Lexicographic.{pointwise, bytes_decides}
use Rattle.std.proofs.lemmas.Bool.{cases_Bool}
use Rattle.std.proofs.lemmas.Option.{none-some, same_Some}
use Rattle.share_session.specs.declared.fault.DatagramFault.{DatagramFault}
use Rattle.share_session.specs.declared.message.Body2.{Body2}
use Rattle.share_session.specs.declared.message.Body2.TheVariants as body
use Rattle.share_session.specs.declared.message.Message2.{Message2}
use Rattle.share_session.specs.declared.message.Message2.TheVariants.{Said, Hello, Welcome}
use Rattle.share_session.specs.Datagram.{datagram}
use Rattle.share_session.specs.Heard.{as_body}
use Rattle.share_turns.specs.Told.{Grows}
use Rattle.share_turns.specs.declared.port.PortFault.{PortFault}
use Rattle.share_turns.specs.declared.traffic.Traffic.{Traffic}
use Rattle.share_turns.specs.declared.traffic.Traffic.TheVariants.{Received}
use Rattle.share_runs.specs.declared.known.KnownList.{KnownList}
use Rattle.share_runs.specs.declared.step.RunStep.TheVariants as step
use Rattle.share_runs.specs.declared.view_port.Handing.{Handing}
use Rattle.share_runs.specs.declared.view_port.Handing.TheVariants.{Dropped}
use Rattle.share_runs.specs.declared.viewer_run.Early.{Early}
use Rattle.share_runs.specs.declared.viewer_run.ViewerRun.{ViewerRun}
use Rattle.share_runs.specs.Hearing.{MayHold, IsDue, IsDueInput, IsHeard, IsReleased, IsTaken, KnowsMore, early_of, is_due, is_needed}
use Rattle.share_runs.specs.Port.{HasCome, HaveCome, IsRecorded, Hears, IsBytesTaken, handed_in, handed_of}
use Rattle.share_runs.specs.Steps.{said_step, step_of}
use Rattle.share_runs.proofs.Knowing.{is_heard, keeps}

pub grows_none : (a : Option (List Traffic)) → Grows a a []
grows_none None = tt
grows_none (Some xs) = sym (append-nil xs)

pub grows_then : (a b c : Option (List Traffic)) (xs ys : List Traffic) → Grows a b xs → Grows b c ys → Grows a c (xs ++ ys)
grows_then None b c xs ys h k = tt
grows_then (Some os) None c xs ys h k = absurd h
grows_then (Some os) (Some bs) None xs ys h k = absurd k
grows_then (Some os) (Some bs) (Some cs) xs ys h k = k ∙ ap (λ zs. zs ++ ys) h ∙ append_assoc os xs ys

grown : (a b : Option (List Traffic)) (xs passed : List Traffic) → a ≡ Some passed → Grows a b xs → b ≡ Some (passed ++ xs)
grown None b xs passed e g = absurd (none-some passed e)
grown (Some before) None xs passed e g = absurd g
grown (Some before) (Some after) xs passed e g = ap (λ (z : List Traffic). let o : Option (List Traffic) = Some z in o) (g ∙ ap (λ z. z ++ xs) (same_Some before passed e))

-- ---- what has come

abbrev AllCome : List Traffic → (session : List ℕ) → List Early → Type 0
AllCome passed session held = AllByRecursion (λ (e : Early). HasCome passed e.from (datagram (Said session (body.Input e.input)))) held

has_come_more : (passed more : List Traffic) (from : ℕ) (bytes : List ℕ) → HasCome passed from bytes → HasCome (passed ++ more) from bytes
has_come_more passed more from bytes h = (h.0, h.1 ++ more, ap (λ (z : List Traffic). z ++ more) h.2 ∙ append_assoc h.0 (Received (record { peer = from; bytes = bytes }) ∷ h.1) more)

all_come_more : (passed more : List Traffic) (session : List ℕ) (held : List Early) → AllCome passed session held → AllCome (passed ++ more) session held
all_come_more passed more session [] h = tt
all_come_more passed more session (e ∷ es) h = (has_come_more passed more e.from (datagram (Said session (body.Input e.input))) h.0, all_come_more passed more session es h.1)

all_come_append : (passed : List Traffic) (session : List ℕ) (xs ys : List Early) → AllCome passed session xs → AllCome passed session ys → AllCome passed session (xs ++ ys)
all_come_append passed session [] ys h k = k
all_come_append passed session (e ∷ es) ys h k = (h.0, all_come_append passed session es ys h.1 k)

all_come_early : (passed : List Traffic) (session : List ℕ) (from : ℕ) (b : Body2) → HasCome passed from (datagram (Said session b)) → AllCome passed session (early_of from (Said session b))
all_come_early passed session from (body.Input i) h = (h, tt)
all_come_early passed session from (body.Offer o) h = tt
all_come_early passed session from (body.Ask a) h = tt
all_come_early passed session from (body.Ack a) h = tt
all_come_early passed session from (body.Floor n) h = tt
all_come_early passed session from (body.Piece p) h = tt

all_come_found : (passed : List Traffic) (session : List ℕ) (p : Early → Bool) (xs : List Early) (e : Early) → AllCome passed session xs → find p xs ≡ Some e → HasCome passed e.from (datagram (Said session (body.Input e.input)))
all_come_found passed session p [] e h is = absurd (none-some e is)
all_come_found passed session p (x ∷ xs) e h is = go (p x) is (all_come_found passed session p xs e h.1) where
  go : (b : Bool) → cond b (let o : Option Early = Some x in o) (find p xs) ≡ Some e
      → (find p xs ≡ Some e → HasCome passed e.from (datagram (Said session (body.Input e.input))))
      → HasCome passed e.from (datagram (Said session (body.Input e.input)))
  go true same later = subst (λ (z : Early). HasCome passed z.from (datagram (Said session (body.Input z.input)))) (same_Some x e same) h.0
  go false same later = later same

all_come_rest : (passed : List Traffic) (session : List ℕ) (xs : List Early) → AllCome passed session xs → AllCome passed session (drop 1 xs)
all_come_rest passed session [] h = tt
all_come_rest passed session (e ∷ es) h = h.1

all_come_either : (passed : List Traffic) (session : List ℕ) (b : Bool) (xs ys : List Early) → AllCome passed session xs → AllCome passed session ys → AllCome passed session (cond b xs ys)
all_come_either passed session true xs ys h k = h
all_come_either passed session false xs ys h k = k

all_come_held : (passed : List Traffic) (session : List ℕ) (old more new : List Early) → AllCome passed session old → AllCome passed session more → MayHold old more new → AllCome passed session new
all_come_held passed session old more new h k (inl holds) =
    let all : AllCome passed session (old ++ more) = all_come_append passed session old more h k in
    subst (λ (z : List Early). AllCome passed session z) (sym holds)
    (all_come_either passed session (nat_lt 64 (length (old ++ more))) (drop 1 (old ++ more)) (old ++ more) (all_come_rest passed session (old ++ more) all) all)
all_come_held passed session old more new h k (inr same) = subst (λ (z : List Early). AllCome passed session z) (sym same) h

all_come_filtered : (passed : List Traffic) (session : List ℕ) (p : Early → Bool) (xs : List Early) → AllCome passed session xs → AllCome passed session (filter p xs)
all_come_filtered passed session p [] h = tt
all_come_filtered passed session p (x ∷ xs) h =
    all_come_either passed session (p x) (x ∷ filter p xs) (filter p xs) (h.0, all_come_filtered passed session p xs h.1) (all_come_filtered passed session p xs h.1)

-- ---- nothing is handed on, and nothing changes

knows_itself : (k : KnownList) → KnowsMore k k
knows_itself k = inr (refl, [], sym (append-nil k.chains.items))

hears_nothing : (r : ViewerRun) (a b : Option (List Traffic)) (xs : List Traffic) → Grows a b xs → Hears r r a b None
hears_nothing r a b xs g = record {
  mark = refl;
  session = refl;
  knows_more = knows_itself r.known;
  of_run = tt;
  recorded = λ k. record {
    passed = k.passed ++ xs;
    is = grown a b xs k.passed k.is g;
    held = all_come_more k.passed xs r.session r.held.items k.held;
  };
  came = λ k. tt;
}

pub hears_quiet : (old new : ViewerRun) (a b : Option (List Traffic)) (xs : List Traffic) (handed : Option (ℕ × List ℕ)) → handed ≡ None → new ≡ old → Grows a b xs → Hears old new a b handed
hears_quiet old new a b xs handed none same g =
    subst (λ (h : Option (ℕ × List ℕ)). Hears old new a b h) (sym none)
    (subst (λ (r : ViewerRun). Hears old r a b None) (sym same) (hears_nothing old a b xs g))

-- ---- a message of the viewer's session

-- it came, and what was held is there still
record Arrives (b : Option (List Traffic)) (old : ViewerRun) (from : ℕ) (m : Message2) : Type 0 where
  pub passed : List Traffic
  pub is : b ≡ Some passed
  pub held : HaveCome passed old
  pub has_come : HasCome passed from (datagram m)

module _ (old new : ViewerRun) (a b : Option (List Traffic)) (from : ℕ) (what : Body2) (arrives : IsRecorded a old → Arrives b old from (Said old.session what)) where
  abbrev m : Message2
  m = Said old.session what

  abbrev paired : List ℕ → ℕ × List ℕ
  paired t = (from, t)

  held_then : (passed : List Traffic) → HaveCome passed old → HasCome passed from (datagram m) → new.session ≡ old.session → MayHold old.held.items (early_of from m) new.held.items → HaveCome passed new
  held_then passed held come same holds =
      subst (λ (s : List ℕ). AllCome passed s new.held.items) (sym same)
      (all_come_held passed old.session old.held.items (early_of from m) new.held.items held (all_come_early passed old.session from what come) holds)

  heard_then : (text : List ℕ) → new.mark ≡ old.mark → new.session ≡ old.session → IsHeard old.session old.mark new.known m text → IsHeard new.session new.mark new.known m text
  heard_then text mark session h =
      subst (λ (z : List ℕ). IsHeard z new.mark new.known m text) (sym session)
      (subst (λ (z : List ℕ). IsHeard old.session z new.known m text) (sym mark) h)

  hears_said : (handed : Option (List ℕ)) → IsTaken (step_of old.session old.known m) old from m handed new → Hears old new a b (option_map paired handed)
  hears_said None t =
      let k = keeps (step_of old.session old.known m) old new from m None t in
      record {
        mark = k.mark;
        session = k.session;
        knows_more = k.grows;
        of_run = tt;
        recorded = λ r. let z = arrives r in record { passed = z.passed; is = z.is; held = held_then z.passed z.held z.has_come k.session k.held };
        came = λ r. tt;
      }
  hears_said (Some text) t =
      let k = keeps (step_of old.session old.known m) old new from m (Some text) t in
      let h = heard_then text k.mark k.session (is_heard old new from m text t) in
      record {
        mark = k.mark;
        session = k.session;
        knows_more = k.grows;
        of_run = (m, h);
        recorded = λ r. let z = arrives r in record { passed = z.passed; is = z.is; held = held_then z.passed z.held z.has_come k.session k.held };
        came = λ r. let z = arrives r in record { passed = z.passed; is = z.is; m = m; has_come = z.has_come; is_heard = h };
      }

-- ---- what is taken of bytes that came

module _ (old new : ViewerRun) (a b : Option (List Traffic)) (from : ℕ) (bytes : List ℕ) (handed : Option (List ℕ)) (g : Grows a b (Received (record { peer = from; bytes = bytes }) ∷ [])) where
  abbrev with_peer : List ℕ → ℕ × List ℕ
  with_peer t = (from, t)

  quiet : handed ≡ None → new ≡ old → Hears old new a b (option_map with_peer handed)
  quiet none same = hears_quiet old new a b (Received (record { peer = from; bytes = bytes }) ∷ []) (option_map with_peer handed) (ap (option_map with_peer) none) same g

  arrives_now : (what : Body2) → bytes ≡ datagram (Said old.session what) → IsRecorded a old → Arrives b old from (Said old.session what)
  arrives_now what found k =
      let more : List Traffic = Received (record { peer = from; bytes = bytes }) ∷ [] in
      let nil : List Traffic = [] in
      record {
        passed = k.passed ++ more;
        is = grown a b more k.passed k.is g;
        held = all_come_more k.passed more old.session old.held.items k.held;
        has_come = subst (λ (z : List ℕ). HasCome (k.passed ++ more) from z) found (k.passed, nil, refl);
      }

  taken_said : (session : List ℕ) (what : Body2) → bytes ≡ datagram (Said session what) → IsTaken (step_of old.session old.known (Said session what)) old from (Said session what) handed new → Hears old new a b (option_map with_peer handed)
  taken_said session what found t = elim (cases_Bool (pointwise nat_eq session old.session)) [
    | inl hit ↦
        let same : session ≡ old.session = (bytes_decides session old.session).0 hit in
        let t' = subst (λ (z : List ℕ). IsTaken (step_of old.session old.known (Said z what)) old from (Said z what) handed new) same t in
        let found' : bytes ≡ datagram (Said old.session what) = found ∙ ap (λ (z : List ℕ). datagram (Said z what)) same in
        hears_said old new a b from what (arrives_now what found') handed t'
    | inr miss ↦
        let t' = subst (λ (z : Bool). IsTaken (cond z (said_step old.known what (as_body what)) step.OtherRun) old from (Said session what) handed new) miss t in
        quiet t'.0 t'.1
  ]

  taken_message : (m : Message2) → bytes ≡ datagram m → IsTaken (step_of old.session old.known m) old from m handed new → Hears old new a b (option_map with_peer handed)
  taken_message (Said session what) found t = taken_said session what found t
  taken_message (Hello h) found t = quiet t.0 t.1
  taken_message (Welcome w) found t = quiet t.0 t.1

  pub hears_taken : (d : Result Message2 DatagramFault) → IfOk d (λ m. bytes ≡ datagram m) → IsBytesTaken d old from handed new → Hears old new a b (option_map with_peer handed)
  hears_taken (Ok m) found t = taken_message m found t
  hears_taken (Err fault) found t = quiet t.0 t.1

-- ---- a held input

abbrev from_with : (from : ℕ) → List ℕ → ℕ × List ℕ
from_with from t = (from, t)

handed_from : (from : ℕ) (handed : Option (ℕ × List ℕ)) → IfSome handed (λ h. h.0 ≡ from) → option_map (from_with from) (option_map (λ (h : ℕ × List ℕ). h.1) handed) ≡ handed
handed_from from None e = refl
handed_from from (Some h) e = ap (λ (z : ℕ). let o : Option (ℕ × List ℕ) = Some (z, h.1) in o) (sym e)

pub hears_due : (old new : ViewerRun) (a : Option (List Traffic)) (handed : Option (ℕ × List ℕ)) → IsDue (find (is_due old.known) old.held.items) old handed new → Hears old new a a handed
hears_due old new a handed d = go (find (is_due old.known) old.held.items) refl d where
  go : (o : Option Early) → find (is_due old.known) old.held.items ≡ o → IsDue o old handed new → Hears old new a a handed
  go None e t = hears_quiet old new a a [] handed t.0 t.1 (grows_none a)
  go (Some early) e t =
      subst (λ (h : Option (ℕ × List ℕ)). Hears old new a a h) (handed_from early.from handed t.1)
      (hears_said old new a a early.from (body.Input early.input)
      (λ k. record { passed = k.passed; is = k.is; held = k.held; has_come = all_come_found k.passed old.session (is_due old.known) old.held.items early k.held e })
      (option_map (λ (h : ℕ × List ℕ). h.1) handed) t.0)

-- ---- one after the other

front_none : (xs ys : List (List ℕ)) → xs ++ ys ≡ [] → xs ≡ []
front_none [] ys e = refl
front_none (x ∷ xs) ys e = absurd (omega (arith, ap length e))

knows_more_then : (x y z : KnownList) → KnowsMore x y → KnowsMore y z → KnowsMore x z
knows_more_then x y z (inl none) k = inl none
knows_more_then x y z (inr (from, more, e)) (inl none) = inl (front_none x.chains.items more (sym e ∙ none))
knows_more_then x y z (inr (from, more, e)) (inr (from', more', e')) = inr (from' ∙ from, more ++ more', e' ∙ ap (λ (cs : List (List ℕ)). cs ++ more') e ∙ append_assoc x.chains.items more more')

pub hears_then : (old mid new : ViewerRun) (a b c : Option (List Traffic)) (handed : Option (ℕ × List ℕ)) → Hears old mid a b None → Hears mid new b c handed → Hears old new a c handed
hears_then old mid new a b c handed h k = record {
  mark = k.mark ∙ h.mark;
  session = k.session ∙ h.session;
  knows_more = knows_more_then old.known mid.known new.known h.knows_more k.knows_more;
  of_run = k.of_run;
  recorded = λ r. k.recorded (h.recorded r);
  came = λ r. k.came (h.recorded r);
}

-- ---- what the viewer has is held no longer

hears_released : (old mid : ViewerRun) (a : Option (List Traffic)) → IsReleased old mid → Hears old mid a a None
hears_released old mid a r =
    let session : mid.session ≡ old.session = ap (λ (z : ViewerRun). z.session) r.0 in
    record {
      mark = ap (λ (z : ViewerRun). z.mark) r.0;
      session = session;
      knows_more = subst (λ (z : KnownList). KnowsMore old.known z) (sym (ap (λ (z : ViewerRun). z.known) r.0)) (knows_itself old.known);
      of_run = tt;
      recorded = λ k. record {
        passed = k.passed;
        is = k.is;
        held =
            subst (λ (s : List ℕ). AllCome k.passed s mid.held.items) (sym session)
            (subst (λ (z : List Early). AllCome k.passed old.session z) (sym r.1) (all_come_filtered k.passed old.session (is_needed old.known) old.held.items k.held));
      };
      came = λ k. tt;
    }

pub hears_next : (old new : ViewerRun) (a : Option (List Traffic)) (handed : Option (ℕ × List ℕ)) → IsDueInput old handed new → Hears old new a a handed
hears_next old new a handed (mid, released, due) = hears_then old mid new a a a handed (hears_released old mid a released) (hears_due mid new a handed due)

-- ---- for the calls of the port

pub at_some : {X : Type 0} (N : Type 0) (S : X → Type 0) (o : Option X) (x : X) → o ≡ Some x → MatchOption o N S → S x
at_some N S o x e t = subst (λ z. MatchOption z N S) e t

pub at_none : {X : Type 0} (N : Type 0) (S : X → Type 0) (o : Option X) → o ≡ None → MatchOption o N S → N
at_none N S o e t = subst (λ z. MatchOption z N S) e t

abbrev with_from : (from : ℕ) → List ℕ → ℕ × List ℕ
with_from from t = (from, t)

module _ {A : Type 0} (items : A → List ℕ) where
  abbrev both_from : (from : ℕ) → A → ℕ × List ℕ
  both_from from p = (from, items p)

  pairs : (from : ℕ) (r : Option A) → option_map (with_from from) (option_map items r) ≡ option_map (both_from from) r
  pairs from None = refl
  pairs from (Some p) = refl

  pub received_hears : (old new : ViewerRun) (a b : Option (List Traffic)) (from : ℕ) (bytes : List ℕ) (d : Result Message2 DatagramFault) (r : Option A) (handed : Option (ℕ × List ℕ))
      → Grows a b (Received (record { peer = from; bytes = bytes }) ∷ []) → IfOk d (λ m. bytes ≡ datagram m)
      → IsBytesTaken d old from (option_map items r) new → handed ≡ option_map (both_from from) r → Hears old new a b handed
  received_hears old new a b from bytes d r handed g found t is =
      subst (λ (h : Option (ℕ × List ℕ)). Hears old new a b h) (pairs from r ∙ sym is)
      (hears_taken old new a b from bytes (option_map items r) g d found t)

  abbrev both_of : ℕ × A → ℕ × List ℕ
  both_of h = (h.0, items h.1)

  pub due_hears : (old new : ViewerRun) (a : Option (List Traffic)) (o : Option (ℕ × A)) (x : ℕ × A) → o ≡ Some x
      → IsDueInput old (option_map both_of o) new → Hears old new a a (Some (x.0, items x.1))
  due_hears old new a o x is d =
      hears_next old new a (Some (x.0, items x.1)) (subst (λ (z : Option (ℕ × A)). IsDueInput old (option_map both_of z) new) is d)

  pub not_due_hears : (old new : ViewerRun) (a : Option (List Traffic)) (o : Option (ℕ × A)) → o ≡ None
      → IsDueInput old (option_map both_of o) new → Hears old new a a None
  not_due_hears old new a o is d =
      hears_next old new a None (subst (λ (z : Option (ℕ × A)). IsDueInput old (option_map both_of z) new) is d)

pub dropped_then : (old mid new : ViewerRun) (a b c : Option (List Traffic)) (r : Result Handing PortFault) (came : Handing) (handed : Option (ℕ × List ℕ)) → r ≡ Ok came → came ≡ Dropped
    → Hears old mid a b (handed_of r) → Hears mid new b c handed → Hears old new a c handed
dropped_then old mid new a b c r came handed is drops h k =
    hears_then old mid new a b c handed
    (subst (λ (z : Handing). Hears old mid a b (handed_in z)) drops (subst (λ (z : Result Handing PortFault). Hears old mid a b (handed_of z)) is h)) k
