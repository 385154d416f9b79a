-- The chains that a viewer knows, and what follows of a step.
use Rattle.std.proofs.Common.{◌≡◌, ℕ, zero, suc, ◌-◌, ◌≤◌, Bool, true, false, cond, List, [], ◌∷◌, ◌++◌, Option, Some, None, inl, inr, refl, sym, ap, subst, ◌∙◌, arith, append-nil}
use Rattle.std.specs.Prelude.{IfSome, nat_eq, nat_le, slice_get}
use Rattle.std.specs.List.{find}
use Rattle.std.specs.Option.{option_map}
use Rattle.std.specs.Cmp.Lexicographic.{pointwise, bytes_decides}
use Rattle.std.proofs.lemmas.Bool.{cases_Bool, leb-true, le-leb, cond-true}
use Rattle.std.proofs.lemmas.Option.{none-some, same_Some}
use Rattle.share_wire.specs.Datagram.{datagram}
use Rattle.share_wire.specs.declared.message.Body.{Body}
use Rattle.share_wire.specs.declared.message.Message.{Message}
use Rattle.share_entries.specs.Chain.{link}
use Rattle.share_session.specs.declared.message.Body2.TheVariants as body
use Rattle.share_session.specs.declared.message.Input2.{Input2}
use Rattle.share_session.specs.declared.prefix.Prefix.{Prefix}
use Rattle.share_session.specs.declared.message.Message2.{Message2}
use Rattle.share_session.specs.declared.message.Message2.TheVariants.{Said, Hello, Welcome}
use Rattle.share_session.specs.Heard.{as_body, heard}
use Rattle.share_runs.specs.declared.known.KnownList.{KnownList}
use Rattle.share_runs.specs.declared.step.RunStep.{RunStep}
use Rattle.share_runs.specs.declared.step.RunStep.TheVariants as step
use Rattle.share_runs.specs.declared.viewer_run.Early.{Early}
use Rattle.share_runs.specs.declared.viewer_run.ViewerRun.{ViewerRun}
use Rattle.share_runs.specs.Known.{IsOf, chain_in, is_early}
use Rattle.share_runs.specs.Steps.{after_step, input_step, said_step, step_of}
use Rattle.share_runs.specs.Hearing.{Changes, KnowsMore, MayHold, IsDue, IsGathered, IsHeard, IsNext, IsOfList, IsTaken, Keeps, early_of, early_said, is_due, text_of}

-- ---- chains

get_more : (xs ys : List (List ℕ)) (n : ℕ) (c : List ℕ) → slice_get xs n ≡ Some c → slice_get (xs ++ ys) n ≡ Some c
get_more [] ys n c e = absurd (none-some c e)
get_more (x ∷ xs) ys zero c e = e
get_more (x ∷ xs) ys (suc n) c e = get_more xs ys n c e

get_next : (xs : List (List ℕ)) (x : List ℕ) (n : ℕ) (c : List ℕ) → slice_get xs n ≡ Some c → slice_get xs (suc n) ≡ None → slice_get (xs ++ x ∷ []) (suc n) ≡ Some x
get_next [] x n c e past = absurd (none-some c e)
get_next (y ∷ []) x zero c e past = refl
get_next (y ∷ z ∷ xs) x zero c e past = absurd (none-some z (sym past))
get_next (y ∷ xs) x (suc n) c e past = get_next xs x n c e past

in_reach : (from n : ℕ) (o : Option (List ℕ)) (c : List ℕ) → cond (nat_le from n) o None ≡ Some c → (nat_le from n ≡ true) × (o ≡ Some c)
in_reach from n o c = go (nat_le from n) where
  go : (b : Bool) → cond b o None ≡ Some c → (b ≡ true) × (o ≡ Some c)
  go true e = (refl, e)
  go false e = absurd (none-some c e)

pub chain_in_more : (from : ℕ) (xs ys : List (List ℕ)) (n : ℕ) (c : List ℕ) → chain_in from xs n ≡ Some c → chain_in from (xs ++ ys) n ≡ Some c
chain_in_more from xs ys n c e =
    let a = in_reach from n (slice_get xs (n - from)) c e in
    cond-true (nat_le from n) (slice_get (xs ++ ys) (n - from)) None a.0 ∙ get_more xs ys (n - from) c a.1

pub chain_in_next : (from : ℕ) (xs : List (List ℕ)) (x : List ℕ) (n : ℕ) (c : List ℕ) → chain_in from xs (n - 1) ≡ Some c → chain_in from xs n ≡ None → chain_in from (xs ++ x ∷ []) n ≡ Some x
chain_in_next from xs x zero c e past = absurd (none-some c (sym past ∙ e))
chain_in_next from xs x (suc m) c e past =
    let back : suc m - 1 ≡ m = omega arith in
    let a = in_reach from m (slice_get xs (m - from)) c (subst (λ k. chain_in from xs k ≡ Some c) back e) in
    let low : from ≤ m = leb-true from m a.0 in
    let high : nat_le from (suc m) ≡ true = le-leb from (suc m) (omega (arith, low)) in
    let at : suc m - from ≡ suc (m - from) = omega (arith, low) in
    let none : slice_get xs (suc (m - from)) ≡ None = ap (slice_get xs) (sym at) ∙ sym (cond-true (nat_le from (suc m)) (slice_get xs (suc m - from)) None high) ∙ past in
    cond-true (nat_le from (suc m)) (slice_get (xs ++ x ∷ []) (suc m - from)) None high
    ∙ ap (slice_get (xs ++ x ∷ [])) at
    ∙ get_next xs x (m - from) c a.1 none

-- ---- what is handed on

text_heard : (o : Option Message) (bytes : List ℕ) → Some bytes ≡ option_map datagram o → (message : Message) × (o ≡ Some message) × (bytes ≡ datagram message)
text_heard None bytes e = absurd (none-some bytes (sym e))
text_heard (Some message) bytes e = (message, refl, same_Some bytes (datagram message) e)

none_handed : {P : Type 0} (bytes : List ℕ) → Some bytes ≡ None → P
none_handed bytes e = absurd (none-some bytes (sym e))

module _ (old new : ViewerRun) (from : ℕ) (session : List ℕ) (i : Input2) (bytes : List ℕ) where
  abbrev m : Message2
  m = Said session (body.Input i)

  abbrev before : Option (List ℕ)
  before = chain_in old.known.from old.known.chains.items (i.number - 1)

  abbrev after : Option (List ℕ)
  after = chain_in old.known.from old.known.chains.items i.number

  abbrev Told : Type 0
  Told = (Some bytes ≡ text_of old m) × IsOf new.known.from new.known.chains.items i

  next_told : before ≡ Some i.chain → after ≡ None → IsTaken step.Next old from m (Some bytes) new → Told
  next_told b a t =
      let moved : (n : ℕ) → chain_in new.known.from new.known.chains.items n ≡ chain_in old.known.from (old.known.chains.items ++ link i.chain i.entry ∷ []) n =
      λ n. ap (λ (f : ℕ). chain_in f new.known.chains.items n) t.1.from ∙ ap (λ (cs : List (List ℕ)). chain_in old.known.from cs n) t.1.chains in (
        t.0,
        record {
          before = moved (i.number - 1) ∙ chain_in_more old.known.from old.known.chains.items (link i.chain i.entry ∷ []) (i.number - 1) i.chain b;
          after = moved i.number ∙ chain_in_next old.known.from old.known.chains.items (link i.chain i.entry) i.number i.chain b a;
        },
      )

  again_told : (d : List ℕ) → before ≡ Some i.chain → after ≡ Some d → IsTaken (after_step (link i.chain i.entry) (Some d)) old from m (Some bytes) new → Told
  again_told d b a t = elim (cases_Bool (pointwise nat_eq (link i.chain i.entry) d)) [
    | inl hit ↦
        let t' = subst (λ (z : Bool). IsTaken (cond z step.HandOn step.OtherList) old from m (Some bytes) new) hit t in
        let same : link i.chain i.entry ≡ d = (bytes_decides (link i.chain i.entry) d).0 hit in
        let moved : (n : ℕ) → chain_in new.known.from new.known.chains.items n ≡ chain_in old.known.from old.known.chains.items n =
        λ n. ap (λ (r : ViewerRun). chain_in r.known.from r.known.chains.items n) t'.1 in (
          t'.0,
          record {
            before = moved (i.number - 1) ∙ b;
            after = moved i.number ∙ a ∙ ap (λ (z : List ℕ). let o : Option (List ℕ) = Some z in o) (sym same);
          },
        )
    | inr miss ↦
        let t' = subst (λ (z : Bool). IsTaken (cond z step.HandOn step.OtherList) old from m (Some bytes) new) miss t in
        none_handed bytes t'.0
  ]

  after_told : (a : Option (List ℕ)) → before ≡ Some i.chain → after ≡ a → IsTaken (after_step (link i.chain i.entry) a) old from m (Some bytes) new → Told
  after_told None b a t = next_told b a t
  after_told (Some d) b a t = again_told d b a t

  input_told : (early : Bool) (o : Option (List ℕ)) → before ≡ o → IsTaken (input_step early o after i) old from m (Some bytes) new → Told
  input_told true None b t = none_handed bytes t.0
  input_told false None b t = none_handed bytes t.0
  input_told early (Some c) b t = elim (cases_Bool (pointwise nat_eq i.chain c)) [
    | inl hit ↦
        let same : i.chain ≡ c = (bytes_decides i.chain c).0 hit in
        let t' = subst (λ (z : Bool). IsTaken (cond z (after_step (link i.chain i.entry) after) step.OtherList) old from m (Some bytes) new) hit t in
        after_told after (b ∙ ap (λ (z : List ℕ). let o : Option (List ℕ) = Some z in o) (sym same)) refl t'
    | inr miss ↦
        let t' = subst (λ (z : Bool). IsTaken (cond z (after_step (link i.chain i.entry) after) step.OtherList) old from m (Some bytes) new) miss t in
        none_handed bytes t'.0
  ]

-- a step that hands on hands on what is heard
hands_on_text : (s : RunStep) (old new : ViewerRun) (from : ℕ) (m : Message2) (bytes : List ℕ) → IsTaken s old from m (Some bytes) new → Some bytes ≡ text_of old m
hands_on_text step.HandOn old new from m bytes t = t.0
hands_on_text step.Next old new from m bytes t = t.0
hands_on_text step.Hold old new from m bytes t = none_handed bytes t.0
hands_on_text step.Gather old new from m bytes t = t.0
hands_on_text step.Drop old new from m bytes t = none_handed bytes t.0
hands_on_text step.OtherRun old new from m bytes t = none_handed bytes t.0
hands_on_text step.OtherList old new from m bytes t = none_handed bytes t.0

-- of another session, or beyond a world's limits, nothing is handed on
said_told : (old new : ViewerRun) (from : ℕ) (session : List ℕ) (i : Input2) (bytes : List ℕ) (o : Option Body)
    → IsTaken (said_step old.known (body.Input i) o) old from (Said session (body.Input i)) (Some bytes) new
    → IsOf new.known.from new.known.chains.items i
said_told old new from session i bytes None t = none_handed bytes t.0
said_told old new from session i bytes (Some b) t =
    (input_told old new from session i bytes (is_early old.known.from old.known.chains.items i.number) (chain_in old.known.from old.known.chains.items (i.number - 1)) refl t).1

of_list : (old new : ViewerRun) (from : ℕ) (m : Message2) (bytes : List ℕ) → IsTaken (step_of old.session old.known m) old from m (Some bytes) new → IsOfList new.known m
of_list old new from (Said session (body.Input i)) bytes t = elim (cases_Bool (pointwise nat_eq session old.session)) [
  | inl hit ↦ said_told old new from session i bytes (as_body (body.Input i))
      (subst (λ (z : Bool). IsTaken (cond z (said_step old.known (body.Input i) (as_body (body.Input i))) step.OtherRun) old from (Said session (body.Input i)) (Some bytes) new) hit t)
  | inr miss ↦
      let t' = subst (λ (z : Bool). IsTaken (cond z (said_step old.known (body.Input i) (as_body (body.Input i))) step.OtherRun) old from (Said session (body.Input i)) (Some bytes) new) miss t in
      none_handed bytes t'.0
]
of_list old new from (Said session (body.Offer o)) bytes t = tt
of_list old new from (Said session (body.Ask a)) bytes t = tt
of_list old new from (Said session (body.Ack a)) bytes t = tt
of_list old new from (Said session (body.Floor n)) bytes t = tt
of_list old new from (Said session (body.Piece p)) bytes t = tt
of_list old new from (Hello h) bytes t = tt
of_list old new from (Welcome w) bytes t = tt

pub is_heard : (old new : ViewerRun) (from : ℕ) (m : Message2) (bytes : List ℕ) → IsTaken (step_of old.session old.known m) old from m (Some bytes) new → IsHeard old.session old.mark new.known m bytes
is_heard old new from m bytes t =
    let h = text_heard (heard old.session old.mark m) bytes (hands_on_text (step_of old.session old.known m) old new from m bytes t) in
    record { message = h.0; is_heard = h.1; text = h.2; of_list = of_list old new from m bytes t }

pub heard_of : {A : Type 0} (items : A → List ℕ) (o : Option A) (old new : ViewerRun) (from : ℕ) (m : Message2) → IsTaken (step_of old.session old.known m) old from m (option_map items o) new → IfSome o (λ a. IsHeard old.session old.mark new.known m (items a))
heard_of items None old new from m t = tt
heard_of items (Some a) old new from m t = is_heard old new from m (items a) t

pub due_taken : {A : Type 0} (items : A → List ℕ) (xs ys : List Early) (o : Option Early) (e : Early) (r : Option A) (a : A) (old new : ViewerRun)
    → ys ≡ xs → o ≡ find (is_due old.known) ys → o ≡ Some e → r ≡ Some a
    → IsTaken (step_of old.session old.known (early_said old e)) old e.from (early_said old e) (option_map items r) new
    → IsDue (find (is_due old.known) xs) old (Some (e.from, items a)) new
due_taken {A} items xs ys o e r a old new same found is got t =
    let at : find (is_due old.known) xs ≡ Some e = ap (λ (zs : List Early). find (is_due old.known) zs) (sym same) ∙ sym found ∙ is in
    let handed : Option (ℕ × List ℕ) = Some (e.from, items a) in
    let taken = subst (λ (z : Option A). IsTaken (step_of old.session old.known (early_said old e)) old e.from (early_said old e) (option_map items z) new) got t in
    subst (λ (z : Option Early). IsDue z old handed new) (sym at) (taken, refl)

-- ---- what is kept

grows_same : (old new : KnownList) → new.from ≡ old.from → (more : List (List ℕ)) → new.chains.items ≡ old.chains.items ++ more → KnowsMore old new
grows_same old new f more e = inr (f, more, e)

holds_same : (xs more ys : List Early) → ys ≡ xs → MayHold xs more ys
holds_same xs more ys e = inr e

kept_same : (old new : ViewerRun) (from : ℕ) (m : Message2) → new ≡ old → Keeps old from m new
kept_same old new from m e = record {
  mark = ap (λ (r : ViewerRun). r.mark) e;
  session = ap (λ (r : ViewerRun). r.session) e;
  grows = grows_same old.known new.known (ap (λ (r : ViewerRun). r.known.from) e) [] (ap (λ (r : ViewerRun). r.known.chains.items) e ∙ sym (append-nil old.known.chains.items));
  held = holds_same old.held.items (early_of from m) new.held.items (ap (λ (r : ViewerRun). r.held.items) e);
}

kept_changed : (old new : ViewerRun) (from : ℕ) (m : Message2) (next : List (List ℕ)) (more : List Prefix) → Changes old new next more → Keeps old from m new
kept_changed old new from m next more c = record {
  mark = c.mark;
  session = c.session;
  grows = grows_same old.known new.known c.from next c.chains;
  held = holds_same old.held.items (early_of from m) new.held.items c.held;
}

kept_next : (old new : ViewerRun) (from : ℕ) (m : Message2) (handed : Option (List ℕ)) → IsNext old m handed new → Keeps old from m new
kept_next old new from m None t = kept_changed old new from m _ _ t
kept_next old new from m (Some bytes) t = kept_changed old new from m _ _ t.1

kept_gathered : (old new : ViewerRun) (from : ℕ) (m : Message2) (handed : Option (List ℕ)) → IsGathered old m handed new → Keeps old from m new
kept_gathered old new from m None t = kept_changed old new from m _ _ t
kept_gathered old new from m (Some bytes) t = kept_changed old new from m _ _ t.1

pub keeps : (s : RunStep) (old new : ViewerRun) (from : ℕ) (m : Message2) (handed : Option (List ℕ)) → IsTaken s old from m handed new → Keeps old from m new
keeps step.HandOn old new from m handed t = kept_same old new from m t.1
keeps step.Next old new from m handed t = kept_next old new from m handed t
keeps step.Hold old new from m handed t = record {
  mark = ap (λ (r : ViewerRun). r.mark) t.1;
  session = ap (λ (r : ViewerRun). r.session) t.1;
  grows = grows_same old.known new.known (ap (λ (r : ViewerRun). r.known.from) t.1) [] (ap (λ (r : ViewerRun). r.known.chains.items) t.1 ∙ sym (append-nil old.known.chains.items));
  held = t.2;
}
keeps step.Gather old new from m handed t = kept_gathered old new from m handed t
keeps step.Drop old new from m handed t = kept_same old new from m t.1
keeps step.OtherRun old new from m handed t = kept_same old new from m t.1
keeps step.OtherList old new from m handed t = record {
  mark = ap (λ (r : ViewerRun). r.mark) t.1;
  session = ap (λ (r : ViewerRun). r.session) t.1;
  grows = grows_same old.known new.known (ap (λ (r : ViewerRun). r.known.from) t.1) [] (ap (λ (r : ViewerRun). r.known.chains.items) t.1 ∙ sym (append-nil old.known.chains.items));
  held = holds_same old.held.items (early_of from m) new.held.items (ap (λ (r : ViewerRun). r.held.items) t.1);
}
