-- Statements and bodies: the tree does what the text does.
use Rattle.std.proofs.Common.{◌≡◌, ℕ, false, List, [], ◌∷◌, ◌++◌, Ok, Err, refl, ap, sym, ◌∙◌, subst}
use Rattle.std.proofs.lemmas.List.{append-nil}
use Rattle.classic_tree.specs.declared.tree.BodyItem.TheOpen.{Statement-F}
use Rattle.classic_tree.specs.declared.tree.ProtoText.{ProtoText}
use Rattle.classic_tree.specs.declared.tree.RouteText.{RouteText}
use Rattle.classic_tree.specs.declared.tree.Statement.TheVariants as text_statement
use Rattle.proto_flat.specs.declared.fault.ExpandFault.{ExpandFault}
use Rattle.proto_meaning.specs.Limits.{Outcome, and_then}
use Rattle.proto_meaning.specs.Sight.{Sight, Look, and_see, each}
use Rattle.proto_meaning.specs.Flat as flat
use Rattle.proto_meaning.specs.Flat.{Walk, Does, ◌>>=◌, pure, comes, see, through, Node, Stated, Proto, in_body}
use Rattle.proto_meaning.proofs.SightLaw.{Any, Follows, GoodStated, bared, then_still}
use Rattle.proto_meaning.proofs.Trees.{statement-proto}
use Rattle.proto_meaning.specs.trees.Meaning.{quiet}
use Rattle.proto_meaning.specs.trees.Resolved.{Seen}
use Rattle.proto_meaning.proofs.Same.{Same, seen, hidden, never, in_bared, same_then, same_last, same_wrong, same_passed}
use Rattle.proto_meaning.proofs.Good.{every_proto, proto_does}

-- where the nodes of a statement go: behind the roots before, or the first of a body stands for the instance
pub record Puts (put : Stated → List ℕ → Does (List ℕ)) : Type 0 where
  pub same : (s : Sight) (m n : Stated) → Same s m.1.does n.1.does → (x : List ℕ) → Same s (put m x) (put n x)
  pub follows : (m : Stated) → GoodStated m → (x : List ℕ) → Follows Any (put m x) m.1.sees
  -- a statement that gives no node
  pub none : (m : Stated) (p : Look) (x : List ℕ) (w : Walk) → m.1.does ≡ (see p >>= λ _. pure []) → put m x w ≡ (see p >>= λ _. pure x) w
  pub fails : (m : Stated) (e : ExpandFault) (x : List ℕ) (w : Walk) → m.1.does ≡ (λ v. comes (Err e)) → put m x w ≡ comes (Err e)

-- ---- bodies

abbrev helping : ℕ → List ℕ → List ℕ → Does (List ℕ)
helping k ks ns = λ w. comes (Ok (k ∷ ks, record w { put = record w.put { helpers = w.put.helpers ++ ns } }))

abbrev ended : List ℕ → Walk → Outcome (List ℕ × Walk)
ended ns w = comes (Ok (ns, w))

-- a statement that gives no node, and then
abbrev empty_then : (List ℕ → Does (List ℕ)) → Walk → Seen → Outcome (List ℕ × Walk)
empty_then f w q = and_then (and_then (seen w q) (λ p. pure [] p.1)) (λ p. f p.0 p.1)

abbrev then_pure : List ℕ → Walk → Seen → Outcome (List ℕ × Walk)
then_pure x w q = and_then (seen w q) (λ p. pure x p.1)

put_body_same : (s : Sight) (m n : Stated) → Same s m.1.does n.1.does → (x : List ℕ) → Same s (in_body m x) (in_body n x)
put_body_same s m n h [] = h
put_body_same s m n h (k ∷ ks) =
    same_last m.1.does n.1.does (helping k ks) (helping k ks) s h (λ ns w. refl)

put_body_follows : (m : Stated) → GoodStated m → (x : List ℕ) → Follows Any (in_body m x) m.1.sees
put_body_follows m h [] = h.follows
put_body_follows m h (k ∷ ks) =
    then_still Any Any m.1.does (helping k ks) m.1.sees h.follows (λ ns _ w. (tt, refl))

helped : (k : ℕ) (ks : List ℕ) (w : Walk) (q : Seen) → empty_then (helping k ks) w q ≡ then_pure (k ∷ ks) w q
helped k ks w (Ok t) = ap (λ hs. ended (k ∷ ks) (record w { sight = t; put = record w.put { helpers = hs } })) (append-nil w.put.helpers)
helped k ks w (Err e) = refl

pub puts_in_body : Puts in_body
puts_in_body = record {
  same = put_body_same;
  follows = put_body_follows;
  none = by_first;
  fails = by_fault;
} where
  by_first : (m : Stated) (p : Look) (x : List ℕ) (w : Walk) → m.1.does ≡ (see p >>= λ _. pure []) → in_body m x w ≡ (see p >>= λ _. pure x) w
  by_first m p [] w e = ap (λ (d : Does (List ℕ)). d w) e
  by_first m p (k ∷ ks) w e =
      ap (λ (d : Does (List ℕ)). (d >>= helping k ks) w) e
      ∙ helped k ks w (p w.sight)

  by_fault : (m : Stated) (e : ExpandFault) (x : List ℕ) (w : Walk) → m.1.does ≡ (λ v. comes (Err e)) → in_body m x w ≡ comes (Err e)
  by_fault m e [] w h = ap (λ (d : Does (List ℕ)). d w) h
  by_fault m e (k ∷ ks) w h = ap (λ (d : Does (List ℕ)). (d >>= helping k ks) w) h

-- ---- roots

abbrev pub put_root : Stated → List ℕ → Does (List ℕ)
put_root s roots = s.1.does >>= λ ns. pure (roots ++ ns)

rooted : (x : List ℕ) (w : Walk) (q : Seen) → empty_then (λ ns. pure (x ++ ns)) w q ≡ then_pure x w q
rooted x w (Ok t) = ap (λ ns. ended ns (record w { sight = t })) (append-nil x)
rooted x w (Err e) = refl

pub puts_roots : Puts put_root
puts_roots = record {
  same = λ s m n h x. same_last m.1.does n.1.does (λ ns. pure (x ++ ns)) (λ ns. pure (x ++ ns)) s h (λ ns w. refl);
  follows = λ m h x. then_still Any Any m.1.does (λ ns. pure (x ++ ns)) m.1.sees h.follows (λ ns _ w. (tt, refl));
  none = λ m p x w e. ap (λ (d : Does (List ℕ)). (d >>= λ ns. pure (x ++ ns)) w) e ∙ rooted x w (p w.sight);
  fails = λ m e x w h. ap (λ (d : Does (List ℕ)). (d >>= λ ns. pure (x ++ ns)) w) h;
}

-- ---- statements in turn

module _ (put : Stated → List ℕ → Does (List ℕ)) (puts : Puts put) where
  pub record StatementsSame (s : Sight) (ms ns : List Stated) (r : Seen) : Type 0 where
    pub sees : each (λ (x : Stated). x.1.sees) ms s ≡ r
    pub does : (x : List ℕ) → Same s (through put ms x) (through put ns x)

  pub no_statements_same : (s : Sight) → StatementsSame s [] [] (Ok s)
  no_statements_same s = record { sees = refl; does = λ x w e. refl }

  pub next_statements_same : (s u : Sight) (m n : Stated) (ms ns : List Stated) (r : Seen) → GoodStated m → m.1.sees s ≡ Ok u → Same s m.1.does n.1.does → StatementsSame u ms ns r → StatementsSame s (m ∷ ms) (n ∷ ns) r
  next_statements_same s u m n ms ns r good sees h rest =
      record {
        sees = ap (λ x. and_see x (each (λ (k : Stated). k.1.sees) ms)) sees ∙ rest.sees;
        does = λ x. same_then Any (put m x) (put n x) (through put ms) (through put ns) m.1.sees s (Ok u) good.free (puts.follows m good x) (ap bared sees) (puts.same s m n h x)
            (λ t e a _. subst (λ y. Same y (through put ms a) (through put ns a)) (in_bared u t e) (rest.does a));
      }

  pub last_statements_same : (s : Sight) (m n : Stated) (ms : List Stated) (e : ExpandFault) → GoodStated m → m.1.sees s ≡ Err e → Same s m.1.does n.1.does → StatementsSame s (m ∷ ms) (n ∷ []) (Err e)
  last_statements_same s m n ms e good sees h =
      record {
        sees = ap (λ x. and_see x (each (λ (k : Stated). k.1.sees) ms)) sees;
        does = λ x. same_then Any (put m x) (put n x) (through put ms) (through put []) m.1.sees s (Err e) good.free (puts.follows m good x) (ap bared sees) (puts.same s m n h x)
            (λ t y a _. never t e y);
      }

  abbrev stated_proto : ProtoText → Stated
  stated_proto p = flat.statement_step (Statement-F.Statement::Proto (flat.proto p))

  proto_stated_does : (p : ProtoText) → (stated_proto p).1.does ≡ (see (flat.proto p).sees >>= λ _. pure [])
  unfolding flat.statement_step
  proto_stated_does p = ap (λ (d : Does (Unit {0})). d >>= λ _. pure []) (proto_does p)

  proto_stated_sees : (p : ProtoText) (s : Sight) → (stated_proto p).1.sees s ≡ (flat.proto p).sees s
  unfolding flat.statement_step
  proto_stated_sees p s = refl

  same_by : {A : Type 0} (s : Sight) (m n k : Does A) → ((w : Walk) → m w ≡ n w) → Same s n k → Same s m k
  same_by s m n k e h w i = h w i ∙ ap hidden (sym (e w))

  declared_at : (p : ProtoText) (s u : Sight) (ms ns : List Stated) (r : Seen) → (flat.proto p).sees s ≡ Ok u → StatementsSame u ms ns r → StatementsSame s (stated_proto p ∷ ms) ns r
  declared_at p s u ms ns r e rest =
      record {
        sees = ap (λ x. and_see x (each (λ (k : Stated). k.1.sees) ms)) (proto_stated_sees p s ∙ e) ∙ rest.sees;
        does = λ x. same_by s (through put (stated_proto p ∷ ms) x) ((see (flat.proto p).sees >>= λ _. pure x) >>= through put ms) (through put ns x)
            (λ w. ap (λ o. and_then o (λ q. through put ms q.0 q.1)) (puts.none (stated_proto p) (flat.proto p).sees x w (proto_stated_does p)))
            (same_passed (flat.proto p).sees x (through put ms) (through put ns x) s u (every_proto p).free (ap bared e) (rest.does x));
      }

  pub declared_statements_same : (p : ProtoText) (s u : Sight) (ms ns : List Stated) (r : Seen) → (flat.proto p).sees s ≡ Ok u → StatementsSame u ms ns r → StatementsSame s (flat.statement (text_statement.Proto p) ∷ ms) ns r
  declared_statements_same p s u ms ns r e rest = subst (λ (x : Stated). StatementsSame s (x ∷ ms) ns r) (sym (statement-proto p {q = flat.proto p} refl)) (declared_at p s u ms ns r e rest)

  wrong_at : (p : ProtoText) (s : Sight) (ms : List Stated) (e : ExpandFault) (n : Stated) → n.1.does ≡ (λ w. comes (Err e)) → (flat.proto p).sees s ≡ Err e → StatementsSame s (stated_proto p ∷ ms) (n ∷ []) (Err e)
  wrong_at p s ms e n is h =
      record {
        sees = ap (λ x. and_see x (each (λ (k : Stated). k.1.sees) ms)) (proto_stated_sees p s ∙ h);
        does = λ x. same_by s (through put (stated_proto p ∷ ms) x) (see (flat.proto p).sees >>= λ _. (pure x >>= through put ms)) (through put (n ∷ []) x)
            (λ w. ap (λ o. and_then o (λ q. through put ms q.0 q.1)) (puts.none (stated_proto p) (flat.proto p).sees x w (proto_stated_does p)) ∙ by_result x w ((flat.proto p).sees w.sight))
            (same_wrong (flat.proto p).sees (λ _. (pure x >>= through put ms)) (through put (n ∷ []) x) s e (every_proto p).free (ap bared h)
            (λ v. ap (λ o. and_then o (λ q. through put [] q.0 q.1)) (puts.fails n e x v is)));
      } where
        by_result : (x : List ℕ) (w : Walk) (q : Seen) → and_then (then_pure x w q) (λ k. through put ms k.0 k.1) ≡ and_then (seen w q) (λ k. (pure x >>= through put ms) k.1)
        by_result x w (Ok t) = refl
        by_result x w (Err y) = refl

  pub wrong_statements_same : (p : ProtoText) (s : Sight) (ms : List Stated) (e : ExpandFault) → (flat.proto p).sees s ≡ Err e → StatementsSame s (flat.statement (text_statement.Proto p) ∷ ms) ((false, quiet (λ w. comes (Err e))) ∷ []) (Err e)
  wrong_statements_same p s ms e h =
      subst (λ (x : Stated). StatementsSame s (x ∷ ms) ((false, quiet (λ w. comes (Err e))) ∷ []) (Err e)) (sym (statement-proto p {q = flat.proto p} refl)) (wrong_at p s ms e (false, quiet (λ w. comes (Err e))) refl h)

-- ---- one statement

pub node_stated_sees : (m : Node) (s : Sight) → (flat.statement_step (Statement-F.Node m)).1.sees s ≡ m.sees s
unfolding flat.statement_step
node_stated_sees m s = refl

pub node_stated_same : (s : Sight) (m n : Node) → Same s m.does n.does → Same s (flat.statement_step (Statement-F.Node m)).1.does (flat.statement_step (Statement-F.Node n)).1.does
unfolding flat.statement_step
node_stated_same s m n h = same_last m.does n.does (λ k. pure (k ∷ [])) (λ k. pure (k ∷ [])) s h (λ k w. refl)

pub route_stated_sees : (r : RouteText) (s : Sight) → (flat.statement_step (Statement-F.Statement::Route r)).1.sees s ≡ Ok s
unfolding flat.statement_step
route_stated_sees r s = refl

pub route_stated_same : (s : Sight) (r : RouteText) → Same s (flat.statement_step (Statement-F.Statement::Route r)).1.does (flat.statement_step (Statement-F.Statement::Route r)).1.does
unfolding flat.statement_step
route_stated_same s r w e = refl
