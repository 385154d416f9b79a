-- Bodies, and nodes and prototypes at each depth: what is read is spelled so, and what is spelled so is read.
use Rattle.std.proofs.Common.{◌≡◌, ℕ, zero, suc, ◌<◌, ◌≤◌, List, length, Bool, false, Option, Some, None, Ok, refl, sym, ap, ◌∙◌, subst, ◌⊎◌, inl, inr, ⊎_elim, arith}
use Rattle.classic_lex.specs.Lexed.{Tok}
use Rattle.classic_rules.specs.Bounds.{is_script}
use Rattle.classic_tree.specs.declared.tree.BodyItem.{BodyItem}
use Rattle.classic_tree.specs.declared.tree.NodeText.{NodeText}
use Rattle.classic_tree.specs.declared.tree.NodeText.TheVariants as made
use Rattle.classic_tree.specs.declared.tree.ProtoText.{ProtoText}
use Rattle.classic_text.specs.declared.terminal.Terminal.{Terminal}
use Rattle.classic_text.specs.declared.terminal.Terminal.TheVariants as t
use Rattle.classic_text.specs.Terminal.{line}
use Rattle.classic_text.specs.Input.{Parser, and_then, kind, sees, expect, name}
use Rattle.classic_text.specs.Grammar.{body, proto_body, def_name, use_node, full_node, node_with, node_at, proto_body_at, proto_at}
use Rattle.classic_text.specs.Spells.{HasDef, IsBody, IsProtoBody, IsLayer, IsNode, IsProtoBodyAt, IsProto}
use Rattle.classic_text.proofs.Seen.{see, not_see}
use Rattle.classic_text.proofs.Steps.{ok_is, both, chosen, Is-kind, Is-shorter, IsName-kind, IsName-shorter, found_expect, only_expect, found_name, only_name}
use Rattle.classic_text.proofs.Values.{Knows, BeginsNode}
use Rattle.classic_text.proofs.Declarations as declarations
use Rattle.classic_text.proofs.Items.{known_body, known_proto_body}

-- ---- names of nodes

found_def : (def : Option (List ℕ)) (ts rest : List Tok) → def_name ts ≡ Ok (def, rest) → HasDef def ts rest
unfolding def_name
found_def def ts rest h =
    ⊎_elim (λ c. both (expect t.Def ts) _ (def, rest) c.1 (λ u a e h. both (name a) _ (def, rest) h (λ n b f h.
    subst (λ (y : Option (List ℕ) × List Tok). HasDef y.0 ts y.1) (ok_is _ _ h) (a, found_expect t.Def ts a (λ e. cc) e, found_name n a b f))))
    (λ c. subst (λ (y : Option (List ℕ) × List Tok). HasDef y.0 ts y.1) (ok_is _ _ c.1) refl)
    (chosen (sees t.Def ts) (and_then (expect t.Def ts) (λ u a. and_then (name a) (λ n b. Ok (Some n, b)))) (Ok (None, ts)) (Ok (def, rest)) h)

only_def : (def : Option (List ℕ)) (ts rest : List Tok) (k : Terminal) → kind rest ≡ k → (k ≡ t.Def → ⊥) → HasDef def ts rest → def_name ts ≡ Ok (def, rest)
unfolding def_name
only_def None ts rest k is apart h = rw (not_see t.Def ts (λ e. apart (sym is ∙ ap kind h ∙ e)), h) refl
only_def (Some n) ts rest k is apart h = rw (see t.Def ts (Is-kind t.Def ts h.0 h.1), only_expect t.Def ts h.0 h.1, only_name n h.0 rest h.2) refl

HasDef-shorter : (def : Option (List ℕ)) (ts rest : List Tok) → HasDef def ts rest → length rest ≤ length ts
HasDef-shorter None ts rest h = rw h (omega arith)
HasDef-shorter (Some n) ts rest h = omega (arith, Is-shorter t.Def ts h.0 h.1, IsName-shorter n h.0 rest h.2)

begins_def : (def : Option (List ℕ)) (ts rest : List Tok) → HasDef def ts rest → kind rest ≡ t.Name → (kind ts ≡ t.Name) ⊎ (kind ts ≡ t.Def)
begins_def None ts rest h k = inl (sym (ap kind h) ∙ k)
begins_def (Some n) ts rest h k = inr (Is-kind t.Def ts h.0 h.1)

-- ---- one layer of a node

module _ (inside : Bool → Parser (List BodyItem)) (Body : List ℕ → List BodyItem → List Tok → List Tok → Type 0) (known : (type : List ℕ) → Knows (inside (is_script type)) (Body type)) where
  found_use : (n : NodeText) (ts rest : List Tok) → use_node ts ≡ Ok (n, rest) → IsLayer ◌≡◌ Body n ts rest
  unfolding use_node
  found_use n ts rest h =
      both (expect t.Use ts) _ (n, rest) h (λ u a e h. both (name a) _ (n, rest) h (λ m b f h.
      subst (λ (y : NodeText × List Tok). IsLayer ◌≡◌ Body y.0 ts y.1) (ok_is (made.Use (line ts) m, b) (n, rest) h)
      (inl (record { at = line ts; name = m; is = refl; lined = refl; behind = a; word = found_expect t.Use ts a (λ e. cc) e; named = found_name m a b f }))))

  found_full : (n : NodeText) (ts rest : List Tok) → full_node inside ts ≡ Ok (n, rest) → IsLayer ◌≡◌ Body n ts rest
  unfolding full_node
  found_full n ts rest h =
      both (def_name ts) _ (n, rest) h (λ d a e h. both (name a) _ (n, rest) h (λ k b f h. both (inside (is_script k) b) _ (n, rest) h (λ is c g h.
      subst (λ (y : NodeText × List Tok). IsLayer ◌≡◌ Body y.0 ts y.1) (ok_is (made.Full (line ts) d k is, c) (n, rest) h)
      (inr (record { at = line ts; def = d; node_type = k; items = is; is = refl; lined = refl; behind_def = a; behind_type = b; defined = found_def d ts a e; typed = found_name k a b f; body = (known k).found is b c g })))))

  found_layer : (n : NodeText) (ts rest : List Tok) → node_with inside ts ≡ Ok (n, rest) → IsLayer ◌≡◌ Body n ts rest
  found_layer n ts rest h =
      ⊎_elim (λ c. found_use n ts rest c.1) (λ c. found_full n ts rest c.1) (chosen (sees t.Use ts) (use_node ts) (full_node inside ts) (Ok (n, rest)) h)

  only_layer : (n : NodeText) (ts rest : List Tok) → IsLayer ◌≡◌ Body n ts rest → node_with inside ts ≡ Ok (n, rest)
  unfolding use_node full_node
  only_layer n ts rest (inl h) =
      rw (see t.Use ts (Is-kind t.Use ts h.behind h.word), only_expect t.Use ts h.behind h.word, only_name h.name h.behind rest h.named, h.lined, h.is) refl
  only_layer n ts rest (inr h) =
      let is : kind h.behind_def ≡ t.Name = IsName-kind h.node_type h.behind_def h.behind_type h.typed in
      let no_use : sees t.Use ts ≡ false = not_see t.Use ts (λ e. ⊎_elim (λ n. let c : t.Name ≡ t.Use = sym n ∙ e in cc) (λ d. let c : t.Def ≡ t.Use = sym d ∙ e in cc) (begins_def h.def ts h.behind_def h.defined is)) in
      rw (no_use, only_def h.def ts h.behind_def t.Name is (λ e. cc) h.defined, only_name h.node_type h.behind_def h.behind_type h.typed, (known h.node_type).only h.items h.behind_type rest h.body, h.lined, h.is) refl

  IsLayer-shorter : (n : NodeText) (ts rest : List Tok) → IsLayer ◌≡◌ Body n ts rest → length rest < length ts
  IsLayer-shorter n ts rest (inl h) = omega (arith, Is-shorter t.Use ts h.behind h.word, IsName-shorter h.name h.behind rest h.named)
  IsLayer-shorter n ts rest (inr h) = omega (arith, HasDef-shorter h.def ts h.behind_def h.defined, IsName-shorter h.node_type h.behind_def h.behind_type h.typed, (known h.node_type).shorter h.items h.behind_type rest h.body)

  layer_begins : (n : NodeText) (ts rest : List Tok) → IsLayer ◌≡◌ Body n ts rest → BeginsNode (kind ts)
  layer_begins n ts rest (inl h) = rw (Is-kind t.Use ts h.behind h.word) tt
  layer_begins n ts rest (inr h) = ⊎_elim (λ n. rw n tt) (λ d. rw d tt) (begins_def h.def ts h.behind_def h.defined (IsName-kind h.node_type h.behind_def h.behind_type h.typed))

  known_layer : Knows (node_with inside) (IsLayer ◌≡◌ Body)
  known_layer = record { found = found_layer; only = only_layer; shorter = IsLayer-shorter }

-- ---- nodes and prototypes at each depth

-- bodies of nodes and prototypes that are known at a depth, one deeper
module _ (depth : ℕ) (known : Knows (node_at depth) (IsNode ◌≡◌ depth)) (begins : (n : NodeText) (ts rest : List Tok) → IsNode ◌≡◌ depth n ts rest → BeginsNode (kind ts)) (known_inside : (at : ℕ) → Knows (proto_body_at depth at) (IsProtoBodyAt ◌≡◌ depth)) where
  protos : Knows (proto_at depth) (IsProto ◌≡◌ depth)
  protos = declarations.known_proto (node_at depth) (IsNode ◌≡◌ depth) known begins (proto_body_at depth) (IsProtoBodyAt ◌≡◌ depth) known_inside

  protos_begin : (p : ProtoText) (ts rest : List Tok) → IsProto ◌≡◌ depth p ts rest → kind ts ≡ t.Proto
  protos_begin = declarations.proto_begins (node_at depth) (IsNode ◌≡◌ depth) known begins (proto_body_at depth) (IsProtoBodyAt ◌≡◌ depth) known_inside

  bodies : (type : List ℕ) → Knows (body (node_at depth) (proto_at depth) (is_script type)) (IsBody ◌≡◌ (IsNode ◌≡◌ depth) (IsProto ◌≡◌ depth) type)
  bodies = known_body (node_at depth) (IsNode ◌≡◌ depth) known begins (proto_at depth) (IsProto ◌≡◌ depth) protos protos_begin

  deeper_node : Knows (node_with (body (node_at depth) (proto_at depth))) (IsLayer ◌≡◌ (IsBody ◌≡◌ (IsNode ◌≡◌ depth) (IsProto ◌≡◌ depth)))
  deeper_node = known_layer (body (node_at depth) (proto_at depth)) (IsBody ◌≡◌ (IsNode ◌≡◌ depth) (IsProto ◌≡◌ depth)) bodies

  deeper_begins : (n : NodeText) (ts rest : List Tok) → IsLayer ◌≡◌ (IsBody ◌≡◌ (IsNode ◌≡◌ depth) (IsProto ◌≡◌ depth)) n ts rest → BeginsNode (kind ts)
  deeper_begins = layer_begins (body (node_at depth) (proto_at depth)) (IsBody ◌≡◌ (IsNode ◌≡◌ depth) (IsProto ◌≡◌ depth)) bodies

  deeper_inside : Knows (proto_body (node_at depth) (proto_at depth)) (IsProtoBody ◌≡◌ (IsNode ◌≡◌ depth) (IsProto ◌≡◌ depth))
  deeper_inside = known_proto_body (node_at depth) (IsNode ◌≡◌ depth) known begins (proto_at depth) (IsProto ◌≡◌ depth) protos protos_begin

mutual
  unfolding node_at proto_body_at IsNode IsProtoBodyAt

  pub known_node : (depth : ℕ) → Knows (node_at depth) (IsNode ◌≡◌ depth)
  known_node zero = record {
    found = λ n ts rest h. cc;
    only = λ n ts rest h. absurd h;
    shorter = λ n ts rest h. absurd h;
  }
  known_node (suc depth) = deeper_node depth (known_node depth) (node_begins depth) (known_inside depth)

  pub known_inside : (depth at : ℕ) → Knows (proto_body_at depth at) (IsProtoBodyAt ◌≡◌ depth)
  known_inside zero at = record {
    found = λ ss ts rest h. cc;
    only = λ ss ts rest h. absurd h;
    shorter = λ ss ts rest h. absurd h;
  }
  known_inside (suc depth) at = deeper_inside depth (known_node depth) (node_begins depth) (known_inside depth)

  pub node_begins : (depth : ℕ) (n : NodeText) (ts rest : List Tok) → IsNode ◌≡◌ depth n ts rest → BeginsNode (kind ts)
  node_begins zero n ts rest h = absurd h
  node_begins (suc depth) n ts rest h = deeper_begins depth (known_node depth) (node_begins depth) (known_inside depth) n ts rest h

pub known_proto : (depth : ℕ) → Knows (proto_at depth) (IsProto ◌≡◌ depth)
known_proto depth = protos depth (known_node depth) (node_begins depth) (known_inside depth)

pub proto_begins : (depth : ℕ) (p : ProtoText) (ts rest : List Tok) → IsProto ◌≡◌ depth p ts rest → kind ts ≡ t.Proto
proto_begins depth = protos_begin depth (known_node depth) (node_begins depth) (known_inside depth)
