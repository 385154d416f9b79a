-- Declarations, and prototypes by how their bodies are read: what is read is spelled so, and what is spelled so is read.
use Rattle.std.proofs.Common.{◌≡◌, ℕ, ◌<◌, ◌≤◌, List, length, Bool, true, false, cond, Ok, refl, sym, ap, ◌∙◌, subst, inl, inr, ⊎_elim, arith}
use Rattle.x3d_values.specs.declared.field_type.Access.{Access}
use Rattle.x3d_values.specs.declared.field_type.Access.TheVariants as access_is
use Rattle.classic_lex.specs.Lexed.{Tok}
use Rattle.classic_tree.specs.declared.tree.Given.{Given}
use Rattle.classic_tree.specs.declared.tree.Given.TheVariants as given
use Rattle.classic_tree.specs.declared.tree.Declaration.{Declaration}
use Rattle.classic_tree.specs.declared.tree.NodeText.{NodeText}
use Rattle.classic_tree.specs.declared.tree.ProtoText.{ProtoText, out-ProtoText, out-roll-ProtoText, roll-out-ProtoText}
use Rattle.classic_tree.specs.declared.tree.Statement.{Statement}
use Rattle.classic_text.specs.declared.terminal.Terminal.TheVariants as t
use Rattle.classic_text.specs.Terminal.{line}
use Rattle.classic_text.specs.Input.{Parser, and_then, kind, sees, expect, name, access, field_type}
use Rattle.x3d_values.specs.Access.{is_initial}
use Rattle.classic_text.specs.Grammar.{until, value, what_is, joined, declared, declaration, proto_with}
use Rattle.classic_text.specs.Spells.{IsName, AreUntil, IsEvent, IsStored, IsDeclared, IsDeclaration, IsProtoBy}
use Rattle.classic_text.proofs.Seen.{see, unseen, not_see, not_ahead, ahead_not}
use Rattle.classic_text.proofs.Steps.{ok_is, both, chosen, Is-kind, Is-shorter, IsName-shorter, found_expect, only_expect, found_name, only_name, found_access, only_access, found_type, only_type, IsAccess-kind, IsAccess-shorter, IsFieldType-shorter}
use Rattle.classic_text.proofs.Values.{Knows, BeginsNode, found_until, only_until, AreUntil-shorter, found_value, only_value, IsValue-shorter, value_apart}

-- ---- access

stored : (a : Access) → is_initial a ≡ true → IsStored a
stored access_is.InputOnly h = cc
stored access_is.OutputOnly h = cc
stored access_is.InputOutput h = inl refl
stored access_is.InitializeOnly h = inr refl

event : (a : Access) → is_initial a ≡ false → IsEvent a
event access_is.InputOnly h = inl refl
event access_is.OutputOnly h = inr refl
event access_is.InputOutput h = cc
event access_is.InitializeOnly h = cc

stored_holds : (a : Access) → IsStored a → is_initial a ≡ true
stored_holds a (inl h) = rw h refl
stored_holds a (inr h) = rw h refl

event_holds : (a : Access) → IsEvent a → is_initial a ≡ false
event_holds a (inl h) = rw h refl
event_holds a (inr h) = rw h refl

module _ (inner : Parser NodeText) (Inner : NodeText → List Tok → List Tok → Type 0) (known : Knows inner Inner) (begins : (n : NodeText) (ts rest : List Tok) → Inner n ts rest → BeginsNode (kind ts)) where
  -- ---- what a declaration gives

  found_joined : (script : Bool) (a : Access) (x : Given NodeText) (ts rest : List Tok) → joined script ts ≡ Ok (x, rest) → IsDeclared Inner script a x ts rest
  unfolding joined what_is
  found_joined true a x ts rest h =
      both (expect t.Is ts) _ (x, rest) h (λ u b e h. both (name b) _ (x, rest) h (λ n c f h.
      subst (λ (y : Given NodeText × List Tok). IsDeclared Inner true a y.0 ts y.1) (ok_is (given.Is n, c) (x, rest) h) (b, refl, found_expect t.Is ts b (λ e. cc) e, found_name n b c f)))
  found_joined false a x ts rest h = cc

  found_held : (script : Bool) (a : Access) (x : Given NodeText) (ts rest : List Tok) → sees t.Is ts ≡ false → cond (is_initial a) (and_then (value inner ts) (λ y b. Ok (given.Value y, b))) (Ok (given.Nothing, ts)) ≡ Ok (x, rest) → IsDeclared Inner script a x ts rest
  found_held script a x ts rest free h =
      ⊎_elim (λ c. both (value inner ts) _ (x, rest) c.1 (λ y b e h.
      subst (λ (z : Given NodeText × List Tok). IsDeclared Inner script a z.0 ts z.1) (ok_is (given.Value y, b) (x, rest) h) (stored a c.0, found_value inner Inner known begins y ts b e)))
      (λ c. subst (λ (z : Given NodeText × List Tok). IsDeclared Inner script a z.0 ts z.1) (ok_is (given.Nothing, ts) (x, rest) c.1) (event a c.0, not_ahead t.Is ts (unseen t.Is ts free), refl))
      (chosen (is_initial a) (and_then (value inner ts) (λ y b. Ok (given.Value y, b))) (Ok (given.Nothing, ts)) (Ok (x, rest)) h)

  found_declared : (script : Bool) (a : Access) (x : Given NodeText) (ts rest : List Tok) → declared inner script a ts ≡ Ok (x, rest) → IsDeclared Inner script a x ts rest
  unfolding declared
  found_declared script a x ts rest h =
      ⊎_elim (λ c. found_joined script a x ts rest c.1) (λ c. found_held script a x ts rest c.0 c.1)
      (chosen (sees t.Is ts) (joined script ts) (cond (is_initial a) (and_then (value inner ts) (λ y b. Ok (given.Value y, b))) (Ok (given.Nothing, ts))) (Ok (x, rest)) h)

  only_declared : (script : Bool) (a : Access) (x : Given NodeText) (ts rest : List Tok) → IsDeclared Inner script a x ts rest → declared inner script a ts ≡ Ok (x, rest)
  unfolding declared joined what_is
  only_declared script a given.Nothing ts rest h = rw (not_see t.Is ts (ahead_not t.Is ts (λ e. cc) h.1), event_holds a h.0, h.2) refl
  only_declared script a (given.Value x) ts rest h = rw (not_see t.Is ts (value_apart inner Inner known begins x ts rest h.1), stored_holds a h.0, only_value inner Inner known begins x ts rest h.1) refl
  only_declared script a (given.Is n) ts rest h = rw (see t.Is ts (Is-kind t.Is ts h.0 h.2), h.1, only_expect t.Is ts h.0 h.2, only_name n h.0 rest h.3) refl

  IsDeclared-within : (script : Bool) (a : Access) (x : Given NodeText) (ts rest : List Tok) → IsDeclared Inner script a x ts rest → length rest ≤ length ts
  IsDeclared-within script a given.Nothing ts rest h = rw h.2 (omega arith)
  IsDeclared-within script a (given.Value x) ts rest h = omega (arith, IsValue-shorter inner Inner known begins x ts rest h.1)
  IsDeclared-within script a (given.Is n) ts rest h = omega (arith, Is-shorter t.Is ts h.0 h.2, IsName-shorter n h.0 rest h.3)

  -- ---- declarations

  found_declaration : (script : Bool) (d : Declaration NodeText) (ts rest : List Tok) → declaration inner script ts ≡ Ok (d, rest) → IsDeclaration ◌≡◌ Inner script d ts rest
  unfolding declaration
  found_declaration script d ts rest h =
      both (access ts) _ (d, rest) h (λ a b e h. both (field_type b) _ (d, rest) h (λ f c i h. both (name c) _ (d, rest) h (λ n u j h. both (declared inner script a u) _ (d, rest) h (λ x v k h.
      subst (λ (y : Declaration NodeText × List Tok). IsDeclaration ◌≡◌ Inner script y.0 ts y.1) (ok_is _ _ h)
      (b, c, u, refl, found_access a ts b e, found_type f b c i, found_name n c u j, found_declared script a x u v k)))))

  only_declaration : (script : Bool) (d : Declaration NodeText) (ts rest : List Tok) → IsDeclaration ◌≡◌ Inner script d ts rest → declaration inner script ts ≡ Ok (d, rest)
  unfolding declaration
  only_declaration script d ts rest h =
      rw (only_access d.access ts h.0 h.4, only_type d.field_type h.0 h.1 h.5, only_name d.name h.1 h.2 h.6, only_declared script d.access d.given h.2 rest h.7, h.3) refl

  IsDeclaration-shorter : (script : Bool) (d : Declaration NodeText) (ts rest : List Tok) → IsDeclaration ◌≡◌ Inner script d ts rest → length rest < length ts
  IsDeclaration-shorter script d ts rest h =
      omega (arith, IsAccess-shorter d.access ts h.0 h.4, IsFieldType-shorter d.field_type h.0 h.1 h.5, IsName-shorter d.name h.1 h.2 h.6, IsDeclared-within script d.access d.given h.2 rest h.7)

  pub IsDeclaration-kind : (script : Bool) (d : Declaration NodeText) (ts rest : List Tok) → IsDeclaration ◌≡◌ Inner script d ts rest → kind ts ≡ t.Access
  IsDeclaration-kind script d ts rest h = IsAccess-kind d.access ts h.0 h.4

  pub known_declaration : (script : Bool) → Knows (declaration inner script) (IsDeclaration ◌≡◌ Inner script)
  known_declaration script = record { found = found_declaration script; only = only_declaration script; shorter = IsDeclaration-shorter script }

  apart_declaration : (d : Declaration NodeText) (ts rest : List Tok) → IsDeclaration ◌≡◌ Inner false d ts rest → kind ts ≡ t.CloseBracket → ⊥
  apart_declaration d ts rest h e = let c : t.Access ≡ t.CloseBracket = sym (IsDeclaration-kind false d ts rest h) ∙ e in cc

  -- ---- prototypes

  module _ (inside : ℕ → Parser (List Statement)) (Body : List Statement → List Tok → List Tok → Type 0) (known_inside : (at : ℕ) → Knows (inside at) Body) where
    found_proto : (p : ProtoText) (ts rest : List Tok) → proto_with inner inside ts ≡ Ok (p, rest) → IsProtoBy ◌≡◌ Inner Body p ts rest
    unfolding proto_with
    found_proto p ts rest h =
        both (expect t.Proto ts) _ (p, rest) h (λ u a e h. both (name a) _ (p, rest) h (λ n b f h. both (expect t.OpenBracket b) _ (p, rest) h (λ w c g h.
        both (until t.CloseBracket (declaration inner false) c) _ (p, rest) h (λ ds d i h. both (inside (line ts) d) _ (p, rest) h (λ ss r j h.
        let rolled = out-roll-ProtoText (record { line = line ts; name = n; interface = ds; body = ss }) in
        subst (λ (y : ProtoText × List Tok). IsProtoBy ◌≡◌ Inner Body y.0 ts y.1) (ok_is _ _ h) (
          a,
          b,
          c,
          d,
          ap (λ q. q.line) (sym rolled),
          found_expect t.Proto ts a (λ e. cc) e,
          subst (λ (x : List ℕ). IsName x a b) (ap (λ q. q.name) (sym rolled)) (found_name n a b f),
          found_expect t.OpenBracket b c (λ e. cc) g,
          subst (λ (xs : List (Declaration NodeText)). AreUntil t.CloseBracket (IsDeclaration ◌≡◌ Inner false) xs c d) (ap (λ q. q.interface) (sym rolled)) (found_until t.CloseBracket (declaration inner false) (IsDeclaration ◌≡◌ Inner false) (known_declaration false) (λ e. cc) ds c d i),
          subst (λ (xs : List Statement). Body xs d r) (ap (λ q. q.body) (sym rolled)) ((known_inside (line ts)).found ss d r j),
        ))))))

    only_proto : (p : ProtoText) (ts rest : List Tok) → IsProtoBy ◌≡◌ Inner Body p ts rest → proto_with inner inside ts ≡ Ok (p, rest)
    unfolding proto_with
    only_proto p ts rest h =
        rw (
          only_expect t.Proto ts h.0 h.5,
          only_name (out-ProtoText p).name h.0 h.1 h.6,
          only_expect t.OpenBracket h.1 h.2 h.7,
          only_until t.CloseBracket (declaration inner false) (IsDeclaration ◌≡◌ Inner false) (known_declaration false) (λ e. cc) apart_declaration (out-ProtoText p).interface h.2 h.3 h.8,
          (known_inside (line ts)).only (out-ProtoText p).body h.3 rest h.9,
          h.4,
        )
        (ap (λ q. Ok (q, rest)) (roll-out-ProtoText p))

    IsProtoBy-shorter : (p : ProtoText) (ts rest : List Tok) → IsProtoBy ◌≡◌ Inner Body p ts rest → length rest < length ts
    IsProtoBy-shorter p ts rest h =
        omega (
          arith,
          Is-shorter t.Proto ts h.0 h.5,
          IsName-shorter (out-ProtoText p).name h.0 h.1 h.6,
          Is-shorter t.OpenBracket h.1 h.2 h.7,
          AreUntil-shorter t.CloseBracket (declaration inner false) (IsDeclaration ◌≡◌ Inner false) (known_declaration false) (λ e. cc) (out-ProtoText p).interface h.2 h.3 h.8,
          (known_inside (line ts)).shorter (out-ProtoText p).body h.3 rest h.9,
        )

    pub known_proto : Knows (proto_with inner inside) (IsProtoBy ◌≡◌ Inner Body)
    known_proto = record { found = found_proto; only = only_proto; shorter = IsProtoBy-shorter }

    pub proto_begins : (p : ProtoText) (ts rest : List Tok) → IsProtoBy ◌≡◌ Inner Body p ts rest → kind ts ≡ t.Proto
    proto_begins p ts rest h = Is-kind t.Proto ts h.0 h.5
