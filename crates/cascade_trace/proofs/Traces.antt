-- What is appended to a trace as it is kept.
use Rattle.std.proofs.Common.{◌≡◌, ℕ, ℤ, true, false, subst, List, [], ◌∷◌, ◌++◌, ◌∙◌, ap, sym, refl}
use Rattle.std.proofs.lemmas.List.{append-nil, append_assoc}
use Rattle.std.specs.Prelude.{pos}
use Rattle.x3d_values.specs.declared.value.Value.{Value}
use Rattle.scene_core.specs.declared.scene.End.{End}
use Rattle.cascade_trace.specs.declared.trace.TraceLine.{TraceLine}
use Rattle.cascade_trace.specs.declared.trace.Entry.{Entry}
use Rattle.cascade_trace.specs.declared.trace.EntryKind.TheVariants as entry_kind
use Rattle.std.proofs.lemmas.Int.{to_z-of_z}
use Rattle.std.proofs.Common.{Some}
use Rattle.x3d_values.specs.declared.value.Value.TheVariants.{SFBool, SFInt32, SFFloat, SFTime, SFString, SFVec2f, SFVec3f, SFColor, SFNode, MFBool, MFInt32, MFFloat, MFTime, MFString, MFVec2f, MFVec3f, MFColor, MFNode}
use Rattle.cascade_trace.specs.Trace.{lines_of, line, IsPlain, IsWhole, input_entry, plain_entry}

-- a signed number that was handed on is the number
pub ruleset passed = (to_z-of_z, append_assoc)

-- whatever is appended to these gives lines of this input
abbrev IsOpenAt : List Entry → List Value → ℕ → ℤ → Type 0
IsOpenAt es vs i t = (fs : List Entry) (ws : List Value) →
    lines_of (es ++ fs) 0 (pos 0) (vs ++ ws) ≡ lines_of es 0 (pos 0) vs ++ lines_of fs i t ws

module _ (es : List Entry) (vs : List Value) (i : ℕ) (t : ℤ) (opens : IsOpenAt es vs i t) where
  -- one more entry, with the values that it takes
  opens-more : (e : Entry) (us : List Value) (j : ℕ) (s : ℤ) →
      ((fs : List Entry) (ws : List Value) → lines_of (e ∷ fs) i t (us ++ ws) ≡ lines_of (e ∷ []) i t us ++ lines_of fs j s ws) →
      IsOpenAt (es ++ e ∷ []) (vs ++ us) j s
  opens-more e us j s h fs ws =
      rw (append_assoc es (e ∷ []) fs, append_assoc vs us ws, opens (e ∷ fs) (us ++ ws), opens (e ∷ []) us, h fs ws)
      (sym (append_assoc (lines_of es 0 (pos 0) vs) (lines_of (e ∷ []) i t us) (lines_of fs j s ws)))

  opens-one : (e : Entry) (j : ℕ) (s : ℤ) →
      ((fs : List Entry) (ws : List Value) → lines_of (e ∷ fs) i t ws ≡ lines_of (e ∷ []) i t [] ++ lines_of fs j s ws) →
      IsOpenAt (es ++ e ∷ []) vs j s
  opens-one e j s h = let more = opens-more e [] j s h in rw (append-nil vs) at more

  lines-one : (e : Entry) → lines_of (es ++ e ∷ []) 0 (pos 0) vs ≡ lines_of es 0 (pos 0) vs ++ lines_of (e ∷ []) i t []
  lines-one e = let more = opens (e ∷ []) [] in rw (append-nil vs) at more

  pub input-opens : (j : ℕ) (s : ℤ) → IsOpenAt (es ++ input_entry j s ∷ []) vs j s
  unfolding lines_of
  input-opens j s = opens-one (input_entry j s) j s (λ fs ws. refl)

  pub input-lines : (j : ℕ) (s : ℤ) → lines_of (es ++ input_entry j s ∷ []) 0 (pos 0) vs ≡ lines_of es 0 (pos 0) vs
  unfolding lines_of
  input-lines j s = lines-one (input_entry j s) ∙ append-nil (lines_of es 0 (pos 0) vs)

  plain-rest : (source : End) (v : Value) (fs : List Entry) (ws : List Value) →
      line i t source v ∷ lines_of fs i t ws ≡ (line i t source v ∷ lines_of [] i t []) ++ lines_of fs i t ws
  unfolding lines_of
  plain-rest source v fs ws = refl

  pub plain-opens : (source : End) (v : Value) (e : Entry) → IsPlain source v e → IsOpenAt (es ++ e ∷ []) vs i t
  plain-opens source v e h = opens-one e i t (λ fs ws. rw (h fs i t ws, h [] i t []) (plain-rest source v fs ws))

  pub plain-lines : (source : End) (v : Value) (e : Entry) → IsPlain source v e → lines_of (es ++ e ∷ []) 0 (pos 0) vs ≡ lines_of es 0 (pos 0) vs ++ line i t source v ∷ []
  unfolding lines_of
  plain-lines source v e h = lines-one e ∙ ap (λ (ls : List TraceLine). lines_of es 0 (pos 0) vs ++ ls) (h [] i t [])

  pub other-opens : (source : End) (v : Value) → IsOpenAt (es ++ record { input = 0; node = source.node; field = source.field; kind = entry_kind.Other; word = pos 0 } ∷ []) (vs ++ v ∷ []) i t
  unfolding lines_of
  other-opens source v = opens-more (record { input = 0; node = source.node; field = source.field; kind = entry_kind.Other; word = pos 0 }) (v ∷ []) i t (λ fs ws. refl)

  pub other-lines : (source : End) (v : Value) →
      lines_of (es ++ record { input = 0; node = source.node; field = source.field; kind = entry_kind.Other; word = pos 0 } ∷ []) 0 (pos 0) (vs ++ v ∷ []) ≡ lines_of es 0 (pos 0) vs ++ line i t source v ∷ []
  unfolding lines_of
  other-lines source v = opens (record { input = 0; node = source.node; field = source.field; kind = entry_kind.Other; word = pos 0 } ∷ []) (v ∷ [])

plain-one : (source : End) (v : Value) (f e : Entry) → IsPlain source v f → Some f ≡ Some e → IsPlain source v e
plain-one source v f e p h = let same : f ≡ e = cc in subst (λ (x : Entry). IsPlain source v x) same p

pub plain-is : (source : End) (v : Value) (e : Entry) → plain_entry source v ≡ Some e → IsWhole v → IsPlain source v e
unfolding lines_of
plain-is source (SFBool true) e h w = plain-one source (SFBool true) _ e (λ es i t vs. refl) h
plain-is source (SFBool false) e h w = plain-one source (SFBool false) _ e (λ es i t vs. refl) h
plain-is source (SFInt32 x) e h w = plain-one source (SFInt32 x) _ e (λ es i t vs. ap (λ (n : ℤ). line i t source (SFInt32 n) ∷ lines_of es i t vs) w) h
plain-is source (SFFloat x) e h w = plain-one source (SFFloat x) _ e (λ es i t vs. refl) h
plain-is source (SFTime x) e h w = plain-one source (SFTime x) _ e (λ es i t vs. refl) h
plain-is source (SFString x) e h w = λ es i t vs. cc
plain-is source (SFVec2f x) e h w = λ es i t vs. cc
plain-is source (SFVec3f x) e h w = λ es i t vs. cc
plain-is source (SFColor x) e h w = λ es i t vs. cc
plain-is source (SFNode x) e h w = λ es i t vs. cc
plain-is source (MFBool x) e h w = λ es i t vs. cc
plain-is source (MFInt32 x) e h w = λ es i t vs. cc
plain-is source (MFFloat x) e h w = λ es i t vs. cc
plain-is source (MFTime x) e h w = λ es i t vs. cc
plain-is source (MFString x) e h w = λ es i t vs. cc
plain-is source (MFVec2f x) e h w = λ es i t vs. cc
plain-is source (MFVec3f x) e h w = λ es i t vs. cc
plain-is source (MFColor x) e h w = λ es i t vs. cc
plain-is source (MFNode x) e h w = λ es i t vs. cc
