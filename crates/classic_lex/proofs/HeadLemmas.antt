-- The version that a text has is the one that its header names.
use Rattle.std.proofs.Common.{◌≡◌, ◌⊎◌, ℕ, ◌≤◌, List, [], ◌∷◌, ◌++◌, length, take, drop, true, false, not, Option, Some, None, Result, Ok, Err, refl, sym, subst, ap, ◌∙◌, inl, inr}
use Rattle.std.specs.Prelude.{IfOk, codes, nat_eq, nat_lt, IsUtf8, if◌then◌else◌}
use Rattle.std.specs.Str.{is_utf8}
use Rattle.std.specs.List.{starts_with}
use Rattle.std.specs.Cmp.Lexicographic.{pointwise, same_text}
use Rattle.std.proofs.lemmas.Bool.{cases_Bool, ltb-false, le-ltb, not_from_true, not-false}
use Rattle.std.proofs.lemmas.List.{take-append-drop}
use Rattle.std.proofs.lemmas.Str.{IsUtf8-from_is_utf8, is_utf8-from_IsUtf8}
use Rattle.classic_lex.specs.declared.fault.LexFault.{LexFault}
use Rattle.classic_lex.specs.declared.fault.LexFaultKind.{LexFaultKind}
use Rattle.classic_lex.specs.declared.versions.Version.{Version}
use Rattle.classic_lex.specs.declared.versions.Version.TheVariants.{V3_0, V3_1, V3_2, V3_3, V4_0}
use Rattle.classic_bytes.specs.Bytes.{is_space, is_digit}
use Rattle.classic_lex.specs.Header.{max_len, byte_order_mark, mark_len, without_mark, version_text, version_named, number_len, is_space_or_end, ends_header, version_of_len, version_at, header, in_head, version_of}
use Rattle.classic_lex.specs.Tokens.{NotAhead, IsHeader, IsHeaded, HasVersion}

-- ---- from the version to the header

begins : (text front : List ℕ) → starts_with nat_eq text front ≡ true → front ++ drop (length front) text ≡ text
begins text front h =
    let e : front ≡ take (length front) text = same_text front (take (length front) text) (sym h) in
    ap (λ (t : List ℕ). t ++ drop (length front) text) e ∙ take-append-drop (length front) text

-- the name is this one, or the version comes from what is tried next
by_name : (name : List ℕ) (w v : Version) (other : Result Version LexFaultKind) → (if pointwise nat_eq name (version_text w) then Ok w else other) ≡ Ok v → (other ≡ Ok v → name ≡ version_text v) → name ≡ version_text v
by_name name w v other h next = elim (cases_Bool (pointwise nat_eq name (version_text w))) [
  | inl e ↦
      let k : ◌≡◌ {A = Result Version LexFaultKind} (Ok w) (Ok v) = rw e at h in
      let same : w ≡ v = cc in
      same_text name (version_text w) (sym e) ∙ ap version_text same
  | inr e ↦ next (rw e at h)
]

named : (name : List ℕ) (v : Version) → version_named name ≡ Ok v → name ≡ version_text v
unfolding version_named
named name v h =
    by_name name V3_0 v _ h (λ h. by_name name V3_1 v _ h (λ h. by_name name V3_2 v _ h (λ h. by_name name V3_3 v _ h (λ h. by_name name V4_0 v _ h (λ h. cc)))))

ahead : (rest : List ℕ) → is_space_or_end rest ≡ true → NotAhead (λ b. not (is_space b)) rest
ahead [] h = tt
ahead (b ∷ bs) h = not_from_true (is_space b) h

-- what stands behind the version
record IsEnd (text : List ℕ) : Type 0 where
  rest : List ℕ
  spelled : codes " utf8" ++ rest ≡ text
  ends : NotAhead (λ b. not (is_space b)) rest

IsEnd-ends_header : (text : List ℕ) → ends_header text ≡ true → IsEnd text
unfolding ends_header
IsEnd-ends_header text h = elim (cases_Bool (starts_with nat_eq text (codes " utf8"))) [
  | inl e ↦ record { rest = drop 5 text; spelled = begins text (codes " utf8") e; ends = ahead (drop 5 text) (rw e at h) }
  | inr e ↦ (let k : false ≡ true = rw e at h in cc)
]

-- the version and what stands behind it
record IsVersion (v : Version) (text : List ℕ) : Type 0 where
  behind : List ℕ
  spelled : version_text v ++ behind ≡ text
  end : IsEnd behind

IsVersion-version_of_len : (o : Option ℕ) (text : List ℕ) (v : Version) → version_of_len o text ≡ Ok v → IsVersion v text
IsVersion-version_of_len None text v h = cc
IsVersion-version_of_len (Some n) text v h = elim (cases_Bool (ends_header (drop n text))) [
  | inl e ↦ record {
    behind = drop n text;
    spelled = ap (λ (t : List ℕ). t ++ drop n text) (sym (named (take n text) v (rw e at h))) ∙ take-append-drop n text;
    end = IsEnd-ends_header (drop n text) e;
  }
  | inr e ↦ (let k : ◌≡◌ {A = Result Version LexFaultKind} _ (Ok v) = rw e at h in cc)
]

pub IsHeader-header : (body : List ℕ) (v : Version) → header body ≡ Ok v → IsHeader v body
unfolding header version_at
IsHeader-header body v h = elim (cases_Bool (starts_with nat_eq body (codes "#X3D V"))) [
  | inl e ↦
      let k = IsVersion-version_of_len (number_len (drop 6 body)) (drop 6 body) v (rw e at h) in
      record {
        rest = k.end.rest;
        spelled =
            ap (λ (t : List ℕ). codes "#X3D V" ++ (version_text v ++ t)) k.end.spelled
            ∙ ap (λ (t : List ℕ). codes "#X3D V" ++ t) k.spelled
            ∙ begins body (codes "#X3D V") e;
        ends = k.end.ends;
      }
  | inr e ↦ (let k : ◌≡◌ {A = Result Version LexFaultKind} _ (Ok v) = rw e at h in cc)
]

-- ---- from the header to the version

space_or_end : (rest : List ℕ) → NotAhead (λ b. not (is_space b)) rest → is_space_or_end rest ≡ true
space_or_end [] h = refl
space_or_end (b ∷ bs) h = not-false (is_space b) h

header-spelled : (v : Version) (rest : List ℕ) → is_space_or_end rest ≡ true → header (codes "#X3D V" ++ (version_text v ++ (codes " utf8" ++ rest))) ≡ Ok v
unfolding header version_at number_len ends_header version_named is_digit
header-spelled V3_0 rest h = rw h refl
header-spelled V3_1 rest h = rw h refl
header-spelled V3_2 rest h = rw h refl
header-spelled V3_3 rest h = rw h refl
header-spelled V4_0 rest h = rw h refl

pub header-IsHeader : (body : List ℕ) (v : Version) → IsHeader v body → header body ≡ Ok v
header-IsHeader body v h = subst (λ (t : List ℕ). header t ≡ Ok v) h.spelled (header-spelled v h.rest (space_or_end h.rest h.ends))

-- ---- the byte order mark

record IsMarked (text : List ℕ) : Type 0 where
  mark : List ℕ
  marked : (mark ≡ []) ⊎ (mark ≡ byte_order_mark)
  spelled : mark ++ without_mark text ≡ text

IsMarked-any : (text : List ℕ) → IsMarked text
unfolding mark_len
IsMarked-any text = elim (cases_Bool (starts_with nat_eq text byte_order_mark)) [
  | inl e ↦ record { mark = byte_order_mark; marked = inr refl; spelled = rw e (begins text byte_order_mark e) }
  | inr e ↦ record { mark = []; marked = inl refl; spelled = rw e refl }
]

no_mark : (v : Version) (rest : List ℕ) → without_mark (codes "#X3D V" ++ (version_text v ++ (codes " utf8" ++ rest))) ≡ codes "#X3D V" ++ (version_text v ++ (codes " utf8" ++ rest))
unfolding mark_len
no_mark v rest = refl

without_mark-header : (mark body text : List ℕ) (v : Version) → (mark ≡ []) ⊎ (mark ≡ byte_order_mark) → IsHeader v body → mark ++ body ≡ text → without_mark text ≡ body
unfolding mark_len
without_mark-header mark body text v (inl e) h s =
    let t : body ≡ text = rw e at s in
    subst (λ (x : List ℕ). without_mark x ≡ body) t (subst (λ (x : List ℕ). without_mark x ≡ x) h.spelled (no_mark v h.rest))
without_mark-header mark body text v (inr e) h s =
    let t : byte_order_mark ++ body ≡ text = rw e at s in
    subst (λ (x : List ℕ). without_mark x ≡ body) t refl

-- ---- the head

-- the version of a text that is not too long and is UTF-8
record IsSound (text : List ℕ) (v : Version) : Type 0 where
  size : length text ≤ max_len
  encoded : IsUtf8 text
  header : header (without_mark text) ≡ Ok v

from_head : (r : Result Version LexFaultKind) (v : Version) → in_head r ≡ Ok v → r ≡ Ok v
from_head (Ok w) v h = cc
from_head (Err kind) v h = cc

IsSound-version_of : (text : List ℕ) (v : Version) → version_of text ≡ Ok v → IsSound text v
unfolding version_of
IsSound-version_of text v h = elim (cases_Bool (nat_lt max_len (length text))) [
  | inl long ↦ (let k : ◌≡◌ {A = Result Version LexFault} _ (Ok v) = rw long at h in cc)
  | inr short ↦ elim (cases_Bool (is_utf8 text)) [
    | inl good ↦ record { size = ltb-false max_len (length text) short; encoded = IsUtf8-from_is_utf8 text good; header = from_head (header (without_mark text)) v (rw (short, good) at h) }
    | inr bad ↦ (let k : ◌≡◌ {A = Result Version LexFault} _ (Ok v) = rw (short, bad) at h in cc)
  ]
]

pub IsHeaded-version_of : (text : List ℕ) (v : Version) → version_of text ≡ Ok v → IsHeaded text v (without_mark text)
IsHeaded-version_of text v h =
    let s = IsSound-version_of text v h in
    let m = IsMarked-any text in
    record { size = s.size; encoded = s.encoded; mark = m.mark; marked = m.marked; spelled = m.spelled; header = IsHeader-header (without_mark text) v s.header }

pub without_mark-IsHeaded : (text : List ℕ) (v : Version) (body : List ℕ) → IsHeaded text v body → without_mark text ≡ body
without_mark-IsHeaded text v body h = without_mark-header h.mark body text v h.marked h.header h.spelled

pub version_of-IsHeaded : (text : List ℕ) (v : Version) (body : List ℕ) → IsHeaded text v body → version_of text ≡ Ok v
unfolding version_of
version_of-IsHeaded text v body h =
    let b : header (without_mark text) ≡ Ok v = rw (without_mark-IsHeaded text v body h) (header-IsHeader body v h.header) in
    rw (le-ltb max_len (length text) h.size, is_utf8-from_IsUtf8 text h.encoded, b) refl

-- ---- what `version` promises

pub HasVersion-version_of : (text : List ℕ) (v : Version) → version_of text ≡ Ok v → HasVersion text v
HasVersion-version_of text v h = record { body = without_mark text; headed = IsHeaded-version_of text v h }

pub version_of-HasVersion : (text : List ℕ) (v : Version) → HasVersion text v → version_of text ≡ Ok v
version_of-HasVersion text v h = version_of-IsHeaded text v h.body h.headed

pub HasVersion-answer : (text : List ℕ) (result : Result Version LexFault) → result ≡ version_of text → IfOk result (λ v. HasVersion text v)
HasVersion-answer text (Ok v) h = HasVersion-version_of text v (sym h)
HasVersion-answer text (Err e) h = tt

pub HasVersion-one : (text : List ℕ) (some other : Version) → HasVersion text some → HasVersion text other → some ≡ other
HasVersion-one text some other h k =
    let e : ◌≡◌ {A = Result Version LexFault} (Ok some) (Ok other) = sym (version_of-HasVersion text some h) ∙ version_of-HasVersion text other k in
    cc
