-- What holds of whatever the keys of a world may have, after one exchange more.
use Rattle.std.proofs.Common.{◌≡◌, ℕ, List, [], ◌∷◌, ◌++◌, length, take, drop, Option, None, Some, Result, Ok, Err, IfOk, IfSome, refl, sym, ap, subst, ◌∙◌, arith, append_assoc, append-nil, take-append-drop, length-append}
use Rattle.std.specs.Option.{option_map}
use Rattle.std.proofs.lemmas.List.{nil_from_length, take-append-le, take_all}
use Rattle.std.proofs.Math.Logic.{∥∥₁_map, ∥∥₁_elim}
use Rattle.share_entries.specs.declared.head.Head.{Head}
use Rattle.share_entries.specs.declared.start.Start.{Start}
use Rattle.share_entries.specs.Entry.{EntryView}
use Rattle.share_entries.specs.Frame.{frame_in, frame_text}
use Rattle.share_entries.specs.Head.{head_text}
use Rattle.share_store.specs.OneLog.{Begins, Last}
use Rattle.share_etcd.specs.declared.outcome.Outcome.TheVariants.{Stored}
use Rattle.share_etcd.specs.Answers.{document}
use Rattle.share_etcd.specs.Contents.{ContentsView, OpeningView, contents_of, opening_of}
use Rattle.share_etcd.specs.Requests.{making_text, append_text, basing_text, reading_text, opening_text}
use Rattle.share_engine.specs.Exchanges.{Exchange, grown}
use Rattle.share_engine.specs.Keys.{Held, held, Later, Moves, Has, HasFrom, IsBelow, Done, MayHave, Always, KeptAt, IsKept, AfterReading, AfterOpening, MayLeave, outcome_in, contents_in, opening_in}
use Rattle.share_engine.proofs.Sets.{entries_set}

-- ---- one list after another

pub begins_on : (a b c : List EntryView) → Begins a b → Begins b c → Begins a c
begins_on a b c ab bc = (ab.0 ++ bc.0, bc.1 ∙ ap (λ (xs : List EntryView). xs ++ bc.0) ab.1 ∙ append_assoc a ab.0 bc.0)

pub begins_same : (a b : List EntryView) → a ≡ b → Begins a b
begins_same a b same = ([], sym same ∙ sym (append-nil a))

pub begins_more : (a b c : List EntryView) → c ≡ a ++ b → Begins a c
begins_more a b c is = (b, is)

-- a list that is no longer is the same
pub same_long : (a b : List EntryView) → Begins a b → length b ≡ length a → b ≡ a
same_long a b begins long =
    let none : begins.0 ≡ [] = nil_from_length begins.0 (omega (arith, long, ap length begins.1, length-append a begins.0)) in
    begins.1 ∙ ap (λ (xs : List EntryView). a ++ xs) none ∙ append-nil a

later_on : (a b c : Held) → Later a b → Later b c → Later a c
later_on a b c ab bc = record {
  grows = begins_on a.entries b.entries c.entries ab.grows bc.grows;
  rises = omega (arith, ab.rises, bc.rises);
  same = λ is.
      let still : b.tail_revision ≡ a.tail_revision = omega (arith, ab.rises, bc.rises, is) in
      bc.same (is ∙ sym still) ∙ ab.same still;
}

pub moves_on : (a b c : Option Held) → Moves a b → Moves b c → Moves a c
moves_on None b c ab bc = tt
moves_on (Some a) None c ab bc = absurd ab
moves_on (Some a) (Some b) None ab bc = absurd bc
moves_on (Some a) (Some b) (Some c) ab bc = later_on a b c ab bc

-- ---- the last exchange

record AtLast (world run : List ℕ) (xs : List Exchange) (x : Exchange) (old new : Option Held) : Type 0 where
  pub at : Option Held
  pub left : Option Held
  pub before : MayHave world run xs old at
  pub done : Done world run x at left
  pub after : Moves left new

at_last : (world run : List ℕ) (xs : List Exchange) (x : Exchange) (old new : Option Held) → MayHave world run (xs ++ x ∷ []) old new → AtLast world run xs x old new
at_last world run [] x old new may = record { at = may.0; left = may.1; before = may.2; done = may.3; after = may.4 }
at_last world run (y ∷ ys) x old new may =
    let rest = at_last world run ys x may.1 new may.4 in
    record { at = rest.at; left = rest.left; before = (may.0, may.1, may.2, may.3, rest.before); done = rest.done; after = rest.after }

pub always_after : (world run : List ℕ) (told : Option (List Exchange)) (x : Exchange) (P Q : Option Held → Type 0) → ((at left now : Option Held) → P at → Done world run x at left → Moves left now → Q now) → Always world run told P → Always world run (grown told x) Q
always_after world run None x P Q step always = tt
always_after world run (Some xs) x P Q step always = λ now may.
    let l = at_last world run xs x None now may in
    step l.at l.left now (always l.at l.before) l.done l.after

pub always_map : (world run : List ℕ) (told : Option (List Exchange)) (P Q : Option Held → Type 0) → ((now : Option Held) → P now → Q now) → Always world run told P → Always world run told Q
always_map world run None P Q step always = tt
always_map world run (Some xs) P Q step always = λ now may. step now (always now may)

pub always_any : (world run : List ℕ) (told : Option (List Exchange)) (P : Option Held → Type 0) → ((now : Option Held) → P now) → Always world run told P
always_any world run None P all = tt
always_any world run (Some xs) P all = λ now may. all now

-- ---- from the start of a log on

-- what a handle knows of the keys, with the entries below its start
abbrev pub behind : (below : List EntryView) (known : Held) → Held
behind below known = held known.head_revision known.tail_revision (below ++ known.entries)

pub kept_on : (run : List ℕ) (start : Start) (known : Held) (at now : Option Held) → KeptAt run start known at → Moves at now → KeptAt run start known now
kept_on run start known at now kept moves =
    (kept.0, kept.1, moves_on (Some (behind kept.0 known)) at now kept.2 moves)

-- any exchange
pub kept_after : (world run : List ℕ) (start : Start) (told : Option (List Exchange)) (x : Exchange) (known : Held) → IsKept world run start told known → IsKept world run start (grown told x) known
kept_after world run start told x known =
    always_after world run told x (KeptAt run start known) (KeptAt run start known) (λ at left now before done after.
    kept_on run start known left now (kept_on run start known at left before done.moves) after)

pub none_below : (run : List ℕ) → IsBelow run (record { below = 0; chain = run }) []
none_below run = record { number = refl; chain = refl }

-- a making
pub made_after : (world run : List ℕ) (told : Option (List Exchange)) (x : Exchange) (head : Head) (revision : ℕ) → x.asked ≡ making_text world (head_text head) → outcome_in x.answer ≡ Stored revision → IsKept world run (record { below = 0; chain = run }) (grown told x) (held revision revision [])
made_after world run told x head revision asks says =
    always_after world run told x (λ _. Unit {0}) (KeptAt run (record { below = 0; chain = run }) (held revision revision [])) (λ at left now before done after.
    ([], none_below run, subst (λ (o : Option Held). Moves o now) (done.made head revision asks says).1 after))
    (always_any world run told (λ _. Unit {0}) (λ _. tt))

known_at : (known had : Held) (at : Option Held) → at ≡ Some had → Moves (Some known) at → Later known had
known_at known had at was moves = subst (λ (o : Option Held). Moves (Some known) o) was moves

-- an append
pub appended_after : (world run : List ℕ) (start : Start) (told : Option (List Exchange)) (x : Exchange) (head tail first last : ℕ) (chain : List ℕ) (known entries : List EntryView) (revision : ℕ) → frame_in chain first (frame_text chain first entries) ≡ Ok entries → x.asked ≡ append_text world head tail first last (frame_text chain first entries) → outcome_in x.answer ≡ Stored revision → IsKept world run start told (held head tail known) → IsKept world run start (grown told x) (held head revision (known ++ entries))
appended_after world run start told x head tail first last chain known entries revision again asks says =
    always_after world run told x (KeptAt run start (held head tail known)) (KeptAt run start (held head revision (known ++ entries))) (λ at left now before done after.
    let a = done.appended head tail first last chain entries revision again asks says in
    let same : a.had.entries ≡ before.0 ++ known = (known_at (held head tail (before.0 ++ known)) a.had at a.was before.2).same a.tail_same in
    let leaves : left ≡ Some (held head revision (before.0 ++ (known ++ entries))) =
    a.leaves ∙ ap (λ (es : List EntryView). Some (held head revision (es ++ entries))) same
    ∙ ap (λ (es : List EntryView). Some (held head revision es)) (append_assoc before.0 known entries) in
    (before.0, before.1, subst (λ (o : Option Held). Moves o now) leaves after))

-- a base
pub based_after : (world run : List ℕ) (start : Start) (told : Option (List Exchange)) (x : Exchange) (head tail number : ℕ) (bytes base snapshot : List ℕ) (known : List EntryView) (revision : ℕ) → x.asked ≡ basing_text world head tail number bytes base snapshot → outcome_in x.answer ≡ Stored revision → IsKept world run start told (held head tail known) → IsKept world run start (grown told x) (held revision tail known)
based_after world run start told x head tail number bytes base snapshot known revision asks says =
    always_after world run told x (KeptAt run start (held head tail known)) (KeptAt run start (held revision tail known)) (λ at left now before done after.
    let a = done.based head tail number bytes base snapshot revision asks says in
    let same : a.had.entries ≡ before.0 ++ known = (known_at (held head tail (before.0 ++ known)) a.had at a.was before.2).same a.tail_same in
    let leaves : left ≡ Some (held revision tail (before.0 ++ known)) =
    a.leaves ∙ ap (λ (es : List EntryView). Some (held revision tail es)) same in
    (before.0, before.1, subst (λ (o : Option Held). Moves o now) leaves after))

-- a reading
pub read_after : (world run : List ℕ) (start : Start) (told : Option (List Exchange)) (x : Exchange) (first : ℕ) (c : ContentsView) (known : List EntryView) → x.asked ≡ reading_text world first → contents_in world first x.answer ≡ Some (Some c) → Always world run told (HasFrom run start known) → Always world run (grown told x) (AfterReading run start first c known)
read_after world run start told x first c known asks says =
    always_after world run told x (HasFrom run start known) (AfterReading run start first c known) (λ at left now before done after.
    let r = done.read first c asks says in
    (r.0, before.0, r.3, before.1, subst (λ (o : Option Held). Has (before.0 ++ known) o) r.1 before.2, subst (λ (o : Option Held). Moves o now) r.2 after))

-- an opening
pub opened_after : (world run : List ℕ) (told : Option (List Exchange)) (x : Exchange) (o : OpeningView) → x.asked ≡ opening_text world → opening_in world x.answer ≡ Some (Some o) → Always world run (grown told x) (AfterOpening run o)
opened_after world run told x o asks says =
    always_after world run told x (λ _. Unit {0}) (AfterOpening run o) (λ at left now before done after.
    let r = done.opened o asks says in
    (r.0, r.3, subst (λ (o : Option Held). Moves o now) r.2 after))
    (always_any world run told (λ _. Unit {0}) (λ _. tt))

-- ---- what a crash leaves

drop_front : (a b : List EntryView) → drop (length a) (a ++ b) ≡ b
drop_front [] b = refl
drop_front (x ∷ xs) b = drop_front xs b

-- of one list the entries after equally many begin alike
same_rest : (a b c known left : List EntryView) → length a ≡ length b → Begins (a ++ known) c → c ≡ b ++ left → Begins known left
same_rest a b c known left long begins is =
    let split : b ++ left ≡ a ++ (known ++ begins.0) = sym is ∙ begins.1 ∙ append_assoc a known begins.0 in (
      begins.0,
      sym (drop_front b left) ∙ ap (λ (n : ℕ). drop n (b ++ left)) (sym long) ∙ ap (λ (xs : List EntryView). drop (length a) xs) split
          ∙ drop_front a (known ++ begins.0),
    )

last_kept : (world run : List ℕ) (start : Start) (told : Option (List Exchange)) (known : Held) → IsKept world run start told known → Last (MayLeave world run start told) known.entries
last_kept world run start None known kept left may = absurd may
last_kept world run start (Some xs) known kept left may =
    let k = kept (Some may.0) may.1 in
    same_rest k.0 may.2 may.0.entries known.entries left (k.1.number ∙ sym may.3.number) k.2.grows may.4

take_front : (a b : List EntryView) → Begins a b → take (length a) b ≡ a
take_front a b begins =
    ap (λ (xs : List EntryView). take (length a) xs) begins.1
    ∙ take-append-le (length a) a begins.0 (omega arith) ∙ take_all (length a) a (omega arith)

front_begins : (a b : List EntryView) → take (length a) b ≡ a → Begins a b
front_begins a b front = (drop (length a) b, sym (take-append-drop (length a) b) ∙ ap (λ (xs : List EntryView). xs ++ drop (length a) b) front)

pub last_of : (world run : List ℕ) (start : Start) (told : Option (List Exchange)) (known : Held) → ∥ IsKept world run start told known ∥₁ → Last (MayLeave world run start told) known.entries
last_of world run start told known kept left may =
    front_begins known.entries left
    (∥∥₁_elim kept (entries_set (take (length known.entries) left) known.entries) (λ it. take_front known.entries left (last_kept world run start told known it left may)))

pub last_begins : (may_leave : List EntryView → Type 0) (known longer : List EntryView) → Begins known longer → Last may_leave longer → Last may_leave known
last_begins may_leave known longer begins last left may = begins_on known longer left begins (last left may)

-- ---- what an answer says

pub read_if : {C F : Type 0} (view : C → ContentsView) (world : List ℕ) (first : ℕ) (old new : Option (List Exchange)) (asked body read : List ℕ) (r : Result (Option C) F) → asked ≡ reading_text world first → new ≡ grown old (record { asked = asked; answer = Some body }) → read ≡ body → IfOk r (λ o. contents_of world first (document read) ≡ Some (option_map view o)) → IfOk r (λ o. IfSome o (λ c. (run : List ℕ) (start : Start) (known : List EntryView) → Always world run old (HasFrom run start known) → Always world run new (AfterReading run start first (view c) known)))
read_if view world first old new asked body read (Err e) asks grew same says = tt
read_if view world first old new asked body read (Ok None) asks grew same says = tt
read_if view world first old new asked body read (Ok (Some c)) asks grew same says = λ run start known always.
    subst (λ (t : Option (List Exchange)). Always world run t (AfterReading run start first (view c) known)) (sym grew)
    (read_after world run start old (record { asked = asked; answer = Some body }) first (view c) known asks
    (subst (λ (b : List ℕ). contents_of world first (document b) ≡ Some (Some (view c))) same says) always)

pub opened_if : {C F : Type 0} (view : C → OpeningView) (world : List ℕ) (old new : Option (List Exchange)) (asked body read : List ℕ) (r : Result (Option C) F) → asked ≡ opening_text world → new ≡ grown old (record { asked = asked; answer = Some body }) → read ≡ body → IfOk r (λ o. opening_of world (document read) ≡ Some (option_map view o)) → IfOk r (λ o. IfSome o (λ c. (run : List ℕ) → Always world run new (AfterOpening run (view c))))
opened_if view world old new asked body read (Err e) asks grew same says = tt
opened_if view world old new asked body read (Ok None) asks grew same says = tt
opened_if view world old new asked body read (Ok (Some c)) asks grew same says = λ run.
    subst (λ (t : Option (List Exchange)). Always world run t (AfterOpening run (view c))) (sym grew)
    (opened_after world run old (record { asked = asked; answer = Some body }) (view c) asks
    (subst (λ (b : List ℕ). opening_of world (document b) ≡ Some (Some (view c))) same says))

pub kept_grown : (world run : List ℕ) (start : Start) (old new : Option (List Exchange)) (x : Exchange) (known : Held) → new ≡ grown old x → IsKept world run start old known → IsKept world run start new known
kept_grown world run start old new x known grew kept =
    subst (λ (t : Option (List Exchange)). IsKept world run start t known) (sym grew) (kept_after world run start old x known kept)

-- an append that was stored, by what its answer says
pub stored_kept : (world run : List ℕ) (start : Start) (old new : Option (List Exchange)) (head tail first last : ℕ) (chain : List ℕ) (known entries : List EntryView) (body : List ℕ) (revision : ℕ) → body ≡ append_text world head tail first last (frame_text chain first entries) → frame_in chain first (frame_text chain first entries) ≡ Ok entries → (said : Option (List ℕ)) × (new ≡ grown old (record { asked = body; answer = said })) × (outcome_in said ≡ Stored revision) → ∥ IsKept world run start old (held head tail known) ∥₁ → ∥ IsKept world run start new (held head revision (known ++ entries)) ∥₁
stored_kept world run start old new head tail first last chain known entries body revision asks again stored kept =
    ∥∥₁_map kept (λ (it : IsKept world run start old (held head tail known)).
    subst (λ (t : Option (List Exchange)). IsKept world run start t (held head revision (known ++ entries))) (sym stored.1)
    (appended_after world run start old (record { asked = body; answer = stored.0 }) head tail first last chain known entries revision again asks stored.2 it))

-- a base that was stored, by what its answer says
pub based_kept : (world run : List ℕ) (start : Start) (old new : Option (List Exchange)) (head tail : ℕ) (known : List EntryView) (body : List ℕ) (revision : ℕ) → (number : ℕ) × (bytes : List ℕ) × (base : List ℕ) × (snapshot : List ℕ) × (body ≡ basing_text world head tail number bytes base snapshot) → (said : Option (List ℕ)) × (new ≡ grown old (record { asked = body; answer = said })) × (outcome_in said ≡ Stored revision) → ∥ IsKept world run start old (held head tail known) ∥₁ → ∥ IsKept world run start new (held revision tail known) ∥₁
based_kept world run start old new head tail known body revision asks stored kept =
    ∥∥₁_map kept (λ (it : IsKept world run start old (held head tail known)).
    subst (λ (t : Option (List Exchange)). IsKept world run start t (held revision tail known)) (sym stored.1)
    (based_after world run start old (record { asked = body; answer = stored.0 }) head tail asks.0 asks.1 asks.2 asks.3 known revision asks.4 stored.2 it))

-- a making that was stored, by what its answer says
pub made_kept : (world run : List ℕ) (old new : Option (List Exchange)) (head : Head) (body : List ℕ) (revision : ℕ) → body ≡ making_text world (head_text head) → (said : Option (List ℕ)) × (new ≡ grown old (record { asked = body; answer = said })) × (outcome_in said ≡ Stored revision) → IsKept world run (record { below = 0; chain = run }) new (held revision revision [])
made_kept world run old new head body revision asks stored =
    subst (λ (t : Option (List Exchange)). IsKept world run (record { below = 0; chain = run }) t (held revision revision [])) (sym stored.1)
    (made_after world run old (record { asked = body; answer = stored.0 }) head revision asks stored.2)
