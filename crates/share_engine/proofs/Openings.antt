-- What is found of a world that is opened.
use Rattle.std.proofs.Common.{◌≡◌, ◌+◌, ℕ, Bool, true, false, cond, List, [], length, Option, None, Some, Result, Ok, Err, IfOk, IfSome, MatchOption, refl, sym, subst, arith, append-nil}
use Rattle.std.specs.Prelude.{◌==◌}
use Rattle.std.specs.Option.{option_map}
use Rattle.share_entries.specs.declared.head.Head.{Head}
use Rattle.share_entries.specs.declared.start.Start.{Start}
use Rattle.share_entries.specs.Base.{BaseView, base_in}
use Rattle.share_entries.specs.Entry.{EntryView}
use Rattle.share_entries.specs.Head.{head_text}
use Rattle.share_entries.specs.Start.{start_of}
use Rattle.share_store.specs.OneLog.{Begins}
use Rattle.share_etcd.specs.declared.outcome.Outcome.TheVariants.{Stored}
use Rattle.share_etcd.specs.declared.requests.Revisions.{Revisions}
use Rattle.share_etcd.specs.Contents.{ContentsView, OpeningView, BasedView}
use Rattle.share_etcd.specs.Requests.{making_text}
use Rattle.share_engine.specs.Exchanges.{Exchange, grown}
use Rattle.share_engine.specs.Keys.{Held, held, IsBelow, Always, KeptAt, IsKept, HasFrom, AfterReading, AfterOpening, outcome_in}
use Rattle.share_engine.specs.Opening.{base_found, seated}
use Rattle.share_engine.specs.Reading.{entries_from}
use Rattle.share_engine.proofs.Lasting.{always_map, made_kept}
use Rattle.share_engine.proofs.Readings.{more_read, all_read}

pub made_if : (world : List ℕ) (old new : Option (List Exchange)) (head : Head) (body : List ℕ) (o : Option ℕ) → body ≡ making_text world (head_text head) → IfSome o (λ revision. (said : Option (List ℕ)) × (new ≡ grown old (record { asked = body; answer = said })) × (outcome_in said ≡ Stored revision)) → IfSome o (λ revision. (run : List ℕ) → IsKept world run (record { below = 0; chain = run }) new (held revision revision []))
made_if world old new head body None asks stored = tt
made_if world old new head body (Some revision) asks stored = λ run. made_kept world run old new head body revision asks stored

-- ---- where it begins

some_same : {A : Type 0} (x y : A) → Some x ≡ Some y → x ≡ y
some_same x y is = cc

seat_if : (b : Bool) (v : BaseView) (base : Option BaseView) → option_map Some (cond b (Some v) None) ≡ Some base → base ≡ Some v
seat_if true v base is = sym (some_same (Some v) base is)
seat_if false v base is = absurd cc

seat_of : (head : Head) (found : Option BaseView) (base : Option BaseView) → option_map Some (seated head found) ≡ Some base → (v : BaseView) × (base ≡ Some v) × (found ≡ Some v)
seat_of head None base is = absurd cc
seat_of head (Some v) base is = (v, seat_if (length v.kept == head.viewers) v base is, refl)

-- the entries below the start of a log that was opened
abbrev Below : (run : List ℕ) (head : Head) (had : Held) → Option BaseView → Type 0
Below run head had base = (below : List EntryView) × IsBelow run (start_of head base) below × Begins below had.entries

below_of : (run : List ℕ) (head : Head) (had : Held) (based : Option BasedView) (base : Option BaseView) → base_found head based ≡ Some base → head.run ≡ run → ((b : BasedView) (v : BaseView) (h : Head) → based ≡ Some b → base_in b.base ≡ Some v → (below : List EntryView) × IsBelow run (start_of h (Some v)) below × Begins below had.entries) → Below run head had base
below_of run head had None base is same bases =
    subst (λ (b : Option BaseView). Below run head had b) (some_same None base is)
    ([], record { number = refl; chain = sym same }, (had.entries, refl))
below_of run head had (Some b) base is same bases =
    let t = seat_of head (base_in b.base) base is in
    subst (λ (x : Option BaseView). Below run head had x) (sym t.1) (bases b t.0 head refl t.2)

pub opened_read : (run : List ℕ) (head : Head) (o : OpeningView) (base : Option BaseView) → base_found head o.based ≡ Some base → head.run ≡ run → (now : Option Held) → AfterOpening run o now → AfterReading run (start_of head base) ((start_of head base).below + 1) o.contents [] now
opened_read run head o base is same now after =
    let b = below_of run head after.0 o.based base is same after.1.based in (
      after.0,
      b.0,
      after.1.read ((start_of head base).below + 1),
      b.1,
      subst (λ (xs : List EntryView). Begins xs after.0.entries) (sym (append-nil b.0)) b.2,
      after.2,
    )

pub opened_reads : (world : List ℕ) (head : Head) (told : Option (List Exchange)) (o : OpeningView) (base : Option BaseView) → base_found head o.based ≡ Some base → Always world head.run told (AfterOpening head.run o) → Always world head.run told (AfterReading head.run (start_of head base) ((start_of head base).below + 1) o.contents [])
opened_reads world head told o base is after =
    always_map world head.run told (AfterOpening head.run o) (AfterReading head.run (start_of head base) ((start_of head base).below + 1) o.contents [])
    (opened_read head.run head o base is refl) after

-- ---- the entries

module _ (world : List ℕ) (told : Option (List Exchange)) (c : ContentsView) (start : Start) (known more : List EntryView) (read : entries_from start known c.frames ≡ Some more) where
  from_none : known ≡ [] → entries_from start [] c.frames ≡ Some more
  from_none none = subst (λ (es : List EntryView). entries_from start es c.frames ≡ Some more) none read

  place : start.below + 0 + 1 ≡ start.below + 1
  place = omega arith

  pub found_all : (N : Type 0) (o : Option Revisions) (v : Revisions) → o ≡ Some v → MatchOption o N (λ v. (start.below + length more ≡ c.tail) × (v.head ≡ c.head_revision) × (v.tail ≡ c.tail_revision)) → (run : List ℕ) → Always world run told (AfterReading run start (start.below + 1) c []) → known ≡ [] → IsKept world run start told (held v.head v.tail more)
  found_all N o v is all run after none =
      let here : (start.below + length more ≡ c.tail) × (v.head ≡ c.head_revision) × (v.tail ≡ c.tail_revision) =
      subst (λ (o : Option Revisions). MatchOption o N (λ v. (start.below + length more ≡ c.tail) × (v.head ≡ c.head_revision) × (v.tail ≡ c.tail_revision))) is all in
      always_map world run told (AfterReading run start (start.below + 1) c []) (KeptAt run start (held v.head v.tail more))
      (all_read run start (start.below + 1) c [] more v.head v.tail place (from_none none) here.0 here.1 here.2) after

  pub found_more : {F : Type 0} (new : Option (List Exchange)) (more_start : Start) (last : List EntryView) (r : Result Revisions F) → more_start ≡ start → IfOk r (λ v. (run : List ℕ) → Always world run told (HasFrom run more_start more) → IsKept world run more_start new (held v.head v.tail last)) → IfOk r (λ v. (run : List ℕ) → Always world run told (AfterReading run start (start.below + 1) c []) → known ≡ [] → IsKept world run start new (held v.head v.tail last))
  found_more new more_start last (Err e) still all = tt
  found_more new more_start last (Ok v) still all = λ run after none.
      subst (λ (s : Start). Always world run told (HasFrom run s more) → IsKept world run s new (held v.head v.tail last)) still (all run)
      (always_map world run told (AfterReading run start (start.below + 1) c []) (HasFrom run start more) (more_read run start (start.below + 1) c [] more place (from_none none)) after)
