-- What a reading shows of the keys.
use Rattle.std.proofs.Common.{◌≡◌, ℕ, ◌+◌, List, length, Option, None, Some, Result, Ok, Err, IfOk, IfSome, MatchOption, sym, ap, subst, ◌∙◌, ◌++◌, length-append}
use Rattle.share_entries.specs.declared.start.Start.{Start}
use Rattle.share_entries.specs.Entry.{EntryView}
use Rattle.share_store.specs.OneLog.{Begins}
use Rattle.share_etcd.specs.Contents.{ContentsView}
use Rattle.share_etcd.specs.declared.requests.Revisions.{Revisions}
use Rattle.share_engine.specs.Exchanges.{Exchange}
use Rattle.share_engine.specs.Keys.{Held, held, Moves, Has, HasFrom, Always, KeptAt, IsKept, AfterReading}
use Rattle.share_engine.specs.Reading.{entries_from}
use Rattle.share_engine.proofs.Lasting.{always_map, begins_on, same_long}

begins_now : (more : List EntryView) (had : Held) (now : Option Held) → Begins more had.entries → Moves (Some had) now → Has more now
begins_now more had None begins moves = absurd moves
begins_now more had (Some now) begins moves = begins_on more had.entries now.entries begins moves.grows

-- the keys have what was read
pub more_read : (run : List ℕ) (start : Start) (first : ℕ) (c : ContentsView) (known more : List EntryView) → start.below + length known + 1 ≡ first → entries_from start known c.frames ≡ Some more → (now : Option Held) → AfterReading run start first c known now → HasFrom run start more now
more_read run start first c known more place read now after =
    (after.1, after.3, begins_now (after.1 ++ more) after.0 now (after.2.frames start after.1 known more after.3 after.4 place read) after.5)

-- and it is all that they had
pub all_read : (run : List ℕ) (start : Start) (first : ℕ) (c : ContentsView) (known more : List EntryView) (head tail : ℕ) → start.below + length known + 1 ≡ first → entries_from start known c.frames ≡ Some more → start.below + length more ≡ c.tail → head ≡ c.head_revision → tail ≡ c.tail_revision → (now : Option Held) → AfterReading run start first c known now → KeptAt run start (held head tail more) now
all_read run start first c known more head tail place read all heads tails now after =
    let had = after.0 in
    let below = after.1 in
    let r = after.2 in
    let long : length had.entries ≡ length (below ++ more) =
    r.all ∙ sym all ∙ ap (λ (n : ℕ). n + length more) (sym after.3.number) ∙ sym (length-append below more) in
    let same : had.entries ≡ below ++ more = same_long (below ++ more) had.entries (r.frames start below known more after.3 after.4 place read) long in
    let is : Some had ≡ Some (held head tail (below ++ more)) =
    ap (λ (n : ℕ). Some (held n had.tail_revision had.entries)) (r.head_same ∙ sym heads)
    ∙ ap (λ (n : ℕ). Some (held head n had.entries)) (r.tail_same ∙ sym tails)
    ∙ ap (λ (es : List EntryView). Some (held head tail es)) same in
    (below, after.3, subst (λ (o : Option Held). Moves o now) is after.5)

-- ---- the answer of a reading

-- whatever the keys had first before the reading, they had first at it
abbrev pub Reads : (world : List ℕ) (old new : Option (List Exchange)) (first : ℕ) → ContentsView → Type 0
Reads world old new first c =
    (run : List ℕ) (start : Start) (known : List EntryView) → Always world run old (HasFrom run start known) → Always world run new (AfterReading run start first c known)

module _ (world : List ℕ) (old new : Option (List Exchange)) (c : ContentsView) (start : Start) (known more : List EntryView) (first : ℕ) where
  pub has_if : {R F : Type 0} (r : Result R F) → start.below + length known + 1 ≡ first → Reads world old new first c → IfOk r (λ _. entries_from start known c.frames ≡ Some more) → IfOk r (λ _. (run : List ℕ) → Always world run old (HasFrom run start known) → Always world run new (HasFrom run start more))
  has_if (Err e) place reads says = tt
  has_if (Ok x) place reads says = λ run always.
      always_map world run new (AfterReading run start first c known) (HasFrom run start more)
      (more_read run start first c known more place says) (reads run start known always)

  pub all_if : {F : Type 0} (N : Type 0) (r : Result (Option Revisions) F) → start.below + length known + 1 ≡ first → Reads world old new first c → IfOk r (λ _. entries_from start known c.frames ≡ Some more) → IfOk r (λ o. MatchOption o N (λ v. (start.below + length more ≡ c.tail) × (v.head ≡ c.head_revision) × (v.tail ≡ c.tail_revision)))
      → IfOk r (λ o. IfSome o (λ v. (run : List ℕ) → Always world run old (HasFrom run start known) → IsKept world run start new (held v.head v.tail more)))
  all_if N (Err e) place reads says all = tt
  all_if N (Ok None) place reads says all = tt
  all_if N (Ok (Some v)) place reads says all = λ run always.
      always_map world run new (AfterReading run start first c known) (KeptAt run start (held v.head v.tail more))
      (all_read run start first c known more v.head v.tail place says all.0 all.1 all.2)
      (reads run start known always)
