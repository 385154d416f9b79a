use Rattle.std.proofs.Common.{rules, ◌≡◌, ℕ, List, Option, None, Some, Ok, Err, inr, refl}
use Rattle.std.specs.Prelude.{codes}
use Rattle.std.specs.Option.{ok_or}
use Rattle.serde_json.specs.View.{view}
use Rattle.share_etcd.specs.declared.fault.AnswerFault.TheVariants.{Malformed}
use Rattle.share_etcd.specs.Answers.{revision_at}
use Rattle.share_etcd.specs.Contents.{bytes_at, pair_by}
use Rattle.share_etcd.proofs.Failing.{some_of, fails_on}
use Rattle.share_etcd.proofs.pairs.pair_in.Goals as goal

no_value : (k v : Option (List ℕ)) (r : Option ℕ) (key : List ℕ) → k ≡ Some key → v ≡ None → pair_by k v r ≡ None
no_value k v r key has none = rw (has, none) refl

no_revision : (k v : Option (List ℕ)) (r : Option ℕ) (key value : List ℕ) → k ≡ Some key → v ≡ Some value → r ≡ None → ok_or (pair_by k v r) Malformed ≡ Err Malformed
no_revision k v r key value has also none = rw (has, also, none) refl

whole : (k v : Option (List ℕ)) (r : Option ℕ) (key value : List ℕ) (revision : ℕ) → k ≡ Some key → v ≡ Some value → r ≡ Some revision → ok_or (pair_by k v r) Malformed ≡ Ok (record { key = key; value = value; revision = revision })
whole k v r key value revision has also there = rw (has, also, there) refl

pub returns-in_err-bytes : goal.returns-in_err-bytes
returns-in_err-bytes c =
    let d = view c.args.value.now in
    let k = bytes_at (codes "key") d in
    let v = bytes_at (codes "value") d in
    let r = revision_at (codes "mod_revision") d in
    let failed : c.from_residual-in_err-bytes.result ≡ Err c.in_err-bytes.field-0.0 = search rules in
    let has : k ≡ Some c.in_ok-key.key.items = some_of k c.in_ok-key.key.items c.in_ok-key.ensures in
    rw failed (fails_on v (pair_by k v r) c.in_err-bytes.field-0.0 (no_value k v r c.in_ok-key.key.items has) c.in_err-bytes.ensures)

pub returns-in_default : goal.returns-in_default
returns-in_default c =
    let d = view c.args.value.now in
    let k = bytes_at (codes "key") d in
    let v = bytes_at (codes "value") d in
    let r = revision_at (codes "mod_revision") d in
    let has : k ≡ Some c.in_ok-key.key.items = some_of k c.in_ok-key.key.items c.in_ok-key.ensures in
    let also : v ≡ Some c.in_ok-bytes.bytes.items = some_of v c.in_ok-bytes.bytes.items c.in_ok-bytes.ensures in
    let none : r ≡ None = search rules in
    inr (no_revision k v r c.in_ok-key.key.items c.in_ok-bytes.bytes.items has also none)

pub returns : goal.returns
returns c =
    let d = view c.args.value.now in
    let k = bytes_at (codes "key") d in
    let v = bytes_at (codes "value") d in
    let r = revision_at (codes "mod_revision") d in
    let has : k ≡ Some c.in_ok-key.key.items = some_of k c.in_ok-key.key.items c.in_ok-key.ensures in
    let also : v ≡ Some c.in_ok-bytes.bytes.items = some_of v c.in_ok-bytes.bytes.items c.in_ok-bytes.ensures in
    let there : r ≡ Some c.in-Some.revision = search rules in
    whole k v r c.in_ok-key.key.items c.in_ok-bytes.bytes.items c.in-Some.revision has also there
