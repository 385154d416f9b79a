-- What an answer to a transaction says.
use Rattle.std.specs.Prelude.{◌≡◌, ℕ, Bool, true, false, List, codes, Option, None, Some, if◌then◌else◌}
use Rattle.std.specs.Str.{is_utf8}
use Rattle.byte_codec.specs.Codec.{◌>>?◌}
use Rattle.serde_json.specs.Data.{Data, boolean}
use Rattle.serde_json.specs.Read.{read}
use Rattle.serde_json.specs.Find.{get, as_bool, as_str}
use Rattle.share_etcd.specs.declared.outcome.Outcome.{Outcome}
use Rattle.share_etcd.specs.declared.outcome.Outcome.TheVariants.{Stored, Refused, Malformed}
use Rattle.share_etcd.specs.Numerals.{revision_of}

-- the JSON that a body is, with nothing after it
abbrev pub document : (body : List ℕ) → Option Data
document body = if is_utf8 body then read body else None

-- the revision that a member names, as a decimal text
abbrev pub revision_at : (name : List ℕ) → Data → Option ℕ
revision_at name d = (get name d >>? as_str) >>? revision_of

-- the revision of the store as the answer was made
abbrev pub store_revision : Data → Option ℕ
store_revision d = get (codes "header") d >>? revision_at (codes "revision")

-- a truth value; false, if it was left out
abbrev pub truth_of : Option Data → Option Bool
truth_of None = Some false
truth_of (Some d) = as_bool d

abbrev pub succeeded : Data → Option Bool
succeeded d = truth_of (get (codes "succeeded") d)

-- ---- whether it was done

abbrev pub outcome_by : Option Bool → Option ℕ → Outcome
outcome_by None _ = Malformed
outcome_by (Some done) None = Malformed
outcome_by (Some true) (Some revision) = Stored revision
outcome_by (Some false) (Some revision) = Refused

abbrev pub outcome_of : Option Data → Outcome
outcome_of None = Malformed
outcome_of (Some d) = outcome_by (succeeded d) (store_revision d)

-- no answer is Stored but one that says `succeeded`, and the revision is the one it names
abbrev pub StoredIsSaid : Type 0
StoredIsSaid = (answer : Option Data) (revision : ℕ) → outcome_of answer ≡ Stored revision
    → (d : Data) × (answer ≡ Some d) × (get (codes "succeeded") d ≡ Some (boolean true))
    × (store_revision d ≡ Some revision)
