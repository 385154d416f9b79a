-- No answer is Stored but one that says that it succeeded.
use Rattle.std.proofs.Common.{◌≡◌, ℕ, Bool, true, false, Option, None, Some, refl, ap}
use Rattle.std.specs.Prelude.{codes}
use Rattle.serde_json.specs.Data.{Data, null, boolean, number, string, array, object}
use Rattle.serde_json.specs.Find.{get, as_bool}
use Rattle.share_etcd.specs.declared.outcome.Outcome.TheVariants.{Stored}
use Rattle.share_etcd.specs.Answers.{truth_of, succeeded, store_revision, outcome_by, StoredIsSaid}

bool_said : (d : Data) → as_bool d ≡ Some true → d ≡ boolean true
bool_said null e = absurd cc
bool_said (boolean b) e = let is : b ≡ true = cc in ap boolean is
bool_said (number n) e = absurd cc
bool_said (string s) e = absurd cc
bool_said (array ds) e = absurd cc
bool_said (object ms) e = absurd cc

truth_said : (m : Option Data) → truth_of m ≡ Some true → m ≡ Some (boolean true)
truth_said None e = absurd cc
truth_said (Some d) e = ap Some (bool_said d e)

both_said : (done : Option Bool) (r : Option ℕ) (n : ℕ) → outcome_by done r ≡ Stored n → (done ≡ Some true) × (r ≡ Some n)
both_said None r n e = absurd cc
both_said (Some done) None n e = absurd cc
both_said (Some true) (Some m) n e = (refl, (let is : m ≡ n = cc in ap Some is))
both_said (Some false) (Some m) n e = absurd cc

pub stored_said : StoredIsSaid
stored_said None revision e = absurd cc
stored_said (Some d) revision e =
    let said = both_said (succeeded d) (store_revision d) revision e in
    (d, refl, truth_said (get (codes "succeeded") d) said.0, said.1)
