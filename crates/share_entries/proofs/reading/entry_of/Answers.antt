use Rattle.std.proofs.Common.{◌≡◌, ◌++◌, ℕ, List, Option, Some, None, sym, arith}
use Rattle.std.specs.Prelude.{IfSome}
use Rattle.std.specs.Option.{option_map}
use Rattle.byte_codec.specs.Exact.{IsBytes}
use Rattle.share_entries.specs.Entry.{EntryView, entry_codec}
use Rattle.share_entries.proofs.EntryLaws.{entry_exact}
use Rattle.share_entries.proofs.reading.entry_of.Goals as goal

is_found : {B : Type 0} (r : Option (EntryView × B)) (now : B → List ℕ) (bytes : List ℕ) → IsBytes bytes → option_map (λ x. (x.0, now x.1)) r ≡ entry_codec.read bytes → IfSome r (λ x. bytes ≡ entry_codec.write x.0 ++ now x.1)
is_found None now bytes h e = tt
is_found (Some x) now bytes h e = (entry_exact.takes bytes x.0 (now x.1) h (sym e)).parts

pub returns-clause-found : goal.returns-clause-found
returns-clause-found c = is_found c.first_entry.result (λ r. r.now) c.args.bytes.now (λ i. omega (arith, c.type_inv.bytes i)) c.first_entry.ensures
