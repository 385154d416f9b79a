-- Names in a set, so that each is found in few steps.
use Rattle.std.specs.Prelude.{◌≡◌, Bool, List, ℕ}
use Rattle.std.specs.BTreeSet.{contains_by}
use Rattle.std.specs.Cmp.Lexicographic.{slice_cmp}
use Rattle.std.specs.List.{list_any}
use Rattle.std.specs.Ordering.{nat_cmp}
use Rattle.scene_faults.specs.Texts.{has_name}
use Rattle.scene_faults.specs.declared.named.NameSet.{NameSet}
use Rattle.scene_faults.specs.declared.named.Named.{Named}

-- the set as a function
unfoldable pub holds : NameSet → List ℕ → Bool
holds set name = contains_by (λ k. slice_cmp nat_cmp name k.now) set.names

-- the names in the set are those of the list
abbrev pub AreOf : NameSet → List Named → Type 0
AreOf set named = (name : List ℕ) → holds set name ≡ list_any (has_name name) named
