-- What single steps do to the tables.
use Rattle.std.specs.Prelude.{◌≡◌, List, [], ◌∷◌, ◌++◌, length}
use Rattle.std.specs.Borrow.{Bor}
use Rattle.std.specs.List.{filter}
use Rattle.classic_tree.specs.declared.tree.ProtoText.{ProtoText, out-ProtoText}
use Rattle.proto_meaning.specs.Names.{Name}
use Rattle.proto_meaning.specs.Sight.{Names, no_names, with_name}
use Rattle.proto_meaning.specs.declared.tree.BodyTree.{BodyTree}
use Rattle.proto_meaning.specs.declared.tree.DefaultTree.{DefaultTree}
use Rattle.proto_resolver.specs.declared.scopes.KnownProto.{KnownProto}
use Rattle.proto_resolver.specs.declared.scopes.Table.{Table}
use Rattle.proto_resolver.specs.declared.scopes.TakenNames.{TakenNames}
use Rattle.proto_resolver.specs.declared.resolver.Resolver.{Resolver}
use Rattle.proto_resolver.specs.Held.{names_of, takes_of, found, no_entries, with_entry}

-- nothing is taken so far; `before` is what was taken
pub record IsAside (old : Resolver) (before : TakenNames) (new : Resolver) : Type 0 where
  pub kept : names_of before ≡ names_of old.scopes.takes
  pub here : found new.scopes.here ≡ found old.scopes.here
  pub outside : new.scopes.outside.items ≡ old.scopes.outside.items
  pub takes : names_of new.scopes.takes ≡ no_names
  pub protos : new.protos ≡ old.protos

-- the names of `before` are taken again
pub record IsBack (old : Resolver) (before : TakenNames) (new : Resolver) : Type 0 where
  pub here : found new.scopes.here ≡ found old.scopes.here
  pub outside : new.scopes.outside.items ≡ old.scopes.outside.items
  pub takes : names_of new.scopes.takes ≡ names_of before
  pub protos : new.protos ≡ old.protos

-- an IS takes the name
pub record IsTaking (name : Name) (old new : Resolver) : Type 0 where
  pub here : found new.scopes.here ≡ found old.scopes.here
  pub outside : new.scopes.outside.items ≡ old.scopes.outside.items
  pub takes : names_of new.scopes.takes ≡ with_name name (names_of old.scopes.takes)
  pub protos : new.protos ≡ old.protos

-- a scope was opened; `before` is what the body around has taken so far
pub record IsScopeOpen (old : Resolver) (before : TakenNames) (new : Resolver) : Type 0 where
  pub kept : names_of before ≡ names_of old.scopes.takes
  pub here : found new.scopes.here ≡ no_entries
  pub outside : new.scopes.outside.items ≡ old.scopes.outside.items ++ old.scopes.here ∷ []
  pub takes : names_of new.scopes.takes ≡ no_names
  pub protos : new.protos ≡ old.protos

-- the scope around, the last of `outside`, is open again; `taken` is what the body took
pub record IsClosed (outer : List Table) (around : Table) (before taken : TakenNames)
    (old new : Resolver) : Type 0 where
  pub took : names_of taken ≡ names_of old.scopes.takes
  pub here : found new.scopes.here ≡ found around
  pub outside : new.scopes.outside.items ≡ outer
  pub takes : names_of new.scopes.takes ≡ names_of before
  pub protos : new.protos ≡ old.protos

-- the default values of fields of those names
abbrev pub defaults_taken : Names → List DefaultTree → List DefaultTree
defaults_taken takes = filter (λ d. takes d.declaration.now.name)

-- the prototype has the next number
pub record IsDeclared (text : Bor ProtoText) (defaults : List DefaultTree) (body : List BodyTree)
    (taken : Names) (old new : Resolver) : Type 0 where
  pub entry : KnownProto
  pub number : entry.number ≡ length old.protos
  pub takes_those : takes_of entry ≡ taken
  pub here : found new.scopes.here
      ≡ with_entry (out-ProtoText text.now).name entry (found old.scopes.here)
  pub outside : new.scopes.outside.items ≡ old.scopes.outside.items
  pub takes : names_of new.scopes.takes ≡ names_of old.scopes.takes
  pub protos : new.protos ≡ old.protos
      ++ record { text = text; defaults = defaults_taken taken defaults; body = body } ∷ []
