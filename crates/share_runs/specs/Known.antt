-- What a viewer of a run knows of its list of inputs (our choice).
use Rattle.std.specs.Prelude.{◌≡◌, ℕ, ◌+◌, ◌-◌, ◌==◌, Bool, List, [], ◌∷◌, length, Option, None, Some, nat_le, nat_lt, slice_get, if◌then◌else◌}
use Rattle.std.specs.List.{find}
use Rattle.std.specs.Option.{option_map, option_or}
use Rattle.share_entries.specs.Chain.{link}
use Rattle.share_session.specs.declared.message.Input2.{Input2}
use Rattle.share_session.specs.declared.prefix.Prefix.{Prefix}

-- the chain after n inputs, if these are the chains after `from` inputs and after each one more
abbrev pub chain_in : (from : ℕ) → List (List ℕ) → ℕ → Option (List ℕ)
chain_in from chains n = if nat_le from n then slice_get chains (n - from) else None

abbrev pub starts_at : ℕ → Prefix → Bool
starts_at n p = p.applied == n

-- the chain after n inputs, if one may start there
abbrev pub start_at : List Prefix → ℕ → Option (List ℕ)
start_at starts n = option_map (λ p. p.chain) (find (starts_at n) starts)

-- the chain after n inputs, by either
abbrev pub chain_at : (from : ℕ) → List (List ℕ) → List Prefix → ℕ → Option (List ℕ)
chain_at from chains starts n = option_or (chain_in from chains n) (start_at starts n)

-- a viewer that asks for the input after n starts from the chain there, if it may
abbrev pub start_from : (from : ℕ) → List (List ℕ) → Option (List ℕ) → ℕ → ℕ × List (List ℕ)
start_from from chains None n = (from, chains)
start_from from chains (Some chain) n = (n, chain ∷ [])

-- unless the chain after n inputs is among those that it knows
abbrev pub begun_at : (known : Option (List ℕ)) → (from : ℕ) → List (List ℕ) → List Prefix → ℕ
    → ℕ × List (List ℕ)
begun_at None from chains starts n = start_from from chains (start_at starts n) n
begun_at (Some chain) from chains starts n = (from, chains)

abbrev pub begun : (from : ℕ) → List (List ℕ) → List Prefix → ℕ → ℕ × List (List ℕ)
begun from chains starts n = begun_at (chain_in from chains n) from chains starts n

-- an input with a number after the next one
abbrev pub is_early : (from : ℕ) → List (List ℕ) → ℕ → Bool
is_early from chains number = nat_lt (from + length chains) number

-- an input of the list with these chains: the chains before and after it are known, and are its own
pub record IsOf (from : ℕ) (chains : List (List ℕ)) (i : Input2) : Type 0 where
  pub before : chain_in from chains (i.number - 1) ≡ Some i.chain
  pub after : chain_in from chains i.number ≡ Some (link i.chain i.entry)
