-- One part after the other, from where the walk stands.
use Rattle.std.proofs.Common.{◌≡◌, ℕ, List, Result, Ok, Err, refl, ap, sym, ◌∙◌, inl, inr}
use Rattle.std.specs.Prelude.{◌⊎◌}
use Rattle.proto_flat.specs.Fault.{memory}
use Rattle.proto_flat.specs.declared.fault.ExpandFault.{ExpandFault}
use Rattle.proto_meaning.specs.Flat.{Does, ◌>>=◌}
use Rattle.proto_meaning.specs.Sight.{Prototype}
use Rattle.proto_parts.specs.Settled.{State, doing}
use Rattle.proto_parts.proofs.Settling.{parts_settle_in_turn}
use Rattle.proto_nodes.specs.declared.frames.NodeTask.{NodeTask}
use Rattle.proto_nodes.specs.Does.{Comes, after, done}
use Rattle.proto_nodes.specs.Frames.{Goes}

pub then-assoc : {A B C : Type 0} (o : Comes A) (f : A → State → Comes B) (g : B → State → Comes C) → after (after o f) g ≡ after o (λ a s. after (f a s) g)
then-assoc (Ok p) f g = refl
then-assoc (Err e) f g = refl

pub then-same : {A B : Type 0} (o : Comes A) (f g : A → State → Comes B) → ((a : A) (s : State) → f a s ≡ g a s) → after o f ≡ after o g
then-same (Ok p) f g same = same p.0 p.1
then-same (Err e) f g same = refl

pub then-done : {A : Type 0} (o : Comes A) → after o (done {A = A}) ≡ o
then-done (Ok p) = refl
then-done (Err e) = refl

pub doing-then : {A B : Type 0} (m : Does A) (f : A → Does B) (s : State) → doing (m >>= f) s ≡ after (doing m s) (λ a. doing (f a))
doing-then m f s = parts_settle_in_turn m f s

-- three parts
pub doing-assoc : {A B C : Type 0} (m : Does A) (f : A → Does B) (g : B → Does C) (s : State) → doing ((m >>= f) >>= g) s ≡ after (doing m s) (λ a. doing (f a >>= g))
doing-assoc m f g s =
    doing-then (m >>= f) g s ∙ ap (λ o. after o (λ b. doing (g b))) (doing-then m f s)
    ∙ then-assoc (doing m s) (λ a. doing (f a)) (λ b. doing (g b))
    ∙ then-same (doing m s) (λ a t. after (doing (f a) t) (λ b. doing (g b))) (λ a. doing (f a >>= g)) (λ a t. sym (doing-then (f a) g t))

pub doing-inside : {A B C : Type 0} (m : Does A) (f : A → Does B) (g : B → Does C) (s : State) → doing ((m >>= f) >>= g) s ≡ doing (m >>= λ a. f a >>= g) s
doing-inside m f g s = doing-assoc m f g s ∙ sym (doing-then m (λ a. f a >>= g) s)

-- a part that is done, and then another
pub did : {A B : Type 0} (m : Does A) (f : A → Does B) (s t : State) (a : A) → doing m s ≡ Ok (a, t) → doing (m >>= f) s ≡ doing (f a) t
did m f s t a is = doing-then m f s ∙ ap (λ o. after o (λ a. doing (f a))) is

pub stopped : {A B : Type 0} (m : Does A) (f : A → Does B) (s : State) (e : ExpandFault) → (e ≡ memory) ⊎ (doing m s ≡ Err e) → (e ≡ memory) ⊎ (doing (m >>= f) s ≡ Err e)
stopped m f s e (inl k) = inl k
stopped m f s e (inr k) = inr (doing-then m f s ∙ ap (λ o. after o (λ a. doing (f a))) k)

pub same-stop : {A : Type 0} (o q : Comes A) (e : ExpandFault) → o ≡ q → (e ≡ memory) ⊎ (q ≡ Err e) → (e ≡ memory) ⊎ (o ≡ Err e)
same-stop o q e is (inl k) = inl k
same-stop o q e is (inr k) = inr (is ∙ k)

pub then-stop : {A B : Type 0} (o : Comes A) (f : A → State → Comes B) (e : ExpandFault) → (e ≡ memory) ⊎ (o ≡ Err e) → (e ≡ memory) ⊎ (after o f ≡ Err e)
then-stop o f e (inl k) = inl k
then-stop o f e (inr k) = inr (ap (λ x. after x f) k)

-- ---- answers

-- toward another outcome that is the same
pub goes-as : (ps : List Prototype) (o q : Comes ℕ) (r : Result NodeTask ExpandFault) (s : State) → o ≡ q → Goes ps q r s → Goes ps o r s
goes-as ps o q (Ok t) s is k = is ∙ k
goes-as ps o q (Err e) s is k = same-stop o q e is k
