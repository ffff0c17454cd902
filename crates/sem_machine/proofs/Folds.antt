-- What is kept by each turn of a fold, and by both that an option picks.
use Rattle.std.proofs.Common.{◌≡◌, List, [], ◌∷◌, Option, Some, None, refl}
use Rattle.std.specs.List.{Contains}
use Rattle.std.specs.Option.{option_map_or}
use Rattle.sem_key.specs.Lists.{in_turn}
use Rattle.sem_key.proofs.Members.{Contains-head, Contains-tail}

-- what each keeps, all in turn keep
pub in_turn-keeps : {X S : Type 0} (P : S → Type 0) (f : X → S → S) → ((x : X) (s : S) → P s → P (f x s)) → (xs : List X) (s : S) → P s → P (in_turn f xs s)
unfolding in_turn
in_turn-keeps P f keeps [] s is = is
in_turn-keeps P f keeps (x ∷ xs) s is = in_turn-keeps P f keeps xs (f x s) (keeps x s is)

-- the same, where each is one of the list
pub in_turn-keeps_each : {X S : Type 0} (P : S → Type 0) (f : X → S → S) (xs : List X) → ((x : X) → Contains xs x → (s : S) → P s → P (f x s)) → (s : S) → P s →
    P (in_turn f xs s)
unfolding in_turn
in_turn-keeps_each P f [] keeps s is = is
in_turn-keeps_each P f (x ∷ xs) keeps s is = in_turn-keeps_each P f xs (λ y among. keeps y (Contains-tail x xs y among)) (f x s)
    (keeps x (Contains-head x xs) s is)

-- what is so of both is so of what an option picks
pub option-keeps : {X Y : Type 0} (P : Y → Type 0) (f : X → Y) (o : Option X) (y : Y) → ((x : X) → o ≡ Some x → P (f x)) → P y → P (option_map_or f o y)
option-keeps P f None y some none = none
option-keeps P f (Some x) y some none = some x refl
