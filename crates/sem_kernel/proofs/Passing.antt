-- Which messages a kernel can move with a fabric.
use Rattle.std.proofs.Common.{◌≡◌, ℕ, ◌<◌, ◌≤◌, ◌&&◌, Bool, true, false, not, List, length, Option, Some, None, is_none, is_some, slice_get, refl, sym, ◌∙◌, ap}
use Rattle.std.proofs.Common.{inl, inr}
use Rattle.std.specs.Prelude.{◌==◌, nat_lt, nat_le}
use Rattle.std.proofs.lemmas.Bool.{cases_lt, lt-ltb, le-ltb, le-leb, lt-leb}
use Rattle.std.proofs.lemmas.Option.{slice_get_cases}
use Rattle.sem_msg.specs.declared.event.Act.TheVariants.{Fetch, Handle, Flush}
use Rattle.sem_msg.specs.Fabric.{FabricValue, link_in}
use Rattle.sem_msg.specs.Masks.{has_bit, IsMaskOf}
use Rattle.sem_machine.specs.Sides.{outbox}
use Rattle.sem_machine.specs.Machine.{is_locally_enabled, is_other_kernel}
use Rattle.sem_kernel.specs.KernelValue.{KernelValue}
use Rattle.sem_kernel.specs.Worlds.{can_do}
use Rattle.sem_kernel.proofs.Happened.{and-true}

-- there is an element at each place below the length
pub some-within : {X : Type 0} (xs : List X) (n : ℕ) → nat_lt n (length xs) ≡ is_some (slice_get xs n)
some-within xs n = elim (slice_get_cases xs n).1 [
  | inl (x, within, at, same) ↦ lt-ltb n (length xs) within ∙ sym (ap is_some at)
  | inr (past, none) ↦ le-ltb n (length xs) past ∙ sym (ap is_some none)
]

-- a message in the inbox is handled
pub handle-told : (k : KernelValue) (f : FabricValue) → can_do k f Handle ≡ is_some k.side.inbox
unfolding is_locally_enabled
handle-told k f = and-true (is_some k.side.inbox && true) ∙ and-true (is_some k.side.inbox)

-- what is not full has room
pub not-full : (w n : ℕ) → not (nat_le w n) ≡ nat_lt n w
not-full w n = elim (cases_lt n w) [
  | inl room ↦ ap not (lt-leb w n room) ∙ sym (lt-ltb n w room)
  | inr none ↦ ap not (le-leb w n none) ∙ sym (le-ltb n w none)
]

none-not : {X : Type 0} (o : Option X) → is_none o ≡ not (is_some o)
none-not None = refl
none-not (Some x) = refl

and-false : (b : Bool) → (b && false) ≡ false
and-false true = refl
and-false false = refl

module _ (k : KernelValue) (f : FabricValue) (j : ℕ) where
  -- with a message in its inbox it fetches none
  pub deaf : is_some k.side.inbox ≡ true → can_do k f (Fetch j) ≡ false
  unfolding is_locally_enabled
  deaf some =
      let link : Bool = is_some (slice_get (link_in f.links j k.id) 0) in
      ap (λ b. ((is_other_kernel k.setup k.id j && b) && true) && link) (none-not k.side.inbox ∙ ap not some)
      ∙ ap (λ b. (b && true) && link) (and-false (is_other_kernel k.setup k.id j))

-- it moves none past the last kernel
pub fetch-past : (k : KernelValue) (f : FabricValue) (j : ℕ) → k.setup.kernels ≤ j → can_do k f (Fetch j) ≡ false
unfolding is_locally_enabled
fetch-past k f j past = ap (λ b. (((b && not (j == k.id)) && is_none k.side.inbox) && true) && is_some (slice_get (link_in f.links j k.id) 0))
    (le-ltb j k.setup.kernels past)

pub flush-past : (k : KernelValue) (f : FabricValue) (j : ℕ) → k.setup.kernels ≤ j → can_do k f (Flush j) ≡ false
unfolding is_locally_enabled
flush-past k f j past = ap (λ b. (((b && not (j == k.id)) && is_some (slice_get (outbox k.side j) 0)) && true)
    && nat_lt (length (link_in f.links k.id j)) f.window) (le-ltb j k.setup.kernels past)

-- the tests of an act that moves a message, in another order
fetch-order : (few other link : Bool) → ((((few && other) && true) && true) && link) ≡ (other && (few && link))
fetch-order true true link = refl
fetch-order true false link = refl
fetch-order false true link = refl
fetch-order false false link = refl

flush-order : (few other waits room : Bool) → ((((few && other) && waits) && true) && room) ≡ (other && ((few && waits) && room))
flush-order true true true room = refl
flush-order true true false room = refl
flush-order true false waits room = refl
flush-order false true waits room = refl
flush-order false false waits room = refl

module _ (k : KernelValue) (f : FabricValue) (same : f.kernels ≡ k.setup.kernels) (j : ℕ) (lt : j < 32) where
  -- it fetches with an empty inbox, from another kernel, what waits
  pub fetch-bit : is_some k.side.inbox ≡ false → (coming : ℕ) →
      IsMaskOf (λ from. nat_lt from f.kernels && nat_lt 0 (length (link_in f.links from k.id))) coming →
      (not (j == k.id) && has_bit coming j) ≡ can_do k f (Fetch j)
  unfolding is_locally_enabled
  fetch-bit none coming is =
      let few : Bool = nat_lt j k.setup.kernels in
      let other : Bool = not (j == k.id) in
      let link : Bool = is_some (slice_get (link_in f.links j k.id) 0) in
      ap (λ b. other && b) (is j lt ∙ (ap (λ n. nat_lt j n && nat_lt 0 (length (link_in f.links j k.id))) same
      ∙ ap (λ b. few && b) (some-within (link_in f.links j k.id) 0)))
      ∙ sym (ap (λ b. (((few && other) && b) && true) && link) (none-not k.side.inbox ∙ ap not none) ∙ fetch-order few other link)

  -- it flushes to another kernel what waits, where the link has room
  pub flush-bit : (mask filled full : ℕ) → IsMaskOf (λ to. has_bit filled to && not (has_bit full to)) mask →
      IsMaskOf (λ to. nat_lt to k.setup.kernels && is_some (slice_get (outbox k.side to) 0)) filled →
      IsMaskOf (λ to. nat_le f.window (length (link_in f.links k.id to))) full → (not (j == k.id) && has_bit mask j) ≡ can_do k f (Flush j)
  unfolding is_locally_enabled
  flush-bit mask filled full is waits fills =
      let few : Bool = nat_lt j k.setup.kernels in
      let other : Bool = not (j == k.id) in
      let some : Bool = is_some (slice_get (outbox k.side j) 0) in
      let room : Bool = nat_lt (length (link_in f.links k.id j)) f.window in
      ap (λ b. other && b) (is j lt
      ∙ (ap (λ b. b && not (has_bit full j)) (waits j lt)
      ∙ ap (λ b. (few && some) && b) (ap not (fills j lt) ∙ not-full f.window (length (link_in f.links k.id j)))))
      ∙ sym (flush-order few other some room)
