use Rattle.std.proofs.Common.{◌≢◌, ◌<◌, [], ◌∷◌, None, Some, replicate, refl, inr, arith, rules}
use Rattle.std.specs.List.{All, AllPairs, slice_set}
use Rattle.std.proofs.lemmas.List.Elements.{All-cons, All-nil}
use Rattle.std.proofs.lemmas.List.Kept.{AllPairs-cons}
use Rattle.sem_key.specs.declared.key.Kind.TheVariants.{Serv as ServKind}
use Rattle.sem_key.specs.declared.object.Object.TheVariants.{Mem, Recv, Serv}
use Rattle.sem_key.specs.declared.limits.TheConstants.{PES, VPES}
use Rattle.sem_key.specs.MembershipTable.{MembershipTable, IsMembership}
use Rattle.sem_msg.specs.declared.setup.Root.{Root}
use Rattle.sem_msg.specs.declared.setup.Service.{Service}
use Rattle.sem_msg.specs.declared.setup.VpeDecl.{VpeDecl}
use Rattle.sem_msg.specs.Calls.{IsValidCall}
use Rattle.sem_msg.proofs.Declared.{owned-within}
use Rattle.sem_msg.specs.Setup.{Setup, IsSetup, IsRoot, IsVpeDecl, services_from}
use Rattle.sem_vpe.proofs.tests.two_kernels.Goals as goal

abbrev owners : MembershipTable
owners = record { kernels = 2; owners = slice_set (slice_set (slice_set (replicate PES None) 3 (Some 1)) 5 (Some 0)) 9 (Some 1) }

abbrev memory : Root
memory = record { sel = 7; object = Mem 4096 512 3 }

abbrev receiver : Root
receiver = record { sel = 200; object = Recv 8 }

abbrev server : Root
server = record { sel = 0; object = Serv 9 }

abbrev other_memory : Root
other_memory = record { sel = 1; object = Mem 4096 512 3 }

abbrev first : VpeDecl
first = record { vpe = 2; pe = 3; roots = memory ∷ receiver ∷ server ∷ []; calls = [] }

abbrev second : VpeDecl
second = record { vpe = 4; pe = 5; roots = other_memory ∷ []; calls = [] }

abbrev third : VpeDecl
third = record { vpe = 127; pe = 9; roots = []; calls = [] }

abbrev service : Service
service = record { name = 9; key = record { pe = 3; vpe = 2; kind = ServKind; number = 2 } }

abbrev setup : Setup
setup = record {
  version = 2;
  window = 4;
  kernels = 2;
  owners = owners;
  vpes = first ∷ second ∷ third ∷ [];
  services = service ∷ [];
  offers = [];
  denies = [];
  kills = [];
}

all_three : {X : Type 0} (P : X → Type 0) (a b c : X) → P a → P b → P c → All P (a ∷ b ∷ c ∷ [])
all_three P a b c pa pb pc = All-cons P a (b ∷ c ∷ []) pa (All-cons P b (c ∷ []) pb (All-cons P c [] pc (All-nil P)))

pairs_three : {X : Type 0} (R : X → X → Type 0) (a b c : X) → R a b → R a c → R b c → AllPairs R (a ∷ b ∷ c ∷ [])
pairs_three R a b c ab ac bc =
    AllPairs-cons R a (b ∷ c ∷ []) (All-cons (R a) b (c ∷ []) ab (All-cons (R a) c [] ac (All-nil (R a))))
    (AllPairs-cons R b (c ∷ []) (All-cons (R b) c [] bc (All-nil (R b))) (λ i j d lt within. absurd (omega arith)))

first_is : IsVpeDecl setup first
first_is = record {
  vpe = omega arith;
  pe = omega arith;
  owned = search rules;
  selectors_differ = pairs_three (λ (a b : Root). a.sel ≢ b.sel) memory receiver server (omega arith) (omega arith) (omega arith);
  roots = all_three IsRoot memory receiver server (record { selector = omega arith; kind = tt; ranges = search rules })
      (record { selector = omega arith; kind = tt; ranges = search rules }) (record { selector = omega arith; kind = tt; ranges = search rules });
  calls = All-nil (IsValidCall VPES);
}

second_is : IsVpeDecl setup second
second_is = record {
  vpe = omega arith;
  pe = omega arith;
  owned = search rules;
  selectors_differ = λ i j d lt within. absurd (omega arith);
  roots = All-cons IsRoot other_memory [] (record { selector = omega arith; kind = tt; ranges = search rules }) (All-nil IsRoot);
  calls = All-nil (IsValidCall VPES);
}

third_is : IsVpeDecl setup third
third_is = record {
  vpe = omega arith;
  pe = omega arith;
  owned = search rules;
  selectors_differ = λ i j d lt within. absurd (omega arith);
  roots = All-nil IsRoot;
  calls = All-nil (IsValidCall VPES);
}

is_setup : IsMembership owners → IsSetup setup
unfolding services_from
is_setup membership = record {
  versioned = inr refl;
  windowed = (omega arith, omega arith);
  some_kernel = omega arith;
  few_kernels = omega arith;
  membership = membership;
  same_kernels = refl;
  owned_pes = owned-within owners membership;
  vpes = all_three (IsVpeDecl setup) first second third first_is second_is third_is;
  vpes_rise = pairs_three (λ (a b : VpeDecl). a.vpe < b.vpe) first second third (omega arith) (omega arith) (omega arith);
  pes_differ = pairs_three (λ (a b : VpeDecl). a.pe ≢ b.pe) first second third (omega arith) (omega arith) (omega arith);
  services_rise = λ i j d lt within. absurd (omega arith);
  services = λ s. (λ h. h, λ h. h);
  offers = λ k d lt. absurd (omega arith);
  offers_rise = λ i j d lt within. absurd (omega arith);
  denies = λ k d lt. absurd (omega arith);
  denies_rise = λ i j d lt within. absurd (omega arith);
  kills = λ k d lt. absurd (omega arith);
  kills_rise = λ i j d lt within. absurd (omega arith);
  few_calls = omega arith;
}

pub invariant_of-result : goal.invariant_of-result
invariant_of-result c =
    let membership : IsMembership owners = rw c.in_ok-owners.ensures.owners at c.in_ok-owners.ensures.table in
    rw (
      c.in_ok-owners.ensures.owners,
      c.in_ok-push-3.ensures.ok,
      c.in_ok-push-2.ensures.ok,
      c.in_ok-push.ensures.ok,
      c.new-vpes.ensures,
      c.in_ok-declared.ensures,
      c.in_ok-declared-2.ensures,
      c.in_ok-declared-3.ensures,
      c.root.ensures,
      c.root-2.ensures,
      c.root-3.ensures,
      c.root-4.ensures,
      c.in_ok-push-4.ensures.ok,
      c.new-services.ensures,
      c.key.ensures,
      c.new.ensures,
      c.new-2.ensures,
      c.new-3.ensures,
    ) (is_setup membership)
