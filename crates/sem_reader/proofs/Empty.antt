-- The tables where nothing is declared.
use Rattle.std.proofs.Common.{◌≡◌, ℕ, zero, suc, inl, false, List, [], length, get_or, None, replicate, refl, ap, ◌∙◌, arith}
use Rattle.std.specs.List.{list_any}
use Rattle.std.specs.Map.{lookup}
use Rattle.std.proofs.lemmas.List.{length-replicate}
use Rattle.sem_key.specs.MembershipTable.{MembershipTable}
use Rattle.sem_trace.specs.Earlier.{window_in, owner_in, pe_in, is_pe_taken, roots_in, calls_in, has_service, offer_in, is_denied, kill_in, call_number}
use Rattle.sem_reader.specs.declared.tables.Tables.{Tables}
use Rattle.sem_reader.specs.Pairs.{is_same_pair}
use Rattle.sem_reader.specs.Tells.{Tells}
use Rattle.sem_reader.proofs.OneMore.{accepted_none}

same_all : {X : Type 0} (n : ℕ) (x : X) (i : ℕ) → get_or (replicate n x) i x ≡ x
same_all zero x i = refl
same_all (suc n) x zero = refl
same_all (suc n) x (suc i) = same_all n x i

-- an entry of a table that has one value
pub entry : {X : Type 0} (table : List X) (n : ℕ) (x : X) (i : ℕ) → table ≡ replicate n x → get_or table i x ≡ x
entry table n x i is = rw is (same_all n x i)

-- its length
pub size : {X : Type 0} (table : List X) (n : ℕ) (x : X) → table ≡ replicate n x → length table ≡ n
size table n x is = ap length is ∙ length-replicate n x

pub tells_nothing : (t : Tables) (a b c d e f i : ℕ) → t.version ≡ 1 → t.window ≡ None → t.owners ≡ record { kernels = 1; owners = replicate a None } →
    t.pes ≡ replicate b None → t.taken ≡ replicate c false → t.roots.items ≡ replicate d [] → t.calls.items ≡ replicate e [] → t.call_number ≡ 0 →
    t.named ≡ replicate f false → t.offers.entries ≡ [] → t.denied.keys ≡ [] → t.kills ≡ replicate i None → Tells 1 1 [] t
unfolding window_in owner_in pe_in is_pe_taken roots_in calls_in has_service offer_in is_denied kill_in call_number
tells_nothing t a b c d e f i version window owners pes taken roots calls count named offers denied kills = record {
  versions = inl refl;
  some = omega arith;
  few = omega arith;
  accepted = accepted_none 1 1;
  same_version = version;
  window = window;
  number = ap (λ (m : MembershipTable). m.kernels) owners;
  owner = λ p. entry t.owners.owners a None p (ap (λ (m : MembershipTable). m.owners) owners);
  pe = λ v. entry t.pes b None v pes;
  taken = λ p. entry t.taken c false p taken;
  root = λ v. entry t.roots.items d [] v roots;
  call = λ v. entry t.calls.items e [] v calls;
  count = count;
  few_calls = omega arith;
  named = λ n. entry t.named f false n named;
  offer = λ n m. ap (lookup (is_same_pair (n, m))) offers;
  denied = λ v a. ap (list_any (is_same_pair (v, a))) denied;
  kill = λ v. entry t.kills i None v kills;
}
