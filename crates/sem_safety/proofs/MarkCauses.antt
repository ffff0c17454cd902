-- Marks have a cause, and links are grants: along every schedule each link of a held capability is a grant, and what is marked, or asked to be revoked, has a
-- cut ancestor.
use Rattle.std.proofs.Common.{◌≡◌, ℕ, true, List, length, map, Option, Some, None, refl, sym, subst, inl, inr, arith}
use Rattle.std.specs.List.{Contains}
use Rattle.std.proofs.lemmas.List.Elements.{All-contains, Contains-append_left, Contains-append_right}
use Rattle.sem_key.specs.KeyName.{KeyName, key_eq}
use Rattle.sem_key.specs.Capability.{Capability}
use Rattle.sem_msg.specs.declared.entry.Entry.{Entry}
use Rattle.sem_msg.specs.declared.message.Message.TheVariants.{RevokeReq}
use Rattle.sem_msg.specs.Setup.{Setup, IsSetup}
use Rattle.sem_machine.specs.Sides.{cap}
use Rattle.sem_machine.specs.Machine.{side, start}
use Rattle.sem_machine.specs.Schedules.{IsSchedule, world_after}
use Rattle.sem_machine.specs.Journals.{grants, root_keys, made, ancestry, ends, has_ended}
use Rattle.sem_machine.specs.Living.{InFlight}
use Rattle.sem_key.proofs.KeyTests.{key_eq-true}
use Rattle.sem_key.proofs.Members.{found, Contains-map, list_any-at}
use Rattle.sem_safety.specs.Causes.{IsCut, HasCutAncestor}
use Rattle.sem_safety.specs.Growth.{IsGrown}
use Rattle.sem_safety.proofs.Carrying.{InCap, InWorld, plain-fitting}
use Rattle.sem_safety.proofs.CarryingWorlds.{chosen, start-in, side-in, flight-in, run-in, each-entry, among-grants, IsFit}
use Rattle.sem_safety.proofs.GrownLines.{parent-grown, line-self, line-above, line-enough, child-grown, parent-ancestor, few-grants}
use Rattle.sem_safety.proofs.KeptSteps.{facts-blind}
use Rattle.sem_safety.proofs.Layers.{Facts, facts_of, InGrant, InCut}
use Rattle.sem_safety.proofs.Onwards.{AnyPlace}
use Rattle.sem_safety.proofs.OneLife.{all-grown}

module _ (T : Setup) (valid : IsSetup T) (J : List Entry) (runs : IsSchedule T J) where
  abbrev pub gs : List (KeyName × KeyName)
  gs = grants J

  pub grown_so : IsGrown (root_keys T) gs
  grown_so = all-grown T valid J runs

  -- where the key was made, it has a cut ancestor
  abbrev pub IsDoomed : KeyName → Type 0
  IsDoomed k = Contains (made T J) k → HasCutAncestor J k

  abbrev pub causes : Facts
  causes = facts_of (Contains (made T J)) AnyPlace (λ p k. Contains gs (p, k)) IsDoomed

  -- the parent of a grant is an ancestor of its child
  pub above : (p k : KeyName) → Contains gs (p, k) → Contains (ancestry J k) p
  above p k granted =
      subst (λ ks. Contains ks p) (line-enough (root_keys T) gs grown_so (length gs) (length J) k (omega arith) (few-grants J)
      (child-grown (root_keys T) gs p k granted)) (parent-ancestor (root_keys T) gs grown_so p k granted)

  -- a cut ancestor of a parent is one of its children
  pub spread : (p k : KeyName) → Contains gs (p, k) → IsDoomed p → IsDoomed k
  spread p k granted doomed there =
      let cause = doomed (parent-grown (root_keys T) gs grown_so p k granted) in
      (cause.0, line-above (root_keys T) gs grown_so (length J) k p cause.0 (few-grants J) there (above p k granted) cause.1, cause.2)

  itself : (k : KeyName) → IsCut J k → IsDoomed k
  itself k is there = (k, line-self (length J) gs k, is)

  granted_so : (e : Entry) → Contains J e → (o : Option (KeyName × KeyName)) → e.grant ≡ o → InGrant causes o
  granted_so e among None none = tt
  granted_so e among (Some (p, k)) some =
      let there = among-grants J e (p, k) among some in
      (Contains-append_right (root_keys T) (map (λ g. g.1) gs) k (Contains-map (λ (g : KeyName × KeyName). g.1) gs (p, k) there), there)

  cut_so : (e : Entry) → Contains J e → (o : Option KeyName) → e.cut ≡ o → InCut causes o
  cut_so e among None none = tt
  cut_so e among (Some k) some = itself k (inl (chosen (λ (x : Entry). x.cut) J e k among some))

  pub fit : (e : Entry) → Contains J e → IsFit causes e
  fit e among = record {
    granted = granted_so e among e.grant refl;
    cut_so = cut_so e among e.cut refl;
    ended_so = λ v over k same. itself k
        (inr (subst (λ w. has_ended J w ≡ true) (sym same) (list_any-at (λ (x : Entry). ends v x.event.act x.detail) J e among over)));
  }

  pub world-caused : InWorld causes (world_after T J)
  world-caused =
      run-in causes (facts-blind (Contains (made T J)) AnyPlace (λ p k. Contains gs (p, k)) IsDoomed) (λ v n. tt)
      (plain-fitting (Contains (made T J)) AnyPlace (λ p k. Contains gs (p, k)) IsDoomed spread) T J (start T) runs
      (start-in causes T (λ k root o. Contains-append_left (root_keys T) (map (λ g. g.1) gs) k root))
      (each-entry (IsFit causes) J fit)

  -- what a kernel holds
  held-so : (i : ℕ) (k : KeyName) (c : Capability) → cap (side (world_after T J) i) k ≡ Some c → (InCap causes c) × (c.key ≡ k)
  held-so i k c held =
      let there = found (λ x. key_eq x.key k) (side (world_after T J) i).caps c held in (
        All-contains (InCap causes) (side (world_after T J) i).caps c (side-in causes (world_after T J) world-caused i).caps there.0,
        key_eq-true c.key k there.1,
      )

  pub link-granted : (i : ℕ) (p k : KeyName) (c : Capability) → cap (side (world_after T J) i) p ≡ Some c → Contains c.children k → Contains (grants J) (p, k)
  link-granted i p k c held child = let is = held-so i p c held in
      subst (λ q. Contains gs (q, k)) is.1 (All-contains (λ q. Contains gs (c.key, q)) c.children k is.0.links child)

  pub mark-caused : (i : ℕ) (k : KeyName) (c : Capability) (j : ℕ) → cap (side (world_after T J) i) k ≡ Some c → c.mark ≡ Some j → HasCutAncestor J k
  mark-caused i k c j held marked = let is = held-so i k c held in subst (HasCutAncestor J) is.1 (is.0.mark j marked is.0.key)

  pub request-caused : (k : KeyName) (j : ℕ) → InFlight (world_after T J) (RevokeReq k j) → Contains (made T J) k → HasCutAncestor J k
  request-caused k j flight there = flight-in causes (world_after T J) world-caused (RevokeReq k j) flight there
