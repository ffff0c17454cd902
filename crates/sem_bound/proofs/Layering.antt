-- What a side needs to keep for the bound, as long as no capability comes: keys stay distinct, and a key whose parent
-- is of another kernel is not near.
use Rattle.std.proofs.Common.{◌≡◌, ℕ, Bool, true, false, Option, not, List, [], get_or, Some, None, refl, sym, ap, ◌∙◌}
use Rattle.std.specs.Prelude.{if◌then◌else◌}
use Rattle.std.specs.List.{Contains, list_any}
use Rattle.std.proofs.lemmas.Bool.{cond_both}
use Rattle.std.proofs.lemmas.List.Kept.{AllPairs-filter}
use Rattle.sem_key.specs.KeyName.{KeyName, key_eq}
use Rattle.sem_key.specs.KeyList.{with_key, without_key}
use Rattle.sem_key.specs.Lists.{change}
use Rattle.sem_key.specs.Capability.{Capability}
use Rattle.sem_key.specs.CapList.{is_marked_by, with_mark}
use Rattle.sem_msg.specs.Setup.{Setup}
use Rattle.sem_msg.specs.Lookups.{owner_of, is_local}
use Rattle.sem_machine.specs.Sides.{Side}
use Rattle.sem_key.proofs.Members.{AllPairs-map, Contains-from_filter, Contains-from_map}
use Rattle.sem_safety.specs.Observations.{AreDistinct}
use Rattle.sem_safety.proofs.Layers.{facts, IsKept}
use Rattle.sem_safety.proofs.Onwards.{AnyPlace}

-- Keys.

-- Distinct keys stay distinct as long as no capability comes: the fact that each capability that comes would have to
-- have has no key.
abbrev pub NoKey : KeyName → Type 0
NoKey k = ⊥

distinct-changed : (cs : List Capability) (test : Capability → Bool) (f : Capability → Capability) →
    ((c : Capability) → (f c).key ≡ c.key) → AreDistinct cs → AreDistinct (change test f cs)
distinct-changed cs test f same distinct =
    let g : Capability → Capability = λ c. if test c then f c else c in
    let keeps : (c : Capability) →
    (g c).key ≡ c.key = λ c. cond_both (test c) (f c) c (λ (x : Capability). x.key ≡ c.key) (λ _. same c)
    (λ _. refl) in
    AllPairs-map (λ (a b : Capability). key_eq a.key b.key ≡ false) g cs
    (λ i j d lt within. (ap (λ k. key_eq k (g (get_or cs j d)).key) (keeps (get_or cs i d))
    ∙ ap (key_eq (get_or cs i d).key) (keeps (get_or cs j d))) ∙ distinct i j d lt within)

-- Parents.

-- the child of a grant within a kernel is near
abbrev pub IsNearGrant : Setup → (KeyName → Bool) → Option (KeyName × KeyName) → Type 0
IsNearGrant T near grant = (p k : KeyName) → grant ≡ Some (p, k) → owner_of T p ≡ owner_of T k → near k ≡ true

module _ (T : Setup) (near : KeyName → Bool) (i : ℕ) where
  -- what has a parent of another kernel is not near
  abbrev pub IsFarTold : Side → Type 0
  IsFarTold s = (c : Capability) → Contains s.caps c → (p : KeyName) → c.parent ≡ Some p → is_local T i p ≡ false →
      near c.key ≡ false

  far-changed : (s : Side) (test : Capability → Bool) (f : Capability → Capability) →
      ((c : Capability) → ((f c).key ≡ c.key) × ((f c).parent ≡ c.parent)) → IsFarTold s →
      IsFarTold (record s { caps = change test f s.caps })
  far-changed s test f same is = λ c among p parent remote.
      let origin = Contains-from_map (λ (x : Capability). if test x then f x else x) s.caps c among in
      let d : Capability = origin.0 in
      let back : ((if test d then f d else d).key ≡ d.key) × ((if test d then f d else d).parent ≡ d.parent) =
      cond_both (test d) (f d) d (λ (y : Capability). (y.key ≡ d.key) × (y.parent ≡ d.parent)) (λ _. same d)
      (λ _. (refl, refl)) in
      let key : c.key ≡ d.key = ap (λ (x : Capability). x.key) (sym origin.2) ∙ back.0 in
      let of_d : d.parent ≡ Some p = sym back.1 ∙ (ap (λ (x : Capability). x.parent) origin.2 ∙ parent) in
      ap near key ∙ is d origin.1 p of_d remote

  -- what a step needs as long as no capability comes: keys stay distinct too
  abbrev pub IsCalm : Side → Type 0
  IsCalm s = IsFarTold s × AreDistinct s.caps

  calm-changed : (s : Side) (test : Capability → Bool) (f : Capability → Capability) →
      ((c : Capability) → ((f c).key ≡ c.key) × ((f c).parent ≡ c.parent)) → IsCalm s →
      IsCalm (record s { caps = change test f s.caps })
  calm-changed s test f same is =
      (far-changed s test f same is.0, distinct-changed s.caps test f (λ c. (same c).0) is.1)

  pub calm : IsKept (facts NoKey AnyPlace) IsCalm
  calm = record {
    keeps_counted = λ s is v. is;
    keeps_drawn = λ s is v. is;
    keeps_slot = λ s is v sel state of_vpe. is;
    keeps_parked = λ s is v p here. is;
    keeps_unparked = λ s is v. is;
    keeps_asked = λ s is v a here. is;
    keeps_taken = λ s is v. is;
    keeps_buried = λ s is v ends. is;
    keeps_bound = λ s is v ep src c held unmarked here. is;
    keeps_rung = λ s is v ep f. is;
    keeps_added = λ s is c here childless unmarked. absurd here;
    keeps_linked = λ s is p k here. calm-changed s (λ c. key_eq c.key p)
        (λ c. record c { children = with_key c.children k }) (λ c. (refl, refl)) is;
    keeps_unlinked = λ s is p k. calm-changed s (λ c. key_eq c.key p)
        (λ c. record c { children = without_key c.children k }) (λ c. (refl, refl)) is;
    keeps_marked = λ s is ks j here. calm-changed s (λ c. list_any (key_eq c.key) ks) (with_mark j)
        (λ c. (refl, refl)) is;
    keeps_restored = λ s is k. calm-changed s (λ c. key_eq c.key k) (λ c. record c { children = []; mark = None })
        (λ c. (refl, refl)) is;
    keeps_removed = λ s is j. (
      λ c among p parent remote. is.0 c
          (Contains-from_filter (λ (x : Capability). not (is_marked_by j x)) s.caps c among).0 p parent remote,
      AllPairs-filter (λ (a b : Capability). key_eq a.key b.key ≡ false)
          (λ c. not (is_marked_by j c)) s.caps is.1,
    );
    keeps_pending_added = λ s is p pends. is;
    keeps_pending_removed = λ s is k. is;
    keeps_opened = λ s is root up waiters keep. is;
    keeps_changed = λ s is j f same. is;
    keeps_left = λ s is j v. is;
    keeps_closed = λ s is j. is;
    keeps_send = λ s is j msg here. is;
    keeps_sent = λ s is j. is;
    keeps_inbox = λ s is message here. is;
    of_link = λ s is c among k child. tt;
    spreads = λ p k here doomed. tt;
    asks = λ v n calls is. is;
    offers = λ k o is. tt;
    prepares = λ parent k object sel offered place handed. (tt, place);
    acks = λ parent k prepared offered is. is;
    of_pending = λ s is k p there acked. acked;
  }
