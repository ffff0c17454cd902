-- Where an entry begins to revoke, as it is listed.
use Rattle.std.proofs.Common.{◌≡◌, ℕ, true, List, [], ◌++◌, Option, Some, None, IsSome, refl, sym, ap, ◌∙◌, subst, inl, inr, eq-eqb}
use Rattle.std.specs.Prelude.{◌==◌}
use Rattle.std.specs.List.{Contains}
use Rattle.std.specs.Option.{option_map_or, option_to_list}
use Rattle.std.proofs.lemmas.Bool.{eqb-true}
use Rattle.std.proofs.lemmas.Option.{same_Some}
use Rattle.std.proofs.lemmas.List.Elements.{Contains-append_left, Contains-append_right, Contains-append_cases}
use Rattle.sem_key.specs.KeyName.{KeyName, key_eq}
use Rattle.sem_key.specs.Capability.{Capability}
use Rattle.sem_key.specs.CapList.{cap_of, keys_of}
use Rattle.sem_key.specs.Region.{Reached}
use Rattle.sem_key.specs.Region.Reached.{at_root, by_link}
use Rattle.sem_key.proofs.KeyTests.{key_eq-true}
use Rattle.sem_key.proofs.Members.{found, Contains-head, Contains-nil, Contains-cons_cases, Contains-filter, Contains-from_filter, Contains-map}
use Rattle.sem_msg.specs.declared.call.Call.TheVariants.{Exit}
use Rattle.sem_msg.specs.declared.message.Message.TheVariants.{RevokeReq}
use Rattle.sem_msg.specs.declared.event.Act.{Act}
use Rattle.sem_msg.specs.declared.event.Act.TheVariants.{Call as Calls, Handle, Kill}
use Rattle.sem_msg.specs.declared.entry.Detail.{Detail}
use Rattle.sem_msg.specs.declared.entry.Detail.TheVariants.{Called, Carried}
use Rattle.sem_msg.specs.declared.entry.Entry.{Entry}
use Rattle.sem_machine.specs.Journals.{ends}
use Rattle.sem_grants.specs.Ending.{ended_by}
use Rattle.sem_query.specs.Changes.{IsRootOf}
use Rattle.sem_query.specs.Changes.IsRootOf.{of_cut, of_request, of_end}
use Rattle.sem_query.specs.Building.{requested}
use Rattle.sem_query.specs.Reaching.{AreReached, AreRevoked, held_of, roots_of}

-- Options as lists.

pub in-option : {X : Type 0} (o : Option X) (x : X) → o ≡ Some x → Contains (option_to_list o) x
in-option o x some = subst (λ p. Contains (option_to_list p) x) (sym some) (Contains-head x [])

pub from-option : {X : Type 0} (o : Option X) (x : X) → Contains (option_to_list o) x → o ≡ Some x
from-option None x among = absurd (Contains-nil x among)
from-option (Some y) x among = elim (Contains-cons_cases y [] x among) [ inl same ↦ ap Some same | inr none ↦ absurd (Contains-nil x none) ]

-- the VPE of the key ends
pub ends-by : (v : ℕ) (a : Act) (d : Detail) → ends v a d ≡ true → ended_by a d ≡ Some v
ends-by v (Kill w) d is = ap Some (eqb-true w v is)
ends-by v (Calls w) (Called index Exit) is = ap Some (eqb-true w v is)
ends-by v a d is = absurd cc

pub by-ends : (v : ℕ) (a : Act) (d : Detail) → ended_by a d ≡ Some v → ends v a d ≡ true
by-ends v (Kill w) d is = eq-eqb w v (same_Some w v is)
by-ends v (Calls w) (Called index Exit) is = eq-eqb w v (same_Some w v is)
by-ends v a d is = absurd cc

pub from-requested : (e : Entry) (k : KeyName) (a : Act) (d : Detail) → e.event.act ≡ a → e.detail ≡ d → requested a d ≡ Some k → IsRootOf e k
from-requested e k Handle (Carried from (RevokeReq key j)) act detail is = of_request from j act (detail
    ∙ ap (λ q. Carried from (RevokeReq q j)) (same_Some key k is))
from-requested e k a d act detail is = absurd cc

module _ (caps : List Capability) (e : Entry) where
  abbrev cuts : List KeyName
  cuts = option_to_list e.cut

  abbrev asks : List KeyName
  asks = option_to_list (requested e.event.act e.detail)

  abbrev over : List KeyName
  over = option_map_or (held_of caps) (ended_by e.event.act e.detail) []

  -- what is listed is such a root
  roots-only : (a : KeyName) → Contains (roots_of caps e) a → IsRootOf e a
  roots-only a among = elim (Contains-append_cases (cuts ++ asks) over a among) [
    | inl first ↦ elim (Contains-append_cases cuts asks a first) [
      | inl cut ↦ of_cut (from-option e.cut a cut)
      | inr asked ↦ from-requested e a e.event.act e.detail refl refl (from-option (requested e.event.act e.detail) a asked)
    ]
    | inr ended ↦ by (ended_by e.event.act e.detail) refl ended
  ]
    where
      by : (o : Option ℕ) → ended_by e.event.act e.detail ≡ o → Contains (option_map_or (held_of caps) o []) a → IsRootOf e a
      by None none among' = absurd (Contains-nil a among')
      by (Some v) some among' =
          let of_vpe = eqb-true a.vpe v (Contains-from_filter (λ (k : KeyName). k.vpe == v) (keys_of caps) a among').1 in
          of_end (by-ends a.vpe e.event.act e.detail (some ∙ ap Some (sym of_vpe)))

  -- such a root is listed, if it is held
  roots-all : (a : KeyName) → IsRootOf e a → (c : Capability) → cap_of caps a ≡ Some c → Contains (roots_of caps e) a
  roots-all a (of_cut cut) c held = Contains-append_left (cuts ++ asks) over a (Contains-append_left cuts asks a (in-option e.cut a cut))
  roots-all a (of_request from j act detail) c held =
      Contains-append_left (cuts ++ asks) over a (Contains-append_right cuts asks a (in-option (requested e.event.act e.detail) a
      (ap (λ b. requested b e.detail) act ∙ ap (requested Handle) detail)))
  roots-all a (of_end ended) c held =
      let of_c = found (λ (x : Capability). key_eq x.key a) caps c held in
      let among : Contains (keys_of caps) a =
      subst (Contains (keys_of caps)) (key_eq-true c.key a of_c.1) (Contains-map (λ (x : Capability). x.key) caps c of_c.0) in
      Contains-append_right (cuts ++ asks) over a (subst (λ o. Contains (option_map_or (held_of caps) o []) a) (sym (ends-by a.vpe e.event.act e.detail ended))
      (Contains-filter (λ (k : KeyName). k.vpe == a.vpe) (keys_of caps) a among (eq-eqb a.vpe a.vpe refl)))

  -- what leads to a key is held
  root-held : (a k : KeyName) → Reached caps a k → (c : Capability) × (cap_of caps a ≡ Some c)
  root-held a _ (at_root c held unmarked) = (c, held)
  root-held a _ (by_link p k c d reached held child held' unmarked) = root-held a p reached

  pub reached-held : (a k : KeyName) → Reached caps a k → IsSome (cap_of caps k)
  reached-held a _ (at_root c held unmarked) = subst (λ (o : Option Capability). IsSome o) (sym held) refl
  reached-held a _ (by_link p k c d reached held child held' unmarked) = subst (λ (o : Option Capability). IsSome o) (sym held') refl

  -- what is reached from there is what the entry reaches
  pub revoked-are : (ks : List KeyName) → AreReached caps (roots_of caps e) ks → AreRevoked caps e ks
  revoked-are ks are loud k = (
    λ among. (let is = (are k).0 among in (is.0, roots-only is.0 is.1, is.2)),
    λ (a, root, reached). (are k).1 (a, (let c = root-held a k reached in roots-all a root c.0 c.1), reached),
  )
