-- The laws of where a key is, as what is known of an entry.
use Rattle.std.proofs.Common.{◌≡◌, ◌⊎◌, ℕ, zero, suc, Bool, true, false, List, [], ◌∷◌, ◌++◌, Option, Some, None, IsSome, refl, sym, ap, ◌∙◌, subst, inl, inr}
use Rattle.std.proofs.Common.{get_or, eq-eqb}
use Rattle.std.specs.Prelude.{◌==◌, ◌&&◌, ◌||◌}
use Rattle.std.specs.List.{list_any}
use Rattle.std.specs.Option.{option_map_or}
use Rattle.std.proofs.lemmas.Bool.{and_from, or_left, or_right, eqb-true}
use Rattle.sem_key.specs.KeyName.{KeyName, key_eq}
use Rattle.sem_key.specs.Capability.{Capability}
use Rattle.sem_key.proofs.KeyTests.{key_eq-same, key_eq-true}
use Rattle.sem_msg.specs.declared.message.Message.{Message}
use Rattle.sem_msg.specs.declared.message.Message.TheVariants.{ObtainReq, ObtainOk, ObtainNo, DelegateReq, DelegatePrepared, DelegateNo, Ack, Orphan, RevokeReq}
use Rattle.sem_msg.specs.declared.message.Message.TheVariants.{RevokeDone, Unlink}
use Rattle.sem_msg.specs.declared.event.Act.{Act}
use Rattle.sem_msg.specs.declared.event.Act.TheVariants.{Call as Calls, Fetch, Handle, Upcall, Resume, Flush, Kill}
use Rattle.sem_msg.specs.declared.entry.Detail.{Detail}
use Rattle.sem_msg.specs.declared.entry.Detail.TheVariants.{Called, Carried, Asked, Nothing}
use Rattle.sem_msg.specs.declared.entry.Entry.{Entry}
use Rattle.sem_msg.specs.Setup.{Setup}
use Rattle.sem_msg.specs.Lookups.{owner_of}
use Rattle.sem_msg.specs.ParkedStates.{is_ready_with}
use Rattle.sem_machine.specs.Sides.{no_side, cap}
use Rattle.sem_machine.specs.Machine.{World, side}
use Rattle.sem_machine.specs.Schedules.{world_after}
use Rattle.sem_machine.specs.Journals.{ends}
use Rattle.sem_query.specs.declared.holder.Holder.{Holder}
use Rattle.sem_query.specs.declared.holder.Holder.TheVariants.{No}
use Rattle.sem_query.specs.Whereabouts.{is_coming_to, is_coming, held_as, unheld, whereabouts_after, Passes}
use Rattle.sem_query.specs.Whereabouts.Passes.{born_on_its_way, born_held, stays_nowhere, stays_on_its_way, arrives, is_lost, stays_unmarked, stays_marked}
use Rattle.sem_query.specs.Whereabouts.Passes.{gets_marked, loses_mark, is_swept, is_removed}
use Rattle.sem_query.specs.Changes.{may_revoke, grants_key, IsRootOf, IsReadyFor, MayChange, seen_at_home}
use Rattle.sem_query.specs.Changes.IsRootOf.{of_cut, of_request, of_end}
use Rattle.sem_query.specs.Changes.MayChange.{by_grant, by_message, by_resume, by_end, by_revoking}
use Rattle.sem_story.specs.Stages.{is_ready, stage_in, seen_by}
use Rattle.sem_story.specs.Changes.{is_brought_by, asks_for, is_asked_by, begins_at, resumes, leaves_by, stage_after}
use Rattle.sem_story.proofs.Next.{stage-next}

-- what an element of a list passes, some element does; what stands past the end passes nothing
any-at : {X : Type 0} (p : X → Bool) (d : X) → p d ≡ false → (xs : List X) (i : ℕ) → p (get_or xs i d) ≡ true → list_any p xs ≡ true
any-at p d none [] i is = let bad : false ≡ true = sym none ∙ is in absurd cc
any-at p d none (x ∷ xs) zero is = or_left (p x) (list_any p xs) is
any-at p d none (x ∷ xs) (suc i) is = or_right (p x) (list_any p xs) (any-at p d none xs i is)

-- a call that is ready to install the key is on its way to hold it
ready-comes : (k : KeyName) (W : World) (i : ℕ) → is_ready k (side W i) ≡ true → is_coming k W ≡ true
ready-comes k W i ready =
    let here : is_coming_to k (side W i) ≡ true = or_left _ _ (any-at (is_ready_with k) None refl (side W i).parks k.vpe ready) in
    or_left _ _ (any-at (is_coming_to k) no_side refl W.sides i here)

-- a key that is granted is not nowhere
born-somewhere : (g : Bool) (a h : Holder) → Passes g a h → g ≡ true → h ≡ No → ⊥
born-somewhere _ _ _ born_on_its_way is e = cc
born-somewhere _ _ _ (born_held sel) is e = cc
born-somewhere _ _ _ stays_nowhere is e = cc
born-somewhere _ _ _ stays_on_its_way is e = cc
born-somewhere _ _ _ (arrives sel) is e = cc
born-somewhere _ _ _ is_lost is e = cc
born-somewhere _ _ _ (stays_unmarked sel) is e = cc
born-somewhere _ _ _ (stays_marked sel) is e = cc
born-somewhere _ _ _ (gets_marked sel) is e = cc
born-somewhere _ _ _ (loses_mark sel) is e = cc
born-somewhere _ _ _ (is_swept sel) is e = cc
born-somewhere _ _ _ (is_removed sel) is e = cc

coming-of : (b : Bool) → (unheld b ≡ No → ⊥) → b ≡ true
coming-of true apart = refl
coming-of false apart = absurd (apart refl)

and-parts : (a b : Bool) → (a && b) ≡ true → (a ≡ true) × (b ≡ true)
and-parts true b is = (refl, is)
and-parts false b is = absurd cc

or-parts : (a b : Bool) → (a || b) ≡ true → (a ≡ true) ⊎ (b ≡ true)
or-parts true b is = inl refl
or-parts false b is = inr is

module _ (T : Setup) (W : World) (e : Entry) (k : KeyName) where
  abbrev i : ℕ
  i = owner_of T k

  brought-may : (a : Act) (d : Detail) → e.event.act ≡ a → e.detail ≡ d → is_brought_by k a d ≡ true → MayChange T W e k
  brought-may Handle (Carried from m) act told is = by_message from m act told is
  brought-may Handle (Called n c) act told is = absurd cc
  brought-may Handle (Asked n c) act told is = absurd cc
  brought-may Handle Nothing act told is = absurd cc
  brought-may (Calls v) d act told is = absurd cc
  brought-may (Fetch v) d act told is = absurd cc
  brought-may (Upcall v) d act told is = absurd cc
  brought-may (Resume v) d act told is = absurd cc
  brought-may (Flush v) d act told is = absurd cc
  brought-may (Kill v) d act told is = absurd cc

  resumes-is : (v : ℕ) (a : Act) → resumes v a ≡ true → a ≡ Resume v
  resumes-is v (Resume u) is = ap Resume (eqb-true u v is)
  resumes-is v (Calls u) is = absurd cc
  resumes-is v (Fetch u) is = absurd cc
  resumes-is v Handle is = absurd cc
  resumes-is v (Upcall u) is = absurd cc
  resumes-is v (Flush u) is = absurd cc
  resumes-is v (Kill u) is = absurd cc

  asking : (from : ℕ) (m : Message) → e.event.act ≡ Handle → e.detail ≡ Carried from m → asks_for k m ≡ true → IsRootOf e k
  asking from (RevokeReq key job) act told is = subst (IsRootOf e) (key_eq-true key k is) (of_request from job act told)
  asking from (ObtainReq place target) act told is = absurd cc
  asking from (ObtainOk parent key object) act told is = absurd cc
  asking from (ObtainNo place code) act told is = absurd cc
  asking from (DelegateReq parent object vpe sel) act told is = absurd cc
  asking from (DelegatePrepared parent key) act told is = absurd cc
  asking from (DelegateNo parent code) act told is = absurd cc
  asking from (Ack key accepted) act told is = absurd cc
  asking from (Orphan parent key) act told is = absurd cc
  asking from (RevokeDone job) act told is = absurd cc
  asking from (Unlink parent key) act told is = absurd cc

  asked-root : (a : Act) (d : Detail) → e.event.act ≡ a → e.detail ≡ d → is_asked_by k a d ≡ true → IsRootOf e k
  asked-root Handle (Carried from m) act told is = asking from m act told is
  asked-root Handle (Called n c) act told is = absurd cc
  asked-root Handle (Asked n c) act told is = absurd cc
  asked-root Handle Nothing act told is = absurd cc
  asked-root (Calls v) d act told is = absurd cc
  asked-root (Fetch v) d act told is = absurd cc
  asked-root (Upcall v) d act told is = absurd cc
  asked-root (Resume v) d act told is = absurd cc
  asked-root (Flush v) d act told is = absurd cc
  asked-root (Kill v) d act told is = absurd cc

  cut-root : (o : Option KeyName) → e.cut ≡ o → option_map_or (λ (root : KeyName). key_eq root k) o false ≡ true → IsRootOf e k
  cut-root (Some a) cut is = of_cut (cut ∙ ap Some (key_eq-true a k is))
  cut-root None cut is = absurd cc

  begins-root : begins_at k e ≡ true → IsRootOf e k
  begins-root is = elim (or-parts (option_map_or (λ (root : KeyName). key_eq root k) e.cut false) (is_asked_by k e.event.act e.detail
      || ends k.vpe e.event.act e.detail) is) [
        | inl at_cut ↦ cut-root e.cut refl at_cut
        | inr rest ↦ elim (or-parts (is_asked_by k e.event.act e.detail) (ends k.vpe e.event.act e.detail) rest) [
          | inl asked ↦ asked-root e.event.act e.detail refl refl asked
          | inr ended ↦ of_end ended
        ]
      ]

  root-begins : IsRootOf e k → begins_at k e ≡ true
  root-begins (of_cut is) = or_left _ _ (ap (λ (o : Option KeyName). option_map_or (λ (root : KeyName). key_eq root k) o false) is ∙ key_eq-same k)
  root-begins (of_request from j act told) = or_right _ _ (or_left _ _ (ap (λ (a : Act). is_asked_by k a e.detail) act
      ∙ (ap (is_asked_by k Handle) told ∙ key_eq-same k)))
  root-begins (of_end is) = or_right _ _ (or_right _ _ is)

  -- a call that is ready leaves only by an entry that may change where the key is
  leaves-may : is_ready k (side W i) ≡ true → leaves_by T k e ≡ true → MayChange T W e k
  leaves-may ready is =
      let parts = and-parts (i == e.event.kernel) (resumes k.vpe e.event.act || (may_revoke e && begins_at k e)) is in
      let here : i ≡ e.event.kernel = eqb-true i e.event.kernel parts.0 in
      let ready_here : IsReadyFor k (side W e.event.kernel) = ap (λ (j : ℕ). is_ready k (side W j)) (sym here) ∙ ready in
      elim (or-parts (resumes k.vpe e.event.act) (may_revoke e && begins_at k e) parts.1) [
        | inl resumed ↦ by_resume here (resumes-is k.vpe e.event.act resumed) ready_here
        | inr revoked ↦ let both = and-parts (may_revoke e) (begins_at k e) revoked in by_end here both.0 (begins-root both.1) ready_here
      ]

  -- what an entry that may change where the key is, and does not grant it, does
  may-cause : grants_key k e ≡ false → MayChange T W e k → (is_brought_by k e.event.act e.detail ≡ true)
      ⊎ ((is_ready k (side W i) ≡ true) × (leaves_by T k e ≡ true)) ⊎ IsSome (cap (side W i) k)
  may-cause not_granted (by_grant granted) = let bad : false ≡ true = sym not_granted ∙ granted in absurd cc
  may-cause not_granted (by_message from m act told bringing) = inl (ap (λ (a : Act). is_brought_by k a e.detail) act
      ∙ (ap (is_brought_by k Handle) told ∙ bringing))
  may-cause not_granted (by_resume here act ready) =
      let resumed : resumes k.vpe e.event.act ≡ true = ap (resumes k.vpe) act ∙ eq-eqb k.vpe k.vpe refl in
      inr (inl (ap (λ (j : ℕ). is_ready k (side W j)) here ∙ ready, and_from _ _ (eq-eqb i e.event.kernel here) (or_left _ _ resumed)))
  may-cause not_granted (by_end here revoking root ready) =
      inr (inl (
        ap (λ (j : ℕ). is_ready k (side W j)) here
            ∙ ready,
        and_from _ _ (eq-eqb i e.event.kernel here) (or_right _ _ (and_from _ _ revoking (root-begins root))),
      ))
  may-cause not_granted (by_revoking here revoking held) = inr (inr (subst (λ (j : ℕ). IsSome (cap (side W j) k)) (sym here) held))

-- What the laws say of the key and the entry that follows a schedule.
pub record Laws (T : Setup) (J : List Entry) (e : Entry) (k : KeyName) : Type 0 where
  pub moves : (whereabouts_after T J k ≡ whereabouts_after T (J ++ e ∷ []) k) ⊎ MayChange T (world_after T J) e k
  pub home : grants_key k e ≡ false → MayChange T (world_after T J) e k →
      whereabouts_after T (J ++ e ∷ []) k ≡ seen_at_home k (side (world_after T (J ++ e ∷ [])) (owner_of T k))
  pub passes : Passes (grants_key k e) (whereabouts_after T J k) (whereabouts_after T (J ++ e ∷ []) k)

-- so what has become of the key before it and what its kernel tells after it tell what has become of it after it
pub stage-told : (T : Setup) (J : List Entry) (e : Entry) (k : KeyName) → Laws T J e k →
    stage_after T k e (stage_in T (world_after T J) k) (seen_by k (side (world_after T (J ++ e ∷ [])) (owner_of T k)))
    ≡ stage_in T (world_after T (J ++ e ∷ [])) k
stage-told T J e k L =
    let W : World = world_after T J in
    let V : World = world_after T (J ++ e ∷ []) in
    let i : ℕ = owner_of T k in
    stage-next (cap (side W i) k) (cap (side V i) k) (is_ready k (side W i)) (is_ready k (side V i)) (is_coming k W) (is_coming k V) (grants_key k e)
    (is_brought_by k e.event.act e.detail) (leaves_by T k e) (MayChange T W e k)
    (record {
      moves = L.moves;
      home = L.home;
      born = λ granted none. coming-of (is_coming k V)
          (λ no. born-somewhere (grants_key k e) (whereabouts_after T J k) (whereabouts_after T (J ++ e ∷ []) k) L.passes granted
          (ap (λ (o : Option Capability). option_map_or held_as o (unheld (is_coming k V))) none ∙ no));
      waits = ready-comes k W i;
      by_message = brought-may T W e k e.event.act e.detail refl refl;
      by_call = leaves-may T W e k;
      cause = may-cause T W e k;
    })
