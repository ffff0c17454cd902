-- Where each grant of a schedule is of a key that was never made, the grants grow key by key, and all grants are sound.
use Rattle.std.proofs.Common.{◌≡◌, List, [], ◌∷◌, ◌++◌, Option, Some, None, refl, sym, ◌∙◌, ap, subst, append-nil, append_assoc}
use Rattle.sem_key.specs.KeyName.{KeyName}
use Rattle.sem_msg.specs.declared.entry.Entry.{Entry}
use Rattle.sem_msg.specs.Setup.{Setup}
use Rattle.sem_machine.specs.Schedules.{IsSchedule}
use Rattle.sem_machine.specs.Journals.{grants, root_keys}
use Rattle.sem_machine.specs.Safety.{sound_grants}
use Rattle.sem_safety.specs.Growth.{IsGrown, no_grants, granted_next}
use Rattle.sem_safety.specs.NewGrants.{AreNew}
use Rattle.sem_safety.proofs.Parents.{journal-below, parent-made}

-- what a journal with one entry more has
pub with_grant : (J : List Entry) (e : Entry) (g : KeyName × KeyName) → e.grant ≡ Some g → grants (J ++ e ∷ []) ≡ grants J ++ g ∷ []
with_grant [] e g is = rw is refl
with_grant (x ∷ xs) e g is = by_first x.grant refl (with_grant xs e g is)
  where
    by_first : (o : Option (KeyName × KeyName)) → x.grant ≡ o → grants (xs ++ e ∷ []) ≡ grants xs ++ g ∷ [] →
        grants (x ∷ xs ++ e ∷ []) ≡ grants (x ∷ xs) ++ g ∷ []
    by_first None none rest = rw none rest
    by_first (Some h) some rest = rw some (ap (λ gs. h ∷ gs) rest)

pub without_grant : (J : List Entry) (e : Entry) → e.grant ≡ None → grants (J ++ e ∷ []) ≡ grants J
without_grant [] e is = rw is refl
without_grant (x ∷ xs) e is = by_first x.grant refl (without_grant xs e is)
  where
    by_first : (o : Option (KeyName × KeyName)) → x.grant ≡ o → grants (xs ++ e ∷ []) ≡ grants xs → grants (x ∷ xs ++ e ∷ []) ≡ grants (x ∷ xs)
    by_first None none rest = rw none rest
    by_first (Some h) some rest = rw some (ap (λ gs. h ∷ gs) rest)

pub new-grown : (T : Setup) (J : List Entry) → IsSchedule T J → AreNew T J → IsGrown (root_keys T) (grants J)
new-grown T J runs new = from [] J refl no_grants
  where
    from : (before later : List Entry) → J ≡ before ++ later → IsGrown (root_keys T) (grants before) → IsGrown (root_keys T) (grants J)
    from before [] parts is = subst (λ K. IsGrown (root_keys T) (grants K)) (sym (parts ∙ append-nil before)) is
    from before (e ∷ es) parts is = from (before ++ e ∷ []) es (parts ∙ sym (append_assoc before (e ∷ []) es)) (by_grant e.grant refl)
      where
        by_grant : (o : Option (KeyName × KeyName)) → e.grant ≡ o → IsGrown (root_keys T) (grants (before ++ e ∷ []))
        by_grant None none = subst (IsGrown (root_keys T)) (sym (without_grant before e none)) is
        by_grant (Some (p, k)) some =
            subst (IsGrown (root_keys T)) (sym (with_grant before e (p, k) some))
            (granted_next (grants before) p k is (parent-made T J before es e p k runs parts some) (new before es e p k parts some))

pub new-sound : (T : Setup) (J : List Entry) → IsSchedule T J → AreNew T J → sound_grants T J
new-sound T J runs new = λ before later e p k parts some. (journal-below T J before later e p k runs parts some, new before later e p k parts some)
