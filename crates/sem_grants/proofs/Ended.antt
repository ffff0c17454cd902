-- The VPEs that have ended.
use Rattle.std.proofs.Common.{◌≡◌, ℕ, ◌+◌, ◌<◌, Bool, true, false, length, take, get_or, List, [], ◌∷◌, ◌++◌, Result, Ok, Err, refl, sym, ◌∙◌}
use Rattle.std.specs.Prelude.{◌||◌, nat_eq, IfOk, OnOk}
use Rattle.std.specs.List.{All, filter}
use Rattle.std.proofs.lemmas.List.{take_more}
use Rattle.std.proofs.lemmas.List.Folds.{list_any-append}
use Rattle.indexmap.specs.IndexSet.{IndexSet, contains}
use Rattle.sem_key.specs.KeyName.{KeyName, IsValidKey, key_eq}
use Rattle.sem_key.specs.KeyList.{KeyList, key_set}
use Rattle.sem_key.specs.Region.{has_key}
use Rattle.sem_key.proofs.KeyTests.{Contains-from_has_key, has_key-from_Contains}
use Rattle.sem_mark.proofs.SortedKeys.{key_set-same}
use Rattle.sem_msg.specs.declared.entry.Entry.{Entry}
use Rattle.sem_machine.specs.Journals.{ends, has_ended, cut_from}
use Rattle.sem_grants.specs.Backward.{HasVpes}

or_false : (b : Bool) → (b || false) ≡ b
or_false true = refl
or_false false = refl

-- one entry more
pub ended-more : {S : Type 0} (old new : IndexSet ℕ S) (J : List Entry) (i : ℕ) (e : Entry) → i < length J → e ≡ get_or J i e →
    HasVpes old (has_ended (take i J)) → HasVpes new (λ v. contains nat_eq old v || ends v e.event.act e.detail) → HasVpes new (has_ended (take (i + 1) J))
ended-more old new J i e more at so_far added v =
    rw (
      take_more J i e more,
      ← at,
      list_any-append (λ (x : Entry). ends v x.event.act x.detail) (take i J) (e ∷ []),
      or_false (ends v e.event.act e.detail),
      ← so_far v,
    ) (added v)

-- so the keys of the VPEs of the set are those of the VPEs that have ended
ended_keys-is : (J : List Entry) (p : ℕ → Bool) → ((v : ℕ) → p v ≡ has_ended J v) → (ks : List KeyName) →
    filter (λ k. p k.vpe) ks ≡ filter (λ k. has_ended J k.vpe) ks
ended_keys-is J p same [] = refl
ended_keys-is J p same (k ∷ ks) = rw (same k.vpe, ended_keys-is J p same ks) refl

-- What was found, the keys that entries cut off and then those of VPEs that have ended, makes the same set as the cut.
module _ (J : List Entry) (made : List KeyName) (is_ended : ℕ → Bool) (first found : List KeyName)
    (cuts : (k : KeyName) → has_key first k ≡ has_key (cut_from [] J) k) (ended : (v : ℕ) → is_ended v ≡ has_ended J v)
    (is : found ≡ first ++ filter (λ k. is_ended k.vpe) made) where
  abbrev all : List KeyName
  all = cut_from [] J ++ filter (λ k. has_ended J k.vpe) made

  same : (k : KeyName) → has_key found k ≡ has_key all k
  same k = rw (
    is,
    ended_keys-is J is_ended ended made,
    list_any-append (key_eq k) first (filter (λ x. has_ended J x.vpe) made),
    list_any-append (key_eq k) (cut_from [] J) (filter (λ x. has_ended J x.vpe) made),
    cuts k,
  ) refl

  sets : All IsValidKey found → key_set found ≡ key_set all
  sets valid = key_set-same found all valid
      (λ k there. Contains-from_has_key all k (sym (same k) ∙ has_key-from_Contains found k there))
      (λ k there. Contains-from_has_key found k (same k ∙ has_key-from_Contains all k there))

  pub cut-gathered : {E : Type 0} (r : Result KeyList E) → IfOk r (λ keys. keys.keys ≡ key_set found) → OnOk r (All IsValidKey found) →
      IfOk r (λ keys. keys.keys ≡ key_set all)
  cut-gathered (Ok keys) set valid = set ∙ sets valid
  cut-gathered (Err e) set valid = set
