-- What has become of a key before the first entry.
use Rattle.std.proofs.Common.{◌≡◌, Bool, true, false, List, [], ◌∷◌, map, find, Option, Some, None, refl, sym, ap, ◌∙◌}
use Rattle.std.specs.Prelude.{if◌then◌else◌}
use Rattle.std.specs.Option.{option_map_or}
use Rattle.sem_key.specs.KeyName.{KeyName, key_eq}
use Rattle.sem_key.specs.KeyList.{key_set}
use Rattle.sem_key.specs.Capability.{Capability}
use Rattle.sem_msg.specs.Setup.{Setup}
use Rattle.sem_msg.specs.Lookups.{owner_of}
use Rattle.sem_machine.specs.Sides.{cap}
use Rattle.sem_machine.specs.Machine.{side, start}
use Rattle.sem_machine.specs.Journals.{root_keys}
use Rattle.sem_query.specs.declared.holder.Holder.{Holder}
use Rattle.sem_query.specs.declared.holder.Holder.TheVariants.{Way, No}
use Rattle.sem_query.specs.Whereabouts.{is_coming, held_as, unheld, whereabouts}
use Rattle.sem_query.specs.Lives.{KeyLife, life_of_root, lives, told_holder, told_of}
use Rattle.sem_story.specs.Stages.{stage_of, is_ready, stage_in, seen_by}

-- the lives of roots tell of none that it is on its way at the start
first-told : (h : KeyName → Holder) (k : KeyName) (ks : List KeyName) → told_of (map (λ (q : KeyName). life_of_root q (h q)) ks) k 0 ≡ Way → ⊥
first-told h k [] e = cc
first-told h k (q ∷ ks) e = by (key_eq q k) (find (λ (l : KeyLife). key_eq l.key k) (map (λ (x : KeyName). life_of_root x (h x)) ks)) (first-told h k ks) e
  where
    by : (b : Bool) (rest : Option KeyLife) → (option_map_or (told_holder 0) rest No ≡ Way → ⊥) →
        option_map_or (told_holder 0) (if b then Some (life_of_root q (h q)) else rest) No ≡ Way → ⊥
    by true rest others is = cc
    by false rest others is = others is

not-coming : (b : Bool) → (unheld b ≡ Way → ⊥) → b ≡ false
not-coming true apart = absurd (apart refl)
not-coming false apart = refl

-- so its kernel tells all at the start
pub stage-first : (T : Setup) (k : KeyName) → lives T [] ≡ map (λ (q : KeyName). life_of_root q (whereabouts T (start T) q)) (key_set (root_keys T)) →
    told_of (lives T []) k 0 ≡ whereabouts T (start T) k → seen_by k (side (start T) (owner_of T k)) ≡ stage_in T (start T) k
stage-first T k first tells = by (cap (side (start T) (owner_of T k)) k) refl
  where
    here : whereabouts T (start T) k ≡ Way → ⊥
    here way = first-told (λ (q : KeyName). whereabouts T (start T) q) k (key_set (root_keys T)) (ap (λ (ls : List KeyLife). told_of ls k 0) (sym first)
        ∙ (tells ∙ way))

    by : (o : Option Capability) → cap (side (start T) (owner_of T k)) k ≡ o →
        stage_of o (is_ready k (side (start T) (owner_of T k))) false ≡ stage_of o (is_ready k (side (start T) (owner_of T k))) (is_coming k (start T))
    by (Some c) is = refl
    by None is = ap (stage_of None (is_ready k (side (start T) (owner_of T k))))
        (sym (not-coming (is_coming k (start T)) (λ way. here (ap (λ (o : Option Capability). option_map_or held_as o (unheld (is_coming k (start T)))) is
        ∙ way))))
