-- Lines that are followed upwards, and lists that are gathered for the stray keys.
use Rattle.std.proofs.Common.{◌≡◌, ℕ, zero, suc, ◌+◌, ◌<◌, Bool, true, false, List, [], ◌∷◌, ◌++◌, length, map, take, get_or, Option, Some, None, is_some, refl}
use Rattle.std.proofs.Common.{sym, ◌∙◌, ap, arith}
use Rattle.std.specs.Prelude.{count_by}
use Rattle.std.specs.List.{filter, list_any}
use Rattle.std.specs.Option.{option_map_or, option_to_list}
use Rattle.std.proofs.lemmas.List.{take_more, map-append}
use Rattle.std.proofs.lemmas.List.Elements.{filter_map-append}
use Rattle.std.proofs.lemmas.List.Sums.{length-filter}
use Rattle.sem_key.specs.KeyName.{KeyName}
use Rattle.sem_msg.specs.declared.audit.Held.{Held}
use Rattle.sem_msg.specs.declared.entry.Entry.{Entry}
use Rattle.sem_msg.specs.declared.entry.Reply.{Reply}
use Rattle.sem_msg.specs.Audits.{held_pairs}
use Rattle.sem_msg.specs.Journal.{replies}
use Rattle.sem_machine.specs.Journals.{grants, ancestry_in, parent_in}

module _ {X : Type 0} (p : X → Bool) where
  any-here : (x : X) (xs : List X) → p x ≡ true → list_any p (x ∷ xs) ≡ true
  any-here x xs yes' = rw yes' refl

  any-later : (x : X) (xs : List X) → p x ≡ false → list_any p (x ∷ xs) ≡ list_any p xs
  any-later x xs no' = rw no' refl

-- A line that is followed: n more keys above k may be looked at.
module _ (gs : List (KeyName × KeyName)) (p : KeyName → Bool) where
  -- the key itself passes
  pub line-here : (n : ℕ) (k : KeyName) → p k ≡ true → list_any p (ancestry_in n gs k) ≡ true
  unfolding ancestry_in
  line-here zero k yes' = any-here p k [] yes'
  line-here (suc n) k yes' = any-here p k (option_map_or (ancestry_in n gs) (parent_in gs k) []) yes'

  -- it does not, and nothing is above it
  pub line-ends : (n : ℕ) (k : KeyName) → p k ≡ false → parent_in gs k ≡ None → list_any p (ancestry_in n gs k) ≡ false
  unfolding ancestry_in
  line-ends zero k no' none = any-later p k [] no'
  line-ends (suc n) k no' none = any-later p k (option_map_or (ancestry_in n gs) (parent_in gs k) []) no'
      ∙ ap (λ o. list_any p (option_map_or (ancestry_in n gs) o [])) none

  -- it does not, and its parent is next
  pub line-next : (n m : ℕ) (k parent : KeyName) → n ≡ suc m → p k ≡ false → parent_in gs k ≡ Some parent →
      list_any p (ancestry_in n gs k) ≡ list_any p (ancestry_in m gs parent)
  unfolding ancestry_in
  line-next zero m k parent is no' some = absurd (omega arith)
  line-next (suc n) m k parent is no' some =
      let same : n ≡ m = omega arith in
      any-later p k (option_map_or (ancestry_in n gs) (parent_in gs k) []) no'
      ∙ (ap (λ o. list_any p (option_map_or (ancestry_in n gs) o [])) some ∙ ap (λ x. list_any p (ancestry_in x gs parent)) same)

  -- nothing more may be looked at
  pub line-last : (n : ℕ) (k : KeyName) → n ≡ 0 → list_any p (ancestry_in n gs k) ≡ p k
  unfolding ancestry_in
  line-last zero k is = alone (p k) refl
    where
      alone : (b : Bool) → p k ≡ b → list_any p (k ∷ []) ≡ b
      alone true yes' = any-here p k [] yes'
      alone false no' = any-later p k [] no'
  line-last (suc n) k is = absurd (omega arith)

one-grant : (e : Entry) → grants (e ∷ []) ≡ option_to_list e.grant
one-grant e = of e.grant refl
  where
    of : (o : Option (KeyName × KeyName)) → e.grant ≡ o → grants (e ∷ []) ≡ option_to_list o
    of None none = rw none refl
    of (Some g) some = rw some refl

-- the grants of one entry more
pub grants-more : (J : List Entry) (i : ℕ) (e : Entry) (now new : List (KeyName × KeyName)) → i < length J → e ≡ get_or J i e → now ≡ grants (take i J) →
    new ≡ now ++ option_to_list e.grant → new ≡ grants (take (i + 1) J)
grants-more J i e now new more at so_far is =
    is
    ∙ (ap (λ gs. gs ++ option_to_list e.grant) so_far
    ∙ (ap (λ gs. grants (take i J) ++ gs) (sym (one-grant e))
    ∙ (sym (filter_map-append (λ (x : Entry). x.grant) (take i J) (e ∷ []))
    ∙ ap grants (sym (take_more J i e more ∙ ap (λ x. take i J ++ x ∷ []) (sym at))))))

-- the key of one more
pub keys-more : (hs : List Held) (i : ℕ) (h : Held) (now new : List KeyName) → i < length hs → h ≡ get_or hs i h → now ≡ map (λ (x : Held). x.key) (take i hs) →
    new ≡ now ++ h.key ∷ [] → new ≡ map (λ (x : Held). x.key) (take (i + 1) hs)
keys-more hs i h now new more at so_far is =
    is
    ∙ (ap (λ ks. ks ++ h.key ∷ []) so_far
    ∙ (sym (map-append (λ (x : Held). x.key) (take i hs) (h ∷ []))
    ∙ ap (map (λ (x : Held). x.key)) (sym (take_more hs i h more ∙ ap (λ x. take i hs ++ x ∷ []) (sym at)))))

-- the keys of what is held are those of the pairs
pub keys-of_pairs : (hs : List Held) → map (λ (x : Held). x.key) hs ≡ map (λ (p : KeyName × ℕ). p.0) (held_pairs hs)
keys-of_pairs [] = refl
keys-of_pairs (h ∷ hs) = ap (λ ks. h.key ∷ ks) (keys-of_pairs hs)

-- the entries with a reply are as many as the replies
pub replied-count : (es : List Entry) → count_by (λ e. is_some e.reply) es ≡ length (replies es)
replied-count es = sym (length-filter (λ (e : Entry). is_some e.reply) es) ∙ kept es
  where
    kept : (xs : List Entry) → length (filter (λ e. is_some e.reply) xs) ≡ length (replies xs)
    kept [] = refl
    kept (x ∷ xs) = of x.reply refl (kept xs)
      where
        of : (o : Option Reply) → x.reply ≡ o → length (filter (λ e. is_some e.reply) xs) ≡ length (replies xs) →
            length (filter (λ e. is_some e.reply) (x ∷ xs)) ≡ length (replies (x ∷ xs))
        of None none rest = rw none rest
        of (Some r) some rest = rw some (ap suc rest)
