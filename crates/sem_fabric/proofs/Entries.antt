-- One entry more: the replies, and the places that are left.
use Rattle.std.proofs.Common.{◌≡◌, ℕ, suc, ◌+◌, ◌<◌, ◌≤◌, Bool, true, false, cond, List, [], ◌∷◌, ◌++◌, length, get_or, set, Option, Some, None, refl, ◌∙◌, ap}
use Rattle.std.proofs.Common.{arith, length-append}
use Rattle.std.specs.List.{count_by, cons_option, filter, filter_map}
use Rattle.std.specs.Option.{is_some}
use Rattle.std.proofs.lemmas.List.Sums.{sum_by-set}
use Rattle.std.proofs.lemmas.List.Elements.{filter_map-append}
use Rattle.sem_msg.specs.declared.entry.Entry.{Entry}
use Rattle.sem_msg.specs.declared.entry.Reply.{Reply}
use Rattle.sem_msg.specs.Journal.{replies}

-- one or none
abbrev pub counts : Bool → ℕ
counts b = cond b 1 0

-- one reply more, or none
pub replies-more : (J : List Entry) (e : Entry) → length (replies (J ++ e ∷ [])) ≡ length (replies J) + counts (is_some e.reply)
replies-more J e = ap length (filter_map-append (λ (x : Entry). x.reply) J (e ∷ [])) ∙ length-append (replies J) (filter_map (λ (x : Entry). x.reply) (e ∷ []))
    ∙ ap (λ n. length (replies J) + n) (one e.reply)
  where
    one : (o : Option Reply) → length (cons_option o []) ≡ counts (is_some o)
    one None = refl
    one (Some r) = refl

-- there are no more replies than entries
pub replies-few : (J : List Entry) → length (replies J) ≤ length J
replies-few [] = omega arith
replies-few (e ∷ J) = by_reply e.reply (replies J) (replies-few J)
  where
    by_reply : (o : Option Reply) (rs : List Reply) → length rs ≤ length J → length (cons_option o rs) ≤ suc (length J)
    by_reply None rs rest = omega (arith, rest)
    by_reply (Some r) rs rest = omega (arith, rest)

-- a place that is used up is one less
pub places-less : (places : List Bool) (i : ℕ) → i < length places → get_or places i false ≡ true →
    count_by (λ b. b) (set places i false) + 1 ≡ count_by (λ b. b) places
places-less places i within here =
    let one : counts (get_or places i false) ≡ 1 = ap counts here in
    let moved = sum_by-set counts places i false false within in
    omega (arith, one, moved)

-- what replies is all that the replies are counted from
pub replies-kept : (J : List Entry) → replies (filter (λ e. is_some e.reply) J) ≡ replies J
replies-kept [] = refl
replies-kept (e ∷ J) = by_reply (filter (λ (x : Entry). is_some x.reply) J) (replies-kept J) e.reply refl
  where
    by_reply : (kept : List Entry) → replies kept ≡ replies J → (o : Option Reply) → e.reply ≡ o →
        replies (cond (is_some o) (e ∷ kept) kept) ≡ cons_option o (replies J)
    by_reply kept same None is = same
    by_reply kept same (Some r) is = ap (λ o. cons_option o (replies kept)) is ∙ ap (cons_option (Some r)) same
