-- The links in a row.
use Rattle.std.proofs.Common.{◌≡◌, ℕ, ◌<◌, List, [], length, map, set, get_or, Result, Ok, Err, sym, ◌∙◌, ap, subst, arith}
use Rattle.std.specs.Prelude.{OnOk}
use Rattle.std.specs.List.{All}
use Rattle.std.proofs.lemmas.List.{get_or-map, map-set, length-map}
use Rattle.std.proofs.lemmas.List.Elements.{All-set}
use Rattle.sem_key.proofs.Puts.{put-set}
use Rattle.sem_msg.specs.declared.message.Message.{Message}
use Rattle.sem_fabric.specs.Links.{LinkList, relined, link_to, with_link_to}

abbrev messages : LinkList → List Message
messages l = l.messages

module _ (links : List LinkList) (window to : ℕ) (l : LinkList) (here : to < length (map messages links)) (is : l ≡ get_or links to l) where
  within : to < length links
  within = let long = length-map links messages in omega (arith, here, long)

  -- what stands in the link
  pub link-is : link_to (record { links = map messages links; window = window }) to ≡ l.messages
  link-is = get_or-map messages links to l [] within ∙ ap messages (sym is)

  -- and for how many there is room
  pub window-is : All (λ l. l.window ≡ window) links → l.window ≡ window
  window-is all = subst (λ l. l.window ≡ window) (sym is) (all to l within)

  -- another link in its place has other messages there
  pub row-put : (ms : List Message) (new : LinkList) → new ≡ relined ms l →
      record { links = map messages (set links to new); window = window } ≡ with_link_to to ms (record { links = map messages links; window = window })
  row-put ms new same = λ i. record {
    links = (map-set messages links to new ∙ ap (λ x. set (map messages links) to x) (ap messages same)
        ∙ sym (put-set [] (map messages links) to ms here)) i;
    window = window;
  }

  pub row-windows : (new : LinkList) (ms : List Message) → new ≡ relined ms l → All (λ l. l.window ≡ window) links →
      All (λ l. l.window ≡ window) (set links to new)
  row-windows new ms same all =
      All-set (λ l. l.window ≡ window) links to new (ap (λ l. l.window) same ∙ window-is all) (λ k d lt. all k d lt)

-- what follows where it is Ok
pub on-ok : {X E : Type 0} {P Q : Type 0} (r : Result X E) → OnOk r P → (P → Q) → OnOk r Q
on-ok (Ok x) is so = so is
on-ok (Err e) is so = tt
