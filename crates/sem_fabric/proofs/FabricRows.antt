-- The links of a fabric in its rows.
use Rattle.std.proofs.Common.{◌≡◌, ℕ, ◌<◌, List, [], length, map, set, get_or, Result, Ok, Err, sym, ◌∙◌, ap, subst, arith}
use Rattle.std.specs.Prelude.{OnOk, IfErr}
use Rattle.std.specs.List.{All}
use Rattle.std.proofs.lemmas.List.{get_or-map, map-set, length-map}
use Rattle.std.proofs.lemmas.List.Elements.{All-set}
use Rattle.sem_key.specs.Lists.{put}
use Rattle.sem_key.proofs.Puts.{put-set, put-same}
use Rattle.sem_msg.specs.declared.message.Message.{Message}
use Rattle.sem_msg.specs.Fabric.{IsSquare, link_in, link_put}
use Rattle.sem_msg.proofs.Squares.{square-put}
use Rattle.sem_fabric.specs.Links.{LinkRow, link_to, with_link_to}

abbrev pub links_of : List LinkRow → List (List (List Message))
links_of rows = map (λ (r : LinkRow). r.links) rows

module _ (rows : List LinkRow) (n window : ℕ) (square : IsSquare n (links_of rows)) (windows : All (λ r. r.window ≡ window) rows) (i j : ℕ) (here : i < n)
    (there : j < n) (row : LinkRow) (is : row ≡ get_or rows i row) where
  within : i < length rows
  within = let long = square.rows in let same = length-map rows (λ (r : LinkRow). r.links) in omega (arith, here, long, same)

  row-here : get_or (links_of rows) i [] ≡ row.links
  row-here = get_or-map (λ (r : LinkRow). r.links) rows i row [] within ∙ ap (λ (r : LinkRow). r.links) (sym is)

  pub row-wide : j < length row.links
  row-wide = let wide = square.each i here in let same = ap length row-here in omega (arith, there, wide, same)

  -- what stands in the link
  pub link-here : link_in (links_of rows) i j ≡ link_to row j
  link-here = ap (λ l. get_or l j []) row-here

  pub window-here : row.window ≡ window
  window-here = subst (λ (r : LinkRow). r.window ≡ window) (sym is) (windows i row within)

  -- other messages in one link of the row
  pub rows-put : (ms : List Message) (new : LinkRow) → new ≡ with_link_to j ms row → links_of (set rows i new) ≡ link_put i j ms (links_of rows)
  rows-put ms new same =
      let long = length-map rows (λ (r : LinkRow). r.links) in
      map-set (λ (r : LinkRow). r.links) rows i new
      ∙ ap (λ l. set (links_of rows) i l) (ap (λ (r : LinkRow). r.links) same)
      ∙ sym (put-set [] (links_of rows) i (put [] row.links j ms) (omega (arith, within, long)))
      ∙ ap (λ l. put [] (links_of rows) i (put [] l j ms)) (sym row-here)

  pub rows-windows : (ms : List Message) (new : LinkRow) → new ≡ with_link_to j ms row → All (λ r. r.window ≡ window) (set rows i new)
  rows-windows ms new same = All-set (λ r. r.window ≡ window) rows i new (ap (λ (r : LinkRow). r.window) same ∙ window-here) (λ k d lt. windows k d lt)

  -- the links stay square
  pub rows-square : (ms : List Message) (new : LinkRow) → new ≡ with_link_to j ms row → IsSquare n (links_of (set rows i new))
  rows-square ms new same = subst (IsSquare n) (sym (rows-put ms new same)) (square-put n (links_of rows) i j ms square here there)

  -- what a push leaves, whether the message came back or not
  pub rows-pushed : {X E : Type 0} (r : Result X E) (m : E) (more : List Message) (new : LinkRow) → OnOk r (new ≡ with_link_to j more row) →
      IfErr r (λ back. (back ≡ m) × (new ≡ row)) → (ms : List Message) × (new ≡ with_link_to j ms row)
  rows-pushed (Ok x) m more new ok err = (more, ok)
  rows-pushed (Err e) m more new ok err = (link_to row j, err.1 ∙ λ i. record { links = sym (put-same [] row.links j row-wide) i; window = row.window })
