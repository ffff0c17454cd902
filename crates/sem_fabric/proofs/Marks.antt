-- The masks beside the links of a fabric.
use Rattle.std.proofs.Common.{◌≡◌, ℕ, zero, suc, ◌-◌, ◌<◌, ◌≤◌, ◌⊎◌, ◌&&◌, false, cond, List, [], ◌++◌, take, length, get_or, set, replicate, refl, sym, ◌∙◌}
use Rattle.std.proofs.Common.{ap, subst, inl, inr, arith, length-set, get_or-set_same, get_or-set_other}
use Rattle.std.specs.Prelude.{◌==◌, nat_lt, nat_le}
use Rattle.sem_msg.specs.Versions.{IsWindow, least_window}
use Rattle.std.proofs.lemmas.Bool.{cases_Bool, cases_eq, cond-true, cond-false, cases_lt, lt-leb, lt-ltb, le-ltb}
use Rattle.std.proofs.lemmas.List.{length-replicate, get_or_past, get_or_default}
use Rattle.sem_key.specs.Lists.{put}
use Rattle.std.specs.List.{All, count_by}
use Rattle.sem_key.proofs.Puts.{get_or-put_same, get_or-put_other, length-put}
use Rattle.sem_msg.specs.declared.message.Message.{Message}
use Rattle.sem_msg.specs.Fabric.{IsSquare, link_in, link_put}
use Rattle.sem_msg.specs.Masks.{has_bit, IsMaskOf}
use Rattle.sem_msg.proofs.Masks.{mask-written, mask-none}
use Rattle.sem_fabric.specs.Marked.{AreMarked}
use Rattle.sem_fabric.specs.Links.{LinkRow, link_to, with_link_to}
use Rattle.sem_fabric.proofs.FabricRows.{links_of, row-wide, window-here, rows-put}
use Rattle.sem_fabric.proofs.Starts.{no_link}

-- what stands in the links after one was written
link-written : (links : List (List (List Message))) (i j : ℕ) (ms : List Message) → link_in (link_put i j ms links) i j ≡ ms
link-written links i j ms = ap (λ row. get_or row j []) (get_or-put_same [] links i (put [] (get_or links i []) j ms))
    ∙ get_or-put_same [] (get_or links i []) j ms

link-kept : (links : List (List (List Message))) (i j k l : ℕ) (ms : List Message) → ((k ≡ i → ⊥) ⊎ (l ≡ j → ⊥)) →
    link_in (link_put i j ms links) k l ≡ link_in links k l
link-kept links i j k l ms (inl other) = ap (λ row. get_or row l []) (get_or-put_other [] links i k (put [] (get_or links i []) j ms) other)
link-kept links i j k l ms (inr other) = elim (cases_eq k i) [
  | inl same ↦ subst (λ h. link_in (link_put i j ms links) h l ≡ link_in links h l) (sym same)
      (ap (λ row. get_or row l []) (get_or-put_same [] links i (put [] (get_or links i []) j ms)) ∙ get_or-put_other [] (get_or links i []) j l ms other)
  | inr apart ↦ ap (λ row. get_or row l []) (get_or-put_other [] links i k (put [] (get_or links i []) j ms) apart)
]

-- a link is written, and marked
module _ (n window : ℕ) (links : List (List (List Message))) (coming full : List ℕ) (marked : AreMarked n window links coming full) (i j : ℕ) (here : i < n)
    (there : j < n) (ms : List Message) (x y : ℕ) where
  waiting-marked : IsMaskOf (λ k. cond (k == i) (nat_lt 0 (length ms)) (has_bit (get_or coming j 0) k)) x → (to : ℕ)
      → IsMaskOf (λ k. nat_lt 0 (length (link_in (link_put i j ms links) k to))) (get_or (set coming j x) to 0)
  waiting-marked written to = elim (cases_eq to j) [
    | inl same ↦ subst (λ l. IsMaskOf (λ k. nat_lt 0 (length (link_in (link_put i j ms links) k l))) (get_or (set coming j x) l 0)) (sym same)
        (subst (IsMaskOf (λ k. nat_lt 0 (length (link_in (link_put i j ms links) k j))))
        (sym (get_or-set_same coming j x 0 (let long = marked.receivers in omega
        (arith, there, long))))
        (mask-written (λ k. nat_lt 0 (length (link_in links k j))) (λ k. nat_lt 0 (length (link_in (link_put i j ms links) k j))) i (nat_lt 0 (length ms))
        (get_or coming j 0) x (marked.waiting j) written
        (ap (λ l. nat_lt 0 (length l)) (link-written links i j ms)) (λ k other. ap (λ l. nat_lt 0 (length l)) (link-kept links i j k j ms (inl other)))))
    | inr other ↦ λ k lt.
        ap (λ m. has_bit m k) (get_or-set_other coming j to x 0 other)
        ∙ (marked.waiting to k lt ∙ sym (ap (λ l. nat_lt 0 (length l)) (link-kept links i j k to ms (inr other))))
  ]

  filled-marked : IsMaskOf (λ k. cond (k == j) (nat_le window (length ms)) (has_bit (get_or full i 0) k)) y → (from : ℕ)
      → IsMaskOf (λ k. nat_le window (length (link_in (link_put i j ms links) from k))) (get_or (set full i y) from 0)
  filled-marked written from = elim (cases_eq from i) [
    | inl same ↦ subst (λ l. IsMaskOf (λ k. nat_le window (length (link_in (link_put i j ms links) l k))) (get_or (set full i y) l 0)) (sym same)
        (subst (IsMaskOf (λ k. nat_le window (length (link_in (link_put i j ms links) i k))))
        (sym (get_or-set_same full i y 0 (let long = marked.senders in omega
        (arith, here, long))))
        (mask-written (λ k. nat_le window (length (link_in links i k))) (λ k. nat_le window (length (link_in (link_put i j ms links) i k))) j (nat_le window
        (length ms)) (get_or full i 0) y (marked.filled i) written
        (ap (λ l. nat_le window (length l)) (link-written links i j ms))
        (λ k other. ap (λ l. nat_le window (length l)) (link-kept links i j i k ms (inr other)))))
    | inr other ↦ λ k lt.
        ap (λ m. has_bit m k) (get_or-set_other full i from y 0 other)
        ∙ (marked.filled from k lt ∙ sym (ap (λ l. nat_le window (length l)) (link-kept links i j from k ms (inl other))))
  ]

  pub marked-more : IsMaskOf (λ k. cond (k == i) (nat_lt 0 (length ms)) (has_bit (get_or coming j 0) k)) x
      → IsMaskOf (λ k. cond (k == j) (nat_le window (length ms)) (has_bit (get_or full i 0) k)) y
      → AreMarked n window (link_put i j ms links) (set coming j x) (set full i y)
  marked-more waits fills = record {
    receivers = length-set coming j x ∙ marked.receivers;
    senders = length-set full i y ∙ marked.senders;
    waiting = waiting-marked waits;
    filled = filled-marked fills;
  }

-- no bit is set beside empty links
no-mask : (n i : ℕ) → get_or {A = ℕ} (replicate n 0) i 0 ≡ 0
no-mask zero i = refl
no-mask (suc n) zero = refl
no-mask (suc n) (suc i) = no-mask n i

pub marked-none : (n window : ℕ) → 1 ≤ window →
    AreMarked n window (replicate n (let row : List (List Message) = replicate n [] in row)) (replicate n 0) (replicate n 0)
marked-none n window some = let none : List (List (List Message)) = replicate n (replicate n []) in record {
  receivers = length-replicate n 0;
  senders = length-replicate n 0;
  waiting = λ to. subst (IsMaskOf (λ k. nat_lt 0 (length (link_in none k to)))) (sym (no-mask n to))
      (mask-none (λ k. nat_lt 0 (length (link_in none k to))) (λ k. ap
      (λ l. nat_lt 0 (length l)) (no_link n n k to)));
  filled = λ from. subst (IsMaskOf (λ k. nat_le window (length (link_in none from k)))) (sym (no-mask n from)) (mask-none (λ k. nat_le window (length
      (link_in none from k))) (λ k. ap (λ l. nat_le window (length l)) (no_link n n from k) ∙ lt-leb window 0 (omega arith)));
}

-- from no kernel but the n ones a message waits
module _ (n : ℕ) (links : List (List (List Message))) (square : IsSquare n links) (to : ℕ) where
  waits-few : (from : ℕ) → nat_lt 0 (length (link_in links from to)) ≡ (nat_lt from n && nat_lt 0 (length (link_in links from to)))
  waits-few from = elim (cases_lt from n) [
    | inl few ↦ sym (ap (λ b. b && nat_lt 0 (length (link_in links from to))) (lt-ltb from n few))
    | inr past ↦
        let none : link_in links from to ≡ [] = ap (λ row. get_or row to []) (get_or_past links from [] (let rows = square.rows in
        omega (arith, rows, past))) in
        ap (λ l. nat_lt 0 (length l)) none ∙ sym (ap (λ b. b && nat_lt 0 (length (link_in links from to))) (le-ltb from n past))
  ]

  pub mask-few : (mask : ℕ) → IsMaskOf (λ from. nat_lt 0 (length (link_in links from to))) mask
      → IsMaskOf (λ from. nat_lt from n && nat_lt 0 (length (link_in links from to))) mask
  mask-few mask is k lt = is k lt ∙ waits-few k

-- an element of masks, whatever is taken where there is none
pub mask-at : (masks : List ℕ) (i n x : ℕ) → i < n → length masks ≡ n → x ≡ get_or masks i x → get_or masks i 0 ≡ x
mask-at masks i n x within long is = get_or_default masks i 0 x (omega (arith, within, long)) ∙ sym is

-- a row with other messages in one link, marked as the link is now
module _ (rows : List LinkRow) (n window : ℕ) (square : IsSquare n (links_of rows)) (windows : All (λ r. r.window ≡ window) rows) (i j : ℕ) (here : i < n)
    (there : j < n) (row : LinkRow) (is : row ≡ get_or rows i row) (ms : List Message) (new : LinkRow) (same : new ≡ with_link_to j ms row) where
  link-new : link_to new j ≡ ms
  link-new = ap (λ r. link_to r j) same ∙ get_or-put_same [] row.links j ms

  window-new : new.window ≡ window
  window-new = ap (λ (r : LinkRow). r.window) same ∙ window-here rows n window square windows i j here there row is

  pub row-wide-new : j < length new.links
  row-wide-new =
      let wide = row-wide rows n window square windows i j here there row is in
      let long = ap (λ (r : LinkRow). length r.links) same ∙ length-put [] row.links j ms wide in
      omega (arith, wide, long)

  pub rows-marked : (coming full : List ℕ) → AreMarked n window (links_of rows) coming full → (x y : ℕ) → x ≡ get_or coming j x → y ≡ get_or full i y →
      (u v : ℕ)
      → IsMaskOf (λ k. cond (k == i) (nat_lt 0 (length (link_to new j))) (has_bit x k)) u
      → IsMaskOf (λ k. cond (k == j) (nat_le new.window (length (link_to new j))) (has_bit y k)) v
      → AreMarked n window (links_of (set rows i new)) (set coming j u) (set full i v)
  rows-marked coming full marked x y x_is y_is u v comes fills =
      let x_at : x ≡ get_or coming j 0 = sym (mask-at coming j n x there marked.receivers x_is) in
      let y_at : y ≡ get_or full i 0 = sym (mask-at full i n y here marked.senders y_is) in
      let waits : IsMaskOf (λ k. cond (k == i) (nat_lt 0 (length ms)) (has_bit (get_or coming j 0) k)) u =
      subst (λ l. IsMaskOf (λ k. cond (k == i) (nat_lt 0 (length l)) (has_bit (get_or coming j 0) k)) u) link-new
      (subst (λ m. IsMaskOf (λ k. cond (k == i) (nat_lt 0 (length (link_to new j))) (has_bit m k)) u) x_at comes) in
      let filled : IsMaskOf (λ k. cond (k == j) (nat_le window (length ms)) (has_bit (get_or full i 0) k)) v =
      subst (λ w. IsMaskOf (λ k. cond (k == j) (nat_le w (length ms)) (has_bit (get_or full i 0) k)) v) window-new
      (subst (λ l. IsMaskOf (λ k. cond (k == j) (nat_le new.window (length l)) (has_bit (get_or full i 0) k)) v) link-new
      (subst (λ m. IsMaskOf (λ k. cond (k == j) (nat_le new.window (length (link_to new j))) (has_bit m k)) v) y_at fills)) in
      subst (λ links. AreMarked n window links (set coming j u) (set full i v)) (sym (rows-put rows n window square windows i j here there row is ms new same))
      (marked-more n window (links_of rows) coming full marked i j here there ms u v waits filled)

-- a link has room for a message at least
pub window-some : (version window : ℕ) → IsWindow version window → 1 ≤ window
window-some version window is = elim (cases_Bool (version == 1)) [
  | inl first ↦ let least : least_window version ≡ 4 = cond-true (version == 1) 4 1 first in let some = is.0 in omega (arith, least, some)
  | inr later ↦ let least : least_window version ≡ 1 = cond-false (version == 1) 4 1 later in let some = is.0 in omega (arith, least, some)
]

-- What is there after an empty list was filled up.

pub filled-up : {X : Type 0} (v : X) (n len : ℕ) (old items : List X) → old ≡ [] → len ≡ 0 → items ≡ take n old ++ replicate (n - len) v → items ≡ replicate n v
filled-up {X = X} v n len old items empty short is = is
    ∙ (ap (λ xs. take n xs ++ replicate (n - len) v) empty ∙ (ap (λ xs. xs ++ replicate (n - len) v) (none n) ∙ ap
    (λ m. replicate m v) (omega arith)))
  where
    none : (n : ℕ) → take {A = X} n [] ≡ []
    none zero = refl
    none (suc n) = refl

-- no kernel has a place
pub no-places : (n : ℕ) → count_by (λ b. b) (replicate n false) ≡ 0
no-places zero = refl
no-places (suc n) = no-places n
