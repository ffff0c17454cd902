-- Lists of passes, one pass at a time.
use Rattle.std.proofs.Common.{◌≡◌, ℕ, suc, ◌+◌, ◌-◌, ◌<◌, ◌==◌, cond, false, List, [], ◌∷◌, ◌++◌, length, None, Some, refl, sym, ap, ◌∙◌, subst, arith}
use Rattle.std.proofs.Common.{length-append}
use Rattle.std.specs.Prelude.{All}
use Rattle.std.proofs.lemmas.List.Elements.{All-nil, All-push, All-head, All-pop}
use Rattle.std.proofs.lemmas.List.FromFn.{map-range_with_len_more}
use Rattle.std.proofs.lemmas.List.Sums.{sum_by_push}
use Rattle.sem_msg.specs.declared.entry.Entry.{Entry}
use Rattle.sem_msg.specs.Journal.{part}
use Rattle.sem_msg.specs.Fabric.{FabricValue}
use Rattle.sem_turn.specs.declared.rule.Share.{Share}
use Rattle.sem_turn.specs.Passes.{PassValue, new_pass, new_passes, times}
use Rattle.sem_turn.specs.Rule.{IsShareOf, share, view, new_shares}
use Rattle.sem_turn.specs.Steps.{Sat, rest_of}
use Rattle.sem_turn.proofs.Totals.{is_of, shares_of}
use Rattle.sem_turn.proofs.Fitting.{fits-parts}

-- each pass has its kernel's part of the journal
abbrev pub HaveParts : List Entry → List PassValue → Type 0
HaveParts J ps = All (λ p. p.entries ≡ part J p.kernel) ps

-- no pass holds the turn
abbrev pub AreFree : List PassValue → Type 0
AreFree ps = All (λ p. p.taken ≡ None) ps

-- The last pass is taken out, and its kernel carried.
module _ (before after : List PassValue) (h : PassValue) (p : before ≡ after ++ h ∷ []) where
  pub popped_free : AreFree before → AreFree after × (h.taken ≡ None)
  popped_free free = All-pop (λ (x : PassValue). x.taken ≡ None) before after (Some h) p free

  module _ (ps qs : List Share) (q : qs ≡ ps ++ share h.kernel h.entries h.placed ∷ []) where
    pub popped_count : (n : ℕ) → length ps + length before ≡ n → length qs + length after ≡ n
    popped_count n all = omega (arith, all, ap length p ∙ length-append after (h ∷ []), ap length q ∙ length-append ps (share h.kernel h.entries h.placed ∷ []))

    pub popped_once : (k n : ℕ) → shares_of k ps + times k before ≡ n → shares_of k qs + times k after ≡ n
    popped_once k n all =
        let a = ap (times k) p ∙ sum_by_push (λ (x : PassValue). cond (x.kernel == k) 1 0) after h in
        let b = ap (shares_of k) q ∙ sum_by_push (is_of k) ps (share h.kernel h.entries h.placed) in
        let one : ℕ = cond (h.kernel == k) 1 0 in
        let x : ℕ = times k before in
        let y : ℕ = times k after in
        let z : ℕ = shares_of k ps in
        let w : ℕ = shares_of k qs in
        let a' : x ≡ y + one = a in
        let b' : w ≡ z + one = b in
        let all' : z + x ≡ n = all in
        let r : w + y ≡ n = omega (arith, a', b', all') in r

    pub popped_fits : (f : FabricValue) (all : List PassValue) → (All (IsShareOf f) ps → HaveParts f.journal before → HaveParts f.journal all) → All (IsShareOf f) qs
        → HaveParts f.journal after → HaveParts f.journal all
    popped_fits f all was fit g =
        let r = fits-parts f ps (share h.kernel h.entries h.placed ∷ []) (subst (All (IsShareOf f)) q fit) in
        was r.0 (subst (HaveParts f.journal) (sym p) (All-push (λ (x : PassValue). x.entries ≡ part f.journal x.kernel) after h g
        (All-head (IsShareOf f) (share h.kernel h.entries h.placed) [] r.1).0))

-- The first seat carries the kernels from number k on: kernel k is in front, and behind the cut the others are left.
module _ (k n : ℕ) (before : k < n) (me : Sat) (is : me ≡ (view (new_shares k (n - k)) None, [])) where
  cut_now : me ≡ (view (share k [] false ∷ new_shares (k + 1) (n - (k + 1))) None, [])
  cut_now = ◌∙◌ {A = Sat} is (ap (λ (ps : List Share). (view ps None, [])) (ap (new_shares k) (let e : n - k ≡ suc (n - (k + 1)) = omega arith in e)))

  pub cut_first : me ≡ (view (share k [] false ∷ rest_of me.0.shares) None, [])
  cut_first = subst (λ (m : Sat). m ≡ (view (share k [] false ∷ rest_of m.0.shares) None, [])) (sym cut_now) refl

  pub cut_others : (after : Sat) → after ≡ (view (rest_of me.0.shares) None, []) → after ≡ (view (new_shares (k + 1) (n - (k + 1))) None, [])
  cut_others after told = ◌∙◌ {A = Sat} told (ap (λ (m : Sat). (view (rest_of m.0.shares) None, [])) cut_now)

-- the passes with the next one
pub next_pass : (k : ℕ) (before after : List PassValue) (p : PassValue) → before ≡ new_passes k → p ≡ new_pass k → after ≡ before ++ p ∷ [] →
    after ≡ new_passes (k + 1)
next_pass k before after p is new pushed =
    ◌∙◌ {A = List PassValue} pushed
    (◌∙◌ {A = List PassValue} (λ i. is i ++ new i ∷ []) (sym (map-range_with_len_more new_pass 0 k k (omega arith))))

-- no passes have all parts
pub parts_none : (J : List Entry) (ps : List PassValue) → ps ≡ [] → HaveParts J ps
parts_none J ps none = subst (HaveParts J) (sym none) (All-nil (λ (p : PassValue). p.entries ≡ part J p.kernel))
