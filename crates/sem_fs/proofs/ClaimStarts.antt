-- What is claimed of a client at the start: what all calls give to it, and what it has taken then.
use Rattle.std.proofs.Common.{◌≡◌, ℕ, zero, suc, ◌+◌, ◌≤◌, Bool, List, [], ◌∷◌, filter, length, map, replicate, get_or, None, refl, sym, ap, ◌∙◌, subst, inl}
use Rattle.std.proofs.Common.{inr, arith, eq-eqb}
use Rattle.std.specs.Prelude.{◌==◌, if◌then◌else◌}
use Rattle.std.specs.List.{Contains, range_with_len, sum_by}
use Rattle.std.proofs.lemmas.Bool.{cases_eq, cond-true}
use Rattle.std.proofs.lemmas.List.Sums.{sum_by-cons}
use Rattle.sem_key.proofs.Members.{Contains-head, Contains-tail, Contains-from_filter}
use Rattle.sem_key.specs.declared.limits.TheConstants.{VPES}
use Rattle.sem_key.specs.CapList.{fresh}
use Rattle.sem_key.specs.Lists.{in_turn}
use Rattle.sem_key.proofs.Puts.{get_or-put_same, get_or-put_other}
use Rattle.sem_msg.specs.declared.message.Message.{Message}
use Rattle.sem_msg.specs.declared.setup.Root.{Root}
use Rattle.sem_msg.specs.declared.setup.VpeDecl.{VpeDecl}
use Rattle.sem_msg.specs.Rows.{VpeRow, no_vpe}
use Rattle.sem_msg.specs.VpeRows.{new_vpe, root_held, next_root}
use Rattle.sem_msg.specs.Setup.{Setup}
use Rattle.sem_msg.specs.Lookups.{calls_of, pe_owner, own_vpes}
use Rattle.sem_machine.specs.Sides.{Side, row, cap_added}
use Rattle.sem_machine.specs.Machine.{start, start_side, empty_side, vpe_added, vpe_fresh, root_added}
use Rattle.sem_machine.proofs.Weighing.{weigh-replicate}
use Rattle.sem_safety.specs.Counts.{sum_to}
use Rattle.sem_safety.proofs.LiveWorlds.{sum-of_map, owned-once}
use Rattle.sem_fs.specs.Service.{gives_where}
use Rattle.sem_fs.proofs.Claims.{IsClaim, of_messages, of_inbox, of_rows, of_row, of_ask, taken, sum_to-apart, row-le}
use Rattle.sem_fs.proofs.ClaimWorlds.{claimed, weight}

sum_to-more : (n : ℕ) (f g : ℕ → ℕ) (w x : ℕ) → ((v : ℕ) → (v ≡ w → ⊥) → f v ≡ g v) → f w ≤ g w + x → sum_to n f ≤ sum_to n g + x
sum_to-more zero f g w x same more = omega arith
sum_to-more (suc n) f g w x same more = elim (cases_eq n w) [
  | inl at ↦ here (sum_to n f) (sum_to n g) (f n) (g n) x (sum_to-apart n f g w (omega (arith, at)) same) (subst (λ m. f m ≤ g m + x) (sym at) more)
  | inr other ↦ away (sum_to n f) (sum_to n g) (f n) (g n) x (sum_to-more n f g w x same more) (same n other)
]
  where
    here : (a b c d x' : ℕ) → a ≡ b → c ≤ d + x' → a + c ≤ (b + d) + x'
    here a b c d x' one two = omega (arith, one, two)

    away : (a b c d x' : ℕ) → a ≤ b + x' → c ≡ d → a + c ≤ (b + d) + x'
    away a b c d x' one two = omega (arith, one, two)

-- what is more for each is more for all
pub sum-le-among : {X : Type 0} (w u : X → ℕ) (xs : List X) → ((x : X) → Contains xs x → w x ≤ u x) → sum_by w xs ≤ sum_by u xs
sum-le-among w u [] each = omega arith
sum-le-among w u (x ∷ xs) each = fits (sum_by w (x ∷ xs)) (w x) (sum_by w xs) (sum_by u (x ∷ xs)) (u x) (sum_by u xs) (sum_by-cons w x xs) (sum_by-cons u x xs)
    (each x (Contains-head x xs)) (sum-le-among w u xs (λ y among. each y (Contains-tail x xs y among)))
  where
    fits : (a b c d e f : ℕ) → a ≡ b + c → d ≡ e + f → b ≤ e → c ≤ f → a ≤ d
    fits a b c d e f one two three four = omega (arith, one, two, three, four)

module _ (T : Setup) (w0 : ℕ) (m : ℕ → Bool) (k : ℕ) (h : VpeRow → ℕ) (C : IsClaim T w0 m k h) where
  abbrev heavy : Side → ℕ
  heavy t = weight T w0 m k h C t

  -- what a VPE brings: what its calls give, and what it has taken if it is the client
  abbrev pub brings : VpeDecl → ℕ
  brings d = length (filter (gives_where w0 m) (calls_of T d.vpe)) + (if d.vpe == w0 then h new_vpe else 0)

  -- a root takes nothing of the client
  abbrev pub RootsFree : VpeDecl → Type 0
  RootsFree d = d.vpe ≡ w0 → (r : Root) → Contains d.roots r → (x : VpeRow) → h (root_held d r x) ≤ h x

  fresh-more : (d : VpeDecl) (s : Side) → heavy (vpe_fresh d s) ≤ heavy s + brings d
  fresh-more d s = whole (of_rows T w0 m k h (vpe_fresh d s)) (of_rows T w0 m k h s) (taken T w0 m k h (row (vpe_fresh d s) w0)) (taken T w0 m k h (row s w0))
      (sum_by (of_messages T w0 m k h) s.outs + of_inbox T w0 m k h s.inbox) (length (filter (gives_where w0 m) (calls_of T d.vpe)))
      (if d.vpe == w0 then h new_vpe else 0) rows mine
    where
      whole : (a a' b b' c x y : ℕ) → a ≤ a' + x → b ≤ b' + y → a + (b + c) ≤ (a' + (b' + c)) + (x + y)
      whole a a' b b' c x y one two = omega (arith, one, two)

      at : row (vpe_fresh d s) d.vpe ≡ new_vpe
      at = get_or-put_same no_vpe s.vpes d.vpe new_vpe

      less : (a b c : ℕ) → a ≡ b → a ≤ c + b
      less a b c same = omega (arith, same)

      rows : of_rows T w0 m k h (vpe_fresh d s) ≤ of_rows T w0 m k h s + length (filter (gives_where w0 m) (calls_of T d.vpe))
      rows = sum_to-more VPES (λ v. of_row T w0 m k h v (row (vpe_fresh d s) v)) (λ v. of_row T w0 m k h v (row s v)) d.vpe
          (length (filter (gives_where w0 m) (calls_of T d.vpe)))
          (λ v other. ap (of_row T w0 m k h v) (get_or-put_other no_vpe s.vpes d.vpe v new_vpe other))
          (less (of_row T w0 m k h d.vpe (row (vpe_fresh d s) d.vpe)) (length (filter (gives_where w0 m) (calls_of T d.vpe)))
          (of_row T w0 m k h d.vpe (row s d.vpe))
          (ap (of_row T w0 m k h d.vpe) at))

      mine : taken T w0 m k h (row (vpe_fresh d s) w0) ≤ taken T w0 m k h (row s w0) + (if d.vpe == w0 then h new_vpe else 0)
      mine = elim (cases_eq d.vpe w0) [
        | inl same ↦ fits (taken T w0 m k h (row (vpe_fresh d s) w0)) (h new_vpe) (taken T w0 m k h (row s w0)) (if d.vpe == w0 then h new_vpe else 0)
            (ap (λ u. taken T w0 m k h (row (vpe_fresh d s) u)) (sym same)
            ∙ ap (taken T w0 m k h) at) (cond-true (d.vpe == w0) (h new_vpe) 0 (eq-eqb d.vpe w0 same))
        | inr other ↦ still (taken T w0 m k h (row (vpe_fresh d s) w0)) (taken T w0 m k h (row s w0)) (if d.vpe == w0 then h new_vpe else 0)
            (ap (taken T w0 m k h) (get_or-put_other no_vpe s.vpes d.vpe w0 new_vpe (λ same. other (sym same))))
      ]
        where
          fits : (a n b c : ℕ) → a ≡ n + 0 → c ≡ n → a ≤ b + c
          fits a n b c one two = omega (arith, one, two)

          still : (a b c : ℕ) → a ≡ b → a ≤ b + c
          still a b c same = omega (arith, same)

  root-same : (d : VpeDecl) → (r : Root) → (d.vpe ≡ w0 → (x : VpeRow) → h (root_held d r x) ≤ h x) → (s : Side) → heavy (root_added d r s) ≤ heavy s
  root-same d r free s =
      let t : Side = cap_added (fresh (next_root d r (row s d.vpe)) None r.sel r.object) s in
      let x = row-le T w0 m k h C t d.vpe (root_held d r (row s d.vpe)) 0 0 refl refl
      (λ here. adds (h (root_held d r (row s d.vpe))) (h (row s d.vpe)) (sum_by (of_ask T w0 m k h) (row s d.vpe).asks) (free here (row s d.vpe))) in
      drops (heavy (root_added d r s)) (if d.vpe == w0 then 0 else 0) (heavy s) x
    where
      adds : (a b c : ℕ) → a ≤ b → (a + c) + 0 ≤ (b + c) + 0
      adds a b c one = omega (arith, one)

      drops : (a z b : ℕ) → a + z ≤ b + z → a ≤ b
      drops a z b one = omega (arith, one)

  roots-same : (d : VpeDecl) (rs : List Root) → ((r : Root) → Contains rs r → d.vpe ≡ w0 → (x : VpeRow) → h (root_held d r x) ≤ h x) → (s : Side)
      → heavy (in_turn (root_added d) rs s) ≤ heavy s
  unfolding in_turn
  roots-same d [] free s = omega arith
  roots-same d (r ∷ rs) free s = both (heavy (in_turn (root_added d) rs (root_added d r s))) (heavy (root_added d r s)) (heavy s)
      (roots-same d rs (λ q among. free q (Contains-tail r rs q among)) (root_added d r s)) (root-same d r (free r (Contains-head r rs)) s)
    where
      both : (a b c : ℕ) → a ≤ b → b ≤ c → a ≤ c
      both a b c one two = omega (arith, one, two)

  vpes-more : (ds : List VpeDecl) → ((d : VpeDecl) → Contains ds d → RootsFree d) → (s : Side) → heavy (in_turn vpe_added ds s) ≤ heavy s + sum_by brings ds
  unfolding in_turn
  vpes-more [] free s = omega arith
  vpes-more (d ∷ ds) free s =
      fits (heavy (in_turn vpe_added ds (vpe_added d s))) (heavy (vpe_added d s)) (heavy (vpe_fresh d s)) (heavy s) (sum_by brings ds) (brings d)
      (sum_by brings (d ∷ ds))
      (vpes-more ds (λ e among. free e (Contains-tail d ds e among)) (vpe_added d s))
      (roots-same d d.roots (λ r among here. free d (Contains-head d ds) here r among) (vpe_fresh d s))
      (fresh-more d s) (sum_by-cons brings d ds)
    where
      fits : (a b c e x y z : ℕ) → a ≤ b + x → b ≤ c → c ≤ e + y → z ≡ y + x → a ≤ e + z
      fits a b c e x y z one two three four = omega (arith, one, two, three, four)

  -- a side with no VPE takes nothing
  empty-none : heavy (empty_side T) ≡ 0
  empty-none = sums (of_rows T w0 m k h (empty_side T)) (taken T w0 m k h (row (empty_side T) w0)) (sum_by (of_messages T w0 m k h) (replicate T.kernels []))
      (all-none VPES) (ap (taken T w0 m k h) (none-at VPES w0) ∙ nobody) (weigh-replicate tolds' T.kernels [] refl)
    where
      tolds' : List Message → ℕ
      tolds' = of_messages T w0 m k h

      none-at : (n v : ℕ) → get_or (replicate n no_vpe) v no_vpe ≡ no_vpe
      none-at zero v = refl
      none-at (suc n) zero = refl
      none-at (suc n) (suc v) = none-at n v

      nobody : taken T w0 m k h no_vpe ≡ 0
      nobody = plus (h no_vpe) C.empty
        where
          plus : (a : ℕ) → a ≡ 0 → a + 0 ≡ 0
          plus a is = omega (arith, is)

      all-none : (n : ℕ) → sum_to n (λ v. of_row T w0 m k h v (row (empty_side T) v)) ≡ 0
      all-none zero = refl
      all-none (suc n) = zeros (sum_to n (λ v. of_row T w0 m k h v (row (empty_side T) v))) (of_row T w0 m k h n (row (empty_side T) n)) (all-none n)
          (ap (of_row T w0 m k h n) (none-at VPES n))
        where
          zeros : (a b : ℕ) → a ≡ 0 → b ≡ 0 → a + b ≡ 0
          zeros a b one two = omega (arith, one, two)

      sums : (a b c : ℕ) → a ≡ 0 → b ≡ 0 → c ≡ 0 → a + (b + (c + 0)) ≡ 0
      sums a b c one two three = omega (arith, one, two, three)

  side-first : ((d : VpeDecl) → Contains T.vpes d → RootsFree d) → (i : ℕ) → heavy (start_side T i) ≤ sum_by brings (own_vpes T i)
  unfolding start_side
  side-first free i = fits (heavy (in_turn vpe_added (own_vpes T i) (empty_side T))) (heavy (empty_side T)) (sum_by brings (own_vpes T i))
      (vpes-more (own_vpes T i) (λ d among. free d (Contains-from_filter (λ (x : VpeDecl). pe_owner T x.pe == i) T.vpes d among).0) (empty_side T)) empty-none
    where
      fits : (a b c : ℕ) → a ≤ b + c → b ≡ 0 → a ≤ c
      fits a b c one two = omega (arith, one, two)

  -- all that is claimed at the start
  pub start-claimed : ((d : VpeDecl) → Contains T.vpes d → RootsFree d) → claimed T w0 m k h C (start T) ≤ sum_by brings T.vpes
  unfolding start
  start-claimed free =
      let kernels : List ℕ = range_with_len 0 T.kernels in
      let sides : ℕ = sum_by heavy (map (start_side T) kernels) in
      fits sides (sum_by (λ i. heavy (start_side T i)) kernels) (sum_by (λ i. sum_by brings (own_vpes T i)) kernels) (sum_by brings T.vpes)
      (sum_by (λ ls. sum_by (of_messages T w0 m k h) ls) (replicate T.kernels (replicate T.kernels [])))
      (sum-of_map heavy (start_side T) kernels)
      (sum-le-among (λ i. heavy (start_side T i)) (λ i. sum_by brings (own_vpes T i)) kernels (λ i among. side-first free i))
      (owned-once (λ (d : VpeDecl). pe_owner T d.pe) brings T.kernels T.vpes)
      (weigh-replicate (λ (ls : List (List Message)). sum_by (of_messages T w0 m k h) ls) T.kernels (replicate T.kernels [])
      (weigh-replicate (of_messages T w0 m k h) T.kernels [] refl))
    where
      fits : (a b c d e : ℕ) → a ≡ b → b ≤ c → c ≤ d → e ≡ 0 → a + e ≤ d
      fits a b c d e one two three four = omega (arith, one, two, three, four)
